-- `explain::put_timer` meets its contract: each text by the variant that led to it. Assumes nothing.
use Rattle.explain.proofs.put_timer.Goals as goal

pub returns-in-N6-clause-wrote : goal.returns-in-N6-clause-wrote
returns-in-N6-clause-wrote c = rw c.in-N6.is c.put_labelled.ensures.wrote

pub returns-in-N9-clause-wrote : goal.returns-in-N9-clause-wrote
returns-in-N9-clause-wrote c = rw c.in-N9.is c.put_labelled-in-N9.ensures.wrote

pub returns-in-N12-clause-wrote : goal.returns-in-N12-clause-wrote
returns-in-N12-clause-wrote c = rw c.in-N12.is c.put_labelled-in-N12.ensures.wrote
