-- `explain::put_request` meets its contract: its parts one behind the other. Assumes nothing.
use Rattle.octets.proofs.Stores.{chain}
use Rattle.explain.proofs.put_request.Goals as goal

pub returns-in-Clear-clause-wrote : goal.returns-in-Clear-clause-wrote
returns-in-Clear-clause-wrote c = rw c.in-Clear.is (chain c.put_labelled-next.ensures.wrote c.put_wide_cause.ensures.wrote)

pub returns-in-RestartOne-clause-wrote : goal.returns-in-RestartOne-clause-wrote
returns-in-RestartOne-clause-wrote c = rw c.in-RestartOne.is (chain c.put_labelled-half.ensures.wrote c.put_labelled-in-RestartOne.ensures.wrote)

pub returns-in-PutBack-clause-wrote : goal.returns-in-PutBack-clause-wrote
returns-in-PutBack-clause-wrote c = rw c.in-PutBack.is c.put-in-PutBack.ensures.stored
