-- `display::put_words` meets its contract: each text by what the extent is. Assumes nothing.
use Rattle.std.proofs.Common.{eq-eqb, ne_eqb, arith}
use Rattle.display.proofs.put_words.Goals as goal

pub returns-in-Message-clause-wrote : goal.returns-in-Message-clause-wrote
returns-in-Message-clause-wrote c = rw (c.in-Message.is, eq-eqb c.in-Message.n 0 (omega arith)) c.put.ensures.stored

pub returns-in-Message-2-clause-wrote : goal.returns-in-Message-2-clause-wrote
returns-in-Message-2-clause-wrote c = rw (c.in-Message.is, ne_eqb c.in-Message.n 0 (omega arith)) c.put-in-Message-2.ensures.stored
