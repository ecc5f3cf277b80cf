-- `script::hex::decode` meets its contract. The loop's invariant: the octets of the pairs passed are stored, and the others are left.
-- Assumes nothing.
use Rattle.script.proofs.Decoding.{Read}
use Rattle.script.proofs.hex.decode.Given as goal

abbrev pub invariant-loop-i : goal.invariant-loop-i
invariant-loop-i l = Read l.n l.word l.initial.room l.room l.i
