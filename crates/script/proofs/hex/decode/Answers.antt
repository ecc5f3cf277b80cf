-- `script::hex::decode` meets its contract. The loop's invariant: the octets of the pairs passed are stored, and the others are left.
use Rattle.std.proofs.Common.{◌∙◌, arith, rules}
use Rattle.script.proofs.Decoding.{read_none, read_more, read_bad, read_all}
use Rattle.script.proofs.hex.decode.Goals as goal

pub loop-i-init : goal.loop-i-init
loop-i-init c = read_none _ _ _

pub returns-in_err-room-clause-value : goal.returns-in_err-room-clause-value
returns-in_err-room-clause-value c =
    let b = read_bad c.args.n c.args.word.now c.args.room.now c.loop-i.room c.loop-i.i c.loop-i.invariant (omega arith) (search rules) (omega arith) in
    (c.from_residual.ensures ∙ b.0, b.1)

pub loop-i-preserved : goal.loop-i-preserved
loop-i-preserved c = read_more c.args.n c.args.word.now c.args.room.now c.loop-i.room c.loop-i.i c.loop-i.invariant (omega arith) _ (search rules)

pub returns-clause-value : goal.returns-clause-value
returns-clause-value c = read_all c.args.n c.args.word.now c.args.room.now c.loop-i.room c.loop-i.i c.loop-i.invariant (omega arith) (omega arith)
