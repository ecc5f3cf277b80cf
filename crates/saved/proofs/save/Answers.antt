-- `saved::save` meets its contract: the form is written, its length compared, and then it is copied. Assumes nothing.
use native.Mathlib.Omega.{arith}
use mathlib.Core.Path.{◌≡◌, refl}
use lib.ListN.{length}
use borrow.Author.Tests.{le-ltb}
use Rattle.octets.specs.Octets.{Wrote}
use Rattle.octets.proofs.Stores.{chained}
use Rattle.saved.specs.Form.{form_of}
use Rattle.fields.proofs.Filed.{kept}
use Rattle.saved.proofs.save.Goals as goal

pub returns : goal.returns
returns c = let e : length (form_of c.args.table) ≡ c.put_form-size.result = omega (arith, c.put_form-size.ensures.wrote.past) in
    let w : Wrote _ 0 (form_of c.args.table) _ _ = rw (kept c.put_form-size.ensures.wrote (omega arith)) at c.put.ensures.stored in
    rw (e, le-ltb _ _ c.if-room-size.false) (refl, (chained w (omega arith)).1)
