-- `saved::put_form` meets its contract: the fields one behind the other. Assumes nothing.
use native.Mathlib.Omega.{arith}
use Rattle.octets.proofs.Stores.{chain}
use Rattle.saved.proofs.put_form.Goals as goal

pub returns : goal.returns
returns c = let w =
    chain c.put_range_field-second.ensures.wrote
    (chain c.put_permanent_field-third.ensures.wrote
    (chain c.put_reading_field-fourth.ensures
    (chain c.put_doubt_field-fifth.ensures.wrote
    (chain c.put_out_field-sixth.ensures.wrote (chain c.put_request_field-seventh.ensures.wrote c.put_calls.ensures.wrote))))) in
    record { wrote = w; short = (w.past, omega arith) }
