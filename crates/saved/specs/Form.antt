-- The saved form of a table (docs/FORMATS.md, "Saved tables"): document 02, R-1.
--   longest        how many octets the longest form has
--   joined         the octets of each element of a list, one behind the other
--   out_octets      the pairs out of service
--   call_fields     one field for each live call, in slot order
--   form_of         the form of a table
-- Lists are of any length. Assumes nothing.
use Rattle.std.specs.Prelude.{ℕ, ◌+◌, cond, List, [], ◌∷◌, ◌++◌}
use Rattle.pairs.specs.Pairs.{listed}
use Rattle.service.specs.declared.OutOfService.{OutOfService}
use Rattle.calls.specs.declared.Slot.{Slot}
use Rattle.table.specs.declared.Table.{Table}
use Rattle.fields.specs.Fields.{four, eight, field, range_octets, channel_octets, hold_field, request_octets}

-- four ranges, eight permanent pairs, 64 pairs in doubt, 64 out of service, the RESTART of one pair, 32 calls in N12
abbrev pub longest : ℕ
longest = 1312

abbrev pub joined : {A : Type 0} → (A → List ℕ) → List A → List ℕ
joined f [] = []
joined f (x ∷ xs) = f x ++ joined f xs

-- "one for each live call in slot order"
abbrev pub call_fields : ℕ → List Slot → List ℕ
call_fields slot [] = []
call_fields slot (s ∷ ss) = hold_field slot s.hold ++ call_fields (slot + 1) ss

-- ""All" is one mark; single pairs number at most 64": one octet for "all", then the single pairs
abbrev pub out_octets : OutOfService → List ℕ
out_octets o = cond o.all 1 0 ∷ joined four (listed o.pairs)

-- "one field for the ranges, one for permanent pairs, one for the last reading, one for each live call in slot order"; document 02,
-- R-2: "Saved forms gain one field, pairs ascending"; R-4: "Saved forms gain these fields"
abbrev pub form_of : Table → List ℕ
form_of t =
    field 1 (joined range_octets t.pool.ranges)
    ++ (field 2 (joined channel_octets t.pool.permanents)
    ++ (field 3 (eight t.last)
    ++ (field 5 (joined four (listed t.doubts))
    ++ (field 6 (out_octets t.out) ++ (field 7 (request_octets t.global.state) ++ call_fields 0 t.slots.all)))))
