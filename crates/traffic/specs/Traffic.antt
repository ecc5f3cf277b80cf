-- 59 Traffic descriptor: its subfields, when its contents are readable, and the traffic rule of cause 73.
--   span                            the octets of a subfield
--   subfield_at, subfields           the subfield at a place; those met from a place on
--   identifiers, uncut              what those met say
--   traffic_fits                     readable contents
--   has_subfield, traffic_allowed     the traffic rule
-- Assumes nothing.
use Rattle.std.specs.Prelude.{ℕ, ◌≡◌, ◌+◌, ◌-◌, Bool, true, false, ◌&&◌, not, cond, List, [], ◌∷◌, eqb, leb, ltb, length, get_or}
use Rattle.std.specs.List.{list_any}
use Rattle.traffic.specs.declared.Subfield.{Subfield}
use Rattle.traffic.specs.declared.Subfield.TheVariants.{End, Broken, Whole}
use Rattle.traffic.specs.Walk.{walk}

abbrev pub member : ℕ → List ℕ → Bool
member n = list_any (λ m. eqb n m)

-- whether one of these octets passes the test whose answers are given
abbrev pub IsAny : (ℕ → Bool → Type 0) → List ℕ → Bool → Type 0
IsAny gives ns r = (test : ℕ → Bool) → ((n : ℕ) (b : Bool) → gives n b → b ≡ test n) → r ≡ list_any test ns

-- "subfields 82 83 84 85 88 89 90 91 A0 A1 B0 B1 with 3 octets, BE with none, BF with 1"
abbrev pub rates : List ℕ
rates = 0x82 ∷ 0x83 ∷ 0x84 ∷ 0x85 ∷ 0x88 ∷ 0x89 ∷ 0x90 ∷ 0x91 ∷ 0xA0 ∷ 0xA1 ∷ 0xB0 ∷ 0xB1 ∷ []

-- the octets of a subfield, its identifier among them; 0 for an identifier that is not listed
abbrev pub span : ℕ → ℕ
span id = cond (member id rates) 4 (cond (eqb id 0xBE) 1 (cond (eqb id 0xBF) 2 0))

-- the subfield at a place, with the place behind it: none at the end, a broken one where the identifier is not listed or the octets are cut
abbrev pub subfield_at : List ℕ → ℕ → Subfield
subfield_at c at =
    cond (leb (length c) at)
    End
    (cond (eqb (span (get_or c at 0)) 0)
    Broken
    (cond (ltb (length c - at) (span (get_or c at 0))) Broken (Whole (get_or c at 0) (at + span (get_or c at 0)))))

-- the subfields from a place on, up to the end or the first broken one; each has at least one octet
abbrev pub and_then : Subfield → (ℕ → List Subfield) → List Subfield
and_then End rest = []
and_then Broken rest = Broken ∷ []
and_then (Whole id next) rest = Whole id next ∷ rest next

abbrev pub subfield_step : List ℕ → ℕ → (ℕ → List Subfield) → List Subfield
subfield_step c at rest = and_then (subfield_at c at) rest

abbrev pub subfields : List ℕ → ℕ → List Subfield
subfields c at = walk (subfield_step c) [] (length c) at

abbrev pub identifiers : List Subfield → List ℕ
identifiers [] = []
identifiers (End ∷ ss) = identifiers ss
identifiers (Broken ∷ ss) = identifiers ss
identifiers (Whole id next ∷ ss) = id ∷ identifiers ss

-- "each at most once, none cut"
abbrev pub distinct : List ℕ → Bool
distinct [] = true
distinct (n ∷ ns) = not (member n ns) && distinct ns

abbrev pub uncut : List Subfield → Bool
uncut [] = true
uncut (End ∷ ss) = uncut ss
uncut (Broken ∷ ss) = false
uncut (Whole id next ∷ ss) = uncut ss

abbrev pub fitting : List Subfield → Bool
fitting ss = uncut ss && distinct (identifiers ss)

abbrev pub traffic_fits : List ℕ → Bool
traffic_fits c = fitting (subfields c 0)

abbrev pub has_subfield : List ℕ → ℕ → Bool
has_subfield c id = member id (identifiers (subfields c 0))

-- "73 (84 or 85 absent, or BE with any but 84 85 BF)"
abbrev pub with_best_effort : List ℕ
with_best_effort = 0x84 ∷ 0x85 ∷ 0xBE ∷ 0xBF ∷ []

abbrev pub any_other : List ℕ → Bool
any_other = list_any (λ id. not (member id with_best_effort))

abbrev pub traffic_allowed : List ℕ → Bool
traffic_allowed c = has_subfield c 0x84 && has_subfield c 0x85 && not (has_subfield c 0xBE && any_other (identifiers (subfields c 0)))
