-- What an offer's body must be (document 01, "An offer body ..").
--   counted        an element is there so many times
--   offer_fits      the whole rule, the length apart
-- Assumes nothing.
use Rattle.std.specs.Prelude.{ℕ, Bool, ◌&&◌, List, eqb, is_ok}
use Rattle.items.specs.Items.{items, count_of, whole_from}
use Rattle.setup.specs.Setup.{admission}

abbrev pub counted : List ℕ → ℕ → ℕ → Bool
counted b id n = eqb (count_of id (items b 0)) n

-- "An offer body is a whole number of elements, none overrunning, with 59, 5C, 5E, 70 once each and readable, no 5A,
-- point-to-point, and passing the traffic rule below."
-- (readable, point-to-point and passing the traffic rule: what SETUP admits)
abbrev pub offer_fits : List ℕ → Bool
offer_fits b =
    whole_from b 0
    && (counted b 0x59 1 && (counted b 0x5C 1 && (counted b 0x5E 1 && (counted b 0x70 1 && (counted b 0x5A 0 && is_ok (admission b 0))))))
