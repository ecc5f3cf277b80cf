-- What the elements of a message say, by the readers' own rules (document 01, "Octets").
--   value_in                               of any identifier
--   cause_of, state_of, pair_of, restart_of   08 Cause, 14 Call state, 5A Connection identifier, 79 Restart indicator
-- Assumes nothing.
use Rattle.std.specs.Prelude.{ℕ, ◌&&◌, cond, List, [], ◌∷◌, eqb}
use Rattle.contents.specs.Contents.{cause_number, call_state_value, connection_in as pair_in, restart_class}
use Rattle.contents.specs.Fits.{fits}
use Rattle.elements.specs.declared.Read.{Read}
use Rattle.elements.specs.declared.Read.TheVariants as elem
use Rattle.identifier.specs.declared.Pair.{Pair}
use Rattle.elements.specs.Elements.{action_fits}
use Rattle.replies.specs.Message.{Element}

-- "Only the first of an identifier counts": one value where there is none, one where it is unreadable, and one made of its readable contents
abbrev pub value_in : {A : Type 0} → ℕ → A → A → (List ℕ → A) → List Element → A
value_in id absent unread value [] = absent
value_in id absent unread value (e ∷ es) =
    cond (eqb e.ident id)
    (cond (action_fits id e.action && fits id e.contents) (value e.contents) unread)
    (value_in id absent unread value es)

abbrev pub cause_of : List Element → Read ℕ
cause_of es = value_in 0x08 elem.Absent elem.Unreadable (λ c. elem.Readable (cause_number c)) es

abbrev pub state_of : List Element → Read ℕ
state_of es = value_in 0x14 elem.Absent elem.Unreadable (λ c. elem.Readable (call_state_value c)) es

abbrev pub pair_of : List Element → Read Pair
pair_of es = value_in 0x5A elem.Absent elem.Unreadable (λ c. elem.Readable (pair_in c)) es

abbrev pub restart_of : List Element → Read ℕ
restart_of es = value_in 0x79 elem.Absent elem.Unreadable (λ c. elem.Readable (restart_class c)) es
