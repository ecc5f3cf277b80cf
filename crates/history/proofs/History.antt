-- How each pair stands, told from the history since a start or a reload.
--   told_from         a list of events on a sound table
--   only_permitted    what holds a pair, or is in doubt, is permitted
--   history
-- Assumes nothing.
use Rattle.std.specs.Prelude.{Option, Some, None}
use Prim.Native.Nat.{ℕ}
use mathlib.Core.Path.{◌≡◌, refl, ap, ◌∙◌}
use mathlib.Core.Logic.{⊎_elim}
use mathlib.Core.Bool.{true, false, and-false}
use mathlib.Core.List.{List, [], ◌∷◌}
use Rattle.channels.specs.Channels.{permitted}
use Rattle.channels.specs.declared.Pool.{Pool}
use Rattle.channels.proofs.Cases.{by_test, clash}
use Rattle.pairs.specs.Pairs.{in_pairs}
use Rattle.service.specs.Service.{is_out}
use Rattle.calls.specs.Calls.{holds_pair}
use Rattle.first.specs.First.{place}
use Rattle.table.specs.declared.Table.{Table}
use Rattle.control.specs.Happens.{Event, happens, after}
use Rattle.views.specs.Tables.{Holds, InDoubt, IsOut}
use Rattle.safety.specs.Sound.{Sound}
use Rattle.safety.proofs.Tables.{doubt_not_free, out_not_free}
use Rattle.safety.proofs.Gone.{held_until_gone}
use Rattle.safety.proofs.Sound.{left, event_keeps_sound, begun_sound, reached_sound}
use Rattle.safety.proofs.Slips.{pool_stays}
use Rattle.history.specs.History.{Way, free, standing, way_in, next_way, way_after, without_restart, History}
use Rattle.history.proofs.Standing.{way_none, one_call}
use Rattle.history.proofs.Expiry.{expires}
use Rattle.history.proofs.Restarting.{restarting}
use Rattle.history.proofs.Steps.{step}

told_from : (t : Table) → Sound t → (es : List Event) (p v : ℕ) → permitted t.pool p v ≡ true → (w : Way) → way_in t p v ≡ w
    → way_in (after t es) p v ≡ way_after t es p v w
told_from t s [] p v ok w now = now
told_from t s (e ∷ es) p v ok w now =
    told_from (left t e) (event_keeps_sound t e s) es p v (ap (λ (pool : Pool). permitted pool p v) (pool_stays t e) ∙ ok)
    (next_way t e (happens t e) p v w)
    (step t e s p v ok ∙ ap (λ (x : Way). next_way t e (happens t e) p v x) now)

only_permitted : (t : Table) → Sound t → (p v : ℕ) → permitted t.pool p v ≡ false → way_in t p v ≡ free
only_permitted t s p v not-ok =
    let none : Holds t p v → ⊥ = λ h.
    clash (s.calls_sound h.slot h.call h.state h.live).pair_permitted (rw (h.pair.vpci, h.pair.vci) not-ok) in
    let sure : in_pairs t.doubts p v ≡ false = by_test (in_pairs t.doubts p v) (λ y. clash (s.doubt_permitted p v y) not-ok) (λ n. n) in
    way_none t p v none ∙ rw (sure, not-ok, and-false (is_out t.out p v))

as_if_none : (t : Table) (p v : ℕ) (f : Option ℕ) → standing t p v f ≡ standing (without_restart t) p v f
as_if_none t p v None = refl
as_if_none t p v (Some i) = refl

pub history : History
history = record {
  told = λ b accepted es p v ok. told_from _ (begun_sound b accepted) es p v ok _ refl;
  until_gone = λ t r e. held_until_gone t e (reached_sound t r).has_slots;
  its_call = λ t u r z. one_call t u (reached_sound t r) (reached_sound u z);
  not_given = λ t p v bar given. ⊎_elim (λ (d : InDoubt t p v). doubt_not_free t p v d given) (λ (o : IsOut t p v). out_not_free t p v o given) bar;
  expiry = λ t r. expires t (reached_sound t r);
  restarting = λ t r. restarting t (reached_sound t r);
  fresh = λ ranges pairs p v. refl;
  never_two = λ t r p v held doubt. (reached_sound t r).doubt_not_held p v doubt held;
  out_not_held = λ t r. (reached_sound t r).out_not_held;
  out_not_doubtful = λ t r. (reached_sound t r).out_not_doubtful;
  as_if_none = λ t p v. as_if_none t p v (place (holds_pair p v) t.slots.all);
  only_permitted = λ t r. only_permitted t (reached_sound t r);
}
