-- What a user's RESTART does, and an acknowledge of ours.
--   permitted-known       a permitted pair has a known VPCI, and is not permanent
--   goes_on, goes_through it goes on to its elements; no STATUS answers a permitted pair
--   acts                  one that names a permitted pair, or all, is acted on
--   acknowledged          so is an acknowledge of our RESTART
--   named_free            what was named is free, but for what is out of service
--   restarting            of every sound table
-- Assumes nothing.
use Rattle.std.specs.Prelude.{Option, Some, None}
use Prim.Native.Nat.{ℕ}
use mathlib.Core.Path.{◌≡◌, refl, ap, ◌∙◌}
use mathlib.Core.Bool.{true, false, not, ◌&&◌, or-true}
use mathlib.Core.List.{List, [], ◌∷◌}
use native.Mathlib.Omega.{arith}
use lib.Dec.{eqb, leb}
use borrow.Author.Tests.{eqb-true, eq-eqb, leb-true, le-leb, le-ltb, not-true}
use Rattle.identifier.specs.Pair.{pair}
use Rattle.channels.specs.Channels.{permitted, permanent, in_range, in_ranges, spans_vpci, spanned_vpci, known_vpci}
use Rattle.channels.specs.declared.Named.{Named}
use Rattle.channels.specs.declared.Named.TheVariants as named
use Rattle.channels.specs.declared.Range.{Range}
use Rattle.channels.specs.declared.Pool.{Pool}
use Rattle.channels.proofs.Cases.{by_test, clash, both}
use Rattle.pairs.specs.Pairs as by_us
use Rattle.pairs.proofs.Laws.{unless_in}
use Rattle.header.specs.declared.Header.{Header}
use Rattle.header.specs.Header.{head_of}
use Rattle.elements.specs.declared.Read.{Read}
use Rattle.identifier.specs.declared.Pair.{Pair}
use Rattle.elements.specs.declared.Read.TheVariants as elem
use Rattle.elements.specs.Values.{connection_in, restart_in, pair_read}
use Rattle.replies.specs.declared.Reply.TheVariants as reply
use Rattle.service.specs.declared.GlobalState.{GlobalState}
use Rattle.service.specs.declared.GlobalState.TheVariants.{Null, RestartRequest}
use Rattle.service.specs.declared.OutOfService.{OutOfService}
use Rattle.service.specs.Service.{global_number}
use Rattle.effects.specs.declared.Change.TheVariants.{Restart}
use Rattle.effects.specs.declared.Ending.{Ending}
use Rattle.effects.specs.declared.Ending.TheVariants.{User, Acknowledged}
use Rattle.effects.specs.declared.Effect.{Effect}
use Rattle.effects.specs.Change.{out_ended}
use Rattle.restarts.specs.User.{restarting as restart_by, pair_restart, restart_effect}
use Rattle.restarts.specs.Own.{is_same}
use Rattle.table.specs.declared.Table.{Table}
use Rattle.table.specs.Effects.{global_effect, table_after}
use Rattle.outcome.specs.Outcome.{accepted_as}
use Rattle.control.specs.Events.{heard_by}
use Rattle.control.specs.Happens.{Event, message, tick, connect, clear, offer, restart, put_marks_back, happens}
use Rattle.views.specs.Effects.{effect_of}
use Rattle.safety.specs.Sound.{Sound}
use Rattle.safety.proofs.Marks.{named-gone}
use Rattle.history.specs.History.{way_in, restart_head, is_restart, names_pair, names, restarts, acknowledge_head, is_acknowledge, answers, acknowledges, unmarked, Restarts, Restarting}
use Rattle.safety.proofs.Accepted.{accepted_effect}
use Rattle.history.proofs.Standing.{way_none}

-- a range with the pair has its VPCI
range_spans : (p v : ℕ) (r : Range) → in_range p v r ≡ true → spans_vpci p r ≡ true
range_spans p v r e =
    let a = both (eqb r.vpci p) _ e in
    let b = both (leb r.first v) (leb v r.last) a.1 in
    let low = leb-true r.first v b.0 in
    let high = leb-true v r.last b.1 in
    rw a.0 (le-leb r.first r.last (omega (arith, low, high)))

ranges-span : (p v : ℕ) (rs : List Range) → in_ranges p v rs ≡ true → spanned_vpci p rs ≡ true
ranges-span p v [] e = e
ranges-span p v (r ∷ rs) e =
    by_test (in_range p v r)
    (λ y. rw (range_spans p v r y))
    (λ n. rw (ranges-span p v rs (rw n at e)) (or-true (spans_vpci p r)))

permitted-known : (pool : Pool) (p v : ℕ) → permitted pool p v ≡ true → (known_vpci pool p ≡ true) × (permanent pool p v ≡ false)
permitted-known pool p v ok =
    let a = both (in_ranges p v pool.ranges) (not (permanent pool p v)) ok in
    (rw (ranges-span p v pool.ranges a.0), not-true (permanent pool p v) a.1)

-- What is decided.

-- its header lets it go on to its elements
goes_on : (t : Table) (reading : ℕ) (m : List ℕ) (x : Option Header) → restart_head x ≡ true
    → heard_by t reading m x ≡ restart_effect (global_number t.global.state) t.pool (restart_in m 9) (connection_in m 9)
goes_on t reading m None e = clash e refl
goes_on t reading m (Some h) e =
    let a = both (eqb h.kind 0x46 && not h.flag) (eqb h.reference 0 && h.whole) e in
    let b = both (eqb h.reference 0) h.whole a.1 in
    rw (b.0, a.0, b.1)

-- no STATUS answers a permitted pair
goes_through : (t : Table) → Sound t → (p v : ℕ) → permitted t.pool p v ≡ true
    → pair_restart (global_number t.global.state) t.pool (pair_read p v) ≡ restart_by (named.One (pair p v)) (reply.RestartAcknowledge (pair p v))
goes_through t s p v ok =
    let known = permitted-known t.pool p v ok in
    let numbers = s.numbers p v ok in
    rw (known.0, known.1, le-ltb v 32 numbers.1)

-- an effect restarts what has the pair; our RESTART, if it is one of ours, is acknowledged
pub record ActsOn (p v : ℕ) (x : Effect) : Type 0 where
  pub which : Named
  pub why : Ending
  pub change : x.change ≡ Restart which why
  pub unmarked : (o : OutOfService) → out_ended why which o ≡ o
  pub pair_named : by_us.names which p v ≡ true

module _ (t : Table) (s : Sound t) (p v : ℕ) (ok : permitted t.pool p v ≡ true) where
  pair_acts : (c : Read Pair) → names_pair c p v ≡ true → ActsOn p v (pair_restart (global_number t.global.state) t.pool c)
  pair_acts elem.Absent e = clash e refl
  pair_acts elem.Unreadable e = clash e refl
  pair_acts (elem.Readable q) e =
      let b = both (eqb q.vpci p) (eqb q.vci v) e in
      record {
        which = named.One q;
        why = User;
        change = rw (eqb-true q.vpci p b.0, eqb-true q.vci v b.1) (ap (λ (x : Effect). x.change) (goes_through t s p v ok));
        unmarked = λ o. refl;
        pair_named = e;
      }

  named_acts : (r : Read ℕ) (c : Read Pair) → names r c p v ≡ true → ActsOn p v (restart_effect (global_number t.global.state) t.pool r c)
  named_acts elem.Absent c e = clash e refl
  named_acts elem.Unreadable c e = clash e refl
  named_acts (elem.Readable k) c e =
      by_test (eqb k 0x82)
      (λ y. record { which = named.All; why = User; change = rw y; unmarked = λ o. refl; pair_named = refl })
      (λ n. rw n (pair_acts c (rw n at e)))

  pub acts : (e : Event) → restarts e p v ≡ true → ActsOn p v (effect_of t e)
  acts (message label reading room m) e =
      let b = both (is_restart m) _ e in
      rw (goes_on t reading m (head_of m) b.0) (named_acts (restart_in m 9) (connection_in m 9) b.1)
  acts (tick label reading room) e = clash e refl
  acts (connect label reading room slot) e = clash e refl
  acts (clear label reading room slot cause) e = clash e refl
  acts (offer label reading room body) e = clash e refl
  acts (restart label reading room target) e = clash e refl
  acts (put_marks_back label reading room) e = clash e refl

-- an acknowledge of our RESTART
answered : (t : Table) (m : List ℕ) (h : Header) (p v : ℕ) (g : GlobalState) → t.global.state ≡ g → acknowledge_head (Some h) ≡ true
    → answers g (restart_in m 9) (connection_in m 9) p v ≡ true → ActsOn p v (global_effect t m h)
answered t m h p v Null g right e = clash e refl
answered t m h p v (RestartRequest which second d) g right e =
    let a = both (eqb h.kind 0x4E && h.flag) (eqb h.reference 0 && h.whole) right in
    let b = both (eqb h.kind 0x4E) h.flag a.0 in
    let c = both (eqb h.reference 0) h.whole a.1 in
    let same = both (is_same which (restart_in m 9) (connection_in m 9)) (by_us.names which p v) e in
    record {
      which = which;
      why = Acknowledged;
      change = rw (eqb-true h.kind 0x4E b.0, b.1, g, c.1, same.0);
      unmarked = λ o. refl;
      pair_named = same.1;
    }

head_answered : (t : Table) (reading : ℕ) (m : List ℕ) (p v : ℕ) (x : Option Header) → acknowledge_head x ≡ true
    → answers t.global.state (restart_in m 9) (connection_in m 9) p v ≡ true → ActsOn p v (heard_by t reading m x)
head_answered t reading m p v None right e = clash right refl
head_answered t reading m p v (Some h) right e =
    let a = both (eqb h.kind 0x4E && h.flag) (eqb h.reference 0 && h.whole) right in
    rw (both (eqb h.reference 0) h.whole a.1).0 (answered t m h p v t.global.state refl right e)

pub acknowledged : (t : Table) (e : Event) (p v : ℕ) → acknowledges t e p v ≡ true → ActsOn p v (effect_of t e)
acknowledged t (message label reading room m) p v e =
    let b = both (is_acknowledge m) (answers t.global.state (restart_in m 9) (connection_in m 9) p v) e in
    head_answered t reading m p v (head_of m) b.0 b.1
acknowledged t (tick label reading room) p v e = clash e refl
acknowledged t (connect label reading room slot) p v e = clash e refl
acknowledged t (clear label reading room slot cause) p v e = clash e refl
acknowledged t (offer label reading room body) p v e = clash e refl
acknowledged t (restart label reading room target) p v e = clash e refl
acknowledged t (put_marks_back label reading room) p v e = clash e refl

-- What it does.

pub named_free : (t : Table) (reading : ℕ) (n : Named) (p v : ℕ) → by_us.names n p v ≡ true → way_in (table_after t reading (Restart n User)) p v ≡ unmarked t p v
named_free t reading n p v e =
    way_none (table_after t reading (Restart n User)) p v (named-gone t reading n User p v e) ∙ rw (unless_in t.doubts n p v, e)

as_restart : (t : Table) (label reading room : ℕ) (m : List ℕ) → Restarts t label reading room m → (x : Effect)
    → restart_effect (global_number t.global.state) t.pool (restart_in m 9) (connection_in m 9) ≡ x → happens t (message label reading room m) ≡ accepted_as t reading x
as_restart t label reading room m r x e =
    accepted_effect t (message label reading room m) r.accepted x (goes_on t reading m (head_of m) r.restart ∙ e)

pub restarting : (t : Table) → Sound t → Restarting t
restarting t s = record {
  ends_all = λ label reading room m r c.
      rw (as_restart t label reading room m r (restart_by named.All reply.RestartAcknowledgeAll) (rw c))
      (λ p v. named_free t reading named.All p v refl, refl);
  ends_named = λ label reading room m r c p v d ok.
      rw (as_restart t label reading room m r (restart_by (named.One (pair p v)) (reply.RestartAcknowledge (pair p v))) (rw (c, d) (goes_through t s p v ok)))
      (named_free t reading (named.One (pair p v)) p v (rw (eq-eqb p p refl, eq-eqb v v refl)), refl);
}
