-- The passes over slots, permanent pairs, the pair of our RESTART, pairs in doubt and pairs out of service, together.
--   together        what they count, and which pairs they mark
--   there_most      how many pairs a place has at most
--   listed_few      there is room for the pairs of a list
-- Over lists of any length. Assumes nothing.
use Rattle.std.specs.Prelude.{Option, Some, None}
use Prim.Native.Nat.{◌+◌, ◌≤◌}
use mathlib.Core.Path.{◌≡◌, refl}
use mathlib.Core.Bool.{Bool, true, false, ◌||◌}
use mathlib.Core.List.{List}
use native.Mathlib.Omega.{arith}
use lib.ListN.{length}
use Rattle.std.specs.List.{list_any}
use Rattle.identifier.specs.Pair.{is_pair}
use Rattle.channels.specs.Channels.{among}
use Rattle.identifier.specs.declared.Pair.{Pair}
use Rattle.channels.specs.declared.Range.{Range}
use Rattle.pairs.specs.Pairs.{room, listed, is_number}
use Rattle.pairs.specs.declared.Pairs.{Pairs}
use Rattle.pairs.proofs.Places.{span-size}
use Rattle.calls.specs.Calls.{is_live, holds_pair}
use Rattle.calls.specs.declared.Slot.{Slot}
use Rattle.service.specs.Service.{one_pair}
use Rattle.service.specs.declared.GlobalState.{GlobalState}
use Rattle.service.specs.declared.OutOfService.{OutOfService}
use Rattle.search.specs.Search.{taken_singly, how_many, has_pair, there, pairs_there}
use Rattle.search.specs.Marks.{Read}
use Rattle.search.specs.declared.Marks.{Marks}
use Rattle.search.proofs.Marked.{read_same}

in_order : (a b c d e : Bool) → ((((a || e) || d) || b) || c) ≡ (a || (b || (c || (d || e))))
in_order true b c d e = refl
in_order false true c d true = refl
in_order false true c true false = refl
in_order false true c false false = refl
in_order false false true d true = refl
in_order false false true true false = refl
in_order false false true false false = refl
in_order false false false true true = refl
in_order false false false true false = refl
in_order false false false false true = refl
in_order false false false false false = refl

module _ (ss : List Slot) (ds : Pairs) (out : OutOfService) (g : GlobalState) (es : List (Option Pair)) (rs : List Range) where
  pub together : length ds.numbers ≡ room → length out.pairs.numbers ≡ room → {old new : Marks}
      → Read rs (λ p v. (((list_any (holds_pair p v) ss || among p v es) || is_pair p v (one_pair g)) || list_any (is_number p v) (listed ds)) || list_any (is_number p v) (listed out.pairs))
      ((((how_many is_live ss + how_many has_pair es) + there (one_pair g)) + length (listed ds)) + length (listed out.pairs)) old new
      → Read rs (taken_singly ss ds out g es) (pairs_there ss ds out g es) old new
  together d o r =
      let first = (span-size ds d).long in
      let second = (span-size out.pairs o).long in
      read_same rs
      (λ p v. in_order (list_any (holds_pair p v) ss) (list_any (is_number p v) (listed ds)) (list_any (is_number p v) (listed out.pairs)) (is_pair p v (one_pair g)) (among p v es))
      (omega arith) r

pub there_most : (c : Option Pair) → there c ≤ 1
there_most None = omega arith
there_most (Some pv) = omega arith

pub listed_few : (ps : Pairs) → length ps.numbers ≡ room → length (listed ps) ≤ room
listed_few ps h = let s = span-size ps h in let long = s.long in let most = s.most in omega arith
