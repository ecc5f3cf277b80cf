-- The demands, the small table and the slips, proved by what the crates below prove.
--   demand_one, demand_two, demand_three, small_table, slips
-- Assumes nothing.
use Prim.Native.Nat.{◌≤◌, ◌<◌}
use mathlib.Core.Path.{◌≡◌, ◌∙◌}
use mathlib.Core.Logic.{◌≢◌}
use borrow.Author.Tests.{ne_eqb, eq-eqb, lt-ltb, le-ltb}
use Rattle.calls.specs.Timers.{largest_reading}
use Rattle.replies.specs.Reply.{reply_room}
use Rattle.table.specs.declared.Table.{Table}
use Rattle.control.specs.Happens.{Event}
use Rattle.independence.proofs.Independence.{calls_do_not_lean}
use Rattle.independence.proofs.Leaning.{setups_lean, setup_release_lean, one_reference_leans}
use Rattle.views.specs.Effects.{label_of, reading_of, room_of, refusal_of}
use Rattle.safety.specs.SmallTable.{SmallTable}
use Rattle.safety.proofs.SmallTable as small
use Rattle.safety.proofs.FixedAnswers.{fixed_answer, number}
use Rattle.safety.proofs.FixedStart.{fixed_start}
use Rattle.safety.proofs.Sound.{reached_sound, never_shared, always_permitted, always_in_limits}
use Rattle.safety.proofs.Flags.{flags_exact}
use Rattle.safety.proofs.NoPair.{sent_exactly, no_pair_exactly}
use Rattle.safety.proofs.Gone.{held_until_gone, release_frees_none}
use Rattle.safety.proofs.Slips.{not_handed_out, released_holds, one_side, setup_is_new, both_ones, duplicate_ignored, no_status_for_status, permanent_stays}
use Rattle.demands.specs.Demands.{RefusedByNumber, DemandOne, DemandTwo, DemandThree, SlipsShutOut}
use Rattle.demands.proofs.Sent.{every_reply_reads_back, every_reply_is_octets, every_reply_is_short}

module _ (t : Table) (e : Event) where
  label_number : reply_room ≤ room_of e → label_of e ≢ 1 → refusal_of t e ≡ 2
  label_number room label = rw (le-ltb (room_of e) reply_room room, ne_eqb (label_of e) 1 label)

  large_number : reply_room ≤ room_of e → label_of e ≡ 1 → largest_reading < reading_of e → refusal_of t e ≡ 3
  large_number room label above = rw (le-ltb (room_of e) reply_room room, eq-eqb (label_of e) 1 label, lt-ltb largest_reading (reading_of e) above)

  early_number : reply_room ≤ room_of e → label_of e ≡ 1 → reading_of e ≤ largest_reading → reading_of e < t.last → refusal_of t e ≡ 4
  early_number room label most early =
      rw (
        le-ltb (room_of e) reply_room room,
        eq-eqb (label_of e) 1 label,
        le-ltb largest_reading (reading_of e) most,
        lt-ltb (reading_of e) t.last early,
      )

  refused_by_number : RefusedByNumber t e
  refused_by_number = record {
    wrong_label = λ room label. number t e ∙ label_number room label;
    too_large = λ room label above. number t e ∙ large_number room label above;
    too_early = λ room label most early. number t e ∙ early_number room label most early;
  }

pub demand_one : DemandOne
demand_one = record {
  fixed_answer = λ t r e. fixed_answer t e (reached_sound t r).has_slots;
  fixed_start = fixed_start;
  refused_by_number = refused_by_number;
}

pub demand_two : DemandTwo
demand_two = record {
  sound = reached_sound;
  flags_exact = λ t r e. flags_exact t e (reached_sound t r).has_slots;
  reads_back = every_reply_reads_back;
  writes_octets = every_reply_is_octets;
  writes_few = every_reply_is_short;
  never_shared = never_shared;
  always_in_limits = always_in_limits;
  always_permitted = always_permitted;
  sent_exactly = sent_exactly;
  no_pair_exactly = no_pair_exactly;
}

pub demand_three : DemandThree
demand_three = record {
  calls_do_not_lean = calls_do_not_lean;
  setups_lean = setups_lean;
  setup_release_lean = setup_release_lean;
  one_reference_leans = one_reference_leans;
}

pub small_table : SmallTable
small_table = small.small_table

pub slips : SlipsShutOut
slips = record {
  held_until_gone = λ t r e. held_until_gone t e (reached_sound t r).has_slots;
  release_frees_none = λ t r e. release_frees_none t e (reached_sound t r).has_slots;
  not_handed_out = not_handed_out;
  released_holds = released_holds;
  one_side = one_side;
  setup_is_new = setup_is_new;
  both_ones = both_ones;
  duplicate_ignored = duplicate_ignored;
  no_status_for_status = no_status_for_status;
  permanent_stays = permanent_stays;
}
