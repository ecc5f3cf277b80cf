-- Document 02, R-1: what is so of saving and reloading.
--   Provisioned          the pool is that of lists that start accepts
--   Savable              a table that keeps every rule of the reader
--   taken                what an accepted reload answers
--   SavedAndReloaded     the request, under its words
-- Assumes nothing.
use Rattle.std.specs.Prelude.{ℕ, ◌≤◌, ◌<◌, ◌≡◌, ◌⊎◌, true, List, [], get_or}
use Rattle.replies.specs.Reply.{reply_room}
use Rattle.provisioning.specs.Provisioning.{provision}
use Rattle.table.specs.declared.Table.{Table}
use Rattle.outcome.specs.declared.Started.{Started}
use Rattle.control.specs.Events.{start_of}
use Rattle.control.specs.Happens.{Event, happens}
use Rattle.saved.specs.Form.{form_of}
use Rattle.reload.specs.Reload.{reload_of}
use Rattle.reached.specs.Reached.{Reached}
use Rattle.views.specs.Effects.{label_of, reading_of, room_of}
use Rattle.safety.specs.Sound.{Sound, CarriedOctets, ReferencesFit}

-- "lists that start" does not refuse
pub record Provisioned (t : Table) : Type 0 where
  pub ranges : List ℕ
  pub pairs : List ℕ
  pub accepted : (provision ranges pairs).accepted ≡ true
  pub pool : t.pool ≡ (provision ranges pairs).pool

-- `Sound` says the rest of the list: "a reading over the limit, reference 0, two calls on one pair or flagged reference, a pair not
-- permitted, a state, timer, side or cause that document 01 never puts together, and a deadline further past the last reading than
-- its timer is long". A reference has 23 bits
pub record Savable (t : Table) : Type 0 where
  pub sound : Sound t
  pub provisioned : Provisioned t
  pub references : ReferencesFit t

abbrev pub taken : Table → Started
taken t = record { refusal = 0; table = t }

-- a reload of octets
pub record SavedAndReloaded : Type 0 where
  -- "Writing and reading gives each reached table back"
  pub gives_back : (t : Table) (r : Reached t) → CarriedOctets t r → reload_of (form_of t) ≡ taken t
  -- "each table has one saved form"
  pub one_form : (f : List ℕ) → (reload_of f).refusal ≡ 0 → form_of (reload_of f).table ≡ f
  -- what is taken, exactly: the forms of the tables that keep every rule. "unknown tags, a cut, missing .., repeated or misplaced
  -- field, a wrong length, a slot the table lacks" make octets that are no table's form
  pub takes_each : (t : Table) → Savable t → reload_of (form_of t) ≡ taken t
  pub takes_only : (f : List ℕ) → ((k : ℕ) → get_or f k 0 < 256) → (reload_of f).refusal ≡ 0 → Savable (reload_of f).table
  -- "It refuses with 9 and gives no table."
  pub refuses_with_9 : (f : List ℕ) → ((reload_of f).refusal ≡ 0) ⊎ (((reload_of f).refusal ≡ 9) × (reload_of f ≡ start_of [] []))
  -- "a reading older than the saved one gets 4"
  pub older_gets_4 : (t : Table) (e : Event) → Savable t → reply_room ≤ room_of e → label_of e ≡ 1 → reading_of e < t.last
      → (happens (reload_of (form_of t)).table e).answer.refusal ≡ 4
