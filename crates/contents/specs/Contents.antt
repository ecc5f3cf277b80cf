-- Readable contents, in the paper's order, and the values in them. `c` is the contents, without the element's four octets before them.
--   cause_fits, cause_number          08 Cause
--   call_state_fits, call_state_value   14 Call state
--   connection_fits, connection_in    5A Connection identifier
--   restart_fits, restart_class       79 Restart indicator
-- 59 Traffic descriptor is in crate traffic; 5C QoS, 5E Bearer capability and 70 Called number are in crate mandatory.
-- A value is that of readable contents; an octet that is not there counts as 0. Assumes nothing.
use Rattle.std.specs.Prelude.{ℕ, ◌%◌, Bool, ◌&&◌, ◌||◌, List, eqb, leb, length, get_or}
use Rattle.octets.specs.Octets.{number, top_bit}
use Rattle.identifier.specs.declared.Pair.{Pair}

-- "08 Cause: at least 2; top bit set in each of the first two."
abbrev pub cause_fits : List ℕ → Bool
cause_fits c = leb 2 (length c) && top_bit (get_or c 0 0) && top_bit (get_or c 1 0)

abbrev pub cause_number : List ℕ → ℕ
cause_number c = get_or c 1 0 % 128

-- "14 Call state: 1; 0 to 63."
abbrev pub call_state_fits : List ℕ → Bool
call_state_fits c = eqb (length c) 1 && leb (get_or c 0 0) 63

abbrev pub call_state_value : List ℕ → ℕ
call_state_value c = get_or c 0 0

-- "5A Connection identifier: 5; first 88, then VPCI, VCI."
abbrev pub connection_fits : List ℕ → Bool
connection_fits c = eqb (length c) 5 && eqb (get_or c 0 0) 0x88

abbrev pub connection_in : List ℕ → Pair
connection_in c = record { vpci = number (get_or c 1 0) (get_or c 2 0); vci = number (get_or c 3 0) (get_or c 4 0) }

-- "79 Restart indicator: 1; 80 (indicated channel) or 82 (all)."
abbrev pub restart_fits : List ℕ → Bool
restart_fits c = eqb (length c) 1 && (eqb (get_or c 0 0) 0x80 || eqb (get_or c 0 0) 0x82)

abbrev pub restart_class : List ℕ → ℕ
restart_class c = get_or c 0 0
