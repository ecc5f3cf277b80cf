-- Readable contents, by identifier: the rule of each listed element.
--   fits      are these the readable contents of an element with this identifier?
-- Assumes nothing.
use Rattle.std.specs.Prelude.{ℕ, Bool, false, cond, List, eqb}
use Rattle.contents.specs.Contents.{cause_fits, call_state_fits, connection_fits, restart_fits}
use Rattle.mandatory.specs.Mandatory.{qos_fits, bearer_fits, called_fits}
use Rattle.traffic.specs.Traffic.{traffic_fits}

-- an identifier that is not listed has no readable contents
abbrev pub fits : ℕ → List ℕ → Bool
fits id c =
    cond (eqb id 0x08) (cause_fits c)
    (cond (eqb id 0x14) (call_state_fits c)
    (cond (eqb id 0x59) (traffic_fits c)
    (cond (eqb id 0x5A) (connection_fits c)
    (cond (eqb id 0x5C) (qos_fits c)
    (cond (eqb id 0x5E) (bearer_fits c) (cond (eqb id 0x70) (called_fits c) (cond (eqb id 0x79) (restart_fits c) false)))))))
