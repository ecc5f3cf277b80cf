-- Names of numbers, in tables.
--   name_in                        the name that a table gives a number
--   kind_names, cause_names          message types and causes
--   refusal_names                   why an event was refused
-- Assumes nothing.
use Rattle.std.specs.Prelude.{ℕ, cond, List, [], ◌∷◌, eqb}
use Rattle.ascii.specs.Ascii.{word}

-- the name in the first row of the number; nothing if it has none
unfoldable pub name_in : List (ℕ × List ℕ) → ℕ → List ℕ
name_in [] n = []
name_in (r ∷ rows) n = cond (eqb r.0 n) r.1 (name_in rows n)

-- "Types in hex: CALL PROCEEDING 02, SETUP 05, .."
unfoldable pub kind_names : List (ℕ × List ℕ)
kind_names =
    (0x02, word "CALL PROCEEDING") ∷
    (0x05, word "SETUP") ∷
    (0x07, word "CONNECT") ∷
    (0x0F, word "CONNECT ACKNOWLEDGE") ∷
    (0x46, word "RESTART") ∷
    (0x4D, word "RELEASE") ∷
    (0x4E, word "RESTART ACKNOWLEDGE") ∷
    (0x5A, word "RELEASE COMPLETE") ∷
    (0x75, word "STATUS ENQUIRY") ∷
    (0x7D, word "STATUS") ∷
    []

-- the causes that the host may use or that we send, by their names in source 001 (that of 28 shortened)
unfoldable pub cause_names : List (ℕ × List ℕ)
cause_names =
    (1, word " unallocated (unassigned) number") ∷
    (3, word " no route to destination") ∷
    (16, word " normal call clearing") ∷
    (17, word " user busy") ∷
    (18, word " no user responding") ∷
    (21, word " call rejected") ∷
    (22, word " number changed") ∷
    (27, word " destination out of order") ∷
    (28, word " invalid number format") ∷
    (30, word " response to STATUS ENQUIRY") ∷
    (31, word " normal, unspecified") ∷
    (41, word " temporary failure") ∷
    (45, word " no VPCI/VCI available") ∷
    (47, word " resource unavailable, unspecified") ∷
    (49, word " Quality of Service unavailable") ∷
    (57, word " bearer capability not authorized") ∷
    (58, word " bearer capability not presently available") ∷
    (63, word " service or option not available, unspecified") ∷
    (65, word " bearer capability not implemented") ∷
    (73, word " unsupported combination of traffic parameters") ∷
    (81, word " invalid call reference value") ∷
    (82, word " identified channel does not exist") ∷
    (88, word " incompatible destination") ∷
    (96, word " mandatory information element is missing") ∷
    (97, word " message type non-existent or not implemented") ∷
    (100, word " invalid information element contents") ∷
    (101, word " message not compatible with call state") ∷
    (102, word " recovery on timer expiry") ∷
    []

-- document 01's "Refusal numbers", of the events but start
unfoldable pub refusal_names : List (ℕ × List ℕ)
refusal_names =
    (1, word "; refused: reply room under 1,024 octets") ∷
    (2, word "; refused: clock label not 1") ∷
    (3, word "; refused: reading too large") ∷
    (4, word "; refused: reading below the last accepted") ∷
    (5, word "; refused: message empty or over 1,024 octets") ∷
    (6, word "; refused: no call in this slot") ∷
    (7, word "; refused: wrong state") ∷
    (8, word "; refused: cause not in the host's list") ∷
    (10, word "; refused: the body of the offer") ∷
    (11, word "; refused: no empty slot") ∷
    (12, word "; refused: no permitted pair free") ∷
    (13, word "; refused: a RESTART of ours is under way, or the pair is not permitted") ∷
    []
