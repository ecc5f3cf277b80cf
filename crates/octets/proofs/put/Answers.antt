-- `octets::put` meets its contract: the part that was copied over is what stores one after the other leave. Assumes nothing.
use Rattle.std.proofs.Common.{◌≡◌, ◌-◌, ◌+◌, arith, ◌∙◌, refl, length, append_assoc}
use Rattle.std.proofs.lemmas.List.Edits.{sets-eq, paste_all}
use Rattle.std.proofs.lemmas.Slice.{put_mid-paste}
use Rattle.octets.proofs.put.Goals as goal

pub returns-clause-stored : goal.returns-clause-stored
returns-clause-stored c =
    let room = c.args.room.now in
    let octets = c.args.octets.now in
    let at = c.args.at in
    let whole : length octets ≡ at + length octets - at = omega arith in
    record {
      run = put_mid-paste at (at + length octets - at) room c.copy_from_slice.new.self octets _ c.copy_from_slice.ensures.after whole refl
          ∙ paste_all room at octets _ refl
          ∙ rw (sets-eq octets room at c.requires, append_assoc);
      past = refl;
    }
