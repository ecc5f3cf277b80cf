use Rattle.std.specs.Prelude.{Option}
use mathlib.Core.Path.{refl, sym, ap, ◌∙◌}
use Rattle.slots.specs.declared.Timer.{Timer}
use Rattle.slots.specs.Timers.{soonest}
use Rattle.table.specs.declared.Fired.{Fired}
use Rattle.table.specs.Effects.{request_first, fired_slot}
use Rattle.table.proofs.Another.{request_fired, slot_fired}
use Rattle.table.proofs.Table.fire.Goals as goal

pub returns-then-is_first : goal.returns-then-is_first
returns-then-is_first c = let due = ap (request_first c.args.reading.time (soonest c.args.reading.time c.args.self.slots.all)) c.due.ensures in
    let first = sym (c.is_first.ensures ∙ ap (λ (x : Option Timer). request_first c.args.reading.time x c.due.result) c.soonest-soonest.ensures ∙ due) ∙ c.if-is_first.true in
    let f = request_fired c.args.self c.args.reading.time in
    rw first (ap (λ (x : Fired). x.effect) c.fire_request.ensures ∙ f.effect, ap (λ (x : Fired). x.more) c.fire_request.ensures ∙ f.more)

pub returns : goal.returns
returns c = let due = ap (request_first c.args.reading.time (soonest c.args.reading.time c.args.self.slots.all)) c.due.ensures in
    let first = sym (c.is_first.ensures ∙ ap (λ (x : Option Timer). request_first c.args.reading.time x c.due.result) c.soonest-soonest.ensures ∙ due) ∙ c.if-is_first.false in
    let same = c.fire_soonest.ensures ∙ ap (fired_slot c.args.self c.args.reading.time) c.soonest-soonest.ensures in
    let f = slot_fired c.args.self c.args.reading.time (soonest c.args.reading.time c.args.self.slots.all) refl first in
    rw first (ap (λ (x : Fired). x.effect) same ∙ f.effect, ap (λ (x : Fired). x.more) same ∙ f.more)
