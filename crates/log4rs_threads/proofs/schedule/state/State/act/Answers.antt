use Rattle.std.proofs.Common.{◌≡◌, ◌∙◌, ◌<◌, sym, ap, arith, ℕ, List, length, get_or, vec_len, map}
use Rattle.std.proofs.lemmas.List.{length-map}
use Rattle.std.proofs.lemmas.Option.{slice_get-get_or}
use Rattle.std.proofs.lemmas.Result.{on_ok_weaker}
use Rattle.std.specs.Prelude.{slice_get, Some, Option, Result, Ok, Err, OnOk}
use Rattle.log4rs_base.specs.declared.error.OutOfMemory.{OutOfMemory}
use Rattle.log4rs_base.specs.declared.record.Entry.{Entry}
use Rattle.log4rs_threads.specs.declared.schedule.event.Event.{Event}
use Rattle.log4rs_threads.specs.declared.schedule.installed.Installed.{Installed}
use Rattle.log4rs_threads.specs.declared.schedule.shape.Shape.{Shape}
use Rattle.log4rs_threads.specs.Running.{shapes_in}
use Rattle.log4rs_threads.specs.Schedule.{entry_of, places_of}
use Rattle.log4rs_threads.proofs.Advance.{run_load, run_step, run_swap}
use Rattle.log4rs_threads.proofs.schedule.state.State.act.Goals as goal

found : (events : List Event) (at : ℕ) (result e : Event) → at < length events → result ≡ get_or events at result → result ≡ e → slice_get events at ≡ Some e
found events at result e lt here is = slice_get-get_or events at result lt ∙ ap Some (sym here ∙ is)

both : {P Q R : Type 0} (r : Result (Unit {0}) OutOfMemory) → OnOk r P → OnOk r Q → (P → Q → R) → OnOk r R
both (Ok x) p q f = f p q
both (Err x) p q f = tt

pub returns-in-Load : goal.returns-in-Load
returns-in-Load c =
    let events = c.args.events.now in
    let self = c.args.self.now in
    let at = found events c.args.at c.index-events-at.result _ c.requires.event c.index-events-at.is c.in-Load.is in
    let shapes = shapes_in self.all.items in
    let e = c.load.ensures in
    let here = ap (λ (o : Option Entry). places_of o (slice_get shapes self.shape)) (sym (ap entry_of at))
    ∙ ap (λ (n : ℕ). places_of (entry_of (slice_get events c.args.at)) (slice_get shapes n)) c.requires.run.shape in
    both c.load.result e.calls e.within
    (λ calls within. run_load _ _ c.args.at c.in-Load.caller c.in-Load.entry _ self c.load.new.self at c.requires.run e.shape e.all calls within here)

pub returns-in-Step : goal.returns-in-Step
returns-in-Step c =
    let at = found c.args.events.now c.args.at c.index-events-at.result _ c.requires.event c.index-events-at.is c.in-Step.is in
    let e = c.step.ensures in
    on_ok_weaker c.step.result (λ texts. run_step _ _ c.args.at c.in-Step.caller c.args.self.now c.step.new.self at c.requires.run e.shape e.shapes e.calls texts) e.texts

pub returns-in-Swap : goal.returns-in-Swap
returns-in-Swap c =
    let at = found c.args.events.now c.args.at c.index-events-at.result _ c.requires.event c.index-events-at.is c.in-Swap.is in
    let e = c.swap.ensures in
    let self = c.args.self.now in
    let shape : Installed → Shape = λ x. x.shape.value in
    let size : length (map shape self.all.items) ≡ vec_len self.all = omega (arith, length-map self.all.items shape, self.all.ok) in
    run_swap _ _ c.args.at c.in-Swap.shape self c.swap.new.self at c.requires.run size e.shape e.all e.calls
