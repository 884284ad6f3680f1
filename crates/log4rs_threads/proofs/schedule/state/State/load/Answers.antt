use Rattle.std.proofs.Common.{◌∙◌, ◌<◌, ap, sym, arith, length}
use Rattle.std.specs.Prelude.{Some}
use Rattle.std.specs.BTreeMap.{get}
use Rattle.std.specs.Ordering.{nat_cmp}
use Rattle.log4rs_threads.specs.Schedule.{places_of}
use Rattle.log4rs_threads.proofs.Placing.{shape_is, load_counts, within_here}
use Rattle.log4rs_threads.proofs.schedule.state.State.load.Goals as goal

pub returns-clause-calls : goal.returns-clause-calls
returns-clause-calls c =
    let self = c.args.self.now in
    let lt : self.shape < length self.all.items = omega (arith, c.requires, self.all.ok) in
    let here = shape_is self.all.items self.shape c.index.result.now lt c.index.ensures in
    let is = c.in_ok-rest.ensures.places ∙ ap (places_of (Some c.args.entry.now)) (sym here) in
    load_counts (get nat_cmp self.calls) (get nat_cmp c.insert.new.self) c.args.caller _ (sym c.is_busy.ensures ∙ c.if-is_busy.false) (rw (← is) c.in_ok-insert.ensures.updates.0)

pub returns-clause-within : goal.returns-clause-within
returns-clause-within c = λ _.
    let self = c.args.self.now in
    let lt : self.shape < length self.all.items = omega (arith, c.requires, self.all.ok) in
    let here = shape_is self.all.items self.shape c.index.result.now lt c.index.ensures in
    let is = c.in_ok-rest.ensures.places ∙ ap (places_of (Some c.args.entry.now)) (sym here) in
    within_here self.all.items self.shape c.index.result.now _ _ lt c.index.ensures is c.in_ok-rest.ensures.within
