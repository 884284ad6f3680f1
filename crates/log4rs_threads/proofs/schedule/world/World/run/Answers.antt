use Rattle.std.proofs.Common.{◌≡◌, ℕ, List, length, sym, subst, arith}
use Rattle.log4rs_threads.specs.Held.{Holds}
use Rattle.log4rs_threads.specs.Running.{IsRun, texts_at}
use Rattle.log4rs_threads.specs.Schedule.{entries_before}
use Rattle.log4rs_threads.specs.Shapes.{appender_at}
use Rattle.log4rs_threads.specs.declared.schedule.shape.Shape.{Shape}
use Rattle.log4rs_threads.proofs.Worlds.{sink_holds}
use Rattle.log4rs_threads.proofs.schedule.world.World.run.Goals as goal

pub act-requires-clause-run : goal.act-requires-clause-run
act-requires-clause-run c =
    let l = c.loop-at in
    let run = l.invariant in
    subst (λ (shapes : List Shape). IsRun shapes c.args.schedule.now l.at l.state) (sym run.given) run

pub returns : goal.returns
returns c = λ shape place.
    let shapes = c.args.self in
    let schedule = c.args.schedule.now in
    let l = c.loop-at in
    let end : l.at ≡ length schedule = omega (arith, l.auto.at-end, c.loop-at-test.false) in
    sink_holds _ _ l.state.all.items shape place
    (subst (λ (k : ℕ). Holds (appender_at shapes shape place) (entries_before shapes schedule shape place k) (texts_at l.state.all.items shape place)) end (l.invariant.texts shape place))
