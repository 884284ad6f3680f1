use Rattle.std.proofs.Common.{◌≡◌, ◌++◌, map}
use Rattle.log4rs_plans.specs.View.{asked_view}
use Rattle.log4rs_build.specs.Lossy.{BuildsEach}
use Rattle.log4rs_build.proofs.create.build_each.Given as goal

abbrev pub invariant-loop-asked : goal.invariant-loop-asked
invariant-loop-asked g l =
    (l.fn.appenders.items ≡ l.yielded ++ l.asked-iterator.rest.items)
    × BuildsEach (g.W.BuildAppender.Builds (g.M.StoreMaker.starts l.fn.maker) l.surroundings) (map asked_view l.yielded) l.built.items l.errors l.fn.builder l.builder
    × (g.M.StoreMaker.starts l.maker ≡ g.M.StoreMaker.starts l.fn.maker)
