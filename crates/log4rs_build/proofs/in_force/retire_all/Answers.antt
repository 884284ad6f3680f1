use Rattle.std.proofs.Common.{◌<◌, map, ap, ◌∙◌, length, arith}
use Rattle.log4rs_config.specs.Holder.{retires}
use Rattle.log4rs_config.specs.declared.runtime.shared.SharedAppender.{SharedAppender}
use Rattle.log4rs_build.specs.Retiring.{leaving_appender}
use Rattle.log4rs_build.proofs.Histories.{as_long, map_set_same, each_kept}
use Rattle.log4rs_build.proofs.in_force.retire_all.Goals as goal

pub loop-at-preserved : goal.loop-at-preserved
loop-at-preserved g c =
    let l = c.loop-at in
    let xs = l.leavers.items in
    let ys = map leaving_appender c.args.leavers.now.items in
    let x = c.index_mut.result.now in
    let many = as_long leaving_appender xs c.args.leavers.now.items l.invariant.0 in
    let within : l.at < length xs = omega (arith, c.loop-at-test.true, c.len-at-end.ensures, many) in
    let same = map_set_same leaving_appender xs l.at c.retire.new.self x (c.retire.ensures.stays ∙ ap leaving_appender c.index_mut.ensures.value) in (
      same ∙ l.invariant.0,
      each_kept (λ (one : SharedAppender g.row.B.Denot). retires one.lock (g.M.StoreMaker.stores c.args.maker.now)) leaving_appender xs ys l.at x _ _ _ l.invariant.0 within c.index_mut.ensures.value l.invariant.1 c.retire.ensures.happened,
    )
