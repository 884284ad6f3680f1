use Rattle.log4rs_config.specs.Holder.{resumes}
use Rattle.log4rs_config.specs.declared.runtime.shared.SharedAppender.{SharedAppender}
use Rattle.log4rs_build.specs.Retiring.{leaving_appender}
use Rattle.log4rs_build.proofs.Histories.{each_seen, all_seen}
use Rattle.log4rs_build.proofs.in_force.resume_all.Goals as goal

pub loop-leaver-preserved : goal.loop-leaver-preserved
loop-leaver-preserved g c =
    each_seen (λ (one : SharedAppender g.row.B.Denot). resumes one.lock) leaving_appender c.args.leavers.now c.loop-leaver.leaver-index c.leaver-item.result _ _ _ c.loop-leaver-test.true c.leaver-item.is c.loop-leaver.invariant c.resume.ensures

pub returns : goal.returns
returns g c =
    all_seen (λ (one : SharedAppender g.row.B.Denot). resumes one.lock) leaving_appender c.args.leavers.now c.loop-leaver.leaver-index _ _ c.loop-leaver-test.false c.loop-leaver.invariant
