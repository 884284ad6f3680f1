use Rattle.std.proofs.Common.{◌∙◌, map, ap}
use Rattle.log4rs_plans.specs.Effective.{planned_in, planned_of}
use Rattle.log4rs_plans.specs.View.{plans_view}
use Rattle.log4rs_build.specs.Deserializers.{kinds_in, handed_of}
use Rattle.log4rs_plans.specs.Plans.{Plans}
use Rattle.log4rs_build.specs.Raw.{asked_by}
use Rattle.log4rs_build.proofs.Beside.{by_plans}
use Rattle.log4rs_build.proofs.Histories.{err_leaves, retired_only, retires_as, resumed_as, undone_by_resuming}
use Rattle.log4rs_build.proofs.rereading.ConfigFile+S+M+DeserializersWith+P+R.load_beside.Goals as goal

pub returns-in_err-asked-clause-undone : goal.returns-in_err-asked-clause-undone
returns-in_err-asked-clause-undone g c = err_leaves _ _ c.from_residual.result

pub returns-in_err-refill-clause-undone : goal.returns-in_err-refill-clause-undone
returns-in_err-refill-clause-undone g c = err_leaves _ _ c.from_residual-in_err-refill.result

pub returns-in_err-prepared-clause-undone : goal.returns-in_err-prepared-clause-undone
returns-in_err-prepared-clause-undone g c = err_leaves _ _ c.from_residual-in_err-prepared.result

pub returns-in-Ok-clause-ok : goal.returns-in-Ok-clause-ok
returns-in-Ok-clause-ok g c =
    let around = c.args.self.now.surroundings in
    let plans = rw c.in_ok-refill.ensures.makers.0 at c.in_ok-prepared.ensures.plans in
    let asked = ap (map planned_of) c.deref.ensures.value ∙ c.in_ok-prepared.ensures.planned ∙ ap (λ (p : Plans). planned_in around p.appenders) plans in
    let filled = handed_of c.refill.new.self in
    rw c.in_ok-asked.ensures.ok (record {
      filled = filled;
      refilled = c.in_ok-refill.ensures.ok;
      still = c.in_ok-retired.retired.still.items;
      retires = retires_as _ _ _ _ _ _ _ _ asked c.in_ok-retired.ensures.ok;
      built = by_plans (g.P.BuildAppender.Builds (g.M.StoreMaker.starts c.args.self.now.maker) around) g.P.Parts.BuildsFilters around
          (kinds_in c.args.self.now.deserializers) (g.P.Waits.waiting_for filled) (asked_by c.in_ok-asked.asked) (plans_view c.in_ok-prepared.prepared.plans) _ _ _ _ _ _ plans c.in-Ok.ensures.loaded;
      rate = c.in-Ok.ensures.rate ∙ ap (λ (p : Plans). p.rate) plans;
    })

pub returns-in-Ok-clause-retired : goal.returns-in-Ok-clause-retired
returns-in-Ok-clause-retired g c = retired_only _ _ _ _ _ _ _ c.in_ok-retired.ensures.ok

pub returns-clause-undone : goal.returns-clause-undone
returns-clause-undone g c =
    undone_by_resuming _ _ _ _ _ (retired_only _ _ _ _ _ _ _ c.in_ok-retired.ensures.ok) (resumed_as _ _ _ _ c.deref-in-Err.ensures.value c.resume_all.ensures)
