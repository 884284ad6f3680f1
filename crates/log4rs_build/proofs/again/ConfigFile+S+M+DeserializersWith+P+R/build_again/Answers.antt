use Rattle.std.proofs.Common.{◌∙◌, map, ap, sym}
use Rattle.log4rs_plans.specs.Effective.{planned_in, planned_of}
use Rattle.log4rs_plans.specs.Plans.{Plans, all_filters_good}
use Rattle.log4rs_plans.specs.View.{plans_view}
use Rattle.log4rs_build.specs.Deserializers.{kinds_in, handed_of}
use Rattle.log4rs_build.proofs.Beside.{by_plans}
use Rattle.log4rs_build.proofs.Histories.{no_replies, stand_as}
use Rattle.log4rs_build.proofs.again.ConfigFile+S+M+DeserializersWith+P+R.build_again.Goals as goal

pub returns-then-one_works-clause-built : goal.returns-then-one_works-clause-built
returns-then-one_works-clause-built g c =
    let around = c.args.self.now.surroundings in
    let planned = c.in_ok-plans.ensures in
    let top = planned.plans.0 in
    let plans = planned.plans.2 in
    let filled = handed_of c.planned_again.new.deserializers in
    let asked = ap (map planned_of) c.deref.ensures.value ∙ planned.planned ∙ ap (λ (p : Plans). planned_in around p.appenders) plans in (
      top,
      planned.plans.1,
      record {
        filled = filled;
        refilled = planned.filled;
        still = c.in-Some.still.items;
        stand = stand_as _ _ _ _ _ _ asked (rw c.in-Some.is at c.in_ok-still.ensures.stand);
        filters = sym (ap (λ (p : Plans). all_filters_good p.appenders) plans) ∙ sym c.filters_are_good.ensures ∙ c.if-not-filters_are_good.false;
        built = by_plans (g.P.BuildAppender.Builds (g.M.StoreMaker.starts c.args.self.now.maker) around) g.P.Parts.BuildsFilters around
            (kinds_in c.args.self.now.deserializers) (g.P.Waits.waiting_for filled) top (plans_view c.in_ok-plans.plans) _ _ _ _ _ _ plans c.in_ok-made.ensures.loaded;
      },
    )

pub returns-in_err-plans-clause-replies : goal.returns-in_err-plans-clause-replies
returns-in_err-plans-clause-replies g c = no_replies _

pub returns-then-not-filters_are_good-clause-replies : goal.returns-then-not-filters_are_good-clause-replies
returns-then-not-filters_are_good-clause-replies g c = no_replies _
