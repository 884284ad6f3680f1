use Rattle.std.proofs.Common.{◌≡◌, map, take}
use Rattle.log4rs_settings.specs.MakersView.{kinds}
use Rattle.log4rs_settings.specs.Top.{entry_view}
use Rattle.log4rs_plans.specs.Plans.{appenders_asked}
use Rattle.log4rs_plans.specs.View.{asked_view}
use Rattle.log4rs_plans.proofs.asked.appenders_asked.Given as goal

abbrev pub invariant-loop-named : goal.invariant-loop-named
invariant-loop-named g l = map asked_view l.made.items ≡ appenders_asked (kinds l.makers) (g.W.Waits.waiting_for l.waits) (map entry_view (take l.named-index l.appenders))
