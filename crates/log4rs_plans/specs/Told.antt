-- What is told of a configuration.
use Rattle.std.specs.Prelude.{ℕ, ◌≤◌, List, ◌++◌, length, String}
use Rattle.std.specs.BTreeMap.{BTreeMap}
use Rattle.std.specs.declared.alloc.Global.{Global}
use Rattle.log4rs_base.specs.Text.{Text}
use Rattle.log4rs_settings.specs.Plan.{AppenderPlan}
use Rattle.log4rs_plans.specs.Overlaps.{overlaps_in}
use Rattle.log4rs_plans.specs.Unused.{unused_in}
use Rattle.log4rs_plans.specs.Written.{AreWritten, File, Window, plain}
use Rattle.log4rs_plans.specs.declared.asked.Plans.{Plans}
use Rattle.log4rs_plans.specs.declared.warnings.Warning.{Warning}

-- what a configuration warns of: what logs nothing, and then what overlaps
abbrev pub warnings_in : Plans → Text → List File → List Window → List Warning
warnings_in plans path files windows = unused_in plans ++ overlaps_in (plain path) files windows

-- whether there are lines for each warning of a configuration whose appenders have these plans
abbrev pub TellsEach :
    BTreeMap (String Global) (String Global) → List AppenderPlan → Plans → Text → ℕ → Type 0
TellsEach env planned plans path lines =
    (files : List File) × (windows : List Window) × AreWritten env planned files windows
    × (length (warnings_in plans path files windows) ≤ lines)
