-- What an appender has in common with others.
use Rattle.std.specs.Prelude.{◌≡◌, ℕ, ◌==◌, Bool, false, ◌||◌, List, [], slice_get, String}
use Rattle.std.specs.BTreeMap.{BTreeMap}
use Rattle.std.specs.List.{list_any}
use Rattle.std.specs.Option.{option_map_or}
use Rattle.std.specs.declared.alloc.Global.{Global}
use Rattle.log4rs_settings.specs.Plan.{AppenderPlan}
use Rattle.log4rs_plans.specs.Overlaps.{overlaps_in}
use Rattle.log4rs_plans.specs.Written.{AreWritten, File, Window}
use Rattle.log4rs_plans.specs.declared.warnings.Warning.{Warning}
use Rattle.log4rs_plans.specs.declared.warnings.Warning.TheVariants.{OneFile, OtherArchive, OnePattern}

-- whether a file, or a window of archives, is the first appender's
abbrev pub writes_first : List File → ℕ → Bool
writes_first files place = option_map_or (λ file. file.appender == 0) (slice_get files place) false

abbrev pub keeps_first : List Window → ℕ → Bool
keeps_first windows place =
    option_map_or (λ window. window.appender == 0) (slice_get windows place) false

-- whether one of two that overlap is so
abbrev pub is_of_first : List File → List Window → Warning → Bool
is_of_first files windows (OneFile at place) = writes_first files at
is_of_first files windows (OtherArchive at window) =
    writes_first files at || keeps_first windows window
is_of_first files windows (OnePattern at place) = keeps_first windows at
is_of_first files windows _ = false

-- whether the first of these plans has files or archives in common with another
abbrev pub IsShared : BTreeMap (String Global) (String Global) → List AppenderPlan → Bool → Type 0
IsShared env plans shared =
    (files : List File) × (windows : List Window) × AreWritten env plans files windows
    × (shared ≡ list_any (is_of_first files windows) (overlaps_in [] files windows))
