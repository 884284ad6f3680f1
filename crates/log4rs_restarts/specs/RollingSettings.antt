-- What the settings of a rolled file mean.
use Rattle.std.specs.Prelude.{◌+◌, ℕ, List, Option, Some, None, string_bytes, if◌then◌else◌}
use Rattle.log4rs_base.specs.Names.{expanded_names}
use Rattle.log4rs_rolling.specs.Archives.{name_at, refusal, waiting_name}
use Rattle.log4rs_rolling.specs.Keeping.{Keeping}
use Rattle.log4rs_rolling.specs.Moves.{archive_names}
use Rattle.log4rs_rolling.specs.Roller.{fixed_window}
use Rattle.log4rs_rolling.specs.Window.{Window}
use Rattle.log4rs_base.specs.declared.error.RollerError.{RollerError}
use Rattle.log4rs_restarts.specs.declared.rolling_settings.RollingSettings.{RollingSettings}

-- the path of the file, with the values of the environment
abbrev pub path_of : RollingSettings → List ℕ
path_of settings = expanded_names settings.env (string_bytes settings.path)

-- the name of the archive with an index
abbrev pub archive_name : RollingSettings → ℕ → List ℕ
archive_name settings = name_at (string_bytes settings.pattern) settings.env

-- the names that are kept: archives, oldest first, in the background a waiting file, the file
abbrev pub window_of : RollingSettings → Window
window_of settings =
    record {
      archives = archive_names (archive_name settings) settings.base settings.count;
      waiting = if settings.background then Some (waiting_name (path_of settings)) else None;
      active = path_of settings;
    }

-- what the roller keeps: a window of so many archives from the lowest index on
abbrev pub keeping_of : RollingSettings → Keeping
keeping_of settings =
    fixed_window (archive_name settings) settings.base settings.count settings.rename_only
    settings.background

-- why the pattern or the window is refused, if one is
abbrev pub refusal_of : RollingSettings → Option RollerError
refusal_of settings = refusal (string_bytes settings.pattern) (settings.base + settings.count)
