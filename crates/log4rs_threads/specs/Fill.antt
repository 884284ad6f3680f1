-- Which records a configuration logs.
use Rattle.std.specs.Prelude.{Bool}
use Rattle.log.specs.Level.{allows}
use Rattle.log.specs.declared.level.Level.{Level}
use Rattle.log4rs_base.specs.Text.{Text}
use Rattle.log4rs_config.specs.Name.{path_of}
use Rattle.log4rs_config.specs.Routing.{level_at}
use Rattle.log4rs_config.specs.Settings.{Settings}

-- the level passes the level of the logger that governs the target
abbrev pub lets_in : Settings → Text → Level → Bool
lets_in s target level = allows (level_at s (path_of target)) level
