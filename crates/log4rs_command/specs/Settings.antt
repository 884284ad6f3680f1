-- The configuration that settings ask for.
use Rattle.std.specs.Prelude.{Bool, true, not, List, [], ◌∷◌, None, map, filter, unwrap_or, codes}
use Rattle.std.specs.Prelude.{length, ◌==◌}
use Rattle.std.specs.List.{last_or}
use Rattle.log.specs.declared.level.LevelFilter.{LevelFilter}
use Rattle.log.specs.declared.level.LevelFilter.TheVariants.{Info}
use Rattle.log4rs_base.specs.Text.{Text}
use Rattle.log4rs_config.specs.Settings as config
use Rattle.log4rs_command.specs.Arguments.{Setting}

-- the setting is the root's
abbrev pub has_no_name : Setting → Bool
has_no_name setting = length setting.name == 0

-- the name of the appender
abbrev pub appender_name : Text
appender_name = codes "memory"

-- the root's level: that of the last setting without a name, or Info
abbrev pub root_level : List Setting → LevelFilter
root_level settings =
    unwrap_or (last_or None (map (λ s. s.level) (filter has_no_name settings))) Info

-- the root, with the appender
abbrev pub root_setting : List Setting → config.RootSetting
root_setting settings = record { level = root_level settings; appenders = appender_name ∷ [] }

-- an additive logger without appenders of its own
abbrev pub logger_setting : Setting → config.LoggerSetting
logger_setting setting =
    record { name = setting.name; level = setting.level; appenders = []; additive = true }

-- a logger for each setting with a name, in order
abbrev pub logger_settings : List Setting → List config.LoggerSetting
logger_settings settings = map logger_setting (filter (λ s. not (has_no_name s)) settings)

abbrev pub configured : List Setting → config.Settings
configured settings =
    config.settings_of (appender_name ∷ []) (root_setting settings) (logger_settings settings)
