-- Two entries, logged to a memory appender and a console.
use Rattle.std.specs.Prelude.{◌≡◌, List, [], ◌∷◌, true, Some, None, codes}
use Rattle.log.specs.declared.level.LevelFilter.TheVariants.{Info, Warn}
use Rattle.log4rs_encode.specs.Runs.{plain_bytes}
use Rattle.log4rs_append.specs.Sink.{Sink, Reading, Items, Bytes, items_sink}
use Rattle.log4rs_config.specs.Settings.{Settings, RootSetting, LoggerSetting}
use Rattle.log4rs_config.specs.Received.{texts_in}
use Rattle.guide.specs.Line.{line_runs}

abbrev pub reading : Reading
reading = λ r c. plain_bytes (line_runs r c)

abbrev pub app_root : RootSetting
app_root = record { level = Info; appenders = codes "memory" ∷ [] }

abbrev pub app_logger : LoggerSetting
app_logger =
    record {
      name = codes "app::x";
      level = Warn;
      appenders = codes "console" ∷ [];
      additive = true;
    }

abbrev pub two_settings : Settings
two_settings =
    record {
      appenders = codes "memory" ∷ codes "console" ∷ [];
      root = app_root;
      loggers = app_logger ∷ [];
    }

abbrev pub empty_memory : Sink
empty_memory = items_sink (Some line_runs) []

abbrev pub empty_console : Sink
empty_console = record {
  texts = Bytes reading [];
  is_built_in = true;
  refusals = 0;
  rolled = None;
  plain = None;
}

abbrev pub empty_sinks : List Sink
empty_sinks = empty_memory ∷ empty_console ∷ []

-- what both hold in the end: the memory appender both lines, the console that of `app::x`
pub record HoldTwo (sinks : List Sink) : Type 0 where
  pub memory : texts_in sinks 0
      ≡ Items reading (codes "INFO app - hello\n" ∷ codes "WARN app::x - world\n" ∷ [])
  pub console : texts_in sinks 1 ≡ Bytes reading (codes "WARN app::x - world\n")
