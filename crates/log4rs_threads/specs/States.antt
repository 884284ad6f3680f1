-- What clauses see of a publisher and of its sessions.
use Rattle.std.specs.Prelude.{Bool, List, [], None, map}
use Rattle.std.specs.List.{last_or}
use Rattle.std.specs.Option.{option_map_or}
use Rattle.logbook.specs.Pages.{Book}
use Rattle.log4rs_base.specs.Filtering.{passes}
use Rattle.log4rs_base.specs.declared.filter.Response.{Response}
use Rattle.log4rs_base.specs.declared.record.Record.{Record}
use Rattle.log4rs_config.specs.Appender.{filters_of}
use Rattle.log4rs_config.specs.Builder.{appenders_of}
use Rattle.log4rs_config.specs.Settings.{Settings, settings_of}
use Rattle.log4rs_config.specs.declared.runtime.config.ConfigOf.{ConfigOf}
use Rattle.log4rs_threads.specs.Known.{Known}

-- the opening configuration and its appenders' filters;
-- the configurations that were published since, in order; and in which history they stand
pub record PublisherState (F : Type 0) : Type 0 where
  pub opening : Settings
  pub filters : List (List F)
  pub swaps : List Settings
  pub book : Book

-- the same of a session: the configurations that it saw published, and those that it was told of
pub record SessionState (F : Type 0) : Type 0 where
  pub opening : Settings
  pub filters : List (List F)
  pub seen : List Settings
  pub told : List Settings
  pub book : Book

-- a session that saw nothing, and was told of what was published
abbrev pub newcomer : {F : Type 0} → PublisherState F → SessionState F
newcomer p =
    record { opening = p.opening; filters = p.filters; seen = []; told = p.swaps; book = p.book }

-- a session that knows so much
abbrev pub session_of : {F : Type 0} → Settings → List (List F) → Known → SessionState F
session_of opening filters known =
    record {
      opening = opening;
      filters = filters;
      seen = known.seen;
      told = known.told;
      book = known.book;
    }

-- nothing is known
abbrev pub nothing : Known
nothing =
    record {
      names = [];
      seen = [];
      told = [];
      book = record { number = 0; log_name = 0; cells_name = 0 };
    }

-- the filters of a configuration's appenders
abbrev pub config_filters : {A F : Type 0} → ConfigOf A F → List (List F)
config_filters c = map (λ a. filters_of a) (appenders_of c)

-- whether a record passes the filters of each appender
abbrev pub admits : {F : Type 0} → (F → Record → Response) → List (List F) → Record → List Bool
admits answer filters r = map (λ all. passes (λ f. answer f r) all) filters

-- a configuration with the root and the loggers of the last of these
abbrev pub after_swaps : Settings → List Settings → Settings
after_swaps opening swaps =
    option_map_or (λ swap. settings_of opening.appenders swap.root swap.loggers)
    (last_or None swaps) opening
