-- What a shape asks for.
use Rattle.std.specs.Prelude.{ℕ, Bool, List, [], ◌∷◌, map, slice_get, string_bytes, Option}
use Rattle.std.specs.Prelude.{option_and_then}
use Rattle.log4rs_base.specs.Filtering.{passes, threshold_answer}
use Rattle.log4rs_base.specs.declared.record.Record.{Record}
use Rattle.log4rs_config.specs.Faults.{Fault, faults}
use Rattle.log4rs_config.specs.Routing.{Deliveries, deliveries}
use Rattle.log4rs_config.specs.Settings.{Settings, settings_of}
use Rattle.log4rs_threads.specs.declared.schedule.shape.Shape.{Shape}
use Rattle.log4rs_threads.specs.declared.schedule.shape.ShapeAppender.{ShapeAppender}

-- its names, root and loggers
abbrev pub settings_in : Shape → Settings
settings_in s =
    settings_of (map (λ a. string_bytes a.name) s.appenders.items) s.root s.loggers.items

-- whether a record passes the thresholds of each of its appenders
abbrev pub admits_in : Shape → Record → List Bool
admits_in s r =
    map (λ a. passes (λ limit. threshold_answer limit r.level) a.thresholds.items) s.appenders.items

-- the places that it delivers a record to
abbrev pub deliveries_in : Shape → Deliveries
deliveries_in s = deliveries (settings_in s) (admits_in s)

-- the appender at a place of a shape
abbrev pub appender_at : List Shape → ℕ → ℕ → Option ShapeAppender
appender_at shapes shape place =
    option_and_then (λ s. slice_get s.appenders.items place) (slice_get shapes shape)

-- these faults, or else those
abbrev pub or_else : List Fault → List Fault → List Fault
or_else [] others = others
or_else (f ∷ fs) others = f ∷ fs

-- the faults of the first shape that has any
abbrev pub first_faults : List Shape → List Fault
first_faults [] = []
first_faults (s ∷ rest) = or_else (faults (settings_in s)) (first_faults rest)
