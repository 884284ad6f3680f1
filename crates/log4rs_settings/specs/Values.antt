-- What the value of a field is read as.
use Rattle.std.specs.Prelude.{ℕ, ℤ, pos, negsuc, ◌^◌, Bool, List, Option, Some, None}
use Rattle.std.specs.Prelude.{option_map, nat_lt, if◌then◌else◌}
use Rattle.log.specs.Level.{parse_filter}
use Rattle.log.specs.declared.level.LevelFilter.{LevelFilter}
use Rattle.log4rs_settings.specs.Size.{bytes_told}
use Rattle.log4rs_settings.specs.Duration.{milliseconds_told}
use Rattle.log4rs_settings.specs.Interval.{interval_told}
use Rattle.log4rs_settings.specs.Data.{Data, boolean, number, text, list, map, Items}
use Rattle.log4rs_settings.specs.Data.{Members}
use Rattle.log4rs_base.specs.declared.dates.interval.TimeTriggerInterval.{TimeTriggerInterval}
use Rattle.log4rs_base.specs.declared.dates.interval.TimeTriggerInterval.TheVariants.{Second}

-- a text, a truth value, a list, each as it is
abbrev pub as_text : Data → Option (List ℕ)
as_text (text s) = Some s
as_text _ = None

abbrev pub as_bool : Data → Option Bool
as_bool (boolean b) = Some b
as_bool _ = None

abbrev pub as_list : Data → Option Items
as_list (list ds) = Some ds
as_list _ = None

abbrev pub as_members : Data → Option Members
as_members (map ms) = Some ms
as_members _ = None

-- a number from 0 that is below the limit
abbrev pub below : ℕ → ℤ → Option ℕ
below limit (pos n) = if nat_lt n limit then Some n else None
below limit (negsuc n) = None

-- a whole number from 0 that is below the limit
abbrev pub as_whole : ℕ → Data → Option ℕ
as_whole limit (number z) = below limit z
as_whole limit _ = None

-- a level by its name, in any ASCII case
abbrev pub as_level : Data → Option LevelFilter
as_level (text s) = parse_filter s
as_level _ = None

-- a number of bytes, or the text of a size
abbrev pub as_size : Data → Option ℕ
as_size (number z) = below (2 ^ 64) z
as_size (text s) = bytes_told s
as_size _ = None

-- a number of seconds, or the text of an interval
abbrev pub as_interval : Data → Option TimeTriggerInterval
as_interval (number z) = option_map (λ n. Second (pos n)) (below (2 ^ 63) z)
as_interval (text s) = interval_told s
as_interval _ = None

-- the milliseconds of the text of a duration
abbrev pub as_rate : Data → Option (Option ℕ)
as_rate (text s) = option_map (λ n. Some n) (milliseconds_told s)
as_rate _ = None
