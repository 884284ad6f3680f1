-- Laws of routing.
use Rattle.std.specs.Prelude.{◌≡◌, ◌≤◌, ◌↔◌, Bool, false, IsTrue, List, [], ◌∷◌, ◌++◌, Some, None, All, Contains}
use Rattle.std.specs.Prelude.{map, find, length, if◌then◌else◌}
use Rattle.std.specs.List.Sorted.{IsPermutation}
use Rattle.std.specs.Option.{option_map_or}
use Rattle.std.specs.Str.{bytes_eq}
use Rattle.log.specs.Level.{filter_rank}
use Rattle.log.specs.declared.level.LevelFilter.{LevelFilter}
use Rattle.log4rs_base.specs.Text.{Text}
use Rattle.log4rs_base.specs.declared.record.Record.{Record}
use Rattle.log4rs_config.specs.Faults.{InvalidLogger, faults}
use Rattle.log4rs_config.specs.Name.{components, path_of, is_valid}
use Rattle.log4rs_config.specs.Settings.{Settings, LoggerSetting, RootSetting, settings_of}
use Rattle.log4rs_config.specs.Settings.{is_distinct, IsAccepted}
use Rattle.log4rs_config.specs.Routing.{is_at, governing, level_at, places_at, deliveries}
use Rattle.log4rs_config.specs.Levels.{all_levels, with_level}

-- each path finds the same logger
abbrev pub SameLookup : List LoggerSetting → List LoggerSetting → Type 0
SameLookup xs ys = (path : List Text) → find (is_at path) xs ≡ find (is_at path) ys

-- where each path finds the same logger, each record has the same deliveries
abbrev pub OthersStay : Type 0
OthersStay =
    (names : List Text) (root : RootSetting) (xs ys : List LoggerSetting)
    (admits : Record → List Bool) (r : Record)
    → SameLookup xs ys
    → deliveries (record { appenders = names; root = root; loggers = xs }) admits r
    ≡ deliveries (record { appenders = names; root = root; loggers = ys }) admits r

-- no two loggers have one name
abbrev pub HaveDistinctNames : List LoggerSetting → Type 0
HaveDistinctNames loggers = IsTrue (is_distinct (map (λ logger. logger.name) loggers))

-- loggers of different names may be listed in any order: each record has the same deliveries
abbrev pub OrderChangesNothing : Type 0
OrderChangesNothing =
    (names : List Text) (root : RootSetting) (xs ys : List LoggerSetting)
    (admits : Record → List Bool) (r : Record)
    → IsPermutation xs ys
    → HaveDistinctNames xs
    → deliveries (settings_of names root xs) admits r
    ≡ deliveries (settings_of names root ys) admits r

-- a limit that no level is above, no path's level is above
abbrev pub NothingAbove : Type 0
NothingAbove =
    (s : Settings) (limit : LevelFilter) (path : List Text)
    → All (λ level. filter_rank level ≤ filter_rank limit) (all_levels s)
    → filter_rank (level_at s path) ≤ filter_rank limit

-- the whole begins with the front
abbrev pub IsPrefix : List Text → List Text → Type 0
IsPrefix front whole = (rest : List Text) × (whole ≡ front ++ rest)

-- the logger's components are a prefix of the target's
abbrev pub IsAbove : Text → LoggerSetting → Type 0
IsAbove target logger = IsPrefix (components logger.name) (components target)

-- of the loggers whose components are a prefix of the target's,
-- it is one that has the most components
abbrev pub Governs : List LoggerSetting → Text → LoggerSetting → Type 0
Governs loggers target logger =
    Contains loggers logger
    × IsAbove target logger
    × All (λ other.
    IsAbove target other → length (components other.name) ≤ length (components logger.name))
    loggers

-- the governing logger is the one that governs, and there is none where no
-- logger's components are a prefix of the target's
abbrev pub GovernorIsLongest : Type 0
GovernorIsLongest =
    (loggers : List LoggerSetting) (target : Text) → HaveDistinctNames loggers
    → ((logger : LoggerSetting)
    → (governing loggers (path_of target) ≡ Some logger) ↔ Governs loggers target logger)
    × ((governing loggers (path_of target) ≡ None)
    ↔ All (λ other. ¬ (IsAbove target other)) loggers)

-- the logger that governs the path has the name
abbrev pub is_governed_by : List LoggerSetting → Text → List Text → Bool
is_governed_by loggers name path =
    option_map_or (λ logger. bytes_eq logger.name name) (governing loggers path) false

-- if a level is set at a name, what the name governs has that level, and all else keeps its own
abbrev pub LevelIsSet : Type 0
LevelIsSet =
    (s : Settings) (name : Text) (level : LevelFilter) (path : List Text)
    → level_at (with_level s name level) path
    ≡ (if is_governed_by (with_level s name level).loggers name path
    then level else level_at s path)

-- and the name governs itself
abbrev pub NameGovernsItself : Type 0
NameGovernsItself =
    (s : Settings) (name : Text) (level : LevelFilter)
    → IsTrue (is_governed_by (with_level s name level).loggers name (path_of name))

-- a level that is set changes no path's appenders
abbrev pub PlacesStay : Type 0
PlacesStay =
    (s : Settings) (name : Text) (level : LevelFilter) (path : List Text)
    → places_at (with_level s name level) path ≡ places_at s path

-- an accepted configuration has no faults
abbrev pub Faultless : Type 0
Faultless = (s : Settings) → IsAccepted s → faults s ≡ []

-- nor does setting a level at a name add one, unless no logger may have that name
abbrev pub LevelFaults : Type 0
LevelFaults =
    (s : Settings) (name : Text) (level : LevelFilter) → IsAccepted s
    → faults (with_level s name level) ≡ (if is_valid name then [] else InvalidLogger name ∷ [])
