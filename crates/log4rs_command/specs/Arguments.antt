-- Arguments of the program.
use Rattle.std.specs.Prelude.{◌≡◌, ◌≢◌, ◌≤◌, ℕ, List, [], ◌∷◌, ◌++◌, Some, All, codes, map}
use Rattle.std.specs.Prelude.{Option, None, option_map}
use Rattle.std.specs.List.{AllZip}
use Rattle.std.specs.Str.Parse.{IsNumeral, digits_value}
use Rattle.log.specs.Level.{parse_filter, parse_level}
use Rattle.log.specs.declared.level.Level.{Level}
use Rattle.log.specs.declared.level.LevelFilter.{LevelFilter}
use Rattle.log4rs_command.specs.declared.arguments.Setting as source
use Rattle.log4rs_command.specs.declared.arguments.Plain as held
use Rattle.log4rs_command.specs.declared.arguments.Command.{Command}
use Rattle.log4rs_command.specs.declared.arguments.Command.TheVariants as commands
use Rattle.log4rs_command.specs.declared.arguments.ArgumentsError.{ArgumentsError}
use Rattle.log4rs_command.specs.declared.arguments.ArgumentsError.TheVariants.{Usage, Memory}

-- a level for a name, which is empty for the root
pub record Setting : Type 0 where
  pub name : List ℕ
  pub level : LevelFilter

-- the setting that the program holds
abbrev pub setting_of : source.Setting → Setting
setting_of s = record { name = s.name.now; level = s.level }

abbrev pub asked_settings : List source.Setting → List Setting
asked_settings settings = map setting_of settings

abbrev pub equals_sign : ℕ
equals_sign = 61

-- an argument `NAME=LEVEL`: the name of the level, in any case, stands after the last `=`
pub record IsSetting (arg : List ℕ) (setting : Setting) : Type 0 where
  pub word : List ℕ
  pub parts : arg ≡ setting.name ++ (equals_sign ∷ word)
  pub word_begins : All (λ b. b ≢ equals_sign) word
  pub names : parse_filter word ≡ Some setting.level

abbrev pub IsNoSetting : List ℕ → Type 0
IsNoSetting arg = (setting : Setting) → ¬ IsSetting arg setting

-- the level and the target of lines that tell of no record
pub record Plain : Type 0 where
  pub level : Level
  pub target : List ℕ

-- those that the program holds
abbrev pub plain_of : held.Plain → Plain
plain_of p = record { level = p.level; target = p.target.now }

-- an argument of ASCII digits, one or more, which write a number between two others
pub record IsNumber (arg : List ℕ) (least most number : ℕ) : Type 0 where
  pub digits : IsNumeral 10 arg
  pub value : digits_value 10 arg ≡ number
  pub low : least ≤ number
  pub high : number ≤ most

abbrev pub IsNoNumber : List ℕ → ℕ → ℕ → Type 0
IsNoNumber arg least most = (number : ℕ) → ¬ IsNumber arg least most number

-- what arguments ask for: records by a pattern and settings,
-- or by the configuration in a file, there also of plain lines, or threads and records of each,
-- or the program's version, or its help
pub data Asked : Type 0 where
  by_pattern : List ℕ → List Setting → Asked
  by_file : List ℕ → Option Plain → Asked
  by_threads : ℕ → ℕ → Asked
  for_version : Asked
  for_help : Asked

-- what a command of the program asks for
abbrev pub asked_of : Command → Asked
asked_of (commands.Pattern pattern settings) =
    by_pattern pattern.now (asked_settings settings.items)
asked_of (commands.File path plain) = by_file path.now (option_map plain_of plain)
asked_of (commands.Threads threads count) = by_threads threads count
asked_of commands.Version = for_version
asked_of commands.Help = for_help

-- a number of threads from 1 to 16, and behind it one number of records, up to 1000
abbrev pub AreNumbers : List ℕ → List (List ℕ) → ℕ → ℕ → Type 0
AreNumbers first (second ∷ []) threads count =
    IsNumber first 1 16 threads × IsNumber second 0 1000 count
AreNumbers first rest threads count = ⊥

-- nothing; or `--plain`, the name of a level in any case, and a target
abbrev pub ArePlain : List (List ℕ) → Option Plain → Type 0
ArePlain [] None = Unit {0}
ArePlain (option ∷ word ∷ target ∷ []) (Some plain) =
    (option ≡ codes "--plain") × (parse_level word ≡ Some plain.level) × (target ≡ plain.target)
ArePlain args plain = ⊥

-- `pattern`, a pattern, and one argument for each setting;
-- or `file`, a path, and what is said of plain lines;
-- or `threads` and both numbers; or `--version` alone; or `--help` alone
abbrev pub AreArguments : List (List ℕ) → Asked → Type 0
AreArguments [] asked = ⊥
AreArguments (command ∷ []) for_version = command ≡ codes "--version"
AreArguments (command ∷ []) for_help = command ≡ codes "--help"
AreArguments (command ∷ []) asked = ⊥
AreArguments (command ∷ second ∷ rest) (by_pattern pattern settings) =
    (command ≡ codes "pattern") × (second ≡ pattern) × AllZip IsSetting rest settings
AreArguments (command ∷ second ∷ rest) (by_file path plain) =
    (command ≡ codes "file") × (second ≡ path) × ArePlain rest plain
AreArguments (command ∷ second ∷ rest) (by_threads threads count) =
    (command ≡ codes "threads") × AreNumbers second rest threads count
AreArguments (command ∷ second ∷ rest) asked = ⊥

-- arguments that are no settings, or want of memory
abbrev pub RefusesSettings : List (List ℕ) → ArgumentsError → Type 0
RefusesSettings args Usage = (settings : List Setting) → ¬ AllZip IsSetting args settings
RefusesSettings args Memory = Unit {0}

-- nothing that is said of plain lines
abbrev pub RefusesPlain : List (List ℕ) → ArgumentsError → Type 0
RefusesPlain args Usage = (plain : Option Plain) → ¬ ArePlain args plain
RefusesPlain args Memory = Unit {0}

-- no two such numbers
abbrev pub RefusesNumbers : List ℕ → List (List ℕ) → ArgumentsError → Type 0
RefusesNumbers first rest Usage = (threads count : ℕ) → ¬ AreNumbers first rest threads count
RefusesNumbers first rest Memory = Unit {0}

-- wrong arguments, or want of memory
abbrev pub RefusesArguments : List (List ℕ) → ArgumentsError → Type 0
RefusesArguments args Usage = (asked : Asked) → ¬ AreArguments args asked
RefusesArguments args Memory = Unit {0}
