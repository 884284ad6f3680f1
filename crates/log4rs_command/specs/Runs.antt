-- What a run does.
use Rattle.std.specs.Prelude.{◌≡◌, ◌*◌, ℕ, Bool, true, List, ◌++◌, Option, codes}
use Rattle.std.specs.Fmt.{decimal}
use Rattle.std.specs.Io.KnownBytes.{Appends}
use Rattle.log4rs_base.specs.Text.{Text}
use Rattle.log4rs_command.specs.Prints.{Prints}
use Rattle.log4rs_command.specs.ByFile.{LogsFile}
use Rattle.log4rs_command.specs.Arguments.{Asked, AreArguments, by_file, by_pattern, by_threads}
use Rattle.log4rs_command.specs.Arguments.{for_help, for_version}
use Rattle.log4rs_settings.specs.Answers.{Answered}

-- what is said of so many receipts
abbrev pub receipts_line : ℕ → Text
receipts_line count = decimal count ++ codes " receipts read back\n"

-- what is said of a version
abbrev pub version_line : Text → Text
version_line version = codes "log4rs-run " ++ version ++ codes "\n"

-- a run that came to its end, by what its arguments ask for: the program's help and version,
-- what its source answered so far, its input, and its output before and after
abbrev pub RunsAs : Asked → Text → Text → Answered → Option (List ℕ)
    → Option (List ℕ) → Option (List ℕ) → Bool → Type 0
RunsAs (by_pattern pattern settings) help version source input before after all_well =
    Prints pattern settings input before after all_well
RunsAs (by_file path given) help version source input before after all_well =
    LogsFile path given source input all_well × (after ≡ before)
-- each receipt of each thread was read back
RunsAs (by_threads threads count) help version source input before after all_well =
    (all_well ≡ true) × Appends before after (receipts_line (threads * count))
RunsAs for_version help version source input before after all_well =
    (all_well ≡ true) × Appends before after (version_line version)
RunsAs for_help help version source input before after all_well =
    (all_well ≡ true) × Appends before after help

-- the same, by its arguments
abbrev pub Runs : List Text → Text → Text → Answered → Option (List ℕ)
    → Option (List ℕ) → Option (List ℕ) → Bool → Type 0
Runs args help version source input before after all_well =
    (asked : Asked) × AreArguments args asked
    × RunsAs asked help version source input before after all_well
