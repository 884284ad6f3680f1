-- Which appenders leave the configuration in force.
use Rattle.std.specs.Prelude.{◌≡◌, ◌⊎◌, List, Contains, string_bytes, ⊤}
use Rattle.log4rs_base.specs.Text.{Text}
use Rattle.log4rs_config.specs.declared.runtime.shared.SharedAppender.{SharedAppender}
use Rattle.log4rs_build.specs.Keeping.{IsKept}
use Rattle.log4rs_plans.specs.Effective.{Planned}
use Rattle.log4rs_settings.specs.Plan.{AppenderPlan, console}

-- what is asked for has this name and is kept
abbrev pub IsKeptAs : List Planned → Text → Planned → Type 0
IsKeptAs in_force name asked = (asked.0 ≡ name) × IsKept in_force asked

-- one of those that are asked for has this name and is kept
abbrev pub IsKeptUnder : List Planned → List Planned → Text → Type 0
IsKeptUnder asked in_force name =
    (one : Planned) × Contains asked one × IsKeptAs in_force name one

-- it is a console
abbrev pub IsConsole : AppenderPlan → Type 0
IsConsole (console target tty_only encoder) = ⊤
IsConsole _ = ⊥

-- what is planned has this name and is a console
abbrev pub IsConsoleAs : Text → Planned → Type 0
IsConsoleAs name one = (one.0 ≡ name) × IsConsole one.1

-- one in force has this name and is a console
abbrev pub IsConsoleIn : List Planned → Text → Type 0
IsConsoleIn in_force name = (one : Planned) × Contains in_force one × IsConsoleAs name one

-- the appender of a name is left alone: it is kept, or a console
abbrev pub IsLeftAlone : List Planned → List Planned → Text → Type 0
IsLeftAlone asked in_force name = IsKeptUnder asked in_force name ⊎ IsConsoleIn in_force name

-- an appender is present, and is not left alone
abbrev pub Leaves : {B : Type 0} → List Planned → List Planned → List (SharedAppender B)
    → SharedAppender B → Type 0
Leaves asked in_force present one =
    Contains present one × ¬ IsLeftAlone asked in_force (string_bytes one.name)
