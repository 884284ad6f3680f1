-- What is said of the lines of an input.
use Rattle.std.specs.Prelude.{◌≡◌, ◌⊎◌, Bool, true, false, List, [], ◌∷◌, Option, None, Some}
use Rattle.log.specs.declared.level.Level.{Level}
use Rattle.log4rs_base.specs.Text.{Text}
use Rattle.log4rs_command.specs.Arguments.{Plain}
use Rattle.log4rs_command.specs.Line.{IsLine, IsNoLine}

-- a line tells of a record
abbrev pub TellsOfRecord : Text → Type 0
TellsOfRecord line = (level : Level) × (target message : Text) × IsLine line level target message

-- whether each of these lines tells of a record
abbrev pub AreLines : List Text → Bool → Type 0
AreLines [] all = all ≡ true
AreLines (line ∷ lines) all =
    (TellsOfRecord line × AreLines lines all)
    ⊎ (IsNoLine line × (all ≡ false) × ((others : Bool) × AreLines lines others))

-- whether each of these lines becomes a record: where a level and a target are given, all do
abbrev pub AreRead : Option Plain → List Text → Bool → Type 0
AreRead None lines all = AreLines lines all
AreRead (Some given) lines all = all ≡ true
