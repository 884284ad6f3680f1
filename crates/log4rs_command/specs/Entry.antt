-- The entries of lines.
use Rattle.std.specs.Prelude.{◌≡◌, ◌⊎◌, List, [], ◌∷◌, Option, None, Some, false, codes}
use Rattle.std.specs.Prelude.{string_bytes}
use Rattle.std.specs.Option.{option_map}
use Rattle.std.specs.Str.Lossy.{utf8_lossy}
use Rattle.jiff.specs.Words.{plain_zone}
use Rattle.jiff_tz.specs.declared.timezone.TimeZone.TheVariants.{UTC}
use Rattle.log4rs_base.specs.Text.{Text}
use Rattle.log4rs_base.specs.declared.record.Context.{Context}
use Rattle.log4rs_base.specs.declared.record.Entry.{Entry}
use Rattle.log4rs_base.specs.declared.record.Record.{Record}
use Rattle.log4rs_command.specs.Arguments.{Plain}
use Rattle.log4rs_command.specs.Line.{IsLine, IsNoLine}

-- all of a context but its moment and its random word
pub record IsContext (c : Context) : Type 0 where
  pub zone : plain_zone c.zone ≡ UTC
  pub thread : option_map (λ s. string_bytes s) c.thread ≡ Some (codes "main")
  pub thread_id : c.thread_id ≡ 0
  pub tid : c.tid ≡ 0
  pub pid : c.pid ≡ 0
  pub mdc : c.mdc.entries ≡ []
  pub debug : c.debug ≡ false

-- the record says what the line says, and nothing else
pub record IsRecord (line : Text) (r : Record) : Type 0 where
  pub says : IsLine line r.level (string_bytes r.target) (string_bytes r.message)
  pub module_path : r.module_path ≡ None
  pub file : r.file ≡ None
  pub number : r.line ≡ None

-- the message is the whole line, with U+FFFD for bytes that are not UTF-8;
-- the level and the target are given, and there is nothing else
pub record IsPlainRecord (given : Plain) (line : Text) (r : Record) : Type 0 where
  pub level : r.level ≡ given.level
  pub target : string_bytes r.target ≡ given.target
  pub message : string_bytes r.message ≡ utf8_lossy line
  pub module_path : r.module_path ≡ None
  pub file : r.file ≡ None
  pub number : r.line ≡ None

-- what a line becomes: the record that it tells of, or the plain one where it tells of none
abbrev pub IsRecordOf : Option Plain → Text → Record → Type 0
IsRecordOf None line r = IsRecord line r
IsRecordOf (Some given) line r = IsRecord line r ⊎ (IsNoLine line × IsPlainRecord given line r)

-- a line that becomes no record
abbrev pub IsMalformed : Option Plain → Text → Type 0
IsMalformed None line = IsNoLine line
IsMalformed (Some given) line = ⊥

abbrev pub IsEntryOf : Option Plain → Text → Entry → Type 0
IsEntryOf given line e = IsRecordOf given line e.logged × IsContext e.context

abbrev pub IsEntry : Text → Entry → Type 0
IsEntry line e = IsRecord line e.logged × IsContext e.context

-- an entry for each line, in order, but none for a malformed one
abbrev pub AreEntries : List Text → List Entry → Type 0
AreEntries [] [] = Unit {0}
AreEntries [] (e ∷ entries) = ⊥
AreEntries (line ∷ lines) [] = IsNoLine line × AreEntries lines []
AreEntries (line ∷ lines) (e ∷ entries) =
    (IsNoLine line × AreEntries lines (e ∷ entries)) ⊎ (IsEntry line e × AreEntries lines entries)
