-- Lines whose records are logged one after another.
use Rattle.std.specs.Prelude.{◌≡◌, ◌⊎◌, Bool, true, false, List, [], ◌∷◌, Option}
use Rattle.log4rs_base.specs.Text.{Text}
use Rattle.log4rs_base.specs.declared.record.Context.{Context}
use Rattle.log4rs_base.specs.declared.record.Entry.{Entry}
use Rattle.log4rs_base.specs.declared.record.Record.{Record}
use Rattle.log4rs_command.specs.Arguments.{Plain}
use Rattle.log4rs_command.specs.Entry.{IsEntryOf, IsMalformed}
use Rattle.log4rs_command.specs.Seen.{both_seen}
use Rattle.log4rs_command.specs.declared.seen.Seen.{Seen}

-- what is seen of lines, by whether each was well formed and whether each append was well
abbrev pub seen_of : Bool → Bool → Seen
seen_of all_read all_logged = record { all_read = all_read; all_logged = all_logged }

-- over what is told of a record that was logged, and the level and target of plain lines
module _
    {S : Type 0} (Logged : S → Record → Context → Bool → S → Type 0) (given : Option Plain) where
  -- one line, and what is seen of it: it is malformed, or its record was logged
  abbrev pub LogsLine : Text → S → S → Seen → Type 0
  LogsLine line before after seen =
      (IsMalformed given line × (after ≡ before) × (seen ≡ seen_of false true))
      ⊎ ((e : Entry) × (is_well : Bool)
      × IsEntryOf given line e
      × Logged before e.logged e.context is_well after
      × (seen ≡ seen_of true is_well))

  -- one line after another, and what is seen of all
  abbrev pub LogsLines : List Text → S → S → Seen → Type 0
  LogsLines [] before after seen = (after ≡ before) × (seen ≡ seen_of true true)
  LogsLines (line ∷ lines) before after seen =
      (between : S) × (first : Seen) × (rest : Seen)
      × LogsLine line before between first
      × LogsLines lines between after rest
      × (seen ≡ both_seen first rest)
