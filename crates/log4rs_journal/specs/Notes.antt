-- What clauses see of a text in a journal.
use Rattle.std.specs.Prelude.{ℕ, List, string_bytes}
use Rattle.log4rs_base.specs.Text.{Text}
use Rattle.log4rs_base.specs.declared.record.Entry.{Entry}
use Rattle.log4rs_journal.specs.Texts.{IsTextOf}
use Rattle.log4rs_journal.specs.declared.note.Note.{Note}

-- the text
abbrev pub text_in : Note → Text
text_in note = string_bytes note.text

-- the record and the context that it carries
abbrev pub entry_in : Note → Entry
entry_in note = note.carried.entry

-- the text is what the pattern makes of the entry that it carries
abbrev pub IsOfEntry : List ℕ → Note → Type 0
IsOfEntry pattern note =
    IsTextOf pattern (entry_in note).logged (entry_in note).context (text_in note)
