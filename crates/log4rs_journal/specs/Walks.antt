-- What clauses see of a walk over a journal.
use Rattle.std.specs.Prelude.{◌≡◌, ℕ, ◌+◌, ◌-◌, ◌≤◌, Option, IfSome, IfNone}
use Rattle.log4rs_journal.specs.Notes.{IsOfEntry, text_in}
use Rattle.log4rs_journal.specs.Receipts.{Journal, IsReceiptOf, pattern_of, place_of, text_of}
use Rattle.log4rs_journal.specs.declared.walk.Notes.{Notes}
use Rattle.log4rs_journal.specs.declared.walk.Shown.{Shown}

-- the journal that is walked
abbrev pub journal_of : Notes → Journal
journal_of walk = walk.notes.now

-- the place from which it goes on
abbrev pub next_place : Notes → ℕ
next_place walk = walk.places.index

-- where it ends
abbrev pub end_of : Notes → ℕ
end_of walk = walk.places.end

-- how many places are ahead
abbrev pub places_ahead : Notes → ℕ
places_ahead walk = end_of walk - next_place walk

-- what is shown stood ahead, the walk goes on right behind it, its receipt is one of this journal,
-- which stands for its text, and the text is that of the entry that it carries
pub record IsShown (walk after : Notes) (shown : Shown) : Type 0 where
  pub ahead : next_place walk ≤ place_of shown.receipt
  pub passed : next_place after ≡ place_of shown.receipt + 1
  pub receipt : IsReceiptOf (journal_of walk) shown.receipt
  pub shows : text_in shown.note.now ≡ text_of shown.receipt
  pub text : IsOfEntry (pattern_of (journal_of walk)) shown.note.now

-- one step of a walk, which is over only at its end
pub record Goes (walk : Notes) (item : Option Shown) (after : Notes) : Type 0 where
  pub journal : journal_of after ≡ journal_of walk
  pub end : end_of after ≡ end_of walk
  pub on : next_place walk ≤ next_place after
  pub shown : IfSome item (IsShown walk after)
  pub over : IfNone item (end_of walk ≤ next_place after)
