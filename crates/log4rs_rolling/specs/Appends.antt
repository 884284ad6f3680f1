-- What an append to a rolled file adds.
use Rattle.std.specs.Prelude.{◌≡◌, ◌+◌, ◌<◌, ◌^◌, ◌-◌, ℕ, List, [], ◌∷◌, ◌++◌, length, Option, Some}
use Rattle.std.specs.Prelude.{IfSome, IsSome, IsTrue, Bool, false, Result, OnOk, ◌⊎◌, if◌then◌else◌}
use Rattle.log4rs_rolling.specs.Change.{Change, Files, replay, written, bytes_at}
use Rattle.log4rs_rolling.specs.Disk.{Disk, Calls, files_of}
use Rattle.log4rs_rolling.specs.Costs.{Costs}
use Rattle.log4rs_rolling.specs.Faults.{MayAnswer}
use Rattle.log4rs_base.specs.declared.record.Context.{Context}
use Rattle.log4rs_base.specs.declared.record.Record.{Record}
use Rattle.log4rs_base.specs.declared.error.LogError.{LogError}
use Rattle.log4rs_rolling.specs.Window.{Window, GoodWithin, NoCopies, Vacancy, Vacant, AreDistinct}
use Rattle.log4rs_rolling.specs.Asking.{Asking, Kind, BySize, Answers, is_told, is_first}
use Rattle.log4rs_rolling.specs.Asking.{asks_first}
use Rattle.log4rs_rolling.specs.Keeping.{Keeping, InWindow}
use Rattle.log4rs_rolling.specs.ArchiveEnds.{EndsUnder}
use Rattle.log4rs_rolling.specs.Window.{drops_after}
use Rattle.log4rs_rolling.specs.LogFile.{estimate}
use Rattle.log4rs_rolling.specs.Moves.{each_to_the_older}
use Rattle.log4rs_rolling.specs.Segments.{Segments, Shows, ShowsAfter}
use Rattle.log4rs_rolling.specs.FileChanges.{IsBeginning}

-- the text of each record in its context
abbrev pub Reading : Type 0
Reading = Record → Context → List ℕ

-- the errors that may come in place of the text of a record in its context
abbrev pub Failing : Type 1
Failing = Record → Context → LogError → Type 0

-- the length at which the trigger is called: before the record's first byte, or after its last
abbrev pub asked_length : Kind → List ℕ → Files → List Change → ℕ
asked_length kind path files added =
    estimate
    (length (bytes_at files path) + (if is_first kind then 0 else length (written path added)))

-- the bytes of a record behind which the trigger is called
abbrev pub asked_behind : Kind → List ℕ → List ℕ
asked_behind kind bytes = if is_first kind then [] else bytes

-- the decision of a visible trigger is the one that it has at that length
abbrev pub SaidAt : Asking → Context → Option Bool → ℕ → Type 0
SaidAt asking context answer len =
    IsTrue (is_told asking.kind) → IfSome answer (Answers asking len context)

-- an append with this decision of its trigger, or without a call of it: at most so many archives
-- were dropped, the vacant name has no file, the decision is the one at that length, and each kept
-- archive ends where one ended before or where the trigger fired
pub record Appended
    (asking : Asking) (context : Context) (answer : Option Bool) (before now : Vacancy)
    (window : Window) (files : Files) (added : List Change) : Type 0 where
  pub good : NoCopies added → GoodWithin (drops_after answer before) window files added
  pub vacant : Vacant now window.active (replay files added)
  pub said : SaidAt asking context answer (asked_length asking.kind window.active files added)
  pub ends : IsTrue (is_told asking.kind)
      → EndsUnder answer (asked_behind asking.kind (written window.active added)) window files added

-- an append to a window that stands
abbrev pub AppendedTo : Asking → Context → Option Bool
    → Keeping → Keeping → List ℕ → Disk → Disk → Type 0
AppendedTo asking context answer before now path old new =
    InWindow before path old (λ window. Calls old new
    (Appended asking context answer (before.vacant path) (now.vacant path) window
    (files_of old)))

-- what was written of a text: a prefix, and all of it if the result is Ok
abbrev pub WroteText : List ℕ → List ℕ → Result Unit LogError → List Change → Type 0
WroteText path text result added =
    IsBeginning (written path added) text × OnOk result (written path added ≡ text)

-- what was written of a record, if its text is visible
abbrev pub Adds : Option Reading → Record → Context
    → List ℕ → Result Unit LogError → List Change → Type 0
Adds reading r c path result added = IfSome reading (λ read. WroteText path (read r c) result added)

-- and what writing a record costs, if its text is visible: one operation for each byte, and so
-- many more
abbrev pub CostsText : Option Reading → Record → Context
    → ℕ → Result Unit LogError → Disk → Disk → Type 0
CostsText reading r c more result old new =
    IfSome reading (λ read. Costs (more + length (read r c)) result old new)

-- none or all of a record was written, if its text is visible
abbrev pub AddsNoneOrAll : Option Reading → Record → Context → List ℕ → List Change → Type 0
AddsNoneOrAll reading r c path added =
    IfSome reading (λ read. (written path added ≡ []) ⊎ (written path added ≡ read r c))

-- the errors of an append with built-in parts: its own, or the one of the maker of texts, and
-- nothing was written then
abbrev pub FailsBy : Failing → Record → Context → List ℕ → Disk → Disk → LogError → Type 0
FailsBy fails r c path old new fault =
    MayAnswer old.refusals new.refusals fault
    ⊎ (fails r c fault × Calls old new (λ added. written path added ≡ []))

-- a trigger that is called afterwards decided only behind the whole text
abbrev pub AnsweredBehind : Option Reading → Record → Context → Asking → Keeping
    → List ℕ → Option Bool → Disk → Disk → Type 0
AnsweredBehind reading r c asking keeping path answer old new =
    IfSome reading (λ read.
    asks_first asking.kind ≡ Some false
    → IsTrue keeping.is_built_in
    → IsSome answer
    → Calls old new (λ added. written path added ≡ read r c))

-- the moves of a rotation without a job in the background
abbrev pub IsWhole : Keeping → List ℕ → List (List ℕ) → Type 0
IsWhole keeping path older = keeping.moves path ≡ Some (each_to_the_older (older ++ path ∷ []))

-- an append with a trigger by size: the segments grow by the record, if the result is Ok
abbrev pub Segmented : Option Reading → Record → Context → Asking
    → Keeping → List ℕ → Result Unit LogError → Disk → Disk → Type 0
Segmented reading r c asking keeping path result old new =
    IfSome keeping.archives (λ older.
    IfSome reading (λ read.
    (limit : ℕ) → asking.kind ≡ BySize limit
    → limit < 2 ^ 64 - 1
    → IsWhole keeping path older
    → 0 < length older
    → AreDistinct (older ++ path ∷ [])
    → OnOk result
    ((segments : Segments)
    → Calls old new (λ added.
    Shows segments older path (files_of old)
    → ShowsAfter limit segments (read r c) older path
    (replay (files_of old) added)))))

-- one append, its result, and the decision of its trigger, if that was called
abbrev pub OneAppend : Asking → Option Reading → Record → Context → Result Unit LogError
    → Option Bool → Vacancy → Vacancy → Window → Files → List Change → Type 0
OneAppend asking reading r c outcome answer before now window files added =
    Appended asking c answer before now window files added
    × Adds reading r c window.active outcome added
