-- The two parts of an append: what comes before a record is written, and what comes then.
use Rattle.std.specs.Prelude.{◌≡◌, ◌+◌, ℕ, List, [], ◌∷◌, ◌++◌, length, Bool, true, false, Option, Some}
use Rattle.std.specs.Prelude.{None, IfSome, IsSome, IsTrue, Result, OnOk}
use Rattle.log4rs_rolling.specs.Change.{Change, Files, replay, removed, written, bytes_at}
use Rattle.log4rs_rolling.specs.Disk.{Disk, Calls, files_of}
use Rattle.log4rs_base.specs.declared.record.Context.{Context}
use Rattle.log4rs_base.specs.declared.record.Record.{Record}
use Rattle.log4rs_rolling.specs.declared.store.Open.{Open}
use Rattle.log4rs_base.specs.declared.error.LogError.{LogError}
use Rattle.log4rs_rolling.specs.Window.{Window, GoodWithin, NoCopies, Vacancy, Vacant, around}
use Rattle.log4rs_rolling.specs.Asking.{Asking, Kind, Untold, BySize, First, is_told}
use Rattle.log4rs_rolling.specs.Keeping.{Keeping, Stands}
use Rattle.log4rs_rolling.specs.ArchiveEnds.{EndsUnder}
use Rattle.log4rs_rolling.specs.Window.{drops_after}
use Rattle.log4rs_rolling.specs.LogFile.{estimate}
use Rattle.log4rs_rolling.specs.Moves.{MovedAll, MovedPartly}
use Rattle.log4rs_rolling.specs.FileChanges.{OnlyWrites, OnlyAppends, OnlyOpens}
use Rattle.log4rs_rolling.specs.Appends.{Reading, SaidAt}

-- one part, in which a trigger was called at this length, behind these bytes, if it was
pub record Part
    (asking : Asking) (context : Context) (answer : Option Bool)
    (before now : Vacancy) (len : ℕ) (asked : List ℕ)
    (window : Window) (files : Files) (added : List Change) : Type 0 where
  pub good : NoCopies added → GoodWithin (drops_after answer before) window files added
  pub vacant : Vacant now window.active (replay files added)
  pub said : SaidAt asking context answer len
  pub ends : EndsUnder answer asked window files added

abbrev pub Prepared : Bool → Asking → Context → Option Bool
    → Keeping → Keeping → Type 0 → List ℕ → Disk → Disk → Type 0
Prepared append asking context answer before now A path old new =
    IfSome before.archives (λ older.
    let window = around older (before.waiting path) path in
    IsTrue append
    → A
    → Stands window (before.vacant path) old
    → Calls old new (λ added.
    (written path added ≡ [])
    × Part asking context answer (before.vacant path) (now.vacant path)
    (estimate (length (bytes_at (files_of old) path))) [] window (files_of old) added))

abbrev pub Finished : Asking → Context → Option Bool → Keeping
    → Keeping → Type 0 → List ℕ → Disk → Disk → Type 0
Finished asking context answer before now A path old new =
    IfSome before.archives (λ older.
    let window = around older (before.waiting path) path in
    A
    → Stands window (before.vacant path) old
    → Calls old new (λ added.
    Part asking context answer (before.vacant path) (now.vacant path)
    (estimate (length (bytes_at (files_of old) path) + length (written path added)))
    (written path added) window (files_of old) added))

-- the file was opened and written to, and in between a prefix of these moves was made
abbrev pub MovedBetween : List ℕ → Open → List (List ℕ × List ℕ) → Files → List Change → Type 0
MovedBetween path how moves files added =
    (front : List Change) × (moved : List Change) × (behind : List Change)
    × (added ≡ front ++ (moved ++ behind))
    × OnlyAppends path how front
    × MovedPartly (replay files front) moves moved
    × OnlyAppends path how behind

-- if the moves of a roller are visible, nothing else was changed, whatever was refused
abbrev pub AroundMoves : Keeping → List ℕ → Open → Disk → Disk → Type 0
AroundMoves keeping path how old new =
    IfSome (keeping.moves path) (λ moves.
    Calls old new (MovedBetween path how moves (files_of old)))

-- how a roller with the result Ok takes a file away, as far as that is known: by its moves, or by
-- the removal of the file
abbrev pub TakesAway : Keeping → List ℕ → Files → List Change → Type 0
TakesAway keeping path files added =
    IfSome (keeping.moves path) (λ moves. MovedAll files moves added)
    × (IsTrue keeping.removes → added ≡ removed path ∷ [])

-- if the trigger fired, the file was taken away like this, and otherwise nothing was done
abbrev pub TakenAfter : Option Bool → (Files → List Change → Type 0)
    → Files → List Change → Type 0
TakenAfter (Some true) Takes files others = Takes files others
TakenAfter (Some false) Takes files others = others ≡ []
TakenAfter None Takes files others = others ≡ []

-- a text was written, and then the file was taken away, if it was
abbrev pub WroteAndTook : List ℕ → List ℕ → Option Bool
    → (Files → List Change → Type 0) → Files → List Change → Type 0
WroteAndTook path text answer Takes files added =
    (writes : List Change) × (others : List Change)
    × (added ≡ writes ++ others)
    × OnlyWrites path writes
    × (written path writes ≡ text)
    × TakenAfter answer Takes (replay files writes) others

-- the same, and the decision of a visible trigger is the one at the length with the text
abbrev pub TextIn : List ℕ → Asking → Context → Option Bool
    → (Files → List Change → Type 0) → List ℕ → Files → List Change → Type 0
TextIn text asking context answer Takes path files added =
    SaidAt asking context answer (estimate (length (bytes_at files path) + length text))
    × WroteAndTook path text answer Takes files added

-- with the result Ok, the whole text was written, and a visible trigger was called, unless it is
-- called first
abbrev pub FinishedText : List ℕ → Bool → Asking → Context → Option Bool
    → Result Unit LogError → Keeping → Type 0 → List ℕ → Disk → Disk → Type 0
FinishedText text first asking context answer result keeping A path old new =
    A
    → OnOk result
    ((first ≡ false → IsTrue (is_told asking.kind) → IsSome answer)
    × Calls old new
    (TextIn text asking context answer (TakesAway keeping path) path (files_of old)))

-- the file was opened if it was closed, a visible trigger decided as it does at the length then,
-- and if it fired the file was taken away and opened again
abbrev pub OpenedAndTook : List ℕ → Open → Asking → Context → Option Bool
    → (Files → List Change → Type 0) → Files → List Change → Type 0
OpenedAndTook path how asking context answer Takes files added =
    (opens : List Change) × (others : List Change) × (again : List Change)
    × (added ≡ opens ++ others ++ again)
    × OnlyOpens path how opens
    × SaidAt asking context answer (estimate (length (bytes_at (replay files opens) path)))
    × TakenAfter answer Takes (replay files opens) others
    × OnlyOpens path how again

-- what comes before the writing, if a trigger is called first and the result is Ok
abbrev pub PreparedMoves : Bool → Open → Asking → Context → Option Bool
    → Result Unit LogError → Keeping → Type 0 → List ℕ → Disk → Disk → Type 0
PreparedMoves first how asking context answer result keeping A path old new =
    first ≡ true
    → A
    → OnOk result
    ((IsTrue (is_told asking.kind) → IsSome answer)
    × Calls old new
    (OpenedAndTook path how asking context answer (TakesAway keeping path) (files_of old)))

-- all changes of an append with a trigger that is called afterwards: the file was opened if it was
-- closed, the text was written, and the file was taken away if the trigger fired
abbrev pub OpenedWroteTook : List ℕ → Open → List ℕ → Asking → Context → Option Bool
    → (Files → List Change → Type 0) → Files → List Change → Type 0
OpenedWroteTook path how text asking context answer Takes files added =
    (opens : List Change) × (others : List Change)
    × (added ≡ opens ++ others)
    × OnlyOpens path how opens
    × TextIn text asking context answer Takes path (replay files opens) others

-- and with one that is called first
abbrev pub OpenedTookWrote : List ℕ → Open → List ℕ → Asking → Context → Option Bool
    → (Files → List Change → Type 0) → Files → List Change → Type 0
OpenedTookWrote path how text asking context answer Takes files added =
    (front : List Change) × (writes : List Change)
    × (added ≡ front ++ writes)
    × OpenedAndTook path how asking context answer Takes files front
    × OnlyWrites path writes
    × (written path writes ≡ text)

-- all changes of an append with a trigger of this kind, which took the file away like this
abbrev pub WholeBy : Kind → List ℕ → Open → List ℕ → Asking → Context → Option Bool
    → (Files → List Change → Type 0) → Files → List Change → Type 0
WholeBy Untold path how text asking context answer Takes files added = Unit {0}
WholeBy (BySize limit) path how text asking context answer Takes files added =
    OpenedWroteTook path how text asking context answer Takes files added
WholeBy First path how text asking context answer Takes files added =
    OpenedTookWrote path how text asking context answer Takes files added

-- an append with the result Ok and a visible trigger: that was called, and these are all changes
abbrev pub Whole : Option Reading → Record → Context → Asking → Keeping → Open
    → List ℕ → Result Unit LogError → Option Bool → Disk → Disk → Type 0
Whole reading r c asking keeping how path result answer old new =
    IfSome reading (λ read.
    IsTrue (is_told asking.kind)
    → OnOk result
    (IsSome answer
    × Calls old new
    (WholeBy asking.kind path how (read r c) asking c answer (TakesAway keeping path)
    (files_of old))))
