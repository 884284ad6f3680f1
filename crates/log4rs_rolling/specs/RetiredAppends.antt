-- What an append to a retired file adds: the file is opened for it, and closed behind it.
use Rattle.std.specs.Prelude.{◌≡◌, ◌⊎◌, ◌∷◌, ℕ, List, [], take, Option, IfSome, IsSome, Result, OnOk}
use Rattle.std.specs.Prelude.{OnErr, IfErr}
use Rattle.log4rs_rolling.specs.Change.{Change, opened, written}
use Rattle.log4rs_rolling.specs.Disk.{Disk, Grew}
use Rattle.log4rs_rolling.specs.FileChanges.{OnlyWrites, OnlyAppends}
use Rattle.log4rs_rolling.specs.declared.store.Open.TheVariants.{Append}
use Rattle.log4rs_base.specs.declared.record.Context.{Context}
use Rattle.log4rs_base.specs.declared.record.Record.{Record}
use Rattle.log4rs_base.specs.declared.error.LogError.{LogError}
use Rattle.log4rs_base.specs.declared.error.LogError.TheVariants.{Store, Memory}
use Rattle.log4rs_rolling.specs.Appends.{Failing, Reading}

-- the file of this path was opened in append mode, and then this text was written to it
abbrev pub OpenedAndWrote : List ℕ → List ℕ → List Change → Type 0
OpenedAndWrote path text added =
    (writes : List Change)
    × (added ≡ opened path Append ∷ writes)
    × OnlyWrites path writes
    × (written path writes ≡ text)

-- the same, with the whole text if the result is Ok, and else with a prefix of it, unless the
-- opening was refused
abbrev pub OpenedToWrite : List ℕ → List ℕ → Result Unit LogError → List Change → Type 0
OpenedToWrite path text result added =
    OnOk result (OpenedAndWrote path text added)
    × OnErr result ((added ≡ []) ⊎ ((n : ℕ) × OpenedAndWrote path (take n text) added))

-- the same of a record, if its text is visible
abbrev pub AddsRetired : Option Reading → Record → Context
    → List ℕ → Result Unit LogError → List Change → Type 0
AddsRetired reading r c path result added =
    OnlyAppends path Append added
    × IfSome reading (λ read. OpenedToWrite path (read r c) result added)

-- a refusal of the store, which was counted
abbrev pub IsRefusal : Disk → Disk → LogError → Type 0
IsRefusal old new fault = (fault ≡ Store) × Grew old.refusals new.refusals

-- the result is Ok, and nothing was refused, or it is a refusal
abbrev pub OkOrRefused : Result Unit LogError → Disk → Disk → Type 0
OkOrRefused result old new =
    OnOk result (new.refusals ≡ old.refusals) × IfErr result (IsRefusal old new)

-- a refusal of the store, or the error of the maker of texts; then all stayed as it was
abbrev pub FailsRetired : Option Reading → Failing → Record → Context
    → Disk → Disk → Type 0 → LogError → Type 0
FailsRetired reading fails r c old new Stayed fault =
    IsRefusal old new fault
    ⊎ (fails r c fault × (IsSome reading → fault ≡ Memory) × Stayed)
