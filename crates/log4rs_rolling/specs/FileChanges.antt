-- Openings of one file, writes to it, and beginnings of texts.
use Rattle.std.specs.Prelude.{◌≡◌, ◌+◌, ℕ, Bool, List, [], ◌∷◌, length, take, if◌then◌else◌, Option}
use Rattle.std.specs.Prelude.{Some, None}
use Rattle.log4rs_rolling.specs.declared.store.Open.{Open}
use Rattle.log4rs_rolling.specs.declared.store.Open.TheVariants.{Append, Truncate}
use Rattle.log4rs_rolling.specs.Change.{Change, opened, wrote, renamed, copied, removed, written}
use Rattle.log4rs_rolling.specs.Disk.{Disk, open_path}

-- a file is opened so that what it holds stays, or is gone
abbrev pub way : Bool → Open
way append = if append then Append else Truncate

-- the changes open this path in this way, and do nothing else
abbrev pub OnlyOpens : List ℕ → Open → List Change → Type 0
OnlyOpens path how [] = Unit {0}
OnlyOpens path how (opened at mode ∷ changes) =
    (at ≡ path) × (mode ≡ how) × OnlyOpens path how changes
OnlyOpens path how (wrote at bytes ∷ changes) = ⊥
OnlyOpens path how (renamed from to ∷ changes) = ⊥
OnlyOpens path how (copied from to ∷ changes) = ⊥
OnlyOpens path how (removed at ∷ changes) = ⊥

-- the changes open this path in this way and write to it, and do nothing else
abbrev pub OnlyAppends : List ℕ → Open → List Change → Type 0
OnlyAppends path how [] = Unit {0}
OnlyAppends path how (opened at mode ∷ changes) =
    (at ≡ path) × (mode ≡ how) × OnlyAppends path how changes
OnlyAppends path how (wrote at bytes ∷ changes) = (at ≡ path) × OnlyAppends path how changes
OnlyAppends path how (renamed from to ∷ changes) = ⊥
OnlyAppends path how (copied from to ∷ changes) = ⊥
OnlyAppends path how (removed at ∷ changes) = ⊥

-- how often the changes open a file
abbrev pub openings : List Change → ℕ
openings [] = 0
openings (opened at how ∷ changes) = openings changes + 1
openings (wrote at bytes ∷ changes) = openings changes
openings (renamed from to ∷ changes) = openings changes
openings (copied from to ∷ changes) = openings changes
openings (removed at ∷ changes) = openings changes

-- once where no file is open, and else never
abbrev pub once_if_closed : Option (List ℕ) → ℕ
once_if_closed None = 1
once_if_closed (Some at) = 0

-- a part that the whole begins with
abbrev pub IsBeginning : List ℕ → List ℕ → Type 0
IsBeginning part whole = take (length part) whole ≡ part

-- the changes are writes to this path, and nothing else
abbrev pub OnlyWrites : List ℕ → List Change → Type 0
OnlyWrites path [] = Unit {0}
OnlyWrites path (wrote at bytes ∷ changes) = (at ≡ path) × OnlyWrites path changes
OnlyWrites path (opened at how ∷ changes) = ⊥
OnlyWrites path (renamed from to ∷ changes) = ⊥
OnlyWrites path (copied from to ∷ changes) = ⊥
OnlyWrites path (removed at ∷ changes) = ⊥

-- the first n of these bytes were written to the open file, and nothing else was done
abbrev pub WroteFirst : Disk → List ℕ → ℕ → List Change → Type 0
WroteFirst disk bytes n added =
    OnlyWrites (open_path disk) added × (written (open_path disk) added ≡ take n bytes)
