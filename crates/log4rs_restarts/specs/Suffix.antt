-- What runs promise of the archives and the file, whatever is refused and wherever they stop.
use Rattle.std.specs.Prelude.{◌≡◌, ◌<◌, ℕ, List, length, take}
use Rattle.std.specs.List.{flat_map}
use Rattle.log4rs_rolling.specs.Change.{Change}
use Rattle.log4rs_rolling.specs.Disk.{Disk, files_of}
use Rattle.log4rs_rolling.specs.Window.{Window, AreDistinct, GoodWithin, KeepsTheEnd, NoCopies}
use Rattle.log4rs_rolling.specs.Window.{names}
use Rattle.log4rs_restarts.specs.Rotations.{rotations_begun}
use Rattle.log4rs_restarts.specs.Stops.{Changed}
use Rattle.log4rs_restarts.specs.declared.run.Run.{Run}
use Rattle.log4rs_restarts.specs.declared.run.RunReport.{RunReport}

-- P holds of what was changed, if the window has an archive and its names are different
abbrev pub InWindow : Window → Disk → Disk → (List Change → Type 0) → Type 0
InWindow window old new P =
    0 < length window.archives → AreDistinct (names window) → Changed old new P

-- without copies, after each change: the window holds a suffix of its start and all bytes written
abbrev pub HoldsASuffix : Window → Disk → Disk → Type 0
HoldsASuffix window old new =
    InWindow window old new (λ added.
    NoCopies added → (n : ℕ) → KeepsTheEnd window (files_of old) (take n added))

-- without copies: a change keeps all, or drops the oldest archive, one for each rotation at most
abbrev pub DropsTheOldest : Window → List Run → List RunReport → Disk → Disk → Type 0
DropsTheOldest window runs reports old new =
    InWindow window old new (λ added.
    (each : List (List Change))
    × (added ≡ flat_map (λ part. part) each) × (length each ≡ length runs)
    × (NoCopies added
    → GoodWithin (rotations_begun window (files_of old) each reports) window (files_of old)
    added))
