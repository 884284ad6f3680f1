-- The segments that the files of a roller show, which rolls at once or in the background.
use Rattle.std.specs.Prelude.{◌≡◌, ◌<◌, ◌^◌, ◌-◌, ℕ, List, Option, IfSome, IsSome, IsTrue}
use Rattle.std.specs.Prelude.{Result, OnOk}
use Rattle.log4rs_rolling.specs.Change.{replay}
use Rattle.log4rs_rolling.specs.Disk.{Disk, Calls, files_of}
use Rattle.log4rs_base.specs.declared.record.Context.{Context}
use Rattle.log4rs_base.specs.declared.record.Record.{Record}
use Rattle.log4rs_base.specs.declared.error.LogError.{LogError}
use Rattle.log4rs_rolling.specs.Appends.{Reading}
use Rattle.log4rs_rolling.specs.Asking.{Asking, BySize}
use Rattle.log4rs_rolling.specs.ArchiveEnds.{older_of}
use Rattle.log4rs_rolling.specs.Keeping.{Keeping, Stands}
use Rattle.log4rs_rolling.specs.Segments.{Segments, Shows, ShowsAfter, begun}
use Rattle.log4rs_rolling.specs.Window.{NoGaps, around}
use Rattle.log4rs_rolling.specs.SegmentsShown.{ShowsIn, standing}

-- a text is appended, the trigger looks at the size, and the roller is built in: in a window that
-- stands, the segments that are shown grow by the text, where all goes well
abbrev pub GrowsIn : List ℕ → Asking → Keeping → Keeping → List ℕ → Result Unit LogError
    → Disk → Disk → Type 0
GrowsIn text asking before now path result old new =
    IfSome before.archives (λ older.
    let window = around older (before.waiting path) path in
    (limit : ℕ) → asking.kind ≡ BySize limit
    → limit < 2 ^ 64 - 1
    → IsTrue before.is_built_in
    → Stands window (before.vacant path) old
    → OnOk result
    (Calls old new (λ added.
    (segments : Segments) → ShowsIn segments window (before.vacant path) (files_of old)
    → ShowsAfter limit segments text (standing window (now.vacant path)) path
    (replay (files_of old) added))))

-- the same of a record, if its text is visible
abbrev pub GrowsBy : Option Reading → Record → Context → Asking → Keeping → Keeping
    → List ℕ → Result Unit LogError → Disk → Disk → Type 0
GrowsBy reading r c asking before now path result old new =
    IfSome reading (λ read. GrowsIn (read r c) asking before now path result old new)

-- in a standing window, if the moves of a rotation are visible: the archives alone show the
-- segments that the window showed before
abbrev pub ShowsAtLast : Keeping → List ℕ → Disk → Disk → Type 0
ShowsAtLast before path old new =
    IfSome before.archives (λ older.
    let window = around older (before.waiting path) path in
    IsSome (before.moves path)
    → Stands window (before.vacant path) old
    → Calls old new (λ added.
    (segments : Segments) → ShowsIn segments window (before.vacant path) (files_of old)
    → Shows segments older path (replay (files_of old) added)))

-- in a window that stands, from archives without a gap: the segments of the start are those of the
-- archives, a file that waits, as the newest closed one, and the active file; and afterwards the
-- archives alone show the closed ones
abbrev pub ShowsFromStart : Keeping → List ℕ → Disk → Disk → Type 0
ShowsFromStart before path old new =
    IfSome before.archives (λ older.
    let window = around older (before.waiting path) path in
    Stands window (before.vacant path) old
    → Calls old new (λ added.
    NoGaps (files_of old) older
    → Shows (begun (older_of window) path (files_of old)) older path
    (replay (files_of old) added)))
