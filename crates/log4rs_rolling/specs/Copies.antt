-- Copies of files: where a rename is refused, a built-in roller may copy the file in its place.
use Rattle.std.specs.Prelude.{Bool, IsTrue, ◌⊎◌}
use Rattle.log4rs_rolling.specs.Disk.{Disk, Calls, Grew}
use Rattle.log4rs_rolling.specs.Window.{NoCopies}

-- nothing was refused in between, and the count of refusals is not at its greatest value
abbrev pub NothingRefused : Disk → Disk → Type 0
NothingRefused old new = ¬ (Grew old.refusals new.refusals)

-- where nothing was refused, no file was copied
abbrev pub CopiesNeedRefusal : Disk → Disk → Type 0
CopiesNeedRefusal old new = NothingRefused old new → Calls old new NoCopies

-- only renames are allowed, or nothing was refused
abbrev pub OnlyRenames : Bool → Disk → Disk → Type 0
OnlyRenames rename_only old new = IsTrue rename_only ⊎ NothingRefused old new
