-- Where kept archives end, in the stream of runs:
-- all that was kept at their start, and then each byte that was written to the file.
use Rattle.std.specs.Prelude.{◌+◌, ◌-◌, ℕ, List, [], ◌++◌, length, map, take, All, Contains}
use Rattle.log4rs_rolling.specs.Change.{Change, Files, replay, written}
use Rattle.log4rs_rolling.specs.Window.{Window, kept}
use Rattle.log4rs_rolling.specs.ArchiveEnds.{ends}

-- the length of the stream after these changes
abbrev pub stream_length : Window → Files → List Change → ℕ
stream_length window files added =
    length (kept window files) + length (written window.active added)

-- the places in the stream, after these changes, of the first kept byte and of each archive's end
abbrev pub kept_places : Window → Files → List Change → List ℕ
kept_places window files added =
    map (λ distance. stream_length window files added - distance)
    (ends window (replay files added))

-- after any number of these changes the first kept byte and the end of each archive stand
-- where one stood at the start, or at a cut
abbrev pub EndAtCuts : List ℕ → Window → Files → List Change → Type 0
EndAtCuts cuts window files added =
    (n : ℕ)
    → All (Contains (kept_places window files [] ++ cuts)) (kept_places window files (take n added))
