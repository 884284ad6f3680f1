use Rattle.std.proofs.Common.{◌≡◌, ◌++◌, map, take}
use Rattle.log4rs_plans.specs.Overlaps.{one_file, one_pattern, other_archives, own_archives, own_configuration}
use Rattle.log4rs_plans.specs.Places.{each_at}
use Rattle.log4rs_plans.specs.Written.{file_of, window_of}
use Rattle.log4rs_plans.proofs.overlaps.overlaps.Given as goal

abbrev pub invariant-loop-place : goal.invariant-loop-place
invariant-loop-place l =
    l.found.items ≡ l.initial.found.items ++ each_at (own_configuration l.configuration) (map file_of (take l.place l.files))

abbrev pub invariant-loop-at : goal.invariant-loop-at
invariant-loop-at l =
    l.found.items ≡ l.initial.found.items ++ own_archives (map window_of (take l.at l.windows)) l.place (file_of l.file)

abbrev pub invariant-loop-at-2 : goal.invariant-loop-at-2
invariant-loop-at-2 l =
    l.found.items ≡ l.initial.found.items ++ one_file (map file_of (take l.at l.files)) l.place (file_of l.file)

abbrev pub invariant-loop-place-2 : goal.invariant-loop-place-2
invariant-loop-place-2 l =
    l.found.items
    ≡ l.initial.found.items ++ each_at (λ at file. own_archives (map window_of l.windows) at file ++ one_file (take at (map file_of l.files)) at file) (map file_of (take l.place l.files))

abbrev pub invariant-loop-at-3 : goal.invariant-loop-at-3
invariant-loop-at-3 l =
    l.found.items ≡ l.initial.found.items ++ other_archives (map window_of (take l.at l.windows)) l.place (file_of l.file)

abbrev pub invariant-loop-place-3 : goal.invariant-loop-place-3
invariant-loop-place-3 l =
    l.found.items ≡ l.initial.found.items ++ each_at (other_archives (map window_of l.windows)) (map file_of (take l.place l.files))

abbrev pub invariant-loop-at-4 : goal.invariant-loop-at-4
invariant-loop-at-4 l =
    l.found.items ≡ l.initial.found.items ++ one_pattern (map window_of (take l.at l.windows)) l.place (window_of l.window)

abbrev pub invariant-loop-place-4 : goal.invariant-loop-place-4
invariant-loop-place-4 l =
    l.found.items
    ≡ l.initial.found.items ++ each_at (λ at window. one_pattern (take at (map window_of l.windows)) at window) (map window_of (take l.place l.windows))
