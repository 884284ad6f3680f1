-- How many rotations runs begin.
use Rattle.std.specs.Prelude.{◌+◌, ℕ, zero, suc, List, [], ◌∷◌, Bool, true, false, length}
use Rattle.std.specs.List.{flat_map}
use Rattle.std.specs.Option.{option_to_list}
use Rattle.log4rs_rolling.specs.Change.{Change, Files, replay}
use Rattle.log4rs_rolling.specs.Window.{Window, contents}
use Rattle.log4rs_restarts.specs.declared.run.RunReport.{RunReport}

-- how many of a trigger's decisions are firings
abbrev pub yeses : List Bool → ℕ
yeses [] = zero
yeses (true ∷ answers) = suc (yeses answers)
yeses (false ∷ answers) = yeses answers

-- how many files wait for a rotation: one or none
abbrev pub waiting_in : Window → Files → ℕ
waiting_in window files = length (contents files (option_to_list window.waiting))

-- how many runs found a waiting file at their start, by what each of them changed
abbrev pub found_in : Window → Files → List (List Change) → ℕ
found_in window files [] = 0
found_in window files (run ∷ runs) =
    waiting_in window files + found_in window (replay files run) runs

-- the rotations begun: one at each firing of a trigger, one by each run that found a waiting file
abbrev pub rotations_begun : Window → Files → List (List Change) → List RunReport → ℕ
rotations_begun window files runs reports =
    found_in window files runs
    + yeses (flat_map (λ (report : RunReport). report.answers.items) reports)
