-- The window of a roller.
use Rattle.std.specs.Prelude.{true, false, ◌||◌, ◌+◌, ◌++◌, if◌then◌else◌, ℕ, zero, suc, nat_eq}
use Rattle.std.specs.Prelude.{Bool, List, ◌∷◌, [], Option, Some, None, string_bytes}
use Rattle.std.specs.Option.{option_to_list}
use Rattle.std.specs.Str.{bytes_eq}
use Rattle.log4rs_rolling.specs.Archives.{name_at, waiting_name}
use Rattle.log4rs_rolling.specs.Keeping.{Keeping, no_archives}
use Rattle.log4rs_rolling.specs.Moves.{archive_names, each_to_the_older}
use Rattle.log4rs_rolling.specs.Window.{Vacancy, Anywhere, VacantAt, OfAnother}
use Rattle.log4rs_rolling.specs.declared.fixed_window.Job.{Job}
use Rattle.log4rs_rolling.specs.declared.fixed_window.FixedWindowRoller.{FixedWindowRoller}
use Rattle.log4rs_rolling.specs.declared.fixed_window.builder.FixedWindowRollerBuilder.{FixedWindowRollerBuilder}
use Rattle.log4rs_rolling.specs.declared.roll.AnyRoller.{AnyRoller}
use Rattle.log4rs_rolling.specs.declared.roll.AnyRoller.TheVariants.{Delete, FixedWindow}

-- the names of so many archives from an index on, the oldest first: none is no window
abbrev pub archives_of : (ℕ → List ℕ) → ℕ → ℕ → Option (List (List ℕ))
archives_of name base zero = None
archives_of name base (suc n) = Some (archive_names name base (suc n))

-- the moves of a rotation at once with the result Ok: each archive to the next index, the highest
-- first, and then the file
abbrev pub rolling_of : (ℕ → List ℕ) → ℕ → ℕ → List ℕ → Option (List (List ℕ × List ℕ))
rolling_of name base zero file = None
rolling_of name base (suc n) file =
    Some (each_to_the_older (archive_names name base (suc n) ++ file ∷ []))

-- the name under which a file waits, if rotations go on in the background
abbrev pub waiting_if : Bool → List ℕ → Option (List ℕ)
waiting_if true file = Some (waiting_name file)
waiting_if false file = None

-- the names of an active file: that under which it waits, and its own
abbrev pub names_beside : Bool → List ℕ → List (List ℕ)
names_beside background file = option_to_list (waiting_if background file) ++ file ∷ []

-- the name that the next move fills, where so many moves are left: where none is, the waiting name
abbrev pub slot : (ℕ → List ℕ) → ℕ → List ℕ → ℕ → List ℕ
slot name base waiting zero = waiting
slot name base waiting (suc n) = name (base + n)

-- the vacant name while so many moves are left: none before the first move
abbrev pub vacancy_in : (ℕ → List ℕ) → ℕ → ℕ → List ℕ → ℕ → Vacancy
vacancy_in name base count waiting left =
    if nat_eq left count then Anywhere else VacantAt (slot name base waiting left)

-- the vacant name of an active file: without a job its waiting name
abbrev pub vacancy_of : (ℕ → List ℕ) → ℕ → ℕ → Option Job → List ℕ → Vacancy
vacancy_of name base count None file = VacantAt (waiting_name file)
vacancy_of name base count (Some job) file =
    if bytes_eq (string_bytes job.waiting) (waiting_name file)
    then vacancy_in name base count (string_bytes job.waiting) job.left
    else OfAnother

-- the same, in the background, once the roller has looked for a waiting file, and else none
abbrev pub vacancy_if : Bool → Bool → (ℕ → List ℕ) → ℕ → ℕ → Option Job → List ℕ → Vacancy
vacancy_if true true name base count job file = vacancy_of name base count job file
vacancy_if true false name base count job file = Anywhere
vacancy_if false asked name base count job file = Anywhere

-- the moves that are left to a job: those of the archives, and then that of the waiting file
abbrev pub rest_of : (ℕ → List ℕ) → ℕ → Option Job → List (List ℕ × List ℕ)
rest_of name base None = []
rest_of name base (Some job) =
    each_to_the_older (archive_names name base job.left ++ string_bytes job.waiting ∷ [])

-- the moves of a rotation in the background with the result Ok: those that are left to an old job,
-- and then the file is set aside
abbrev pub begun_of : (ℕ → List ℕ) → ℕ → ℕ → Option Job → List ℕ
    → Option (List (List ℕ × List ℕ))
begun_of name base zero job file = None
begun_of name base (suc n) job file = Some (rest_of name base job ++ (file, waiting_name file) ∷ [])

-- the moves of a rotation with the result Ok: in the background they are known once the roller has
-- looked for a waiting file
abbrev pub rolling_if : Bool → Bool → (ℕ → List ℕ) → ℕ → ℕ → Option Job → List ℕ
    → Option (List (List ℕ × List ℕ))
rolling_if true true name base count job file = begun_of name base count job file
rolling_if true false name base count job file = None
rolling_if false asked name base count job file = rolling_of name base count file

-- what is kept under the names of so many indices from one on, by renames only or not, in the
-- background or not, whether or not the roller has looked for a waiting file, with this job left
abbrev pub window_with : (ℕ → List ℕ) → ℕ → ℕ → Bool → Bool → Bool → Option Job → Keeping
window_with name base count rename_only background asked job = record {
  is_built_in = true;
  renames = background || rename_only;
  removes = nat_eq count 0;
  archives = archives_of name base count;
  waiting = waiting_if background;
  vacant = vacancy_if background asked name base count job;
  moves = rolling_if background asked name base count job;
  rest = rest_of name base job;
  asked = asked;
}

-- the same before the roller looked, without a job
abbrev pub fixed_window : (ℕ → List ℕ) → ℕ → ℕ → Bool → Bool → Keeping
fixed_window name base count rename_only background =
    window_with name base count rename_only background false None

-- the name of the archive with an index
abbrev pub archive_name : FixedWindowRoller → ℕ → List ℕ
archive_name roller index = name_at (string_bytes roller.pattern) roller.env index

-- the names of all its archives, the oldest first
abbrev pub archives : FixedWindowRoller → List (List ℕ)
archives roller = archive_names (archive_name roller) roller.base roller.count

-- the moves (from, to) of one rotation at once: each archive to the next index, the highest first,
-- and then the file
abbrev pub moves_of : FixedWindowRoller → List ℕ → List (List ℕ × List ℕ)
moves_of roller file = each_to_the_older (archives roller ++ file ∷ [])

-- whether its rotations go on in the background
abbrev pub in_background : FixedWindowRoller → Bool
in_background roller = roller.background

-- whether it has looked for a waiting file
abbrev pub was_asked : FixedWindowRoller → Bool
was_asked roller = roller.asked

-- what is left of a rotation in the background
abbrev pub job_of : FixedWindowRoller → Option Job
job_of roller = roller.job

-- how many moves are left to a job
abbrev pub left_of : Option Job → ℕ
left_of None = 0
left_of (Some job) = job.left

-- the name that the next move fills, where so many moves are left to a job with this waiting file
abbrev pub slot_of : FixedWindowRoller → List ℕ → ℕ → List ℕ
slot_of roller waiting left = slot (archive_name roller) roller.base waiting left

-- the moves that are left to its job
abbrev pub rest_by : FixedWindowRoller → List (List ℕ × List ℕ)
rest_by roller = rest_of (archive_name roller) roller.base roller.job

-- what it keeps
abbrev pub kept_by : FixedWindowRoller → Keeping
kept_by roller =
    window_with (archive_name roller) roller.base roller.count roller.rename_only
    roller.background roller.asked roller.job

-- what it keeps before it looked, without a job
abbrev pub kept_anew : FixedWindowRoller → Keeping
kept_anew roller =
    fixed_window (archive_name roller) roller.base roller.count roller.rename_only
    roller.background

-- the settings of the builder
abbrev pub base_of : FixedWindowRollerBuilder → ℕ
base_of builder = builder.base

abbrev pub rename_only_of : FixedWindowRollerBuilder → Bool
rename_only_of builder = builder.rename_only

abbrev pub background_of : FixedWindowRollerBuilder → Bool
background_of builder = builder.background

abbrev pub kept_by_any : AnyRoller → Keeping
kept_by_any (Delete roller) = no_archives
kept_by_any (FixedWindow roller) = kept_by roller
