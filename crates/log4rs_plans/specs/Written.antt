-- The files and the archives that appenders write to.
use Rattle.std.specs.Prelude.{◌≡◌, ℕ, ◌==◌, Bool, ◌||◌, List, [], ◌∷◌, ◌++◌, length, map, fold, sum_by, codes, option_map, String, string_bytes, if◌then◌else◌}
use Rattle.std.specs.Borrow.{Bor}
use Rattle.std.specs.BTreeMap.{BTreeMap}
use Rattle.std.specs.Option.{option_map_or, option_to_list}
use Rattle.std.specs.Path.{cur_dir, path_components, root_dir}
use Rattle.std.specs.Str.{bytes_eq}
use Rattle.std.specs.declared.alloc.Global.{Global}
use Rattle.log4rs_base.specs.Names.{expanded_names}
use Rattle.log4rs_base.specs.Text.{Text}
use Rattle.log4rs_settings.specs.Plan.{AppenderPlan, appender_of, Window as Planned}
use Rattle.log4rs_settings.specs.declared.plan.AppenderPlan.{AppenderPlan as AppenderValue}
use Rattle.log4rs_plans.specs.Background.{kept, rolls_in_background}
use Rattle.log4rs_plans.specs.Effective.{path_of}
use Rattle.log4rs_plans.specs.Places.{each_at, if_so}
use Rattle.log4rs_plans.specs.declared.overlaps.ArchiveWindow.{ArchiveWindow}
use Rattle.log4rs_plans.specs.declared.overlaps.WrittenFile.{WrittenFile}

-- a file that an appender writes to, and of which windows it has the name of an archive
pub record File : Type 0 where
  pub appender : ℕ
  pub path : Text
  pub is_archive : List Bool

-- the archives that an appender keeps: so many, from an index on
pub record Window : Type 0 where
  pub appender : ℕ
  pub pattern : Text
  pub base : ℕ
  pub count : ℕ

-- values of the code as such data
abbrev pub file_of : WrittenFile → File
file_of file = record {
  appender = file.appender;
  path = string_bytes file.path;
  is_archive = file.is_archive.items;
}

abbrev pub window_of : ArchiveWindow → Window
window_of window = record {
  appender = window.appender;
  pattern = string_bytes window.pattern;
  base = window.base;
  count = window.count;
}

abbrev pub each_plan : List (Bor AppenderValue) → List AppenderPlan
each_plan plans = map (λ plan. appender_of plan.now) plans

-- a path with one part more, unless that is `.`
abbrev pub separator : Text → Text
separator path = if (length path == 0 || bytes_eq path root_dir) then [] else root_dir

abbrev pub with_part : Text → Text → Text
with_part path part = if bytes_eq part cur_dir then path else path ++ separator path ++ part

-- a path as it is compared: without parts `.` and doubled slashes
abbrev pub plain : Text → Text
plain path = fold with_part [] (path_components path)

-- how many windows an appender keeps, and how many appenders keep
abbrev pub kept_count : AppenderPlan → ℕ
kept_count plan = length (option_to_list (kept plan))

abbrev pub kept_counts : List AppenderPlan → ℕ
kept_counts plans = sum_by kept_count plans

-- the path under which a file waits to be archived
abbrev pub waiting_path : Text → Text
waiting_path path = path ++ codes ".rolling"

-- the paths of an appender's file: its own, and that under which it waits if it is to wait
abbrev pub paths_of : AppenderPlan → List Text
paths_of plan =
    option_map_or (λ path. plain path
    ∷ if_so (rolls_in_background plan) (plain (waiting_path path))) (path_of plan) []

-- a file by its appender and its path
abbrev pub name_of : File → ℕ × Text
name_of file = (file.appender, file.path)

abbrev pub files_of : ℕ → AppenderPlan → List (ℕ × Text)
files_of appender plan = map (λ path. (appender, path)) (paths_of plan)

abbrev pub files_in : List AppenderPlan → List (ℕ × Text)
files_in plans = each_at files_of plans

module _ (env : BTreeMap (String Global) (String Global)) where
  -- a window of archives with the values of the environment in its pattern
  abbrev pub window_in : ℕ → Planned → Window
  window_in appender window = record {
    appender = appender;
    pattern = plain (expanded_names env window.pattern);
    base = window.base;
    count = window.count;
  }

  -- the window of an appender, if it keeps one, and those of all appenders
  abbrev pub window_of_plan : ℕ → AppenderPlan → List Window
  window_of_plan appender plan = option_to_list (option_map (window_in appender) (kept plan))

  abbrev pub windows_in : List AppenderPlan → List Window
  windows_in plans = each_at window_of_plan plans

-- whether these are the files and the windows of appenders with these plans in an environment;
-- which files have the name of an archive is left open
pub record AreWritten
    (env : BTreeMap (String Global) (String Global)) (plans : List AppenderPlan) (files : List File)
    (windows : List Window) : Type 0 where
  pub files_are : map name_of files ≡ files_in plans
  pub windows_are : windows ≡ windows_in env plans
