-- The work of appenders beside the appends: a step of each, or all that is left.
use Rattle.std.specs.Prelude.{◌≡◌, ℕ, Bool, false, List, map, length, None, Result, Ok, IsTrue}
use Rattle.std.specs.Prelude.{[], IfErr, IfSome, OnOk, Some, slice_get, slice_index_or, slice_set}
use Rattle.log4rs_base.specs.declared.error.LogError.{LogError}
use Rattle.log4rs_rolling.specs.Faults.{MayAnswer}
use Rattle.log4rs_append.specs.RolledFile.{RolledFile, DrivenFile, OnRolledFile, SteppedFile}
use Rattle.log4rs_append.specs.Sink.{Sink, untold}
use Rattle.log4rs_config.specs.declared.runtime.config.ConfigOf.{ConfigOf}
use Rattle.log4rs_config.specs.Appender.{appender_of}
use Rattle.log4rs_config.specs.Builder.{appenders_of}
use Rattle.log4rs_config.specs.Kept.{rolled_at}

-- what a call does to a rolled file, by its result
abbrev pub Doing : Type 0 → Type 1
Doing T = Result T LogError → RolledFile → RolledFile → Type 0

-- what a call does to the sink of an appender, by its result
abbrev pub Working : Type 0 → Type 1
Working T = Result T LogError → Sink → Sink → Type 0

-- one call of one appender; `nothing` is the result where no rolled file is shown
pub record Worked
    {T : Type 0} (does : Doing T) (nothing : T) (result : Result T LogError)
    (before after : Sink) : Type 0 where
  pub texts : after.texts ≡ before.texts
  pub unrefused : IsTrue before.is_built_in → OnOk result (after.refusals ≡ before.refusals)
  pub fault : IsTrue before.is_built_in → IfErr result (MayAnswer before.refusals after.refusals)
  pub built_in : after.is_built_in ≡ before.is_built_in
  pub rolled : OnRolledFile (does result) before.rolled after.rolled
  pub idle : before.rolled ≡ None
      → (after ≡ before) × (IsTrue before.is_built_in → result ≡ Ok nothing)

-- one step, as `Steps::step` makes it
abbrev pub OneStep : Working Bool
OneStep = Worked SteppedFile false

-- all that is left, as `Steps::drive` does it
abbrev pub OneDrive : Working Unit
OneDrive = Worked DrivenFile tt

-- the sink at a place
abbrev pub sink_at : List Sink → ℕ → Sink
sink_at sinks at = slice_index_or sinks at untold

-- one call at a place: the sink there is what it left, the others stay
abbrev pub WorkedAt : {T : Type 0}
    → Working T → ℕ → Result T LogError → List Sink → List Sink → Type 0
WorkedAt works at result before after =
    (sink : Sink)
    × works result (sink_at before at) sink
    × (after ≡ slice_set before at sink)

-- one call at each place: the result at a place tells what was done there
pub record EachWorked
    {T : Type 0} (works : Working T) (results : List (Result T LogError))
    (before after : List Sink) : Type 0 where
  pub worked : (at : ℕ) (result : Result T LogError) → slice_get results at ≡ Some result
      → works result (sink_at before at) (sink_at after at)
  pub answered : length results ≡ length before
  pub as_many : length after ≡ length before

-- nothing is left of a rotation, where a built-in roller shows that
abbrev pub IsFinished : RolledFile → Type 0
IsFinished file = IsTrue file.keeping.is_built_in → file.keeping.rest ≡ []

-- the same of each rolled file that is shown
abbrev pub AreFinished : List Sink → Type 0
AreFinished sinks = (at : ℕ) → IfSome (rolled_at sinks at) (λ file. IsFinished file)

-- the appenders of a configuration, without their names and filters
abbrev pub bare : {A F : Type 0} → ConfigOf A F → List A
bare c = map (λ a. appender_of a) (appenders_of c)

-- each appender at another place is what it was
abbrev pub OthersStand : {A F : Type 0} → ℕ → ConfigOf A F → ConfigOf A F → Type 0
OthersStand {A} at before after = (left : A) × (bare after ≡ slice_set (bare before) at left)
