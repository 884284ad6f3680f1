-- What each reader knows of what is shown.
use Rattle.std.specs.Prelude.{◌≡◌, ℕ, List, [], Option, Some, None}
use mathlib.Core.Option.{some}
use lib.ListN.{get_elem?}
use Rattle.log4rs_config.specs.Settings.{Settings}
use Rattle.log4rs_threads.specs.declared.publish.published.Opening.{Opening}
use Rattle.log4rs_threads.specs.declared.publish.published.Published.{Published}
use Rattle.log4rs_threads.specs.declared.publish.published.Shown.{Shown}
use Rattle.log4rs_threads.specs.declared.publish.published.View.{View}
use Rattle.log4rs_threads.specs.Shows.{shown, IsOf}
use Rattle.log4rs_threads.specs.Swaps.{StartsWith}

-- who knows an opening knows this one
abbrev pub IsKnown : Option Opening → Opening → Type 0
IsKnown None opening = Unit {0}
IsKnown (Some known) opening = known ≡ opening

-- the swaps begin with those that were seen
pub record Fits (opening : Opening) (swaps : List Settings) (v : View) : Type 0 where
  pub known : IsKnown v.opening opening
  pub seen : StartsWith swaps v.seen

-- who knows nothing yet
abbrev pub newcomer : View
newcomer = record { opening = None; seen = [] }

-- a view that is told of the opening
abbrev pub taught : View → View → View
taught v note = record { opening = note.opening; seen = v.seen }

-- the rule: what is shown is of its opening, and fits what each reader knows
abbrev pub HoldsFor : Shown → List View → Type 0
HoldsFor s views =
    IsOf s.opening s.told
    × ((seat : ℕ) (v : View) → get_elem? views seat ≡ some v → Fits s.opening s.told.swaps v)

abbrev pub Holds : Published → List View → Type 0
Holds p views = HoldsFor (shown p) views

-- a reading: all that is published is seen, and begins with what was seen before
pub record LooksAt (v : View) (s : Shown) (w : View) : Type 0 where
  pub seen : StartsWith w.seen v.seen
  pub all : w.seen ≡ s.told.swaps
  pub opening : w.opening ≡ Some s.opening
  pub known : IsKnown v.opening s.opening
  pub fits : IsOf s.opening s.told

abbrev pub Looks : View → Published → Published → View → Type 0
Looks v p q w = LooksAt v (shown q) w

-- the opening is learned
abbrev pub LearnsOpening : View → Published → Published → View → Type 0
LearnsOpening v p q w = w ≡ record { opening = Some (shown q).opening; seen = [] }
