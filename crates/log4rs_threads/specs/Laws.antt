-- What follows of a schedule's meaning, and of what a session saw.
use Rattle.std.specs.Prelude.{◌≡◌, ℕ, ◌<◌, ◌≤◌, List, [], length, slice_get, Some}
use Rattle.log4rs_config.specs.Settings.{Settings}
use Rattle.log4rs_threads.specs.declared.schedule.event.Event.{Event}
use Rattle.log4rs_threads.specs.declared.schedule.event.Event.TheVariants.{Step}
use Rattle.log4rs_threads.specs.declared.schedule.shape.Shape.{Shape}
use Rattle.log4rs_threads.specs.Schedule.{steps_between, last_load, delivery, put_by}
use Rattle.log4rs_threads.specs.States.{after_swaps}
use Rattle.log4rs_threads.specs.Swaps.{StartsWith}

-- a load's delivery of this number is put at a position: there its caller steps, whose load it is,
-- after as many steps
pub record IsPutAt
    (shapes : List Shape) (events : List Event) (caller load number at : ℕ) : Type 0 where
  pub steps : slice_get events at ≡ Some (Step caller)
  pub of : last_load shapes events caller at ≡ Some load
  pub nth : steps_between shapes events caller load at ≡ number
  pub put : put_by shapes events at (slice_get events at) ≡ delivery shapes events load number

-- each delivery of a load that counts, up to the number of its caller's steps since,
-- was put at one of these steps
abbrev pub EachIsPut : Type 0
EachIsPut =
    (shapes : List Shape) (events : List Event) (caller load number before : ℕ)
    → before ≤ length events
    → last_load shapes events caller before ≡ Some load
    → number < steps_between shapes events caller load before
    → (at : ℕ)
    × (load < at)
    × (at < before)
    × IsPutAt shapes events caller load number at

-- different deliveries, of one load or of two, are put at different positions
abbrev pub AreApart : Type 0
AreApart =
    (shapes : List Shape) (events : List Event) (at : ℕ)
    (caller load number caller' load' number' : ℕ)
    → IsPutAt shapes events caller load number at
    → IsPutAt shapes events caller' load' number' at
    → (caller ≡ caller') × (load ≡ load') × (number ≡ number')

-- who was told of all swaps, and then saw all that it was told of,
-- and nothing but what was swapped, saw these swaps
abbrev pub SeesAll : Type 0
SeesAll =
    (swaps told seen : List Settings)
    → StartsWith told swaps
    → StartsWith seen told
    → StartsWith swaps seen
    → seen ≡ swaps

-- who saw nothing but what was swapped goes by the opening where nothing was
abbrev pub UsesOpening : Type 0
UsesOpening =
    (opening : Settings) (seen : List Settings)
    → StartsWith [] seen
    → after_swaps opening seen ≡ opening
