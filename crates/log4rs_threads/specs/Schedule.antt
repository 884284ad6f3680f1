-- What a schedule means, by its positions.
-- What stands at a position has the events before it in its past.
use Rattle.std.specs.Prelude.{ℕ, zero, suc, Bool, false, ◌&&◌, not, ◌==◌, nat_lt, List, [], ◌∷◌}
use Rattle.std.specs.Prelude.{◌++◌, length, count_by, slice_get, slice_range, Option, Some, None}
use Rattle.std.specs.Prelude.{if◌then◌else◌, option_map, option_and_then}
use Rattle.log4rs_base.specs.declared.record.Entry.{Entry}
use Rattle.log4rs_threads.specs.declared.schedule.event.Event.{Event}
use Rattle.log4rs_threads.specs.declared.schedule.event.Event.TheVariants.{Load, Step, Swap}
use Rattle.log4rs_threads.specs.declared.schedule.shape.Shape.{Shape}
use Rattle.log4rs_threads.specs.Shapes.{deliveries_in}

abbrev pub is_load_of : ℕ → Option Event → Bool
is_load_of caller (Some (Load c entry)) = c == caller
is_load_of caller (Some (Step c)) = false
is_load_of caller (Some (Swap shape)) = false
is_load_of caller None = false

abbrev pub is_step_of : ℕ → Event → Bool
is_step_of caller (Load c entry) = false
is_step_of caller (Step c) = c == caller
is_step_of caller (Swap shape) = false

-- the shape after an event: a swap to one of the known shapes sets it
abbrev pub shape_after : ℕ → Option Event → ℕ → ℕ
shape_after count (Some (Load c entry)) before = before
shape_after count (Some (Step c)) before = before
shape_after count (Some (Swap shape)) before = if nat_lt shape count then shape else before
shape_after count None before = before

-- the entry of a load
abbrev pub entry_of : Option Event → Option Entry
entry_of (Some (Load c entry)) = Some entry
entry_of (Some (Step c)) = None
entry_of (Some (Swap shape)) = None
entry_of None = None

-- the places that a load delivers to by a shape
abbrev pub places_of : Option Entry → Option Shape → List ℕ
places_of (Some entry) (Some shape) = deliveries_in shape entry.logged
places_of (Some entry) None = []
places_of None shape = []

-- an entry that is put into the sink at a place of a shape
pub record Put : Type 0 where
  pub shape : ℕ
  pub place : ℕ
  pub entry : Entry

-- what a put adds to one sink
abbrev pub put_at : ℕ → ℕ → Option Put → List Entry
put_at s p None = []
put_at s p (Some put) = if (put.shape == s) && (put.place == p) then put.entry ∷ [] else []

module _ (shapes : List Shape) (events : List Event) where
  -- the shape of the last swap before a position to one of the shapes, else the first
  abbrev pub shape_at : ℕ → ℕ
  shape_at zero = 0
  shape_at (suc k) = shape_after (length shapes) (slice_get events k) (shape_at k)

  -- the places that the load at a position delivers to, by the shape there
  abbrev pub load_places : ℕ → List ℕ
  load_places k = places_of (entry_of (slice_get events k)) (slice_get shapes (shape_at k))

  -- how often a caller stepped from one position up to another
  abbrev pub steps_between : ℕ → ℕ → ℕ → ℕ
  steps_between caller from to = count_by (is_step_of caller) (slice_range events from to)

  -- a caller's load has more deliveries than there were steps since
  abbrev pub is_busy : ℕ → ℕ → Option ℕ → Bool
  is_busy caller k None = false
  is_busy caller k (Some load) = nat_lt (steps_between caller load k) (length (load_places load))

  -- where the caller's last load before a position stands that counts:
  -- one counts where the caller is not busy
  abbrev pub last_load : ℕ → ℕ → Option ℕ
  last_load caller zero = None
  last_load caller (suc k) =
      if is_load_of caller (slice_get events k) && not (is_busy caller k (last_load caller k))
      then Some k
      else last_load caller k

  -- the deliveries of the load at a position, by their numbers
  abbrev pub delivery : ℕ → ℕ → Option Put
  delivery load number =
      option_and_then
      (λ entry.
      option_map (λ place. record { shape = shape_at load; place = place; entry = entry })
      (slice_get (load_places load) number))
      (entry_of (slice_get events load))

  -- a step puts the next delivery of its caller's last load that counts
  abbrev pub put_by : ℕ → Option Event → Option Put
  put_by k (Some (Load c entry)) = None
  put_by k (Some (Step caller)) =
      option_and_then (λ load. delivery load (steps_between caller load k)) (last_load caller k)
  put_by k (Some (Swap shape)) = None
  put_by k None = None

  -- the entries that were put into the sink at a place of a shape before a position
  abbrev pub entries_before : ℕ → ℕ → ℕ → List Entry
  entries_before s p zero = []
  entries_before s p (suc k) = entries_before s p k ++ put_at s p (put_by k (slice_get events k))

-- the entries that all events put into the sink at a place of a shape
abbrev pub sink_entries : List Shape → List Event → ℕ → ℕ → List Entry
sink_entries shapes events s p = entries_before shapes events s p (length events)
