-- The state of a run before a position.
use Rattle.std.specs.Prelude.{◌≡◌, ℕ, ◌<◌, Bool, false, not, ◌==◌, ◌&&◌, List, [], length, map}
use Rattle.std.specs.Prelude.{drop, slice_get, All, vec_len, Option, Some, None, if◌then◌else◌}
use Rattle.std.specs.Prelude.{option_map, option_and_then}
use Rattle.std.specs.Option.{option_map_or}
use Rattle.std.specs.BTreeMap.{get}
use Rattle.std.specs.Ordering.{nat_cmp}
use Rattle.log4rs_base.specs.Text.{Text}
use Rattle.log4rs_append.specs.Sink.{Texts}
use Rattle.log4rs_threads.specs.contracts.schedule.installed.InstalledConfigured.TheImpl as installed
use Rattle.log4rs_threads.specs.declared.schedule.event.Event.{Event}
use Rattle.log4rs_threads.specs.declared.schedule.installed.Installed.{Installed}
use Rattle.log4rs_threads.specs.declared.schedule.shape.Shape.{Shape}
use Rattle.log4rs_threads.specs.declared.schedule.state.Delivery.{Delivery}
use Rattle.log4rs_threads.specs.declared.schedule.state.State.{State}
use Rattle.log4rs_threads.specs.Held.{Holds, all_texts, gained, items_in}
use Rattle.log4rs_threads.specs.Pending.{Pending}
use Rattle.log4rs_threads.specs.Schedule.{Put, entry_of, shape_at, load_places, steps_between}
use Rattle.log4rs_threads.specs.Schedule.{last_load, entries_before}
use Rattle.log4rs_threads.specs.Shapes.{appender_at}

-- the shapes that configurations were made of
abbrev pub shapes_in : List Installed → List Shape
shapes_in all = map (λ x. x.shape.value) all

-- how many appenders a shape has
abbrev pub size_at : List Shape → ℕ → ℕ
size_at shapes shape = option_map_or (λ s. vec_len s.appenders) (slice_get shapes shape) 0

-- what the sink at a place of a shape holds
abbrev pub texts_at : List Installed → ℕ → ℕ → Option Texts
texts_at all shape place =
    option_and_then (λ x. slice_get (all_texts ((installed.ghosts).sinks x)) place)
    (slice_get all shape)

-- the items of each sink of each shape
abbrev pub all_items : List Installed → List (List (List Text))
all_items all = map (λ x. map items_in (all_texts ((installed.ghosts).sinks x))) all

-- what a sink holds after a put
abbrev pub texts_after : ℕ → ℕ → Option Put → Option Texts → Option Texts
texts_after s p None texts = texts
texts_after s p (Some put) texts =
    if (put.shape == s) && (put.place == p)
    then option_map (gained put.entry.logged put.entry.context) texts
    else texts

-- deliveries are left
abbrev pub has_left : Option Pending → Bool
has_left None = false
has_left (Some call) = not (length call.rest == 0)

-- the next delivery of a load
abbrev pub next_of : Pending → Option Delivery
next_of call =
    option_map (λ place. record { load = call.load; shape = call.shape; place = place })
    (slice_get call.rest 0)

-- what is left after it
abbrev pub stepped : Pending → Pending
stepped call = record call { rest = drop 1 call.rest }

-- a load counts where nothing is left of the one before
abbrev pub loaded : Option Pending → Pending → Option Pending
loaded before new = if has_left before then before else Some new

-- what the next delivery of a load puts
abbrev pub put_of : List Event → Option Pending → Option Put
put_of events None = None
put_of events (Some call) =
    option_and_then
    (λ entry.
    option_map (λ place. record { shape = call.shape; place = place; entry = entry })
    (slice_get call.rest 0))
    (entry_of (slice_get events call.load))

-- what is left of a caller's last load before a position that counts
pub record IsLeft
    (shapes : List Shape) (events : List Event) (k caller : ℕ) (call : Pending) : Type 0 where
  pub load : last_load shapes events caller k ≡ Some call.load
  pub earlier : call.load < k
  pub shape : call.shape ≡ shape_at shapes events call.load
  pub within : All (λ at. at < size_at shapes call.shape) call.rest
  pub rest : call.rest
      ≡ drop (steps_between shapes events caller call.load k) (load_places shapes events call.load)

-- it is, if there is such a load
abbrev pub Follows : List Shape → List Event → ℕ → ℕ → Option Pending → Type 0
Follows shapes events k caller None = last_load shapes events caller k ≡ None
Follows shapes events k caller (Some call) = IsLeft shapes events k caller call

pub record IsRun (shapes : List Shape) (events : List Event) (k : ℕ) (state : State) : Type 0 where
  pub given : shapes_in state.all.items ≡ shapes
  pub shape : state.shape ≡ shape_at shapes events k
  pub known : state.shape < length shapes
  pub calls : (caller : ℕ) → Follows shapes events k caller (get nat_cmp state.calls caller)
  pub texts : (s p : ℕ)
      → Holds (appender_at shapes s p) (entries_before shapes events s p k)
      (texts_at state.all.items s p)

-- the sinks are all empty, and there is a shape
pub record IsNew (all : List Installed) : Type 0 where
  pub some : 0 < length all
  pub empty : (s p : ℕ) → Holds (appender_at (shapes_in all) s p) [] (texts_at all s p)
