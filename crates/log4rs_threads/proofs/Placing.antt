-- One append, and one load, among the configurations of several shapes.
use Rattle.std.proofs.Common.{◌≡◌, ◌∙◌, ℕ, zero, suc, ◌<◌, false, ◌==◌, ◌&&◌, List, [], ◌∷◌, length, get_or, set, refl, sym, ap, arith, All, subst, vec_len}
use Rattle.std.proofs.lemmas.Option.{slice_get-get_or}
use Rattle.std.specs.BTreeMap.{is_at}
use Rattle.std.specs.Ordering.{nat_cmp}
use Rattle.std.specs.Prelude.{Option, Some, slice_get, option_map, option_and_then, if◌then◌else◌}
use Rattle.std.specs.Option.{option_map_or}
use Rattle.log4rs_base.specs.declared.record.Entry.{Entry}
use Rattle.log4rs_append.specs.Sink.{Texts, Untold}
use Rattle.log4rs_threads.specs.contracts.schedule.installed.InstalledConfigured.TheImpl as installed
use Rattle.log4rs_threads.specs.declared.schedule.installed.Installed.{Installed}
use Rattle.log4rs_threads.specs.declared.schedule.shape.Shape.{Shape}
use Rattle.log4rs_threads.specs.Held.{all_texts, gained}
use Rattle.log4rs_threads.specs.Pending.{Pending}
use Rattle.log4rs_threads.specs.Running.{shapes_in, size_at, texts_at, texts_after, has_left, loaded}
use Rattle.log4rs_threads.proofs.ListFacts.{slice_get-set_same, slice_get-set_other, slice_get-changed, slice_get-map, by_equal, by_key}

-- a shape that has an appender is there
pub in_size : (all : List Installed) (shape place : ℕ) → place < size_at (shapes_in all) shape → shape < length all
in_size [] shape place lt = absurd (omega (arith, lt))
in_size (x ∷ all) zero place lt = omega arith
in_size (x ∷ all) (suc shape) place lt = let h = in_size all shape place lt in omega (arith, h)

-- the shape at a number
pub shape_is : (all : List Installed) (shape : ℕ) (x : Installed) → shape < length all → x ≡ get_or all shape x → slice_get (shapes_in all) shape ≡ Some x.shape.value
shape_is all shape x lt is =
    let value : Installed → Shape = λ x. x.shape.value in
    slice_get-map value all shape ∙ ap (option_map value) (slice_get-get_or all shape x lt ∙ ap Some (sym is))

pub placed : (all : List Installed) (shape place : ℕ) (entry : Entry) (old new : Installed) → shape < length all → old ≡ get_or all shape old
    → all_texts ((installed.ghosts).sinks new)
    ≡ set (all_texts ((installed.ghosts).sinks old)) place (gained entry.logged entry.context (get_or (all_texts ((installed.ghosts).sinks old)) place Untold))
    → (s p : ℕ) → texts_at (set all shape new) s p ≡ texts_after s p (Some (record { shape = shape; place = place; entry = entry })) (texts_at all s p)
placed all shape place entry old new lt is more s p =
    let texts : Installed → List Texts = λ x. all_texts ((installed.ghosts).sinks x) in
    let gain : Texts → Texts = gained entry.logged entry.context in
    by_equal (λ b. texts_at (set all shape new) s p ≡ (if b && (place == p) then option_map gain (texts_at all s p) else texts_at all s p)) shape s
    (λ e.
    let here : slice_get all shape ≡ Some old = slice_get-get_or all shape old lt ∙ ap Some (sym is) in
    rw (← e, slice_get-set_same all shape new lt, here, more) (slice_get-changed (texts old) place p gain Untold))
    (λ ne. ap (option_and_then (λ x. slice_get (texts x) p)) (slice_get-set_other all shape s new ne))

-- a load of a caller who has nothing left
pub load_counts : (old new : ℕ → Option Pending) (caller : ℕ) (call : Pending) → has_left (old caller) ≡ false → ((q : ℕ) → new q ≡ (if is_at (nat_cmp caller) q then Some call else old q))
    → (q : ℕ) → new q ≡ (if is_at (nat_cmp caller) q then loaded (old q) call else old q)
load_counts old new caller call free is q =
    is q ∙ by_key (λ b. (if b then Some call else old q) ≡ (if b then loaded (old q) call else old q)) caller q (λ e. rw (← e, free) refl) (λ ne. refl)

-- places within a shape's appenders
pub within_here : (all : List Installed) (shape : ℕ) (x : Installed) (rest places : List ℕ) → shape < length all → x ≡ get_or all shape x → rest ≡ places
    → All (λ at. at < vec_len x.shape.value.appenders) rest → All (λ at. at < size_at (shapes_in all) shape) places
within_here all shape x rest places lt is same within =
    let size : size_at (shapes_in all) shape ≡ vec_len x.shape.value.appenders = ap (λ (o : Option Shape). option_map_or (λ s. vec_len s.appenders) o 0) (shape_is all shape x lt is) in
    subst (λ (n : ℕ). All (λ at. at < n) places) (sym size) (subst (All (λ at. at < vec_len x.shape.value.appenders)) same within)
