-- New worlds, and the sinks that a run leaves.
use Rattle.std.proofs.Common.{◌≡◌, ◌≢◌, ◌∙◌, ℕ, zero, suc, List, [], ◌∷◌, ◌++◌, refl, sym, ap, subst, map, rules}
use Rattle.std.proofs.lemmas.List.{map-append}
use Rattle.std.specs.Prelude.{Option, Some, None, slice_get, option_map, option_and_then}
use Rattle.log4rs_base.specs.Text.{Text}
use Rattle.log4rs_base.specs.declared.record.Entry.{Entry}
use Rattle.log4rs_append.specs.Sink.{Texts}
use Rattle.log4rs_config.specs.Faults.{Fault, faults}
use Rattle.log4rs_config.specs.Refusal.{IsRefusal}
use Rattle.log4rs_config.specs.declared.runtime.error.BuildError.{BuildError}
use Rattle.log4rs_config.specs.declared.runtime.error.BuildError.TheVariants.{Errors, Memory}
use Rattle.log4rs_threads.specs.contracts.schedule.installed.InstalledConfigured.TheImpl as installed
use Rattle.log4rs_threads.specs.declared.schedule.installed.Installed.{Installed}
use Rattle.log4rs_threads.specs.declared.schedule.shape.Shape.{Shape}
use Rattle.log4rs_threads.specs.declared.schedule.shape.ShapeAppender.{ShapeAppender}
use Rattle.log4rs_threads.specs.Held.{Holds, AreEmpty, all_texts, items_in}
use Rattle.log4rs_threads.specs.Running.{shapes_in, texts_at, all_items}
use Rattle.log4rs_threads.specs.Shapes.{settings_in, appender_at, or_else, first_faults}
use Rattle.log4rs_threads.specs.Sinks.{IsSink, sink_at}
use Rattle.log4rs_threads.proofs.ListFacts.{slice_get-map}

or_else_nothing : (a b : List Fault) → or_else a b ≡ [] → (a ≡ []) × (b ≡ [])
or_else_nothing [] b e = (refl, e)
or_else_nothing (f ∷ fs) b e = (e, absurd (search rules))

-- shapes without faults leave it to those after them
first_more : (shapes more : List Shape) → first_faults shapes ≡ [] → first_faults (shapes ++ more) ≡ first_faults more
first_more [] more e = refl
first_more (s ∷ shapes) more e =
    let h = or_else_nothing (faults (settings_in s)) (first_faults shapes) e in
    ap (λ (fs : List Fault). or_else fs (first_faults (shapes ++ more))) h.0 ∙ first_more shapes more h.1

-- one shape without faults more
pub faultless_more : (shapes : List Shape) (s : Shape) → first_faults shapes ≡ [] → faults (settings_in s) ≡ [] → first_faults (shapes ++ s ∷ []) ≡ []
faultless_more shapes s e none = first_more shapes (s ∷ []) e ∙ ap (λ (fs : List Fault). or_else fs []) none

or_else_those : (a b : List Fault) → a ≢ [] → or_else a b ≡ a
or_else_those [] b ne = absurd (ne refl)
or_else_those (f ∷ fs) b ne = refl

-- the first shape that has faults answers them
pub refused : (shapes rest : List Shape) (s : Shape) (error : BuildError) → first_faults shapes ≡ [] → IsRefusal (faults (settings_in s)) error → IsRefusal (first_faults (shapes ++ s ∷ rest)) error
refused shapes rest s (Errors errors) e h =
    let those = first_more shapes (s ∷ rest) e ∙ or_else_those (faults (settings_in s)) (first_faults rest) (λ none. h.1 none) in
    (h.0 ∙ sym those, λ none. h.1 (sym those ∙ none))
refused shapes rest s Memory e h = tt

-- one configuration more whose sinks hold nothing
pub news_more : (all : List Installed) (x : Installed) → ((s p : ℕ) → Holds (appender_at (shapes_in all) s p) [] (texts_at all s p)) → AreEmpty x.shape.value.appenders.items (all_texts ((installed.ghosts).sinks x))
    → (s p : ℕ) → Holds (appender_at (shapes_in (all ++ x ∷ [])) s p) [] (texts_at (all ++ x ∷ []) s p)
news_more [] x news empty zero p = empty p
news_more [] x news empty (suc s) p = refl
news_more (y ∷ all) x news empty zero p = news zero p
news_more (y ∷ all) x news empty (suc s) p = news_more all x (λ s. news (suc s)) empty s p

pub shapes_more : (all : List Installed) (x : Installed) (shapes : List Shape) (s : Shape) → shapes_in all ≡ shapes → x.shape.value ≡ s → shapes_in (all ++ x ∷ []) ≡ shapes ++ s ∷ []
shapes_more all x shapes s given is =
    let value : Installed → Shape = λ x. x.shape.value in
    map-append value all (x ∷ []) ∙ (ap (λ (ss : List Shape). ss ++ value x ∷ []) given ∙ ap (λ (t : Shape). shapes ++ t ∷ []) is)

-- the items of a sink
sink_is : (all : List Installed) (s p : ℕ) → sink_at (all_items all) s p ≡ option_map items_in (texts_at all s p)
sink_is all s p =
    let row : Installed → List (List Text) = λ x. map items_in (all_texts ((installed.ghosts).sinks x)) in
    ap (option_and_then (λ xs. slice_get xs p)) (slice_get-map row all s) ∙ go (slice_get all s)
  where
    go : (o : Option Installed) → option_and_then (λ xs. slice_get xs p) (option_map (λ x. map items_in (all_texts ((installed.ghosts).sinks x))) o) ≡ option_map items_in (option_and_then (λ x. slice_get (all_texts ((installed.ghosts).sinks x)) p) o)
    go None = refl
    go (Some x) = slice_get-map items_in (all_texts ((installed.ghosts).sinks x)) p

held : (a : Option ShapeAppender) (entries : List Entry) (t : Option Texts) → Holds a entries t → IsSink a entries (option_map items_in t)
held None entries t h = ap (option_map items_in) h
held (Some a) entries t h = (h.0, h.1, ap (option_map items_in) h.2)

-- a sink that holds what entries read as
pub sink_holds : (a : Option ShapeAppender) (entries : List Entry) (all : List Installed) (s p : ℕ) → Holds a entries (texts_at all s p) → IsSink a entries (sink_at (all_items all) s p)
sink_holds a entries all s p h = subst (IsSink a entries) (sym (sink_is all s p)) (held a entries (texts_at all s p) h)
