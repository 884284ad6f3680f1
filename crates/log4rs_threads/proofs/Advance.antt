-- The state of a run, one event on.
use Rattle.std.proofs.Common.{◌≡◌, ℕ, ◌+◌, ◌-◌, ◌<◌, ◌≤◌, Bool, true, false, ◌&&◌, ◌==◌, not, nat_lt, List, [], ◌∷◌, ◌++◌, length, take, drop, get_or, refl, sym, ◌∙◌, ap, append-nil, subst, arith, add-one, length-drop, All, vec_len}
use Rattle.std.proofs.lemmas.Bool.Decides.{nat_tests}
use Rattle.std.proofs.lemmas.List.{drop-drop, get_or-drop, map-append}
use Rattle.std.proofs.lemmas.List.Elements.{All-drop}
use Rattle.std.proofs.lemmas.List.Sums.{count_by_more_no, count_by_more_yes}
use Rattle.std.proofs.lemmas.Option.{get_or_from_slice_get, slice_get_within}
use Rattle.std.specs.Prelude.{slice_get, count_by, Option, Some, None, if◌then◌else◌, option_map, option_and_then}
use Rattle.std.specs.BTreeMap.{get, is_at}
use Rattle.std.specs.Ordering.{nat_cmp}
use Rattle.log4rs_base.specs.Text.{Text}
use Rattle.log4rs_base.specs.declared.record.Entry.{Entry}
use Rattle.log4rs_append.specs.Sink.{Texts, Items}
use Rattle.log4rs_threads.specs.declared.schedule.event.Event.{Event}
use Rattle.log4rs_threads.specs.declared.schedule.event.Event.TheVariants.{Load, Step, Swap}
use Rattle.log4rs_threads.specs.declared.schedule.shape.Shape.{Shape}
use Rattle.log4rs_threads.specs.declared.schedule.shape.ShapeAppender.{ShapeAppender}
use Rattle.log4rs_threads.specs.declared.schedule.state.State.{State}
use Rattle.log4rs_threads.specs.Held.{Holds, gained, reading}
use Rattle.log4rs_threads.specs.Pending.{Pending}
use Rattle.log4rs_threads.specs.Running.{shapes_in, size_at, texts_at, texts_after, has_left, stepped, loaded, put_of, Follows, IsRun}
use Rattle.log4rs_threads.specs.Schedule.{Put, put_at, is_load_of, is_step_of, is_busy, shape_after, shape_at, load_places, steps_between, last_load, put_by, entries_before, entry_of, delivery}
use Rattle.log4rs_threads.specs.Shapes.{appender_at}
use Rattle.log4rs_threads.proofs.ListFacts.{by_key, test_same, test_other, slice_get-drop}

and_false : (b : Bool) → (b && not true) ≡ false
and_false true = refl
and_false false = refl

-- numbers are left exactly where the list goes on
left_is : (n : ℕ) (xs : List ℕ) → nat_lt n (length xs) ≡ not (length (drop n xs) == 0)
left_is n xs = let h = length-drop n xs in grind (arith, nat_tests, h)

-- a put into a sink that holds what entries read as
pub holds_put : (a : Option ShapeAppender) (entries : List Entry) (s p : ℕ) (put : Option Put) (t : Option Texts) → Holds a entries t → Holds a (entries ++ put_at s p put) (texts_after s p put t)
holds_put a entries s p None t holds = subst (λ (es : List Entry). Holds a es t) (sym (append-nil entries)) holds
holds_put a entries s p (Some put) t holds = go ((put.shape == s) && (put.place == p))
  where
    gain : Texts → Texts
    gain = gained put.entry.logged put.entry.context

    more : (a : Option ShapeAppender) → Holds a entries t → Holds a (entries ++ put.entry ∷ []) (option_map gain t)
    more None none = ap (option_map gain) none
    more (Some a) h = (h.0, h.1, ap (option_map gain) h.2 ∙ ap (λ (texts : List Text). Some (Items (reading h.0) texts)) (sym (map-append (λ (e : Entry). reading h.0 e.logged e.context) entries (put.entry ∷ []))))

    go : (b : Bool) → Holds a (entries ++ (if b then put.entry ∷ [] else [])) (if b then option_map gain t else t)
    go true = more a holds
    go false = subst (λ (es : List Entry). Holds a es t) (sym (append-nil entries)) holds

module _ (shapes : List Shape) (events : List Event) where
  reached : (k from : ℕ) (e : Event) → from ≤ k → slice_get events k ≡ Some e → (get_or (drop from events) (k - from) e ≡ e) × (k - from < length (drop from events)) × (k + 1 - from ≡ (k - from) + 1)
  reached k from e le at =
      let lt = slice_get_within events k e at in
      let eq : from + (k - from) ≡ k = omega arith in (
        get_or-drop from events (k - from) e ∙ (ap (λ (n : ℕ). get_or events n e) eq ∙ get_or_from_slice_get events k e e at),
        omega (arith, length-drop from events, lt),
        omega arith,
      )

  pub steps_more : (caller from k : ℕ) (e : Event) → from ≤ k → slice_get events k ≡ Some e → is_step_of caller e ≡ true
      → steps_between shapes events caller from (k + 1) ≡ steps_between shapes events caller from k + 1
  steps_more caller from k e le at is =
      let r = reached k from e le at in
      ap (λ (n : ℕ). count_by (is_step_of caller) (take n (drop from events))) r.2 ∙ count_by_more_yes (is_step_of caller) (drop from events) (k - from) e r.1 (ap (is_step_of caller) r.0 ∙ is)

  pub steps_same : (caller from k : ℕ) (e : Event) → from ≤ k → slice_get events k ≡ Some e → is_step_of caller e ≡ false
      → steps_between shapes events caller from (k + 1) ≡ steps_between shapes events caller from k
  steps_same caller from k e le at is =
      let r = reached k from e le at in
      ap (λ (n : ℕ). count_by (is_step_of caller) (take n (drop from events))) r.2 ∙ count_by_more_no (is_step_of caller) (drop from events) (k - from) e r.1 (ap (is_step_of caller) r.0 ∙ is)

  last_more : (caller k : ℕ) → is_load_of caller (slice_get events k) ≡ true → is_busy shapes events caller k (last_load shapes events caller k) ≡ false
      → last_load shapes events caller (k + 1) ≡ Some k
  last_more caller k is free = rw (add-one k, is, free) refl

  pub last_busy : (caller k : ℕ) → is_busy shapes events caller k (last_load shapes events caller k) ≡ true → last_load shapes events caller (k + 1) ≡ last_load shapes events caller k
  last_busy caller k busy = rw (add-one k, busy, and_false (is_load_of caller (slice_get events k))) refl

  pub last_same : (caller k : ℕ) → is_load_of caller (slice_get events k) ≡ false → last_load shapes events caller (k + 1) ≡ last_load shapes events caller k
  last_same caller k is = rw (add-one k, is) refl

  busy_is : (k caller : ℕ) (o : Option Pending) → Follows shapes events k caller o → is_busy shapes events caller k (last_load shapes events caller k) ≡ has_left o
  busy_is k caller None f = ap (is_busy shapes events caller k) f
  busy_is k caller (Some call) f =
      ap (is_busy shapes events caller k) f.load
      ∙ (left_is (steps_between shapes events caller call.load k) (load_places shapes events call.load) ∙ ap (λ (xs : List ℕ). not (length xs == 0)) (sym f.rest))

  follows_same : (caller k : ℕ) (e : Event) (o : Option Pending) → slice_get events k ≡ Some e → last_load shapes events caller (k + 1) ≡ last_load shapes events caller k → is_step_of caller e ≡ false
      → Follows shapes events k caller o → Follows shapes events (k + 1) caller o
  follows_same caller k e None at same is f = same ∙ f
  follows_same caller k e (Some call) at same is f =
      let earlier = f.earlier in
      record {
        load = same ∙ f.load;
        earlier = omega (arith, earlier);
        shape = f.shape;
        within = f.within;
        rest = f.rest ∙ ap (λ (n : ℕ). drop n (load_places shapes events call.load)) (sym (steps_same caller call.load k e (omega (arith, earlier)) at is));
      }

  follows_new : (caller k shape : ℕ) (places : List ℕ) (e : Event) → slice_get events k ≡ Some e → last_load shapes events caller (k + 1) ≡ Some k → is_step_of caller e ≡ false
      → shape ≡ shape_at shapes events k → All (λ at. at < size_at shapes shape) places → places ≡ load_places shapes events k
      → Follows shapes events (k + 1) caller (Some (record { load = k; shape = shape; rest = places }))
  follows_new caller k shape places e at last is here within all =
      let start : k - k ≡ 0 = omega arith in
      let none : steps_between shapes events caller k k ≡ 0 = ap (λ (n : ℕ). count_by (is_step_of caller) (take n (drop k events))) start in
      record {
        load = last;
        earlier = omega arith;
        shape = here;
        within = within;
        rest = all ∙ ap (λ (n : ℕ). drop n (load_places shapes events k)) (sym (steps_same caller k k e (omega arith) at is ∙ none));
      }

  follows_step : (caller k : ℕ) (o : Option Pending) → slice_get events k ≡ Some (Step caller) → Follows shapes events k caller o → Follows shapes events (k + 1) caller (option_map stepped o)
  follows_step caller k None at f = last_same caller k (ap (is_load_of caller) at) ∙ f
  follows_step caller k (Some call) at f =
      let earlier = f.earlier in
      let places = load_places shapes events call.load in
      record {
        load = last_same caller k (ap (is_load_of caller) at) ∙ f.load;
        earlier = omega (arith, earlier);
        shape = f.shape;
        within = All-drop (λ at. at < size_at shapes call.shape) 1 call.rest f.within;
        rest = ap (drop 1) f.rest ∙ (drop-drop 1 (steps_between shapes events caller call.load k) places ∙ ap (λ (n : ℕ). drop n places) (sym (steps_more caller call.load k (Step caller) (omega (arith, earlier)) at (test_same caller))));
      }

  -- nothing is put
  texts_same : (k : ℕ) (s p : ℕ) (t : Option Texts) → put_by shapes events k (slice_get events k) ≡ None → Holds (appender_at shapes s p) (entries_before shapes events s p k) t
      → Holds (appender_at shapes s p) (entries_before shapes events s p (k + 1)) t
  texts_same k s p t none holds = rw (add-one k, none) (subst (λ (es : List Entry). Holds (appender_at shapes s p) es t) (sym (append-nil (entries_before shapes events s p k))) holds)

  pub run_swap : (k shape : ℕ) (old new : State) → slice_get events k ≡ Some (Swap shape) → IsRun shapes events k old → length shapes ≡ vec_len old.all
      → new.shape ≡ (if nat_lt shape (vec_len old.all) then shape else old.shape) → new.all ≡ old.all → new.calls ≡ old.calls → IsRun shapes events (k + 1) new
  run_swap k shape old new at run size is all calls = record {
    given = ap (λ a. shapes_in a.items) all ∙ run.given;
    shape = is ∙ (ap (λ (n : ℕ). if nat_lt shape n then shape else old.shape) (sym size) ∙ (ap (shape_after (length shapes) (Some (Swap shape))) run.shape ∙ rw (add-one k, at) refl));
    known = subst (λ (n : ℕ). n < length shapes) (sym is) (subst (λ (n : ℕ). (if nat_lt shape n then shape else old.shape) < length shapes) size (known (nat_lt shape (length shapes)) refl));
    calls = λ q. subst (λ m. Follows shapes events (k + 1) q (get nat_cmp m q)) (sym calls)
        (follows_same q k (Swap shape) (get nat_cmp old.calls q) at (last_same q k (ap (is_load_of q) at)) refl (run.calls q));
    texts = λ s p. subst (λ a. Holds (appender_at shapes s p) (entries_before shapes events s p (k + 1)) (texts_at a.items s p)) (sym all)
        (texts_same k s p (texts_at old.all.items s p) (ap (put_by shapes events k) at) (run.texts s p));
  }
    where
      known : (b : Bool) → nat_lt shape (length shapes) ≡ b → (if b then shape else old.shape) < length shapes
      known true e = grind (arith, nat_tests, e)
      known false e = run.known

  pub run_load : (k caller : ℕ) (entry : Entry) (places : List ℕ) (old new : State) → slice_get events k ≡ Some (Load caller entry) → IsRun shapes events k old → new.shape ≡ old.shape → new.all ≡ old.all
      → ((q : ℕ) → get nat_cmp new.calls q ≡ (if is_at (nat_cmp caller) q then loaded (get nat_cmp old.calls q) (record { load = k; shape = old.shape; rest = places }) else get nat_cmp old.calls q))
      → (has_left (get nat_cmp old.calls caller) ≡ false → All (λ at. at < size_at shapes old.shape) places) → places ≡ load_places shapes events k
      → IsRun shapes events (k + 1) new
  run_load k caller entry places old new at run is all calls within here = record {
    given = ap (λ a. shapes_in a.items) all ∙ run.given;
    shape = is ∙ (run.shape ∙ rw (add-one k, at) refl);
    known = subst (λ (n : ℕ). n < length shapes) (sym is) run.known;
    calls = λ q. subst (Follows shapes events (k + 1) q) (sym (calls q)) (each q);
    texts = λ s p. subst (λ a. Holds (appender_at shapes s p) (entries_before shapes events s p (k + 1)) (texts_at a.items s p)) (sym all)
        (texts_same k s p (texts_at old.all.items s p) (ap (put_by shapes events k) at) (run.texts s p));
  }
    where
      new_call : Pending
      new_call = record { load = k; shape = old.shape; rest = places }

      own : (o : Option Pending) → Follows shapes events k caller o → (has_left o ≡ false → All (λ at. at < size_at shapes old.shape) places) → (b : Bool) → has_left o ≡ b
          → Follows shapes events (k + 1) caller (if b then o else Some new_call)
      own o f fits true e = follows_same caller k (Load caller entry) o at (last_busy caller k (busy_is k caller o f ∙ e)) refl f
      own o f fits false e =
          follows_new caller k old.shape places (Load caller entry) at (last_more caller k (ap (is_load_of caller) at ∙ test_same caller) (busy_is k caller o f ∙ e)) refl run.shape (fits e) here

      each : (q : ℕ) → Follows shapes events (k + 1) q (if is_at (nat_cmp caller) q then loaded (get nat_cmp old.calls q) new_call else get nat_cmp old.calls q)
      each q = by_key (λ b. Follows shapes events (k + 1) q (if b then loaded (get nat_cmp old.calls q) new_call else get nat_cmp old.calls q)) caller q
          (λ e. subst (λ (n : ℕ). Follows shapes events (k + 1) n (loaded (get nat_cmp old.calls n) new_call)) e
          (own (get nat_cmp old.calls caller) (run.calls caller) within (has_left (get nat_cmp old.calls caller)) refl))
          (λ ne. follows_same q k (Load caller entry) (get nat_cmp old.calls q) at (last_same q k (ap (is_load_of q) at ∙ test_other caller q ne)) refl (run.calls q))

  put_is : (k caller : ℕ) (o : Option Pending) → Follows shapes events k caller o → put_of events o ≡ put_by shapes events k (Some (Step caller))
  put_is k caller None f = sym (ap (option_and_then (λ load. delivery shapes events load (steps_between shapes events caller load k))) f)
  put_is k caller (Some call) f =
      let entry = entry_of (slice_get events call.load) in
      let put : ℕ → Option ℕ → Option Put = λ shape o. option_and_then (λ entry. option_map (λ place. record { shape = shape; place = place; entry = entry }) o) entry in
      let next : slice_get call.rest 0 ≡ slice_get (load_places shapes events call.load) (steps_between shapes events caller call.load k) =
      ap (λ (xs : List ℕ). slice_get xs 0) f.rest ∙ slice_get-drop (load_places shapes events call.load) (steps_between shapes events caller call.load k) in
      ap (λ (s : ℕ). put s (slice_get call.rest 0)) f.shape
      ∙ (ap (put (shape_at shapes events call.load)) next ∙ sym (ap (option_and_then (λ load. delivery shapes events load (steps_between shapes events caller load k))) f.load))

  pub run_step : (k caller : ℕ) (old new : State) → slice_get events k ≡ Some (Step caller) → IsRun shapes events k old → new.shape ≡ old.shape → shapes_in new.all.items ≡ shapes_in old.all.items
      → ((q : ℕ) → get nat_cmp new.calls q ≡ (if is_at (nat_cmp caller) q then option_map stepped (get nat_cmp old.calls q) else get nat_cmp old.calls q))
      → ((s p : ℕ) → texts_at new.all.items s p ≡ texts_after s p (put_of events (get nat_cmp old.calls caller)) (texts_at old.all.items s p))
      → IsRun shapes events (k + 1) new
  run_step k caller old new at run is same calls texts = record {
    given = same ∙ run.given;
    shape = is ∙ (run.shape ∙ rw (add-one k, at) refl);
    known = subst (λ (n : ℕ). n < length shapes) (sym is) run.known;
    calls = λ q. subst (Follows shapes events (k + 1) q) (sym (calls q)) (each q);
    texts = λ s p. subst (Holds (appender_at shapes s p) (entries_before shapes events s p (k + 1))) (sym (texts s p)) (held s p);
  }
    where
      each : (q : ℕ) → Follows shapes events (k + 1) q (if is_at (nat_cmp caller) q then option_map stepped (get nat_cmp old.calls q) else get nat_cmp old.calls q)
      each q = by_key (λ b. Follows shapes events (k + 1) q (if b then option_map stepped (get nat_cmp old.calls q) else get nat_cmp old.calls q)) caller q
          (λ e. subst (λ (n : ℕ). Follows shapes events (k + 1) n (option_map stepped (get nat_cmp old.calls n))) e (follows_step caller k (get nat_cmp old.calls caller) at (run.calls caller)))
          (λ ne. follows_same q k (Step caller) (get nat_cmp old.calls q) at (last_same q k (ap (is_load_of q) at)) (test_other caller q ne) (run.calls q))

      put : Option Put
      put = put_of events (get nat_cmp old.calls caller)

      now : put_by shapes events k (slice_get events k) ≡ put
      now = ap (put_by shapes events k) at ∙ sym (put_is k caller (get nat_cmp old.calls caller) (run.calls caller))

      held : (s p : ℕ) → Holds (appender_at shapes s p) (entries_before shapes events s p (k + 1)) (texts_after s p put (texts_at old.all.items s p))
      held s p = rw (add-one k, now) (holds_put (appender_at shapes s p) (entries_before shapes events s p k) s p put (texts_at old.all.items s p) (run.texts s p))
