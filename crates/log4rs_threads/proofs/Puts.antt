-- Each delivery of a load is put at a step.
use Rattle.std.proofs.Common.{◌≡◌, ℕ, zero, suc, ◌+◌, ◌-◌, ◌<◌, ◌≤◌, Bool, true, false, ◌==◌, not, List, [], ◌∷◌, length, take, drop, refl, sym, ◌∙◌, ap, subst, arith, add-one}
use Rattle.std.proofs.lemmas.Option.{none-some}
use Rattle.std.specs.Prelude.{slice_get, count_by, Option, Some, None, unwrap_or, if◌then◌else◌, ◌&&◌, option_and_then}
use Rattle.log4rs_threads.specs.declared.schedule.event.Event.{Event}
use Rattle.log4rs_threads.specs.declared.schedule.event.Event.TheVariants.{Load, Step, Swap}
use Rattle.log4rs_threads.specs.declared.schedule.shape.Shape.{Shape}
use Rattle.log4rs_threads.specs.Schedule.{is_load_of, is_step_of, is_busy, steps_between, last_load, delivery, put_by}
use Rattle.log4rs_threads.specs.Laws.{IsPutAt}
use Rattle.log4rs_threads.proofs.Advance.{steps_more, steps_same, last_same}
use Rattle.log4rs_threads.proofs.ListFacts.{by_equal, test_same}

within_some : {X : Type 0} (xs : List X) (k : ℕ) → k < length xs → slice_get xs k ≡ None → ⊥
within_some [] k lt none = absurd (omega arith)
within_some (x ∷ xs) zero lt none = none-some x (sym none)
within_some (x ∷ xs) (suc k) lt none = within_some xs k (omega arith) none

abbrev pub IsPut : List Shape → List Event → ℕ → ℕ → ℕ → ℕ → Type 0
IsPut shapes events caller load number before = (at : ℕ) × (load < at) × (at < before) × IsPutAt shapes events caller load number at

module _ (shapes : List Shape) (events : List Event) where
  -- a load stands before what follows it
  last_before : (caller load k : ℕ) → last_load shapes events caller k ≡ Some load → load < k
  last_before caller load zero e = absurd (none-some load e)
  last_before caller load (suc k) e = go (is_load_of caller (slice_get events k) && not (is_busy shapes events caller k (last_load shapes events caller k))) e (λ was. last_before caller load k was)
    where
      go : (b : Bool) → (if b then Some k else last_load shapes events caller k) ≡ Some load → (last_load shapes events caller k ≡ Some load → load < k) → load < suc k
      go true e _ = let h : k ≡ load = ap (λ (o : Option ℕ). unwrap_or o 0) e in omega (arith, h)
      go false e before = let h = before e in omega (arith, h)

  later : (caller load number k : ℕ) → IsPut shapes events caller load number k → IsPut shapes events caller load number (suc k)
  later caller load number k h = let lt : h.0 < k = h.2 in (h.0, h.1, omega (arith, lt), h.3)

  -- nothing has come since a load
  none_since : (caller k : ℕ) (e : Event) → slice_get events k ≡ Some e → is_step_of caller e ≡ false → steps_between shapes events caller k (k + 1) ≡ 0
  none_since caller k e at is =
      let start : k - k ≡ 0 = omega arith in
      steps_same shapes events caller k k e (omega arith) at is ∙ ap (λ (n : ℕ). count_by (is_step_of caller) (take n (drop k events))) start

module _ (shapes : List Shape) (events : List Event) (caller load number : ℕ) where
  put_next : (k : ℕ) → k < length events → last_load shapes events caller (suc k) ≡ Some load → number < steps_between shapes events caller load (suc k)
      → (last_load shapes events caller k ≡ Some load → number < steps_between shapes events caller load k → IsPut shapes events caller load number k) → IsPut shapes events caller load number (suc k)
  put_next k le e lt earlier = go (slice_get events k) refl
    where
      -- what is no step of the caller and leaves its load
      keep : (event : Event) → slice_get events k ≡ Some event → last_load shapes events caller (k + 1) ≡ last_load shapes events caller k → is_step_of caller event ≡ false → IsPut shapes events caller load number (suc k)
      keep event at same is =
          let was : last_load shapes events caller k ≡ Some load = sym same ∙ rw (add-one k) e in
          let before = last_before shapes events caller load k was in
          let steps = steps_same shapes events caller load k event (omega (arith, before)) at is in
          let now : number < steps_between shapes events caller load (k + 1) = rw (add-one k) lt in
          later shapes events caller load number k (earlier was (subst (λ (n : ℕ). number < n) steps now))

      loads : (b : Bool) (event : Event) → slice_get events k ≡ Some event → is_step_of caller event ≡ false
          → (is_load_of caller (slice_get events k) && not (is_busy shapes events caller k (last_load shapes events caller k))) ≡ b → IsPut shapes events caller load number (suc k)
      loads true event at is counts =
          let here : k ≡ load = ap (λ (o : Option ℕ). unwrap_or o 0) (sym (ap (λ (b : Bool). if b then Some k else last_load shapes events caller k) counts) ∙ e) in
          let now : number < steps_between shapes events caller load (k + 1) = rw (add-one k) lt in
          let none = none_since shapes events caller k event at is in
          let h : number < 0 = subst (λ (n : ℕ). number < n) none (subst (λ (l : ℕ). number < steps_between shapes events caller l (k + 1)) (sym here) now) in
          absurd (omega (arith, h))
      loads false event at is counts = keep event at (rw (add-one k, counts) refl) is

      steps : slice_get events k ≡ Some (Step caller) → IsPut shapes events caller load number (suc k)
      steps at =
          let was : last_load shapes events caller k ≡ Some load = sym (last_same shapes events caller k (ap (is_load_of caller) at)) ∙ rw (add-one k) e in
          let before = last_before shapes events caller load k was in
          let more = steps_more shapes events caller load k (Step caller) (omega (arith, before)) at (test_same caller) in
          let now : number < steps_between shapes events caller load k + 1 = subst (λ (n : ℕ). number < n) more (rw (add-one k) lt) in
          by_equal (λ _. IsPut shapes events caller load number (suc k)) number (steps_between shapes events caller load k)
          (λ is. (
            k,
            before,
            omega arith,
            record {
              steps = at;
              of = was;
              nth = sym is;
              put =
                  ap (put_by shapes events k) at
                  ∙ (ap (option_and_then (λ load. delivery shapes events load (steps_between shapes events caller load k))) was ∙ ap (delivery shapes events load) (sym is));
            },
          ))
          (λ ne. later shapes events caller load number k (earlier was (grind (arith, now, ne))))

      go : (o : Option Event) → slice_get events k ≡ o → IsPut shapes events caller load number (suc k)
      go None at = absurd (within_some events k le at)
      go (Some (Load c entry)) at = loads (is_load_of caller (slice_get events k) && not (is_busy shapes events caller k (last_load shapes events caller k))) (Load c entry) at refl refl
      go (Some (Swap shape)) at = keep (Swap shape) at (last_same shapes events caller k (ap (is_load_of caller) at)) refl
      go (Some (Step c)) at =
          by_equal (λ b. (c == caller) ≡ b → IsPut shapes events caller load number (suc k)) c caller
          (λ is _. steps (at ∙ ap (λ (n : ℕ). Some (Step n)) is))
          (λ ne other. keep (Step c) at (last_same shapes events caller k (ap (is_load_of caller) at)) other) refl

  put_before : (k : ℕ) → k ≤ length events → last_load shapes events caller k ≡ Some load → number < steps_between shapes events caller load k → IsPut shapes events caller load number k
  put_before zero le e lt = absurd (none-some load e)
  put_before (suc k) le e lt = put_next k (omega (arith, le)) e lt (λ was more. put_before k (omega (arith, le)) was more)

pub each_put : (shapes : List Shape) (events : List Event) (caller load number before : ℕ) → before ≤ length events → last_load shapes events caller before ≡ Some load → number < steps_between shapes events caller load before → IsPut shapes events caller load number before
each_put shapes events caller load number before le e lt = put_before shapes events caller load number before le e lt

-- a position tells its caller, the load and the number
pub are_apart : (shapes : List Shape) (events : List Event) (at caller load number caller' load' number' : ℕ)
    → IsPutAt shapes events caller load number at → IsPutAt shapes events caller' load' number' at → (caller ≡ caller') × (load ≡ load') × (number ≡ number')
are_apart shapes events at caller load number caller' load' number' p q =
    let callers : caller ≡ caller' = cc (p.steps, q.steps) in
    let loads : load ≡ load' = cc (p.of, q.of, callers) in
    (callers, loads, cc (p.nth, q.nth, callers, loads))
