-- Steps on doors, one for each delivery.
use Rattle.std.proofs.Common.{◌≡◌, ℕ, List, [], ◌∷◌, ◌++◌, Ok, Err, Result, MatchResult, OnErr, sym, ◌∙◌, ap, subst, append_assoc, append-nil}
use Rattle.log4rs_base.specs.declared.record.Record.{Record}
use Rattle.log4rs_base.specs.declared.record.Context.{Context}
use Rattle.log4rs_config.specs.Delivery.{DeliveredBy, AreMade}
use Rattle.log4rs_config.specs.Destinations.{Outcome}
use Rattle.log4rs_config.proofs.Deliveries.{Appends}
use Rattle.log4rs_threads.specs.Steps.{Step, steps_of, AreDeliveries}

-- doors go on to tell, and each delivery is one step more
pub steps_by : {T : Type 0} (tells : T → Type 0) (steps : T → List Step) (r : Record) (c : Context) (appends : Appends T)
    → ((at : ℕ) (outcome : Outcome) (old new : T) → appends at outcome old new
    → (tells old → tells new) × (tells old → steps new ≡ steps old ++ record { place = at; logged = r; context = c; answer = outcome } ∷ []))
    → (made : List (ℕ × Outcome)) (before after : T) → DeliveredBy appends made before after
    → (tells before → tells after) × (tells before → steps after ≡ steps before ++ steps_of r c made)
steps_by tells steps r c appends each [] before after is = (λ t. subst tells (sym is) t, λ t. ap steps is ∙ sym (append-nil (steps before)))
steps_by tells steps r c appends each ((at, outcome) ∷ made) before after (between, one, more) =
    let here = each at outcome before between one in
    let rest = steps_by tells steps r c appends each made between after more in (
      λ t. rest.0 (here.0 t),
      λ t. rest.1 (here.0 t) ∙ (ap (λ (xs : List Step). xs ++ steps_of r c made) (here.1 t) ∙ append_assoc (steps before) _ (steps_of r c made)),
    )

module _ {T E : Type 0} (tells : T → Type 0) (steps : T → List Step) (r : Record) (c : Context) (appends : Appends T)
    (each : (at : ℕ) (outcome : Outcome) (old new : T) → appends at outcome old new
    → (tells old → tells new) × (tells old → steps new ≡ steps old ++ record { place = at; logged = r; context = c; answer = outcome } ∷ [])) where
  -- doors that tell go on to tell
  pub still_told : (result : Result (Unit {0}) E) (places : List ℕ) (Noted : List (ℕ × Outcome) → Type 0) (Kept : E → Type 0) (before after : T)
      → MatchResult result (λ _. (made : List (ℕ × Outcome)) × AreMade appends places made before after × Noted made) Kept → OnErr result (after ≡ before)
      → tells before → tells after
  still_told (Ok u) places Noted Kept before after came err t = (steps_by tells steps r c appends each came.0 before after came.1.delivered).0 t
  still_told (Err e) places Noted Kept before after came err t = subst tells (sym err) t

  -- the deliveries are their steps
  pub told_by : (result : Result (Unit {0}) E) (places : List ℕ) (Noted : List (ℕ × Outcome) → Type 0) (Kept : E → Type 0) (More : List (ℕ × Outcome) → Type 0) (Less : Type 0) (before after : T)
      → MatchResult result (λ _. (made : List (ℕ × Outcome)) × AreMade appends places made before after × Noted made) Kept → OnErr result (after ≡ before)
      → ((made : List (ℕ × Outcome)) → Noted made → More made) → ((e : E) → Kept e → Less)
      → MatchResult result (λ _. (made : List (ℕ × Outcome)) × AreDeliveries places r c (tells before) (steps before) (steps after) made × More made)
      (λ _. (tells before → steps after ≡ steps before) × Less)
  told_by (Ok u) places Noted Kept More Less before after came err more less =
      (came.0, record { at_places = came.1.at_places; steps = (steps_by tells steps r c appends each came.0 before after came.1.delivered).1 }, more came.0 came.2)
  told_by (Err e) places Noted Kept More Less before after came err more less = ((λ t. ap steps err), less e came)
