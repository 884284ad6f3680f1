-- Deliveries one after another.
use Rattle.std.proofs.Common.{◌≡◌, ℕ, Bool, true, false, cond, List, [], ◌∷◌, ◌++◌, Ok, Err, Option, refl, ap, sym, ◌∙◌, subst, append-nil, ◌<◌, ◌+◌, take, length, get_or, slice_index_or, map}
use Rattle.std.proofs.lemmas.List.{map-append, take_more}
use Rattle.std.proofs.lemmas.List.Elements.{filter-append}
use Rattle.std.specs.Prelude.{Some}
use Rattle.log.specs.Level.{allows}
use Rattle.log.specs.declared.level.Level.{Level}
use Rattle.log.specs.declared.level.LevelFilter.{LevelFilter}
use Rattle.log4rs_base.specs.declared.error.LogError.{LogError}
use Rattle.log4rs_config.specs.declared.delivery.AppendError.{AppendError}
use Rattle.log4rs_config.specs.Routing.{admitted, let_through}
use Rattle.log4rs_config.specs.Destinations.{Outcome}
use Rattle.log4rs_config.specs.Delivery.{DeliveredBy, AreMade}
use Rattle.log4rs_config.specs.Answer.{faults}

-- one append at a place
abbrev pub Appends : Type 0 → Type 1
Appends D = ℕ → Outcome → D → D → Type 0

-- some deliveries and then others
delivered_append : {D : Type 0} (appends : Appends D) (ds es : List (ℕ × Outcome)) (before between after : D)
    → DeliveredBy appends ds before between → DeliveredBy appends es between after → DeliveredBy appends (ds ++ es) before after
delivered_append {D} appends [] es before between after d e = subst (λ (x : D). DeliveredBy appends es x after) d e
delivered_append appends ((at, outcome) ∷ ds) es before between after (middle, one, more) e =
    (middle, one, delivered_append appends ds es middle between after more e)

-- none
pub made_none : {D : Type 0} (appends : Appends D) (here : D) → AreMade appends [] [] here here
made_none appends here = record { at_places = refl; delivered = refl }

-- the places among one more
reach : (admits : List Bool) (places : List ℕ) (k : ℕ) (b : Bool) → k < length places → slice_index_or admits (get_or places k 0) true ≡ b
    → admitted admits (take (k + 1) places) ≡ admitted admits (take k places) ++ cond b (get_or places k 0 ∷ []) []
reach admits places k b h is =
    ap (admitted admits) (take_more places k 0 h)
    ∙ (filter-append (λ (at : ℕ). slice_index_or admits at true) (take k places) (get_or places k 0 ∷ [])
    ∙ ap (λ (x : Bool). admitted admits (take k places) ++ cond x (get_or places k 0 ∷ []) []) is)

-- one place more, whose filters keep the record out
pub made_skip : {D : Type 0} (appends : Appends D) (admits : List Bool) (places : List ℕ) (k : ℕ) (made : List (ℕ × Outcome)) (before after : D)
    → k < length places → slice_index_or admits (get_or places k 0) true ≡ false
    → AreMade appends (admitted admits (take k places)) made before after → AreMade appends (admitted admits (take (k + 1) places)) made before after
made_skip appends admits places k made before after h out so_far =
    subst (λ (ps : List ℕ). AreMade appends ps made before after) (sym (reach admits places k false h out ∙ append-nil (admitted admits (take k places)))) so_far

-- one place more, and an append there
pub made_more : {D : Type 0} (appends : Appends D) (admits : List Bool) (places : List ℕ) (k : ℕ) (made : List (ℕ × Outcome)) (outcome : Outcome) (before between after : D)
    → k < length places → slice_index_or admits (get_or places k 0) true ≡ true
    → AreMade appends (admitted admits (take k places)) made before between → appends (get_or places k 0) outcome between after
    → AreMade appends (admitted admits (take (k + 1) places)) (made ++ (get_or places k 0, outcome) ∷ []) before after
made_more appends admits places k made outcome before between after h through so_far one =
    let at = get_or places k 0 in
    let all : map (λ (d : ℕ × Outcome). d.0) (made ++ (at, outcome) ∷ []) ≡ admitted admits (take k places) ++ at ∷ [] =
    map-append (λ (d : ℕ × Outcome). d.0) made ((at, outcome) ∷ []) ∙ ap (λ (ps : List ℕ). ps ++ at ∷ []) so_far.at_places in
    record {
      at_places = all ∙ sym (reach admits places k true h through);
      delivered = delivered_append appends made ((at, outcome) ∷ []) before between after so_far.delivered (after, one, refl);
    }

-- a record that the level keeps out
pub let_nothing_through : {D : Type 0} (appends : Appends D) (limit : LevelFilter) (places : List ℕ) (admits : List Bool) (level : Level) (here : D)
    → allows limit level ≡ false → AreMade appends (let_through limit places admits level) [] here here
let_nothing_through appends limit places admits level here below = rw below (made_none appends here)

-- where each append does this to what is seen, deliveries do
pub seen_by : {D S : Type 0} (see : D → S) (appends : Appends D) (shows : Appends S) → ((at : ℕ) (outcome : Outcome) (old new : D) → appends at outcome old new → shows at outcome (see old) (see new))
    → (made : List (ℕ × Outcome)) (before after : D) → DeliveredBy appends made before after → DeliveredBy shows made (see before) (see after)
seen_by see appends shows each [] before after is = ap see is
seen_by see appends shows each ((at, outcome) ∷ made) before after (between, one, more) =
    (see between, each at outcome before between one, seen_by see appends shows each made between after more)

-- the faults of deliveries are those of the first ones and then those of the others
faults_append : (ds es : List (ℕ × Outcome)) → faults (ds ++ es) ≡ faults ds ++ faults es
faults_append [] es = refl
faults_append ((at, Ok _) ∷ ds) es = faults_append ds es
faults_append ((at, Err fault) ∷ ds) es = ap (λ (xs : List AppendError). record { appender = at; fault = fault } ∷ xs) (faults_append ds es)

-- a fault is noted
pub fault_noted : (before : List (ℕ × Outcome)) (at : ℕ) (answer : Outcome) (fault : LogError) (errors more : List AppendError) → answer ≡ Err fault
    → errors ≡ faults before → more ≡ errors ++ record { appender = at; fault = fault } ∷ [] → more ≡ faults (before ++ (at, answer) ∷ [])
fault_noted before at answer fault errors more is e n =
    rw is (n ∙ (ap (λ (xs : List AppendError). xs ++ record { appender = at; fault = fault } ∷ []) e ∙ sym (faults_append before ((at, Err fault) ∷ []))))

-- nothing is noted of what went well
pub success_noted : (before : List (ℕ × Outcome)) (at : ℕ) (answer : Outcome) (x : Unit {0}) (errors : List AppendError) → answer ≡ Ok x
    → errors ≡ faults before → errors ≡ faults (before ++ (at, answer) ∷ [])
success_noted before at answer x errors is e = rw is (e ∙ (sym (append-nil (faults before)) ∙ sym (faults_append before ((at, Ok x) ∷ []))))

-- the same of faults that each stand in an option
pub fault_kept : (before : List (ℕ × Outcome)) (at : ℕ) (answer : Outcome) (fault : LogError) (errors more : List (Option AppendError)) → answer ≡ Err fault
    → errors ≡ map Some (faults before) → more ≡ errors ++ Some (record { appender = at; fault = fault }) ∷ [] → more ≡ map Some (faults (before ++ (at, answer) ∷ []))
fault_kept before at answer fault errors more is e n =
    n ∙ (ap (λ (xs : List (Option AppendError)). xs ++ Some (record { appender = at; fault = fault }) ∷ []) e
    ∙ (sym (map-append Some (faults before) (record { appender = at; fault = fault } ∷ []))
    ∙ ap (map Some) (fault_noted before at answer fault (faults before) (faults before ++ record { appender = at; fault = fault } ∷ []) is refl refl)))

pub success_kept : (before : List (ℕ × Outcome)) (at : ℕ) (answer : Outcome) (x : Unit {0}) (errors : List (Option AppendError)) → answer ≡ Ok x
    → errors ≡ map Some (faults before) → errors ≡ map Some (faults (before ++ (at, answer) ∷ []))
success_kept before at answer x errors is e = e ∙ ap (map Some) (success_noted before at answer x (faults before) is refl)
