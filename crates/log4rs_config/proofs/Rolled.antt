-- Deliveries leave each rolled file the one that it was, and each other sink as it was.
use Rattle.std.proofs.Common.{◌≡◌, ◌≢◌, ◌⊎◌, ℕ, zero, suc, List, [], ◌∷◌, Option, Some, None, Result, Ok, Err, map, slice_set, slice_index_or, inl, inr, refl, ap, subst, sym, ◌∙◌}
use Rattle.std.proofs.lemmas.List.Elements.{All-head, All-tail}
use Rattle.log4rs_base.specs.declared.record.Record.{Record}
use Rattle.log4rs_base.specs.declared.record.Context.{Context}
use Rattle.log4rs_append.specs.RolledFile.{RolledFile, GoesOn, OnRolledFile, RolledAppend}
use Rattle.log4rs_append.specs.Sink.{Sink, untold}
use Rattle.log4rs_append.proofs.Rolled.{goes_on_joined, goes_on_still}
use Rattle.log4rs_config.specs.declared.delivery.CoreError.{CoreError}
use Rattle.log4rs_config.specs.declared.delivery.CoreError.TheVariants.{Memory, Appenders}
use Rattle.log4rs_config.specs.Answer.{IsAnswer, Delivered}
use Rattle.log4rs_config.specs.Delivery.{DeliveredBy}
use Rattle.log4rs_config.specs.declared.delivery.AppendError.{AppendError}
use Rattle.log4rs_config.specs.Destinations.{AppendedAt, Outcome}
use Rattle.log4rs_config.specs.Kept.{OthersAreLeft, RolledFilesGoOn, rolled_at}

on_still : (file : Option RolledFile) → OnRolledFile GoesOn file file
on_still None = tt
on_still (Some file) = goes_on_still file

on_joined : (a b c : Option RolledFile) → OnRolledFile GoesOn a b → OnRolledFile GoesOn b c → OnRolledFile GoesOn a c
on_joined None None c one other = other
on_joined None (Some b) c one other = absurd one
on_joined (Some a) None c one other = absurd one
on_joined (Some a) (Some b) None one other = absurd other
on_joined (Some a) (Some b) (Some c) one other = goes_on_joined a b c one other

on_append : (r : Record) (c : Context) (outcome : Outcome) (before after : Option RolledFile) → OnRolledFile (RolledAppend r c outcome) before after → OnRolledFile GoesOn before after
on_append r c outcome None None is = tt
on_append r c outcome None (Some after) is = absurd is
on_append r c outcome (Some before) None is = absurd is
on_append r c outcome (Some before) (Some after) is = is.goes_on

-- what stands at a place once a sink was set: that sink, or what stood there
set_at : (sinks : List Sink) (place at : ℕ) (sink : Sink)
    → (slice_index_or (slice_set sinks place sink) at untold ≡ slice_index_or sinks at untold) ⊎ ((place ≡ at) × (slice_index_or (slice_set sinks place sink) at untold ≡ sink))
set_at [] place at sink = inl refl
set_at (s ∷ sinks) zero zero sink = inr (refl, refl)
set_at (s ∷ sinks) zero (suc at) sink = inl refl
set_at (s ∷ sinks) (suc place) zero sink = inl refl
set_at (s ∷ sinks) (suc place) (suc at) sink = elim (set_at sinks place at sink) [
  | inl same ↦ inl same
  | inr set ↦ inr (ap suc set.0, set.1)
]

goes_at : (r : Record) (c : Context) (place : ℕ) (outcome : Outcome) (before after : List Sink) → AppendedAt r c place outcome before after → RolledFilesGoOn before after
goes_at r c place outcome before after (sink, appends, is) at =
    subst (λ (sinks : List Sink). OnRolledFile GoesOn (rolled_at before at) (rolled_at sinks at)) (sym is) (elim (set_at before place at sink) [
      | inl same ↦ subst (λ (s : Sink). OnRolledFile GoesOn (rolled_at before at) s.rolled) (sym same) (on_still (rolled_at before at))
      | inr set ↦
          subst (λ (s : Sink). OnRolledFile GoesOn (rolled_at before at) s.rolled) (sym set.1)
          (subst (λ (x : ℕ). OnRolledFile GoesOn (rolled_at before x) sink.rolled) set.0 (on_append r c outcome (rolled_at before place) sink.rolled appends.rolled))
    ])

left_at : (r : Record) (c : Context) (place at : ℕ) (outcome : Outcome) (before after : List Sink) → place ≢ at → AppendedAt r c place outcome before after
    → slice_index_or after at untold ≡ slice_index_or before at untold
left_at r c place at outcome before after other (sink, appends, is) =
    ap (λ (sinks : List Sink). slice_index_or sinks at untold) is ∙ (elim (set_at before place at sink) [
      | inl same ↦ same
      | inr set ↦ absurd (other set.0)
    ])

goes_all : (r : Record) (c : Context) (made : List (ℕ × Outcome)) (before after : List Sink) → DeliveredBy (AppendedAt r c) made before after → RolledFilesGoOn before after
goes_all r c [] before after is at = subst (λ (sinks : List Sink). OnRolledFile GoesOn (rolled_at before at) (rolled_at sinks at)) (sym is) (on_still (rolled_at before at))
goes_all r c ((p, o) ∷ made) before after (between, one, others) at =
    on_joined (rolled_at before at) (rolled_at between at) (rolled_at after at) (goes_at r c p o before between one at) (goes_all r c made between after others at)

left_all : (r : Record) (c : Context) (made : List (ℕ × Outcome)) (before after : List Sink) → DeliveredBy (AppendedAt r c) made before after → OthersAreLeft (map (λ d. d.0) made) before after
left_all r c [] before after is at none = ap (λ (sinks : List Sink). slice_index_or sinks at untold) is
left_all r c ((p, o) ∷ made) before after (between, one, others) at none =
    let places = map (λ (d : ℕ × Outcome). d.0) made in
    left_all r c made between after others at (All-tail (λ place. place ≢ at) p places none) ∙ left_at r c p at o before between (All-head (λ place. place ≢ at) p places none) one

delivered_leaves : (r : Record) (c : Context) (places : List ℕ) (errors : List AppendError) (before after : List Sink) → Delivered r c places errors before after → OthersAreLeft places before after
delivered_leaves r c places errors before after is = subst (λ (ps : List ℕ). OthersAreLeft ps before after) is.1.at_places (left_all r c is.0 before after is.1.delivered)

-- the answer to a record
pub answer_goes_on : (r : Record) (c : Context) (places : List ℕ) (answer : Result (Unit {0}) CoreError) (before after : List Sink) → IsAnswer r c places answer before after → RolledFilesGoOn before after
answer_goes_on r c places (Ok u) before after is = goes_all r c is.0 before after is.1.delivered
answer_goes_on r c places (Err (Appenders errors)) before after is = goes_all r c is.1.0 before after is.1.1.delivered
answer_goes_on r c places (Err Memory) before after is = λ at. subst (λ (sinks : List Sink). OnRolledFile GoesOn (rolled_at before at) (rolled_at sinks at)) (sym is) (on_still (rolled_at before at))

pub answer_leaves_others : (r : Record) (c : Context) (places : List ℕ) (answer : Result (Unit {0}) CoreError) (before after : List Sink) → IsAnswer r c places answer before after → OthersAreLeft places before after
answer_leaves_others r c places (Ok u) before after is = delivered_leaves r c places [] before after is
answer_leaves_others r c places (Err (Appenders errors)) before after is = delivered_leaves r c places errors.items before after is.1
answer_leaves_others r c places (Err Memory) before after is = λ at none. ap (λ (sinks : List Sink). slice_index_or sinks at untold) is

-- two answers, one after the other
pub both_go_on : (before between after : List Sink) → RolledFilesGoOn before between → RolledFilesGoOn between after → RolledFilesGoOn before after
both_go_on before between after one other at = on_joined (rolled_at before at) (rolled_at between at) (rolled_at after at) (one at) (other at)
