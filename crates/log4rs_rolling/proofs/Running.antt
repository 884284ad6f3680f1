-- An append whose answer is noted.
use Rattle.std.proofs.Common.{◌≡◌, inl, inr, ℕ, List, Bool, true, false, Option, Some, None, refl, sym, ap, ◌∙◌, subst, IfSome, Result}
use Rattle.log4rs_rolling.proofs.Both.{calls_both}
use Rattle.log4rs_rolling.specs.Disk.{Disk, Calls, files_of}
use Rattle.log4rs_base.specs.declared.record.Context.{Context}
use Rattle.log4rs_base.specs.declared.record.Record.{Record}
use Rattle.log4rs_base.specs.declared.error.LogError.{LogError}
use Rattle.log4rs_rolling.specs.declared.trigger.NotedTrigger.{NotedTrigger}
use Rattle.log4rs_rolling.specs.Window.{around}
use Rattle.log4rs_rolling.specs.Asking.{Asking, Noted, UnlessYes}
use Rattle.log4rs_rolling.specs.Triggers.{NotesIt, note_of, trigger_of}
use Rattle.log4rs_rolling.specs.Keeping.{Keeping, Stands}
use Rattle.log4rs_rolling.specs.Appends.{Reading, Appended, AppendedTo, Adds, OneAppend}
use Rattle.log4rs_rolling.proofs.Parts.{if_map}

-- One append with its note

clash : (b : Bool) → Some b ≡ None → ⊥
clash b e = cc

pub note_is : {T P : Type 0} (notes : Context → T → Option Bool → T → Type 0) (context : Context) (trigger : P → NotedTrigger T) (p0 p1 : P) (answer : Option Bool) → note_of (trigger p0) ≡ None
    → Noted (λ before answer now. NotesIt notes context (trigger before) answer (trigger now)) p0 answer p1 → answer ≡ note_of (trigger p1)
note_is notes context trigger p0 p1 (Some b) none noted = elim noted [ inl is ↦ sym is.0 | inr not ↦ absurd (clash b not.0) ]
note_is {P = P} notes context trigger p0 p1 None none noted = elim noted [ inl is ↦ sym (is.0 ∙ none) | inr not ↦ sym (ap (λ (p : P). note_of (trigger p)) not.1 ∙ none) ]

-- the trigger whose answers are noted goes on as it tells
pub goes_on : {T P : Type 0} (notes : Context → T → Option Bool → T → Type 0) (context : Context) (trigger : P → NotedTrigger T) (p0 p1 : P) (answer noted : Option Bool) (first : T)
    → Noted (λ before answer now. NotesIt notes context (trigger before) answer (trigger now)) p0 answer p1 → answer ≡ noted → trigger_of (trigger p0) ≡ first
    → Noted (notes context) first noted (trigger_of (trigger p1))
goes_on {T = T} {P = P} notes context trigger p0 p1 answer noted first was same begun =
    subst (λ (a : Option Bool). Noted (notes context) first a (trigger_of (trigger p1))) same
    (subst (λ (t : T). Noted (notes context) t answer (trigger_of (trigger p1))) begun (inner answer was)) where
      inner : (a : Option Bool) → Noted (λ before answer now. NotesIt notes context (trigger before) answer (trigger now)) p0 a p1 → Noted (notes context) (trigger_of (trigger p0)) a (trigger_of (trigger p1))
      inner (Some b) noted = elim noted [ inl is ↦ inl is.1 | inr not ↦ absurd (clash b not.0) ]
      inner None noted = elim noted [ inl is ↦ inl is.1 | inr not ↦ inr (refl, ap (λ (p : P). trigger_of (trigger p)) not.1) ]

-- a trigger is noted, and its roller beside it
pub trigger_noted : {T R P : Type 0} (notes : Context → T → Option Bool → T → Type 0) (context : Context) (trigger : P → NotedTrigger T) (roller : P → R) (p0 p1 : P) (answer : Option Bool)
    → Noted (λ before answer now. NotesIt notes context (trigger before) answer (trigger now) × UnlessYes answer (roller now ≡ roller before)) p0 answer p1
    → Noted (λ before answer now. NotesIt notes context (trigger before) answer (trigger now)) p0 answer p1
trigger_noted notes context trigger roller p0 p1 answer noted = elim noted [ inl is ↦ inl is.0 | inr not ↦ inr not ]

pub roller_noted : {T R P : Type 0} (notes : Context → T → Option Bool → T → Type 0) (context : Context) (trigger : P → NotedTrigger T) (roller : P → R) (p0 p1 : P) (answer : Option Bool)
    → Noted (λ before answer now. NotesIt notes context (trigger before) answer (trigger now) × UnlessYes answer (roller now ≡ roller before)) p0 answer p1
    → UnlessYes answer (roller p1 ≡ roller p0)
roller_noted notes context trigger roller p0 p1 (Some true) noted = tt
roller_noted notes context trigger roller p0 p1 (Some false) noted = elim noted [ inl is ↦ is.1 | inr not ↦ absurd (clash false not.0) ]
roller_noted {P = P} notes context trigger roller p0 p1 None noted = elim noted [ inl is ↦ is.1 | inr not ↦ ap (λ (p : P). roller p) not.1 ]

pub one_append : (asking : Asking) (reading : Option Reading) (r : Record) (c : Context) (outcome : Result Unit LogError) (answer : Option Bool) (k0 k1 : Keeping) (path : List ℕ) (d0 d1 : Disk)
    → AppendedTo asking c answer k0 k1 path d0 d1 → Calls d0 d1 (Adds reading r c path outcome)
    → IfSome k0.archives (λ older. let window = around older (k0.waiting path) path in
    Stands window (k0.vacant path) d0 → Calls d0 d1 (OneAppend asking reading r c outcome answer (k0.vacant path) (k1.vacant path) window (files_of d0)))
one_append asking reading r c outcome answer k0 k1 path d0 d1 appended adds =
    if_map k0.archives
    (λ older. let window = around older (k0.waiting path) path in
    Stands window (k0.vacant path) d0 → Calls d0 d1 (Appended asking c answer (k0.vacant path) (k1.vacant path) window (files_of d0)))
    (λ older. let window = around older (k0.waiting path) path in
    Stands window (k0.vacant path) d0 → Calls d0 d1 (OneAppend asking reading r c outcome answer (k0.vacant path) (k1.vacant path) window (files_of d0)))
    appended
    (λ older kept. λ stands. calls_both d0 d1 (Appended asking c answer (k0.vacant path) (k1.vacant path) (around older (k0.waiting path) path) (files_of d0)) (Adds reading r c path outcome) (kept stands) adds)
