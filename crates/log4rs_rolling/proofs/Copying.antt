-- Where nothing was refused in a call, nothing was refused in a part of it.
use Rattle.std.proofs.Common.{◌≡◌, ◌≤◌, ℕ, List, [], ◌++◌, Bool, true, false, Option, IsTrue, inl, inr, refl, sym, ap, ◌∙◌, subst, arith}
use Rattle.std.proofs.lemmas.Bool.Decides.{nat_tests}
use Rattle.log4rs_rolling.specs.Change.{Change, Files, replay}
use Rattle.log4rs_rolling.specs.Disk.{Disk, Calls, Refuses, files_of, one_more}
use Rattle.log4rs_rolling.proofs.Calls.{calls_one, calls_join, calls_map, files_after, one_more_above}
use Rattle.log4rs_rolling.specs.Copies.{NothingRefused, CopiesNeedRefusal, OnlyRenames}
use Rattle.log4rs_rolling.specs.Window.{NoCopies}
use Rattle.log4rs_rolling.proofs.Windows.{NoCopies-append}

later : (m b c : ℕ) → m ≤ b → b ≤ c → m ≤ c
later m b c h k = omega arith

-- a refusal in the later part is one in the whole
pub more_above : (a b c : ℕ) → a ≤ b → one_more b ≤ c → one_more a ≤ c
more_above a b c h e = grind (arith, nat_tests)

pub nothing_before : (d0 d1 d2 : Disk) → d1.refusals ≤ d2.refusals → NothingRefused d0 d2 → NothingRefused d0 d1
nothing_before d0 d1 d2 more none = λ grew. none (later (one_more d0.refusals) d1.refusals d2.refusals grew more)

pub nothing_behind : (d0 d1 d2 : Disk) → d0.refusals ≤ d1.refusals → NothingRefused d0 d2 → NothingRefused d1 d2
nothing_behind d0 d1 d2 more none = λ grew. none (more_above d0.refusals d1.refusals d2.refusals more grew)

pub only_before : (b : Bool) (d0 d1 d2 : Disk) → d1.refusals ≤ d2.refusals → OnlyRenames b d0 d2 → OnlyRenames b d0 d1
only_before b d0 d1 d2 more only = elim only [ inl is ↦ inl is | inr none ↦ inr (nothing_before d0 d1 d2 more none) ]

pub only_behind : (b : Bool) (d0 d1 d2 : Disk) → d0.refusals ≤ d1.refusals → OnlyRenames b d0 d2 → OnlyRenames b d1 d2
only_behind b d0 d1 d2 more only = elim only [ inl is ↦ inl is | inr none ↦ inr (nothing_behind d0 d1 d2 more none) ]

-- the same as `clean_join`, of calls in which a copy needs a refusal
pub copies_join : (P Q : List Change → Type 0) (d0 d1 d2 : Disk) → Calls d0 d1 P → Calls d1 d2 Q → CopiesNeedRefusal d0 d1 → CopiesNeedRefusal d1 d2 → CopiesNeedRefusal d0 d2
copies_join P Q d0 d1 d2 x y a b = λ none.
    calls_join d0 d1 d2 _ _ NoCopies (a (nothing_before d0 d1 d2 y.refusals none)) (b (nothing_behind d0 d1 d2 x.refusals none)) (λ xs ys tells told p q. NoCopies-append xs ys p q)

pub nothing_clean : (d0 d1 : Disk) → Calls d0 d1 (λ added. added ≡ []) → Calls d0 d1 NoCopies
nothing_clean d0 d1 calls = calls_map d0 d1 _ NoCopies calls (λ added tells told none. subst NoCopies (sym none) tt)

not_true : (b : Bool) → b ≡ false → IsTrue b → ⊥
not_true true not is = cc
not_true false not is = cc

-- behind a refusal, where more than renames are allowed, copies may be made
pub refused_ahead : (b : Bool) (path : Option (List ℕ)) (P : Files → List Change → Type 0) (d0 d1 d2 : Disk) → b ≡ false → Refuses d0 d1 path → Calls d1 d2 (P (files_of d1))
    → Calls d0 d2 (λ added. P (files_of d0) added × (OnlyRenames b d0 d2 → NoCopies added))
refused_ahead b path P d0 d1 d2 not refused calls =
    let R : List Change → Type 0 = λ added. P (files_of d0) added × (OnlyRenames b d0 d2 → NoCopies added) in
    let grew : one_more d0.refusals ≤ d2.refusals = let least = calls.refusals in let is = refused.refusals in subst (λ (n : ℕ). n ≤ d2.refusals) is least in
    calls_join d0 d1 d2 (λ es. es ≡ []) (P (files_of d1)) R
    (calls_one d0 d1 path (λ es. es ≡ []) [] (one_more d0.refusals) refused (one_more_above d0.refusals) (λ _. refl)) calls
    (λ xs ys tells told none here.
    subst (λ (c : List Change). R (c ++ ys)) (sym none) (
      subst (λ (f : Files). P f ys) (files_after d0 d1 xs told ∙ ap (replay (files_of d0)) none) here,
      λ only. elim only [ inl is ↦ absurd (not_true b not is) | inr nothing ↦ absurd (nothing grew) ],
    ))
