-- Appends without a rolling.
use Rattle.std.proofs.Common.{◌≡◌, ℕ, List, [], ◌∷◌, ◌++◌, Option, Some, None, Bool, true, false, sym, subst, Result}
use Rattle.std.proofs.lemmas.List.{append-nil}
use Rattle.log4rs_rolling.specs.Change.{Change, copied, opened, wrote, renamed, removed}
use Rattle.log4rs_rolling.specs.Disk.{Disk, Calls}
use Rattle.log4rs_rolling.specs.declared.store.Open.{Open}
use Rattle.log4rs_base.specs.declared.error.LogError.{LogError}
use Rattle.log4rs_rolling.specs.FileChanges.{OnlyWrites, OnlyOpens, OnlyAppends}
use Rattle.log4rs_rolling.specs.Asking.{UnlessYes}
use Rattle.log4rs_rolling.specs.Keeping.{Keeping}
use Rattle.log4rs_rolling.specs.PolicyResults.{Processed}
use Rattle.log4rs_rolling.proofs.Calls.{calls_map, calls_join}

pub unless_map : (answer : Option Bool) (A B : Type 0) → (A → B) → UnlessYes answer A → UnlessYes answer B
unless_map (Some true) A B f a = tt
unless_map (Some false) A B f a = f a
unless_map None A B f a = f a

pub unless_all : (answer : Option Bool) (A : Type 0) → A → UnlessYes answer A
unless_all (Some true) A a = tt
unless_all (Some false) A a = a
unless_all None A a = a

pub opens_append : (path : List ℕ) (how : Open) (changes : List Change) → OnlyOpens path how changes → OnlyAppends path how changes
opens_append path how [] only = tt
opens_append path how (opened at way ∷ changes) only = (only.0, only.1, opens_append path how changes only.2)
opens_append path how (wrote at bytes ∷ changes) only = absurd only
opens_append path how (renamed from to ∷ changes) only = absurd only
opens_append path how (copied from to ∷ changes) only = absurd only
opens_append path how (removed at ∷ changes) only = absurd only

pub writes_append : (path : List ℕ) (how : Open) (changes : List Change) → OnlyWrites path changes → OnlyAppends path how changes
writes_append path how [] only = tt
writes_append path how (wrote at bytes ∷ changes) only = (only.0, writes_append path how changes only.1)
writes_append path how (opened at way ∷ changes) only = absurd only
writes_append path how (renamed from to ∷ changes) only = absurd only
writes_append path how (copied from to ∷ changes) only = absurd only
writes_append path how (removed at ∷ changes) only = absurd only

pub append_both : (path : List ℕ) (how : Open) (xs ys : List Change) → OnlyAppends path how xs → OnlyAppends path how ys → OnlyAppends path how (xs ++ ys)
append_both path how [] ys a b = b
append_both path how (opened at way ∷ xs) ys a b = (a.0, a.1, append_both path how xs ys a.2 b)
append_both path how (wrote at bytes ∷ xs) ys a b = (a.0, append_both path how xs ys a.1 b)
append_both path how (renamed from to ∷ xs) ys a b = absurd a
append_both path how (copied from to ∷ xs) ys a b = absurd a
append_both path how (removed at ∷ xs) ys a b = absurd a

pub opened_quiet : (path : List ℕ) (how : Open) (d0 d1 : Disk) → Calls d0 d1 (OnlyOpens path how) → Calls d0 d1 (OnlyAppends path how)
opened_quiet path how d0 d1 calls = calls_map d0 d1 _ (OnlyAppends path how) calls (λ added tells told only. opens_append path how added only)

pub wrote_quiet : (path : List ℕ) (how : Open) (d0 d1 : Disk) → Calls d0 d1 (OnlyWrites path) → Calls d0 d1 (OnlyAppends path how)
wrote_quiet path how d0 d1 calls = calls_map d0 d1 _ (OnlyAppends path how) calls (λ added tells told only. writes_append path how added only)

pub wrote_alone : (path : List ℕ) (Q : List Change → Type 0) (d0 d1 : Disk) → Calls d0 d1 (λ added. OnlyWrites path added × Q added) → Calls d0 d1 (OnlyWrites path)
wrote_alone path Q d0 d1 calls = calls_map d0 d1 _ (OnlyWrites path) calls (λ added tells told both. both.0)

join : (path : List ℕ) (how : Open) (d0 d1 d2 : Disk) → Calls d0 d1 (OnlyAppends path how) → Calls d1 d2 (OnlyAppends path how) → Calls d0 d2 (OnlyAppends path how)
join path how d0 d1 d2 x y = calls_join d0 d1 d2 _ _ (OnlyAppends path how) x y (λ xs ys tells told a b. append_both path how xs ys a b)

pub nothing_more : (P : List Change → Type 0) (d0 d1 d2 : Disk) → Calls d0 d1 P → Calls d1 d2 (λ added. added ≡ []) → Calls d0 d2 P
nothing_more P d0 d1 d2 before after =
    calls_join d0 d1 d2 P (λ added. added ≡ []) P before after
    (λ xs ys tells told x none. subst (λ (c : List Change). P (xs ++ c)) (sym none) (subst P (sym (append-nil xs)) x))

-- behind calls of which this holds, a policy does nothing without a yes
pub processed_behind : (P : List Change → Type 0) (k0 k1 : Keeping) (answer : Option Bool) (path : List ℕ) (r : Result Unit LogError) (d0 d1 d2 : Disk)
    → Calls d0 d1 P → Processed k0 k1 answer path r d1 d2 → UnlessYes answer (Calls d0 d2 P)
processed_behind P k0 k1 (Some true) path r d0 d1 d2 before done = tt
processed_behind P k0 k1 (Some false) path r d0 d1 d2 before done = nothing_more P d0 d1 d2 before done.1
processed_behind P k0 k1 None path r d0 d1 d2 before done = nothing_more P d0 d1 d2 before done.1

pub then_opened : (answer : Option Bool) (path : List ℕ) (how : Open) (d0 d1 d2 : Disk) → UnlessYes answer (Calls d0 d1 (OnlyAppends path how)) → Calls d1 d2 (OnlyOpens path how)
    → UnlessYes answer (Calls d0 d2 (OnlyAppends path how))
then_opened answer path how d0 d1 d2 before opens =
    unless_map answer (Calls d0 d1 (OnlyAppends path how)) (Calls d0 d2 (OnlyAppends path how)) (λ calls. join path how d0 d1 d2 calls (opened_quiet path how d1 d2 opens)) before

-- the two parts of an append, of a trigger that was asked in the first of them
pub quiet_first : (path other : List ℕ) (how : Open) (a1 a2 : Option Bool) (d0 d1 d2 : Disk)
    → other ≡ path → a2 ≡ None → UnlessYes a1 (Calls d0 d1 (OnlyAppends path how)) → UnlessYes a2 (Calls d1 d2 (OnlyWrites other)) → UnlessYes a1 (Calls d0 d2 (OnlyAppends path how))
quiet_first path other how a1 a2 d0 d1 d2 same none quiet1 quiet2 =
    let wrote : Calls d1 d2 (OnlyWrites path) = subst (λ (p : List ℕ). Calls d1 d2 (OnlyWrites p)) same (subst (λ (a : Option Bool). UnlessYes a (Calls d1 d2 (OnlyWrites other))) none quiet2) in
    unless_map a1 (Calls d0 d1 (OnlyAppends path how)) (Calls d0 d2 (OnlyAppends path how)) (λ calls. join path how d0 d1 d2 calls (wrote_quiet path how d1 d2 wrote)) quiet1

-- and of one that was asked in the second
pub quiet_last : (path other : List ℕ) (how : Open) (a1 a2 : Option Bool) (d0 d1 d2 : Disk)
    → other ≡ path → a1 ≡ None → UnlessYes a1 (Calls d0 d1 (OnlyAppends path how)) → UnlessYes a2 (Calls d1 d2 (OnlyWrites other)) → UnlessYes a2 (Calls d0 d2 (OnlyAppends path how))
quiet_last path other how a1 a2 d0 d1 d2 same none quiet1 quiet2 =
    let opens : Calls d0 d1 (OnlyAppends path how) = subst (λ (a : Option Bool). UnlessYes a (Calls d0 d1 (OnlyAppends path how))) none quiet1 in
    unless_map a2 (Calls d1 d2 (OnlyWrites other)) (Calls d0 d2 (OnlyAppends path how))
    (λ calls. join path how d0 d1 d2 opens (wrote_quiet path how d1 d2 (subst (λ (p : List ℕ). Calls d1 d2 (OnlyWrites p)) same calls))) quiet2
