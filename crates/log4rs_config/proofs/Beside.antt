-- What calls at one place after another leave at each place.
use Rattle.std.proofs.Common.{◌≡◌, ◌≢◌, ◌⊎◌, Bool, false, ℕ, zero, suc, ◌<◌, ◌≤◌, List, [], ◌∷◌, ◌++◌, Option, Some, None, IfSome, IsTrue, Result, Ok, Err, is_ok, map, length, get_or, slice_get, slice_set, inl, inr, refl, sym, ap, ◌∙◌, subst, arith}
use Rattle.std.specs.List.{list_all}
use Rattle.std.proofs.lemmas.List.{get_or-set_same, get_or-set_other, length-map, length-set}
use Rattle.log4rs_base.specs.declared.error.LogError.{LogError}
use Rattle.log4rs_append.specs.RolledFile.{DrivenFile, GoesOn, OnRolledFile, RolledFile, SteppedFile}
use Rattle.log4rs_append.specs.Sink.{Sink, untold}
use Rattle.log4rs_config.specs.declared.runtime.config.ConfigOf.{ConfigOf}
use Rattle.log4rs_config.specs.Appender.{appender_of}
use Rattle.log4rs_config.specs.Beside.{AreFinished, Doing, EachWorked, IsFinished, OneDrive, OneStep, Worked, Working, WorkedAt, sink_at}
use Rattle.log4rs_config.specs.Builder.{config_sinks}
use Rattle.log4rs_config.specs.Kept.{RolledFilesGoOn, rolled_at}

-- there are as many sinks as appenders
pub counted : {A F : Type 0} (sink : A → Sink) (c : ConfigOf A F) → length (config_sinks sink c) ≡ c.appenders.len
counted sink c = length-map c.appenders.items (λ a. sink (appender_of a)) ∙ sym c.appenders.ok.0

-- a result among those before the last, or the last
got : {X : Type 0} (xs : List X) (last x : X) (at : ℕ) → slice_get (xs ++ last ∷ []) at ≡ Some x
    → ((at < length xs) × (slice_get xs at ≡ Some x)) ⊎ ((at ≡ length xs) × (last ≡ x))
got [] last x zero e = inr (refl, (let s : last ≡ x = cc e in s))
got [] last x (suc at) e = absurd (cc e)
got (y ∷ xs) last x zero e = inl (omega arith, e)
got (y ∷ xs) last x (suc at) e = elim (got xs last x at e) [
  | inl there ↦ inl (omega (arith, there.0), there.1)
  | inr here ↦ inr (ap suc here.0, here.1)
]

-- at the places so far each call was made; the sinks at the others are those of before
pub record SoFar {T : Type 0} (works : Working T) (results : List (Result T LogError)) (before now : List Sink) : Type 0 where
  pub worked : (at : ℕ) (result : Result T LogError) → slice_get results at ≡ Some result → works result (sink_at before at) (sink_at now at)
  pub rest : (at : ℕ) → length results ≤ at → sink_at now at ≡ sink_at before at
  pub as_many : length now ≡ length before

module _ {T : Type 0} (works : Working T) where
  -- one more call, at the next place
  one_more : (results : List (Result T LogError)) (k : ℕ) (result : Result T LogError) (before now after : List Sink) → k ≡ length results → k < length now
      → SoFar works results before now → WorkedAt works k result now after → SoFar works (results ++ result ∷ []) before after
  one_more results k result before now after is within far (sink, one, set) = record {
    worked = λ at x e. elim (got results result x at e) [
      | inl there ↦
          let other : at ≢ k = λ same. omega (arith, same, is, there.0) in
          subst (λ (s : Sink). works x (sink_at before at) s) (sym (kept at other)) (far.worked at x there.1)
      | inr here ↦
          let place : at ≡ k = here.0 ∙ sym is in
          let old : sink_at now at ≡ sink_at before at = far.rest at (omega (arith, here.0)) in
          subst (λ (s : Sink). works x (sink_at before at) s) (sym (put at place))
          (subst (λ (s : Sink). works x s sink) (ap (sink_at now) (sym place) ∙ old) (subst (λ (r : Result T LogError). works r (sink_at now k) sink) here.1 one))
    ];
    rest = λ at l. let more = grown results result in
        kept at (λ same. omega (arith, same, is, more, l)) ∙ far.rest at (omega (arith, more, l));
    as_many = ap length set ∙ length-set now k sink ∙ far.as_many;
  }
    where
      kept : (at : ℕ) → at ≢ k → sink_at after at ≡ sink_at now at
      kept at other = ap (λ (sinks : List Sink). sink_at sinks at) set ∙ get_or-set_other now k at sink untold other

      put : (at : ℕ) → at ≡ k → sink_at after at ≡ sink
      put at same = ap (λ (sinks : List Sink). sink_at sinks at) set ∙ ap (sink_at (slice_set now k sink)) same ∙ get_or-set_same now k sink untold within

      grown : {X : Type 0} (xs : List X) (x : X) → length (xs ++ x ∷ []) ≡ suc (length xs)
      grown [] x = refl
      grown (y ∷ xs) x = ap suc (grown xs x)

  -- the same, of results that are known to be one more
  pub one_more_of : (results more : List (Result T LogError)) (k : ℕ) (result : Result T LogError) (before now after : List Sink) → more ≡ results ++ result ∷ [] → k ≡ length results → k < length now
      → SoFar works results before now → WorkedAt works k result now after → SoFar works more before after
  one_more_of results more k result before now after is at within far one =
      subst (λ (rs : List (Result T LogError)). SoFar works rs before after) (sym is) (one_more results k result before now after at within far one)

  -- after the last place
  pub all_worked : (results : List (Result T LogError)) (before after : List Sink) → length results ≡ length before → SoFar works results before after → EachWorked works results before after
  all_worked results before after whole far = record { worked = far.worked; answered = whole; as_many = far.as_many }

-- a result at a place, or no sink there, before and after
place : {X : Type 0} (results : List X) (before after : List Sink) (at : ℕ) → length results ≡ length before → length results ≡ length after
    → ((result : X) × (slice_get results at ≡ Some result)) ⊎ ((sink_at before at ≡ untold) × (sink_at after at ≡ untold))
place [] [] [] at b a = inr (refl, refl)
place [] (x ∷ xs) after at b a = absurd (omega (arith, b))
place [] [] (x ∷ xs) at b a = absurd (omega (arith, a))
place (r ∷ rs) [] after at b a = absurd (omega (arith, b))
place (r ∷ rs) (x ∷ xs) [] at b a = absurd (omega (arith, a))
place (r ∷ rs) (x ∷ xs) (y ∷ ys) zero b a = inl (r, refl)
place (r ∷ rs) (x ∷ xs) (y ∷ ys) (suc at) b a = place rs xs ys at (omega (arith, b)) (omega (arith, a))

-- what holds of the rolled file at each place
each_place : {T : Type 0} (does : Doing T) (nothing : T) (results : List (Result T LogError)) (before after : List Sink) (at : ℕ) → EachWorked (Worked does nothing) results before after
    → (P : Option RolledFile → Option RolledFile → Type 0) → P None None
    → ((result : Result T LogError) → slice_get results at ≡ Some result → OnRolledFile (does result) (rolled_at before at) (rolled_at after at) → P (rolled_at before at) (rolled_at after at))
    → P (rolled_at before at) (rolled_at after at)
each_place does nothing results before after at all P none some =
    elim (place results before after at all.answered (all.answered ∙ sym all.as_many)) [
      | inl got ↦ some got.0 got.1 (all.worked at got.0 got.1).rolled
      | inr past ↦
          subst (λ (s : Sink). P s.rolled (rolled_at after at)) (sym past.0)
          (subst (λ (s : Sink). P None s.rolled) (sym past.1) none)
    ]

-- each result that stands at a place went well
went_well : {T : Type 0} (results : List (Result T LogError)) (at : ℕ) (result : Result T LogError) → IsTrue (list_all is_ok results) → slice_get results at ≡ Some result → IsTrue (is_ok result)
went_well [] at result ok e = absurd (cc e)
went_well (Ok t ∷ rs) zero result ok e = cc e
went_well (Err x ∷ rs) at result ok e = cc ok
went_well (Ok t ∷ rs) (suc at) result ok e = went_well rs at result ok e

-- a drive that went well leaves nothing
finished : (result : Result (Unit {0}) LogError) (before after : Option RolledFile) → IsTrue (is_ok result) → OnRolledFile (DrivenFile result) before after → IfSome after (λ file. IsFinished file)
finished result None None ok is = tt
finished result None (Some b) ok is = absurd is
finished result (Some a) None ok is = absurd is
finished (Err x) (Some a) (Some b) ok is = cc ok
finished (Ok u) (Some a) (Some b) ok is = λ built_in. (is.driven.made (sym is.goes_on.names.is_built_in ∙ built_in)).done

pub all_finished : (results : List (Result (Unit {0}) LogError)) (before after : List Sink) → EachWorked OneDrive results before after → IsTrue (list_all is_ok results) → AreFinished after
all_finished results before after all ok at =
    each_place DrivenFile tt results before after at all (λ b a. IfSome a (λ file. IsFinished file)) tt
    (λ result e is. finished result (rolled_at before at) (rolled_at after at) (went_well results at result ok e) is)

-- what a step or a drive does goes on
step_goes_on : (result : Result Bool LogError) (before after : Option RolledFile) → OnRolledFile (SteppedFile result) before after → OnRolledFile GoesOn before after
step_goes_on result None None is = tt
step_goes_on result None (Some b) is = absurd is
step_goes_on result (Some a) None is = absurd is
step_goes_on result (Some a) (Some b) is = is.goes_on

drive_goes_on : (result : Result (Unit {0}) LogError) (before after : Option RolledFile) → OnRolledFile (DrivenFile result) before after → OnRolledFile GoesOn before after
drive_goes_on result None None is = tt
drive_goes_on result None (Some b) is = absurd is
drive_goes_on result (Some a) None is = absurd is
drive_goes_on result (Some a) (Some b) is = is.goes_on

pub steps_go_on : (results : List (Result Bool LogError)) (before after : List Sink) → EachWorked OneStep results before after → RolledFilesGoOn before after
steps_go_on results before after all at =
    each_place SteppedFile false results before after at all (OnRolledFile GoesOn) tt (λ result e is. step_goes_on result (rolled_at before at) (rolled_at after at) is)

pub drives_go_on : (results : List (Result (Unit {0}) LogError)) (before after : List Sink) → EachWorked OneDrive results before after → RolledFilesGoOn before after
drives_go_on results before after all at =
    each_place DrivenFile tt results before after at all (OnRolledFile GoesOn) tt (λ result e is. drive_goes_on result (rolled_at before at) (rolled_at after at) is)
