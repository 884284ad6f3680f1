-- What `parse` and `ok` answer.
use Rattle.std.proofs.Common.{◌≡◌, List, ℕ, Bor, Option, Some, None, Result, Ok, Err, IfNone, MatchResult, refl, ap, ◌∙◌}
use Rattle.std.specs.Str.{IsUtf8}
use Rattle.std.specs.Result.{result_ok}
use Rattle.log.specs.Level.{IsParsed}

pub none_holds : {A : Type 0} {P : Type 0} (o : Option A) → P → IfNone o P
none_holds None p = p
none_holds (Some _) p = tt

pub parsed_none : {X E : Type 0} (named : Option X) (r : Result X E) → IsParsed named r → result_ok r ≡ None → named ≡ None
parsed_none None r e h = refl
parsed_none (Some x) r e h = let k : result_ok r ≡ Some x = ap result_ok e in cc

pub parsed_some : {X E : Type 0} (named : Option X) (r : Result X E) (x : X) → IsParsed named r → result_ok r ≡ Some x → named ≡ Some x
parsed_some (Some y) r x e h = let k : result_ok r ≡ Some y = ap result_ok e in cc
parsed_some None (Ok y) x e h = cc
parsed_some None (Err d) x e h = cc

-- what `from_utf8` answers, through `ok`
pub checked_text : {E : Type 0} (bytes : List ℕ) (Q : E → Type 0) (r : Result (Bor (List ℕ)) E) (text : Bor (List ℕ))
    → MatchResult r (λ s. (s.now ≡ bytes) × IsUtf8 bytes) Q → Some text ≡ result_ok r → (text.now ≡ bytes) × IsUtf8 bytes
checked_text bytes Q (Ok s) text h e = let same : text ≡ s = cc in (ap (λ t. t.now) same ∙ h.0, h.1)
checked_text bytes Q (Err d) text h e = cc
