-- Results joined from the left.
use Rattle.std.proofs.Common.{◌≡◌, Result, Ok, Err, refl, sym, ap}
use Rattle.std.specs.Result.{result_unwrap_or}
use Rattle.log4rs_settings.specs.Parts.{both}

-- the parts of a join that is `Ok`
pub both-parts : {A B C E : Type 0} (f : A → B → C) (r : Result A E) (s : Result B E) (z : C) → both f r s ≡ Ok z
    → (x : A) × (y : B) × (r ≡ Ok x) × (s ≡ Ok y) × (z ≡ f x y)
both-parts f (Ok x) (Ok y) z e = (x, y, refl, refl, ap (λ r. result_unwrap_or r z) (sym e))
both-parts f (Ok x) (Err d) z e = absurd cc
both-parts f (Err d) s z e = absurd cc
