-- Lines that are taken after others.
use Rattle.std.proofs.Common.{◌≡◌, ℕ, List, [], ◌++◌, Option, None, Some, IfSome, refl, sym, ap, subst, ◌∙◌, append_assoc}
use Rattle.std.proofs.lemmas.List.{append-nil}
use Rattle.log4rs_command.specs.Input.{lines_of, Takes, IsDone}

-- no line yet
pub Takes-none : (known : Option (List ℕ)) → Takes known known []
Takes-none None = tt
Takes-none (Some xs) = (xs, refl, refl)

-- some lines, and then more
pub Takes-more : (old between new : Option (List ℕ)) (lines more : List (List ℕ)) → Takes old between lines → Takes between new more → Takes old new (lines ++ more)
Takes-more None between new lines more first second = tt
Takes-more (Some xs) between new lines more first second =
    let next = subst (λ o. Takes o new more) first.1 second in
    (next.0, next.1, first.2 ∙ ap (λ l. lines ++ l) next.2 ∙ sym (append_assoc lines more (lines_of next.0)))

-- all lines were taken
pub Takes-all : (old new : Option (List ℕ)) (lines : List (List ℕ)) → Takes old new lines → IsDone new → IfSome old (λ bytes. lines ≡ lines_of bytes)
Takes-all None new lines taken done = tt
Takes-all (Some xs) new lines taken done =
    let none : lines_of taken.0 ≡ [] = subst (λ o. IsDone o) taken.1 done in
    sym (append-nil lines) ∙ sym (ap (λ l. lines ++ l) none) ∙ sym taken.2
