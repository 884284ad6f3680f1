-- Answers one after another.
use Rattle.std.proofs.Common.{◌≡◌, ℕ, ◌<◌, ◌+◌, List, [], ◌∷◌, ◌++◌, take, length, get_or, Result, refl, sym, subst}
use Rattle.std.proofs.lemmas.List.{take_more}
use Rattle.log4rs_base.specs.declared.record.Entry.{Entry}
use Rattle.log4rs_config.specs.declared.delivery.CoreError.{CoreError}
use Rattle.log4rs_append.specs.Sink.{Sink}
use Rattle.log4rs_config.specs.Answer.{IsAnswer}
use Rattle.log4rs_config.specs.Routing.{Deliveries}
use Rattle.log4rs_config.specs.Answers.{AreAnswers}

-- the answer to one entry more
AreAnswers-push : (d : Deliveries) (entries : List Entry) (answers : List (Result Unit CoreError)) (e : Entry) (a : Result Unit CoreError) (before between after : List Sink)
    → AreAnswers d entries answers before between → IsAnswer e.logged e.context (d e.logged) a between after
    → AreAnswers d (entries ++ e ∷ []) (answers ++ a ∷ []) before after
AreAnswers-push d [] [] e a before between after p q = (after, subst (λ (x : List Sink). IsAnswer e.logged e.context (d e.logged) a x after) p q, refl)
AreAnswers-push d [] (b ∷ answers) e a before between after p q = absurd p
AreAnswers-push d (x ∷ entries) [] e a before between after p q = absurd p
AreAnswers-push d (x ∷ entries) (b ∷ answers) e a before between after (m, p, more) q =
    (m, p, AreAnswers-push d entries answers e a m between after more q)

-- the same in a loop over the entries
pub AreAnswers-more : (d now : Deliveries) (entries : List Entry) (k : ℕ) (e : Entry) (answers all : List (Result Unit CoreError)) (a : Result Unit CoreError) (before between after : List Sink)
    → k < length entries → e ≡ get_or entries k e → now e.logged ≡ d e.logged → all ≡ answers ++ a ∷ []
    → AreAnswers d (take k entries) answers before between → IsAnswer e.logged e.context (now e.logged) a between after
    → AreAnswers d (take (k + 1) entries) all before after
AreAnswers-more d now entries k e answers all a before between after h here same all_is p q =
    let q' = subst (λ (x : List ℕ). IsAnswer e.logged e.context x a between after) same q in
    let r = AreAnswers-push d (take k entries) answers e a before between after p q' in
    let s = subst (λ (x : Entry). AreAnswers d (take k entries ++ x ∷ []) (answers ++ a ∷ []) before after) here r in
    subst (λ (x : List (Result Unit CoreError)). AreAnswers d (take (k + 1) entries) x before after) (sym all_is)
    (subst (λ (x : List Entry). AreAnswers d x (answers ++ a ∷ []) before after) (sym (take_more entries k e h)) s)
