use Rattle.std.proofs.Common.{◌≡◌, ◌+◌, ◌∷◌, ◌++◌, [], true, false, true≢false, All, map, string_bytes, take, refl, sym, ap, subst, ◌∙◌}
use Rattle.std.proofs.lemmas.List.{take_all, take_more}
use Rattle.std.proofs.lemmas.List.Elements.{All-contains, All-map, All-push}
use Rattle.log4rs_plans.specs.Outcomes.{IsLeftOut}
use Rattle.log4rs_plans.proofs.Elements.{seen_at}
use Rattle.log4rs_build.proofs.again.one_works.Goals as goal

pub returns-then-not-leave_out_named : goal.returns-then-not-leave_out_named
returns-then-not-leave_out_named c =
    let xs = c.args.refused.now in
    let x = c.name-item.result in
    let is = rw c.as_str.ensures.value at c.leave_out_named.ensures in (
      λ e. (string_bytes x, seen_at (λ s. string_bytes s) xs c.loop-name.name-index x c.loop-name-test.true c.name-item.is, λ l. true≢false (sym (is.1 l) ∙ c.if-not-leave_out_named.true)),
      λ k. refl,
    )

pub loop-name-preserved : goal.loop-name-preserved
loop-name-preserved c =
    let xs = c.args.refused.now in
    let i = c.loop-name.name-index in
    let x = c.name-item.result in
    let P = λ (name : _). IsLeftOut (string_bytes name) c.args.errors.now in
    let is = rw c.as_str.ensures.value at c.leave_out_named.ensures in
    let grown : take (i + 1) xs ≡ take i xs ++ x ∷ [] = take_more xs i x c.loop-name-test.true ∙ ap (λ y. take i xs ++ y ∷ []) (sym c.name-item.is) in
    subst (λ l. All P l) (sym grown) (All-push P (take i xs) x c.loop-name.invariant (is.0 c.if-not-leave_out_named.false))

pub returns : goal.returns
returns c =
    let xs = c.args.refused.now in
    let P = λ (name : _). IsLeftOut (string_bytes name) c.args.errors.now in
    let all : All P xs = subst (λ l. All P l) (take_all c.loop-name.name-index xs c.loop-name-test.false) c.loop-name.invariant in (
      λ (e : false ≡ true). cc,
      λ k. absurd (k.2 (All-contains (λ n. IsLeftOut n c.args.errors.now) (map (λ s. string_bytes s) xs) k.0 (All-map (λ n. IsLeftOut n c.args.errors.now) (λ s. string_bytes s) xs all) k.1)),
    )
