use Rattle.std.proofs.Common.{◌≡◌, ◌+◌, ◌∷◌, ◌++◌, [], true, false, true≢false, All, take, refl, sym, ap, subst, ◌∙◌}
use Rattle.std.proofs.lemmas.List.{take_more}
use Rattle.std.proofs.lemmas.List.Elements.{All-push}
use Rattle.log4rs_plans.specs.Outcomes.{LeavesOut, error_of}
use Rattle.log4rs_plans.proofs.Elements.{seen_at, seen_of_none}
use Rattle.log4rs_plans.proofs.faults.any_leaves_out_named.Goals as goal

pub returns-then-leaves_out_named : goal.returns-then-leaves_out_named
returns-then-leaves_out_named c =
    let x = c.error-item.result in (
      λ e. (error_of x, seen_at error_of c.args.errors.now c.loop-error.error-index x c.loop-error-test.true c.error-item.is, c.leaves_out_named.ensures.0 c.if-leaves_out_named.true),
      λ k. refl,
    )

pub loop-error-preserved : goal.loop-error-preserved
loop-error-preserved c =
    let xs = c.args.errors.now in
    let i = c.loop-error.error-index in
    let x = c.error-item.result in
    let P = λ (e : _). ¬ LeavesOut c.args.name.now (error_of e) in
    let grown : take (i + 1) xs ≡ take i xs ++ x ∷ [] = take_more xs i x c.loop-error-test.true ∙ ap (λ y. take i xs ++ y ∷ []) (sym c.error-item.is) in
    subst (λ l. All P l) (sym grown) (All-push P (take i xs) x c.loop-error.invariant (λ k. true≢false (sym (c.leaves_out_named.ensures.1 k) ∙ c.if-leaves_out_named.false)))

pub returns : goal.returns
returns c = (
  λ (e : false ≡ true). cc,
  λ k. absurd (seen_of_none error_of (LeavesOut c.args.name.now) c.args.errors.now c.loop-error.error-index k.0 c.loop-error-test.false c.loop-error.invariant k.2 k.1),
)
