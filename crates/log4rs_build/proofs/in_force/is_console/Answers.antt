use Rattle.std.proofs.Common.{◌≡◌, ◌+◌, ◌∷◌, ◌++◌, [], true, false, true≢false, All, take, refl, sym, ap, subst, ◌∙◌}
use Rattle.std.proofs.lemmas.List.{take_more}
use Rattle.std.proofs.lemmas.List.Elements.{All-push}
use Rattle.log4rs_build.specs.Keeping.{planned}
use Rattle.log4rs_build.specs.Leaving.{IsConsoleAs}
use Rattle.log4rs_plans.proofs.Elements.{seen_at, seen_of_none}
use Rattle.log4rs_build.proofs.in_force.is_console.Goals as goal

pub returns-then-is_console_as : goal.returns-then-is_console_as
returns-then-is_console_as g c =
    let x = c.appender-item.result in (
      λ e. (planned x, seen_at planned c.args.in_force.now c.loop-appender.appender-index x c.loop-appender-test.true c.appender-item.is, c.is_console_as.ensures.0 c.if-is_console_as.true),
      λ k. refl,
    )

pub loop-appender-preserved : goal.loop-appender-preserved
loop-appender-preserved g c =
    let xs = c.args.in_force.now in
    let i = c.loop-appender.appender-index in
    let x = c.appender-item.result in
    let P = λ (a : _). ¬ IsConsoleAs c.args.name.now (planned a) in
    let grown : take (i + 1) xs ≡ take i xs ++ x ∷ [] = take_more xs i x c.loop-appender-test.true ∙ ap (λ y. take i xs ++ y ∷ []) (sym c.appender-item.is) in
    subst (λ l. All P l) (sym grown) (All-push P (take i xs) x c.loop-appender.invariant (λ k. true≢false (sym (c.is_console_as.ensures.1 k) ∙ c.if-is_console_as.false)))

pub returns : goal.returns
returns g c = (
  λ (e : false ≡ true). cc,
  λ k. absurd (seen_of_none planned (IsConsoleAs c.args.name.now) c.args.in_force.now c.loop-appender.appender-index k.0 c.loop-appender-test.false c.loop-appender.invariant k.2 k.1),
)
