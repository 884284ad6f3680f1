use Rattle.std.proofs.Common.{◌≡◌, ◌+◌, ◌∷◌, ◌++◌, [], true, false, true≢false, All, map, string_bytes, take, refl, sym, ap, subst, ◌∙◌}
use Rattle.std.proofs.lemmas.List.{take_all, take_more}
use Rattle.std.proofs.lemmas.List.Elements.{All-contains, All-push}
use Rattle.log4rs_plans.specs.Effective.{planned_of}
use Rattle.log4rs_plans.proofs.Elements.{element_at}
use Rattle.log4rs_build.specs.Keeping.{planned}
use Rattle.log4rs_build.specs.Leaving.{IsKeptUnder}
use Rattle.log4rs_build.proofs.again.all_kept.Goals as goal

pub returns-then-not-is_kept_under : goal.returns-then-not-is_kept_under
returns-then-not-is_kept_under g c =
    let xs = c.args.in_force.now in
    let x = c.one-item.result in
    let P = λ (one : _). IsKeptUnder (map planned_of c.args.asked.now) (map planned xs) (string_bytes one.name) in
    let is = rw c.as_str.ensures.value at c.is_kept_under.ensures in (
      λ (e : false ≡ true). cc,
      λ all. absurd (true≢false (sym (is.1 (All-contains P xs x all (element_at xs c.loop-one.one-index x c.loop-one-test.true c.one-item.is))) ∙ c.if-not-is_kept_under.true)),
    )

pub loop-one-preserved : goal.loop-one-preserved
loop-one-preserved g c =
    let xs = c.args.in_force.now in
    let i = c.loop-one.one-index in
    let x = c.one-item.result in
    let P = λ (one : _). IsKeptUnder (map planned_of c.args.asked.now) (map planned xs) (string_bytes one.name) in
    let is = rw c.as_str.ensures.value at c.is_kept_under.ensures in
    let grown : take (i + 1) xs ≡ take i xs ++ x ∷ [] = take_more xs i x c.loop-one-test.true ∙ ap (λ y. take i xs ++ y ∷ []) (sym c.one-item.is) in
    subst (λ l. All P l) (sym grown) (All-push P (take i xs) x c.loop-one.invariant (is.0 c.if-not-is_kept_under.false))

pub returns : goal.returns
returns g c =
    let xs = c.args.in_force.now in
    let P = λ (one : _). IsKeptUnder (map planned_of c.args.asked.now) (map planned xs) (string_bytes one.name) in (
      λ e. subst (λ l. All P l) (take_all c.loop-one.one-index xs c.loop-one-test.false) c.loop-one.invariant,
      λ all. refl,
    )
