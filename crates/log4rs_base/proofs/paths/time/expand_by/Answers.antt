use Rattle.std.proofs.Common.{◌≡◌, ◌-◌, suc, ◌++◌, string_bytes, sym, ap, ◌∙◌, arith, rules}
use Rattle.log4rs_base.specs.Placeholder.{Values}
use Rattle.log4rs_base.specs.Times.{times_from, date_by}
use Rattle.log4rs_base.proofs.NameFacts.{grown_twice}
use Rattle.log4rs_base.proofs.TimeFacts.{times_from-none, times_from-plain, times_from-first_dated, times_from-first_refused, shown}
use Rattle.log4rs_base.proofs.paths.time.expand_by.Goals as goal
use Rattle.log4rs_base.proofs.paths.time.expand_by.Goals.{else-loop-left-test, then-loop-left-test+in_default}

pub loop-left-preserved-then-branch : goal.loop-left-preserved-then-branch
loop-left-preserved-then-branch c =
    let r : Values = date_by c.args.clock.now in
    let l = c.loop-left in
    let before = c.in-Some.before.now in
    let format = c.in-Some.format.now in
    let behind = c.in-Some.behind.now in
    let next : l.left ≡ suc (l.left - 1) = omega (arith, c.loop-left-test.true) in
    let step : times_from r l.left 0 l.rest.now ≡ before ++ (shown r format ++ times_from r (l.left - 1) 0 behind) =
    ap (λ n. times_from r n 0 l.rest.now) next
    ∙ times_from-first_dated r (l.left - 1) l.rest.now before format behind c.in-Some.ensures.found
    (sym c.in_ok-push_date.ensures.dated ∙ c.if-branch.true) in
    let text = string_bytes c.push_date.new.out in
    let grown : text ≡ (string_bytes l.text ++ before) ++ shown r format =
    c.in_ok-push_date.ensures.text ∙ ap (λ p. p ++ shown r format) c.in_ok-push_str.ensures.bytes in (
      search rules,
      l.invariant.1 ∙ ap (λ t. string_bytes l.text ++ t) step
          ∙ grown_twice (string_bytes l.text) before (shown r format) (times_from r (l.left - 1) 0 behind) text grown,
    )

pub loop-left-preserved : goal.loop-left-preserved
loop-left-preserved c =
    let r : Values = date_by c.args.clock.now in
    let l = c.loop-left in
    let before = c.in-Some.before.now in
    let format = c.in-Some.format.now in
    let behind = c.in-Some.behind.now in
    let next : l.left ≡ suc (l.left - 1) = omega (arith, c.loop-left-test.true) in
    let step : times_from r l.left 0 l.rest.now ≡ before ++ (shown r format ++ times_from r l.left 0 behind) =
    ap (λ n. times_from r n 0 l.rest.now) next
    ∙ times_from-first_refused r (l.left - 1) l.rest.now before format behind c.in-Some.ensures.found
    (sym c.in_ok-push_date.ensures.dated ∙ c.if-branch.false)
    ∙ ap (λ n. before ++ (shown r format ++ times_from r n 0 behind)) (sym next) in
    let text = string_bytes c.push_date.new.out in
    let grown : text ≡ (string_bytes l.text ++ before) ++ shown r format =
    c.in_ok-push_date.ensures.text ∙ ap (λ p. p ++ shown r format) c.in_ok-push_str.ensures.bytes in (
      search rules,
      l.invariant.1 ∙ ap (λ t. string_bytes l.text ++ t) step
          ∙ grown_twice (string_bytes l.text) before (shown r format) (times_from r l.left 0 behind) text grown,
    )

pub returns : goal.returns
returns c =
    let r : Values = date_by c.args.clock.now in
    let l = c.loop-left in
    let stays : times_from r l.left 0 l.rest.now ≡ l.rest.now =
    elim c.loop-left-test.branch [
      | else-loop-left-test w ↦
          let none : l.left ≡ 0 = omega (arith, w.loop-left-test.false) in
          ap (λ n. times_from r n 0 l.rest.now) none ∙ times_from-none r l.rest.now
      | then-loop-left-test+in_default w ↦ times_from-plain r l.left l.rest.now w.in_default.ensures.none
    ] in
    c.in_ok-push_str-2.ensures.bytes ∙ ap (λ t. string_bytes l.text ++ t) (sym stays) ∙ sym l.invariant.1
