use Rattle.std.proofs.Common.{◌≡◌, ◌++◌, string_bytes, sym, ap, ◌∙◌, rules}
use Rattle.log4rs_base.specs.Placeholder.{Values, env_opening}
use Rattle.log4rs_base.specs.Names.{names_from, value_in}
use Rattle.log4rs_base.proofs.NameFacts.{grown_twice, names_from-plain, names_from-split, names_from-known, names_from-unknown}
use Rattle.log4rs_base.proofs.paths.env.expand_env_vars.Goals as goal

pub loop-before-preserved-in-Some-known : goal.loop-before-preserved-in-Some-known
loop-before-preserved-in-Some-known c =
    let v : Values = value_in c.args.env.now in
    let l = c.loop-before in
    let before = c.in-Some.before.now in
    let value = c.in-Some-known.value.now in
    let behind = c.in-Some-known.behind.now in
    let step : names_from v 0 l.rest.now ≡ before ++ (value ++ names_from v 0 behind) =
    names_from-split v l.rest.now (c.in-Some.before, c.in-Some.opened) c.in-Some.ensures.cases
    ∙ ap (λ t. before ++ t) (names_from-known v c.in-Some.opened.now value c.in-Some-known.ensures.found
    ∙ ap (λ t. value ++ names_from v 0 t) (sym c.in-Some-known.ensures.behind)) in
    let text = string_bytes c.push_str-in-Some-known.new.self in
    let grown : text ≡ (string_bytes l.text ++ before) ++ value =
    c.in_ok-push_str-in-Some-known.ensures.bytes ∙ ap (λ p. p ++ value) c.in_ok-push_str.ensures.bytes in (
      search rules,
      l.invariant.1 ∙ ap (λ t. string_bytes l.text ++ t) step
          ∙ grown_twice (string_bytes l.text) before value (names_from v 0 behind) text grown,
    )

pub loop-before-preserved : goal.loop-before-preserved
loop-before-preserved c =
    let v : Values = value_in c.args.env.now in
    let l = c.loop-before in
    let before = c.in-Some.before.now in
    let opened = c.in-Some.opened.now in
    let step : names_from v 0 l.rest.now ≡ before ++ (env_opening ++ names_from v 0 opened) =
    names_from-split v l.rest.now (c.in-Some.before, c.in-Some.opened) c.in-Some.ensures.cases
    ∙ ap (λ t. before ++ t) (names_from-unknown v opened c.in-None.ensures.none) in
    let text = string_bytes c.push_str-in-None.new.self in
    let grown : text ≡ (string_bytes l.text ++ before) ++ env_opening =
    c.in_ok-push_str-in-None.ensures.bytes ∙ ap (λ p. p ++ env_opening) c.in_ok-push_str.ensures.bytes in (
      search rules,
      l.invariant.1 ∙ ap (λ t. string_bytes l.text ++ t) step
          ∙ grown_twice (string_bytes l.text) before env_opening (names_from v 0 opened) text grown,
    )

pub returns : goal.returns
returns c =
    let v : Values = value_in c.args.env.now in
    let l = c.loop-before in
    c.in_ok-push_str-2.ensures.bytes
    ∙ ap (λ t. string_bytes l.text ++ t) (sym (names_from-plain v l.rest.now c.in_default.ensures.cases)) ∙ sym l.invariant.1
