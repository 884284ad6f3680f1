use Rattle.std.proofs.Common.{rules, ◌≡◌, ◌+◌, ◌∷◌, ◌++◌, [], true, false, take, refl, sym, ap, subst, ◌∙◌}
use Rattle.std.proofs.lemmas.List.{take_more}
use Rattle.log4rs_config.specs.Holder.{answers_retired}
use Rattle.log4rs_build.proofs.Histories.{Adds, on_err, only_more, happened_then, asks_more}
use Rattle.log4rs_build.proofs.in_force.still_in_force.Goals.{then-not-is_retired+in_ok-one+in_ok-push, else-not-is_retired}
use Rattle.log4rs_build.proofs.in_force.still_in_force.Goals as goal

pub returns-in_err-one-clause-err : goal.returns-in_err-one-clause-err
returns-in_err-one-clause-err g c =
    let l = c.loop-appender.invariant in
    on_err c.from_residual.result (only_more _ _ _ _ _ l.0 _ l.1 l.2 c.is_retired.ensures tt)

pub returns-in_err-push-clause-err : goal.returns-in_err-push-clause-err
returns-in_err-push-clause-err g c =
    let l = c.loop-appender.invariant in
    on_err c.from_residual-in_err-push.result (only_more _ _ _ _ _ l.0 _ l.1 l.2 c.is_retired.ensures tt)

pub loop-appender-preserved : goal.loop-appender-preserved
loop-appender-preserved g c =
    let xs = c.args.in_force.now in
    let i = c.loop-appender.appender-index in
    let x = c.appender-item.result in
    let l = c.loop-appender.invariant in
    let grown : take (i + 1) xs ≡ take i xs ++ x ∷ [] = take_more xs i x c.loop-appender-test.true ∙ ap (λ y. take i xs ++ y ∷ []) (sym c.appender-item.is) in
    elim c.if-not-is_retired.branch [
      | then-not-is_retired+in_ok-one+in_ok-push w ↦
          let before = c.loop-appender.still.items in
          let made = w.in_ok-one.one in
          let no : c.is_retired.result ≡ false = search rules in
          let adds : Adds c.is_retired.result x before (before ++ made ∷ []) =
          subst (λ b. Adds b x before (before ++ made ∷ [])) (sym no) (made, record { plan = w.in_ok-one.ensures.planned; lock = w.in_ok-one.ensures.lock }, refl) in
          rw (w.still-is, w.in_ok-push.ensures.items) (
            l.0 ++ answers_retired x.lock c.is_retired.result ∷ [],
            rw grown (asks_more (take i xs) before _ l.0 x c.is_retired.result l.1 adds),
            happened_then _ _ _ l.0 _ l.2 c.is_retired.ensures,
          )
      | else-not-is_retired w ↦
          let before = c.loop-appender.still.items in
          let yes : c.is_retired.result ≡ true = search rules in
          let adds : Adds c.is_retired.result x before before = subst (λ b. Adds b x before before) (sym yes) refl in
          rw w.still-is (
            l.0 ++ answers_retired x.lock c.is_retired.result ∷ [],
            rw grown (asks_more (take i xs) before before l.0 x c.is_retired.result l.1 adds),
            happened_then _ _ _ l.0 _ l.2 c.is_retired.ensures,
          )
    ]
