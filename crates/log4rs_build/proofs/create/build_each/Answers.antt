use Rattle.std.proofs.Common.{[], ◌∷◌, ◌++◌, ap, append-nil, append_assoc, map, sym, ◌∙◌}
use Rattle.std.proofs.lemmas.List.{map-append}
use Rattle.log4rs_plans.specs.View.{asked_view}
use Rattle.log4rs_build.proofs.Steps.{then_one}
use Rattle.log4rs_build.proofs.create.build_each.Goals as goal

pub loop-asked-preserved-in-Continue-branch-2 : goal.loop-asked-preserved-in-Continue-branch-2
loop-asked-preserved-in-Continue-branch-2 g c =
    let l = c.loop-asked in
    let x = c.in-Some.asked in
    let e = rw l.invariant.2 at c.in_ok-made.ensures.built in
    let step = then_one (g.W.BuildAppender.Builds (g.M.StoreMaker.starts c.args.maker.now) c.args.surroundings.now) (map asked_view l.yielded) (asked_view x) l.built.items c.in_ok-made.made l.errors e.0
    c.args.builder.now l.builder c.build_one.new.builder l.invariant.1 e.2 in (
      l.invariant.0 ∙ ap (λ t. l.yielded ++ t) c.in-Some.ensures.steps.0 ∙ sym (append_assoc l.yielded (x ∷ []) c.next.new.self.rest.items),
      rw (c.in_ok-push.ensures.items, map-append asked_view l.yielded (x ∷ []), e.1) (rw c.in-Some-made.is at step),
      c.in_ok-made.ensures.starts ∙ l.invariant.2,
    )

pub loop-asked-preserved : goal.loop-asked-preserved
loop-asked-preserved g c =
    let l = c.loop-asked in
    let x = c.in-Some.asked in
    let e = rw l.invariant.2 at c.in_ok-made.ensures.built in
    let step = then_one (g.W.BuildAppender.Builds (g.M.StoreMaker.starts c.args.maker.now) c.args.surroundings.now) (map asked_view l.yielded) (asked_view x) l.built.items c.in_ok-made.made l.errors e.0
    c.args.builder.now l.builder c.build_one.new.builder l.invariant.1 e.2 in (
      l.invariant.0 ∙ ap (λ t. l.yielded ++ t) c.in-Some.ensures.steps.0 ∙ sym (append_assoc l.yielded (x ∷ []) c.next.new.self.rest.items),
      rw (map-append asked_view l.yielded (x ∷ []), e.1, ← append-nil l.built.items) (rw c.in_default.is at step),
      c.in_ok-made.ensures.starts ∙ l.invariant.2,
    )
