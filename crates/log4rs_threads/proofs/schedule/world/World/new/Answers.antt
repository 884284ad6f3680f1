use Rattle.std.proofs.Common.{◌≡◌, ◌∙◌, ap, sym, subst, append_assoc, List, [], ◌∷◌, ◌++◌}
use Rattle.std.proofs.lemmas.Result.{err_from_is_err_and}
use Rattle.log4rs_config.specs.Refusal.{IsRefusal}
use Rattle.log4rs_threads.specs.contracts.schedule.installed.InstalledConfigured.TheImpl as installed
use Rattle.log4rs_threads.specs.Held.{AreEmpty, all_texts}
use Rattle.log4rs_threads.specs.Shapes.{first_faults}
use Rattle.log4rs_threads.specs.declared.schedule.shape.Shape.{Shape}
use Rattle.log4rs_threads.proofs.Worlds.{refused, faultless_more, news_more, shapes_more}
use Rattle.log4rs_threads.proofs.schedule.world.World.new.Goals as goal

pub loop-shape-preserved : goal.loop-shape-preserved
loop-shape-preserved c =
    let l = c.loop-shape in
    let i = l.invariant in
    let made = c.in_ok-new in
    let shape = c.in-Some.shape in
    let left : List Shape = c.next.new.self.rest.items in
    let order : c.args.shapes.items ≡ l.yielded ++ shape ∷ left = i.order ∙ ap (λ (ss : List Shape). l.yielded ++ ss) c.in-Some.ensures.steps.0 in
    let empty = subst (λ (s : Shape). AreEmpty s.appenders.items (all_texts ((installed.ghosts).sinks made.field-0))) (sym made.ensures.shape) made.ensures.empty in
    rw c.in_ok-push.ensures.items (record {
      order = order ∙ sym (append_assoc l.yielded (shape ∷ []) left);
      given = shapes_more l.all.items made.field-0 l.yielded shape i.given made.ensures.shape;
      empty = news_more l.all.items made.field-0 i.empty empty;
      faultless = faultless_more l.yielded shape i.faultless made.ensures.faultless;
    })

pub returns-in_err-new-clause-errors : goal.returns-in_err-new-clause-errors
returns-in_err-new-clause-errors c =
    let p = err_from_is_err_and c.from_residual.result c.from_residual.ensures.1 in
    let l = c.loop-shape in
    let shape = c.in-Some.shape in
    let left : List Shape = c.next.new.self.rest.items in
    let order : c.args.shapes.items ≡ l.yielded ++ shape ∷ left = l.invariant.order ∙ ap (λ (ss : List Shape). l.yielded ++ ss) c.in-Some.ensures.steps.0 in
    rw (p.1, p.2) (subst (λ (ss : List Shape). IsRefusal (first_faults ss) c.in_err-new.field-0.0) (sym order) (refused l.yielded left shape c.in_err-new.field-0.0 l.invariant.faultless c.in_err-new.ensures.errors))
