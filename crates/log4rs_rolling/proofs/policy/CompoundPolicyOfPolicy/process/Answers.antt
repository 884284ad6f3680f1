use Rattle.std.proofs.Common.{rules, ◌≡◌, Bool, true, Some, subst, ◌∙◌, string_bytes}
use Rattle.log4rs_rolling.proofs.Parts.{rolled_behind}
use Rattle.log4rs_rolling.specs.Asking.{Answers}
use Rattle.log4rs_rolling.proofs.policy.CompoundPolicyOfPolicy.process.Goals as goal

pub returns-clause-asked : goal.returns-clause-asked
returns-clause-asked g c =
    let disk = g.S.Store.disk in
    let is : c.in_ok-trigger.field-0 ≡ true = search rules in (
      Some true,
      λ told. (subst (Answers (g.T.Trigger.asking c.args.self.now.trigger) c.args.log.now.len c.args.context.now) is (c.in_ok-trigger.ensures.said told), search rules),
      (subst (λ (b : Bool). g.T.Trigger.notes c.args.context.now c.args.self.now.trigger (Some b) c.trigger.new.self) is c.in_ok-trigger.ensures.noted, tt),
      rolled_behind (g.R.Roll.keeping c.args.self.now.roller) (g.R.Roll.keeping c.roll-2.new.self) c.roll-2.result (string_bytes c.args.log.now.path) c.path.result.now
          (disk c.args.store.now) (disk c.roll.new.store) (disk c.roll-2.new.store)
          (c.path.ensures ∙ c.roll.ensures.path) c.roll.ensures.calls c.roll-2.ensures.rolled,
    )
