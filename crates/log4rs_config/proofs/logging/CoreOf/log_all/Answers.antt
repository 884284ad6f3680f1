use Rattle.std.proofs.Common.{◌≡◌, List, arith, ◌∙◌, take, take_all, subst}
use Rattle.log4rs_base.specs.declared.record.Entry.{Entry}
use Rattle.log4rs_config.specs.Answers.{AreAnswers}
use Rattle.log4rs_config.specs.Builder.{config_settings, config_admits, config_sinks}
use Rattle.log4rs_config.specs.Routing.{deliveries}
use Rattle.log4rs_config.proofs.Answered.{AreAnswers-more}
use Rattle.log4rs_config.proofs.Delivering.{same_deliveries}
use Rattle.log4rs_config.proofs.Receiving.{received_of_answers}
use Rattle.log4rs_config.proofs.logging.CoreOf.log_all.Goals as goal

pub loop-entry-preserved : goal.loop-entry-preserved
loop-entry-preserved g c =
    let i = c.loop-entry.invariant in
    let e = c.entry-item.result in
    let old = c.args.self.now.config in
    let now = c.loop-entry.self.config in
    let here = c.log-answer.ensures in
    let admits = config_admits g.F.Filter.answer in (
      AreAnswers-more
          (deliveries (config_settings old) (admits old)) (deliveries (config_settings now) (admits now))
          c.args.entries.now c.loop-entry.entry-index e c.loop-entry.answers.items _ c.log-answer.result _ _ _
          c.loop-entry-test.true c.entry-item.is
          (same_deliveries g.A.Append.sink g.F.Filter.answer e.logged e.context old now e.logged i.2 (i.1 e.logged))
          c.push_reserved.ensures.items i.0 here.answer,
      (λ r. here.routes.admits r ∙ i.1 r),
      here.routes.settings ∙ i.2,
      omega arith,
      omega arith,
    )

pub returns-clause-received : goal.returns-clause-received
returns-clause-received g c ok =
    let old = c.args.self.now.config in
    let d = deliveries (config_settings old) (config_admits g.F.Filter.answer old) in
    let whole : take c.loop-entry.entry-index c.args.entries.now ≡ c.args.entries.now = take_all c.loop-entry.entry-index c.args.entries.now c.loop-entry-test.false in
    received_of_answers d c.args.entries.now c.loop-entry.answers.items _ _ ok
    (subst (λ (x : List Entry). AreAnswers d x c.loop-entry.answers.items (config_sinks g.A.Append.sink old) (config_sinks g.A.Append.sink c.loop-entry.self.config)) whole c.loop-entry.invariant.0)
