use Rattle.std.proofs.Common.{◌≡◌, Bool, Option, subst, ◌∙◌, sym, ap, string_bytes}
use Rattle.log4rs_rolling.specs.Asking.{Asking, UnlessYes}
use Rattle.log4rs_rolling.specs.AppendResults.{AnsweredAppend, GrownAppend, MadeAppend}
use Rattle.log4rs_rolling.proofs.Running.{note_is, goes_on, trigger_noted, roller_noted}
use Rattle.log4rs_append.specs.Sink.{plain_reading}
use Rattle.log4rs_append.specs.Texts.{fails_by}
use Rattle.log4rs_append.proofs.rolling_file.noted.RollingFileAppender+S+CompoundPolicyOf+NotedTrigger+T+R+E.append_noted.Goals as goal

pub returns-clause-answered : goal.returns-clause-answered
returns-clause-answered g c =
    let self = c.args.self.now in
    let disk = g.S.Store.disk in
    let kept = c.append-outcome.ensures.answered in
    let now = c.append-outcome.new.self in
    let noted = trigger_noted g.T.Trigger.notes c.args.context.now (λ p. p.trigger) (λ p. p.roller) _ now.policy kept.0 kept.1 in
    let answer = note_is g.T.Trigger.notes c.args.context.now (λ p. p.trigger) _ now.policy kept.0 c.forget.ensures.answer noted ∙ sym c.answer-answer.ensures in
    let Here : Asking → Option Bool → Type 0 =
    λ asking said. AnsweredAppend (plain_reading (g.E.Encode.rendering self.encoder)) c.args.«record».now c.args.context.now asking said (g.R.Roll.keeping self.policy.roller) (g.R.Roll.keeping now.policy.roller) self.append
    (string_bytes self.log.path) c.append-outcome.result (disk self.store) (disk now.store) in (
      goes_on g.T.Trigger.notes c.args.context.now (λ p. p.trigger) _ now.policy kept.0 c.answer-answer.result self.policy.trigger.trigger noted answer c.forget.ensures.trigger,
      subst (λ a. UnlessYes a (now.policy.roller ≡ self.policy.roller)) answer (roller_noted g.T.Trigger.notes c.args.context.now (λ p. p.trigger) (λ p. p.roller) _ now.policy kept.0 kept.1),
      subst (λ a. Here a c.answer-answer.result) (ap g.T.Trigger.asking c.forget.ensures.trigger) (subst (Here (g.T.Trigger.asking c.forget.new.self.trigger)) answer kept.2),
    )

pub returns-clause-made : goal.returns-clause-made
returns-clause-made g c = λ built.
    let self = c.args.self.now in
    let disk = g.S.Store.disk in
    subst
    (λ (a : Asking). MadeAppend (plain_reading (g.E.Encode.rendering self.encoder)) (fails_by (g.E.Encode.answers self.encoder)) c.args.«record».now c.args.context.now a (g.R.Roll.keeping self.policy.roller) (string_bytes self.log.path) c.append-outcome.result (disk self.store) (disk c.append-outcome.new.self.store))
    (ap g.T.Trigger.asking c.forget.ensures.trigger) (c.append-outcome.ensures.made built)

pub returns-clause-grown : goal.returns-clause-grown
returns-clause-grown g c = λ on.
    let self = c.args.self.now in
    let disk = g.S.Store.disk in
    let now = c.append-outcome.new.self in
    subst
    (λ (a : Asking). GrownAppend (plain_reading (g.E.Encode.rendering self.encoder)) c.args.«record».now c.args.context.now a (g.R.Roll.keeping self.policy.roller) (g.R.Roll.keeping now.policy.roller) (string_bytes self.log.path) c.append-outcome.result (disk self.store) (disk now.store))
    (ap g.T.Trigger.asking c.forget.ensures.trigger) (c.append-outcome.ensures.grown on)
