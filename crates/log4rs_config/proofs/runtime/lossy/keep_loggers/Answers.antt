use Rattle.std.proofs.Common.{rules, ◌<◌, ◌∙◌, sym, ap, map, filter, length, arith}
use Rattle.std.proofs.lemmas.Fn.{filter_same}
use Rattle.log4rs_config.specs.Lossy.{with_known}
use Rattle.log4rs_config.specs.Name.{is_valid}
use Rattle.log4rs_config.specs.Settings.{LoggerSetting}
use Rattle.log4rs_config.proofs.Keeping.{changed-more, changed-all, written_back}
use Rattle.log4rs_config.proofs.runtime.lossy.keep_loggers.Goals as goal

pub loop-logger-preserved : goal.loop-logger-preserved
loop-logger-preserved c =
    let within : c.loop-logger.logger-index < length c.loop-logger.logger-items = omega (arith, c.loop-logger-test.true, c.loop-logger.auto.logger-items) in
    changed-more (with_known c.args.known.now) c.deref_mut-logger-items.result.now c.loop-logger.logger-items c.loop-logger.logger-index c.logger-item.result c.keep_known.new.self
    c.loop-logger-test.true within c.logger-item.is (c.keep_known.ensures ∙ ap (with_known c.args.known.now) (sym c.logger-item.is)) c.loop-logger.invariant

pub returns : goal.returns
returns c =
    let change = with_known c.args.known.now in
    let valid = λ (l : LoggerSetting). is_valid l.name in
    let lent = c.deref_mut-logger-items.ensures.value in
    written_back c.retain.new.self.items c.loop-logger.logger-items c.retain.new.self.len (c.loop-logger.auto.logger-items ∙ ap length lent) c.retain.new.self.ok.0
    ∙ changed-all change c.deref_mut-logger-items.result.now c.loop-logger.logger-items c.loop-logger.logger-index c.loop-logger-test.false c.loop-logger.auto.logger-items c.loop-logger.invariant.0
    ∙ ap (map change) (lent ∙ filter_same _ valid _ (λ x b f' k. search rules) _ _ c.retain.ensures.filtered ∙ ap (filter valid) c.in_ok-kept.ensures)
