use Rattle.std.proofs.Common.{◌∙◌, ap, map, take, List, ◌++◌}
use Rattle.log4rs_base.specs.Text.{Text}
use Rattle.log4rs_config.specs.Faults.{Fault}
use Rattle.log4rs_config.specs.Settings.{LoggerSetting, is_among}
use Rattle.log4rs_config.specs.Errors.{faults_of}
use Rattle.log4rs_config.proofs.Noting.{noted_lists, noted_logger}
use Rattle.log4rs_config.proofs.Seen.{seen-more, same_faults}
use Rattle.log4rs_config.proofs.runtime.builder.faults_in.Goals as goal

pub loop-logger-init : goal.loop-logger-init
loop-logger-init g c = (
  λ other. ap (λ (names : List Text). is_among names other) c.new-earlier.ensures,
  noted_lists c.in_ok-known.known (map g.T.Named.name c.args.appenders.now) _ _ _ _ _ (ap faults_of c.new-errors.ensures.items) c.in_ok-known.ensures.errors
      c.in_ok-note_unknown.ensures c.in_ok-known.ensures.names c.appenders.ensures,
)

pub loop-logger-preserved : goal.loop-logger-preserved
loop-logger-preserved g c =
    let known = map g.T.Named.name c.args.appenders.now in
    let loggers = c.args.loggers.now in
    let i = c.loop-logger.logger-index in
    let logger = c.logger-item.result in
    let before = c.loop-logger.invariant in
    let so_far = map (λ (l : LoggerSetting). l.name) (take i loggers) in (
      seen-more (λ (l : LoggerSetting). l.name) loggers i logger c.loop-logger.earlier c.insert.new.self c.name.result.now c.loop-logger-test.true c.logger-item.is c.name.ensures before.0 c.in_ok-insert.ensures.names,
      noted_logger known loggers i logger _ _ _ c.loop-logger-test.true c.logger-item.is before.1
          (c.in_ok-note_logger.ensures ∙ ap (λ (f : List Fault). faults_of c.loop-logger.errors.items ++ f) (same_faults c.in_ok-known.known known c.loop-logger.earlier so_far logger c.in_ok-known.ensures.names (before.0 logger.name))),
    )
