use Rattle.log4rs_config.proofs.Greatest.{next_level}
use Rattle.log4rs_config.proofs.runtime.levels.greatest_level.Goals as goal

pub loop-logger-preserved : goal.loop-logger-preserved
loop-logger-preserved c =
    next_level c.args.root.now.level c.args.loggers.now c.loop-logger.logger-index c.logger-item.result c.loop-logger.greatest c.level.result c.more_verbose-greatest.result
    c.loop-logger-test.true c.logger-item.is c.level.ensures c.more_verbose-greatest.ensures c.loop-logger.invariant
