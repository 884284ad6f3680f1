use Rattle.std.proofs.Common.{[]}
use Rattle.log4rs_append.proofs.Rolled.{goes_on_by}
use Rattle.log4rs_append.proofs.rolling_file.RollingFileAppenderSteps.step.Goals as goal

pub returns-clause-rolled : goal.returns-clause-rolled
returns-clause-rolled g c =
    let made = c.step.ensures in
    record {
      goes_on = goes_on_by (λ p. (g.P.Policy.asking p).kind) g.E.Encode.rendering c.args.self.now c.step.new.self made.same made.kind (made.stepped.steps []).names (made.stepped.steps []).store;
      stepped = made.stepped;
    }
