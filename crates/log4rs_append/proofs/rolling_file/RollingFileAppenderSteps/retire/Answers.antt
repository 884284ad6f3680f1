use Rattle.std.proofs.Common.{[]}
use Rattle.log4rs_append.proofs.Rolled.{goes_on_by}
use Rattle.log4rs_append.proofs.rolling_file.RollingFileAppenderSteps.retire.Goals as goal

pub returns-clause-rolled : goal.returns-clause-rolled
returns-clause-rolled g c =
    let made = c.retire.ensures in
    record {
      driven = record {
        goes_on = goes_on_by (λ p. (g.P.Policy.asking p).kind) g.E.Encode.rendering c.args.self.now c.retire.new.self made.same made.kind (made.driven.steps []).names (made.driven.steps []).store;
        driven = made.driven;
      };
      closed = made.closed.1;
    }
