use Rattle.std.proofs.Common.{ap}
use Rattle.log4rs_append.proofs.Rolled.{goes_on_by, same_names}
use Rattle.log4rs_append.proofs.Rolling.{opened_again, shut_again}
use Rattle.log4rs_append.specs.Rolling.{store_of, policy_of, path_of, log_of}
use Rattle.log4rs_rolling.proofs.Retiring.{some_calls}
use Rattle.log4rs_append.proofs.rolling_file.RollingFileAppenderSteps.resume.Goals as goal

pub returns-clause-rolled : goal.returns-clause-rolled
returns-clause-rolled g c =
    let self = c.args.self.now in
    let now = c.resume.new.self in
    let disk = g.S.Store.disk in
    let keeping = g.P.Keep.keeping in
    let made = c.resume.ensures in
    record {
      goes_on = goes_on_by (λ p. (g.P.Policy.asking p).kind) g.E.Encode.rendering self now made.same.0 (ap (λ p. (g.P.Policy.asking p).kind) made.same.1) (same_names (keeping (policy_of self)) (keeping (policy_of now)) (ap keeping made.same.1)) (some_calls _ _ _ made.only);
      keeping = ap keeping made.same.1;
      only = made.only;
      is_open = opened_again c.resume.result (log_of now) (disk (store_of now)) (path_of self) made.open now.known.opened made.same.0.0;
      cost = made.cost;
      closed = shut_again c.resume.result (log_of now) (disk (store_of now)) made.closed;
    }
