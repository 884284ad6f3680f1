use Rattle.std.proofs.Common.{◌≡◌, Bool, List, [], None, ℕ, Option, Result, sym, ap, subst, string_bytes}
use Rattle.log4rs_rolling.specs.Disk.{Does}
use Rattle.log4rs_rolling.specs.Roller.{kept_by}
use Rattle.log4rs_rolling.specs.Appends.{Reading}
use Rattle.log4rs_restarts.specs.ActsDone.{ActsDone, Moment, RunBy}
use Rattle.log4rs_restarts.specs.Moments.{moment}
use Rattle.log4rs_restarts.specs.declared.run.Act.{Act}
use Rattle.log4rs_restarts.specs.declared.run.ActOutcome.{ActOutcome}
use Rattle.log4rs_restarts.specs.declared.run.OpeningError.{OpeningError}
use Rattle.log4rs_append.specs.Sink.{plain_reading}
use Rattle.log4rs_restarts.proofs.runs.run_on.Goals as goal

-- acts by the same texts, on the same path
acts_of : (r0 : Option Reading) (p0 : List ℕ) (r1 : Option Reading) (p1 : List ℕ) (acts : List Act) (outcomes : List ActOutcome) (answers : List Bool) (first last : Moment) → r0 ≡ r1 → p0 ≡ p1
    → ActsDone r0 p0 acts outcomes answers first last → ActsDone r1 p1 acts outcomes answers first last
acts_of r0 p0 r1 p1 acts outcomes answers first last same here done =
    subst (λ (r : Option Reading). ActsDone r p1 acts outcomes answers first last) same (subst (λ (p : List ℕ). ActsDone r0 p acts outcomes answers first last) here done)

pub returns-in-Ok-clause-did : goal.returns-in-Ok-clause-did
returns-in-Ok-clause-did g c =
    let disk = g.S.Store.disk in
    let reading = plain_reading (g.E.Encode.rendering c.args.encoder.now) in
    let opened = c.in-Ok.ensures in
    let acted = c.act_all.ensures in
    let report = c.act_all.new.report in
    let first = moment disk c.in-Ok.file in
    let last = moment disk c.act_all.new.file in
    subst (λ (r : Result Unit OpeningError). RunBy r (λ t. t ≡ c.args.policy.trigger.trigger) reading (kept_by c.args.policy.roller) (string_bytes c.args.path) c.args.acts.now report (disk c.args.store) (disk c.close.new.self)) (sym acted.opening)
    (record {
      first = first;
      last = last;
      begins = ap (λ t. t.trigger) opened.trigger;
      opened = opened.opened;
      cost = opened.cost;
      done = acts_of _ _ reading (string_bytes c.args.path) c.args.acts.now report.outcomes.items report.answers.items first last opened.reading opened.path acted.did;
      closed = subst (λ s. Does (disk s) (disk c.close.new.self) [] (disk s).refusals None) c.into_store-left.ensures c.close.ensures.closed;
    })
