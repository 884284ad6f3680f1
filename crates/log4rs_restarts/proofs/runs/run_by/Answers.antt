use Rattle.std.proofs.Common.{◌≡◌, ◌∙◌, ℕ, refl, sym, subst, string_bytes, List, Option, inl}
use Rattle.log4rs_rolling.specs.Change.{Change}
use Rattle.log4rs_rolling.specs.Roller.{kept_by}
use Rattle.log4rs_restarts.specs.Stops.{start_of}
use Rattle.log4rs_restarts.specs.Reports.{IsReported}
use Rattle.log4rs_restarts.proofs.Heard.{itself_reported, run_reports, run_spares}
use Rattle.log4rs_restarts.proofs.Reporting.{reported_stops, stopped_reported}
use Rattle.log4rs_restarts.proofs.Did.{saw_itself, saw_stopped}
use Rattle.log4rs_restarts.proofs.Counted.{did_counted, reports_counted, with_counts}
use Rattle.log4rs_restarts.specs.Acts.{BuiltIn}
use Rattle.log4rs_restarts.specs.ActsDone.{SawStore}
use Rattle.log4rs_restarts.specs.Stops.{Changed, StopsAt, marked}
use Rattle.log4rs_append.specs.Sink.{plain_reading}
use Rattle.log4rs_restarts.proofs.runs.run_by.Goals as goal

pub returns-clause-reported : goal.returns-clause-reported
returns-clause-reported g c =
    let disk = g.S.Store.disk in
    let first = c.new-stopping.result in
    let last = c.run_on-left.result in
    let reading = plain_reading (g.E.Encode.rendering c.args.encoder.now) in
    let made = c.new-stopping.ensures in
    let left = c.into_inner.ensures in
    let report = with_counts c.run_on-left.new.report c.passed-report.result c.stopped-report.result in
    let k = kept_by c.args.policy.roller in
    let path = string_bytes c.args.path in
    let Starts : BuiltIn → Type 0 = λ t. t ≡ c.args.policy.trigger.trigger in
    let spared = run_spares Starts reading k path c.args.acts.now c.run_on-left.new.report c.run_on-left.new.report.opening (marked (start_of first.limit (disk first.begun.value)) first.stopped first.denied (disk first.inner))
    (marked (start_of last.limit (disk last.begun.value)) last.stopped last.denied (disk last.inner)) refl c.run_on-left.ensures.did in
    subst (λ (stop : Option ℕ). IsReported ⊥ reading stop c.args.acts.now report (disk c.args.store) (disk c.into_inner.result)) (sym c.in-Some.is)
    (stopped_reported reading c.args.acts.now report c.in-Some.limit first.limit last.limit last.passed first.stopped last.stopped first.denied last.denied (disk first.begun.value) (disk last.begun.value)
    (disk c.args.store) (disk first.inner) (disk last.inner) (disk c.into_inner.result) (λ (_ : List Change). Unit {0})
    made.inner made.start made.none spared.store (reports_counted ⊥ reading c.args.acts.now _ _ c.run_on-left.new.report c.passed-report.result c.stopped-report.result (run_reports Starts reading k path c.args.acts.now c.run_on-left.new.report c.run_on-left.new.report.opening _ _ refl c.run_on-left.ensures.did)) spared.copies left.later left.within left.changes left.made left.stops made.counted left.counted left.inner c.passed-report.ensures c.stopped-report.ensures)

pub returns-in_default-clause-reported : goal.returns-in_default-clause-reported
returns-in_default-clause-reported g c =
    let disk = g.S.Store.disk in
    let ready = c.requires.counts in
    let same = c.run_on.ensures.counts in
    let reading = plain_reading (g.E.Encode.rendering c.args.encoder.now) in
    subst (λ (stop : Option ℕ). IsReported ⊥ reading stop c.args.acts.now c.run_on.new.report (disk c.args.store) (disk c.run_on.result)) (sym c.in_default.is)
    (itself_reported (λ t. t ≡ c.args.policy.trigger.trigger) reading (kept_by c.args.policy.roller) (string_bytes c.args.path) c.args.acts.now c.run_on.new.report (disk c.args.store) (disk c.run_on.result) refl
    (same.0 ∙ ready.0, same.1 ∙ ready.1) c.run_on.ensures.did)

pub returns-in_default-clause-did : goal.returns-in_default-clause-did
returns-in_default-clause-did g c =
    let d0 = g.S.Store.disk c.args.store in
    let d1 = g.S.Store.disk c.run_on.result in
    let stopped = c.run_on.new.report.stopped in
    inl (record {
      seen = d0;
      left = d1;
      store = subst (λ (stop : Option ℕ). SawStore stop stopped d0 d0 d1 d1) (sym c.in_default.is) (saw_itself stopped d0 d1 (c.run_on.ensures.counts.1 ∙ c.requires.counts.1) (run_spares (λ t. t ≡ c.args.policy.trigger.trigger) (plain_reading (g.E.Encode.rendering c.args.encoder.now)) (kept_by c.args.policy.roller) (string_bytes c.args.path) c.args.acts.now c.run_on.new.report c.run_on.new.report.opening d0 d1 refl c.run_on.ensures.did).store);
      run = c.run_on.ensures.did;
    })

pub returns-clause-did : goal.returns-clause-did
returns-clause-did g c =
    let disk = g.S.Store.disk in
    let first = c.new-stopping.result in
    let last = c.run_on-left.result in
    let m1 = start_of first.limit (disk first.begun.value) in
    let m2 = start_of last.limit (disk last.begun.value) in
    let d0 = disk c.args.store in
    let d3 = disk c.into_inner.result in
    let reading = plain_reading (g.E.Encode.rendering c.args.encoder.now) in
    let spared = run_spares (λ t. t ≡ c.args.policy.trigger.trigger) reading (kept_by c.args.policy.roller) (string_bytes c.args.path) c.args.acts.now c.run_on-left.new.report c.run_on-left.new.report.opening (marked m1 first.stopped first.denied (disk first.inner))
    (marked m2 last.stopped last.denied (disk last.inner)) refl c.run_on-left.ensures.did in
    let report = with_counts c.run_on-left.new.report c.passed-report.result c.stopped-report.result in
    let stops = subst (λ (stop : Option ℕ). Changed d0 d3 (StopsAt stop)) c.in-Some.is (reported_stops ⊥ reading c.args.stop_after c.args.acts.now report d0 d3 (returns-clause-reported g c)) in
    inl (record {
      seen = marked m1 first.stopped first.denied (disk first.inner);
      left = marked m2 last.stopped last.denied (disk last.inner);
      store = subst (λ (stop : Option ℕ). SawStore stop c.stopped-report.result d0 (marked m1 first.stopped first.denied (disk first.inner)) (marked m2 last.stopped last.denied (disk last.inner)) d3) (sym c.in-Some.is)
          (saw_stopped c.in-Some.limit c.stopped-report.result m1 m2 first.stopped last.stopped first.denied last.denied d0 (disk first.inner) (disk last.inner) d3 c.new-stopping.ensures.none c.stopped-report.ensures c.new-stopping.ensures.inner spared.store c.into_inner.ensures.inner stops);
      run = did_counted (λ t. t ≡ c.args.policy.trigger.trigger) (plain_reading (g.E.Encode.rendering c.args.encoder.now)) (kept_by c.args.policy.roller) (string_bytes c.args.path) c.args.acts.now c.run_on-left.new.report _ _
          c.passed-report.result c.stopped-report.result c.run_on-left.ensures.did;
    })
