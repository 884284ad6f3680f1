use Rattle.std.proofs.Common.{◌≡◌, sym, ap, All, ◌∙◌, refl, subst, arith, string_bytes, take, take_all, length, List, ◌∷◌, []}
use Rattle.std.proofs.lemmas.List.Elements.{All-nil, All-push}
use Rattle.log4rs_rolling.specs.Roller.{kept_anew}
use Rattle.log4rs_restarts.specs.ActsDone.{DidRun, DidRuns}
use Rattle.log4rs_restarts.specs.Triggers.{Begins}
use Rattle.log4rs_restarts.proofs.Did.{each_more, each_none}
use Rattle.log4rs_restarts.specs.Failures.{AreRefused}
use Rattle.log4rs_restarts.specs.Reports.{AreReported}
use Rattle.log4rs_restarts.specs.Runs.{AreReady, IsRefused}
use Rattle.log4rs_restarts.specs.declared.run.Run.{Run}
use Rattle.log4rs_restarts.proofs.Doing.{ready_back, ready_front, ready_for, room_at}
use Rattle.log4rs_restarts.proofs.Reporting.{all_more, all_none, as_many}
use Rattle.log4rs_append.specs.Sink.{plain_reading}
use Rattle.log4rs_restarts.proofs.runs.run_all.Goals as goal

pub loop-run-init : goal.loop-run-init
loop-run-init g c =
    let r = c.requires in
    record {
      left = let a = r.number in omega arith;
      ready = r.ready;
      number = r.no_reports;
      room = r.room;
      refused = λ are. (subst (All IsRefused) (sym r.none) (All-nil IsRefused), refl);
      reported = all_none (AreRefused c.args.settings.now.trigger) (plain_reading (g.E.Encode.rendering c.args.encoder.now)) c.args.runs.now c.args.reports.items (g.S.Store.disk c.args.store) r.none;
      did = each_none (DidRun (Begins c.args.settings.now.trigger) (plain_reading (g.E.Encode.rendering c.args.encoder.now)) (kept_anew c.args.settings.now.roller) (string_bytes c.args.settings.now.path)) c.args.runs.now c.args.reports.items (g.S.Store.disk c.args.store) r.none;
    }

pub run_once-left-requires : goal.run_once-left-requires
run_once-left-requires g c =
    ready_for c.args.most (length c.run-item.result.acts.items) c.in-Some.report
    (room_at c.args.most c.args.runs.now c.loop-run.run-index c.run-item.result c.loop-run-test.true c.run-item.is c.requires.most)
    (ready_back c.args.most c.pop.new.self.items (c.in-Some.report ∷ []) (subst (AreReady c.args.most) c.in-Some.ensures.items c.loop-run.invariant.ready)).0

pub loop-run-preserved : goal.loop-run-preserved
loop-run-preserved g c =
    let disk = g.S.Store.disk in
    let i = c.loop-run.invariant in
    let pushed = c.push_reserved.ensures in
    record {
      left = let a = c.in-Some.ensures.cases in let b = i.left in omega arith;
      ready = ready_front c.args.most c.pop.new.self.items (c.in-Some.report ∷ []) (subst (AreReady c.args.most) c.in-Some.ensures.items i.ready);
      number = let a = pushed.len in let b = i.number in omega arith;
      room = let a = pushed.capacity in let b = i.room in omega arith;
      refused = λ are.
          let here = c.run_once-left.ensures.refused are in
          (subst (All IsRefused) (sym pushed.items) (All-push IsRefused c.loop-run.reports.items c.run_once-left.result.1 (i.refused are).0 here.0), here.1 ∙ (i.refused are).1);
      reported = all_more (AreRefused c.args.settings.now.trigger) _ _ c.args.runs.now c.loop-run.run-index c.run-item.result c.loop-run.reports.items _ _ (disk c.args.store) (disk c.loop-run.store) (disk c.run_once-left.result.0)
          c.loop-run-test.true c.run-item.is refl pushed.items i.reported c.run_once-left.ensures.reported;
      did = each_more (DidRun (Begins c.args.settings.now.trigger) (plain_reading (g.E.Encode.rendering c.args.encoder.now)) (kept_anew c.args.settings.now.roller) (string_bytes c.args.settings.now.path)) c.args.runs.now c.loop-run.run-index c.run-item.result c.loop-run.reports.items _ _
          (disk c.args.store) (disk c.loop-run.store) (disk c.run_once-left.result.0) c.loop-run-test.true c.run-item.is pushed.items i.did
          c.run_once-left.ensures.did;
    }

pub returns-clause-reported : goal.returns-clause-reported
returns-clause-reported g c =
    let disk = g.S.Store.disk in
    let whole : take c.loop-run.run-index c.args.runs.now ≡ c.args.runs.now = take_all c.loop-run.run-index c.args.runs.now c.loop-run-test.false in
    subst (λ (r : List Run). AreReported (AreRefused c.args.settings.now.trigger) (plain_reading (g.E.Encode.rendering c.args.encoder.now)) r c.loop-run.reports.items (disk c.args.store) (disk c.loop-run.store)) whole c.loop-run.invariant.reported

pub returns-clause-number : goal.returns-clause-number
returns-clause-number g c =
    let disk = g.S.Store.disk in
    let whole : take c.loop-run.run-index c.args.runs.now ≡ c.args.runs.now = take_all c.loop-run.run-index c.args.runs.now c.loop-run-test.false in
    as_many (AreRefused c.args.settings.now.trigger) _ (take c.loop-run.run-index c.args.runs.now) c.loop-run.reports.items (disk c.args.store) (disk c.loop-run.store) c.loop-run.invariant.reported
    ∙ ap (λ (r : List Run). length r) whole

pub returns-clause-refused : goal.returns-clause-refused
returns-clause-refused g c = c.loop-run.invariant.refused

pub returns-clause-did : goal.returns-clause-did
returns-clause-did g c =
    let disk = g.S.Store.disk in
    let whole : take c.loop-run.run-index c.args.runs.now ≡ c.args.runs.now = take_all c.loop-run.run-index c.args.runs.now c.loop-run-test.false in
    subst (λ (r : List Run). DidRuns (Begins c.args.settings.now.trigger) (plain_reading (g.E.Encode.rendering c.args.encoder.now)) (kept_anew c.args.settings.now.roller) (string_bytes c.args.settings.now.path) r c.loop-run.reports.items (disk c.args.store) (disk c.loop-run.store)) whole c.loop-run.invariant.did
