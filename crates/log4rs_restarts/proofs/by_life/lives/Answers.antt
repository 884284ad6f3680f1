use Rattle.std.proofs.Common.{◌≡◌, ◌+◌, List, take, take_all, subst, arith}
use Rattle.log4rs_restarts.specs.Lives.{KeptBy, LivesDid}
use Rattle.log4rs_restarts.specs.declared.by_life.Life.{Life}
use Rattle.log4rs_restarts.proofs.Living.{did_more, did_of, kept_more, kept_none, kept_rest, lives_leave, rises_suffix}
use Rattle.log4rs_restarts.proofs.by_life.lives.Goals as goal

pub returns-in_default-clause-kept : goal.returns-in_default-clause-kept
returns-in_default-clause-kept g c = kept_none c.args.lives.now (g.S.Store.disk c.args.store)

pub returns-in_default-clause-suffix : goal.returns-in_default-clause-suffix
returns-in_default-clause-suffix g c =
    let disk = g.S.Store.disk c.args.store in
    rises_suffix c.args.lives.now disk disk (kept_none c.args.lives.now disk)

pub returns-in_default-clause-in_order : goal.returns-in_default-clause-in_order
returns-in_default-clause-in_order g c =
    let disk = g.S.Store.disk c.args.store in
    lives_leave c.args.lives.now disk disk (kept_none c.args.lives.now disk)

pub returns-in_default-report-clause-kept : goal.returns-in_default-report-clause-kept
returns-in_default-report-clause-kept g c =
    let disk = g.S.Store.disk in
    let lives = c.args.lives.now in
    let i = c.loop-life.life-index in
    let told = c.sessions-left.ensures in
    let one : KeptBy c.life-item.result.settings (disk c.loop-life.store) (disk c.sessions-left.result.0) = record { suffix = told.suffix; elsewhere = told.elsewhere; renames = told.renames } in
    kept_rest lives (i + 1) (disk c.args.store) (disk c.sessions-left.result.0)
    (kept_more lives i c.life-item.result (disk c.args.store) (disk c.loop-life.store) (disk c.sessions-left.result.0) c.loop-life-test.true c.life-item.is c.loop-life.invariant.kept one)

pub returns-in_default-report-clause-suffix : goal.returns-in_default-report-clause-suffix
returns-in_default-report-clause-suffix g c = rises_suffix c.args.lives.now (g.S.Store.disk c.args.store) (g.S.Store.disk c.sessions-left.result.0) (returns-in_default-report-clause-kept g c)

pub returns-in_default-report-clause-in_order : goal.returns-in_default-report-clause-in_order
returns-in_default-report-clause-in_order g c = lives_leave c.args.lives.now (g.S.Store.disk c.args.store) (g.S.Store.disk c.sessions-left.result.0) (returns-in_default-report-clause-kept g c)

pub loop-life-preserved : goal.loop-life-preserved
loop-life-preserved g c =
    let disk = g.S.Store.disk in
    let lives = c.args.lives.now in
    let life = c.life-item.result in
    let i = c.loop-life.invariant in
    let at = c.loop-life.life-index in
    let told = c.sessions-left.ensures in
    let pushed = c.push_reserved.ensures in
    let d0 = disk c.args.store in
    let d1 = disk c.loop-life.store in
    let d2 = disk c.sessions-left.result.0 in
    let one : KeptBy life.settings d1 d2 = record { suffix = told.suffix; elsewhere = told.elsewhere; renames = told.renames } in
    record {
      number = let a = pushed.len in let b = i.number in omega arith;
      room = let a = pushed.capacity in let b = i.room in omega arith;
      kept = kept_more lives at life d0 d1 d2 c.loop-life-test.true c.life-item.is i.kept one;
      did = did_more lives at life c.loop-life.reports.items c.push_reserved.new.self.items c.in-Ok-report.report d0 d1 d2 c.loop-life-test.true c.life-item.is pushed.items i.did
          (did_of life c.as_slice.result.now c.sessions-left.result.1 c.in-Ok-report.report d1 d2 c.as_slice.ensures.value c.in-Ok-report.is told.ran one told.drops told.reported);
    }

pub returns-clause-kept : goal.returns-clause-kept
returns-clause-kept g c =
    let disk = g.S.Store.disk in
    kept_rest c.args.lives.now c.loop-life.life-index (disk c.args.store) (disk c.loop-life.store) c.loop-life.invariant.kept

pub returns-clause-did : goal.returns-clause-did
returns-clause-did g c =
    let disk = g.S.Store.disk in
    let whole : take c.loop-life.life-index c.args.lives.now ≡ c.args.lives.now = take_all c.loop-life.life-index c.args.lives.now c.loop-life-test.false in
    subst (λ (l : List Life). LivesDid l c.loop-life.reports.items (disk c.args.store) (disk c.loop-life.store)) whole c.loop-life.invariant.did

pub returns-clause-suffix : goal.returns-clause-suffix
returns-clause-suffix g c = rises_suffix c.args.lives.now (g.S.Store.disk c.args.store) (g.S.Store.disk c.loop-life.store) (returns-clause-kept g c)

pub returns-clause-in_order : goal.returns-clause-in_order
returns-clause-in_order g c = lives_leave c.args.lives.now (g.S.Store.disk c.args.store) (g.S.Store.disk c.loop-life.store) (returns-clause-kept g c)
