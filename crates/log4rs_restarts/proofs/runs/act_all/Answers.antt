use Rattle.std.proofs.Common.{◌≡◌, ◌∙◌, refl, sym, subst, IsTrue, string_bytes, arith, take, take_all, List}
use Rattle.log4rs_restarts.specs.declared.run.Act.{Act}
use Rattle.log4rs_restarts.proofs.Did.{acts_more, acts_none}
use Rattle.log4rs_restarts.specs.ActsDone.{ActsDone, IsDone}
use Rattle.log4rs_restarts.specs.Moments.{done, moment}
use Rattle.log4rs_append.specs.Sink.{plain_reading}
use Rattle.log4rs_restarts.proofs.runs.act_all.Goals as goal

pub loop-act-init : goal.loop-act-init
loop-act-init g c =
    let disk = g.S.Store.disk in
    let r = c.requires in
    let file = c.args.file.now in
    record {
      append = refl;
      path = refl;
      reading = refl;
      did = acts_none (plain_reading (g.E.Encode.rendering c.args.file.now.encoder)) (string_bytes file.log.path) c.args.acts.now _ _ (moment disk file) r.ready.outcomes r.ready.answers;
      opening = refl;
      counts = (refl, refl);
      number = r.ready.no_outcomes;
      number_of_answers = let e = r.ready.no_answers in omega arith;
      room = r.ready.room;
      room_of_answers = r.ready.room_of_answers;
    }

pub loop-act-preserved : goal.loop-act-preserved
loop-act-preserved g c =
    let disk = g.S.Store.disk in
    let i = c.loop-act.invariant in
    let first = c.args.file.now in
    let before = c.loop-act.file in
    let one = c.act_on-outcome.ensures in
    let after = c.act_on-outcome.new.file in
    let noted = c.note.ensures in
    let reading = plain_reading (g.E.Encode.rendering c.args.file.now.encoder) in
    record {
      append = one.mode ∙ i.append;
      path = one.path ∙ i.path;
      reading = one.reading ∙ i.reading;
      did = acts_more reading (string_bytes first.log.path) c.args.acts.now c.loop-act.act-index (done c.act-item.result c.act_on-outcome.result.0 c.act_on-outcome.result.1 (moment disk before) (moment disk after)) c.loop-act.report.outcomes.items _ c.loop-act.report.answers.items _ (moment disk first)
          c.loop-act-test.true c.act-item.is noted.outcomes noted.answers
          (subst (λ r. IsDone r (string_bytes first.log.path) (done c.act-item.result c.act_on-outcome.result.0 c.act_on-outcome.result.1 (moment disk before) (moment disk after))) i.reading
          (subst (λ p. IsDone (plain_reading (g.E.Encode.rendering c.loop-act.file.encoder)) p (done c.act-item.result c.act_on-outcome.result.0 c.act_on-outcome.result.1 (moment disk before) (moment disk after))) i.path one.did)) i.did;
      opening = noted.opening ∙ i.opening;
      counts = (noted.counts.0 ∙ i.counts.0, noted.counts.1 ∙ i.counts.1);
      number = let a = noted.number in let b = i.number in omega arith;
      number_of_answers = let a = noted.number_of_answers in let b = i.number_of_answers in omega arith;
      room = let a = noted.capacity in let b = i.room in omega arith;
      room_of_answers = let a = noted.capacity_of_answers in let b = i.room_of_answers in omega arith;
    }

pub act_on-outcome-requires : goal.act_on-outcome-requires
act_on-outcome-requires g c = record { append = subst IsTrue (sym c.loop-act.invariant.append) c.requires.append }

pub returns-clause-did : goal.returns-clause-did
returns-clause-did g c =
    let disk = g.S.Store.disk in
    let file = c.args.file.now in
    let report = c.loop-act.report in
    let whole : take c.loop-act.act-index c.args.acts.now ≡ c.args.acts.now = take_all c.loop-act.act-index c.args.acts.now c.loop-act-test.false in
    subst (λ (es : List Act). ActsDone (plain_reading (g.E.Encode.rendering c.args.file.now.encoder)) (string_bytes file.log.path) es report.outcomes.items report.answers.items (moment disk file) (moment disk c.loop-act.file)) whole c.loop-act.invariant.did
