use Rattle.log4rs_restarts.specs.declared.run.ActOutcome.TheVariants.{Appended, Stepped}
use Rattle.std.proofs.Common.{◌≡◌, None, refl, sym, ap, subst, string_bytes}
use Rattle.log4rs_rolling.specs.Roller.{kept_by}
use Rattle.log4rs_rolling.specs.FileChanges.{way}
use Rattle.log4rs_restarts.specs.Acts.{asks}
use Rattle.log4rs_rolling.specs.AppendResults.{AnsweredAppend, LimitedAppend}
use Rattle.log4rs_restarts.specs.ActsDone.{IsDone}
use Rattle.log4rs_restarts.specs.Moments.{done, moment}
use Rattle.log4rs_restarts.proofs.Did.{made_any}
use Rattle.log4rs_restarts.proofs.Late.{fails_any, shut_or}
use Rattle.log4rs_rolling.specs.Triggers.{trigger_of}
use Rattle.log4rs_append.specs.Sink.{plain_reading}
use Rattle.log4rs_append.specs.Texts.{fails_by}
use Rattle.log4rs_restarts.proofs.runs.act_on.Goals as goal

pub returns-in-Append-clause-did : goal.returns-in-Append-clause-did
returns-in-Append-clause-did g c =
    let disk = g.S.Store.disk in
    let before = c.args.file.now in
    let after = c.append_noted-outcome.new.self in
    let one = c.append_noted-outcome.ensures in
    let reading = plain_reading (g.E.Encode.rendering c.args.file.now.encoder) in
    let path = string_bytes before.log.path in
    let outcome = c.append_noted-outcome.result.0 in
    let answer = c.append_noted-outcome.result.1 in
    let entry = c.in-Append.entry in
    let asking = asks before.policy.trigger.trigger in
    let d0 = disk before.store in
    let d1 = disk after.store in
    subst (λ a. IsDone reading path (done a (Appended outcome) answer (moment disk before) (moment disk after))) (sym c.in-Append.is) (
      record {
        answered = subst (λ b. AnsweredAppend reading entry.logged entry.context asking answer (kept_by before.policy.roller) (kept_by after.policy.roller) b path outcome d0 d1) c.requires.append one.answered.2;
        limited = subst (λ b. LimitedAppend (kept_by before.policy.roller) (kept_by after.policy.roller) path (way b) d0 d1) c.requires.append one.limited;
        made = made_any reading (fails_by (g.E.Encode.answers c.args.file.now.encoder)) entry.logged entry.context asking (kept_by before.policy.roller) path outcome d0 d1 (one.made refl);
        stays = one.answered.1;
        grown = one.grown c.requires.append;
      },
      one.answered.0,
    )

pub returns-in-Late-clause-did : goal.returns-in-Late-clause-did
returns-in-Late-clause-did g c =
    let disk = g.S.Store.disk in
    let before = c.args.file.now in
    let after = c.append_retired-outcome.new.self in
    let one = c.append_retired-outcome.ensures in
    let reading = plain_reading (g.E.Encode.rendering before.encoder) in
    let result = c.append_retired-outcome.result in
    let entry = c.in-Late.entry in
    let d0 = disk before.store in
    let d1 = disk after.store in
    subst (λ a. IsDone reading (string_bytes before.log.path) (done a (Appended result) None (moment disk before) (moment disk after))) (sym c.in-Late.is) (
      record {
        adds = one.adds;
        unrefused = one.unrefused;
        faults = fails_any reading (fails_by (g.E.Encode.answers before.encoder)) entry.logged entry.context (after.store ≡ before.store) (d1 ≡ d0) result d0 d1 (λ same. ap disk same) one.faults;
        closed = shut_or after.log d1 (after.store ≡ before.store) (d1 ≡ d0) (λ same. ap disk same) one.closed;
        cost = one.cost;
        stays = ap (λ p. p.roller) one.same.1;
        unasked = refl;
      },
      ap (λ p. trigger_of p.trigger) one.same.1,
    )

pub returns-in-Step-clause-did : goal.returns-in-Step-clause-did
returns-in-Step-clause-did g c =
    let disk = g.S.Store.disk in
    let before = c.args.file.now in
    let after = c.step-outcome.new.self in
    let one = c.step-outcome.ensures in
    subst (λ a. IsDone (plain_reading (g.E.Encode.rendering c.args.file.now.encoder)) (string_bytes before.log.path) (done a (Stepped c.step-outcome.result) None (moment disk before) (moment disk after))) (sym c.in-Step.is)
    (record { stepped = one.stepped; unasked = refl }, ap (λ t. t.trigger) one.beside)
