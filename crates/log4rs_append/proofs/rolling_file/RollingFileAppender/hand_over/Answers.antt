use Rattle.std.proofs.Common.{ap, refl, sym}
use Rattle.log4rs_rolling.specs.LogFile.{log_path}
use Rattle.log4rs_append.specs.Rolling.{store_after}
use Rattle.log4rs_append.proofs.HandingOver.{handed_by, kept_as, kept_back, kept_over, refused_by, since_after}
use Rattle.log4rs_append.proofs.rolling_file.RollingFileAppender.hand_over.Goals as goal

pub returns-in-Err-clause-kept : goal.returns-in-Err-clause-kept
returns-in-Err-clause-kept g c =
    let disk = g.S.Store.disk in
    let keeping = g.P.Keep.keeping in
    let self = c.args.self in
    let old = c.retire.new.self in
    let same = c.retire.ensures.same in
    let first = keeping old.settings.value in
    let second = g.Q.Keep.keeping c.args.policy in
    kept_as first (keeping self.settings.value) second (log_path old.log) (log_path self.log) old.append self.append (disk old.opened.value) (disk self.opened.value) (disk old.store) (disk c.into_store.result)
    (ap keeping (sym same.3)) (sym same.0) (sym same.1) (ap disk (sym same.2)) (ap disk c.into_store.ensures)
    (kept_back first (keeping old.policy) second (log_path old.log) old.append (disk old.opened.value) (disk old.store) old.good)

pub returns-clause-kept : goal.returns-clause-kept
returns-clause-kept g c =
    let disk = g.S.Store.disk in
    let keeping = g.P.Keep.keeping in
    let self = c.args.self in
    let old = c.retire.new.self in
    let same = c.retire.ensures.same in
    let first = keeping old.settings.value in
    let second = g.Q.Keep.keeping c.args.policy in
    let end = disk (store_after c.open_log.result) in
    let later = since_after second (log_path old.log) old.append (disk old.store) c.open_log.result c.open_log.ensures.asked c.open_log.ensures.tried in
    kept_as first (keeping self.settings.value) second (log_path old.log) (log_path self.log) old.append self.append (disk old.opened.value) (disk self.opened.value) end end
    (ap keeping (sym same.3)) (sym same.0) (sym same.1) (ap disk (sym same.2)) refl
    (kept_over first (keeping old.policy) second later.0 (log_path old.log) old.append (disk old.opened.value) (disk old.store) end old.good later.1)

pub returns-clause-handed : goal.returns-clause-handed
returns-clause-handed g c =
    let disk = g.S.Store.disk in
    let keeping = g.P.Keep.keeping in
    let self = c.args.self in
    let old = c.retire.new.self in
    let same = c.retire.ensures.same in
    handed_by (keeping self.policy) (keeping old.policy) (g.Q.Keep.keeping c.args.policy) (log_path old.log) (log_path self.log) old.append self.append (disk self.store) old.store c.args.policy c.args.encoder c.open_log.result
    same.0 same.1 c.in_default.ensures.driven c.retire.ensures.closed.1 c.open_log.ensures.begun c.open_log.ensures.asked

pub returns-clause-refused : goal.returns-clause-refused
returns-clause-refused g c =
    let disk = g.S.Store.disk in
    let keeping = g.P.Keep.keeping in
    let self = c.args.self in
    let old = c.retire.new.self in
    let same = c.retire.ensures.same in
    refused_by (keeping self.policy) (keeping old.policy) (g.Q.Keep.keeping c.args.policy) (log_path old.log) (log_path self.log) old.append self.append (disk self.store) (disk old.store) disk c.open_log.result
    same.0 same.1 c.in_default.ensures.driven c.retire.ensures.closed.1 c.open_log.ensures.tried c.open_log.ensures.fault
