use Rattle.std.proofs.Common.{sym, subst}
use Rattle.log4rs_rolling.specs.LogFile.{Agrees}
use Rattle.log4rs_rolling.specs.FileChanges.{way}
use Rattle.log4rs_rolling.specs.declared.log_file.LogFile.{LogFile}
use Rattle.log4rs_append.proofs.Spending.{opened_agrees}
use Rattle.log4rs_append.proofs.rolling_file.parts.open_file.Goals as goal

pub returns-clause-agrees : goal.returns-clause-agrees
returns-clause-agrees g c = λ agrees.
    let disk = g.S.Store.disk in
    let d1 = disk c.open_anew.new.store in
    let opens = c.in_ok-len.ensures in
    subst (λ (l : LogFile). Agrees l d1) (sym c.open_at.ensures)
    (opened_agrees c.args.log.now c.path.result.now _ (way c.args.append) (disk c.args.store.now) d1 c.path.ensures opens.once opens.ok)
