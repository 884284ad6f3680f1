use Rattle.log4rs_rolling.proofs.Costing.{costs_then, uncounted_makes}
use Rattle.std.proofs.Common.{◌+◌, length}
use Rattle.log4rs_append.proofs.rolling_file.parts.write_closed.Goals as goal

pub returns-clause-cost : goal.returns-clause-cost
returns-clause-cost g c =
    let disk = g.S.Store.disk in
    costs_then (1 + length c.args.text.now) c.open_to_write-wrote.result (disk c.args.store.now) (disk c.open_to_write-wrote.new.store) (disk c.roll.new.store) c.open_to_write-wrote.ensures.cost
    (uncounted_makes _ _ c.roll.ensures.calls.tells c.roll.ensures.counted)
