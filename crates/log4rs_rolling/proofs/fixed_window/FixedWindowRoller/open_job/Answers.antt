use Rattle.std.proofs.Common.{rules, inl, inr}
use Rattle.log4rs_rolling.proofs.Found.{moves_none}
use Rattle.log4rs_rolling.proofs.fixed_window.FixedWindowRoller.open_job.Goals as goal

pub returns-then-self-eq0-clause-moves : goal.returns-then-self-eq0-clause-moves
returns-then-self-eq0-clause-moves g c = moves_none c.args.self.now c.args.file.now (g.S.Store.disk c.args.store.now) (search rules) (inr (search rules))

pub returns-then-not-self-clause-moves : goal.returns-then-not-self-clause-moves
returns-then-not-self-clause-moves g c = moves_none c.args.self.now c.args.file.now (g.S.Store.disk c.args.store.now) (search rules) (inl (search rules))
