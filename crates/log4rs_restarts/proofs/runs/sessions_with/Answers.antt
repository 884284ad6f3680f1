use Rattle.std.proofs.Common.{refl, string_bytes}
use Rattle.log4rs_rolling.specs.Roller.{kept_anew}
use Rattle.log4rs_restarts.specs.Triggers.{Begins}
use Rattle.log4rs_restarts.proofs.Heard.{runs_spare}
use Rattle.log4rs_restarts.proofs.runs.sessions_with.Goals as goal

pub returns-clause-renames : goal.returns-clause-renames
returns-clause-renames g c =
    λ only.
    let disk = g.S.Store.disk in
    let settings = c.args.settings.now in
    runs_spare (Begins settings.trigger) _ (kept_anew settings.roller) (string_bytes settings.path) c.args.runs.now c.run_all-store.result.1.items (disk c.args.store) (disk c.run_all-store.result.0) refl only c.run_all-store.ensures.did
