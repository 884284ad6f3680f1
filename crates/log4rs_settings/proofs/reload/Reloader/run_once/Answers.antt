use Rattle.std.proofs.Common.{◌≡◌, ap}
use Rattle.std.proofs.lemmas.Result.{err_from_is_err_and}
use Rattle.log4rs_settings.specs.Reload.{ReloaderState}
use Rattle.log4rs_settings.proofs.Rows.{reloads_same, reloads_none, reloads_loaded}
use Rattle.log4rs_settings.proofs.reload.Reloader.run_once.Goals as goal

pub returns-in_err-look-clause-step : goal.returns-in_err-look-clause-step
returns-in_err-look-clause-step g c =
    let p = err_from_is_err_and c.from_residual.result c.from_residual.ensures.1 in
    rw (p.1, p.2) (reloads_none (g.D.Loads.Gives c.args.maker.now c.args.surroundings.now c.args.self.now.format) _ _ _ _ _ _ c.in_err-look.ensures)

pub returns-in-None-clause-step : goal.returns-in-None-clause-step
returns-in-None-clause-step g c =
    reloads_same (g.D.Loads.Gives c.args.maker.now c.args.surroundings.now c.args.self.now.format) _ _ _ _ _ (rw c.in-None.is at c.in_ok-look.ensures)

pub returns-in-Some-clause-step : goal.returns-in-Some-clause-step
returns-in-Some-clause-step g c =
    let found = rw c.in-Some.is at c.in_ok-look.ensures in
    let as_before : c.look.new.self.format ≡ c.args.self.now.format = ap (λ (k : ReloaderState). k.format) found.4 in
    reloads_loaded (g.D.Loads.Gives c.args.maker.now c.args.surroundings.now c.args.self.now.format) _ _ _ _ _ _ _ _ _ _ _ found (rw (as_before, c.as_str-text.ensures.value) at c.load-loaded.ensures.ok) (rw (as_before, c.as_str-text.ensures.value) at c.load-loaded.ensures.err) c.settle.ensures
