use Rattle.std.proofs.Common.{◌∙◌, sym, ap}
use Rattle.std.proofs.lemmas.Result.{err_from_is_err_and}
use Rattle.log4rs_settings.specs.Reload.{ReloaderState}
use Rattle.log4rs_settings.proofs.Rows.{reloads_same, reloads_none, reloads_loaded}
use Rattle.log4rs_build.specs.declared.config_file.ConfigFile.{ConfigFile}
use Rattle.log4rs_build.specs.declared.deserializers.DeserializersWith.{DeserializersWith}
use Rattle.log4rs_build.specs.Kept.{GivesBeside}
use Rattle.log4rs_build.specs.Raw.{settings_in}
use Rattle.log4rs_build.proofs.Histories.{failed_leaves, settled_leaves}
use Rattle.log4rs_build.proofs.rereading.ConfigFile+S+M+DeserializersWith+P+R.reread.Goals as goal

pub returns-in_err-look-clause-step : goal.returns-in_err-look-clause-step
returns-in_err-look-clause-step g c =
    let p = err_from_is_err_and c.from_residual.result c.from_residual.ensures.1 in
    rw (p.1, p.2) (reloads_none _ _ _ _ _ _ _ c.in_err-look.ensures)

pub returns-in_err-look-clause-undone : goal.returns-in_err-look-clause-undone
returns-in_err-look-clause-undone g c =
    let p = err_from_is_err_and c.from_residual.result c.from_residual.ensures.1 in
    rw (p.1, p.2) (failed_leaves _ _ _)

pub returns-in-None-clause-step : goal.returns-in-None-clause-step
returns-in-None-clause-step g c = reloads_same _ _ _ _ _ _ (rw c.in-None.is at c.in_ok-look.ensures)

pub returns-in-Some-clause-step : goal.returns-in-Some-clause-step
returns-in-Some-clause-step g c =
    let source = ap (λ (f : ConfigFile g.row.S.Denot g.row.M.Denot (DeserializersWith g.row.P.Denot g.row.R.Denot)). f.source) c.load_beside-loaded.ensures.rest in
    let looked = rw c.in-Some.is at c.in_ok-look.ensures in
    let found = rw (sym source) at looked in
    let format = c.format.ensures ∙ ap (λ (k : ReloaderState). k.format) found.4 in
    let around = ap (λ (f : ConfigFile g.row.S.Denot g.row.M.Denot (DeserializersWith g.row.P.Denot g.row.R.Denot)). f.surroundings) c.load_beside-loaded.ensures.rest in
    let ok = rw (sym around, format, c.as_str-text.ensures.value) at c.load_beside-loaded.ensures.ok in
    let err = rw (sym around, format, c.as_str-text.ensures.value) at c.load_beside-loaded.ensures.err in
    reloads_loaded (λ text given before after. GivesBeside (g.P.BuildAppender.Builds (g.M.StoreMaker.starts c.args.self.now.maker) c.load_beside-loaded.new.self.surroundings)
    g.P.Parts.BuildsFilters c.load_beside-loaded.new.self.surroundings g.R.Refill.Refills g.P.Waits.waiting_for (g.M.StoreMaker.stores c.args.self.now.maker) c.args.in_force.now
    (g.H.SharesAppenders.history c.args.holder.now) (g.H.SharesAppenders.history c.load_beside-loaded.new.holder) before after
    (settings_in c.args.reloader.now.format text) given) _ _ _ _ _ c.args.self.now.deserializers c.load_beside-loaded.new.self.deserializers _ _ c.load_beside-loaded.result _ found ok err c.settle.ensures

pub returns-in-Some-clause-undone : goal.returns-in-Some-clause-undone
returns-in-Some-clause-undone g c =
    settled_leaves _ _ _ _ _ _ _ _ _ c.settle.ensures c.load_beside-loaded.ensures.retired c.load_beside-loaded.ensures.undone
