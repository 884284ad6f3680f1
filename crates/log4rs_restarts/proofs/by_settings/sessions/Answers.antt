use Rattle.std.proofs.Common.{◌≡◌, IsTrue, ap, sym, inl, inr, None, subst, arith, rules, vec_len, string_bytes, length, All}
use Rattle.log4rs_restarts.specs.Failures.{AreRefused}
use Rattle.log4rs_restarts.specs.RollingSettings.{refusal_of}
use Rattle.log4rs_restarts.specs.Runs.{IsRefused}
use Rattle.log4rs_restarts.specs.Sessions.{AreUnfit, IsEmpty}
use Rattle.log4rs_restarts.specs.declared.run.Report.{Report}
use Rattle.log4rs_restarts.specs.RollingSettings.{keeping_of, path_of, window_of}
use Rattle.log4rs_restarts.specs.Suffix.{DropsTheOldest}
use Rattle.log4rs_rolling.specs.Keeping.{Keeping}
use Rattle.log4rs_rolling.specs.Roller.{kept_anew}
use Rattle.log4rs_restarts.proofs.Did.{did_as}
use Rattle.log4rs_restarts.proofs.Elsewhere.{elsewhere_by, elsewhere_same}
use Rattle.log4rs_restarts.proofs.Promising.{drops_over, drops_same, ran_over, suffix_by, suffix_same}
use Rattle.log4rs_restarts.proofs.Spending.{if_ok, if_ok_all, on_err}
use Rattle.log4rs_restarts.proofs.Reporting.{all_refused, all_reported}
use Rattle.log4rs_restarts.proofs.by_settings.sessions.Goals as goal

pub returns-in-Ok-clause-ran : goal.returns-in-Ok-clause-ran
returns-in-Ok-clause-ran g c =
    λ accepted.
    let disk = g.S.Store.disk in
    let settings = c.args.settings.now in
    let made = c.in-Ok.made in
    let told = c.in-Ok.ensures in
    if_ok c.sessions_with.result.1 _ _
    (λ report did. (
      _,
      told.reading,
      did_as made.trigger settings.trigger _ (kept_anew made.roller) (keeping_of settings) (string_bytes made.path) (path_of settings) c.args.runs.now report.runs.items (disk c.args.store) (disk c.sessions_with.result.0) told.trigger told.keeping told.path
          did,
    ))
    c.sessions_with.ensures.did

pub returns-in-Ok-clause-reported : goal.returns-in-Ok-clause-reported
returns-in-Ok-clause-reported g c =
    let disk = g.S.Store.disk in
    let settings = c.args.settings.now in
    if_ok c.sessions_with.result.1 _ _
    (λ report are. (
      _,
      λ none. c.in-Ok.ensures.reading,
      all_reported (AreRefused c.in-Ok.made.trigger) (AreUnfit settings) _ c.args.runs.now report.runs.items (disk c.args.store) (disk c.sessions_with.result.0)
          (λ refused. inr (subst AreRefused c.in-Ok.ensures.trigger refused)) are,
    ))
    c.sessions_with.ensures.reported

pub returns-in-Err-clause-reported : goal.returns-in-Err-clause-reported
returns-in-Err-clause-reported g c =
    let settings = c.args.settings.now in
    let unfit : refusal_of settings ≡ None → ⊥ = λ none. search rules in
    if_ok_all c.refused.result (λ (report : Report). vec_len report.runs ≡ length c.args.runs.now) (λ report. All IsRefused report.runs.items) (λ report. All IsEmpty report.runs.items) _
    (λ report number refused empty. (
      None,
      λ none. absurd (unfit none),
      all_refused (AreUnfit settings) None c.args.runs.now report.runs.items (g.S.Store.disk c.args.store) (inl unfit) (let a = report.runs.ok.0 in let b = number in omega arith) refused empty,
    ))
    c.refused.ensures.number c.refused.ensures.refused c.refused.ensures.empty

pub returns-in-Ok-clause-suffix : goal.returns-in-Ok-clause-suffix
returns-in-Ok-clause-suffix g c =
    let disk = g.S.Store.disk in
    let settings = c.args.settings.now in
    let made = c.in-Ok.made in
    let told = c.in-Ok.ensures in
    let end = c.sessions_with.result in
    suffix_by settings _ c.args.runs.now end.1 (disk c.args.store) (disk end.0)
    (if_ok end.1 _ _
    (λ report did.
    ran_over settings made.trigger _ (kept_anew made.roller) (string_bytes made.path) c.args.runs.now report.runs.items (disk c.args.store) (disk end.0) told.trigger told.keeping told.path did)
    c.sessions_with.ensures.did) (on_err end.1 (end.0 ≡ c.args.store) (disk end.0 ≡ disk c.args.store) (λ same. ap disk same) c.sessions_with.ensures.none)

pub returns-in-Ok-clause-drops : goal.returns-in-Ok-clause-drops
returns-in-Ok-clause-drops g c =
    let disk = g.S.Store.disk in
    let settings = c.args.settings.now in
    let made = c.in-Ok.made in
    let told = c.in-Ok.ensures in
    let end = c.sessions_with.result in
    if_ok end.1 _ _
    (λ report did.
    drops_over settings _ c.args.runs.now report.runs.items (disk c.args.store) (disk end.0)
    (ran_over settings made.trigger _ (kept_anew made.roller) (string_bytes made.path) c.args.runs.now report.runs.items (disk c.args.store) (disk end.0) told.trigger told.keeping told.path did))
    c.sessions_with.ensures.did

pub returns-in-Err-Memory-clause-suffix : goal.returns-in-Err-Memory-clause-suffix
returns-in-Err-Memory-clause-suffix g c = suffix_same (window_of c.args.settings.now) (g.S.Store.disk c.args.store)

pub returns-in-Err-clause-suffix : goal.returns-in-Err-clause-suffix
returns-in-Err-clause-suffix g c = suffix_same (window_of c.args.settings.now) (g.S.Store.disk c.args.store)

pub returns-in-Err-clause-drops : goal.returns-in-Err-clause-drops
returns-in-Err-clause-drops g c =
    let window = window_of c.args.settings.now in
    let disk = g.S.Store.disk c.args.store in
    if_ok c.refused.result (λ report. vec_len report.runs ≡ length c.args.runs.now) (λ report. DropsTheOldest window c.args.runs.now report.runs.items disk disk)
    (λ report number. drops_same window c.args.runs.now report.runs.items disk) c.refused.ensures.number

pub returns-in-Ok-clause-renames : goal.returns-in-Ok-clause-renames
returns-in-Ok-clause-renames g c = λ only. c.sessions_with.ensures.renames (subst (λ (keeping : Keeping). IsTrue keeping.renames) (sym c.in-Ok.ensures.keeping) only)

pub returns-in-Ok-clause-elsewhere : goal.returns-in-Ok-clause-elsewhere
returns-in-Ok-clause-elsewhere g c =
    let disk = g.S.Store.disk in
    let settings = c.args.settings.now in
    let made = c.in-Ok.made in
    let end = c.sessions_with.result in
    elsewhere_by settings made.trigger _ (kept_anew made.roller) (string_bytes made.path) c.args.runs.now end.1 (disk c.args.store) (disk end.0) c.in-Ok.ensures.keeping c.in-Ok.ensures.path
    c.sessions_with.ensures.did (on_err end.1 (end.0 ≡ c.args.store) (disk end.0 ≡ disk c.args.store) (λ same. ap disk same) c.sessions_with.ensures.none)

pub returns-in-Err-Memory-clause-elsewhere : goal.returns-in-Err-Memory-clause-elsewhere
returns-in-Err-Memory-clause-elsewhere g c = elsewhere_same c.args.settings.now (g.S.Store.disk c.args.store)

pub returns-in-Err-clause-elsewhere : goal.returns-in-Err-clause-elsewhere
returns-in-Err-clause-elsewhere g c = elsewhere_same c.args.settings.now (g.S.Store.disk c.args.store)
