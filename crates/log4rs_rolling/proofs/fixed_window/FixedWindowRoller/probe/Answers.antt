use Rattle.std.proofs.Common.{rules, Option, Some, None, refl, sym, subst, ◌∙◌}
use Rattle.log4rs_rolling.proofs.Found.{look_moves, unlooked}
use Rattle.log4rs_rolling.proofs.Leaving.{rename_leaves}
use Rattle.log4rs_rolling.proofs.Opening.{kept_asked, no_job_unasked, probed_missing, probed_moved, roller_asked}
use Rattle.log4rs_rolling.specs.Archives.{waiting_name}
use Rattle.log4rs_rolling.specs.Keeping.{SteppedAt}
use Rattle.log4rs_rolling.specs.Roller.{kept_by}
use Rattle.log4rs_rolling.specs.declared.fixed_window.Job.{Job}
use Rattle.log4rs_rolling.proofs.fixed_window.FixedWindowRoller.probe.Goals as goal

pub returns-clause-stepped : goal.returns-clause-stepped
returns-clause-stepped g c =
    let disk = g.S.Store.disk in
    let self = c.args.self.now in
    let file = c.args.file.now in
    let d0 = disk c.args.store.now in
    let d1 = disk c.rename.new.self in
    let job : Job = record { left = self.count; waiting = c.in_ok-waiting.waiting } in
    roller_asked self (Some job) file d0 d1 c.requires.background c.requires.unasked (no_job_unasked self c.requires.unasked) (c.in_ok-waiting.ensures, refl)
    (probed_moved (waiting_name file) c.as_str-path.result.now job d0 d1 _ (c.as_str-path.ensures.value ∙ c.in_ok-waiting.ensures) (c.rename.ensures.moved (search rules)) (λ tells. c.rename.ensures.present tells (search rules)))
    (rename_leaves d0 d1 _ _ c.rename.result c.rename.ensures.moved c.rename.ensures.missing c.rename.ensures.err)

pub returns-then-eq-clause-stepped : goal.returns-then-eq-clause-stepped
returns-then-eq-clause-stepped g c =
    let disk = g.S.Store.disk in
    let self = c.args.self.now in
    let file = c.args.file.now in
    let d0 = disk c.args.store.now in
    let d1 = disk c.rename.new.self in
    let none = no_job_unasked self c.requires.unasked in
    subst (λ (j : Option Job). SteppedAt (kept_by self) (kept_asked self j) file d0 d1) (sym none)
    (roller_asked self None file d0 d1 c.requires.background c.requires.unasked none tt
    (probed_missing (waiting_name file) c.as_str-path.result.now d0 d1 _ (c.as_str-path.ensures.value ∙ c.in_ok-waiting.ensures)
    (c.rename.ensures.missing (search rules)) (λ tells. c.rename.ensures.absent tells (search rules)))
    (rename_leaves d0 d1 _ _ c.rename.result c.rename.ensures.moved c.rename.ensures.missing c.rename.ensures.err))

pub returns-clause-found : goal.returns-clause-found
returns-clause-found g c =
    let disk = g.S.Store.disk in
    let self = c.args.self.now in
    let file = c.args.file.now in
    let d0 = disk c.args.store.now in
    let d1 = disk c.rename.new.self in
    let job : Job = record { left = self.count; waiting = c.in_ok-waiting.waiting } in
    look_moves self (Some job) file d0 d1 c.requires.background c.requires.unasked c.requires.some (c.in_ok-waiting.ensures, refl)
    (probed_moved (waiting_name file) c.as_str-path.result.now job d0 d1 _ (c.as_str-path.ensures.value ∙ c.in_ok-waiting.ensures) (c.rename.ensures.moved (search rules)) (λ tells. c.rename.ensures.present tells (search rules)))

pub returns-then-eq-clause-found : goal.returns-then-eq-clause-found
returns-then-eq-clause-found g c =
    let disk = g.S.Store.disk in
    let self = c.args.self.now in
    let file = c.args.file.now in
    let d0 = disk c.args.store.now in
    let d1 = disk c.rename.new.self in
    unlooked self file d0 d1 c.requires.unasked
    (look_moves self None file d0 d1 c.requires.background c.requires.unasked c.requires.some tt
    (probed_missing (waiting_name file) c.as_str-path.result.now d0 d1 _ (c.as_str-path.ensures.value ∙ c.in_ok-waiting.ensures)
    (c.rename.ensures.missing (search rules)) (λ tells. c.rename.ensures.absent tells (search rules))))
