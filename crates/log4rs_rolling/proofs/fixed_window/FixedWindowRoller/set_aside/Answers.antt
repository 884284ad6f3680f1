use Rattle.std.proofs.Common.{rules, ◌∙◌, ◌≡◌, [], Some, refl}
use Rattle.log4rs_rolling.proofs.Calls.{calls_none}
use Rattle.log4rs_rolling.specs.Disk.{Calls}
use Rattle.log4rs_rolling.specs.Roller.{kept_by}
use Rattle.log4rs_rolling.proofs.Aside.{aside_moved, keeps_some, nothing_rolled, roller_among, roller_aside, set_moved}
use Rattle.log4rs_rolling.specs.Archives.{waiting_name}
use Rattle.log4rs_rolling.specs.declared.fixed_window.Job.{Job}
use Rattle.log4rs_rolling.proofs.fixed_window.FixedWindowRoller.set_aside.Goals as goal

pub returns-clause-rolled : goal.returns-clause-rolled
returns-clause-rolled g c =
    let disk = g.S.Store.disk in
    let self = c.args.self.now in
    let file = c.args.file.now in
    let waiting = c.as_str.ensures.value ∙ c.in_ok-waiting.ensures in
    let job : Job = record { left = self.count; waiting = c.in_ok-waiting.waiting } in
    roller_aside self (Some job) file (disk c.args.store.now) (disk c.rename.new.self) c.requires.background c.requires.asked c.requires.none c.requires.some (c.in_ok-waiting.ensures, refl)
    (set_moved file job _ _ (aside_moved (disk c.args.store.now) (disk c.rename.new.self) file c.as_str.result.now (waiting_name file) _ waiting (c.rename.ensures.moved (search rules)) (λ tells. c.rename.ensures.present tells (search rules))) (λ tells. c.rename.ensures.present tells (search rules)))

pub returns-clause-elsewhere : goal.returns-clause-elsewhere
returns-clause-elsewhere g c =
    let disk = g.S.Store.disk in
    let self = c.args.self.now in
    let file = c.args.file.now in
    let waiting = c.as_str.ensures.value ∙ c.in_ok-waiting.ensures in
    let job : Job = record { left = self.count; waiting = c.in_ok-waiting.waiting } in
    roller_among self (Some job) file (disk c.args.store.now) (disk c.rename.new.self) c.requires.background c.requires.asked c.requires.none (c.in_ok-waiting.ensures, refl)
    (set_moved file job _ _ (aside_moved (disk c.args.store.now) (disk c.rename.new.self) file c.as_str.result.now (waiting_name file) _ waiting (c.rename.ensures.moved (search rules)) (λ tells. c.rename.ensures.present tells (search rules))) (λ tells. c.rename.ensures.present tells (search rules)))

pub returns-in_err-waiting-clause-rolled : goal.returns-in_err-waiting-clause-rolled
returns-in_err-waiting-clause-rolled g c =
    let self = c.args.self.now in
    let d = g.S.Store.disk c.args.store.now in
    nothing_rolled (kept_by self) c.args.file.now c.from_residual.result d d (λ X. search rules) (keeps_some self c.requires.some) (calls_none d (λ added. added ≡ []) refl)

pub returns-in_default-clause-rolled : goal.returns-in_default-clause-rolled
returns-in_default-clause-rolled g c =
    let self = c.args.self.now in
    let d0 = g.S.Store.disk c.args.store.now in
    let d1 = g.S.Store.disk c.rename.new.self in
    let nothing : Calls d0 d1 (λ added. added ≡ []) = search rules in
    nothing_rolled (kept_by self) c.args.file.now _ d0 d1 (λ X. search rules) (keeps_some self c.requires.some) nothing
