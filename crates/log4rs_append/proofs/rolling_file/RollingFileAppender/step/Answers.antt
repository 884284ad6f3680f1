use Rattle.std.proofs.Common.{refl, sym, subst, List, ℕ, length, string_bytes}
use Rattle.std.proofs.Math.Logic.{∥∥₁_map}
use Rattle.log4rs_rolling.specs.LogFile.{Agrees}
use Rattle.log4rs_rolling.specs.SinceOpening.{GoodSince}
use Rattle.log4rs_rolling.proofs.Appending.{later_on, since_step_at}
use Rattle.log4rs_rolling.proofs.Places.{names_join}
use Rattle.log4rs_rolling.proofs.Stepping.{stepped_join, stepped_none}
use Rattle.log4rs_rolling.proofs.Costing.{uncounted_makes}
use Rattle.log4rs_rolling.proofs.Working.{stepped_then}
use Rattle.log4rs_append.specs.Sink.{plain_reading}
use Rattle.log4rs_append.proofs.Rolling.{since_silent}
use Rattle.log4rs_append.proofs.rolling_file.RollingFileAppender.step.Goals as goal

pub invariant_of-self : goal.invariant_of-self
invariant_of-self g c =
    let disk = g.S.Store.disk in
    let keeping = g.P.Keep.keeping in
    let self = c.args.self.now in
    let k0 = keeping self.policy in
    let k1 = keeping c.step-more.new.self in
    let settings = keeping self.settings.value in
    let path = string_bytes self.log.path in
    let opening = disk self.opened.value in
    let d0 = disk self.store in
    let d1 = disk c.step-more.new.store in
    let d2 = disk c.look_again.new.store in
    let stepped = c.step-more.ensures.stepped.steps in
    let both = stepped_join k0 k1 k1 d0 d1 d2 stepped (stepped_none k1 k1 d1 d2 refl c.look_again.ensures.calls c.look_again.ensures.opened) path in
    let now = c.look_again.ensures.agrees d0 self.known (stepped path).left (sym (stepped path).store.tells) in
    record {
      known = now;
      good = ∥∥₁_map self.good (λ (since : GoodSince settings k0 path self.append opening d0).
          subst (λ (p : List ℕ). GoodSince settings k1 p self.append opening d2) (sym c.look_again.ensures.path) (since_step_at settings k0 k1 path self.append opening d0 d2 self.names both since));
      later = later_on (length opening.changes) d0 d2 self.later both.store;
      names = names_join settings k0 k1 self.names both.names;
    }

pub returns-clause-stepped : goal.returns-clause-stepped
returns-clause-stepped g c =
    let disk = g.S.Store.disk in
    let keeping = g.P.Keep.keeping in
    let now = c.step-more.new in
    stepped_then (keeping c.args.self.now.policy) (keeping now.self) c.step-more.result (disk c.args.self.now.store) (disk now.store) (disk c.look_again.new.store) c.step-more.ensures.stepped c.look_again.ensures.calls c.look_again.ensures.opened c.look_again.ensures.refusals
    (uncounted_makes _ _ c.look_again.ensures.calls.tells c.look_again.ensures.counted)

pub returns-clause-texts : goal.returns-clause-texts
returns-clause-texts g c =
    let disk = g.S.Store.disk in
    let keeping = g.P.Keep.keeping in
    let self = c.args.self.now in
    let k0 = keeping self.policy in
    let k1 = keeping c.step-more.new.self in
    let opening = disk self.opened.value in
    let d0 = disk self.store in
    let d1 = disk c.step-more.new.store in
    let d2 = disk c.look_again.new.store in
    let reading = plain_reading (g.E.Encode.rendering self.encoder) in
    let both = stepped_join k0 k1 k1 d0 d1 d2 c.step-more.ensures.stepped.steps (stepped_none k1 k1 d1 d2 refl c.look_again.ensures.calls c.look_again.ensures.opened) (string_bytes self.log.path) in (
      since_silent reading reading k0.is_built_in k1.is_built_in (string_bytes self.log.path) (string_bytes c.look_again.new.log.path) opening opening d0 d2
          refl both.names.is_built_in c.look_again.ensures.path refl self.later both.store both.silent,
      rw (c.step-more.ensures.kind, both.names.is_built_in) refl,
    )
