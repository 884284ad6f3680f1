use Rattle.std.proofs.Common.{◌∙◌, inl, refl, sym, subst, List, ℕ, length, string_bytes, IsTrue}
use Rattle.std.proofs.Math.Logic.{∥∥₁_map}
use Rattle.log4rs_rolling.specs.SinceOpening.{GoodSince}
use Rattle.log4rs_rolling.proofs.Appending.{later_on, since_step_at}
use Rattle.log4rs_rolling.proofs.Retiring.{closed_agrees, closed_behind}
use Rattle.log4rs_rolling.proofs.Costing.{uncounted_makes}
use Rattle.log4rs_rolling.proofs.Working.{driven_then}
use Rattle.log4rs_append.specs.Sink.{plain_reading}
use Rattle.log4rs_append.proofs.Rolling.{since_silent}
use Rattle.log4rs_append.proofs.rolling_file.RollingFileAppender.retire.Goals as goal

pub invariant_of-self : goal.invariant_of-self
invariant_of-self g c =
    let disk = g.S.Store.disk in
    let keeping = g.P.Keep.keeping in
    let self = c.drive-driven.new.self in
    let k = keeping self.policy in
    let settings = keeping self.settings.value in
    let path = string_bytes self.log.path in
    let opening = disk self.opened.value in
    let d1 = disk self.store in
    let d2 = disk c.roll.new.store in
    let behind = closed_behind k d1 d2 c.roll.ensures.calls c.roll.ensures.closed path in
    record {
      known = closed_agrees _ d2 (c.roll.ensures.shut, λ tells. c.roll.ensures.closed (subst IsTrue behind.store.tells tells));
      good = ∥∥₁_map self.good (λ (since : GoodSince settings k path self.append opening d1).
          subst (λ (p : List ℕ). GoodSince settings k p self.append opening d2) (sym c.roll.ensures.path) (since_step_at settings k k path self.append opening d1 d2 self.names behind since));
      later = later_on (length opening.changes) d1 d2 self.later behind.store;
      names = self.names;
    }

pub returns-clause-driven : goal.returns-clause-driven
returns-clause-driven g c =
    let disk = g.S.Store.disk in
    let keeping = g.P.Keep.keeping in
    let now = c.drive-driven.new.self in
    driven_then (keeping c.args.self.now.policy) (keeping now.policy) c.drive-driven.result (disk c.args.self.now.store) (disk now.store) (disk c.roll.new.store) c.drive-driven.ensures.driven c.roll.ensures.calls
    (λ tells. inl (c.roll.ensures.closed tells)) c.roll.ensures.refusals (uncounted_makes _ _ c.roll.ensures.calls.tells c.roll.ensures.counted)

pub returns-clause-texts : goal.returns-clause-texts
returns-clause-texts g c =
    let disk = g.S.Store.disk in
    let self = c.drive-driven.new.self in
    let k = g.P.Keep.keeping self.policy in
    let opening = disk self.opened.value in
    let d1 = disk self.store in
    let d2 = disk c.roll.new.store in
    let reading = plain_reading (g.E.Encode.rendering self.encoder) in
    let behind = closed_behind k d1 d2 c.roll.ensures.calls c.roll.ensures.closed (string_bytes self.log.path) in (
      since_silent reading reading k.is_built_in k.is_built_in (string_bytes self.log.path) (string_bytes c.roll.new.self.path) opening opening d1 d2
          refl refl c.roll.ensures.path refl self.later behind.store behind.silent
          ∙ c.drive-driven.ensures.texts.0,
      c.drive-driven.ensures.texts.1,
    )
