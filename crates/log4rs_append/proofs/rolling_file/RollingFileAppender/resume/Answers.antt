use Rattle.std.proofs.Common.{refl, List, ℕ, length, string_bytes, sym, subst}
use Rattle.std.proofs.Math.Logic.{∥∥₁_map}
use Rattle.log4rs_rolling.specs.declared.store.Open.TheVariants.{Append}
use Rattle.log4rs_rolling.specs.LogFile.{Agrees}
use Rattle.log4rs_rolling.specs.SinceOpening.{GoodSince}
use Rattle.log4rs_rolling.proofs.Appending.{later_on}
use Rattle.log4rs_rolling.proofs.Quiet.{opened_quiet}
use Rattle.log4rs_rolling.proofs.Retiring.{some_calls, since_appended}
use Rattle.log4rs_append.specs.Sink.{plain_reading}
use Rattle.log4rs_append.proofs.Rolling.{only_opens_silent, since_silent}
use Rattle.log4rs_append.proofs.rolling_file.RollingFileAppender.resume.Goals as goal

pub invariant_of-self : goal.invariant_of-self
invariant_of-self g c =
    let disk = g.S.Store.disk in
    let self = c.args.self.now in
    let keeping = g.P.Keep.keeping in
    let path = string_bytes self.log.path in
    let settings = keeping self.settings.value in
    let k = keeping self.policy in
    let opening = disk self.opened.value in
    let d0 = disk self.store in
    let d1 = disk c.open_file.new.store in
    let now = c.open_file.ensures.agrees self.known in
    record {
      known = now;
      good = ∥∥₁_map self.good (λ (since : GoodSince settings k path self.append opening d0).
          subst (λ (p : List ℕ). GoodSince settings k p self.append opening d1) (sym c.open_file.ensures.path)
          (since_appended settings k path self.append opening d0 d1 self.names (opened_quiet path Append d0 d1 c.open_file.ensures.opened) since));
      later = later_on (length opening.changes) d0 d1 self.later (some_calls d0 d1 _ c.open_file.ensures.opened);
      names = self.names;
    }

pub returns-clause-texts : goal.returns-clause-texts
returns-clause-texts g c =
    let disk = g.S.Store.disk in
    let self = c.args.self.now in
    let k = g.P.Keep.keeping self.policy in
    let path = string_bytes self.log.path in
    let opening = disk self.opened.value in
    let d0 = disk self.store in
    let d1 = disk c.open_file.new.store in
    let reading = plain_reading (g.E.Encode.rendering self.encoder) in (
      since_silent reading reading k.is_built_in k.is_built_in path (string_bytes c.open_file.new.log.path) opening opening d0 d1
          refl refl c.open_file.ensures.path refl self.later (some_calls _ _ _ c.open_file.ensures.opened) (λ built. only_opens_silent path d0 d1 c.open_file.ensures.opened),
      refl,
    )
