use Rattle.std.proofs.Common.{◌≡◌, ℕ, List, Option, Some, None, IfSome, Bool, refl, sym, subst, ◌∙◌}
use Rattle.log4rs_base.specs.declared.record.Record.{Record}
use Rattle.log4rs_append.specs.RolledFile.{RolledFile, KeepsItsEnd}
use Rattle.log4rs_append.specs.Sink.{Sink}
use Rattle.log4rs_config.specs.Destinations.{RoutesAlike}
use Rattle.log4rs_config.specs.Kept.{IsLeftOut, rolled_at}
use Rattle.log4rs_config.specs.Routing.{deliveries}
use Rattle.log4rs_config.specs.Settings.{Settings}
use Rattle.guide.proofs.direct.rolled.log_both.Goals as goal

told_end : ((file : RolledFile) → ∥ KeepsItsEnd file ∥₁) → (file : Option RolledFile) → IfSome file (λ file. ∥ KeepsItsEnd file ∥₁)
told_end law None = tt
told_end law (Some file) = law file

-- where nothing is delivered, nothing is delivered by the same routes
still_left : {C : Type 0} {seen : C → Settings} {passing : C → Record → List Bool} {old new : C} → RoutesAlike seen passing old new → (r : Record) (at : ℕ)
    → IsLeftOut at (deliveries (seen old) (passing old) r) → IsLeftOut at (deliveries (seen new) (passing new) r)
still_left {seen = seen} {passing = passing} {old = old} {new = new} alike r at left = subst (IsLeftOut at) (sym (same (seen old) (seen new) (passing old) (passing new) alike.settings (alike.admits r))) left where
  same : (s t : Settings) (a b : Record → List Bool) → t ≡ s → b r ≡ a r → deliveries t b r ≡ deliveries s a r
  same s t a b e admits = rw (e, admits) refl

pub returns : goal.returns
returns g c =
    let laws = c.deliveries_leave_rolled_files.ensures in
    let one = c.log-one.ensures.answer in
    let other = c.log-other.ensures.answer in
    let first = c.args.first.now in
    let second = c.args.second.now in record {
      kept = λ at. told_end c.rolled_files_keep_their_end.ensures (rolled_at _ at);
      rolled = laws.joined _ _ _ (laws.rolled first.logged first.context _ c.log-one.result _ _ one) (laws.rolled second.logged second.context _ c.log-other.result _ _ other);
      others = λ at none no_other. laws.others second.logged second.context _ c.log-other.result _ _ other at (still_left c.log-one.ensures.routes second.logged at no_other)
          ∙ laws.others first.logged first.context _ c.log-one.result _ _ one at none;
    }
