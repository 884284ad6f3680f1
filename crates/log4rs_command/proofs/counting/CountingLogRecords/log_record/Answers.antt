use Rattle.std.proofs.Common.{◌≡◌, [], refl, sym, subst, rules, ℕ, List}
use Rattle.log4rs_config.specs.declared.delivery.AppendError.{AppendError}
use Rattle.log4rs_command.specs.Losses.{AreFailuresAt}
use Rattle.log4rs_command.proofs.DeliveryLemmas.{counted, some_failures}
use Rattle.log4rs_command.proofs.counting.CountingLogRecords.log_record.Goals as goal

-- nothing was appended, so nothing was counted
pub returns-in_default : goal.returns-in_default
returns-in_default g c = ([], [], [], ([], refl, refl), λ name. refl)

pub returns-in-Err : goal.returns-in-Err
returns-in-Err g c = ([], [], [], ([], refl, refl), λ name. refl)

pub returns : goal.returns
returns g c =
    let same : c.deref.result.now ≡ c.deliver.new.errors.items = search rules in
    counted c.args.self.now.losses c.count_each.new.losses _ c.deref.result.now
    (subst (λ (errors : List AppendError). (places : List ℕ) × AreFailuresAt places errors) (sym same) (some_failures _ _ _ c.deliver.ensures)) c.in_ok-count_each.ensures
