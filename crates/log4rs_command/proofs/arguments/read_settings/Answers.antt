use Rattle.std.proofs.Common.{subst}
use Rattle.log4rs_command.specs.Arguments.{IsNoSetting, IsSetting, setting_of}
use Rattle.log4rs_command.proofs.SettingLemmas.{AreSettings-more, AreSettings-none}
use Rattle.log4rs_command.proofs.arguments.read_settings.Goals as goal

pub returns-in_default-clause-err : goal.returns-in_default-clause-err
returns-in_default-clause-err c =
    AreSettings-none c.args.args.now c.loop-arg.arg-index c.arg-item.result c.loop-arg-test.true c.arg-item.is
    (subst (λ l. IsNoSetting l) c.as_str.ensures.value c.in_default.ensures.none)

pub loop-arg-preserved : goal.loop-arg-preserved
loop-arg-preserved c =
    AreSettings-more c.args.args.now c.loop-arg.arg-index c.arg-item.result c.loop-arg.settings.items c.push.new.self.items c.in-Some.setting
    c.loop-arg-test.true c.arg-item.is c.loop-arg.invariant
    (subst (λ l. IsSetting l (setting_of c.in-Some.setting)) c.as_str.ensures.value c.in-Some.ensures.setting)
    c.in_ok-push.ensures.items
