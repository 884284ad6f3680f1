use Rattle.std.proofs.Common.{sym, ◌∙◌}
use Rattle.log4rs_command.proofs.ConfiguredLemmas.{root_level-named, root_level-nameless}
use Rattle.log4rs_command.proofs.configuration.root_level.Goals.{then-is_empty, else-is_empty}
use Rattle.log4rs_command.proofs.configuration.root_level.Goals as goal

pub loop-setting-preserved : goal.loop-setting-preserved
loop-setting-preserved c =
    let inside = c.loop-setting-test.true in
    elim c.if-is_empty.branch [
      | then-is_empty w ↦ w.level-is ∙ sym (root_level-nameless c.args.settings.now c.loop-setting.setting-index _ inside (sym w.if-is_empty.ensures))
      | else-is_empty w ↦ w.level-is ∙ c.loop-setting.invariant ∙ sym (root_level-named c.args.settings.now c.loop-setting.setting-index _ inside (sym w.if-is_empty.ensures))
    ]
