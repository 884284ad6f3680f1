use Rattle.std.proofs.Common.{◌∙◌, ap, sym, arith}
use Rattle.log4rs_rolling.specs.Change.{Files}
use Rattle.log4rs_rolling.specs.MemStore.{files_in, change_of}
use Rattle.log4rs_rolling.proofs.Effects.{files_after, one_more_effect}
use Rattle.log4rs_rolling.proofs.Maps.{after_same, files_in_clone}
use Rattle.log4rs_rolling.proofs.store.replay.replayed.Goals as goal

pub loop-effect-init : goal.loop-effect-init
loop-effect-init c = files_in_clone c.args.start.now c.in_ok-files.files c.in_ok-files.ensures.cases

pub loop-effect-preserved : goal.loop-effect-preserved
loop-effect-preserved c = λ path.
    c.in_ok-apply.ensures path
    ∙ after_same (files_in c.loop-effect.files) (files_after (files_in c.args.start.now) c.args.effects.now c.loop-effect.effect-index) (change_of c.effect-item.result) c.loop-effect.invariant path
    ∙ ap (λ (f : Files). f path) (sym (one_more_effect (files_in c.args.start.now) c.args.effects.now c.loop-effect.effect-index c.effect-item.result (omega (arith, c.loop-effect-test.true)) c.effect-item.is))
