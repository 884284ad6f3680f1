use Rattle.std.proofs.Common.{◌∙◌, ap, not, map, take}
use Rattle.log4rs_config.specs.Settings.{is_among}
use Rattle.log4rs_config.proofs.Keeping.{marks-more}
use Rattle.log4rs_config.proofs.Seen.{seen-more}
use Rattle.log4rs_config.proofs.runtime.lossy.mark_firsts.Goals as goal

pub loop-item-preserved : goal.loop-item-preserved
loop-item-preserved g c =
    let name = g.T.Named.name in
    let xs = c.args.items.now in
    let i = c.loop-item.item-index in
    let x = c.item-item.result in
    let before = c.loop-item.invariant in (
      seen-more name xs i x c.loop-item.names c.insert.new.self c.name.result.now c.loop-item-test.true c.item-item.is c.name.ensures before.0 c.in_ok-is_first.ensures.names,
      marks-more name xs i x _ _ _ c.loop-item-test.true c.item-item.is before.1
          (c.in_ok-is_first.ensures.new ∙ ap not (before.0 c.name.result.now ∙ ap (is_among (map name (take i xs))) c.name.ensures)) c.in_ok-push.ensures.items,
    )
