use Rattle.std.proofs.Common.{length}
use Rattle.log4rs_config.proofs.Alike.{one-digested, one-measured, entry-within}
use Rattle.log4rs_config.proofs.order.Digests.of.Goals as goal

pub digest_behind-requires : goal.digest_behind-requires
digest_behind-requires g c =
    entry-within g.T.Keyed.key c.args.entries.now c.loop-entry.entry-index c.entry-item.result c.common_of-start.result.now c.key-name.result.now c.loop-entry-test.true c.entry-item.is c.key-name.ensures c.common_of-start.ensures.begins

pub loop-entry-preserved : goal.loop-entry-preserved
loop-entry-preserved g c = (
  one-digested g.T.Keyed.key c.args.entries.now (length c.common_of-start.result.now) c.loop-entry.entry-index c.entry-item.result c.key-name.result.now c.digest_behind.result c.loop-entry.values.items c.push.new.self.items
      c.loop-entry-test.true c.entry-item.is c.key-name.ensures c.digest_behind.ensures.bytes c.digest_behind.ensures.value c.in_ok-push.ensures.items c.loop-entry.invariant.0,
  one-measured g.T.Keyed.key c.args.entries.now c.loop-entry.entry-index c.entry-item.result c.key-name.result.now c.loop-entry.lengths.items c.push-in-loop-entry.new.self.items
      c.loop-entry-test.true c.entry-item.is c.key-name.ensures c.in_ok-push-2.ensures.items c.loop-entry.invariant.1,
)
