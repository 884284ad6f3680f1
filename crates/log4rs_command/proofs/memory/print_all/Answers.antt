use Rattle.log4rs_command.proofs.RunsLemmas.{prints_more}
use Rattle.log4rs_command.proofs.memory.print_all.Goals as goal

pub loop-text-preserved : goal.loop-text-preserved
loop-text-preserved g c =
    prints_more _ _ _ c.args.texts.now c.loop-text.text-index c.text-item.result c.as_bytes.result.now c.loop-text-test.true c.text-item.is c.as_bytes.ensures.value
    c.loop-text.invariant c.in_ok-write_all.ensures.bytes
