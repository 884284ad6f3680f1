use Rattle.std.proofs.lemmas.Bool.{false≢true}
use Rattle.log4rs_config.proofs.Valid.{valid-byte, valid-alone}
use Rattle.log4rs_config.proofs.name.is_valid_logger_name.Goals as goal

pub loop-i-preserved-then-bytes-i-ne58 : goal.loop-i-preserved-then-bytes-i-ne58
loop-i-preserved-then-bytes-i-ne58 c =
    valid-byte c.as_bytes-bytes.result.now c.loop-i.i c.loop-i-test.true c.if-bytes-i-ne58.true c.loop-i.invariant

pub returns-else-is_pair : goal.returns-else-is_pair
returns-else-is_pair c =
    rw (← c.as_bytes-bytes.ensures.value) (valid-alone c.as_bytes-bytes.result.now c.loop-i.i c.loop-i-test.true c.if-bytes-i-ne58.false
    (λ l q r. false≢true (c.if-is_pair.ensures.1 (l, c.if-bytes-i-ne58.false, q, r))) c.loop-i.invariant)
