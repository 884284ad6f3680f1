use Rattle.std.proofs.Common.{rules, sym}
use Rattle.log4rs_encode.specs.contracts.encoder.EncoderOfEncode.TheImpl as encoders
use Rattle.log4rs_parts.proofs.handed.Handed.behind.Goals as goal

pub returns-in_ok-rolling-in-RollingFile-clause-made : goal.returns-in_ok-rolling-in-RollingFile-clause-made
returns-in_ok-rolling-in-RollingFile-clause-made g c =
    let told = (encoders.ghosts g.row.E g.E.Encode g.E.Encode-dict).rendering c.in_ok-encoder-in-RollingFile-2.encoder in
    rw (c.in-RollingFile.is, sym c.deref-in-RollingFile.ensures) (told, search rules, search rules, c.in_ok-rolling-in-RollingFile.ensures.made)
