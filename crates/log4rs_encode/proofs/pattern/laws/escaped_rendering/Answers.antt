use Rattle.std.proofs.Common.{encode_utf8_all}
use Rattle.log4rs_encode.proofs.EscapedLemmas.{text_of-escaped}
use Rattle.log4rs_encode.proofs.EscapedRendering.{text_renders}
use Rattle.log4rs_encode.proofs.pattern.laws.escaped_rendering.Goals as goal

pub returns : goal.returns
returns c cs ps r k h = text_renders ps (encode_utf8_all cs) r k (text_of-escaped cs ps h)
