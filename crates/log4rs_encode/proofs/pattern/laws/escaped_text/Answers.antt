use Rattle.log4rs_encode.proofs.EscapedLemmas.{text_of-escaped}
use Rattle.log4rs_encode.proofs.pattern.laws.escaped_text.Goals as goal

pub returns : goal.returns
returns c cs ps h = text_of-escaped cs ps h
