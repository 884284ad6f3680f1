use Rattle.log4rs_encode.proofs.Bytes.{plain_bytes-join}
use Rattle.log4rs_encode.proofs.laws.joined_bytes.Goals as goal

pub returns : goal.returns
returns c = plain_bytes-join
