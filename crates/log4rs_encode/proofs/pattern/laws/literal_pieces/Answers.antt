use Rattle.log4rs_encode.proofs.AsciiNames.{plain_piece, named_piece, ascii_bytes}
use Rattle.log4rs_encode.proofs.pattern.laws.literal_pieces.Goals as goal

pub returns-clause-plain : goal.returns-clause-plain
returns-clause-plain c = plain_piece

pub returns-clause-formatter : goal.returns-clause-formatter
returns-clause-formatter c = named_piece

pub returns-clause-ascii : goal.returns-clause-ascii
returns-clause-ascii c = ascii_bytes
