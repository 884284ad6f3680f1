-- Which encoders may go to another thread or be shared by threads: a pattern's chunks are a recursive type, which no search finds from afar.
use denote.RattleType.{RattleType}
use denote.Param.Send.{IsSend, IsSync, sendable}
use Rattle.std.proofs.Crossing.{crosses}
use Rattle.log4rs_encode.proofs.pattern.chunk.Chunk.TheLaws.TheKnot as chunks
use Rattle.log4rs_encode.specs.contracts.encoder.EncoderOf as EncoderOf
use Rattle.log4rs_encode.specs.contracts.pattern.PatternEncoder as PatternEncoder

pub pattern-send : IsSend PatternEncoder.the_row
pattern-send = search (chunks.crosses, crosses, sendable) depth 60 fits 20000

pub pattern-sync : IsSync PatternEncoder.the_row
pattern-sync = search (chunks.crosses, crosses, sendable) depth 60 fits 20000

pub encoder-send : (C : RattleType) → IsSend C → IsSend (EncoderOf.the_row C)
encoder-send C c = search (chunks.crosses, crosses, sendable) depth 60 fits 20000

pub encoder-sync : (C : RattleType) → IsSync C → IsSync (EncoderOf.the_row C)
encoder-sync C c = search (chunks.crosses, crosses, sendable) depth 60 fits 20000
