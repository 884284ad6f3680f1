-- What a pattern prints, piece by piece.
use Rattle.std.specs.Prelude.{ℕ, List, [], ◌∷◌}
use Rattle.log4rs_base.specs.DateFormat.{Item}
use Rattle.log4rs_encode.specs.declared.pattern.chunk.Field.{Field}
use Rattle.log4rs_encode.specs.declared.pattern.chunk.Group.{Group}
use Rattle.log4rs_encode.specs.declared.pattern.chunk.Zone.{Zone}
use Rattle.log4rs_encode.specs.declared.pattern.piece.Parameters.{Parameters}

-- a field, the moment by a format and in a zone,
-- or what the context has under a key, else a default
pub data Value : Type 0 where
  field : Field → Value
  date : List Item → Zone → Value
  mdc : List ℕ → List ℕ → Value

-- a text that no record changes, a value of the record or its context, or the chunks of an argument
mutual
  pub data Chunk : Type 0 where
    text : List ℕ → Chunk
    value : Value → Parameters → Chunk
    group : Group → Chunks → Parameters → Chunk

  pub data Chunks : Type 0 where
    no_chunks : Chunks
    chunk : Chunk → Chunks → Chunks

abbrev pub chunks_from : List Chunk → Chunks
chunks_from [] = no_chunks
chunks_from (c ∷ cs) = chunk c (chunks_from cs)
