-- The plain data that a chunk stands for.
use Rattle.std.specs.Prelude.{◌≡◌, ℕ, List, [], ◌∷◌, map, string_bytes, codes, Result, Ok, Err, None}
use Rattle.std.specs.Prelude.{String}
use Rattle.std.specs.Prelude.{true}
use Rattle.std.specs.Fmt.{decimal}
use Rattle.std.specs.declared.alloc.Global.{Global}
use denote.Bor.{Bor}
use Rattle.log.specs.Level.{level_name}
use Rattle.log4rs_encode.specs.Chunk.{Value, field, date, mdc, Chunk, text, value, group, Chunks}
use Rattle.log4rs_encode.specs.Chunk.{no_chunks, chunk}
use Rattle.log4rs_base.specs.PartView.{items_of}
use Rattle.log4rs_encode.specs.declared.pattern.chunk.Value as source_value
use Rattle.log4rs_encode.specs.declared.pattern.chunk.Value.TheVariants as source_values
use Rattle.log4rs_encode.specs.declared.pattern.chunk.Chunk as source
use Rattle.log4rs_encode.specs.declared.pattern.chunk.Field.{Field}
use Rattle.log4rs_encode.specs.declared.pattern.chunk.Field.TheVariants.{Level, Target, Message}
use Rattle.log4rs_encode.specs.declared.pattern.chunk.Zone.{Zone}
use Rattle.log4rs_encode.specs.declared.pattern.piece.Alignment.TheVariants.{Left}
use Rattle.log4rs_encode.specs.declared.pattern.piece.Parameters.{Parameters}
use Rattle.log4rs_encode.specs.Rendering.{rendered_all}
use Rattle.log4rs_base.specs.declared.record.Context.{Context}
use Rattle.log4rs_base.specs.declared.record.Record.{Record}
use Rattle.log4rs_encode.specs.declared.pattern.render.Shown.{Shown}
use Rattle.log4rs_encode.specs.declared.pattern.render.Shown.TheVariants as shown
use Rattle.log4rs_encode.specs.declared.pattern.chunk.Chunk.TheFolds.{fold-Chunk}
use Rattle.log4rs_encode.specs.declared.pattern.chunk.Chunk.TheOpen.{Chunk-F}

abbrev pub value_view : source_value.Value → Value
value_view (source_values.Field f) = field f
value_view (source_values.Date format zone) = date (items_of format) zone
value_view (source_values.Mdc key default) = mdc (string_bytes key) (string_bytes default)

-- parameters without a column
abbrev pub uncolumned : Parameters
uncolumned = record {
  fill = 32;
  right_truncate = true;
  align = Left;
  min_width = None;
  max_width = None;
}

-- a text, unless it is empty
abbrev pub some_text : List ℕ → List Chunk
some_text [] = []
some_text (b ∷ bs) = text (b ∷ bs) ∷ []

-- a field without a column, and the text behind it
abbrev pub field_before : Field → List ℕ → List Chunk
field_before f behind = value (field f) uncolumned ∷ some_text behind

-- chunks before others, and lists of chunks one after another
abbrev pub before : List Chunk → Chunks → Chunks
before [] more = more
before (c ∷ cs) more = chunk c (before cs more)

abbrev pub all_of : List (List Chunk) → Chunks
all_of [] = no_chunks
all_of (cs ∷ rest) = before cs (all_of rest)

-- one level, with each chunk inside already seen as its data
abbrev pub chunk_step : Chunk-F (List Chunk) → List Chunk
chunk_step (Chunk-F.Text t) = text (string_bytes t) ∷ []
chunk_step (Chunk-F.Level behind) = field_before Level (string_bytes behind)
chunk_step (Chunk-F.Target behind) = field_before Target (string_bytes behind)
chunk_step (Chunk-F.Message behind) = field_before Message (string_bytes behind)
chunk_step (Chunk-F.Field f behind) = field_before f (string_bytes behind)
chunk_step (Chunk-F.Value v ps) = value (value_view v) ps ∷ []
chunk_step (Chunk-F.Group g cs ps) = group g (all_of cs.items) ps ∷ []

-- a field stands for itself and the text behind it
abbrev pub chunk_view : source.Chunk → List Chunk
chunk_view = fold-Chunk (List Chunk) chunk_step

abbrev pub chunks_view : List source.Chunk → Chunks
chunks_view cs = all_of (map chunk_view cs)

-- two lists of chunks that print the same
abbrev pub PrintAlike : Chunks → Chunks → Type 0
PrintAlike cs ds = (r : Record) (k : Context) → rendered_all r k cs ≡ rendered_all r k ds

-- a compiled chunk prints what this chunk does
abbrev pub PrintsAs : source.Chunk → Chunk → Type 0
PrintsAs c d = PrintAlike (before (chunk_view c) no_chunks) (chunk d no_chunks)

-- a text or an error
abbrev pub word_view : Result (Bor (List ℕ)) (Bor (List ℕ)) → Result (List ℕ) (List ℕ)
word_view (Ok t) = Ok t.now
word_view (Err m) = Err m.now

-- a zone, or the text of an error
abbrev pub zone_view : Result Zone (String Global) → Result Zone Chunk
zone_view (Ok z) = Ok z
zone_view (Err t) = Err (text (string_bytes t))

-- the name of a level, a text, a number in decimal, or the newline
abbrev pub shown_view : Shown → List ℕ
shown_view (shown.Level l) = level_name l
shown_view (shown.Text t) = t.now
shown_view (shown.Number n) = decimal n
shown_view shown.Newline = codes "\n"
