-- What sinks hold in a run.
use Rattle.std.specs.Prelude.{◌≡◌, ℕ, List, [], ◌∷◌, ◌++◌, map, slice_get, string_bytes, Option}
use Rattle.std.specs.Prelude.{Some, None}
use Rattle.std.specs.Str.{chars}
use Rattle.log4rs_base.specs.Text.{Text}
use Rattle.log4rs_base.specs.declared.record.Entry.{Entry}
use Rattle.log4rs_base.specs.declared.record.Record.{Record}
use Rattle.log4rs_base.specs.declared.record.Context.{Context}
use Rattle.log4rs_append.specs.Sink.{Reading, Sink, Texts, Untold, Items, Bytes}
use Rattle.log4rs_append.specs.contracts.memory.MemoryAppenderAppend.TheImpl as memory
use Rattle.log4rs_append.specs.declared.memory.MemoryAppender.{MemoryAppender}
use Rattle.log4rs_encode.specs.contracts.pattern.PatternEncoder as encoder
use Rattle.log4rs_encode.specs.contracts.pattern.PatternEncoderEncode.TheImpl as encode
use Rattle.log4rs_encode.specs.declared.pattern.PatternEncoder.{PatternEncoder}
use Rattle.log4rs_threads.specs.declared.schedule.shape.ShapeAppender.{ShapeAppender}
use Rattle.log4rs_encode.specs.Rendering.{pattern_runs}
use Rattle.log4rs_encode.specs.Spelling.{IsPattern}
use Rattle.log4rs_encode.specs.Syntax.{Pieces}
use Rattle.log4rs_encode.specs.Table.{chunks_of}
use Rattle.log4rs_encode.specs.Runs.{plain_bytes}
use Rattle.log4rs_threads.specs.Sinks.{printed}

-- how records read by the pieces of a pattern
abbrev pub reading : Pieces → Reading
reading pieces = λ r c. plain_bytes (pattern_runs (chunks_of pieces) r c)

-- an appender's sink holds what its pattern prints for these entries;
-- where there is no appender there is no sink
abbrev pub Holds : Option ShapeAppender → List Entry → Option Texts → Type 0
Holds None entries texts = texts ≡ None
Holds (Some a) entries texts =
    (pieces : Pieces)
    × IsPattern (chars (string_bytes a.pattern)) pieces
    × (texts ≡ Some (Items (reading pieces) (printed pieces entries)))

-- the sink of an appender in memory
abbrev pub memory_sink : MemoryAppender PatternEncoder → Sink
memory_sink = (memory.ghosts encoder.the_row encode.ghosts memory.no_dict).sink

-- where the texts of sinks go
abbrev pub all_texts : List Sink → List Texts
all_texts sinks = map (λ sink. sink.texts) sinks

-- the sinks of these appenders hold nothing
abbrev pub AreEmpty : List ShapeAppender → List Texts → Type 0
AreEmpty appenders texts =
    (place : ℕ) → Holds (slice_get appenders place) [] (slice_get texts place)

-- one record more
abbrev pub gained : Record → Context → Texts → Texts
gained r c Untold = Untold
gained r c (Items read held) = Items read (held ++ read r c ∷ [])
gained r c (Bytes read held) = Bytes read (held ++ read r c)

-- the items that are held
abbrev pub items_in : Texts → List Text
items_in Untold = []
items_in (Items read held) = held
items_in (Bytes read held) = []
