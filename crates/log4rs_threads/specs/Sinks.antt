-- What a sink holds.
use Rattle.std.specs.Prelude.{◌≡◌, ℕ, List, map, slice_get, string_bytes, Option, Some, None}
use Rattle.std.specs.Prelude.{option_and_then}
use Rattle.std.specs.Str.{chars}
use Rattle.log4rs_base.specs.Text.{Text}
use Rattle.log4rs_base.specs.declared.record.Entry.{Entry}
use Rattle.log4rs_encode.specs.Runs.{plain_bytes}
use Rattle.log4rs_encode.specs.Rendering.{pattern_runs}
use Rattle.log4rs_encode.specs.Spelling.{IsPattern}
use Rattle.log4rs_encode.specs.Syntax.{Pieces}
use Rattle.log4rs_encode.specs.Table.{chunks_of}
use Rattle.log4rs_threads.specs.declared.schedule.shape.ShapeAppender.{ShapeAppender}

-- the plain texts that the pieces of a pattern print for entries
abbrev pub printed : Pieces → List Entry → List Text
printed pieces entries =
    map (λ e. plain_bytes (pattern_runs (chunks_of pieces) e.logged e.context)) entries

-- the sink at a place of a shape
abbrev pub sink_at : List (List (List Text)) → ℕ → ℕ → Option (List Text)
sink_at sinks shape place = option_and_then (λ row. slice_get row place) (slice_get sinks shape)

-- an appender's sink holds what its pattern prints for these entries;
-- where there is no appender there is no sink
abbrev pub IsSink : Option ShapeAppender → List Entry → Option (List Text) → Type 0
IsSink None entries texts = texts ≡ None
IsSink (Some a) entries texts =
    (pieces : Pieces)
    × IsPattern (chars (string_bytes a.pattern)) pieces
    × (texts ≡ Some (printed pieces entries))
