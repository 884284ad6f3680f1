-- What the JSON encoder prints for a record.
use Rattle.std.specs.Prelude.{ℕ, List, [], ◌∷◌, codes, unwrap_or}
use Rattle.log4rs_base.specs.declared.record.Context.{Context}
use Rattle.log4rs_base.specs.declared.record.Record.{Record}
use Rattle.log4rs_base.specs.DateFormat.{date_text}
use Rattle.log4rs_encode.specs.Rendering.{clock_in}
use Rattle.log4rs_encode.specs.Runs.{Run, text}
use Rattle.log4rs_encode.specs.Table.{error_text}
use Rattle.log4rs_encode.specs.declared.pattern.chunk.Zone.TheVariants.{Local}
use Rattle.log4rs_base.specs.Line.{json_line}

-- the moment in the zone of the context, as the date directive `%+` prints it
abbrev pub json_time : Context → List ℕ
json_time c =
    unwrap_or (date_text (codes "%+") (clock_in Local c)) (error_text (codes "year out of range"))

-- one text, the line
abbrev pub json_runs : Record → Context → List Run
json_runs r c = text (json_line (json_time c) r c) ∷ []
