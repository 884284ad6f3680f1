-- The chunks of pieces, and the formatters by their names.
use Rattle.std.specs.Prelude.{ℕ, Bool, ◌||◌, List, [], ◌∷◌, ◌++◌, Option, Some, None, Result, Ok}
use Rattle.std.specs.Prelude.{Err, codes, if◌then◌else◌}
use Rattle.std.specs.Str.{bytes_eq}
use Rattle.log4rs_encode.specs.Chunk.{field, date, mdc, Chunk, text, value, group, Chunks}
use Rattle.log4rs_encode.specs.Chunk.{no_chunks, chunk}
use Rattle.log4rs_base.specs.DateFormat.{Item, format_items}
use Rattle.log4rs_encode.specs.Syntax as syntax
use Rattle.log4rs_encode.specs.declared.pattern.chunk.Field.{Field}
use Rattle.log4rs_encode.specs.declared.pattern.chunk.Field.TheVariants.{Level, Message, Target}
use Rattle.log4rs_encode.specs.declared.pattern.chunk.Field.TheVariants.{ModulePath, File, Line}
use Rattle.log4rs_encode.specs.declared.pattern.chunk.Field.TheVariants.{Thread, ThreadId, Tid, Pid}
use Rattle.log4rs_encode.specs.declared.pattern.chunk.Field.TheVariants.{Newline}
use Rattle.log4rs_encode.specs.declared.pattern.chunk.Group.{Group}
use Rattle.log4rs_encode.specs.declared.pattern.chunk.Group.TheVariants.{Plain, Highlighted}
use Rattle.log4rs_encode.specs.declared.pattern.chunk.Group.TheVariants.{InDebug, InRelease}
use Rattle.log4rs_encode.specs.declared.pattern.chunk.Zone.{Zone}
use Rattle.log4rs_encode.specs.declared.pattern.chunk.Zone.TheVariants.{Utc, Local}
use Rattle.log4rs_encode.specs.declared.pattern.piece.Parameters.{Parameters}

abbrev pub error_text : List ℕ → List ℕ
error_text m = codes "{ERROR: " ++ m ++ codes "}"

-- an error is printed in its place
abbrev pub error : List ℕ → Chunk
error m = text (error_text m)

-- the name is the short one or the long one
abbrev pub is_either : List ℕ → List ℕ → List ℕ → Bool
is_either name short long = bytes_eq name short || bytes_eq name long

-- the formatters that print a value of the record or its context
abbrev pub field_named : List ℕ → Option Field
field_named name =
    if is_either name (codes "l") (codes "level") then Some Level
    else (if is_either name (codes "m") (codes "message") then Some Message
    else (if is_either name (codes "t") (codes "target") then Some Target
    else (if is_either name (codes "M") (codes "module") then Some ModulePath
    else (if is_either name (codes "f") (codes "file") then Some File
    else (if is_either name (codes "L") (codes "line") then Some Line
    else (if is_either name (codes "T") (codes "thread") then Some Thread
    else (if is_either name (codes "I") (codes "thread_id") then Some ThreadId
    else (if is_either name (codes "i") (codes "tid") then Some Tid
    else (if is_either name (codes "P") (codes "pid") then Some Pid
    else (if bytes_eq name (codes "n") then Some Newline
    else None))))))))))

-- the formatters that print their argument
abbrev pub group_named : List ℕ → Option Group
group_named name =
    if bytes_eq name [] then Some Plain
    else (if is_either name (codes "h") (codes "highlight") then Some Highlighted
    else (if is_either name (codes "D") (codes "debug") then Some InDebug
    else (if is_either name (codes "R") (codes "release") then Some InRelease
    else None)))

abbrev pub field_chunk : Field → syntax.Lists → Parameters → Chunk
field_chunk f syntax.no_lists ps = value (field f) ps
field_chunk f _ ps = error (codes "unexpected arguments")

-- a formatter with one argument, by the chunks of its arguments
abbrev pub group_chunk : Group → List Chunks → Parameters → Chunk
group_chunk g (cs ∷ []) ps = group g cs ps
group_chunk g _ ps = error (codes "expected exactly one argument")

-- the format of dates that the pieces of an argument write
abbrev pub piece_format : syntax.Piece → List ℕ
piece_format (syntax.text t) = t
piece_format (syntax.argument name lists ps) = error_text (codes "unexpected formatter")
piece_format (syntax.error m) = error_text m

abbrev pub written_format : syntax.Pieces → List ℕ
written_format syntax.no_pieces = []
written_format (syntax.piece p ps) = piece_format p ++ written_format ps

-- the zone that an argument begins with, or the chunk of an error
abbrev pub zone_named : syntax.Pieces → Result Zone Chunk
zone_named (syntax.piece (syntax.text z) ps) =
    if bytes_eq z (codes "utc") then Ok Utc
    else (if bytes_eq z (codes "local") then Ok Local
    else Err (error (codes "invalid timezone `" ++ z ++ codes "`")))
zone_named _ = Err (error (codes "invalid timezone"))

abbrev pub dated : Option (List Item) → Zone → Parameters → Chunk
dated (Some items) zone ps = value (date items zone) ps
dated None zone ps = error (codes "invalid date format")

abbrev pub date_value : List ℕ → Result Zone Chunk → Parameters → Chunk
date_value format (Ok zone) ps = dated (format_items format) zone ps
date_value format (Err c) ps = c

abbrev pub date_chunk : syntax.Lists → Parameters → Chunk
date_chunk syntax.no_lists ps = date_value (codes "%+") (Ok Local) ps
date_chunk (syntax.list f syntax.no_lists) ps = date_value (written_format f) (Ok Local) ps
date_chunk (syntax.list f (syntax.list z syntax.no_lists)) ps =
    date_value (written_format f) (zone_named z) ps
date_chunk _ ps = error (codes "expected at most two arguments")

-- the text that an argument begins with, or the text of an error
abbrev pub word : List ℕ → syntax.Pieces → Result (List ℕ) (List ℕ)
word otherwise (syntax.piece (syntax.text t) ps) = Ok t
word otherwise (syntax.piece (syntax.error m) ps) = Err m
word otherwise _ = Err otherwise

abbrev pub mdc_error : List ℕ → Chunk
mdc_error m = error (codes "MDC: " ++ m)

-- a value of the context, by its key and its default
abbrev pub mdc_value : Result (List ℕ) (List ℕ) → Result (List ℕ) (List ℕ) → Parameters → Chunk
mdc_value (Ok key) (Ok default) ps = value (mdc key default) ps
mdc_value (Ok key) (Err m) ps = mdc_error m
mdc_value (Err m) default ps = mdc_error m

abbrev pub mdc_chunk : syntax.Lists → Parameters → Chunk
mdc_chunk syntax.no_lists ps = mdc_error (codes "missing key")
mdc_chunk (syntax.list k syntax.no_lists) ps = mdc_value (word (codes "invalid key") k) (Ok []) ps
mdc_chunk (syntax.list k (syntax.list d syntax.no_lists)) ps =
    mdc_value (word (codes "invalid key") k) (word (codes "invalid default") d) ps
mdc_chunk _ ps = mdc_error (codes "expected at most two arguments")

abbrev pub other_chunk : List ℕ → syntax.Lists → Parameters → Chunk
other_chunk name lists ps =
    if is_either name (codes "d") (codes "date") then date_chunk lists ps
    else (if is_either name (codes "X") (codes "mdc") then mdc_chunk lists ps
    else (if is_either name (codes "K") (codes "key_value")
    then error (codes "The log_kv feature is required to parse the key_value argument")
    else error (codes "unknown formatter `" ++ name ++ codes "`")))

abbrev pub named_chunk : Option Field → List ℕ → syntax.Lists → Parameters → Chunk
named_chunk (Some f) name lists ps = field_chunk f lists ps
named_chunk None name lists ps = other_chunk name lists ps

-- a formatter, by the group that its name makes, its name, its arguments and their chunks
abbrev pub formatted_chunk : Option Group → List ℕ → syntax.Lists → List Chunks → Parameters → Chunk
formatted_chunk (Some g) name lists inner ps = group_chunk g inner ps
formatted_chunk None name lists inner ps = named_chunk (field_named name) name lists ps

-- the chunk of each piece
abbrev mutual
  pub chunk_of : syntax.Piece → Chunk
  chunk_of (syntax.text t) = text t
  chunk_of (syntax.error m) = error m
  chunk_of (syntax.argument name lists ps) =
      formatted_chunk (group_named name) name lists (chunk_lists lists) ps

  pub chunks_of : syntax.Pieces → Chunks
  chunks_of syntax.no_pieces = no_chunks
  chunks_of (syntax.piece p ps) = chunk (chunk_of p) (chunks_of ps)

  pub chunk_lists : syntax.Lists → List Chunks
  chunk_lists syntax.no_lists = []
  chunk_lists (syntax.list ps ls) = chunks_of ps ∷ chunk_lists ls
