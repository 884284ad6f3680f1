-- What a pattern prints for a record.
use Rattle.std.specs.Prelude.{◌≡◌, ℕ, Bool, true, not, List, [], ◌∷◌, ◌++◌, Option, Some, None}
use Rattle.std.specs.Prelude.{codes, unwrap_or, option_map, string_bytes, if◌then◌else◌}
use Rattle.std.specs.BTreeMap.{get_by_text}
use Rattle.std.specs.Fmt.{decimal}
use Rattle.log.specs.Level.{level_name}
use Rattle.log.specs.declared.level.Level as levels
use Rattle.log.specs.declared.level.Level.TheVariants as level
use Rattle.log4rs_base.specs.declared.record.Context.{Context}
use Rattle.log4rs_base.specs.declared.record.Record.{Record}
use Rattle.log4rs_encode.specs.Chunk.{Value, field, date, mdc, Chunk, text, value, group, Chunks}
use Rattle.log4rs_encode.specs.Chunk.{no_chunks, chunk}
use Rattle.jiff.specs.Words.{plain_zone}
use Rattle.log4rs_base.specs.Clock.{ClockFields, local_clock, utc_clock}
use Rattle.log4rs_base.specs.DateFormat.{Item, items_text}
use Rattle.log4rs_encode.specs.Fit.{fitted}
use Rattle.log4rs_encode.specs.Runs as runs
use Rattle.log4rs_encode.specs.Spelling.{IsPattern}
use Rattle.log4rs_encode.specs.Syntax.{Pieces}
use Rattle.log4rs_encode.specs.Table.{error_text, chunks_of}
use Rattle.log4rs_encode.specs.declared.pattern.chunk.Field.{Field}
use Rattle.log4rs_encode.specs.declared.pattern.chunk.Field.TheVariants.{Level, Message, Target}
use Rattle.log4rs_encode.specs.declared.pattern.chunk.Field.TheVariants.{ModulePath, File, Line}
use Rattle.log4rs_encode.specs.declared.pattern.chunk.Field.TheVariants.{Thread, ThreadId, Tid, Pid}
use Rattle.log4rs_encode.specs.declared.pattern.chunk.Field.TheVariants.{Newline}
use Rattle.log4rs_encode.specs.declared.pattern.chunk.Group.{Group}
use Rattle.log4rs_encode.specs.declared.pattern.chunk.Group.TheVariants.{Plain, Highlighted}
use Rattle.log4rs_encode.specs.declared.pattern.chunk.Group.TheVariants.{InDebug, InRelease}
use Rattle.log4rs_encode.specs.declared.pattern.chunk.Zone.{Zone}
use Rattle.log4rs_encode.specs.declared.pattern.chunk.Zone.TheVariants.{Utc, Local}
use Rattle.log4rs_encode.specs.declared.styles.Style.{Style}
use Rattle.log4rs_encode.specs.declared.styles.Color.TheVariants.{Red, Yellow, Green, Cyan}

-- the text of a field of the record or its context
abbrev pub field_text : Record → Context → Field → List ℕ
field_text r c Level = level_name r.level
field_text r c Message = string_bytes r.message
field_text r c Target = string_bytes r.target
field_text r c ModulePath = unwrap_or (option_map string_bytes r.module_path) (codes "???")
field_text r c File = unwrap_or (option_map string_bytes r.file) (codes "???")
field_text r c Line = unwrap_or (option_map decimal r.line) (codes "???")
field_text r c Thread = unwrap_or (option_map string_bytes c.thread) (codes "unnamed")
field_text r c ThreadId = decimal c.thread_id
field_text r c Tid = decimal c.tid
field_text r c Pid = decimal c.pid
field_text r c Newline = codes "\n"

-- what a clock shows at the moment of the context
abbrev pub clock_in : Zone → Context → ClockFields
clock_in Utc c = utc_clock c.moment.nanosecond
clock_in Local c = local_clock (plain_zone c.zone) c.moment.nanosecond

-- the text of a date, or that its year has none
abbrev pub shown_date : List Item → ClockFields → List ℕ
shown_date items clock = unwrap_or (items_text items clock) (error_text (codes "year out of range"))

abbrev pub value_text : Record → Context → Value → List ℕ
value_text r c (field f) = field_text r c f
value_text r c (date items zone) = shown_date items (clock_in zone c)
value_text r c (mdc key default) =
    unwrap_or (option_map string_bytes (get_by_text c.mdc key)) default

-- how a level is highlighted
abbrev pub level_style : levels.Level → Option Style
level_style level.Error = Some (record { text = Some Red; background = None; intense = Some true })
level_style level.Warn = Some (record { text = Some Yellow; background = None; intense = None })
level_style level.Info = Some (record { text = Some Green; background = None; intense = None })
level_style level.Debug = None
level_style level.Trace = Some (record { text = Some Cyan; background = None; intense = None })

abbrev pub default_style : Style
default_style = record { text = None; background = None; intense = None }

-- the runs between a style and the default style
abbrev pub highlighted : Option Style → List runs.Run → List runs.Run
highlighted None rs = rs
highlighted (Some s) rs = runs.style s ∷ (rs ++ runs.style default_style ∷ [])

abbrev pub where_shown : Bool → List runs.Run → List runs.Run
where_shown is_shown rs = if is_shown then rs else []

abbrev pub grouped : Group → Record → Context → List runs.Run → List runs.Run
grouped Plain r c rs = rs
grouped Highlighted r c rs = highlighted (level_style r.level) rs
grouped InDebug r c rs = where_shown c.debug rs
grouped InRelease r c rs = where_shown (not c.debug) rs

-- the runs of a chunk, and of several, one after another
abbrev mutual
  pub rendered : Record → Context → Chunk → List runs.Run
  rendered r c (text t) = runs.text t ∷ []
  rendered r c (value v ps) = fitted ps (runs.text (value_text r c v) ∷ [])
  rendered r c (group g cs ps) = fitted ps (grouped g r c (rendered_all r c cs))

  pub rendered_all : Record → Context → Chunks → List runs.Run
  rendered_all r c no_chunks = []
  rendered_all r c (chunk p ps) = rendered r c p ++ rendered_all r c ps

-- what the chunks print
abbrev pub pattern_runs : Chunks → Record → Context → List runs.Run
pattern_runs chunks r c = runs.join (rendered_all r c chunks)

-- a pattern, by its characters, renders as the chunks of its pieces
pub record Renders
    (pattern : List ℕ) (told : Option (Record → Context → List runs.Run)) : Type 0 where
  pub pieces : Pieces
  pub spelled : IsPattern pattern pieces
  pub renders : told ≡ Some (pattern_runs (chunks_of pieces))
