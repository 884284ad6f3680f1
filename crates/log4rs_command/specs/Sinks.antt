-- The sink of the appender.
use Rattle.std.specs.Prelude.{◌≡◌, ℕ, List, [], ◌∷◌, Option, Some, None}
use Rattle.log4rs_base.specs.declared.record.Context.{Context}
use Rattle.log4rs_base.specs.declared.record.Record.{Record}
use Rattle.log4rs_append.specs.Sink.{Sink, Texts, Items, items_sink}
use Rattle.log4rs_base.specs.Text.{Text}
use Rattle.log4rs_encode.specs.Rendering.{Renders}
use Rattle.log4rs_encode.specs.Runs.{Run}

-- the items of a sink, where they are told
abbrev pub items_in : Texts → Option (List Text)
items_in (Items reading held) = Some held
items_in _ = None

-- the items of the only sink, where they are told
abbrev pub held_in : List Sink → Option (List Text)
held_in (sink ∷ []) = items_in sink.texts
held_in _ = None

-- a sink that holds nothing yet, and in which records read as a pattern, by its characters, says
abbrev pub IsEmptySink : List ℕ → Sink → Type 0
IsEmptySink pattern sink =
    (told : Option (Record → Context → List Run))
    × Renders pattern told
    × (sink ≡ items_sink told [])
