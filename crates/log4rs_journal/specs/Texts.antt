-- The text that a pattern makes of a record.
use Rattle.std.specs.Prelude.{◌≡◌, ℕ, List, Some}
use Rattle.log4rs_base.specs.Text.{Text}
use Rattle.log4rs_base.specs.declared.record.Context.{Context}
use Rattle.log4rs_base.specs.declared.record.Record.{Record}
use Rattle.log4rs_encode.specs.Rendering.{Renders}
use Rattle.log4rs_encode.specs.Runs.{Run, plain_bytes}

-- a pattern, by its characters, makes this text of a record and its context:
-- the plain text of what it renders
pub record IsTextOf
    (pattern : List ℕ) (logged : Record) (context : Context) (text : Text) : Type 0 where
  pub runs : Record → Context → List Run
  pub renders : Renders pattern (Some runs)
  pub plain : text ≡ plain_bytes (runs logged context)
