-- The texts of an encoder.
use Rattle.std.specs.Prelude.{◌≡◌, ◌⊎◌, ℕ, List, Result, Ok, Err, Bool, if◌then◌else◌}
use Rattle.std.specs.Option.{option_map_or}
use Rattle.log4rs_base.specs.declared.record.Record.{Record}
use Rattle.log4rs_base.specs.declared.record.Context.{Context}
use Rattle.log4rs_base.specs.declared.error.LogError.{LogError}
use Rattle.log4rs_base.specs.declared.error.LogError.TheVariants.{Memory}
use Rattle.log4rs_rolling.specs.Appends.{Failing}
use Rattle.log4rs_encode.specs.Runs.{only_text, Run, plain_bytes}
use Rattle.log4rs_append.specs.declared.texts.TextBuffer.{TextBuffer}
use Rattle.log4rs_base.specs.Text.{Text}
use Rattle.log4rs_encode.specs.Ansi.{ansi_bytes}

-- the text that a buffer was made to hold last
abbrev pub made_in : TextBuffer → List ℕ
made_in buffer = option_map_or (λ t. t) (only_text buffer.styled) buffer.bytes.items

-- the result of a call whose encoder has these results: Ok after its Ok; its error, and then all
-- stays; or an own error after its Ok
abbrev pub AnsweredBy : (Result Unit LogError → Type 0) → Type 0 → (LogError → Type 0)
    → Result Unit LogError → Type 0
AnsweredBy answers Stays own (Ok u) = answers (Ok u)
AnsweredBy answers Stays own (Err fault) =
    (answers (Err fault) × Stays) ⊎ (answers (Ok tt) × own fault)

-- the errors of a maker of texts by such an encoder: the encoder's, or `Memory` after its Ok
abbrev pub fails_by : (Record → Context → Result Unit LogError → Type 0) → Failing
fails_by answers r c fault =
    AnsweredBy (answers r c) (Unit {0}) (λ fault. fault ≡ Memory) (Err fault)

-- with its styles, as a terminal shows them, or without
abbrev pub shown_bytes : Bool → List Run → Text
shown_bytes color runs = if color then ansi_bytes runs else plain_bytes runs
