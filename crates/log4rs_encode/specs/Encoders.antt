-- What an encoder renders.
use Rattle.std.specs.Prelude.{List, Option, Result}
use Rattle.log4rs_base.specs.declared.record.Context.{Context}
use Rattle.log4rs_base.specs.declared.record.Record.{Record}
use Rattle.log4rs_base.specs.declared.error.LogError.{LogError}
use Rattle.log4rs_encode.specs.declared.encoder.EncoderOf.{EncoderOf}
use Rattle.log4rs_encode.specs.declared.encoder.EncoderOf.TheVariants.{Pattern, Json, Custom}
use Rattle.log4rs_encode.specs.declared.json.JsonEncoder.{JsonEncoder}
use Rattle.log4rs_encode.specs.declared.pattern.PatternEncoder.{PatternEncoder}
use Rattle.log4rs_encode.specs.Runs.{Run}

-- what a record and its context are rendered as, where that is told
abbrev pub ToldRendering : Type 0
ToldRendering = Option (Record → Context → List Run)

-- an encoder renders as the one that it holds
abbrev pub rendering_of : {C : Type 0} → (PatternEncoder → ToldRendering)
    → (JsonEncoder → ToldRendering) → (C → ToldRendering) → EncoderOf C → ToldRendering
rendering_of pattern json custom (Pattern e) = pattern e
rendering_of pattern json custom (Json e) = json e
rendering_of pattern json custom (Custom c) = custom c

-- which answers an encoder may give for a record and its context
abbrev pub ToldAnswers : Type 1
ToldAnswers = Record → Context → Result Unit LogError → Type 0

-- an encoder answers as the one that it holds
abbrev pub answers_of : {C : Type 0} → (PatternEncoder → ToldAnswers)
    → (JsonEncoder → ToldAnswers) → (C → ToldAnswers) → EncoderOf C → ToldAnswers
answers_of pattern json custom (Pattern e) = pattern e
answers_of pattern json custom (Json e) = json e
answers_of pattern json custom (Custom c) = custom c
