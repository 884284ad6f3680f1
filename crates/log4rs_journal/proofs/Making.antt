-- The text of a record, made of what its pattern renders.
use Rattle.std.proofs.Common.{◌≡◌, ℕ, List, [], ◌++◌, Some, ap, ◌∙◌}
use Rattle.log4rs_base.specs.declared.record.Context.{Context}
use Rattle.log4rs_base.specs.declared.record.Record.{Record}
use Rattle.log4rs_encode.specs.Rendering.{Renders}
use Rattle.log4rs_encode.proofs.Bytes.{plain_bytes-join}
use Rattle.log4rs_encode.specs.Runs.{Run, join, plain_bytes}
use Rattle.log4rs_journal.specs.Texts.{IsTextOf}

pub text_made : (pattern : List ℕ) (rendering : Record → Context → List Run) (logged : Record) (context : Context) (none styled : List Run) (text : List ℕ)
    → Renders pattern (Some rendering) → none ≡ [] → styled ≡ join (none ++ rendering logged context) → text ≡ plain_bytes styled
    → IsTextOf pattern logged context text
text_made pattern rendering logged context none styled text renders empty added plain = record {
  runs = rendering;
  renders = renders;
  plain =
      plain ∙ ap plain_bytes (added ∙ ap (λ (rs : List Run). join (rs ++ rendering logged context)) empty)
      ∙ plain_bytes-join (rendering logged context);
}
