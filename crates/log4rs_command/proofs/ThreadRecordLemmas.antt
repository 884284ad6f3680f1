-- What the pieces of the pattern print.
use Rattle.std.proofs.Common.{◌≡◌, List, ℕ, ◌++◌, ap, ◌∙◌}
use Rattle.std.proofs.lemmas.List.{append-nil}
use Rattle.std.specs.Prelude.{codes, string_bytes}
use Rattle.log4rs_base.specs.declared.record.Context.{Context}
use Rattle.log4rs_base.specs.declared.record.Record.{Record}
use Rattle.log4rs_encode.specs.Rendering.{rendered_all}
use Rattle.log4rs_encode.specs.Table.{chunks_of}
use Rattle.log4rs_encode.specs.Runs.{plain_bytes}
use Rattle.log4rs_command.specs.ThreadRecords.{line_pieces, line_of}

pub printed : (logged : Record) (context : Context) → plain_bytes (rendered_all logged context (chunks_of line_pieces)) ≡ line_of logged
printed logged context =
    ap (λ (bs : List ℕ). string_bytes logged.target ++ (codes " " ++ bs)) (append-nil (string_bytes logged.message))

pub line_of_parts : (target told message digits : List ℕ) → target ≡ told → message ≡ digits
    → target ++ (codes " " ++ message) ≡ told ++ (codes " " ++ digits)
line_of_parts target told message digits is_target is_message =
    ap (λ (bs : List ℕ). bs ++ (codes " " ++ message)) is_target ∙ ap (λ (bs : List ℕ). told ++ (codes " " ++ bs)) is_message
