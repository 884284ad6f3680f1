use Rattle.std.proofs.Common.{◌≡◌, ◌++◌, string_bytes}
use Rattle.log4rs_encode.specs.Runs.{plain_bytes}
use Rattle.log4rs_encode.proofs.runs.Styled.to_text.Given as goal

abbrev pub invariant-loop-run : goal.invariant-loop-run
invariant-loop-run l = string_bytes l.text ++ plain_bytes l.run-iterator ≡ plain_bytes l.self
