use Rattle.std.proofs.Common.{◌≡◌, ◌++◌, replicate, encode_utf8, string_bytes}
use Rattle.std.specs.List.{concat}
use Rattle.log4rs_encode.proofs.pattern.fit.add_fill.Given as goal

abbrev pub invariant-loop-done : goal.invariant-loop-done
invariant-loop-done l = string_bytes l.text ≡ string_bytes l.initial.text ++ concat (replicate l._done (encode_utf8 l.fill))
