use Rattle.std.proofs.Common.{◌≡◌, ◌++◌}
use Rattle.log4rs_base.specs.Line.{text_members}
use Rattle.log4rs_base.specs.Written.{tokens_of}
use Rattle.log4rs_base.proofs.json_lines.members.put_entries.Given as goal

abbrev pub invariant-loop-key : goal.invariant-loop-key
invariant-loop-key l =
    (l.out.before ≡ l.initial.out.before)
    × (l.out.tokens ++ tokens_of (text_members l.key-iterator) ≡ l.initial.out.tokens ++ tokens_of (text_members l.texts.entries))
