use Rattle.std.proofs.Common.{map, string_bytes, take}
use Rattle.std.specs.Io.KnownBytes.{Appends}
use Rattle.std.specs.List.{concat}
use Rattle.log4rs_command.proofs.memory.print_all.Given as goal

abbrev pub invariant-loop-text : goal.invariant-loop-text
invariant-loop-text g l =
    Appends (g.O.Write.contents l.initial.out) (g.O.Write.contents l.out) (concat (map (λ text. string_bytes text) (take l.text-index l.texts)))
