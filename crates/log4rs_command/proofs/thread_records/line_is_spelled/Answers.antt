use Rattle.std.proofs.Common.{[], refl, subst}
use Rattle.std.specs.Prelude.{codes}
use Rattle.log4rs_encode.specs.Spelling.{Spells, max_nesting}
use Rattle.log4rs_encode.specs.Syntax.{text}
use Rattle.log4rs_command.proofs.thread_records.line_is_spelled.Goals as goal

pub returns : goal.returns
returns c =
    let laws = c.literal_pieces.ensures in
    let space : Spells max_nesting (codes " {m}") (text (codes " ")) (codes "{m}") =
    subst (λ bs. Spells max_nesting (codes " {m}") (text bs) (codes "{m}")) (laws.ascii (codes " ") refl) (laws.plain max_nesting 32 [] (codes "{m}") refl refl) in (
      codes " {m}",
      laws.formatter max_nesting 116 [] (codes "} {m}") (codes " {m}") refl refl refl,
      (codes "{m}", space, ([], laws.formatter max_nesting 109 [] (codes "}") [] refl refl refl, refl)),
    )
