use Rattle.std.proofs.Common.{[], refl, subst}
use Rattle.std.specs.Prelude.{codes}
use Rattle.log4rs_encode.specs.Syntax.{text}
use Rattle.log4rs_encode.specs.Spelling.{Spells, max_nesting}
use Rattle.guide.proofs.direct.line.line_is_spelled.Goals as goal

pub returns : goal.returns
returns c =
    let laws = c.literal_pieces.ensures in
    let space : Spells max_nesting (codes " {t} - {m}{n}") (text (codes " ")) (codes "{t} - {m}{n}") =
    subst (λ bs. Spells max_nesting (codes " {t} - {m}{n}") (text bs) (codes "{t} - {m}{n}")) (laws.ascii (codes " ") refl)
    (laws.plain max_nesting 32 [] (codes "{t} - {m}{n}") refl refl) in
    let dash : Spells max_nesting (codes " - {m}{n}") (text (codes " - ")) (codes "{m}{n}") =
    subst (λ bs. Spells max_nesting (codes " - {m}{n}") (text bs) (codes "{m}{n}")) (laws.ascii (codes " - ") refl)
    (laws.plain max_nesting 32 (codes "- ") (codes "{m}{n}") refl refl) in (
      codes " {t} - {m}{n}",
      laws.formatter max_nesting 108 [] (codes "} {t} - {m}{n}") (codes " {t} - {m}{n}") refl refl refl,
      (
        codes "{t} - {m}{n}",
        space,
        (
          codes " - {m}{n}",
          laws.formatter max_nesting 116 [] (codes "} - {m}{n}") (codes " - {m}{n}") refl refl refl,
          (
            codes "{m}{n}",
            dash,
            (
              codes "{n}",
              laws.formatter max_nesting 109 [] (codes "}{n}") (codes "{n}") refl refl refl,
              ([], laws.formatter max_nesting 110 [] (codes "}") [] refl refl refl, refl),
            ),
          ),
        ),
      ),
    )
