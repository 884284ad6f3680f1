use Rattle.std.proofs.Common.{◌≡◌, length, true, ap, sym, ◌∙◌}
use Rattle.std.specs.List.{list_all}
use Rattle.std.proofs.lemmas.Iterator.Consumers.{count_from_yields_List}
use Rattle.unicode_segmentation.proofs.SegmentsLemmas.{YieldsList-from_gives}
use Rattle.log4rs_encode.specs.Fit.{is_printable}
use Rattle.log4rs_encode.proofs.Cells.{width_text}
use Rattle.log4rs_encode.proofs.Printable.{width_printable}
use Rattle.log4rs_encode.proofs.pattern.fit.text_width.Goals as goal

pub returns-then-is_printable : goal.returns-then-is_printable
returns-then-is_printable c =
    let shown : list_all is_printable c.args.text.now ≡ true = sym c.is_printable.ensures ∙ c.if-is_printable.true in
    width_printable c.args.text.now shown

pub returns : goal.returns
returns c =
    count_from_yields_List _ _ c.count.ensures.ran (YieldsList-from_gives _ _ c.graphemes.result) ∙ ap length c.graphemes.ensures.left ∙ width_text _
