use Rattle.std.proofs.Common.{sym, ◌∙◌}
use Rattle.std.proofs.lemmas.Str.{IsUtf8-past_char}
use Rattle.log4rs_encode.proofs.Scanned.{Passed-none, Passed-more}
use Rattle.log4rs_encode.proofs.pattern.scan.skip.Goals as goal

pub loop-c-init : goal.loop-c-init
loop-c-init c = (c.utf8.text, Passed-none _ _)

pub loop-c-preserved : goal.loop-c-preserved
loop-c-preserved c = (
  IsUtf8-past_char _ _ _ c.loop-c.invariant.0 c.in-Some.ensures.bytes,
  Passed-more _ _ _ _ c.in-Some.c (sym c.has.ensures ∙ c.if-not-has.false) c.loop-c.invariant.1 c.in-Some.ensures.bytes c.in-Some.ensures.chars,
)
