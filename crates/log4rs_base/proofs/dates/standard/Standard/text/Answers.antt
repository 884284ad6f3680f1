use Rattle.std.proofs.Common.{string_bytes}
use Rattle.log4rs_base.proofs.ShownByJiff.{shown_as_text}
use Rattle.log4rs_base.proofs.dates.standard.Standard.text.Goals as goal

pub returns-in-Ok : goal.returns-in-Ok
returns-in-Ok c =
    shown_as_text c.args.self c.args.clock.now c.new.result c.format.result.now c.parts.result (string_bytes c.in-Ok.text)
    c.requires c.parts.ensures.month_in c.parts.ensures.parts c.new.ensures.locale c.new.ensures.strict c.format.ensures c.in-Ok.ensures.ok
