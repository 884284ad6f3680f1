use Rattle.std.proofs.Common.{◌≡◌, min, arith}
use Rattle.log4rs_encode.proofs.pattern.fit.missing.Goals as goal

pub returns : goal.returns
returns c =
    let less : c.min.result ≡ min c.args.width c.unwrap_or-greatest.result = (let a = c.min.ensures in grind (arith, a)) in
    omega (arith, c.saturating_sub.ensures, less, c.unwrap_or-greatest.ensures, c.unwrap_or-least.ensures)
