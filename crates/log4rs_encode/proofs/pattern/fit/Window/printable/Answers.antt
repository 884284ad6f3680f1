use Rattle.std.proofs.Common.{◌≡◌, min, ◌-◌, length, arith}
use Rattle.std.proofs.lemmas.Result.{on_ok_weaker}
use Rattle.log4rs_encode.proofs.Fitted.{pushed_range}
use Rattle.log4rs_encode.proofs.pattern.fit.Window.printable.Goals as goal

pub returns : goal.returns
returns c =
    let t = c.args.text.now in
    let from : c.min-from.result ≡ min c.args.self.now.skip (length t) = (let a = c.min-from.ensures in grind (arith, a)) in
    let count : c.min-count.result ≡ min c.args.self.now.keep (length t - c.min-from.result) = (let a = c.min-count.ensures in grind (arith, a)) in
    on_ok_weaker c.push_text.result (λ e. pushed_range c.args.kept.now c.push_text.new.self t c.range.result.now c.args.self.now.skip c.args.self.now.keep
    c.min-from.result c.min-count.result c.requires from count c.range.ensures.value e) c.push_text.ensures.ok
