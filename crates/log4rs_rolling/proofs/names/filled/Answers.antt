use Rattle.std.proofs.Common.{refl, string_bytes}
use Rattle.std.proofs.lemmas.Result.{IfOk-weaker}
use Rattle.log4rs_rolling.proofs.Filling.{replaced}
use Rattle.log4rs_rolling.proofs.names.filled.Goals as goal

pub returns : goal.returns
returns c =
    IfOk-weaker c.replace.result _ _
    (λ text made. replaced c.args.text.now made.0 _ c.args.pattern.now (string_bytes text) refl made.1)
    c.replace.ensures.ok
