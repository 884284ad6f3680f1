use Rattle.std.proofs.Common.{ap, string_bytes}
use Rattle.log4rs_rolling.specs.Roller.{fixed_window}
use Rattle.log4rs_rolling.proofs.Cloning.{same_names}
use Rattle.log4rs_rolling.proofs.fixed_window.FixedWindowRoller.again.Goals as goal

pub returns-clause-kept : goal.returns-clause-kept
returns-clause-kept c =
    let self = c.args.self.now in
    ap (λ name. fixed_window name self.base self.count self.rename_only self.background)
    (same_names (string_bytes self.pattern) (string_bytes c.in_ok-clone.field-0) self.env c.in_ok-clone-2.field-0 c.in_ok-clone.ensures.cases c.in_ok-clone-2.ensures.cases)
