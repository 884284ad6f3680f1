use Rattle.std.proofs.Common.{ap, string_bytes}
use Rattle.log4rs_rolling.specs.Roller.{fixed_window}
use Rattle.log4rs_rolling.proofs.Cloning.{same_names}
use Rattle.log4rs_rolling.proofs.fixed_window.builder.FixedWindowRollerBuilder.build.Goals as goal

pub returns-clause-kept : goal.returns-clause-kept
returns-clause-kept c =
    ap (λ name. fixed_window name c.args.self.base c.args.count c.args.self.rename_only c.args.self.background)
    (same_names c.args.pattern.now (string_bytes c.in_ok-from_str.field-0) c.args.env.now c.in_ok-clone.field-0 c.in_ok-from_str.ensures.ok c.in_ok-clone.ensures.cases)
