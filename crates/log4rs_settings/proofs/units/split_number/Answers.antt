use Rattle.std.proofs.Common.{sym}
use Rattle.log4rs_settings.proofs.Numbers.{number_told-none}
use Rattle.log4rs_settings.proofs.units.split_number.Goals as goal

pub returns-in-Err-clause-number : goal.returns-in-Err-clause-number
returns-in-Err-clause-number c =
    sym (number_told-none c.args.text.now c.in-Err.field-0 (rw c.split_leading.ensures.front at c.in-Err.ensures.value.0))
