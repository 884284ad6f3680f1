use Rattle.std.proofs.Common.{refl}
use Rattle.log4rs_base.proofs.paths.env.all_follow.Goals as goal

pub loop-c-init : goal.loop-c-init
loop-c-init c = (c.utf8.text, refl)
