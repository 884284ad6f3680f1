use Rattle.log4rs_settings.proofs.Runs.{IsCharBoundary-after_leading}
use Rattle.log4rs_settings.proofs.units.split_leading.Goals as goal

pub split_at-requires : goal.split_at-requires
split_at-requires c = rw c.leading_len.ensures (IsCharBoundary-after_leading c.args.class c.args.text.now c.utf8.text)
