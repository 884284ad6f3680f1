use Rattle.log4rs_restarts.proofs.Promising.{archives_kept, window_kept}
use Rattle.log4rs_restarts.proofs.laws.roller_keeps_the_window.Goals as goal

pub returns-clause-archives : goal.returns-clause-archives
returns-clause-archives c = archives_kept

pub returns-clause-window : goal.returns-clause-window
returns-clause-window c = window_kept
