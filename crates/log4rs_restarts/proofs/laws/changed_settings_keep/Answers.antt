use Rattle.log4rs_restarts.proofs.Widening.{behind, one_gap_each, suffix_join, suffix_lowered, suffix_raised}
use Rattle.log4rs_restarts.proofs.laws.changed_settings_keep.Goals as goal

pub returns : goal.returns
returns c = record { same = suffix_join; raised = suffix_raised; lowered = suffix_lowered; hidden = behind; gap = one_gap_each }
