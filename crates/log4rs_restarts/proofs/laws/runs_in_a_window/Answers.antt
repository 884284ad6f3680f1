use Rattle.log4rs_restarts.specs.RollingSettings.{archive_name, keeping_of, path_of}
use Rattle.log4rs_restarts.proofs.Windowed.{runs_over, window_fresh}
use Rattle.log4rs_restarts.proofs.laws.runs_in_a_window.Goals as goal

pub returns : goal.returns
returns c =
    λ settings reading runs reports old new did.
    let path = path_of settings in
    runs_over settings.trigger reading (keeping_of settings) path runs reports old new (window_fresh (archive_name settings) settings.base settings.count settings.rename_only settings.background path) did
