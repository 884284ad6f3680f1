-- Why a run does not open its file.
use Rattle.std.specs.Prelude.{ℕ, Result, Err}
use Rattle.log4rs_rolling.specs.Disk.{Grew}
use Rattle.log4rs_base.specs.Interval.{HasNumber}
use Rattle.log4rs_restarts.specs.declared.settings.TriggerSettings.{TriggerSettings}
use Rattle.log4rs_restarts.specs.declared.settings.TriggerSettings.TheVariants.{Size, OnStartUp, Time}
use Rattle.log4rs_restarts.specs.declared.run.OpeningError.{OpeningError}
use Rattle.log4rs_restarts.specs.declared.run.OpeningError.TheVariants.{Settings, Store, Memory}

-- the number of an interval is below 1
abbrev pub AreRefused : TriggerSettings → Type 0
AreRefused (Size limit) = ⊥
AreRefused (OnStartUp min_size) = ⊥
AreRefused (Time config) = ¬ (HasNumber config.interval)

-- why an opening may fail in which the count of refusals went from one number to another
abbrev pub MayFail : Type 0 → ℕ → ℕ → OpeningError → Type 0
MayFail Refused before now Settings = Refused
MayFail Refused before now Store = Grew before now
MayFail Refused before now Memory = Unit {0}

-- the settings were refused
abbrev pub refused_settings : Result Unit OpeningError
refused_settings = Err Settings
