-- What runs of rolling settings did.
use Rattle.std.specs.Prelude.{◌≡◌, ◌≢◌, ◌⊎◌, List, Option, None, [], string_bytes}
use Rattle.std.specs.Str.{chars}
use Rattle.log4rs_append.specs.Sink.{plain_reading}
use Rattle.log4rs_rolling.specs.Disk.{Disk}
use Rattle.log4rs_encode.specs.Encoders.{ToldRendering}
use Rattle.log4rs_encode.specs.Rendering.{Renders}
use Rattle.log4rs_rolling.specs.Appends.{Reading}
use Rattle.log4rs_restarts.specs.RollingSettings.{path_of, keeping_of, refusal_of}
use Rattle.log4rs_restarts.specs.Failures.{AreRefused}
use Rattle.log4rs_restarts.specs.ActsDone.{DidRuns}
use Rattle.log4rs_restarts.specs.Triggers.{Begins}
use Rattle.log4rs_restarts.specs.Reports.{AreReported, NoCounts}
use Rattle.log4rs_restarts.specs.declared.run.Run.{Run}
use Rattle.log4rs_restarts.specs.declared.run.RunReport.{RunReport}
use Rattle.log4rs_restarts.specs.declared.rolling_settings.RollingSettings.{RollingSettings}

-- the text of a record is the plain text of what the encoder's pattern renders
pub record IsReading (settings : RollingSettings) (reading : Option Reading) : Type 0 where
  pub told : ToldRendering
  pub renders : Renders (chars (string_bytes settings.encoder_pattern)) told
  pub is : reading ≡ plain_reading told

-- what runs of these settings did
abbrev pub RanBy : RollingSettings → List Run → List RunReport → Disk → Disk → Type 0
RanBy settings runs reports old new =
    (reading : Option Reading)
    × IsReading settings reading
    × DidRuns (Begins settings.trigger) reading (keeping_of settings) (path_of settings) runs
    reports old new

-- a report without a result
pub record IsEmpty (report : RunReport) : Type 0 where
  pub outcomes : report.outcomes.items ≡ []
  pub answers : report.answers.items ≡ []
  pub counts : NoCounts report

-- the pattern, the window or the trigger of these settings is refused
abbrev pub AreUnfit : RollingSettings → Type 0
AreUnfit settings = (refusal_of settings ≢ None) ⊎ AreRefused settings.trigger

-- what runs of these settings report
abbrev pub AreReportedBy : RollingSettings → List Run → List RunReport → Disk → Disk → Type 0
AreReportedBy settings runs reports old new =
    (reading : Option Reading)
    × (refusal_of settings ≡ None → IsReading settings reading)
    × AreReported (AreUnfit settings) reading runs reports old new
