-- Runs by the configuration that stands in a file.
use Rattle.std.specs.Prelude.{◌≡◌, ◌&&◌, ◌==◌, ℕ, Bool, not, List, Option, IfSome}
use Rattle.log4rs_base.specs.Text.{Text}
use Rattle.log4rs_build.specs.Begins.{Begins}
use Rattle.log4rs_command.specs.Arguments.{Plain}
use Rattle.log4rs_command.specs.Input.{lines_of}
use Rattle.log4rs_settings.specs.Answers.{Answered}
use Rattle.log4rs_settings.specs.Paths.{extension}
use Rattle.log4rs_settings.specs.Reload.{ReloaderState}
use Rattle.log4rs_settings.specs.Top.{TopSettings}
use Rattle.log4rs_command.specs.RunLines.{AreRead}

-- the text of a source asks for a configuration, in the format that a path names
pub record AsksFor (path : Text) (before : Answered) : Type 0 where
  pub top : TopSettings
  pub after : Answered
  pub again : Option ReloaderState
  pub begins : Begins (extension path) before after top again

-- a run that came to the end of its input:
-- the text of its source asks for its configuration, and all was well
-- where each line became a record, of no appender failed what it had left to do,
-- and none was left out
pub record LogsFile
    (path : Text) (given : Option Plain) (before : Answered)
    (input : Option (List ℕ)) (all_well : Bool) : Type 0 where
  pub asked : AsksFor path before
  pub lines : List Text
  pub of_input : IfSome input (λ bytes. lines ≡ lines_of bytes)
  pub all_read : Bool
  pub failed : ℕ
  pub left_out : Bool
  pub read : AreRead given lines all_read
  pub well : all_well ≡ (all_read && (failed == 0) && not left_out)
