-- Why the configuration of a file is not loaded.
use Rattle.std.specs.Prelude.{◌≡◌, Option, Some, None, string_bytes, ⊤}
use Rattle.log4rs_base.specs.Text.{Text}
use Rattle.log4rs_build.specs.Loading.{RefusesToRead}
use Rattle.log4rs_build.specs.declared.error.InitError.{InitError}
use Rattle.log4rs_build.specs.declared.error.InitError.TheVariants as init
use Rattle.log4rs_build.specs.declared.error.FileError.{FileError}
use Rattle.log4rs_build.specs.declared.error.FileError.TheVariants.{Read, Refused, Thread, Memory}
use Rattle.log4rs_settings.specs.Answers.{Answered}
use Rattle.log4rs_settings.specs.Paths.{extension}
use Rattle.log4rs_settings.specs.declared.source.SourceError.{SourceError}

-- the path that a fault names; want of memory names none
abbrev pub path_of : FileError → Option Text
path_of (Read path _) = Some (string_bytes path)
path_of (Refused path _) = Some (string_bytes path)
path_of Thread = None
path_of Memory = None

-- a fault as the refusal of the file at a path; want of memory may stand for any
abbrev pub IsRefusalOf : Text → InitError → FileError → Type 0
IsRefusalOf path fault (Read named _) =
    (string_bytes named ≡ path) × (said : SourceError) × (fault ≡ init.Read said)
IsRefusalOf path fault (Refused named refused) =
    (string_bytes named ≡ path) × (refused ≡ fault)
IsRefusalOf path fault Thread = ⊥
IsRefusalOf path fault Memory = ⊤

-- why the file at a path is not loaded: it is refused for what its text says, or for none
abbrev pub RefusesFile : Text → Answered → Answered → FileError → Type 0
RefusesFile path before after error =
    (fault : InitError)
    × RefusesToRead (extension path) before after fault
    × IsRefusalOf path fault error
