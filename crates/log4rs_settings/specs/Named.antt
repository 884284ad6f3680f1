-- The format that an extension names.
use Rattle.std.specs.Prelude.{ℕ, List, Option, Some, None, Result, Ok, Err, codes, string_bytes}
use Rattle.std.specs.Prelude.{if◌then◌else◌}
use Rattle.std.specs.Str.{bytes_eq}
use Rattle.log4rs_settings.specs.declared.text.Format.{Format}
use Rattle.log4rs_settings.specs.declared.text.Format.TheVariants.{Json, Toml}
use Rattle.log4rs_settings.specs.declared.formats.FormatError.{FormatError}
use Rattle.log4rs_settings.specs.declared.formats.FormatError.TheVariants as error

-- why an extension names no format that is read; with no memory that cannot be told
pub data Fault : Type 0 where
  no_yaml : Fault
  no_json : Fault
  no_toml : Fault
  unsupported : List ℕ → Fault
  unknown : Fault
  no_memory : Fault

-- the fault that an error tells
abbrev pub fault_of : FormatError → Fault
fault_of error.YamlFeatureFlagRequired = no_yaml
fault_of error.JsonFeatureFlagRequired = no_json
fault_of error.TomlFeatureFlagRequired = no_toml
fault_of (error.UnsupportedFormat name) = unsupported (string_bytes name)
fault_of error.UnknownFormat = unknown
fault_of error.Memory = no_memory

-- the format that an extension names
abbrev pub format_named : Option (List ℕ) → Result Format Fault
format_named None = Err unknown
format_named (Some name) =
    if bytes_eq name (codes "json") then Ok Json
    else (if bytes_eq name (codes "toml") then Ok Toml
    else (if bytes_eq name (codes "yaml") then Err no_yaml
    else (if bytes_eq name (codes "yml") then Err no_yaml
    else Err (unsupported name))))
