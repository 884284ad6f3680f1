-- Which maker each kind has.
use Rattle.std.specs.Prelude.{ℕ, Bool, ◌&&◌, List, [], ◌∷◌, codes, Option, Some, None, option_map}
use Rattle.std.specs.Prelude.{find, string_bytes, if◌then◌else◌}
use Rattle.std.specs.Str.{bytes_eq}
use Rattle.log4rs_settings.specs.declared.makers.Maker.{Maker}
use Rattle.log4rs_settings.specs.declared.makers.Maker.TheVariants.{Console, File, RollingFile}
use Rattle.log4rs_settings.specs.declared.makers.Maker.TheVariants.{Compound, Size, Time, OnStartUp}
use Rattle.log4rs_settings.specs.declared.makers.Maker.TheVariants.{Delete, FixedWindow, Pattern}
use Rattle.log4rs_settings.specs.declared.makers.Maker.TheVariants.{Json, Threshold}
use Rattle.log4rs_settings.specs.declared.makers.Entry.{Entry}

-- the class of what a maker makes
abbrev pub class_of : Maker → List ℕ
class_of Console = codes "appender"
class_of File = codes "appender"
class_of RollingFile = codes "appender"
class_of Compound = codes "policy"
class_of Size = codes "trigger"
class_of Time = codes "trigger"
class_of OnStartUp = codes "trigger"
class_of Delete = codes "roller"
class_of FixedWindow = codes "roller"
class_of Pattern = codes "encoder"
class_of Json = codes "encoder"
class_of Threshold = codes "filter"

-- the maker of a class and a kind
abbrev pub Kinds : Type 0
Kinds = List ℕ → List ℕ → Option Maker

abbrev pub is_at : List ℕ → List ℕ → Entry → Bool
is_at class kind e = bytes_eq (class_of e.maker) class && bytes_eq (string_bytes e.kind) kind

-- the first entry of a class and kind counts
abbrev pub kinds_of : List Entry → Kinds
kinds_of entries class kind = option_map (λ e. e.maker) (find (is_at class kind) entries)

-- one kind more, in place of the one of its class and name
abbrev pub with_kind : List ℕ → Maker → Kinds → Kinds
with_kind name maker kinds class kind =
    if bytes_eq (class_of maker) class && bytes_eq name kind then Some maker else kinds class kind

-- these kinds alone, each with its maker
abbrev pub kinds_from : List (List ℕ × Maker) → Kinds
kinds_from [] class kind = None
kinds_from (m ∷ ms) class kind = with_kind m.0 m.1 (kinds_from ms) class kind

-- the twelve kinds
abbrev pub standard : Kinds
standard = kinds_from (
    (codes "threshold", Threshold) ∷
    (codes "json", Json) ∷ (codes "pattern", Pattern) ∷
    (codes "fixed_window", FixedWindow) ∷ (codes "delete", Delete) ∷
    (codes "onstartup", OnStartUp) ∷ (codes "time", Time) ∷ (codes "size", Size) ∷
    (codes "compound", Compound) ∷
    (codes "rolling_file", RollingFile) ∷ (codes "file", File) ∷ (codes "console", Console) ∷ [])
