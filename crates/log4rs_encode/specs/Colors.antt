-- Whether consoles show styles.
use Rattle.std.specs.Prelude.{Bool, true, false, not, Option, None, Some, codes, string_bytes}
use Rattle.std.specs.Prelude.{String, if◌then◌else◌}
use Rattle.std.specs.Str.{bytes_eq}
use Rattle.std.specs.BTreeMap.{BTreeMap, get_by_text}
use Rattle.log4rs_encode.specs.declared.writer.color.ColorMode.{ColorMode}
use Rattle.log4rs_encode.specs.declared.writer.color.ColorMode.TheVariants.{Auto, Always, Never}

-- a variable is set, and not to `0`
abbrev pub is_on : {Y : Type 0} → Option (String Y) → Bool
is_on None = false
is_on (Some value) = not (bytes_eq (string_bytes value) (codes "0"))

-- a variable is set to `0`
abbrev pub is_off : {Y : Type 0} → Option (String Y) → Bool
is_off None = false
is_off (Some value) = bytes_eq (string_bytes value) (codes "0")

-- the mode that an environment asks for
abbrev pub color_mode : {Y : Type 0} → BTreeMap (String Y) (String Y) → ColorMode
color_mode env =
    if is_on (get_by_text env (codes "NO_COLOR")) then Never
    else if is_on (get_by_text env (codes "CLICOLOR_FORCE")) then Always
    else if is_off (get_by_text env (codes "CLICOLOR")) then Never
    else Auto

-- whether a console shows styles in a mode, where it is a terminal or not
abbrev pub shows_color : ColorMode → Bool → Bool
shows_color Auto tty = tty
shows_color Always tty = true
shows_color Never tty = false
