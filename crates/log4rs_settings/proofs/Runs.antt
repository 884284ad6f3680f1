-- Runs at the front of a text.
use Rattle.std.proofs.Common.{◌≡◌, ℕ, zero, suc, add-one, ◌<◌, ◌≤◌, true, List, length, get_or, length-drop, refl, arith}
use Rattle.std.proofs.lemmas.Bool.Decides.{nat_tests}
use Rattle.std.proofs.lemmas.List.Sums.{prefix_len-le-length, prefix_len_passes}
use Rattle.std.proofs.lemmas.Str.{IsCharBoundary-after_ascii, IsCharBoundary-start, IsUtf8-drop}
use Rattle.std.specs.List.{prefix_len}
use Rattle.std.specs.Str.{IsUtf8, IsCharBoundary}
use Rattle.log4rs_settings.specs.Leading.{in_class, after_leading}
use Rattle.log4rs_settings.specs.declared.units.Class.{Class}
use Rattle.log4rs_settings.specs.declared.units.Class.TheVariants.{Digit, Letter, Space}

-- the characters of each class are ASCII
in_class_ascii : (class : Class) (b : ℕ) → in_class class b ≡ true → b < 128
in_class_ascii Digit b h = grind (arith, nat_tests)
in_class_ascii Letter b h = grind (arith, nat_tests)
in_class_ascii Space b h = grind (arith, nat_tests)

boundary_at : (class : Class) (text : List ℕ) (n : ℕ) → IsUtf8 text → n ≡ prefix_len (in_class class) text → IsCharBoundary text n
boundary_at class text zero utf8 e = IsCharBoundary-start text utf8
boundary_at class text (suc n) utf8 e =
    let within : n < length text = omega (arith, prefix_len-le-length (in_class class) text) in
    let passes = prefix_len_passes (in_class class) text n 0 (omega arith) in
    rw (← add-one) (IsCharBoundary-after_ascii text n utf8 within (in_class_ascii class (get_or text n 0) passes))

-- a text may be cut behind a run
pub IsCharBoundary-after_leading : (class : Class) (text : List ℕ) → IsUtf8 text → IsCharBoundary text (prefix_len (in_class class) text)
IsCharBoundary-after_leading class text utf8 = boundary_at class text _ utf8 refl

-- what follows a run is a text
pub IsUtf8-after_leading : (class : Class) (text : List ℕ) → IsUtf8 text → IsUtf8 (after_leading class text)
IsUtf8-after_leading class text utf8 = IsUtf8-drop text _ utf8 (IsCharBoundary-after_leading class text utf8)

pub length-after_leading : (class : Class) (text : List ℕ) → length (after_leading class text) ≤ length text
length-after_leading class text = omega (arith, length-drop (prefix_len (in_class class) text) text)
