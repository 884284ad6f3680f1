-- What came of cases.
use Rattle.std.specs.Prelude.{Bool, true, false}
use Rattle.vectors.specs.declared.verdict.Verdict.{Verdict}
use Rattle.vectors.specs.declared.verdict.Verdict.TheVariants.{Agrees, Differs, Unreadable}

-- the library does what was expected
abbrev pub is_agreement : Verdict → Bool
is_agreement Agrees = true
is_agreement (Differs _) = false
is_agreement Unreadable = false

-- it does something else
abbrev pub is_difference : Verdict → Bool
is_difference Agrees = false
is_difference (Differs _) = true
is_difference Unreadable = false
