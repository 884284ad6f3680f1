-- What a file as a source keeps of its faults.
use Rattle.std.specs.Prelude.{Bool, is_some, ℕ}
use Rattle.log4rs_settings.specs.declared.file.FileSource.{FileSource}

-- whether a fault of the system is kept, as behind each answer that is a refusal
abbrev pub has_fault : {R F D : Type 0} → FileSource R F D → Bool
has_fault s = is_some s.fault

-- how many answers were refused, modulo 2 ^ 64, each of which makes the next stamp another one
abbrev pub refused_of : {R F D : Type 0} → FileSource R F D → ℕ
refused_of s = s.refused
