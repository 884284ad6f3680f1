-- What a source answered.
use Rattle.std.specs.Prelude.{◌≡◌, ℕ, List, [], ◌∷◌, ◌++◌, Option, Some, None, Result, Ok, Err}
use Rattle.std.specs.Prelude.{String, string_bytes}
use Rattle.std.specs.declared.alloc.Global.{Global}
use Rattle.log4rs_settings.specs.declared.source.SourceError.{SourceError}

-- one answer: a stamp or none, a text or none
pub data Answer : Type 0 where
  stamped : ℕ → Answer
  no_stamp : SourceError → Answer
  has_text : List ℕ → Answer
  no_text : SourceError → Answer

-- what `modified` answered
abbrev pub modified_answer : Result ℕ SourceError → Answer
modified_answer (Ok n) = stamped n
modified_answer (Err e) = no_stamp e

-- what `read` answered
abbrev pub read_answer : Result (String Global) SourceError → Answer
read_answer (Ok s) = has_text (string_bytes s)
read_answer (Err e) = no_text e

-- the answers so far of a source that tells them
abbrev pub Answered : Type 0
Answered = Option (List Answer)

-- these answers came since
abbrev pub Told : Answered → Answered → List Answer → Type 0
Told None new asked = new ≡ None
Told (Some old) new asked = new ≡ Some (old ++ asked)

-- this answer came since
abbrev pub ToldOne : Answered → Answered → Answer → Type 0
ToldOne old new a = Told old new (a ∷ [])
