-- What a source was seen to answer, and how the logic stores it.
use Rattle.std.specs.Prelude.{◌≡◌, ◌⊎◌, ℕ, List, Result, Ok, Err}
use mathlib.Core.Path.{refl}
use mathlib.Core.Logic.{inl, inr}
use Rattle.std.specs.Coded.{Coded, code_by, coded_ℕ, coded_list, coded⊎, coded_result}
use Rattle.log4rs_settings.specs.Answers.{Answer, stamped, no_stamp, has_text, no_text}
use Rattle.log4rs_settings.specs.Answers.{modified_answer, read_answer}
use Rattle.log4rs_settings.specs.contracts.source.SourceError.{the_row as error_row}
use Rattle.log4rs_settings.specs.declared.source.SourceError.{SourceError}
use Rattle.log4rs_settings.specs.declared.source.Note.{Note}
use Rattle.log4rs_settings.specs.declared.source.Note.TheVariants.{Modified, Read}

-- the answer that a note refers to
abbrev pub answer_noted : Note → Answer
answer_noted (Modified answer) = modified_answer answer.now
answer_noted (Read answer) = read_answer answer.now

-- an answer as the logic stores it: what `modified` answered, or what `read` did
abbrev Parts : Type 0
Parts = Result ℕ SourceError ⊎ Result (List ℕ) SourceError

abbrev parts_of : Answer → Parts
parts_of (stamped stamp) = inl (Ok stamp)
parts_of (no_stamp error) = inl (Err error)
parts_of (has_text text) = inr (Ok text)
parts_of (no_text error) = inr (Err error)

abbrev answer_from : Parts → Answer
answer_from (inl (Ok stamp)) = stamped stamp
answer_from (inl (Err error)) = no_stamp error
answer_from (inr (Ok text)) = has_text text
answer_from (inr (Err error)) = no_text error

pub answer_from_parts : (answer : Answer) → answer_from (parts_of answer) ≡ answer
answer_from_parts (stamped stamp) = refl
answer_from_parts (no_stamp error) = refl
answer_from_parts (has_text text) = refl
answer_from_parts (no_text error) = refl

abbrev pub answers_coded : Coded (List Answer)
answers_coded =
    coded_list (code_by Parts
    (coded⊎ (coded_result coded_ℕ error_row.coded)
    (coded_result (coded_list coded_ℕ) error_row.coded))
    parts_of answer_from answer_from_parts)
