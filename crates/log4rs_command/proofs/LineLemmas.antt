-- Lines, by their parts.
use Rattle.std.proofs.Common.{◌≡◌, ℕ, List, ◌∷◌, ◌++◌, All, Some, None, append_assoc, sym, ap, ◌∙◌}
use Rattle.std.specs.Str.{IsUtf8}
use Rattle.log.specs.Level.{parse_level}
use Rattle.log.specs.declared.level.Level.{Level}
use Rattle.log4rs_command.specs.Line.{IsLine, IsNoLine, space}
use Rattle.log4rs_command.proofs.Splits.{IsNot, SplitsFirst, unsplit, first_unique}

module _ (line : List ℕ) where
  -- the word, and what follows its space
  parts_first : (level : Level) (target message : List ℕ) (h : IsLine line level target message)
      → line ≡ h.word ++ (space ∷ (target ++ (space ∷ message)))
  parts_first level target message h = h.parts ∙ append_assoc h.word (space ∷ target) (space ∷ message)

  pub line_of_parts : (word rest target message : List ℕ) (level : Level) → IsUtf8 line → SplitsFirst space line word rest
      → SplitsFirst space rest target message → parse_level word ≡ Some level → IsLine line level target message
  line_of_parts word rest target message level utf8 first second names = record {
    word = word;
    parts = first.0 ∙ ap (λ l. word ++ (space ∷ l)) second.0 ∙ sym (append_assoc word (space ∷ target) (space ∷ message));
    word_ends = first.1;
    target_ends = second.1;
    names = names;
    is_text = utf8;
  }

  pub no_line-no_word : All (IsNot space) line → IsNoLine line
  no_line-no_word none level target message h =
      unsplit space line h.word (target ++ (space ∷ message)) none (parts_first level target message h)

  pub no_line-no_target : (word rest : List ℕ) → SplitsFirst space line word rest → All (IsNot space) rest → IsNoLine line
  no_line-no_target word rest first none level target message h =
      let same = first_unique space word h.word rest (target ++ (space ∷ message)) first.1 h.word_ends (sym first.0 ∙ parts_first level target message h) in
      unsplit space rest target message none same.1

  pub no_line-no_level : (word rest : List ℕ) → SplitsFirst space line word rest → parse_level word ≡ None → IsNoLine line
  no_line-no_level word rest first unnamed level target message h =
      let same = first_unique space word h.word rest (target ++ (space ∷ message)) first.1 h.word_ends (sym first.0 ∙ parts_first level target message h) in
      let named : parse_level word ≡ Some level = ap parse_level same.0 ∙ h.names in
      cc
