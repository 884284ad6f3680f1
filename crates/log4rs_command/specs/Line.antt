-- Lines of input.
use Rattle.std.specs.Prelude.{◌≡◌, ◌≢◌, ℕ, List, ◌∷◌, ◌++◌, Some, All}
use Rattle.std.specs.Str.{IsUtf8}
use Rattle.log.specs.Level.{parse_level}
use Rattle.log.specs.declared.level.Level.{Level}

abbrev pub space : ℕ
space = 32

-- a line, without its LF: a level's name in any case, one space,
-- a target without spaces, one space, and the message
pub record IsLine (line : List ℕ) (level : Level) (target message : List ℕ) : Type 0 where
  pub word : List ℕ
  pub parts : line ≡ word ++ (space ∷ target) ++ (space ∷ message)
  pub word_ends : All (λ b. b ≢ space) word
  pub target_ends : All (λ b. b ≢ space) target
  pub names : parse_level word ≡ Some level
  pub is_text : IsUtf8 line

-- no level, target and message make the line
abbrev pub IsNoLine : List ℕ → Type 0
IsNoLine line = (level : Level) (target message : List ℕ) → ¬ IsLine line level target message
