-- Components that were handed in and not taken yet, the earliest first.
use Rattle.std.specs.Prelude.{ℕ, suc, Bool, List, [], ◌∷◌, map, Option, Some, None, string_bytes}
use Rattle.std.specs.Prelude.{if◌then◌else◌}
use Rattle.std.specs.Str.{bytes_eq}
use Rattle.log4rs_parts.specs.declared.handed.Named.{Named}
use Rattle.log4rs_parts.specs.declared.handed.NamedParts.{NamedParts}

module _ {T : Type 0} where
  -- the appender's name, and the component
  abbrev pub entry : Named T → List ℕ × T
  entry h = (string_bytes h.appender, h.part)

  abbrev pub parts_in : NamedParts T → List (List ℕ × T)
  parts_in s = map entry s.parts.items

  abbrev pub is_for : List ℕ → Named T → Bool
  is_for name h = bytes_eq (string_bytes h.appender) name

  -- the earliest of an appender
  abbrev pub first_for : List ℕ → List (List ℕ × T) → Option T
  first_for name [] = None
  first_for name (e ∷ es) = if bytes_eq e.0 name then Some e.1 else first_for name es

  -- all but the earliest of an appender
  abbrev pub without_first : List ℕ → List (List ℕ × T) → List (List ℕ × T)
  without_first name [] = []
  without_first name (e ∷ es) = if bytes_eq e.0 name then es else e ∷ without_first name es

  -- how many wait for an appender
  abbrev pub count_for : List ℕ → List (List ℕ × T) → ℕ
  count_for name [] = 0
  count_for name (e ∷ es) = if bytes_eq e.0 name then suc (count_for name es) else count_for name es
