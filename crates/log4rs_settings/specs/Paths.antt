-- The extension of a path.
use Rattle.std.specs.Prelude.{ℕ, Bool, ◌==◌, List, [], ◌∷◌, Option, Some, None, codes}
use Rattle.std.specs.Prelude.{if◌then◌else◌}
use Rattle.std.specs.List.{before_last, after_last}
use Rattle.std.specs.Str.{bytes_eq}

abbrev pub is_slash : ℕ → Bool
is_slash b = b == 47

abbrev pub is_dot : ℕ → Bool
is_dot b = b == 46

-- the part of a path behind its last slash
abbrev pub name_of : List ℕ → List ℕ
name_of path = after_last is_slash path

-- an extension behind a stem that is not empty
abbrev pub behind : List ℕ → List ℕ → Option (List ℕ)
behind [] ext = None
behind (b ∷ bs) ext = Some ext

-- what stands behind the last dot of a name, if something stands before it
abbrev pub dotted : List ℕ → Option (List ℕ)
dotted name = behind (before_last is_dot name) (after_last is_dot name)

-- the extension of a path; its parent `..` has none
abbrev pub extension : List ℕ → Option (List ℕ)
extension path = if bytes_eq (name_of path) (codes "..") then None else dotted (name_of path)
