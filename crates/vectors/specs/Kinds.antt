-- Kinds of files by their names.
use Rattle.std.specs.Prelude.{Bool, ℕ, List, Option, None, Some, codes, eqb, if◌then◌else◌}
use Rattle.std.specs.Prelude.{option_and_then}
use Rattle.std.specs.List.{starts_with}
use Rattle.std.specs.Path.{path_file_name}
use Rattle.vectors.specs.declared.kind.Kind.{Kind}
use Rattle.vectors.specs.declared.kind.Kind.TheVariants.{Patterns, Differences, Routing, Lines}
use Rattle.vectors.specs.declared.kind.Kind.TheVariants.{Times, Rolling, Configurations}

abbrev pub begins_with : List ℕ → List ℕ → Bool
begins_with name word = starts_with eqb name word

-- the kind of a file of this name
abbrev pub kind_of_name : List ℕ → Option Kind
kind_of_name name =
    if begins_with name (codes "pattern-differences") then Some Differences
    else if begins_with name (codes "pattern") then Some Patterns
    else if begins_with name (codes "routing") then Some Routing
    else if begins_with name (codes "json") then Some Lines
    else if begins_with name (codes "time") then Some Times
    else if begins_with name (codes "rolling") then Some Rolling
    else if begins_with name (codes "config") then Some Configurations
    else None

-- the kind of the file at a path, by the path's last component
abbrev pub kind_at : List ℕ → Option Kind
kind_at path = option_and_then kind_of_name (path_file_name path)
