-- Walks along the components of a name.
use Rattle.std.specs.Prelude.{ℕ, if◌then◌else◌, List, [], ◌∷◌, ◌++◌, Option, Some, None, position}
use Rattle.std.specs.Prelude.{slice_get}
use Rattle.std.specs.Option.{option_or, option_map_or}
use Rattle.std.specs.Str.{bytes_eq}
use Rattle.std.specs.Cmp.Lexicographic.{pointwise}
use Rattle.log4rs_base.specs.Text.{Text}
use Rattle.log4rs_config.specs.Name.{colon, components}
use Rattle.log4rs_config.specs.Routing.{places}
use Rattle.log4rs_config.specs.Settings.{LoggerSetting}

-- the parts with `::` between them
abbrev pub joined : List Text → Text
joined [] = []
joined (part ∷ []) = part
joined (part ∷ next ∷ parts) = part ++ colon ∷ colon ∷ joined (next ∷ parts)

-- what is found of the name with these components; nothing where no name has them
abbrev pub named : (Text → Option ℕ) → List Text → Option ℕ
named find parts =
    if pointwise bytes_eq (components (joined parts)) parts then find (joined parts) else None

-- what one index after another makes of a value,
-- along the beginnings of a list of components, the shortest first
abbrev pub walk : {A : Type 0} → (Option ℕ → A → A) → (List Text → Option ℕ) → A → List Text → A
walk step at value [] = value
walk step at value (part ∷ parts) =
    walk step (λ more. at (part ∷ more)) (step (at (part ∷ [])) value) parts

-- of the indices at the beginnings of a list of components, that of the longest
abbrev pub longest : (List Text → Option ℕ) → Option ℕ → List Text → Option ℕ
longest at best parts = walk option_or at best parts

-- the index of the first name with these components
abbrev pub name_at : List Text → List Text → Option ℕ
name_at names parts = position (λ name. pointwise bytes_eq (components name) parts) names

-- the index of the first logger with these components
abbrev pub index_of : List LoggerSetting → List Text → Option ℕ
index_of loggers parts =
    position (λ logger. pointwise bytes_eq (components logger.name) parts) loggers

-- the list of a logger in front of the one above it, where it is additive;
-- that one alone where there is no logger
abbrev pub chained : List Text → List LoggerSetting → Option ℕ → List ℕ → List ℕ
chained names loggers None list = list
chained names loggers (Some index) list =
    option_map_or
    (λ logger. places names logger.appenders ++ (if logger.additive then list else []))
    (slice_get loggers index) list
