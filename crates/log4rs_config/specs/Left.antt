-- What is left to search after a name was not found.
use Rattle.std.specs.Prelude.{◌≡◌, ℕ, ◌<◌, ◌-◌, List, None, take, length}
use Rattle.log4rs_base.specs.Text.{Text}
use Rattle.log4rs_config.specs.Name.{components}
use Rattle.log4rs_config.specs.Walk.{longest, name_at}

-- the name that begins the target begins what stands in front of the last `::` before the place
abbrev pub IsLeft : List Text → Text → ℕ → Type 0
IsLeft names target start =
    (1 < start)
    × (start - 2 < length target)
    × (length (components (take (start - 2) target)) < length (components target))
    × (longest (name_at names) None (components target)
    ≡ longest (name_at names) None (components (take (start - 2) target)))
