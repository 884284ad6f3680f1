-- How many appends failed, by the names of their appenders.
use Rattle.std.specs.Prelude.{◌≡◌, ℕ, List, [], ◌∷◌, map, slice_get, String, if◌then◌else◌}
use Rattle.std.specs.BTreeMap.{BTreeMap, get_by_text}
use Rattle.std.specs.Option.{unwrap_or}
use Rattle.std.specs.Str.{bytes_eq}
use Rattle.std.specs.declared.alloc.Global.{Global}
use Rattle.log4rs_rolling.specs.Disk.{one_more}
use Rattle.log4rs_base.specs.Text.{Text}
use Rattle.log4rs_config.specs.Destinations.{Outcome}
use Rattle.log4rs_config.specs.declared.delivery.AppendError.{AppendError}
use Rattle.log4rs_config.specs.Answer.{faults}

-- a count for each name
abbrev pub Counts : Type 0
Counts = BTreeMap (String Global) ℕ

-- the count of a name, which is 0 where none was counted
abbrev pub count_of : Counts → Text → ℕ
count_of counts name = unwrap_or (get_by_text counts name) 0

-- one more, where two names are the same; a count stays at 2 ^ 64 - 1 once there
abbrev pub more_if_same : Text → Text → ℕ → ℕ
more_if_same name other count = if bytes_eq name other then one_more count else count

-- one more for each time that a name stands among these
abbrev pub more_for_each : Text → List Text → ℕ → ℕ
more_for_each name [] count = count
more_for_each name (other ∷ others) count =
    more_for_each name others (more_if_same name other count)

-- a name was counted once more, and no other one
abbrev pub CountsOneMore : Counts → Counts → Text → Type 0
CountsOneMore before after counted =
    (name : Text) → count_of after name ≡ more_if_same name counted (count_of before name)

-- each of these names was counted, as often as it stands there
abbrev pub CountsEach : Counts → Counts → List Text → Type 0
CountsEach before after counted =
    (name : Text) → count_of after name ≡ more_for_each name counted (count_of before name)

-- the name at a place, or the empty one
abbrev pub name_at : List Text → ℕ → Text
name_at names at = unwrap_or (slice_get names at) []

-- the names of the appenders of failed appends
abbrev pub failed_at : List Text → List AppendError → List Text
failed_at names errors = map (λ error. name_at names error.appender) errors

-- these are the failed ones of deliveries at these places, in order
abbrev pub AreFailuresAt : List ℕ → List AppendError → Type 0
AreFailuresAt places errors =
    (made : List (ℕ × Outcome)) × (map (λ d. d.0) made ≡ places) × (errors ≡ faults made)

-- what was counted is the failed deliveries of one record at some places,
-- under the names of the appenders there
abbrev pub CountsFailures : Counts → Counts → Type 0
CountsFailures before after =
    (names : List Text) × (places : List ℕ) × (errors : List AppendError)
    × AreFailuresAt places errors × CountsEach before after (failed_at names errors)
