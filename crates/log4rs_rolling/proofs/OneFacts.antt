-- A target is reached at one instant or none, and so there is one next time or none.
use Rattle.std.proofs.Common.{◌≡◌, ◌∙◌, ℕ, ℤ, pos, ◌+ℤ◌, Option, Some, None, refl, sym, ap, subst}
use Rattle.std.specs.Option.{SomeIff}
use Rattle.jiff_core.specs.Timestamp.{nanos_of_seconds, IsTimestampNanos}
use Rattle.jiff_tz.specs.declared.timezone.TimeZone.{TimeZone}
use Rattle.log4rs_base.specs.declared.dates.interval.TimeTriggerConfig.{TimeTriggerConfig}
use Rattle.log4rs_rolling.specs.NextTime.{Target, midnight, instant, IsMidnight, IsReached, IsDelayed, IsNextTime, delay_of, target}
use Rattle.log4rs_rolling.proofs.DayFacts.{same_midnight, midnight_of}

some_iff_one : (P : Type 0) (v : ℤ) (r s : Option ℤ) → SomeIff r P v → SomeIff s P v → r ≡ s
some_iff_one P v None None h k = refl
some_iff_one P v None (Some n) h k = absurd (h k.0)
some_iff_one P v (Some m) None h k = absurd (k h.0)
some_iff_one P v (Some m) (Some n) h k = ap Some (h.1 ∙ sym k.1)

midnight_one : (zone : TimeZone) (day m n : ℤ) → IsMidnight zone day m → IsMidnight zone day n → m ≡ n
midnight_one zone day m n at other =
    at.later ∙ (ap (midnight_of zone) (same_midnight at.shown other.shown (at.on_day ∙ sym other.on_day) at.at_start other.at_start) ∙ sym other.later)

reached_one : (zone : TimeZone) (to : Target) (r s : Option ℤ) → IsReached zone to r → IsReached zone to s → r ≡ s
reached_one zone (midnight day) None None h k = refl
reached_one zone (midnight day) None (Some n) h k = absurd (h n k)
reached_one zone (midnight day) (Some m) None h k = absurd (k m h)
reached_one zone (midnight day) (Some m) (Some n) h k = ap Some (midnight_one zone day m n h k)
reached_one zone (instant n) r s h k = some_iff_one (IsTimestampNanos n) n r s h k

delayed_one : (delay : ℕ) (from r s : Option ℤ) → IsDelayed delay from r → IsDelayed delay from s → r ≡ s
delayed_one delay None r s h k = h ∙ sym k
delayed_one delay (Some n) r s h k =
    some_iff_one (IsTimestampNanos (n +ℤ nanos_of_seconds (pos delay))) (n +ℤ nanos_of_seconds (pos delay)) r s h k

pub next_one : (config : TimeTriggerConfig) (zone : TimeZone) (moment : ℤ) (random : ℕ) (r s : Option ℤ) → IsNextTime config zone moment random r → IsNextTime config zone moment random s → r ≡ s
next_one config zone moment random r s is other =
    let same = reached_one zone (target config zone moment) is.reached other.reached is.is_reached other.is_reached in
    let P : Option ℤ → Type 0 = λ from. IsDelayed (delay_of config random) from r in
    delayed_one (delay_of config random) other.reached r s (subst P same is.is_delayed) other.is_delayed
