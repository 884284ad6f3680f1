-- How far a search by halving has come.
use Rattle.std.specs.Prelude.{◌≡◌, ℕ, ◌<◌, ◌≤◌, ◌+◌, ◌^◌, ◌⊎◌, List, Option, Some, length, map, slice_get}
use Rattle.std.specs.declared.cmp.Ordering.TheVariants.{Less, Greater}
use Rattle.log4rs_base.specs.Text.{Text}
use Rattle.log4rs_config.specs.Above.{AreAbove}
use Rattle.log4rs_config.specs.Digests.{IsDigested}
use Rattle.log4rs_config.specs.Name.{components}
use Rattle.log4rs_config.specs.Order.{parts_cmp, Rise}
use Rattle.log4rs_config.specs.Standing.{AreShared, IsKnown}
use Rattle.log4rs_config.specs.declared.order.Digests.{Digests}
use Rattle.log4rs_config.specs.declared.order.Standing.{Standing}

-- the lists of components of names
abbrev pub keys_of : List Text → List (List Text)
keys_of names = map components names

-- all keys in front of a place stand before another
abbrev pub AllBelow : List (List Text) → List Text → ℕ → Type 0
AllBelow keys t low =
    (i : ℕ) (a : List Text) → i < low → slice_get keys i ≡ Some a → parts_cmp a t ≡ Less

-- all keys from a place on stand behind another
abbrev pub AllAbove : List (List Text) → List Text → ℕ → Type 0
AllAbove keys t high =
    (i : ℕ) (a : List Text) → high ≤ i → slice_get keys i ≡ Some a → parts_cmp a t ≡ Greater

-- names that rise, with their digests and lengths, and the names above them
pub record IsIndexed (d : Digests) (names : List Text) : Type 0 where
  pub rising : Rise (keys_of names)
  pub digested : IsDigested d names
  pub lengths : d.lengths.items ≡ map (λ name. length name) names
  pub above : AreAbove names d.above.items

-- the target stands between the name at a place and the next
abbrev pub StandsBehind : List Text → Text → ℕ → Type 0
StandsBehind names target place =
    AllBelow (keys_of names) (components target) (place + 1)
    × AllAbove (keys_of names) (components target) (place + 1)

-- what the name in front of the place shares with the target, or all names do
abbrev pub LowSide : List Text → Text → ℕ → ℕ → ℕ → Option Standing → Type 0
LowSide names target common low left told =
    ((low ≡ 0) × (left ≡ common))
    ⊎ ((e : Text) × (at : ℕ) × (low ≡ at + 1) × (slice_get names at ≡ Some e)
    × IsKnown e target told left)

-- what the name at the place shares with it, or all names do
abbrev pub HighSide : List Text → Text → ℕ → ℕ → ℕ → Type 0
HighSide names target common high right =
    (right ≡ common)
    ⊎ ((e : Text) × (slice_get names high ≡ Some e) × AreShared e target right)

-- the target's place lies between two places, and what is known of the names beside it
pub record Seeks
    (names : List Text) (target : Text) (common low high left right : ℕ)
    (told : Option Standing) : Type 0 where
  pub ordered : low ≤ high
  pub within_all : high ≤ length names
  pub below : AllBelow (keys_of names) (components target) low
  pub above : AllAbove (keys_of names) (components target) high
  pub lows : LowSide names target common low left told
  pub highs : HighSide names target common high right

-- up to the most, so many comparisons are left that halving a part of this size ends
abbrev pub CanHalve : ℕ → ℕ → ℕ → Type 0
CanHalve size turns most = (left : ℕ) × (turns + left ≤ most) × (size < 2 ^ left)
