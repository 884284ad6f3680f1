-- How a name stands to a target in the order of their components, and what beginnings they share.
use Rattle.std.specs.Prelude.{◌≡◌, ℕ, zero, suc, ◌<◌, ◌+◌, ◌==◌, ◌&&◌, if◌then◌else◌, List, [], ◌∷◌}
use Rattle.std.specs.Prelude.{◌++◌, drop, Option, IfSome}
use Rattle.std.specs.declared.cmp.Ordering.{Ordering}
use Rattle.std.specs.declared.cmp.Ordering.TheVariants.{Less, Equal, Greater}
use Rattle.log4rs_base.specs.Text.{Text}
use Rattle.log4rs_config.specs.Name.{colon}
use Rattle.log4rs_config.specs.declared.order.Standing.{Standing}
use Rattle.log4rs_config.specs.declared.order.Standing.TheVariants.{Same, Begins, Before, Behind}

-- a name as numbers: its bytes, each one more, and 0 for each `::`, read from the left
abbrev pub tokens : Text → List ℕ
tokens [] = []
tokens (a ∷ []) = suc a ∷ []
tokens (a ∷ b ∷ rest) =
    if a == colon && b == colon then 0 ∷ tokens rest else suc a ∷ tokens (b ∷ rest)

-- the first of them, one more; 0 where there is none
abbrev pub next : List ℕ → ℕ
next [] = 0
next (t ∷ _) = suc t

-- how many bytes they take
abbrev pub width : List ℕ → ℕ
width [] = 0
width (zero ∷ ts) = suc (suc (width ts))
width (suc _ ∷ ts) = suc (width ts)

-- where the last `::` among them ends, from a place on; a last place where there is none
abbrev pub last_start : ℕ → ℕ → List ℕ → ℕ
last_start at last [] = last
last_start at last (zero ∷ ts) = last_start (at + 2) (at + 2) ts
last_start at last (suc _ ∷ ts) = last_start (at + 1) last ts

-- both begin with the same tokens, which take so many bytes
abbrev pub AreShared : Text → Text → ℕ → Type 0
AreShared name target bytes =
    (front : List ℕ)
    × (tokens name ≡ front ++ tokens (drop bytes name))
    × (tokens target ≡ front ++ tokens (drop bytes target))
    × (bytes ≡ width front)

-- what follows in both decides
abbrev pub Stands : Standing → ℕ → ℕ → Type 0
Stands Same a b = (a ≡ 0) × (b ≡ 0)
Stands Begins a b = (a ≡ 0) × (b ≡ 1)
Stands Before a b = (a < b) × (1 < b)
Stands Behind a b = b < a

abbrev pub order_of : Standing → Ordering
order_of Same = Equal
order_of Begins = Less
order_of Before = Less
order_of Behind = Greater

-- what is known of a name and a target:
-- that they share so many bytes, and where they were compared, how it stands
abbrev pub IsKnown : Text → Text → Option Standing → ℕ → Type 0
IsKnown name target told shared =
    AreShared name target shared
    × IfSome told (λ standing.
    Stands standing (next (tokens (drop shared name))) (next (tokens (drop shared target))))
