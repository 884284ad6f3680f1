-- Names that begin alike, as numbers.
use Rattle.std.specs.Prelude.{◌≡◌, ℕ, zero, suc, ◌<◌, ◌+◌, ◌*◌, ◌^◌, List, [], ◌∷◌, ◌++◌, All}
use Rattle.std.specs.Prelude.{length, map, drop}
use Rattle.log4rs_base.specs.Text.{Text}
use Rattle.log4rs_config.specs.declared.order.Digests.{Digests}
use Rattle.log4rs_config.specs.Standing.{tokens}

-- the first so many tokens as one number: each one more, nine bits each, 0 where there is none
abbrev pub digest_of : ℕ → List ℕ → ℕ
digest_of zero ts = 0
digest_of (suc n) [] = 0
digest_of (suc n) (t ∷ ts) = suc t * 512 ^ n + digest_of n ts

-- a name begins with the tokens of a text
abbrev pub BeginsWith : Text → Text → Type 0
BeginsWith common name = tokens name ≡ tokens common ++ tokens (drop (length common) name)

-- the number of what follows a text of so many bytes in a name
abbrev pub digest_behind : ℕ → Text → ℕ
digest_behind bytes name = digest_of 6 (tokens (drop bytes name))

-- names that all begin with one text, and for each the number of the six tokens behind it
pub record IsDigested (d : Digests) (names : List Text) : Type 0 where
  pub common : All (BeginsWith d.common.items) names
  pub bytes : All (All (λ b. b < 256)) names
  pub values : d.values.items ≡ map (digest_behind (length d.common.items)) names
