-- Members of an object as tokens, for private clauses.
use Rattle.std.specs.Prelude.{◌≡◌, List, ◌++◌}
use Rattle.json.specs.Token.{Token}
use Rattle.json.specs.Tree.{members_tokens}
use Rattle.json.specs.Written.{Written}
use Rattle.serde_json.specs.Data.{Members, no_members}
use Rattle.serde_json.specs.Written.{members_outline}

-- the tokens of the members, and the bracket behind them
abbrev pub tokens_of : Members → List Token
tokens_of ms = members_tokens (members_outline ms)

-- these members are written, whatever members follow
abbrev pub Puts : (Members → Members) → Written → Written → Type 0
Puts more old new =
    (new.before ≡ old.before)
    × ((rest : Members) → new.tokens ++ tokens_of rest ≡ old.tokens ++ tokens_of (more rest))

-- these are all members that are written
abbrev pub PutsAll : Members → Written → Written → Type 0
PutsAll ms old new =
    (new.before ≡ old.before) × (new.tokens ++ tokens_of no_members ≡ old.tokens ++ tokens_of ms)
