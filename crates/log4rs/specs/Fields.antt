-- The mapped diagnostic context that the spans and the pairs of a record make.
use Rattle.std.specs.Prelude.{◌≡◌, if◌then◌else◌, List, [], ◌∷◌, Option, Some, None, String}
use Rattle.std.specs.Prelude.{option_map, flat_map, string_bytes}
use Rattle.std.specs.Option.{option_or}
use Rattle.std.specs.Str.{bytes_eq}
use Rattle.std.specs.BTreeMap.{BTreeMap, get_by_text}
use Rattle.std.specs.declared.alloc.Global.{Global}
use Rattle.log.specs.Kv.{Pair, append_known}
use Rattle.log.specs.Span.{Scope}
use Rattle.log4rs_base.specs.Text.{Text}

-- the fields of the spans, the outermost first, and then the record's own pairs,
-- where all are known
abbrev pub all_fields : Option (List Scope) → Option (List Pair) → Option (List Pair)
all_fields scopes pairs = append_known (option_map (flat_map (λ scope. scope.1)) scopes) pairs

-- the value of the last of the pairs that have the key
abbrev pub last_value : List Pair → Text → Option Text
last_value [] key = None
last_value (p ∷ ps) key =
    option_or (last_value ps key) (if bytes_eq p.0 key then Some p.1 else None)

-- the text at a key of the diagnostic context
abbrev pub text_at : BTreeMap (String Global) (String Global) → Text → Option Text
text_at mdc key = option_map string_bytes (get_by_text mdc key)

-- each key has the value of the last of the pairs that have it, and else what it had
abbrev pub Puts : BTreeMap (String Global) (String Global)
    → List Pair → BTreeMap (String Global) (String Global) → Type 0
Puts old ps new = (key : Text) → text_at new key ≡ option_or (last_value ps key) (text_at old key)

-- each key has the value of the last of the pairs that have it, and there are no other keys
abbrev pub HoldsLast : List Pair → BTreeMap (String Global) (String Global) → Type 0
HoldsLast ps mdc = (key : Text) → text_at mdc key ≡ last_value ps key
