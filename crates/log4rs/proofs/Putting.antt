-- Pairs that are put into a diagnostic context, one after another.
use Rattle.std.proofs.Common.{◌≡◌, ℕ, Bool, true, false, cond, List, [], ◌∷◌, ◌++◌, Option, Some, None, refl, sym, ◌∙◌, ap, subst}
use Rattle.std.proofs.lemmas.Map.Text.{btree_map_updates_text}
use Rattle.std.specs.BTreeMap.{BTreeMap, UpdatesBy, get_by_text}
use Rattle.std.specs.Cmp.Lexicographic.{slice_cmp}
use Rattle.std.specs.List.{FoldsTo}
use Rattle.std.specs.Option.{option_or}
use Rattle.std.specs.Map.{lookup}
use Rattle.std.specs.Ordering.{is_eq, nat_cmp}
use Rattle.std.specs.Prelude.{String, string_bytes, option_map, flat_map, IfSome, OnOk, Result, Ok, Err}
use Rattle.std.specs.Str.{bytes_eq}
use Rattle.std.specs.String.{string_cmp}
use Rattle.std.specs.declared.alloc.Global.{Global}
use Rattle.log.specs.Kv.{Pair}
use Rattle.log.specs.Span.{Scope}
use Rattle.log4rs.specs.Fields.{all_fields, last_value, text_at, Puts, HoldsLast}

abbrev Mdc : Type 0
Mdc = BTreeMap (String Global) (String Global)

or_or : {X : Type 0} (a b c : Option X) → option_or a (option_or b c) ≡ option_or (option_or a b) c
or_or None b c = refl
or_or (Some x) b c = refl

or_none : {X : Type 0} (a : Option X) → option_or a None ≡ a
or_none None = refl
or_none (Some x) = refl

last_append : (xs ys : List Pair) (key : List ℕ) → last_value (xs ++ ys) key ≡ option_or (last_value ys key) (last_value xs key)
last_append [] ys key = sym (or_none (last_value ys key))
last_append (p ∷ xs) ys key =
    let here = cond (bytes_eq p.0 key) (Some p.1) None in
    ap (λ (found : Option (List ℕ)). option_or found here) (last_append xs ys key) ∙ sym (or_or (last_value ys key) (last_value xs key) here)

pub puts_append : (a b c : Mdc) (xs ys : List Pair) → Puts a xs b → Puts b ys c → Puts a (xs ++ ys) c
puts_append a b c xs ys first second = λ key.
    second key ∙ (ap (λ (found : Option (List ℕ)). option_or (last_value ys key) found) (first key)
    ∙ (or_or (last_value ys key) (last_value xs key) (text_at a key)
    ∙ ap (λ (found : Option (List ℕ)). option_or found (text_at a key)) (sym (last_append xs ys key))))

-- the value at a key, where one pair was put in
found : (same : Bool) (v : String Global) (text : List ℕ) (old : Option (String Global)) → string_bytes v ≡ text
    → option_map string_bytes (cond same (Some v) old) ≡ option_or (cond same (Some text) None) (option_map string_bytes old)
found true v text old e = ap Some e
found false v text old e = refl

pub puts_one : (m n : Mdc) (k v : String Global) (key text : List ℕ) → string_bytes k ≡ key → string_bytes v ≡ text
    → UpdatesBy string_cmp (λ (q : String Global). slice_cmp nat_cmp (string_bytes k) (string_bytes q)) m n (Some v) → Puts m ((key, text) ∷ []) n
puts_one m n k v key text ke ve updates = subst (λ (bs : List ℕ). Puts m ((bs, text) ∷ []) n) ke (λ cs.
    ap (option_map string_bytes) (btree_map_updates_text (string_bytes k) m n (Some v) updates cs)
    ∙ found (bytes_eq (string_bytes k) cs) v text (get_by_text m cs) ve)

module _ {V : Type 0} (mdc : V → Mdc) where
  -- pairs that were put in one at a time
  pub puts_each : (a : V) (ps : List Pair) (b : V) → FoldsTo (λ old pair new. Puts (mdc old) (pair ∷ []) (mdc new)) a ps b → Puts (mdc a) ps (mdc b)
  puts_each a [] b same = λ key. ap (λ (v : V). text_at (mdc v) key) (sym same)
  puts_each a (p ∷ ps) b steps = puts_append (mdc a) (mdc steps.0) (mdc b) (p ∷ []) ps steps.1 (puts_each steps.0 ps b steps.2)

  -- the same of the fields of spans
  pub puts_scopes : (a : V) (ss : List Scope) (b : V) → FoldsTo (λ old scope new. Puts (mdc old) scope.1 (mdc new)) a ss b
      → Puts (mdc a) (flat_map (λ scope. scope.1) ss) (mdc b)
  puts_scopes a [] b same = λ key. ap (λ (v : V). text_at (mdc v) key) (sym same)
  puts_scopes a (s ∷ ss) b steps = puts_append (mdc a) (mdc steps.0) (mdc b) s.1 _ steps.1 (puts_scopes steps.0 ss b steps.2)

  -- what was put into an empty one: the fields of the spans, and then the pairs, where both are known
  pub holds_all : (a b c : V) (scopes : Option (List Scope)) (pairs : Option (List Pair)) → (mdc a).entries ≡ []
      → IfSome scopes (λ ss. FoldsTo (λ old scope new. Puts (mdc old) scope.1 (mdc new)) a ss b)
      → IfSome pairs (λ ps. FoldsTo (λ old pair new. Puts (mdc old) (pair ∷ []) (mdc new)) b ps c)
      → IfSome (all_fields scopes pairs) (λ fields. HoldsLast fields (mdc c))
  holds_all a b c None pairs none h k = tt
  holds_all a b c (Some ss) None none h k = tt
  holds_all a b c (Some ss) (Some ps) none h k =
      let all = flat_map (λ (scope : Scope). scope.1) ss ++ ps in
      λ key. puts_append (mdc a) (mdc b) (mdc c) (flat_map (λ (scope : Scope). scope.1) ss) ps (puts_scopes a ss b h) (puts_each b ps c k) key
      ∙ (ap (λ (es : List (String Global × String Global)). option_or (last_value all key) (option_map string_bytes (lookup (λ (q : String Global). is_eq (slice_cmp nat_cmp key (string_bytes q))) es))) none
      ∙ or_none (last_value all key))

-- a pair whose text may not be known
pub puts_known : (m n : Mdc) (k v : String Global) (key : List ℕ) (shown : Option (List ℕ)) → string_bytes k ≡ key → IfSome shown (λ text. string_bytes v ≡ text)
    → UpdatesBy string_cmp (λ (q : String Global). slice_cmp nat_cmp (string_bytes k) (string_bytes q)) m n (Some v) → IfSome shown (λ text. Puts m ((key, text) ∷ []) n)
puts_known m n k v key None ke ve updates = tt
puts_known m n k v key (Some text) ke ve updates = puts_one m n k v key text ke ve updates

-- pairs that may not be known, where they were all put in
pub puts_known_each : {V : Type 0} (mdc : V → Mdc) (a b : V) (pairs : Option (List Pair)) {E : Type 0} (r : Result Unit E)
    → OnOk r (IfSome pairs (λ ps. FoldsTo (λ old pair new. Puts (mdc old) (pair ∷ []) (mdc new)) a ps b))
    → OnOk r (IfSome pairs (λ ps. Puts (mdc a) ps (mdc b)))
puts_known_each mdc a b None (Ok u) h = tt
puts_known_each mdc a b (Some ps) (Ok u) h = puts_each mdc a ps b h
puts_known_each mdc a b pairs (Err e) h = tt
