-- Where a name ends: at its `}`, or at a character that cannot follow in it.
use Rattle.std.proofs.Common.{◌≡◌, ◌∙◌, ◌++◌, ◌||◌, ◌==◌, ◌+◌, ◌<◌, ℕ, suc, drop, drop-cons, subst, Bool, true, false, not, List, [], ◌∷◌, get_or, Some, None, String, Global, BTreeMap, refl, sym, ap, arith, inl, inr, chars, find}
use Rattle.std.proofs.lemmas.Bool.{cases_Bool, and_parts, eqb-true, or_left, true≢false}
use Rattle.std.proofs.lemmas.List.Sums.{passes_at_first, split_at_first}
use Rattle.std.proofs.lemmas.Str.{chars-append, chars_past_char, encode_ascii, IsUtf8-take, IsUtf8-drop, IsCharBoundary-before_ascii}
use Rattle.std.specs.List.{list_all, list_any, before_first, after_first, position_or_len}
use Rattle.std.specs.Option.{option_map_or}
use Rattle.std.specs.Str.{IsUtf8}
use Rattle.log4rs_base.specs.Placeholder.{closes, close_brace}
use Rattle.log4rs_base.specs.Names.{may_begin, may_follow, are_name, is_name, value_in, value_until_brace}
use Rattle.log4rs_base.proofs.Placeholders.{list_any-within}

-- a character that closes a name or cannot follow in one
abbrev pub stops : ℕ → Bool
stops c = closes c || not (may_follow c)

-- each character of a name may follow
name_follows : (cs : List ℕ) → are_name cs ≡ true → list_all may_follow cs ≡ true
name_follows [] name = absurd (true≢false (sym name))
name_follows (c ∷ cs) name =
    let parts = and_parts (may_begin c) (list_all may_follow cs) name in
    rw (or_left (may_begin c) (c == 46) parts.0) parts.1

-- behind characters that may follow the `}` is the first that stops
stops_at_brace : (cs rest : List ℕ) → list_all may_follow cs ≡ true → find stops (cs ++ close_brace ∷ rest) ≡ Some close_brace
stops_at_brace [] rest follow = refl
stops_at_brace (c ∷ cs) rest follow =
    elim (cases_Bool (closes c)) [
      | inl here ↦ rw here (ap Some (eqb-true c close_brace here))
      | inr other ↦
          let parts = and_parts (may_follow c) (list_all may_follow cs) follow in
          rw (other, parts.0) (stops_at_brace cs rest parts.1)
    ]

-- a text at whose front no name is closed has no value
pub no_value : (env : BTreeMap (String Global) (String Global)) (opened : List ℕ) → IsUtf8 opened
    → option_map_or closes (find stops (chars opened)) false ≡ false → value_until_brace (value_in env) opened ≡ None
no_value env opened utf8 none =
    elim (cases_Bool (list_any closes opened)) [
      | inr open_on ↦ rw open_on refl
      | inl closed ↦
          let name = before_first closes opened in
          let behind = after_first closes opened in
          let i = position_or_len closes opened in
          let within : i < _ = list_any-within opened closed in
          let brace : get_or opened i 0 ≡ close_brace = eqb-true _ close_brace (passes_at_first closes opened 0 within) in
          let cut = IsCharBoundary-before_ascii opened i within (omega (arith, brace)) in
          let spelled : IsUtf8 name = IsUtf8-take opened i utf8 cut in
          let next : suc i ≡ i + 1 = omega arith in
          let from_brace : drop i opened ≡ close_brace ∷ behind =
          drop-cons opened i 0 within ∙ ap (λ b. b ∷ drop (suc i) opened) brace ∙ ap (λ n. close_brace ∷ drop n opened) next in
          let rest_spelled : IsUtf8 (close_brace ∷ behind) = subst IsUtf8 from_brace (IsUtf8-drop opened i utf8 cut) in
          let whole : opened ≡ name ++ (close_brace ∷ behind) =
          split_at_first closes opened 0 within ∙ ap (λ b. name ++ (b ∷ behind)) brace in
          let read : chars opened ≡ chars name ++ (close_brace ∷ chars behind) =
          ap chars whole ∙ chars-append name (close_brace ∷ behind) spelled ∙ ap (λ cs. chars name ++ cs) (chars_past_char (close_brace ∷ behind) behind close_brace rest_spelled (sym (ap (λ e. e ++ behind) (encode_ascii close_brace (omega arith))))) in
          elim (cases_Bool (is_name name)) [
            | inl good ↦
                let found : find stops (chars opened) ≡ Some close_brace =
                ap (find stops) read ∙ stops_at_brace (chars name) (chars behind) (name_follows (chars name) good) in
                absurd (true≢false (sym (ap (λ o. option_map_or closes o false) found) ∙ none))
            | inr bad ↦ rw (closed, bad) refl
          ]
    ]
