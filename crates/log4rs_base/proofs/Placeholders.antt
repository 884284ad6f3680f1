-- Where a text begins with a placeholder, and where it does not.
use Rattle.std.proofs.Common.{◌≡◌, ◌≢◌, ◌∙◌, ◌+◌, ◌-◌, ◌<◌, ◌≤◌, ◌++◌, true, false, ℕ, suc, List, [], ◌∷◌, length, drop, take, get_or, Some, None, Bor, refl, sym, ap, subst, arith, inl, inr, ltb-true, ltb-false, ne_eqb, nat_lt, nat_eq}
use Rattle.std.proofs.lemmas.Bool.{cases_Bool, true≢false}
use Rattle.std.proofs.lemmas.Bool.Decides.{Decides-eqb}
use Rattle.std.proofs.lemmas.List.{length-drop}
use Rattle.std.proofs.lemmas.List.Folds.{list_any_at, list_any_none}
use Rattle.std.proofs.lemmas.List.Sums.{fails_before_first, passes_at_first}
use Rattle.std.proofs.lemmas.Slice.Eq.{starts_is}
use Rattle.std.proofs.lemmas.Str.Pattern.{split_parts, split_once_first, IsSplitOnceResult}
use Rattle.std.proofs.Math.Seq.{drop-drop, get_or-drop}
use Rattle.std.specs.List.{list_any, starts_with, position_or_len}
use Rattle.std.specs.Str.Pattern.{FindsText}
use Rattle.log4rs_base.specs.Placeholder.{closes, close_brace, until_brace, enclosed, time_opening}
use Rattle.log4rs_base.specs.First.{NeverOpens}

-- no byte of the text is a `}`
abbrev pub NeverCloses : List ℕ → Type 0
NeverCloses text = (k : ℕ) → k < length text → get_or text k 0 ≢ close_brace

list_any-none : (text : List ℕ) → NeverCloses text → list_any closes text ≡ false
list_any-none [] never = refl
list_any-none (b ∷ rest) never =
    rw (ne_eqb b close_brace (never 0 (omega arith)))
    (list_any-none rest (λ k h. never (suc k) (omega (arith, h))))

pub until_brace-none : (text : List ℕ) → NeverCloses text → until_brace text ≡ None
until_brace-none text never = rw (list_any-none text never) refl

-- what the split at the first `}` gives
pub until_brace-split : (text : List ℕ) (x : Bor (List ℕ) × Bor (List ℕ)) → IsSplitOnceResult close_brace text (Some x)
    → until_brace text ≡ Some x.0.now
until_brace-split text x split =
    let first = split_once_first close_brace text (Some x) split (omega arith) in
    let some : list_any closes text ≡ true =
    list_any_at closes text (position_or_len closes text) 0 first.0 (passes_at_first closes text 0 first.0) in
    rw some (ap Some (sym first.1))

pub until_brace-no_split : (text : List ℕ) → IsSplitOnceResult close_brace text None → until_brace text ≡ None
until_brace-no_split text split = until_brace-none text (split_parts close_brace text None split (omega arith))

-- a text with a `}` has a first one
pub list_any-within : (text : List ℕ) → list_any closes text ≡ true → position_or_len closes text < length text
list_any-within text some =
    elim (cases_Bool (nat_lt (position_or_len closes text) (length text))) [
      | inl within ↦ ltb-true _ _ within
      | inr other ↦
          let past : length text ≤ position_or_len closes text = ltb-false _ _ other in
          let none : list_any closes text ≡ false =
          list_any_none closes text (λ k d l. fails_before_first closes text k d (omega (arith, past, l))) in
          absurd (true≢false (sym some ∙ none))
    ]

-- where the opening does not stand, nothing is enclosed
pub enclosed-lacks : (opening text : List ℕ) → ((rest : List ℕ) → text ≢ opening ++ rest)
    → enclosed opening text ≡ None
enclosed-lacks opening text lacks =
    elim (cases_Bool (starts_with nat_eq text opening)) [
      | inl begins ↦ absurd (lacks _ ((starts_is Decides-eqb text opening _ refl).0 begins))
      | inr other ↦ rw other refl
    ]

-- nor where nothing closes it
enclosed-open : (opening text : List ℕ) → NeverCloses (drop (length opening) text)
    → enclosed opening text ≡ None
enclosed-open opening text never =
    elim (cases_Bool (starts_with nat_eq text opening)) [
      | inl begins ↦ rw begins (until_brace-none (drop (length opening) text) never)
      | inr other ↦ rw other refl
    ]

-- what a split at the first opening gives
abbrev pub IsOpened : List ℕ → List ℕ → Bor (List ℕ) × Bor (List ℕ) → Type 0
IsOpened opening text x =
    (i : ℕ) × (j : ℕ) × FindsText opening text (Some (i, j)) × (x.0.now ≡ take i text)
    × (x.1.now ≡ drop j text) × (i ≤ j) × (length x.0.now ≡ i) × (length x.1.now + j ≡ length text)

pub no_opening : (text : List ℕ) → FindsText time_opening text None → NeverOpens text
no_opening text lacks i h = enclosed-lacks time_opening (drop i text) (lacks i (omega (arith, h)))

pub no_closing : (text : List ℕ) (x : Bor (List ℕ) × Bor (List ℕ)) → IsOpened time_opening text x → NeverCloses x.1.now
    → NeverOpens text
no_closing text x at open_on k h =
    elim (cases_Bool (nat_lt k at.0)) [
      | inl before ↦ enclosed-lacks time_opening (drop k text) (at.2.0 k (ltb-true _ _ before))
      | inr behind ↦
          let past : at.0 ≤ k = ltb-false _ _ behind in
          let ends : at.1 ≡ at.0 + 6 = at.2.1.ends in
          let moved : drop 6 (drop k text) ≡ drop (k - at.0) x.1.now =
          drop-drop 6 k text ∙ ap (λ n. drop n text) (omega (arith, past, ends)) ∙ sym (drop-drop (k - at.0) at.1 text)
          ∙ ap (drop (k - at.0)) (sym at.4) in
          enclosed-open time_opening (drop k text)
          (λ n l e.
          let l' : n < length (drop (k - at.0) x.1.now) = subst (λ t. n < length t) moved l in
          open_on (k - at.0 + n) (omega (arith, l', length-drop (k - at.0) x.1.now))
          (sym (get_or-drop (k - at.0) x.1.now n 0) ∙ ap (λ t. get_or t n 0) (sym moved) ∙ e))
    ]
