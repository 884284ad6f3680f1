-- Each step keeps the law of the history.
use Rattle.std.proofs.Common.{lit<, ◌≡◌, ◌≢◌, ◌⊎◌, ℕ, zero, suc, ◌+◌, ◌-◌, ◌==◌, ◌<◌, Bool, true, false, List, [], ◌∷◌, ◌++◌, length, refl, ap, sym, ◌∙◌, subst, arith, inl, inr, length-append, append-nil, append_assoc, None, Some}
use Rattle.std.specs.Prelude.{Option}
use Rattle.std.specs.List.{last_or}
use Rattle.std.proofs.Math.ListN.{set, length-set}
use Rattle.std.proofs.lemmas.List.{get_or-set_same, get_or-set_other}
use Rattle.std.proofs.lemmas.Bool.{cases_eq}
use Rattle.std.proofs.lemmas.Bool.Decides.{nat_tests}
use mathlib.Core.List.{IsPrefix}
use prog.Atomic.{either}
use Rattle.logbook.specs.Pages.{Cell, cell, Nib, adds, gives, keeps, no_nib, may_write, step, Moves, Goes}
use Rattle.log4rs_threads.specs.Entries.{Adds, Begins, begun, EndsBy, Finds, Gives, IsKept, IsLast}
use Rattle.log4rs_threads.proofs.Beginnings.{prefix_whole, prefix_more}

-- what clients see of a history, and how that moves: nothing
abbrev pub shown : {L : Type 0} → List (Option L × ℕ) → List (Option L × ℕ)
shown log = []

abbrev pub moved : {L : Type 0} → List (Option L × ℕ) → List (Option L × ℕ) → ℕ → Type 0
moved xs ys n = Unit {0}

-- a word more that is not at home looks like none
cell_more : (cs : List Cell) (k : ℕ) → cell (cs ++ (0, false) ∷ []) k ≡ cell cs k
cell_more [] zero = refl
cell_more [] (suc k) = refl
cell_more (c ∷ cs) zero = refl
cell_more (c ∷ cs) (suc k) = cell_more cs k

-- the item behind the others is the last
pub last_behind : {L : Type 0} (before : Option L) (xs : List L) (x : L) → last_or before (xs ++ x ∷ []) ≡ Some x
last_behind before [] x = refl
last_behind before (y ∷ xs) x = last_behind (Some y) xs x

-- an entry of a list and one more is the last, or stands in the list
snoc_split : {A : Type 0} (log : List A) (y : A) (before : List A) (x : A) (after : List A) → log ++ y ∷ [] ≡ before ++ x ∷ after
    → (after ≡ []) ⊎ ((rest : List A) × (log ≡ before ++ x ∷ rest))
snoc_split [] y [] x after e = inl (cc e)
snoc_split [] y (b ∷ []) x after e = absurd (cc e)
snoc_split [] y (b ∷ c ∷ bs) x after e = absurd (cc e)
snoc_split (l ∷ ls) y [] x after e = inr (ls, cc e)
snoc_split (l ∷ ls) y (b ∷ bs) x after e =
    elim (snoc_split ls y bs x after (cc e)) [ inl h ↦ inl h | inr h ↦ inr (h.0, cc (e, h.1)) ]

-- entries whose last names a pen that was not used are all that there is
whole : {L : Type 0} (cs : List Cell) (log known : List (Option L × ℕ)) (key : ℕ) → IsLast cs log → IsPrefix known log → EndsBy key known → (cell cs key).1 ≡ false → log ≡ known
whole cs log known key last pre ends away =
    let all : log ≡ ends.0 ++ (ends.1, key) ∷ pre.0 = sym pre.1 ∙ (ap (λ (w : List _). w ++ pre.0) ends.2 ∙ append_assoc ends.0 ((ends.1, key) ∷ []) pre.0) in
    let none : pre.0 ≡ [] = last ends.0 pre.0 (ends.1, key) all away in
    sym pre.1 ∙ (ap (λ (w : List _). known ++ w) none ∙ append-nil known)

-- an exchange of nothing for nothing leaves the word
same_word_if : (n : ℕ) (b : Bool) → (n == 0) ≡ b → either b 0 n ≡ n
same_word_if n true is =
    let none : n ≡ 0 = grind (arith, nat_tests) in sym none
same_word_if n false is = refl

same_word : (n : ℕ) → either (n == 0) 0 n ≡ n
same_word n = same_word_if n (n == 0) refl

same_words : {L : Type 0} (cs : List Cell) (log : List (Option L × ℕ)) → IsKept cs log → set cs 0 (either ((cell cs 0).0 == 0) 0 (cell cs 0).0, true) ≡ cs
same_words [] log kept = refl
same_words (c ∷ cs) log kept =
    let word : (either (c.0 == 0) 0 c.0, true) ≡ c = ap (λ (n : ℕ). (n, true)) (same_word c.0) ∙ (ap (λ (d : Cell). (d.0, true)) kept.counted ∙ sym kept.counted) in
    ap (λ (d : Cell). d ∷ cs) word

-- a word more
kept_more : {L : Type 0} (cs : List Cell) (log : List (Option L × ℕ)) → IsKept cs log → IsKept (cs ++ (0, false) ∷ []) log
kept_more cs log kept =
    record {
      some = omega (arith, kept.some, length-append cs ((0, false) ∷ []));
      counted = cell_more cs 0 ∙ kept.counted;
      opened = cell_more cs 1 ∙ kept.opened;
      last = λ before after entry is away. kept.last before after entry is (ap (λ (c : Cell). c.1) (sym (cell_more cs entry.1)) ∙ away);
    }

-- whatever the history is by then, a word more is given
pub gives_moves : {L : Type 0} (v : List (Option L × ℕ)) (e : Option L × ℕ)
    → Moves IsKept shown moved 0 (v, (no_nib, None)) (λ n. either (n == 0) 0 n) (Gives (step 0 0 0 e) (v, (no_nib, None)))
gives_moves v e cs log kept pre away =
    let P : List Cell → Type 0 = λ c. IsKept (c ++ (0, false) ∷ []) (log ++ []) in
    let Q : List (Option _ × ℕ) → Type 0 = λ l. IsKept (cs ++ (0, false) ∷ []) l in
    let more : IsKept (cs ++ (0, false) ∷ []) (log ++ []) = subst Q (sym (append-nil log)) (kept_more cs log kept) in (
      omega (arith, kept.some),
      ap (λ (c : Cell). c.1) kept.counted,
      (adds, [], None, tt, subst P (sym (same_words cs log kept)) more, inl (refl, refl), (length cs, refl)),
    )

-- two lists that are one end by one item
named : {L : Type 0} (xs ys : List (Option L × ℕ)) (x y : Option L × ℕ) → xs ++ x ∷ [] ≡ ys ++ y ∷ [] → x.1 ≡ y.1
named xs ys x y e =
    let same : Some x ≡ Some y = sym (last_behind None xs x) ∙ (ap (last_or None) e ∙ last_behind None ys y) in cc same

-- the only item of a list
only_item : {A : Type 0} (y : A) (before : List A) (x : A) (after : List A) → y ∷ [] ≡ before ++ x ∷ after → after ≡ []
only_item y [] x after e = cc e
only_item y (b ∷ []) x after e = absurd (cc e)
only_item y (b ∷ c ∷ bs) x after e = absurd (cc e)

-- the word that counts, after an exchange
head_after : (cs : List Cell) (n : ℕ) → 0 < length cs → cell (set cs 0 (n, true)) 0 ≡ (n, true)
head_after [] n some = absurd (omega arith)
head_after (c ∷ cs) n some = refl

-- the word that tells of the first entry, where it stays as it is
same_second : (cs : List Cell) (n : ℕ) → cell cs 1 ≡ (n, true) → set cs 1 (n, true) ≡ cs
same_second [] n is = refl
same_second (c ∷ []) n is = refl
same_second (c ∷ d ∷ cs) n is = ap (λ (d : Cell). c ∷ d ∷ cs) (sym is)

-- the other word is none of its
zero_not_one : ◌≢◌ {A = ℕ} 0 1
zero_not_one = λ same. absurd (cc same)

one_not_zero : ◌≢◌ {A = ℕ} 1 0
one_not_zero = λ same. absurd (cc same)

begins_goes : {L : Type 0} (cs : List Cell) (log : List (Option L × ℕ)) (v : List (Option L × ℕ)) (e : Option L × ℕ) → IsKept cs log
    → Goes IsKept shown moved 1 (v, (no_nib, None)) (λ n. either (n == 0) 1 n) (Begins (step 1 0 1 e) (v, (no_nib, None))) cs log
begins_goes cs [] v e kept =
    let found : (cell cs 1).0 ≡ 0 = ap (λ (c : Cell). c.0) kept.opened in
    let word : either ((cell cs 1).0 == 0) 1 (cell cs 1).0 ≡ 1 = ap (λ (n : ℕ). either (n == 0) 1 n) found in
    let P : ℕ → Type 0 = λ n. IsKept (set cs 1 (n, true)) (e ∷ []) in
    let next : IsKept (set cs 1 (1, true)) (e ∷ []) = record {
      some = omega (arith, kept.some, length-set {A = Cell});
      counted = get_or-set_other cs 1 0 (1, true) (0, false) zero_not_one ∙ kept.counted;
      opened = get_or-set_same cs 1 (1, true) (0, false) kept.some;
      last = λ before after entry is away. only_item e before entry after is;
    } in
    (keeps, e ∷ [], None, tt, subst P (sym word) next, inl (refl, refl), λ found. refl)
begins_goes cs (l ∷ ls) v e kept =
    let found : (cell cs 1).0 ≡ 1 = ap (λ (c : Cell). c.0) kept.opened in
    let word : either ((cell cs 1).0 == 0) 1 (cell cs 1).0 ≡ 1 = ap (λ (n : ℕ). either (n == 0) 1 n) found in
    let P : ℕ → Type 0 = λ n. IsKept (set cs 1 (n, true)) ((l ∷ ls) ++ []) in
    let Q : List (Option _ × ℕ) → Type 0 = λ all. IsKept (set cs 1 (1, true)) all in
    let R : List Cell → Type 0 = λ c. IsKept c (l ∷ ls) in
    let here : IsKept (set cs 1 (1, true)) (l ∷ ls) = subst R (sym (same_second cs 1 kept.opened)) kept in
    (keeps, [], None, tt, subst P (sym word) (subst Q (sym (append-nil (l ∷ ls))) here), inl (refl, refl), λ none. absurd (cc (found, none)))

-- whatever the history is by then, the first entry is added, or there was one
pub begins_moves : {L : Type 0} (v : List (Option L × ℕ)) (e : Option L × ℕ)
    → Moves IsKept shown moved 1 (v, (no_nib, None)) (λ n. either (n == 0) 1 n) (Begins (step 1 0 1 e) (v, (no_nib, None)))
begins_moves v e cs log kept pre away = (kept.some, ap (λ (c : Cell). c.1) kept.opened, begins_goes cs log v e kept)

-- there is an entry, and one where there are more
begun_some : {L : Type 0} (log : List (Option L × ℕ)) → 0 < length log → begun log ≡ 1
begun_some [] some = absurd (omega arith)
begun_some (l ∷ ls) some = refl

-- an entry more, whose pen the last one names
kept_next : {L : Type 0} (cs : List Cell) (log : List (Option L × ℕ)) (e : Option L × ℕ) (key value : ℕ) → IsKept cs log → EndsBy key log → key < length cs → (cell cs key).1 ≡ false
    → IsKept (set (set cs 0 (length log, true)) key (value, true)) (log ++ e ∷ [])
kept_next cs log e key value kept ends within away =
    let home : (cell cs 0).1 ≡ true = ap (λ (c : Cell). c.1) kept.counted in
    let home' : (cell cs 1).1 ≡ true = ap (λ (c : Cell). c.1) kept.opened in
    let apart : 0 ≢ key = λ same. absurd (cc (home, away, same)) in
    let apart' : 1 ≢ key = λ same. absurd (cc (home', away, same)) in
    let wide : 0 < length cs = omega (arith, kept.some) in
    let mid : List Cell = set cs 0 (length log, true) in
    let size : length mid ≡ length cs = length-set cs 0 (length log, true) in
    let as_cell : ℕ → Cell = λ n. (n, true) in
    let more : length (log ++ e ∷ []) ≡ length log + 1 = length-append log (e ∷ []) in
    let some : 0 < length log = omega (arith, ap length ends.2, length-append ends.0 ((ends.1, key) ∷ [])) in
    let count : length log ≡ length (log ++ e ∷ []) - 1 = omega (arith, more) in
    let there : begun log ≡ begun (log ++ e ∷ []) = begun_some log some ∙ sym (begun_some (log ++ e ∷ []) (omega (arith, more))) in
    record {
      some = omega (arith, kept.some, size, length-set mid key (value, true));
      counted = get_or-set_other mid key 0 (value, true) (0, false) apart ∙ (head_after cs (length log) wide ∙ ap as_cell count);
      opened =
          get_or-set_other mid key 1 (value, true) (0, false) apart'
          ∙ (get_or-set_other cs 0 1 (length log, true) (0, false) one_not_zero ∙ (kept.opened ∙ ap as_cell there));
      last = λ before after entry is used.
          elim (snoc_split log e before entry after is) [
            | inl none ↦ none
            | inr rest ↦ elim (cases_eq entry.1 key) [
              | inl same ↦ absurd (cc (used, ap (λ (k : ℕ). (cell (set mid key (value, true)) k).1) same, ap (λ (c : Cell). c.1) (get_or-set_same mid key (value, true) (0, false) (omega (arith, within, size)))))
              | inr other ↦ elim (cases_eq entry.1 0) [
                | inl front ↦ absurd (cc (used, ap (λ (c : Cell). c.1) (get_or-set_other mid key entry.1 (value, true) (0, false) other), front, ap (λ (c : Cell). c.1) (head_after cs (length log) wide)))
                | inr behind ↦
                    let still : (cell cs entry.1).1 ≡ false =
                    ap (λ (c : Cell). c.1) (sym (get_or-set_other cs 0 entry.1 (length log, true) (0, false) behind))
                    ∙ (ap (λ (c : Cell). c.1) (sym (get_or-set_other mid key entry.1 (value, true) (0, false) other)) ∙ used) in
                    let none : rest.0 ≡ [] = kept.last before rest.0 entry rest.1 still in
                    absurd (other (named before ends.0 entry (ends.1, key) (sym (rest.1 ∙ ap (λ (w : List _). before ++ entry ∷ w) none) ∙ ends.2)))
              ]
            ]
          ];
    }

-- whatever the history is by then, nobody added anything behind an entry that names this pen, and the entry is added
pub adds_moves : {L : Type 0} (v : List (Option L × ℕ)) (e : Option L × ℕ) (old : ℕ) (p : Nib) → length v ≡ old + 1 → p.right ≡ may_write → EndsBy p.key v
    → Moves IsKept shown moved 0 (v, (p, None)) (λ n. either (n == old) (old + 1) n) (Adds (step 0 old (old + 1) e) (v, (p, None)))
adds_moves v e old p len right ends cs log kept pre away =
    let here = away right in
    let all : log ≡ v = whole cs log v p.key kept.last pre ends here.1 in
    let R : List (Option _ × ℕ) → Type 0 = EndsBy p.key in
    let ends' : EndsBy p.key log = subst R (sym all) ends in
    let found : (cell cs 0).0 ≡ old = ap (λ (c : Cell). c.0) kept.counted ∙ omega (arith, ap length all, len) in
    let word : either ((cell cs 0).0 == old) (old + 1) (cell cs 0).0 ≡ length log = grind (arith, nat_tests, found, ap length all, len) in
    let P : ℕ → Type 0 = λ n. IsKept (set (set cs 0 (n, true)) p.key (p.value, true)) (log ++ e ∷ []) in (
      omega (arith, kept.some),
      ap (λ (c : Cell). c.1) kept.counted,
      (
        gives,
        e ∷ [],
        None,
        right,
        subst P (sym word) (kept_next cs log e p.key p.value kept ends' here.0 here.1),
        inl (refl, refl),
        ap (λ (w : List _). w ++ e ∷ []) all,
      ),
    )

-- whatever the history is by then, entries whose last names this pen are all that there is
pub finds_moves : {L : Type 0} (v : List (Option L × ℕ)) (e : Option L × ℕ) (p : Nib)
    → Moves IsKept shown moved 0 (v, (p, None)) (λ n. either (n == 0) 0 n) (Finds (step 0 0 0 e) (v, (p, None)))
finds_moves v e p cs log kept pre away =
    let P : List Cell → Type 0 = λ c. IsKept c (log ++ []) in
    let Q : List (Option _ × ℕ) → Type 0 = λ l. IsKept cs l in
    let more : IsKept cs (log ++ []) = subst Q (sym (append-nil log)) kept in (
      omega (arith, kept.some),
      ap (λ (c : Cell). c.1) kept.counted,
      (
        keeps,
        [],
        None,
        tt,
        subst P (sym (same_words cs log kept)) more,
        inl (refl, refl),
        (
          refl,
          λ right known begins ends.
              let all : log ≡ known = whole cs log known p.key kept.last (prefix_more known v log begins pre) ends (away right).1 in
              prefix_whole v log pre (omega (arith, ap length all, ap length begins.1, length-append known begins.0)) ∙ all,
        ),
      ),
    )

nothing_behind : {A : Type 0} (before : List A) (x : A) (after : List A) → [] ≡ before ++ x ∷ after → after ≡ []
nothing_behind [] x after e = absurd (cc e)
nothing_behind (b ∷ bs) x after e = absurd (cc e)

-- the law holds of a history that was just opened
pub kept_first : {L : Type 0} → IsKept {L = L} ((0, true) ∷ (0, true) ∷ []) []
kept_first = record { some = lit< tt; counted = refl; opened = refl; last = λ before after entry is away. nothing_behind before entry after is }
