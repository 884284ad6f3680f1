-- Every text spells a piece, unless it is empty, or in an argument list begins with `)`.
use Rattle.std.proofs.Common.{◌≡◌, ◌⊎◌, ℕ, zero, suc, ◌<◌, ◌≤◌, Bool, true, false, List, [], ◌∷◌, length, drop, refl, sym, ap, ◌∙◌, subst, inl, inr, arith, nat_lt, ◌==◌, codes}
use Rattle.std.proofs.lemmas.Bool.Decides.{nat_tests}
use Rattle.log4rs_encode.specs.Syntax.{Piece, error, Pieces, no_pieces, piece, Lists, no_lists, list}
use Rattle.log4rs_encode.specs.Scan.{begins, is_plain}
use Rattle.log4rs_encode.specs.Width.{parameters_of}
use Rattle.log4rs_encode.specs.Spelling.{Parse, Front, IsFirst, If, literal, bracket, escape, plain_run, front_name, argument_of, Ends, Leads, SpellsLists, SpellsNoLists, SpellsArgument, SpellsNoArgument, SpellsBrace, SpellsPiece, ListsBelow, Spells, max_nesting}
use Rattle.log4rs_encode.proofs.Unique.{Unique, lists_below_unique, spells_unique, not_behind, leads_unique}
use Rattle.log4rs_encode.proofs.Progress.{Consumes, spells_consumes, list_shorter}
use Rattle.log4rs_encode.proofs.Steps.{closes}

abbrev pub Has : Front → Type 0
Has P = (p : Piece) × (rest : List ℕ) × P p rest

first_has : (first : Piece × List ℕ) → Has (IsFirst first)
first_has first = (first.0, first.1, (refl, refl))

if_has : (b : Bool) (P Q : Front) → (b ≡ true → Has P) → (b ≡ false → Has Q) → Has (If b P Q)
if_has true P Q p q = p refl
if_has false P Q p q = q refl

-- what begins with the character
cons_from_begins : (c : ℕ) (cs : List ℕ) → begins c cs ≡ true → cs ≡ c ∷ drop 1 cs
cons_from_begins c [] h = cc
cons_from_begins c (d ∷ cs) h = let same : d ≡ c = grind (arith, nat_tests) in ap (λ x. x ∷ cs) same

abbrev pub IsDecided : Parse Lists → Type 0
IsDecided L = (cs : List ℕ) → ((ls : Lists) × (rest : List ℕ) × L cs ls rest) ⊎ ((ls : Lists) (rest : List ℕ) → L cs ls rest → ⊥)

argument_decided : (L : Parse Lists) → Unique L → IsDecided L → (cs : List ℕ) → Has (SpellsArgument L cs) ⊎ SpellsNoArgument L cs
argument_decided L u decide cs = elim (decide (front_name cs).1) [
  | inl h ↦ by_brace h.0 h.1 h.2 (begins 125 (parameters_of h.1).1) refl
  | inr none ↦ inr (λ p rest a. none a.0 a.1 a.2)
]
  where
    by_brace : (ls : Lists) (behind : List ℕ) → L (front_name cs).1 ls behind → (b : Bool) → begins 125 (parameters_of behind).1 ≡ b
        → Has (SpellsArgument L cs) ⊎ SpellsNoArgument L cs
    by_brace ls behind h true e =
        inl (argument_of (front_name cs).0 ls (parameters_of behind).0, drop 1 (parameters_of behind).1, (ls, behind, h, cons_from_begins 125 _ e, refl))
    by_brace ls behind h false e = inr (λ p rest a.
        let same : (ls ≡ a.0) × (behind ≡ a.1) = u (front_name cs).1 ls a.0 behind a.1 h a.2 in
        let closed : begins 125 (parameters_of behind).1 ≡ true = ap (λ m. begins 125 (parameters_of m).1) same.1 ∙ ap (begins 125) a.3 in
        let both : false ≡ true = sym e ∙ closed in cc)

brace_has : (L : Parse Lists) → Unique L → IsDecided L → (cs : List ℕ) → Has (SpellsBrace L cs)
brace_has L u decide cs = elim (argument_decided L u decide cs) [
  | inl h ↦ (h.0, h.1, inl h.2)
  | inr none ↦ (error (codes "expected '}'"), [], inr (none, (refl, refl)))
]

-- something is spelled
pub piece_has : (inside : Bool) (L : Parse Lists) → Unique L → IsDecided L → (c : ℕ) (cs : List ℕ)
    → (inside ≡ true → (c == 41) ≡ false) → Has (SpellsPiece inside L (c ∷ cs))
piece_has inside L u decide c cs open_end =
    if_has (is_plain c) _ _ (λ _. first_has (plain_run (c ∷ cs))) (λ _.
    if_has (c == 123) _ _ (λ _. if_has (begins 123 cs) _ _ (λ _. first_has (literal 123, drop 1 cs)) (λ _. brace_has L u decide cs)) (λ _.
    if_has (c == 125) _ _ (λ _. first_has (bracket 125 (codes "unmatched '}'") cs)) (λ _.
    if_has (c == 40) _ _ (λ _. first_has (bracket 40 (codes "unexpected '('") cs)) (λ _.
    if_has (c == 41) _ _ (λ closing. if_has inside _ _
    (λ within. let both : true ≡ false = sym closing ∙ open_end within in cc)
    (λ _. first_has (bracket 41 (codes "unexpected ')'") cs)))
    (λ _. first_has (escape cs))))))

-- whether pieces lead to a `)`
abbrev pub IsClosed : Parse Piece → List ℕ → Type 0
IsClosed R cs = (ps : Pieces) × (rest : List ℕ) × Leads R cs ps (41 ∷ rest)

abbrev pub NeverCloses : Parse Piece → List ℕ → Type 0
NeverCloses R cs = (ps : Pieces) (rest : List ℕ) → Leads R cs ps (41 ∷ rest) → ⊥

pub leads_decided : (R : Parse Piece) → Unique R → Consumes R → ((mid : List ℕ) → Ends R (41 ∷ mid)) → Ends R []
    → ((c : ℕ) (cs : List ℕ) → (c == 41) ≡ false → Has (R (c ∷ cs)))
    → (fuel : ℕ) (cs : List ℕ) → length cs ≤ fuel → IsClosed R cs ⊎ NeverCloses R cs
leads_decided R u consumes ends empty has fuel [] h = inr never
  where
    never : NeverCloses R []
    never no_pieces rest a = cc
    never (piece p ps) rest a = empty p a.0 a.1
leads_decided R u consumes ends empty has zero (c ∷ cs) h = absurd (omega arith)
leads_decided R u consumes ends empty has (suc fuel) (c ∷ cs) h =
    by_close (λ mid enough. leads_decided R u consumes ends empty has fuel mid enough) (c == 41) refl
  where
    go_on : (c == 41) ≡ false → (p : Piece) (mid : List ℕ) → R (c ∷ cs) p mid → IsClosed R mid ⊎ NeverCloses R mid → IsClosed R (c ∷ cs) ⊎ NeverCloses R (c ∷ cs)
    go_on open_end p mid r (inl closed) = inl (piece p closed.0, closed.1, (mid, r, closed.2))
    go_on open_end p mid r (inr never) = inr still
      where
        still : NeverCloses R (c ∷ cs)
        still no_pieces rest a = let both : (c == 41) ≡ true = ap (begins 41) a in let clash : false ≡ true = sym open_end ∙ both in cc
        still (piece q qs) rest a =
            let same : (q ≡ p) × (a.0 ≡ mid) = u (c ∷ cs) q p a.0 mid a.1 r in never qs rest (subst (λ m. Leads R m qs (41 ∷ rest)) same.1 a.2)

    by_close : ((mid : List ℕ) → length mid ≤ fuel → IsClosed R mid ⊎ NeverCloses R mid) → (b : Bool) → (c == 41) ≡ b → IsClosed R (c ∷ cs) ⊎ NeverCloses R (c ∷ cs)
    by_close again true e = let same : c ≡ 41 = grind (arith, nat_tests) in inl (no_pieces, cs, ap (λ x. x ∷ cs) same)
    by_close again false e =
        let next : Has (R (c ∷ cs)) = has c cs e in
        let shorter : length next.1 < length (c ∷ cs) = consumes (c ∷ cs) next.0 next.1 next.2 in
        let enough : length next.1 ≤ fuel = omega arith in
        go_on e next.0 next.1 next.2 (again next.1 enough)

-- whether argument lists stand at the front of the text
pub lists_decided : (levels : ℕ) → levels < max_nesting → ((cs : List ℕ) → IsClosed (Spells levels) cs ⊎ NeverCloses (Spells levels) cs)
    → (fuel : ℕ) (cs : List ℕ) → length cs ≤ fuel
    → ((ls : Lists) × (rest : List ℕ) × SpellsLists (Spells levels) cs ls rest) ⊎ ((ls : Lists) (rest : List ℕ) → SpellsLists (Spells levels) cs ls rest → ⊥)
lists_decided levels h closed zero cs le = by_open (begins 40 cs) refl
  where
    by_open : (b : Bool) → begins 40 cs ≡ b
        → ((ls : Lists) × (rest : List ℕ) × SpellsLists (Spells levels) cs ls rest) ⊎ ((ls : Lists) (rest : List ℕ) → SpellsLists (Spells levels) cs ls rest → ⊥)
    by_open true e = let front : length cs ≡ length (40 ∷ drop 1 cs) = ap length (cons_from_begins 40 cs e) in absurd (omega arith)
    by_open false e = inl (no_lists, cs, (refl, e))
lists_decided levels h closed (suc fuel) cs le = by_open (λ mid enough. lists_decided levels h closed fuel mid enough) (begins 40 cs) refl
  where
    Answer : List ℕ → Type 0
    Answer mid = ((ls : Lists) × (rest : List ℕ) × SpellsLists (Spells levels) mid ls rest) ⊎ ((ls : Lists) (rest : List ℕ) → SpellsLists (Spells levels) mid ls rest → ⊥)

    by_rest : (ps : Pieces) (mid : List ℕ) → cs ≡ 40 ∷ drop 1 cs → Leads (Spells levels) (drop 1 cs) ps (41 ∷ mid) → Answer mid → Answer cs
    by_rest ps mid e inside (inl others) = inl (list ps others.0, others.1, (drop 1 cs, mid, e, inside, others.2))
    by_rest ps mid e inside (inr none) = inr still
      where
        still : (ls : Lists) (rest : List ℕ) → SpellsLists (Spells levels) cs ls rest → ⊥
        still no_lists rest a = not_behind cs rest (drop 1 cs) a.0 a.1 e
        still (list qs ms) rest a =
            let le_max : levels ≤ max_nesting = omega arith in
            let inner : a.0 ≡ drop 1 cs = sym (ap (drop 1) a.2) in
            let same : (qs ≡ ps) × (41 ∷ a.1 ≡ 41 ∷ mid) = leads_unique (Spells levels) (spells_unique levels le_max) (drop 1 cs) qs ps (41 ∷ a.1) (41 ∷ mid)
            (subst (λ m. Leads (Spells levels) m qs (41 ∷ a.1)) inner a.3) (closes levels h a.1) inside (closes levels h mid) in
            none ms rest (subst (λ m. SpellsLists (Spells levels) m ms rest) (ap (drop 1) same.1) a.4)

    by_close : ((mid : List ℕ) → length mid ≤ fuel → Answer mid) → cs ≡ 40 ∷ drop 1 cs → IsClosed (Spells levels) (drop 1 cs) ⊎ NeverCloses (Spells levels) (drop 1 cs) → Answer cs
    by_close again e (inl inside) =
        let shorter : length inside.1 < length cs = list_shorter levels cs (drop 1 cs) inside.1 inside.0 e inside.2 in
        let enough : length inside.1 ≤ fuel = omega arith in
        by_rest inside.0 inside.1 e inside.2 (again inside.1 enough)
    by_close again e (inr never) = inr still
      where
        still : (ls : Lists) (rest : List ℕ) → SpellsLists (Spells levels) cs ls rest → ⊥
        still no_lists rest a = not_behind cs rest (drop 1 cs) a.0 a.1 e
        still (list qs ms) rest a = never qs a.1 (subst (λ m. Leads (Spells levels) m qs (41 ∷ a.1)) (sym (ap (drop 1) a.2)) a.3)

    by_open : ((mid : List ℕ) → length mid ≤ fuel → Answer mid) → (b : Bool) → begins 40 cs ≡ b → Answer cs
    by_open again true e = by_close again (cons_from_begins 40 cs e) (closed (drop 1 cs))
    by_open again false e = inl (no_lists, cs, (refl, e))

-- whether argument lists stand at the front of a text in which so many levels may open
pub lists_below_decided : (levels : ℕ) → levels ≤ max_nesting → IsDecided (ListsBelow levels)
unfolding ListsBelow
lists_below_decided zero h cs = by_open (begins 40 cs) refl
  where
    by_open : (b : Bool) → begins 40 cs ≡ b → ((ls : Lists) × (rest : List ℕ) × SpellsNoLists cs ls rest) ⊎ ((ls : Lists) (rest : List ℕ) → SpellsNoLists cs ls rest → ⊥)
    by_open true e = inr (λ ls rest a. let both : true ≡ false = sym e ∙ ap (begins 40) a.1 ∙ a.2 in cc)
    by_open false e = inl (no_lists, cs, (refl, refl, e))
lists_below_decided (suc levels) h cs =
    let below : levels ≤ max_nesting = omega arith in
    let room : levels < max_nesting = omega arith in
    let inside : nat_lt levels max_nesting ≡ true = grind (arith, nat_tests) in
    let has : (c : ℕ) (ds : List ℕ) → (c == 41) ≡ false → Has (Spells levels (c ∷ ds)) =
    λ c ds e. piece_has (nat_lt levels max_nesting) (ListsBelow levels) (lists_below_unique levels below) (lists_below_decided levels below) c ds (λ _. e) in
    let closed : (ds : List ℕ) → IsClosed (Spells levels) ds ⊎ NeverCloses (Spells levels) ds =
    λ ds. leads_decided (Spells levels) (spells_unique levels below) (spells_consumes levels) (closes levels room) (λ p rest a. a) has (length ds) ds (omega arith) in
    lists_decided levels room closed (length cs) cs (omega arith)

-- at the outermost depth every text but the empty one spells a piece, and at another one every such text that does not begin with `)`
pub spells_exists : (levels : ℕ) → levels ≤ max_nesting → (c : ℕ) (cs : List ℕ) → (levels < max_nesting → (c == 41) ≡ false) → Has (Spells levels (c ∷ cs))
spells_exists levels h c cs open_end =
    piece_has (nat_lt levels max_nesting) (ListsBelow levels) (lists_below_unique levels h) (lists_below_decided levels h) c cs
    (λ inside. let room : levels < max_nesting = grind (arith, nat_tests) in open_end room)

pub at_the_end : (cs : List ℕ) → Ends (Spells max_nesting) cs → cs ≡ []
at_the_end [] ends = refl
at_the_end (c ∷ cs) ends =
    let next : Has (Spells max_nesting (c ∷ cs)) = spells_exists max_nesting (omega arith) c cs (λ h. absurd (omega arith)) in
    absurd (ends next.0 next.1 next.2)

-- every text is a pattern
pub pattern_exists : (fuel : ℕ) (cs : List ℕ) → length cs ≤ fuel → (ps : Pieces) × Leads (Spells max_nesting) cs ps []
pattern_exists fuel [] enough = (no_pieces, refl)
pattern_exists zero (c ∷ cs) enough = absurd (omega arith)
pattern_exists (suc fuel) (c ∷ cs) enough =
    let next : Has (Spells max_nesting (c ∷ cs)) = spells_exists max_nesting (omega arith) c cs (λ h. absurd (omega arith)) in
    let shorter : length next.1 < length (c ∷ cs) = spells_consumes max_nesting (c ∷ cs) next.0 next.1 next.2 in
    let more = pattern_exists fuel next.1 (omega arith) in
    (piece next.0 more.0, (next.1, next.2, more.1))
