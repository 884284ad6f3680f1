-- A text spells at most one piece, and a piece is never empty.
use Rattle.std.proofs.Common.{◌≡◌, ℕ, zero, suc, ◌≤◌, Bool, true, false, List, [], ◌∷◌, drop, refl, sym, ap, ◌∙◌, subst, inl, inr, arith, nat_lt, ◌==◌, codes}
use Rattle.std.proofs.lemmas.Bool.Decides.{nat_tests}
use Rattle.log4rs_encode.specs.Syntax.{Piece, Pieces, no_pieces, piece, Lists, no_lists, list}
use Rattle.log4rs_encode.specs.Scan.{begins, is_plain}
use Rattle.log4rs_encode.specs.Width.{parameters_of}
use Rattle.log4rs_encode.specs.Spelling.{Parse, Front, IsFirst, If, Nothing, literal, bracket, escape, plain_run, front_name, argument_of, Ends, Leads, IsPattern, SpellsLists, SpellsNoLists, SpellsArgument, SpellsBrace, SpellsPiece, ListsBelow, Spells, max_nesting}

-- one value and one rest
abbrev pub Unique : {X : Type 0} → Parse X → Type 0
Unique {X} R = (cs : List ℕ) (x y : X) (r s : List ℕ) → R cs x r → R cs y s → (x ≡ y) × (r ≡ s)

abbrev pub UniqueFront : Front → Type 0
UniqueFront P = (p q : Piece) (r s : List ℕ) → P p r → P q s → (p ≡ q) × (r ≡ s)

first_unique : (first : Piece × List ℕ) → UniqueFront (IsFirst first)
first_unique first p q r s a b = (a.0 ∙ sym b.0, a.1 ∙ sym b.1)

if_unique : (b : Bool) (P Q : Front) → UniqueFront P → UniqueFront Q → UniqueFront (If b P Q)
if_unique true P Q u v = u
if_unique false P Q u v = v

nothing_unique : UniqueFront Nothing
nothing_unique p q r s a b = absurd a

argument_unique : (L : Parse Lists) → Unique L → Unique (SpellsArgument L)
argument_unique L u cs p q r s a b =
    let same : (a.0 ≡ b.0) × (a.1 ≡ b.1) = u (front_name cs).1 a.0 b.0 a.1 b.1 a.2 b.2 in
    let behind : 125 ∷ r ≡ 125 ∷ s = sym a.3 ∙ ap (λ m. (parameters_of m).1) same.1 ∙ b.3 in (
      a.4 ∙ ap (λ l. argument_of (front_name cs).0 l (parameters_of a.1).0) same.0
          ∙ ap (λ m. argument_of (front_name cs).0 b.0 (parameters_of m).0) same.1 ∙ sym b.4,
      ap (drop 1) behind,
    )

brace_unique : (L : Parse Lists) → Unique L → (cs : List ℕ) → UniqueFront (SpellsBrace L cs)
brace_unique L u cs p q r s a b = elim a [
  | inl x ↦ elim b [ inl y ↦ argument_unique L u cs p q r s x y | inr n ↦ absurd (n.0 p r x) ]
  | inr m ↦ elim b [ inl y ↦ absurd (m.0 q s y) | inr n ↦ (m.1.0 ∙ sym n.1.0, m.1.1 ∙ sym n.1.1) ]
]

pub piece_unique : (inside : Bool) (L : Parse Lists) → Unique L → Unique (SpellsPiece inside L)
piece_unique inside L u [] = nothing_unique
piece_unique inside L u (c ∷ cs) =
    if_unique (is_plain c) _ _ (first_unique (plain_run (c ∷ cs)))
    (if_unique (c == 123) _ _ (if_unique (begins 123 cs) _ _ (first_unique (literal 123, drop 1 cs)) (brace_unique L u cs))
    (if_unique (c == 125) _ _ (first_unique (bracket 125 (codes "unmatched '}'") cs))
    (if_unique (c == 40) _ _ (first_unique (bracket 40 (codes "unexpected '('") cs))
    (if_unique (c == 41) _ _ (if_unique inside _ _ nothing_unique (first_unique (bracket 41 (codes "unexpected ')'") cs)))
    (first_unique (escape cs))))))

-- where pieces lead on as far as they can, they are the same and end at the same place
pub leads_unique : (R : Parse Piece) → Unique R → (cs : List ℕ) (ps qs : Pieces) (r s : List ℕ)
    → Leads R cs ps r → Ends R r → Leads R cs qs s → Ends R s → (ps ≡ qs) × (r ≡ s)
leads_unique R u cs no_pieces no_pieces r s a ends b stops = (refl, sym a ∙ b)
leads_unique R u cs no_pieces (piece q qs) r s a ends b stops = absurd (ends q b.0 (subst (λ x. R x q b.0) a b.1))
leads_unique R u cs (piece p ps) no_pieces r s a ends b stops = absurd (stops p a.0 (subst (λ x. R x p a.0) b a.1))
leads_unique R u cs (piece p ps) (piece q qs) r s a ends b stops =
    let same : (p ≡ q) × (a.0 ≡ b.0) = u cs p q a.0 b.0 a.1 b.1 in
    let more : (ps ≡ qs) × (r ≡ s) = leads_unique R u b.0 ps qs r s (subst (λ x. Leads R x ps r) same.1 a.2) ends b.2 stops in
    (ap (λ x. piece x ps) same.0 ∙ ap (piece q) more.0, more.1)

pub not_behind : (cs r inner : List ℕ) → cs ≡ r → begins 40 r ≡ false → cs ≡ 40 ∷ inner → ⊥
not_behind cs r inner e none some =
    let both : true ≡ false = ap (begins 40) (sym some ∙ e) ∙ none in cc

pub lists_unique : (R : Parse Piece) → Unique R → ((mid : List ℕ) → Ends R (41 ∷ mid)) → Unique (SpellsLists R)
lists_unique R u closes cs no_lists no_lists r s a b = (refl, sym a.0 ∙ b.0)
lists_unique R u closes cs no_lists (list qs ms) r s a b = absurd (not_behind cs r b.0 a.0 a.1 b.2)
lists_unique R u closes cs (list ps ls) no_lists r s a b = absurd (not_behind cs s a.0 b.0 b.1 a.2)
lists_unique R u closes cs (list ps ls) (list qs ms) r s a b =
    let inner : a.0 ≡ b.0 = ap (drop 1) (sym a.2 ∙ b.2) in
    let same : (ps ≡ qs) × (41 ∷ a.1 ≡ 41 ∷ b.1) =
    leads_unique R u b.0 ps qs (41 ∷ a.1) (41 ∷ b.1) (subst (λ x. Leads R x ps (41 ∷ a.1)) inner a.3) (closes a.1) b.3 (closes b.1) in
    let mid : a.1 ≡ b.1 = ap (drop 1) same.1 in
    let more : (ls ≡ ms) × (r ≡ s) = lists_unique R u closes b.1 ls ms r s (subst (λ x. SpellsLists R x ls r) mid a.4) b.4 in
    (ap (λ x. list x ls) same.0 ∙ ap (list qs) more.0, more.1)

no_lists_unique : Unique SpellsNoLists
no_lists_unique cs x y r s a b = (a.0 ∙ sym b.0, sym a.1 ∙ b.1)

-- inside an argument list nothing begins with `)`
pub list_ends : (L : Parse Lists) (mid : List ℕ) → Ends (SpellsPiece true L) (41 ∷ mid)
list_ends L mid p rest h = h

pub lists_below_unique : (levels : ℕ) → levels ≤ max_nesting → Unique (ListsBelow levels)
unfolding ListsBelow
lists_below_unique zero h = no_lists_unique
lists_below_unique (suc levels) h =
    let inside : nat_lt levels max_nesting ≡ true = grind (arith, nat_tests) in
    let below : levels ≤ max_nesting = omega arith in
    lists_unique _ (piece_unique _ (ListsBelow levels) (lists_below_unique levels below)) (λ mid p rest r. subst (λ b. SpellsPiece b (ListsBelow levels) (41 ∷ mid) p rest) inside r)

pub spells_unique : (levels : ℕ) → levels ≤ max_nesting → Unique (Spells levels)
spells_unique levels h = piece_unique _ (ListsBelow levels) (lists_below_unique levels h)

-- a pattern is one list of pieces
pub pattern_unique : (cs : List ℕ) (ps qs : Pieces) → IsPattern cs ps → IsPattern cs qs → ps ≡ qs
pattern_unique cs ps qs a b =
    let le : max_nesting ≤ max_nesting = omega arith in
    (leads_unique (Spells max_nesting) (spells_unique max_nesting le) cs ps qs _ _ a (λ p rest x. x) b (λ p rest x. x)).0
