-- What a piece leaves is shorter than the text.
use Rattle.std.proofs.Common.{◌≡◌, ℕ, zero, suc, ◌<◌, ◌≤◌, Bool, true, false, List, [], ◌∷◌, length, drop, refl, sym, ap, subst, inl, inr, arith, ◌==◌, codes}
use Rattle.std.specs.Char.{is_ascii_digit}
use Rattle.std.proofs.lemmas.Grind.{common_steps}
use Rattle.log4rs_encode.specs.Syntax.{Piece, Pieces, no_pieces, piece, Lists, no_lists, list}
use Rattle.log4rs_encode.specs.Scan.{begins, after_leading, is_plain, is_alphanumeric}
use Rattle.log4rs_encode.specs.Width.{fill_of, align_of, right_truncate_of, maximum_of, given_parameters, parameters_of}
use Rattle.log4rs_encode.specs.Spelling.{Parse, Front, IsFirst, If, Nothing, literal, bracket, escape, plain_run, front_name, Leads, SpellsLists, SpellsNoLists, SpellsBrace, SpellsPiece, ListsBelow, Spells}

after_leading-le : (p : ℕ → Bool) (cs : List ℕ) → length (after_leading p cs) ≤ length cs
after_leading-le p [] = omega arith
after_leading-le p (c ∷ cs) = grind (arith, after_leading-le p cs)

fill-le : (cs : List ℕ) → length (fill_of cs).1 ≤ length cs
fill-le [] = omega arith
fill-le (c ∷ cs) = grind (arith, common_steps)

align-le : (cs : List ℕ) → length (align_of cs).1 ≤ length cs
align-le cs = grind (arith, common_steps)

right_truncate-le : (cs : List ℕ) → length (right_truncate_of cs).1 ≤ length cs
right_truncate-le cs = grind (arith, common_steps)

maximum-le : (cs : List ℕ) → length (maximum_of cs).1 ≤ length cs
maximum-le cs = grind (arith, common_steps, after_leading-le is_ascii_digit (drop 1 cs))

given-le : (cs : List ℕ) → length (given_parameters cs).1 ≤ length cs
given-le cs =
    let align : List ℕ = (fill_of cs).1 in
    let truncate : List ℕ = (align_of align).1 in
    let min : List ℕ = (right_truncate_of truncate).1 in
    omega (arith, fill-le cs, align-le align, right_truncate-le truncate, after_leading-le is_ascii_digit min, maximum-le (after_leading is_ascii_digit min))

parameters-le : (cs : List ℕ) → length (parameters_of cs).1 ≤ length cs
parameters-le cs = grind (arith, common_steps, given-le (drop 1 cs))

name-le : (cs : List ℕ) → length (front_name cs).1 ≤ length cs
name-le [] = omega arith
name-le (c ∷ cs) = grind (arith, common_steps, after_leading-le is_alphanumeric cs)

bracket-le : (c : ℕ) (message cs : List ℕ) → length (bracket c message cs).1 ≤ length cs
bracket-le c message cs = grind (arith, common_steps)

escape-le : (cs : List ℕ) → length (escape cs).1 ≤ length cs
escape-le [] = omega arith
escape-le (c ∷ cs) = grind (arith, common_steps)

-- what is left has at most this length
abbrev pub Within : Front → ℕ → Type 0
Within P n = (p : Piece) (rest : List ℕ) → P p rest → length rest ≤ n

first_within : (first : Piece × List ℕ) (n : ℕ) → length first.1 ≤ n → Within (IsFirst first) n
first_within first n h p rest e = subst (λ (r : List ℕ). length r ≤ n) (sym e.1) h

if_within : (b : Bool) (P Q : Front) (n : ℕ) → (b ≡ true → Within P n) → Within Q n → Within (If b P Q) n
if_within true P Q n u v = u refl
if_within false P Q n u v = v

otherwise : (b : Bool) (P Q : Front) (n : ℕ) → Within P n → Within Q n → Within (If b P Q) n
otherwise b P Q n u v = if_within b P Q n (λ _. u) v

plain_within : (c : ℕ) (cs : List ℕ) → is_plain c ≡ true → Within (IsFirst (plain_run (c ∷ cs))) (length cs)
plain_within c cs e = first_within (plain_run (c ∷ cs)) _ (rw e (after_leading-le is_plain cs))

-- what is read is at the front of the text
abbrev pub Shrinks : {X : Type 0} → Parse X → Type 0
Shrinks {X} R = (cs : List ℕ) (x : X) (rest : List ℕ) → R cs x rest → length rest ≤ length cs

abbrev pub Consumes : Parse Piece → Type 0
Consumes R = (cs : List ℕ) (p : Piece) (rest : List ℕ) → R cs p rest → length rest < length cs

brace_within : (L : Parse Lists) → Shrinks L → (cs : List ℕ) → Within (SpellsBrace L cs) (length cs)
brace_within L shrinks cs p rest h = elim h [
  | inl a ↦
      let behind : length a.1 ≤ length (front_name cs).1 = shrinks (front_name cs).1 a.0 a.1 a.2 in
      let closed : length (parameters_of a.1).1 ≡ length (125 ∷ rest) = ap length a.3 in
      omega (arith, name-le cs, parameters-le a.1)
  | inr n ↦ rw n.1.1 (omega arith)
]

piece_consumes : (inside : Bool) (L : Parse Lists) → Shrinks L → Consumes (SpellsPiece inside L)
piece_consumes inside L shrinks [] p rest h = absurd h
piece_consumes inside L shrinks (c ∷ cs) p rest h =
    let within : Within (SpellsPiece inside L (c ∷ cs)) (length cs) =
    if_within (is_plain c) _ _ _ (plain_within c cs)
    (otherwise (c == 123) _ _ _ (otherwise (begins 123 cs) _ _ _ (first_within (literal 123, drop 1 cs) _ (grind (arith, common_steps))) (brace_within L shrinks cs))
    (otherwise (c == 125) _ _ _ (first_within (bracket 125 (codes "unmatched '}'") cs) _ (bracket-le _ _ cs))
    (otherwise (c == 40) _ _ _ (first_within (bracket 40 (codes "unexpected '('") cs) _ (bracket-le _ _ cs))
    (otherwise (c == 41) _ _ _ (otherwise inside Nothing _ _ (λ q r e. absurd e) (first_within (bracket 41 (codes "unexpected ')'") cs) _ (bracket-le _ _ cs)))
    (first_within (escape cs) _ (escape-le cs)))))) in
    let le : length rest ≤ length cs = within p rest h in omega arith

leads_shrinks : (R : Parse Piece) → Consumes R → Shrinks (Leads R)
leads_shrinks R consumes cs no_pieces rest h = rw h (omega arith)
leads_shrinks R consumes cs (piece p ps) rest h =
    let first : length h.0 < length cs = consumes cs p h.0 h.1 in
    let others : length rest ≤ length h.0 = leads_shrinks R consumes h.0 ps rest h.2 in omega arith

lists_shrinks : (R : Parse Piece) → Consumes R → Shrinks (SpellsLists R)
lists_shrinks R consumes cs no_lists rest h = rw h.0 (omega arith)
lists_shrinks R consumes cs (list ps ls) rest h =
    let opens : length cs ≡ length (40 ∷ h.0) = ap length h.2 in
    let first : length (41 ∷ h.1) ≤ length h.0 = leads_shrinks R consumes h.0 ps (41 ∷ h.1) h.3 in
    let others : length rest ≤ length h.1 = lists_shrinks R consumes h.1 ls rest h.4 in omega arith

no_lists_shrink : Shrinks SpellsNoLists
no_lists_shrink cs ls rest h = rw h.1 (omega arith)

pub lists_below_shrink : (levels : ℕ) → Shrinks (ListsBelow levels)
unfolding ListsBelow
lists_below_shrink zero = no_lists_shrink
lists_below_shrink (suc levels) = lists_shrinks _ (piece_consumes _ (ListsBelow levels) (lists_below_shrink levels))

pub spells_consumes : (levels : ℕ) → Consumes (Spells levels)
spells_consumes levels = piece_consumes _ (ListsBelow levels) (lists_below_shrink levels)

pub list_shorter : (levels : ℕ) (mid inner after : List ℕ) (ps : Pieces) → mid ≡ 40 ∷ inner → Leads (Spells levels) inner ps (41 ∷ after)
    → length after < length mid
list_shorter levels mid inner after ps opens inside =
    let front : length mid ≡ length (40 ∷ inner) = ap length opens in
    let shorter : length (41 ∷ after) ≤ length inner = leads_shrinks (Spells levels) (spells_consumes levels) inner ps (41 ∷ after) inside in
    omega arith
