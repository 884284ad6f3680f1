-- One more piece, and one more argument list.
use Rattle.std.proofs.Common.{◌≡◌, ℕ, zero, suc, ◌<◌, ◌≤◌, true, false, List, [], ◌∷◌, ◌++◌, drop, refl, sym, ap, ◌∙◌, subst, arith, nat_lt, append_assoc, Option}
use Rattle.log4rs_encode.specs.declared.pattern.piece.Parameters.{Parameters}
use Rattle.log4rs_encode.specs.Width.{parameters_of}
use Rattle.std.proofs.lemmas.List.{append-nil}
use Rattle.std.proofs.lemmas.Bool.Decides.{nat_tests}
use Rattle.log4rs_encode.specs.Syntax.{Piece, Pieces, pieces_of, Lists, no_lists, list, lists_of}
use Rattle.log4rs_encode.specs.declared.pattern.piece.Piece as source
use Rattle.log4rs_encode.specs.View.{piece_view, pieces_view}
use Rattle.log4rs_encode.specs.Scan.{begins, is_plain}
use Rattle.log4rs_encode.specs.Spelling.{Parse, plain_run, front_name, argument_of, SpellsArgument, SpellsNoArgument, Ends, Leads, SpellsLists, ListsBelow, SpellsPiece, Spells, max_nesting}
use Rattle.log4rs_encode.proofs.Unique.{Unique, leads_unique, spells_unique, not_behind}

pub leads_more : (R : Parse Piece) (cs mid rest : List ℕ) (ps : List Piece) (p : Piece)
    → Leads R cs (pieces_of ps) mid → R mid p rest → Leads R cs (pieces_of (ps ++ p ∷ [])) rest
leads_more R cs mid rest [] p h next = (rest, subst (λ x. R x p rest) (sym h) next, refl)
leads_more R cs mid rest (q ∷ qs) p h next = (h.0, h.1, leads_more R h.0 mid rest qs p h.2 next)

-- inside an argument list nothing is spelled at a `)`
pub closes : (levels : ℕ) → levels < max_nesting → (mid : List ℕ) → Ends (Spells levels) (41 ∷ mid)
closes levels h mid p rest r =
    let inside : nat_lt levels max_nesting ≡ true = grind (arith, nat_tests) in
    subst (λ b. SpellsPiece b (ListsBelow levels) (41 ∷ mid) p rest) inside r

-- where nothing more is spelled and no `)` stands, no list is closed
pub never_closes : (levels : ℕ) → levels < max_nesting → (cs mid : List ℕ) (ps : Pieces)
    → Leads (Spells levels) cs ps mid → Ends (Spells levels) mid → begins 41 mid ≡ false
    → (qs : Pieces) (rest : List ℕ) → Leads (Spells levels) cs qs (41 ∷ rest) → ⊥
never_closes levels h cs mid ps a ends none qs rest b =
    let le : levels ≤ max_nesting = omega arith in
    let same : (ps ≡ qs) × (mid ≡ 41 ∷ rest) = leads_unique (Spells levels) (spells_unique levels le) cs ps qs mid (41 ∷ rest) a ends b (closes levels h rest) in
    let both : false ≡ true = sym none ∙ ap (begins 41) same.1 in cc

-- the lists before the rest of the text, seen from its start: what follows them, and that no other lists stand there
pub record Listed (L : Parse Lists) (cs mid : List ℕ) (so_far : List Pieces) : Type 0 where
  pub forth : (ls : List Pieces) (rest : List ℕ) → L mid (lists_of ls) rest → L cs (lists_of (so_far ++ ls)) rest
  pub back : (ls : Lists) (rest : List ℕ) → L cs ls rest → (others : Lists) × L mid others rest

pub listed_none : (L : Parse Lists) (cs : List ℕ) → Listed L cs cs []
listed_none L cs = record { forth = λ ls rest h. h; back = λ ls rest h. (ls, h) }

-- one more list
pub listed_more : (levels : ℕ) → levels < max_nesting → (cs mid inner after : List ℕ) (so_far : List Pieces) (ps : Pieces)
    → Listed (ListsBelow (suc levels)) cs mid so_far → mid ≡ 40 ∷ inner → Leads (Spells levels) inner ps (41 ∷ after)
    → Listed (ListsBelow (suc levels)) cs after (so_far ++ ps ∷ [])
unfolding ListsBelow
listed_more levels h cs mid inner after so_far ps listed opens inside = record {
  forth = λ ls rest others.
      rw (append_assoc so_far (ps ∷ []) ls) (listed.forth (ps ∷ ls) rest (inner, after, opens, inside, others));
  back = λ ls rest all. behind (listed.back ls rest all).0 rest (listed.back ls rest all).1;
} where
  behind : (others : Lists) (rest : List ℕ) → SpellsLists (Spells levels) mid others rest → (x : Lists) × SpellsLists (Spells levels) after x rest
  behind no_lists rest a = absurd (not_behind mid rest inner a.0 a.1 opens)
  behind (list qs ms) rest a =
      let same_inner : inner ≡ a.0 = ap (drop 1) (sym opens ∙ a.2) in
      let le : levels ≤ max_nesting = omega arith in
      let same : (ps ≡ qs) × (41 ∷ after ≡ 41 ∷ a.1) = leads_unique (Spells levels) (spells_unique levels le) a.0 ps qs (41 ∷ after) (41 ∷ a.1)
      (subst (λ x. Leads (Spells levels) x ps (41 ∷ after)) same_inner inside) (closes levels h after) a.3 (closes levels h a.1) in
      let same_after : a.1 ≡ after = sym (ap (drop 1) same.1) in
      (ms, subst (λ x. SpellsLists (Spells levels) x ms rest) same_after a.4)

-- the lists are all there are
pub listed_all : (levels : ℕ) (cs mid : List ℕ) (so_far : List Pieces)
    → Listed (ListsBelow levels) cs mid so_far → begins 40 mid ≡ false → ListsBelow levels cs (lists_of so_far) mid
unfolding ListsBelow
listed_all zero cs mid so_far listed none = rw (← append-nil so_far) (listed.forth [] mid (refl, refl, none))
listed_all (suc levels) cs mid so_far listed none = rw (← append-nil so_far) (listed.forth [] mid (refl, none))

-- no list stands where none may open, or where one is never closed
pub listed_deep : (cs mid inner : List ℕ) (so_far : List Pieces) → Listed (ListsBelow zero) cs mid so_far → mid ≡ 40 ∷ inner
    → (ls : Lists) (rest : List ℕ) → ListsBelow zero cs ls rest → ⊥
unfolding ListsBelow
listed_deep cs mid inner so_far listed opens ls rest h =
    let others = (listed.back ls rest h).1 in not_behind mid rest inner others.1 others.2 opens

pub listed_open : (levels : ℕ) (cs mid inner : List ℕ) (so_far : List Pieces) → Listed (ListsBelow (suc levels)) cs mid so_far → mid ≡ 40 ∷ inner
    → ((ps : Pieces) (rest : List ℕ) → Leads (Spells levels) inner ps (41 ∷ rest) → ⊥)
    → (ls : Lists) (rest : List ℕ) → ListsBelow (suc levels) cs ls rest → ⊥
unfolding ListsBelow
listed_open levels cs mid inner so_far listed opens never ls rest h =
    closed (listed.back ls rest h).0 (listed.back ls rest h).1
  where
    closed : (others : Lists) → SpellsLists (Spells levels) mid others rest → ⊥
    closed no_lists a = not_behind mid rest inner a.0 a.1 opens
    closed (list qs ms) a = never qs a.1 (subst (λ x. Leads (Spells levels) x qs (41 ∷ a.1)) (sym (ap (drop 1) (sym opens ∙ a.2))) a.3)

-- one more piece of the source
pub pieces_more : (R : Parse Piece) (cs mid rest : List ℕ) (items : List source.Piece) (next : source.Piece)
    → Leads R cs (pieces_view items) mid → R mid (piece_view next) rest → Leads R cs (pieces_view (items ++ next ∷ [])) rest
pieces_more R cs mid rest [] next h last = (rest, subst (λ x. R x (piece_view next) rest) (sym h) last, refl)
pieces_more R cs mid rest (q ∷ qs) next h last = (h.0, h.1, pieces_more R h.0 mid rest qs next h.2 last)

-- the same where the levels are known by an equation
pub one_more_list : (levels below : ℕ) → levels ≡ suc below → below < max_nesting → (cs mid inner after : List ℕ) (so_far : List Pieces) (ps : Pieces)
    → Listed (ListsBelow levels) cs mid so_far → mid ≡ 40 ∷ inner → Leads (Spells below) inner ps (41 ∷ after)
    → Listed (ListsBelow levels) cs after (so_far ++ ps ∷ [])
one_more_list levels below e h cs mid inner after so_far ps =
    subst (λ n. Listed (ListsBelow n) cs mid so_far → mid ≡ 40 ∷ inner → Leads (Spells below) inner ps (41 ∷ after) → Listed (ListsBelow n) cs after (so_far ++ ps ∷ []))
    (sym e) (listed_more below h cs mid inner after so_far ps)

pub no_level_left : (levels : ℕ) → levels ≡ 0 → (cs mid inner : List ℕ) (so_far : List Pieces) → Listed (ListsBelow levels) cs mid so_far → mid ≡ 40 ∷ inner
    → (ls : Lists) (rest : List ℕ) → ListsBelow levels cs ls rest → ⊥
no_level_left levels e cs mid inner so_far =
    subst (λ n. Listed (ListsBelow n) cs mid so_far → mid ≡ 40 ∷ inner → (ls : Lists) (rest : List ℕ) → ListsBelow n cs ls rest → ⊥)
    (sym e) (listed_deep cs mid inner so_far)

pub never_closed : (levels below : ℕ) → levels ≡ suc below → (cs mid inner : List ℕ) (so_far : List Pieces)
    → Listed (ListsBelow levels) cs mid so_far → mid ≡ 40 ∷ inner
    → ((ps : Pieces) (rest : List ℕ) → Leads (Spells below) inner ps (41 ∷ rest) → ⊥)
    → (ls : Lists) (rest : List ℕ) → ListsBelow levels cs ls rest → ⊥
never_closed levels below e cs mid inner so_far =
    subst (λ n. Listed (ListsBelow n) cs mid so_far → mid ≡ 40 ∷ inner → ((ps : Pieces) (rest : List ℕ) → Leads (Spells below) inner ps (41 ∷ rest) → ⊥)
    → (ls : Lists) (rest : List ℕ) → ListsBelow n cs ls rest → ⊥)
    (sym e) (listed_open below cs mid inner so_far)

-- an argument, from its parts
pub argument_found : (L : Parse Lists) (cs name mid behind after rest : List ℕ) (ls : Lists) (ps : Option Parameters) (p : Piece)
    → front_name cs ≡ (name, mid) → L mid ls behind → parameters_of behind ≡ (ps, after) → after ≡ 125 ∷ rest → p ≡ argument_of name ls ps
    → SpellsArgument L cs p rest
argument_found L cs name mid behind after rest ls ps p e lists f closed made =
    (ls, behind, rw e lists, rw f closed, rw (e, f) made)

-- where the `}` is missing, no argument begins
pub argument_unclosed : (L : Parse Lists) → Unique L → (cs name mid behind after : List ℕ) (ls : Lists) (ps : Option Parameters)
    → front_name cs ≡ (name, mid) → L mid ls behind → parameters_of behind ≡ (ps, after) → begins 125 after ≡ false
    → SpellsNoArgument L cs
argument_unclosed L u cs name mid behind after ls ps e lists f none p rest a =
    let here : L mid a.0 a.1 = rw e at a.2 in
    let same : (ls ≡ a.0) × (behind ≡ a.1) = u mid ls a.0 behind a.1 lists here in
    let closed : after ≡ 125 ∷ rest = sym (ap (λ (x : Option Parameters × List ℕ). x.1) f) ∙ ap (λ m. (parameters_of m).1) same.1 ∙ a.3 in
    let both : false ≡ true = sym none ∙ ap (begins 125) closed in cc

-- a run of plain characters
pub spells_plain : (levels c : ℕ) (text cs : List ℕ) (p : Piece) (rest : List ℕ) → text ≡ c ∷ cs → is_plain c ≡ true
    → plain_run text ≡ (p, rest) → Spells levels text p rest
spells_plain levels c text cs p rest e plain h =
    let first : plain_run (c ∷ cs) ≡ (p, rest) = rw e at h in
    rw (e, plain) (rw plain at (sym (ap (λ (x : Piece × List ℕ). x.0) first)), rw plain at (sym (ap (λ (x : Piece × List ℕ). x.1) first)))
