use Rattle.std.proofs.Common.{◌≡◌, ◌≤◌, ◌<◌, ◌-◌, ℕ, suc, length, ◌∷◌, false, arith, rules, inr}
use Rattle.std.proofs.lemmas.Str.{chars-nil}
use Rattle.std.proofs.lemmas.List.{map-append}
use Rattle.std.specs.Str.{chars}
use Rattle.std.specs.Str.Iter.{chars_rest}
use Rattle.log4rs_encode.specs.Spelling.{Leads, ListsBelow, Spells, Ends, max_nesting}
use Rattle.log4rs_encode.specs.Scan.{begins}
use Rattle.log4rs_encode.specs.View.{piece_view, pieces_view}
use Rattle.log4rs_encode.proofs.Progress.{spells_consumes, list_shorter}
use Rattle.log4rs_encode.proofs.Unique.{lists_below_unique}
use Rattle.log4rs_encode.proofs.Steps.{spells_plain, pieces_more, never_closes, listed_all, one_more_list, no_level_left, never_closed, argument_found, argument_unclosed}
use Rattle.log4rs_encode.proofs.pattern.parser.+parser.Goals as goal
use Rattle.log4rs_encode.proofs.pattern.parser.+parser.Goals.{piece-in-123+in_ok-found-in-123, piece-in-125+in_ok-found-in-125, piece-in-40+in_ok-found-in-40, piece-in-41-2+in_ok-found-in-41-2, piece-in-92+in_ok-found-in-92, piece-in_default-c}

-- the piece that the loop has read
spelled : (t : ℕ) (c : goal.list-After-chars-rest-in-Some t)
    → Spells c.args.levels (chars (chars_rest c.loop-pieces.rest)) (piece_view c.in-Some.next) (chars c.in-Some.after.now)
spelled t c = rw (← c.as_str.ensures) (rw c.in-Some.is at c.in_ok-next.ensures)

pub list-loop-pieces-preserved : goal.list-loop-pieces-preserved
list-loop-pieces-preserved t c =
    rw (c.in_ok-push.ensures.items, c.chars-rest-in-Some.ensures.rest)
    (pieces_more (Spells c.args.levels) (chars c.args.text.now) _ (chars c.in-Some.after.now) c.loop-pieces.pieces.items c.in-Some.next
    c.loop-pieces.invariant (spelled t c))

pub list-loop-pieces-smaller : goal.list-loop-pieces-smaller
list-loop-pieces-smaller t c =
    let smaller : length (chars (chars_rest c.chars-rest-in-Some.result)) < length (chars (chars_rest c.loop-pieces.rest)) =
    rw c.chars-rest-in-Some.ensures.rest (spells_consumes c.args.levels _ _ _ (spelled t c)) in
    smaller

pub list-returns : goal.list-returns
list-returns t c =
    let ends : Ends (Spells c.args.levels) (chars (chars_rest c.loop-pieces.rest)) = rw (← c.as_str.ensures) (rw c.in_default.is at c.in_ok-next.ensures) in
    let none : begins 41 (chars (chars_rest c.loop-pieces.rest)) ≡ false = rw (← c.as_str-2.ensures) c.in-None.ensures in
    never_closes c.args.levels (omega arith) _ _ _ c.loop-pieces.invariant ends none

-- the list that the loop has read
listed : (t : ℕ) (c : goal.lists-After-chars-rest-in-Some t)
    → Leads (Spells (c.args.levels - 1)) (chars c.in-Some.inner.now) (pieces_view c.in-Some-2.pieces.items) (41 ∷ chars c.in-Some-2.after.now)
listed t c = rw c.in-Some-2.is at c.in_ok-pieces.ensures

opened : (t : ℕ) (c : goal.lists-After-chars-rest-in-Some t) → chars (chars_rest c.loop-inner.rest) ≡ 40 ∷ chars c.in-Some.inner.now
opened t c = rw (← c.as_str.ensures) c.in-Some.ensures

pub lists-loop-inner-preserved : goal.lists-loop-inner-preserved
lists-loop-inner-preserved t c =
    let more : c.args.levels ≡ suc (c.args.levels - 1) = omega arith in
    let room : c.args.levels - 1 < max_nesting = omega arith in
    rw (c.in_ok-push.ensures.items, c.chars-rest-in-Some.ensures.rest, map-append)
    (one_more_list c.args.levels (c.args.levels - 1) more room _ _ _ _ _ (pieces_view c.in-Some-2.pieces.items) c.loop-inner.invariant (opened t c) (listed t c))

pub lists-loop-inner-smaller : goal.lists-loop-inner-smaller
lists-loop-inner-smaller t c =
    let smaller : length (chars (chars_rest c.chars-rest-in-Some.result)) < length (chars (chars_rest c.loop-inner.rest)) =
    rw c.chars-rest-in-Some.ensures.rest (list_shorter (c.args.levels - 1) _ _ _ _ (opened t c) (listed t c)) in
    smaller

pub lists-returns-then-levels-eq0 : goal.lists-returns-then-levels-eq0
lists-returns-then-levels-eq0 t c =
    let opens : chars (chars_rest c.loop-inner.rest) ≡ 40 ∷ chars c.in-Some.inner.now = rw (← c.as_str.ensures) c.in-Some.ensures in
    no_level_left c.args.levels c.if-levels-eq0.true _ _ _ _ c.loop-inner.invariant opens

pub lists-returns-in_default-2 : goal.lists-returns-in_default-2
lists-returns-in_default-2 t c =
    let opens : chars (chars_rest c.loop-inner.rest) ≡ 40 ∷ chars c.in-Some.inner.now = rw (← c.as_str.ensures) c.in-Some.ensures in
    let more : c.args.levels ≡ suc (c.args.levels - 1) = omega arith in
    never_closed c.args.levels (c.args.levels - 1) more _ _ _ _ c.loop-inner.invariant opens (rw c.in_default-2.is at c.in_ok-pieces.ensures)

pub lists-returns : goal.lists-returns
lists-returns t c =
    let none : begins 40 (chars (chars_rest c.loop-inner.rest)) ≡ false = rw (← c.as_str.ensures) c.in_default.ensures in
    rw c.as_str-2.ensures (listed_all c.args.levels _ _ _ c.loop-inner.invariant none)

pub argument-returns-in_default-strip : goal.argument-returns-in_default-strip
argument-returns-in_default-strip t c =
    let lists = rw c.in-Some.is at c.in_ok-args.ensures in
    let le : c.args.levels ≤ max_nesting = omega arith in
    argument_unclosed (ListsBelow c.args.levels) (lists_below_unique c.args.levels le) _ _ _ _ _ _ _ c.name.ensures lists c.parameters-parameters.ensures c.in_default-strip.ensures

pub argument-returns : goal.argument-returns
argument-returns t c =
    let lists = rw c.in-Some.is at c.in_ok-args.ensures in
    argument_found (ListsBelow c.args.levels) _ _ _ _ _ _ _ _ _ c.name.ensures lists c.parameters-parameters.ensures c.in-Some-strip.ensures c.in_ok-piece.ensures

pub piece-returns : goal.piece-returns
piece-returns t c = elim c.match-c.branch [
  | piece-in-123+in_ok-found-in-123 w ↦ search rules
  | piece-in-125+in_ok-found-in-125 w ↦ search rules
  | piece-in-40+in_ok-found-in-40 w ↦ search rules
  | piece-in-41-2+in_ok-found-in-41-2 w ↦ search rules
  | piece-in-92+in_ok-found-in-92 w ↦ search rules
  | piece-in_default-c w ↦ search (rules, spells_plain)
]

pub brace-returns-in_ok-error-in-None : goal.brace-returns-in_ok-error-in-None
brace-returns-in_ok-error-in-None t c =
    rw c.in_default.ensures (inr (rw c.in-None.is at c.in_ok-found.ensures, (c.in_ok-error-in-None.ensures, chars-nil)))
