use Rattle.std.proofs.Common.{◌+◌, ◌*◌, length, map}
use Rattle.std.specs.Str.{chars}
use Rattle.std.specs.Str.Iter.{chars_rest}
use Rattle.log4rs_encode.specs.Spelling.{Leads, ListsBelow, Spells}
use Rattle.log4rs_encode.specs.View.{pieces_view}
use Rattle.log4rs_encode.proofs.Steps.{Listed}
use Rattle.log4rs_encode.proofs.pattern.parser.+parser.Given as goal

abbrev pub decreases-lists : goal.decreases-lists
decreases-lists l = 5 * l.levels + 1

abbrev pub decreases-argument : goal.decreases-argument
decreases-argument l = 5 * l.levels + 2

abbrev pub decreases-piece : goal.decreases-piece
decreases-piece l = 5 * l.levels + 4

abbrev pub decreases-brace : goal.decreases-brace
decreases-brace l = 5 * l.levels + 3

abbrev pub decreases-list : goal.decreases-list
decreases-list l = 5 * l.levels + 5

abbrev pub invariant-list-loop-pieces : goal.invariant-list-loop-pieces
invariant-list-loop-pieces l = Leads (Spells l.levels) (chars l.text) (pieces_view l.pieces.items) (chars (chars_rest l.rest))

abbrev pub decreases-list-loop-pieces : goal.decreases-list-loop-pieces
decreases-list-loop-pieces l = length (chars (chars_rest l.rest))

abbrev pub invariant-lists-loop-inner : goal.invariant-lists-loop-inner
invariant-lists-loop-inner l = Listed (ListsBelow l.levels) (chars l.text) (chars (chars_rest l.rest)) (map (λ v. pieces_view v.items) l.lists.items)

abbrev pub decreases-lists-loop-inner : goal.decreases-lists-loop-inner
decreases-lists-loop-inner l = length (chars (chars_rest l.rest))
