use Rattle.std.proofs.Common.{◌≡◌, ◌≤◌}
use Rattle.log4rs_journal.specs.Walks.{journal_of, next_place, end_of, places_ahead}
use Rattle.log4rs_journal.proofs.walk.NotesIterator.next.Given as goal

-- places were passed over, of the same journal
abbrev pub invariant-loop-place : goal.invariant-loop-place
invariant-loop-place l =
    (journal_of l.self ≡ journal_of l.initial.self)
    × (end_of l.self ≡ end_of l.initial.self)
    × (next_place l.initial.self ≤ next_place l.self)

abbrev pub decreases-loop-place : goal.decreases-loop-place
decreases-loop-place l = places_ahead l.self
