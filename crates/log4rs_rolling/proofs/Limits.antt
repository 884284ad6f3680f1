-- What an append changes at most.
use Rattle.std.proofs.Common.{IsTrue, ◌≡◌, ℕ, List, [], ◌++◌, Option, Some, None, Bool, true, false, refl, sym, ap, ◌∙◌, subst, append_assoc, Result, Ok, Err}
use Rattle.std.specs.Option.{IfSome}
use Rattle.std.proofs.lemmas.List.{append-nil}
use Rattle.log4rs_rolling.specs.Change.{Change, Files, replay}
use Rattle.log4rs_rolling.specs.Disk.{Disk, Calls, files_of}
use Rattle.log4rs_rolling.specs.declared.store.Open.{Open}
use Rattle.log4rs_base.specs.declared.error.LogError.{LogError}
use Rattle.log4rs_rolling.proofs.Calls.{calls_join, calls_map, files_after, replay-append}
use Rattle.log4rs_rolling.specs.FileChanges.{OnlyWrites, OnlyAppends, OnlyOpens}
use Rattle.log4rs_rolling.specs.Asking.{UnlessYes}
use Rattle.log4rs_rolling.specs.Keeping.{Keeping, RolledAs, Limits, StaysAmong}
use Rattle.log4rs_rolling.specs.Moves.{MovedAll, MovedPartly}
use Rattle.log4rs_rolling.specs.AppendParts.{AroundMoves, MovedBetween}
use Rattle.log4rs_rolling.specs.PolicyResults.{Processed}
use Rattle.log4rs_rolling.proofs.Aside.{can_partly}
use Rattle.log4rs_rolling.proofs.Parts.{if_all, if_map, appended_clean, clean_join, then_later}
use Rattle.log4rs_rolling.proofs.Quiet.{append_both, opened_quiet, wrote_quiet}
use Rattle.log4rs_rolling.specs.AppendResults.{LimitedAppend}
use Rattle.log4rs_rolling.proofs.Places.{among_alone, among_join, appended_named, names_same, names_join}

-- openings and writings alone
around_none : (k : Keeping) (path : List ℕ) (how : Open) (d0 d1 : Disk) → Calls d0 d1 (OnlyAppends path how) → AroundMoves k path how d0 d1
around_none k path how d0 d1 calls =
    if_all (k.moves path) (λ moves. Calls d0 d1 (MovedBetween path how moves (files_of d0)))
    (λ moves. calls_map d0 d1 _ _ calls (λ added tells told only. (added, [], [], sym (append-nil added), only, can_partly (replay (files_of d0) added) moves, tt)))

-- before the others
around_behind : (k : Keeping) (path : List ℕ) (how : Open) (d0 d1 d2 : Disk) → Calls d0 d1 (OnlyAppends path how) → AroundMoves k path how d1 d2 → AroundMoves k path how d0 d2
around_behind k path how d0 d1 d2 calls around =
    if_map (k.moves path) (λ moves. Calls d1 d2 (MovedBetween path how moves (files_of d1))) (λ moves. Calls d0 d2 (MovedBetween path how moves (files_of d0))) around
    (λ moves later. calls_join d0 d1 d2 _ _ (MovedBetween path how moves (files_of d0)) calls later
    (λ xs ys tells told only is. (
      xs ++ is.0,
      is.1,
      is.2,
      ap (λ (c : List Change). xs ++ c) is.3 ∙ sym (append_assoc xs is.0 (is.1 ++ is.2)),
      append_both path how xs is.0 only is.4,
      subst (λ (f : Files). MovedPartly f moves is.1) (ap (λ (f : Files). replay f is.0) (files_after d0 d1 xs told) ∙ sym (replay-append (files_of d0) xs is.0)) is.5,
      is.6,
    )))

-- and behind them
around_then : (k : Keeping) (path : List ℕ) (how : Open) (d0 d1 d2 : Disk) → AroundMoves k path how d0 d1 → Calls d1 d2 (OnlyAppends path how) → AroundMoves k path how d0 d2
around_then k path how d0 d1 d2 around calls =
    if_map (k.moves path) (λ moves. Calls d0 d1 (MovedBetween path how moves (files_of d0))) (λ moves. Calls d0 d2 (MovedBetween path how moves (files_of d0))) around
    (λ moves first. calls_join d0 d1 d2 _ _ (MovedBetween path how moves (files_of d0)) first calls
    (λ xs ys tells told is only. (
      is.0,
      is.1,
      is.2 ++ ys,
      ap (λ (c : List Change). c ++ ys) is.3 ∙ append_assoc is.0 (is.1 ++ is.2) ys ∙ ap (λ (c : List Change). is.0 ++ c) (append_assoc is.1 is.2 ys),
      is.4,
      is.5,
      append_both path how is.2 ys is.6 only,
    )))

-- a beginning of moves alone
moved_alone : (k : Keeping) (path : List ℕ) (how : Open) (d0 d1 : Disk) → IfSome (k.moves path) (λ moves. Calls d0 d1 (MovedPartly (files_of d0) moves)) → AroundMoves k path how d0 d1
moved_alone k path how d0 d1 moved =
    if_map (k.moves path) (λ moves. Calls d0 d1 (MovedPartly (files_of d0) moves)) (λ moves. Calls d0 d1 (MovedBetween path how moves (files_of d0))) moved
    (λ moves calls. calls_map d0 d1 _ _ calls (λ added tells told partly. ([], added, [], sym (append-nil added), tt, partly, tt)))

-- all of them, or a beginning
pub rolled_partly : (k0 k1 : Keeping) (path : List ℕ) (r : Result Unit LogError) (d0 d1 : Disk) → RolledAs k0 k1 path r d0 d1 → IfSome (k0.moves path) (λ moves. Calls d0 d1 (MovedPartly (files_of d0) moves))
rolled_partly k0 k1 path (Ok u) d0 d1 rolled =
    if_map (k0.moves path) (λ moves. Calls d0 d1 (MovedAll (files_of d0) moves)) (λ moves. Calls d0 d1 (MovedPartly (files_of d0) moves)) rolled.moved
    (λ moves calls. calls_map d0 d1 _ _ calls (λ added tells told all. ([], subst (MovedAll (files_of d0) moves) (sym (append-nil added)) all, λ clean. tt)))
rolled_partly k0 k1 path (Err e) d0 d1 rolled = rolled.partly

-- what a policy does
processed_around : (k0 k1 : Keeping) (answer : Option Bool) (path other : List ℕ) (how : Open) (r : Result Unit LogError) (d0 d1 : Disk) → other ≡ path → Processed k0 k1 answer other r d0 d1 → AroundMoves k0 path how d0 d1
processed_around k0 k1 answer path other how r d0 d1 same done = by answer (subst (λ (p : List ℕ). Processed k0 k1 answer p r d0 d1) same done) where
  nothing : Calls d0 d1 (λ added. added ≡ []) → AroundMoves k0 path how d0 d1
  nothing calls = around_none k0 path how d0 d1 (calls_map d0 d1 _ (OnlyAppends path how) calls (λ added tells told none. subst (OnlyAppends path how) (sym none) tt))

  by : (a : Option Bool) → Processed k0 k1 a path r d0 d1 → AroundMoves k0 path how d0 d1
  by (Some true) is = moved_alone k0 path how d0 d1 (rolled_partly k0 k1 path r d0 d1 is)
  by (Some false) is = nothing is.1
  by None is = nothing is.1

-- What is changed at most: by openings and writings alone
pub limited_quiet : (k : Keeping) (path : List ℕ) (how : Open) (d0 d1 : Disk) → Calls d0 d1 (OnlyAppends path how) → LimitedAppend k k path how d0 d1
limited_quiet k path how d0 d1 calls =
    record {
      moves = around_none k path how d0 d1 calls;
      renames = λ only. appended_clean path how d0 d1 calls;
      elsewhere = among_alone k k path d0 d1 refl (appended_named k path how d0 d1 calls);
      names = names_same k;
      store = calls_map d0 d1 _ (λ added. Unit {0}) calls (λ added tells told only. tt);
    }

-- by a policy
pub limited_asked : (k0 k1 : Keeping) (answer : Option Bool) (path other : List ℕ) (how : Open) (r : Result Unit LogError) (d0 d1 : Disk)
    → other ≡ path → Processed k0 k1 answer other r d0 d1 → Limits k0 k1 other d0 d1 → LimitedAppend k0 k1 path how d0 d1
limited_asked k0 k1 answer path other how r d0 d1 same done limits =
    record {
      moves = processed_around k0 k1 answer path other how r d0 d1 same done;
      renames = limits.renames;
      elsewhere = subst (λ (p : List ℕ). StaysAmong k0 k1 p d0 d1) same limits.elsewhere;
      names = limits.names;
      store = limits.store;
    }

-- through two parts, of which one opens and writes alone
limited_both : (k0 k1 k2 : Keeping) (path : List ℕ) (how : Open) (d0 d1 d2 : Disk) → AroundMoves k0 path how d0 d2
    → LimitedAppend k0 k1 path how d0 d1 → LimitedAppend k1 k2 path how d1 d2 → LimitedAppend k0 k2 path how d0 d2
limited_both k0 k1 k2 path how d0 d1 d2 moves one two =
    record {
      moves = moves;
      renames = λ only. clean_join d0 d1 d2 (one.renames only) (two.renames (subst IsTrue (sym one.names.renames) only));
      elsewhere = among_join k0 k1 k2 path path d0 d1 d2 one.names refl one.elsewhere two.elsewhere;
      names = names_join k0 k1 k2 one.names two.names;
      store = then_later _ _ d0 d1 d2 one.store two.store;
    }

pub limited_behind : (k0 k1 : Keeping) (path : List ℕ) (how : Open) (d0 d1 d2 : Disk) → Calls d0 d1 (OnlyAppends path how) → LimitedAppend k0 k1 path how d1 d2 → LimitedAppend k0 k1 path how d0 d2
limited_behind k0 k1 path how d0 d1 d2 calls two = limited_both k0 k0 k1 path how d0 d1 d2 (around_behind k0 path how d0 d1 d2 calls two.moves) (limited_quiet k0 path how d0 d1 calls) two

pub limited_then : (k0 k1 : Keeping) (path : List ℕ) (how : Open) (d0 d1 d2 : Disk) → LimitedAppend k0 k1 path how d0 d1 → Calls d1 d2 (OnlyAppends path how) → LimitedAppend k0 k1 path how d0 d2
limited_then k0 k1 path how d0 d1 d2 one calls = limited_both k0 k1 k1 path how d0 d1 d2 (around_then k0 path how d0 d1 d2 one.moves calls) one (limited_quiet k1 path how d1 d2 calls)

-- an append of two parts, of which one at most asks the policy
pub limited_whole : (first : Bool) (k0 k1 k2 : Keeping) (path other : List ℕ) (how : Open) (answer : Option Bool) (d0 d1 d2 : Disk) → other ≡ path
    → LimitedAppend k0 k1 path how d0 d1 → (first ≡ false → Calls d0 d1 (OnlyOpens path how)) → (first ≡ false → k1 ≡ k0) → LimitedAppend k1 k2 other how d1 d2
    → (first ≡ true → answer ≡ None) → UnlessYes answer (Calls d1 d2 (OnlyWrites other)) → LimitedAppend k0 k2 path how d0 d2
limited_whole first k0 k1 k2 path other how answer d0 d1 d2 same one opens still two none quiet =
    let later : LimitedAppend k1 k2 path how d1 d2 = subst (λ (p : List ℕ). LimitedAppend k1 k2 p how d1 d2) same two in
    limited_both k0 k1 k2 path how d0 d1 d2 (around first refl) one later where
      around : (b : Bool) → first ≡ b → AroundMoves k0 path how d0 d2
      around true is =
          let writes : Calls d1 d2 (OnlyWrites path) =
          subst (λ (p : List ℕ). Calls d1 d2 (OnlyWrites p)) same (subst (λ (a : Option Bool). UnlessYes a (Calls d1 d2 (OnlyWrites other))) (none is) quiet) in
          around_then k0 path how d0 d1 d2 one.moves (wrote_quiet path how d1 d2 writes)
      around false is =
          around_behind k0 path how d0 d1 d2 (opened_quiet path how d0 d1 (opens is)) (subst (λ (k : Keeping). AroundMoves k path how d1 d2) (still is)
          (subst (λ (p : List ℕ). AroundMoves k1 p how d1 d2) same two.moves))
