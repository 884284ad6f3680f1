-- Changes that touch files of some names alone.
use Rattle.std.proofs.Common.{◌≡◌, ◌≢◌, ℕ, zero, suc, List, [], ◌∷◌, ◌++◌, Option, Some, None, refl, sym, ap, ◌∙◌, subst, ◌⊎◌, inl, inr, Result, OnOk, OnErr, unwrap_or, Bool, false, IsTrue}
use Rattle.std.specs.Option.{MatchOption, option_to_list}
use Rattle.std.proofs.lemmas.List.{append-nil}
use Rattle.log4rs_rolling.specs.Change.{Change, copied, opened, wrote, renamed, removed, Files, after, bytes_at, put, replay}
use Rattle.log4rs_rolling.specs.Disk.{Disk, Calls, files_of}
use Rattle.log4rs_rolling.specs.declared.store.Open.{Open}
use Rattle.log4rs_rolling.specs.declared.store.Open.TheVariants.{Append, Truncate}
use Rattle.log4rs_rolling.proofs.Replays.{put_there}
use Rattle.log4rs_rolling.specs.declared.fixed_window.FixedWindowRoller.{FixedWindowRoller}
use Rattle.log4rs_rolling.specs.Keeping.{Keeping, SameNames, StaysAmong, names_of}
use Rattle.log4rs_rolling.specs.Moves.{MovedAll, MovedPartly, each_to_the_older, archive_names}
use Rattle.log4rs_rolling.specs.FileChanges.{OnlyAppends}
use Rattle.log4rs_rolling.specs.Places.{IsAmong, OnlyOf}
use Rattle.log4rs_rolling.specs.Roller.{archive_name, archives_of, moves_of, kept_by, window_with}
use Rattle.log4rs_rolling.specs.Window.{IsOurs, NoCopies, NotAmong}
use Rattle.log4rs_rolling.proofs.Rollers.{rotated_partly}
use Rattle.log4rs_rolling.proofs.Calls.{calls_map, calls_join}

-- Names

pub among_behind : (path : List ℕ) (xs ys : List (List ℕ)) → IsAmong path ys → IsAmong path (xs ++ ys)
among_behind path [] ys is = is
among_behind path (x ∷ xs) ys is = inr (among_behind path xs ys is)

pub is_named : (k : Keeping) (path : List ℕ) → IsAmong path (names_of k path)
is_named k path = among_behind path (unwrap_or k.archives [] ++ option_to_list (k.waiting path)) (path ∷ []) (inl refl)

pub same_named : (before now : Keeping) (path : List ℕ) → SameNames before now → names_of now path ≡ names_of before path
same_named before now path same =
    ap (λ (a : Option (List (List ℕ))). unwrap_or a [] ++ option_to_list (now.waiting path) ++ path ∷ []) same.archives
    ∙ ap (λ (w : List ℕ → Option (List ℕ)). unwrap_or before.archives [] ++ option_to_list (w path) ++ path ∷ []) same.waiting

-- Lists

of_append : (ns : List (List ℕ)) (xs ys : List Change) → OnlyOf ns xs → OnlyOf ns ys → OnlyOf ns (xs ++ ys)
of_append ns [] ys a b = b
of_append ns (x ∷ xs) ys a b = (a.0, of_append ns xs ys a.1 b)

of_front : (ns : List (List ℕ)) (xs ys : List Change) → OnlyOf ns (xs ++ ys) → OnlyOf ns xs
of_front ns [] ys a = tt
of_front ns (x ∷ xs) ys a = (a.0, of_front ns xs ys a.1)

appends_of : (ns : List (List ℕ)) (path : List ℕ) (how : Open) (changes : List Change) → IsAmong path ns → OnlyAppends path how changes → OnlyOf ns changes
appends_of ns path how [] is only = tt
appends_of ns path how (opened at way ∷ changes) is only = (subst (λ (p : List ℕ). IsAmong p ns) (sym only.0) is, appends_of ns path how changes is only.2)
appends_of ns path how (wrote at bytes ∷ changes) is only = (subst (λ (p : List ℕ). IsAmong p ns) (sym only.0) is, appends_of ns path how changes is only.1)
appends_of ns path how (renamed from to ∷ changes) is only = absurd only
appends_of ns path how (copied from to ∷ changes) is only = absurd only
appends_of ns path how (removed at ∷ changes) is only = absurd only

-- Calls

pub named_join : (ns : List (List ℕ)) (d0 d1 d2 : Disk) → Calls d0 d1 (OnlyOf ns) → Calls d1 d2 (OnlyOf ns) → Calls d0 d2 (OnlyOf ns)
named_join ns d0 d1 d2 x y = calls_join d0 d1 d2 _ _ (OnlyOf ns) x y (λ xs ys tells told a b. of_append ns xs ys a b)

pub appended_named : (k : Keeping) (path : List ℕ) (how : Open) (d0 d1 : Disk) → Calls d0 d1 (OnlyAppends path how) → Calls d0 d1 (OnlyOf (names_of k path))
appended_named k path how d0 d1 calls = calls_map d0 d1 _ (OnlyOf (names_of k path)) calls (λ added tells told only. appends_of (names_of k path) path how added (is_named k path) only)

-- a part for a path that is the same, by a policy that keeps the same names
pub named_after : (before now : Keeping) (path other : List ℕ) (d0 d1 : Disk) → SameNames before now → other ≡ path → Calls d0 d1 (OnlyOf (names_of now other)) → Calls d0 d1 (OnlyOf (names_of before path))
named_after before now path other d0 d1 same is calls =
    subst (λ (ns : List (List ℕ)). Calls d0 d1 (OnlyOf ns)) (ap (names_of now) is ∙ same_named before now path same) calls

pub names_same : (k : Keeping) → SameNames k k
names_same k = record { is_built_in = refl; renames = refl; removes = refl; archives = refl; waiting = refl; moves = λ path none. refl; told = λ path known. known }

pub names_join : (a b c : Keeping) → SameNames a b → SameNames b c → SameNames a c
names_join a b c x y =
    record {
      is_built_in = y.is_built_in ∙ x.is_built_in;
      renames = y.renames ∙ x.renames;
      removes = y.removes ∙ x.removes;
      archives = y.archives ∙ x.archives;
      waiting = y.waiting ∙ x.waiting;
      moves = λ path none. y.moves path (ap (λ (f : List ℕ → Option (List ℕ)). f path) x.waiting ∙ none) ∙ x.moves path none;
      told = λ path known. y.told path (x.told path known);
    }

-- what stays among the names, through two parts
pub among_join : (a b c : Keeping) (path other : List ℕ) (d0 d1 d2 : Disk) → SameNames a b → other ≡ path → StaysAmong a b path d0 d1 → StaysAmong b c other d1 d2 → StaysAmong a c path d0 d2
among_join a b c path other d0 d1 d2 names same x y = λ ours.
    let first = x ours in
    let later = subst (λ (p : List ℕ). StaysAmong b c p d1 d2) same y first.0 in (
      later.0,
      λ built. named_join (names_of a path) d0 d1 d2 (first.1 built) (named_after a b path path d1 d2 names refl (later.1 (subst IsTrue (sym names.is_built_in) built))),
    )

pub among_alone : (k k1 : Keeping) (path : List ℕ) (d0 d1 : Disk) → k1 ≡ k → Calls d0 d1 (OnlyOf (names_of k path)) → StaysAmong k k1 path d0 d1
among_alone k k1 path d0 d1 same calls = λ ours. (subst (λ (x : Keeping). IsOurs (x.vacant path)) (sym same) ours, λ built. calls)

-- Moves

pub moved_of : (v : Option (List ℕ)) (ns : List (List ℕ)) (from to : List ℕ) (changes : List Change) → IsAmong from ns → IsAmong to ns
    → MatchOption v (changes ≡ []) (λ _. (changes ≡ renamed from to ∷ []) ⊎ (changes ≡ copied from to ∷ removed from ∷ []))
    → OnlyOf ns changes
moved_of None ns from to changes a b moved = subst (OnlyOf ns) (sym moved) tt
moved_of (Some x) ns from to changes a b moved =
    elim moved [ inl once ↦ subst (OnlyOf ns) (sym once) ((a, b), tt) | inr twice ↦ subst (OnlyOf ns) (sym twice) ((a, b), (a, tt)) ]

-- moves along the names of a list, of which each is among these
all_of : (ns : List (List ℕ)) (files : Files) (list : List (List ℕ)) (changes : List Change) → ((q : List ℕ) → IsAmong q list → IsAmong q ns) → MovedAll files (each_to_the_older list) changes → OnlyOf ns changes
all_of ns files [] changes are moved = subst (OnlyOf ns) (sym moved) tt
all_of ns files (only ∷ []) changes are moved = subst (OnlyOf ns) (sym moved) tt
all_of ns files (older ∷ newer ∷ others) changes are moved =
    subst (OnlyOf ns) (sym moved.2) (of_append ns moved.0 moved.1
    (moved_of (files newer) ns newer older moved.0 (are newer (inr (inl refl))) (are older (inl refl)) moved.3)
    (all_of ns (replay files moved.0) (newer ∷ others) moved.1 (λ q is. are q (inr is)) moved.4))

partly_of : (files : Files) (list : List (List ℕ)) (changes : List Change) → MovedPartly files (each_to_the_older list) changes → OnlyOf list changes
partly_of files list changes moved = of_front list changes moved.0 (all_of list files list (changes ++ moved.0) (λ q is. is) moved.1)

window_named : (roller : FixedWindowRoller) (count : ℕ) (file : List ℕ) → archive_names (archive_name roller) roller.base count ++ file ∷ [] ≡ (unwrap_or (archives_of (archive_name roller) roller.base count) [] ++ []) ++ file ∷ []
window_named roller zero file = refl
window_named roller (suc n) file = sym (ap (λ (l : List (List ℕ)). l ++ file ∷ []) (append-nil (archive_names (archive_name roller) roller.base (suc n))))

pub rotation_named : {T E : Type 0} (roller : FixedWindowRoller) (file : List ℕ) (Q : Type 0) (d0 d1 : Disk) (r : Result T E)
    → OnOk r (Calls d0 d1 (λ added. MovedAll (files_of d0) (moves_of roller file) added × (Q → NoCopies added)))
    → OnErr r (Calls d0 d1 (λ added. MovedPartly (files_of d0) (moves_of roller file) added × (Q → NoCopies added)))
    → roller.background ≡ false → Calls d0 d1 (OnlyOf (names_of (kept_by roller) file))
rotation_named roller file Q d0 d1 r ok err not =
    subst (λ (b : Bool). Calls d0 d1 (OnlyOf (names_of (window_with (archive_name roller) roller.base roller.count roller.rename_only b roller.asked roller.job) file))) (sym not)
    (subst (λ (ns : List (List ℕ)). Calls d0 d1 (OnlyOf ns)) (window_named roller roller.count file)
    (calls_map d0 d1 _ (OnlyOf (archive_names (archive_name roller) roller.base roller.count ++ file ∷ [])) (rotated_partly Q d0 d1 (moves_of roller file) r ok err)
    (λ added tells told moved. partly_of (files_of d0) (archive_names (archive_name roller) roller.base roller.count ++ file ∷ []) added moved)))

-- Other files

apart : (path name : List ℕ) (ns : List (List ℕ)) → IsAmong name ns → NotAmong path ns → path ≢ name
apart path name [] is other = absurd is
apart path name (n ∷ ns) is other = elim is [ inl same ↦ λ e. other.0 (e ∙ same) | inr later ↦ apart path name ns later other.1 ]

pub others_stay : (ns : List (List ℕ)) (files : Files) (changes : List Change) (path : List ℕ) → OnlyOf ns changes → NotAmong path ns → replay files changes path ≡ files path
others_stay ns files [] path only other = refl
others_stay ns files (opened at Append ∷ changes) path only other =
    others_stay ns (after files (opened at Append)) changes path only.1 other ∙ put_there files at (Some (bytes_at files at)) path (apart path at ns only.0 other)
others_stay ns files (opened at Truncate ∷ changes) path only other =
    others_stay ns (after files (opened at Truncate)) changes path only.1 other ∙ put_there files at (Some []) path (apart path at ns only.0 other)
others_stay ns files (wrote at bytes ∷ changes) path only other =
    others_stay ns (after files (wrote at bytes)) changes path only.1 other ∙ put_there files at (Some (bytes_at files at ++ bytes)) path (apart path at ns only.0 other)
others_stay ns files (renamed from to ∷ changes) path only other =
    others_stay ns (after files (renamed from to)) changes path only.1 other
    ∙ put_there (put files from None) to (files from) path (apart path to ns only.0.1 other)
    ∙ put_there files from None path (apart path from ns only.0.0 other)
others_stay ns files (copied from to ∷ changes) path only other =
    others_stay ns (after files (copied from to)) changes path only.1 other ∙ put_there files to (files from) path (apart path to ns only.0.1 other)
others_stay ns files (removed at ∷ changes) path only other =
    others_stay ns (after files (removed at)) changes path only.1 other ∙ put_there files at None path (apart path at ns only.0 other)
