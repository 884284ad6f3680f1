-- What renames do to the kept text of a window.
use Rattle.std.proofs.Common.{rules, ◌≡◌, ◌≢◌, ◌<◌, ℕ, zero, suc, List, [], ◌∷◌, ◌++◌, length, drop, Option, Some, None, refl, sym, ap, ◌∙◌, subst, ◌⊎◌, inl, inr, Bool, cond, append_assoc, arith, length-append, unwrap_or}
use Rattle.std.proofs.lemmas.List.{append-nil}
use Rattle.std.proofs.lemmas.List.Folds.{concat-append}
use Rattle.std.specs.List.{concat}
use Rattle.std.specs.Option.{option_to_list, MatchOption, IsSome}
use Rattle.log4rs_rolling.specs.Change.{Change, copied, opened, wrote, renamed, removed, Files, put, bytes_at, after, replay, written, written_by}
use Rattle.log4rs_rolling.specs.declared.store.Open.TheVariants.{Append}
use Rattle.log4rs_rolling.specs.Window.{KeepsTheEnd, Window, names, contents, kept, Keeps, Drops, Good, GoodWithin, NoCopies, NotAmong, AreDistinct}
use Rattle.log4rs_rolling.specs.FileChanges.{OnlyWrites, OnlyOpens, OnlyAppends}
use Rattle.log4rs_rolling.specs.declared.store.Open.{Open}
use Rattle.log4rs_rolling.specs.Moves.{Moved, MovedAll, MovedPartly, each_to_the_older}
use Rattle.log4rs_rolling.proofs.Replays.{put_here, put_there}
use Rattle.log4rs_rolling.proofs.Calls.{same_path}
use Rattle.log4rs_rolling.proofs.Quiet.{opens_append, writes_append}

-- Lists without copies

pub appends_clean : (path : List ℕ) (how : Open) (changes : List Change) → OnlyAppends path how changes → NoCopies changes
appends_clean path how [] only = tt
appends_clean path how (opened at way ∷ changes) only = appends_clean path how changes only.2
appends_clean path how (wrote at bytes ∷ changes) only = appends_clean path how changes only.1
appends_clean path how (renamed from to ∷ changes) only = absurd only
appends_clean path how (copied from to ∷ changes) only = absurd only
appends_clean path how (removed at ∷ changes) only = absurd only

-- Lists of good changes

pub Good-append : (w : Window) (files : Files) (xs ys : List Change) → Good w files xs → Good w (replay files xs) ys → Good w files (xs ++ ys)
Good-append w files [] ys g h = h
Good-append w files (x ∷ xs) ys g h = (g.0, Good-append w (after files x) xs ys g.1 h)

pub Good-front : (w : Window) (files : Files) (xs ys : List Change) → Good w files (xs ++ ys) → Good w files xs
Good-front w files [] ys g = tt
Good-front w files (x ∷ xs) ys g = (g.0, Good-front w (after files x) xs ys g.1)

pub Good-within : (n : ℕ) (w : Window) (files : Files) (xs : List Change) → GoodWithin n w files xs → Good w files xs
Good-within n w files [] g = tt
Good-within zero w files (x ∷ xs) g = (inl g.0, Good-within zero w (after files x) xs g.1)
Good-within (suc n) w files (x ∷ xs) g =
    elim g [
      | inl keeps ↦ (inl keeps.0, Good-within (suc n) w (after files x) xs keeps.1)
      | inr drops ↦ (inr drops.0, Good-within n w (after files x) xs drops.1)
    ]

pub GoodWithin-front : (n : ℕ) (w : Window) (files : Files) (xs ys : List Change) → GoodWithin n w files (xs ++ ys) → GoodWithin n w files xs
GoodWithin-front n w files [] ys g = tt
GoodWithin-front zero w files (x ∷ xs) ys g = (g.0, GoodWithin-front zero w (after files x) xs ys g.1)
GoodWithin-front (suc n) w files (x ∷ xs) ys g =
    elim g [
      | inl keeps ↦ inl (keeps.0, GoodWithin-front (suc n) w (after files x) xs ys keeps.1)
      | inr drops ↦ inr (drops.0, GoodWithin-front n w (after files x) xs ys drops.1)
    ]

-- a list without a drop, and then another
pub GoodWithin-append : (n : ℕ) (w : Window) (files : Files) (xs ys : List Change) → GoodWithin zero w files xs → GoodWithin n w (replay files xs) ys → GoodWithin n w files (xs ++ ys)
GoodWithin-append n w files [] ys g h = h
GoodWithin-append zero w files (x ∷ xs) ys g h = (g.0, GoodWithin-append zero w (after files x) xs ys g.1 h)
GoodWithin-append (suc n) w files (x ∷ xs) ys g h = inl (g.0, GoodWithin-append (suc n) w (after files x) xs ys g.1 h)

-- Contents of lists of names

pub contents-append : (files : Files) (xs ys : List (List ℕ)) → contents files (xs ++ ys) ≡ contents files xs ++ contents files ys
contents-append files [] ys = refl
contents-append files (x ∷ xs) ys =
    ap (λ (c : List (List ℕ)). option_to_list (files x) ++ c) (contents-append files xs ys)
    ∙ sym (append_assoc (option_to_list (files x)) (contents files xs) (contents files ys))

pub contents_elsewhere : (files : Files) (path : List ℕ) (value : Option (List ℕ)) (ns : List (List ℕ)) → NotAmong path ns → contents (put files path value) ns ≡ contents files ns
contents_elsewhere files path value [] apart = refl
contents_elsewhere files path value (n ∷ ns) apart =
    ap (λ (v : Option (List ℕ)). option_to_list v ++ contents (put files path value) ns) (put_there files path value n (λ e. apart.0 (sym e)))
    ∙ ap (λ (c : List (List ℕ)). option_to_list (files n) ++ c) (contents_elsewhere files path value ns apart.1)

-- two names side by side in a list of different names
pub record Apart (pre : List (List ℕ)) (a b : List ℕ) (post : List (List ℕ)) : Type 0 where
  pub a_pre : NotAmong a pre
  pub b_pre : NotAmong b pre
  pub a_b : a ≢ b
  pub a_post : NotAmong a post
  pub b_post : NotAmong b post

not_first : (p : List ℕ) (pre : List (List ℕ)) (a b : List ℕ) (post : List (List ℕ)) → NotAmong p (pre ++ a ∷ b ∷ post) → (p ≢ a) × (p ≢ b)
not_first p [] a b post h = (h.0, h.1.0)
not_first p (q ∷ pre) a b post h = not_first p pre a b post h.1

pub apart : (pre : List (List ℕ)) (a b : List ℕ) (post : List (List ℕ)) → AreDistinct (pre ++ a ∷ b ∷ post) → Apart pre a b post
apart [] a b post h = record { a_pre = tt; b_pre = tt; a_b = h.0.0; a_post = h.0.1; b_post = h.1.0 }
apart (p ∷ pre) a b post h =
    let inner = apart pre a b post h.1 in
    let differ = not_first p pre a b post h.0 in
    record {
      a_pre = (λ e. differ.0 (sym e), inner.a_pre);
      b_pre = (λ e. differ.1 (sym e), inner.b_pre);
      a_b = inner.a_b;
      a_post = inner.a_post;
      b_post = inner.b_post;
    }

-- A move to the name before

contents_renamed : (files : Files) (from to : List ℕ) (ns : List (List ℕ)) → NotAmong from ns → NotAmong to ns → contents (after files (renamed from to)) ns ≡ contents files ns
contents_renamed files from to ns f t =
    contents_elsewhere (put files from None) to (files from) ns t ∙ contents_elsewhere files from None ns f

pub renamed_from : (files : Files) (from to : List ℕ) → from ≢ to → after files (renamed from to) from ≡ None
renamed_from files from to differ =
    put_there (put files from None) to (files from) from differ ∙ put_here files from None

pub renamed_to : (files : Files) (from to : List ℕ) → after files (renamed from to) to ≡ files from
renamed_to files from to = put_here (put files from None) to (files from)

pub contents_moved : (files : Files) (pre : List (List ℕ)) (to from : List ℕ) (post : List (List ℕ)) → Apart pre to from post
    → contents (after files (renamed from to)) (pre ++ to ∷ from ∷ post) ≡ contents files pre ++ (option_to_list (files from) ++ contents files post)
contents_moved files pre to from post h =
    let new = after files (renamed from to) in
    contents-append new pre (to ∷ from ∷ post)
    ∙ ap (λ (c : List (List ℕ)). c ++ contents new (to ∷ from ∷ post)) (contents_renamed files from to pre h.b_pre h.a_pre)
    ∙ ap (λ (c : List (List ℕ)). contents files pre ++ c)
    (ap (λ (v : Option (List ℕ)). option_to_list v ++ (option_to_list (new from) ++ contents new post)) (renamed_to files from to)
    ∙ ap (λ (v : Option (List ℕ)). option_to_list (files from) ++ (option_to_list v ++ contents new post)) (renamed_from files from to (λ e. h.a_b (sym e)))
    ∙ ap (λ (c : List (List ℕ)). option_to_list (files from) ++ c) (contents_renamed files from to post h.b_post h.a_post))

pub contents_vacant : (files : Files) (pre : List (List ℕ)) (to from : List ℕ) (post : List (List ℕ)) → files to ≡ None
    → contents files (pre ++ to ∷ from ∷ post) ≡ contents files pre ++ (option_to_list (files from) ++ contents files post)
contents_vacant files pre to from post vacant =
    contents-append files pre (to ∷ from ∷ post)
    ∙ ap (λ (v : Option (List ℕ)). contents files pre ++ (option_to_list v ++ (option_to_list (files from) ++ contents files post))) vacant

pub move_keeps : (w : Window) (files : Files) (pre : List (List ℕ)) (to from : List ℕ) (post : List (List ℕ)) → names w ≡ pre ++ to ∷ from ∷ post
    → AreDistinct (names w) → files to ≡ None → Keeps w files (renamed from to)
move_keeps w files pre to from post is distinct vacant =
    let new = after files (renamed from to) in
    let same : contents new (names w) ≡ contents files (names w) =
    ap (contents new) is
    ∙ contents_moved files pre to from post (apart pre to from post (subst AreDistinct is distinct))
    ∙ sym (contents_vacant files pre to from post vacant)
    ∙ ap (contents files) (sym is)
    in
    ap concat same ∙ sym (append-nil (kept w files))

-- Cases of a move without a copy

pub NoCopies-front : (xs ys : List Change) → NoCopies (xs ++ ys) → NoCopies xs
NoCopies-front [] ys h = tt
NoCopies-front (copied from to ∷ xs) ys h = h
NoCopies-front (opened path how ∷ xs) ys h = NoCopies-front xs ys h
NoCopies-front (wrote path bytes ∷ xs) ys h = NoCopies-front xs ys h
NoCopies-front (renamed from to ∷ xs) ys h = NoCopies-front xs ys h
NoCopies-front (removed path ∷ xs) ys h = NoCopies-front xs ys h

pub NoCopies-back : (xs ys : List Change) → NoCopies (xs ++ ys) → NoCopies ys
NoCopies-back [] ys h = h
NoCopies-back (copied from to ∷ xs) ys h = absurd h
NoCopies-back (opened path how ∷ xs) ys h = NoCopies-back xs ys h
NoCopies-back (wrote path bytes ∷ xs) ys h = NoCopies-back xs ys h
NoCopies-back (renamed from to ∷ xs) ys h = NoCopies-back xs ys h
NoCopies-back (removed path ∷ xs) ys h = NoCopies-back xs ys h

pub NoCopies-append : (xs ys : List Change) → NoCopies xs → NoCopies ys → NoCopies (xs ++ ys)
NoCopies-append [] ys g h = h
NoCopies-append (copied from to ∷ xs) ys g h = absurd g
NoCopies-append (opened path how ∷ xs) ys g h = NoCopies-append xs ys g h
NoCopies-append (wrote path bytes ∷ xs) ys g h = NoCopies-append xs ys g h
NoCopies-append (renamed from to ∷ xs) ys g h = NoCopies-append xs ys g h
NoCopies-append (removed path ∷ xs) ys g h = NoCopies-append xs ys g h

cases_of : (v : Option (List ℕ)) (from to : List ℕ) (changes : List Change)
    → MatchOption v (changes ≡ []) (λ _. (changes ≡ renamed from to ∷ []) ⊎ (changes ≡ copied from to ∷ removed from ∷ []))
    → NoCopies changes
    → ((v ≡ None) × (changes ≡ [])) ⊎ (IsSome v × (changes ≡ renamed from to ∷ []))
cases_of None from to changes moved clean = inl (refl, moved)
cases_of (Some x) from to changes moved clean =
    elim moved [
      | inl once ↦ inr (search rules, once)
      | inr twice ↦ absurd (subst NoCopies twice clean)
    ]

pub moved_cases : (files : Files) (from to : List ℕ) (changes : List Change) → Moved files from to changes → NoCopies changes
    → ((files from ≡ None) × (changes ≡ [])) ⊎ (IsSome (files from) × (changes ≡ renamed from to ∷ []))
moved_cases files from to changes moved clean = cases_of (files from) from to changes moved clean

-- Moves along a part of the window whose oldest name is vacant: nothing is dropped
pub moves_keep : (w : Window) (rest : List (List ℕ)) (files : Files) (pre : List (List ℕ)) (to : List ℕ) (post : List (List ℕ)) (changes : List Change)
    → names w ≡ pre ++ to ∷ (rest ++ post) → AreDistinct (names w) → files to ≡ None → NoCopies changes
    → MovedAll files (each_to_the_older (to ∷ rest)) changes → GoodWithin zero w files changes
moves_keep w [] files pre to post changes is distinct vacant clean moved = subst (GoodWithin zero w files) (sym moved) tt
moves_keep w (from ∷ rest) files pre to post changes is distinct vacant clean moved =
    let first = moved.0 in
    let others = moved.1 in
    let split : changes ≡ first ++ others = moved.2 in
    let clean_split = subst NoCopies split clean in
    let next : names w ≡ (pre ++ to ∷ []) ++ from ∷ (rest ++ post) = is ∙ sym (append_assoc pre (to ∷ []) (from ∷ (rest ++ post))) in
    elim (moved_cases files from to first moved.3 (NoCopies-front first others clean_split)) [
      | inl none ↦
          let go = moves_keep w rest files (pre ++ to ∷ []) from post others next distinct none.0 (NoCopies-back first others clean_split)
          (subst (λ (c : List Change). MovedAll (replay files c) (each_to_the_older (from ∷ rest)) others) none.1 moved.4) in
          subst (GoodWithin zero w files) (sym (split ∙ ap (λ (c : List Change). c ++ others) none.1)) go
      | inr once ↦
          let different = (apart pre to from (rest ++ post) (subst AreDistinct is distinct)).a_b in
          let go = moves_keep w rest (after files (renamed from to)) (pre ++ to ∷ []) from post others next distinct (renamed_from files from to (λ e. different (sym e)))
          (NoCopies-back first others clean_split)
          (subst (λ (c : List Change). MovedAll (replay files c) (each_to_the_older (from ∷ rest)) others) once.1 moved.4) in
          subst (GoodWithin zero w files) (sym (split ∙ ap (λ (c : List Change). c ++ others) once.1))
          (move_keeps w files pre to from (rest ++ post) is distinct vacant, go)
    ]

pub GoodWithin-more : (n : ℕ) (w : Window) (files : Files) (xs : List Change) → GoodWithin zero w files xs → GoodWithin n w files xs
GoodWithin-more n w files [] g = tt
GoodWithin-more zero w files (x ∷ xs) g = g
GoodWithin-more (suc n) w files (x ∷ xs) g = inl (g.0, GoodWithin-more (suc n) w (after files x) xs g.1)

-- a move over the oldest archive drops it
move_drops : (w : Window) (files : Files) (oldest from : List ℕ) (more post : List (List ℕ)) (content : List ℕ)
    → w.archives ≡ oldest ∷ more → names w ≡ oldest ∷ from ∷ post → AreDistinct (names w) → files oldest ≡ Some content
    → Drops w files (renamed from oldest)
move_drops w files oldest from more post content first is distinct present =
    record {
      silent = refl;
      archived = subst (λ (ns : List (List ℕ)). 0 < length (contents files ns)) (sym first)
          (subst (λ (v : Option (List ℕ)). 0 < length (option_to_list v ++ contents files more)) (sym present) (omega arith));
      others = ap (contents (after files (renamed from oldest))) is
          ∙ contents_moved files [] oldest from post (apart [] oldest from post (subst AreDistinct is distinct))
          ∙ ap (λ (v : Option (List ℕ)). drop 1 (option_to_list v ++ (option_to_list (files from) ++ contents files post))) (sym present)
          ∙ ap (λ (ns : List (List ℕ)). drop 1 (contents files ns)) (sym is);
    }

pub first_move : (w : Window) (files : Files) (oldest from : List ℕ) (more post : List (List ℕ)) (others : List Change) (v : Option (List ℕ))
    → files oldest ≡ v
    → w.archives ≡ oldest ∷ more → names w ≡ oldest ∷ from ∷ post → AreDistinct (names w)
    → GoodWithin zero w (after files (renamed from oldest)) others
    → GoodWithin (suc zero) w files (renamed from oldest ∷ others)
first_move w files oldest from more post others None vacant first is distinct go =
    inl (move_keeps w files [] oldest from post is distinct vacant, GoodWithin-more (suc zero) w (after files (renamed from oldest)) others go)
first_move w files oldest from more post others (Some content) present first is distinct go =
    inr (move_drops w files oldest from more post content first is distinct present, go)

-- Moves from the oldest name on drop at most the oldest archive
pub moves_good : (w : Window) (oldest : List ℕ) (more rest post : List (List ℕ)) (files : Files) (changes : List Change)
    → w.archives ≡ oldest ∷ more → names w ≡ oldest ∷ (rest ++ post) → AreDistinct (names w) → NoCopies changes
    → MovedAll files (each_to_the_older (oldest ∷ rest)) changes → GoodWithin (suc zero) w files changes
moves_good w oldest more [] post files changes first is distinct clean moved = subst (GoodWithin (suc zero) w files) (sym moved) tt
moves_good w oldest more (from ∷ rest) post files changes first is distinct clean moved =
    let start = moved.0 in
    let others = moved.1 in
    let split : changes ≡ start ++ others = moved.2 in
    let clean_split = subst NoCopies split clean in
    let next : names w ≡ (oldest ∷ []) ++ from ∷ (rest ++ post) = is in
    elim (moved_cases files from oldest start moved.3 (NoCopies-front start others clean_split)) [
      | inl none ↦
          let go = moves_keep w rest files (oldest ∷ []) from post others next distinct none.0 (NoCopies-back start others clean_split)
          (subst (λ (c : List Change). MovedAll (replay files c) (each_to_the_older (from ∷ rest)) others) none.1 moved.4) in
          subst (GoodWithin (suc zero) w files) (sym (split ∙ ap (λ (c : List Change). c ++ others) none.1)) (GoodWithin-more (suc zero) w files others go)
      | inr once ↦
          let different = (apart [] oldest from (rest ++ post) (subst AreDistinct is distinct)).a_b in
          let go = moves_keep w rest (after files (renamed from oldest)) (oldest ∷ []) from post others next distinct (renamed_from files from oldest (λ e. different (sym e)))
          (NoCopies-back start others clean_split)
          (subst (λ (c : List Change). MovedAll (replay files c) (each_to_the_older (from ∷ rest)) others) once.1 moved.4) in
          subst (GoodWithin (suc zero) w files) (sym (split ∙ ap (λ (c : List Change). c ++ others) once.1))
          (first_move w files oldest from more (rest ++ post) others (files oldest) refl first is distinct go)
    ]

-- Writes and openings of the active file

pub not_last : (older : List (List ℕ)) (a : List ℕ) → AreDistinct (older ++ a ∷ []) → NotAmong a older
not_last [] a h = tt
not_last (n ∷ older) a h = (λ e. not_end n older a h.0 (sym e), not_last older a h.1) where
  not_end : (p : List ℕ) (ns : List (List ℕ)) (b : List ℕ) → NotAmong p (ns ++ b ∷ []) → p ≢ b
  not_end p [] b k = k.0
  not_end p (q ∷ ns) b k = not_end p ns b k.1

older_names : Window → List (List ℕ)
older_names w = w.archives ++ option_to_list w.waiting

contents_of_active : (w : Window) (files : Files) (value : Option (List ℕ)) → AreDistinct (names w)
    → contents (put files w.active value) (names w) ≡ contents files (older_names w) ++ option_to_list value
unfolding older_names
contents_of_active w files value distinct =
    let new = put files w.active value in
    contents-append new (older_names w) (w.active ∷ [])
    ∙ ap (λ (c : List (List ℕ)). c ++ (option_to_list (new w.active) ++ [])) (contents_elsewhere files w.active value (older_names w) (not_last (older_names w) w.active distinct))
    ∙ ap (λ (c : List (List ℕ)). contents files (older_names w) ++ c) (append-nil (option_to_list (new w.active)))
    ∙ ap (λ (v : Option (List ℕ)). contents files (older_names w) ++ option_to_list v) (put_here files w.active value)

kept_of_active : (w : Window) (files : Files) → kept w files ≡ concat (contents files (older_names w) ++ option_to_list (files w.active))
unfolding older_names
kept_of_active w files =
    ap concat (contents-append files (older_names w) (w.active ∷ [])
    ∙ ap (λ (c : List (List ℕ)). contents files (older_names w) ++ c) (append-nil (option_to_list (files w.active))))

grown : (before : List (List ℕ)) (v : Option (List ℕ)) (bytes : List ℕ)
    → concat (before ++ option_to_list (Some (unwrap_or v [] ++ bytes))) ≡ concat (before ++ option_to_list v) ++ bytes
grown before None bytes =
    concat-append before (bytes ∷ []) ∙ ap (λ (c : List ℕ). concat before ++ c) (append-nil bytes)
    ∙ ap (λ (c : List (List ℕ)). concat c ++ bytes) (sym (append-nil before))
grown before (Some x) bytes =
    concat-append before ((x ++ bytes) ∷ [])
    ∙ ap (λ (c : List ℕ). concat before ++ c) (append-nil (x ++ bytes))
    ∙ sym (append_assoc (concat before) x bytes)
    ∙ ap (λ (c : List ℕ). (concat before ++ c) ++ bytes) (sym (append-nil x))
    ∙ ap (λ (c : List ℕ). c ++ bytes) (sym (concat-append before (x ∷ [])))

-- a write to the active file adds its bytes
pub write_keeps : (w : Window) (files : Files) (bytes : List ℕ) → AreDistinct (names w) → Keeps w files (wrote w.active bytes)
write_keeps w files bytes distinct =
    ap concat (contents_of_active w files (Some (bytes_at files w.active ++ bytes)) distinct)
    ∙ grown (contents files (older_names w)) (files w.active) bytes
    ∙ ap (λ (c : List ℕ). c ++ bytes) (sym (kept_of_active w files))
    ∙ ap (λ (b : Bool). kept w files ++ cond b bytes []) (sym (same_path w.active))

-- opening the active file for appending changes nothing that is kept
pub open_keeps : (w : Window) (files : Files) → AreDistinct (names w) → Keeps w files (opened w.active Append)
open_keeps w files distinct =
    ap concat (contents_of_active w files (Some (bytes_at files w.active)) distinct)
    ∙ ap (λ (c : List ℕ). concat (contents files (older_names w) ++ option_to_list (Some c))) (sym (append-nil (bytes_at files w.active)))
    ∙ grown (contents files (older_names w)) (files w.active) []
    ∙ ap (λ (c : List ℕ). c ++ []) (sym (kept_of_active w files))

-- The kept text is the end of the stream

drop_first : (xs ys : List (List ℕ)) → 0 < length (xs ++ ys) → (x : List ℕ) × (x ∷ drop 1 (xs ++ ys) ≡ xs ++ ys)
drop_first [] [] h = absurd (omega arith)
drop_first [] (y ∷ ys) h = (y, refl)
drop_first (x ∷ xs) ys h = (x, refl)

some_left : (files : Files) (xs ys : List (List ℕ)) → 0 < length (contents files xs) → 0 < length (contents files (xs ++ ys))
some_left files xs ys h = simp (contents-append, length-append) (omega arith)

pub good_end : (w : Window) (files : Files) (changes : List Change) → Good w files changes → KeepsTheEnd w files changes
good_end w files [] g = ([], sym (append-nil (kept w files)))
good_end w files (change ∷ changes) g =
    let later = good_end w (after files change) changes g.1 in
    let new = written w.active changes in
    elim g.0 [
      | inl keeps ↦ (later.0, later.1 ∙ ap (λ (c : List ℕ). c ++ new) keeps ∙ append_assoc (kept w files) (written_by w.active change) new)
      | inr drops ↦
          let before = contents files (names w) in
          let some : 0 < length (before ++ []) = simp append-nil (subst (λ (c : List (List ℕ)). 0 < length (contents files c)) (sym (append_assoc w.archives (option_to_list w.waiting) (w.active ∷ []))) (some_left files w.archives (option_to_list w.waiting ++ w.active ∷ []) drops.archived)) in
          let oldest = drop_first before [] some in
          let was : oldest.0 ++ kept w (after files change) ≡ kept w files =
          ap (λ (c : List (List ℕ)). concat (oldest.0 ∷ c)) (drops.others ∙ ap (drop 1) (sym (append-nil before))) ∙ ap concat (oldest.1 ∙ append-nil before) in (
            oldest.0 ++ later.0,
            append_assoc oldest.0 later.0 (kept w (replay (after files change) changes))
                ∙ ap (λ (c : List ℕ). oldest.0 ++ c) later.1
                ∙ sym (append_assoc oldest.0 (kept w (after files change)) new)
                ∙ ap (λ (c : List ℕ). c ++ new) was
                ∙ ap (λ (c : List ℕ). kept w files ++ (c ++ new)) (sym drops.silent),
          )
    ]

-- a beginning of such moves
pub moves_partly_good : (w : Window) (oldest : List ℕ) (more rest post : List (List ℕ)) (files : Files) (changes : List Change)
    → w.archives ≡ oldest ∷ more → names w ≡ oldest ∷ (rest ++ post) → AreDistinct (names w) → NoCopies changes
    → MovedPartly files (each_to_the_older (oldest ∷ rest)) changes → GoodWithin (suc zero) w files changes
moves_partly_good w oldest more rest post files changes first is distinct clean moved =
    GoodWithin-front (suc zero) w files changes moved.0
    (moves_good w oldest more rest post files (changes ++ moved.0) first is distinct (NoCopies-append changes moved.0 clean (moved.2 clean)) moved.1)

-- Lists of openings and of writes keep

-- Openings in append mode and writes keep
pub appends_keep : (w : Window) (files : Files) (changes : List Change) → AreDistinct (names w) → OnlyAppends w.active Append changes → GoodWithin zero w files changes
appends_keep w files [] distinct only = tt
appends_keep w files (opened at how ∷ changes) distinct only = (
  subst (λ (p : List ℕ). Keeps w files (opened p how)) (sym only.0) (subst (λ (h : Open). Keeps w files (opened w.active h)) (sym only.1) (open_keeps w files distinct)),
  appends_keep w (after files (opened at how)) changes distinct only.2,
)
appends_keep w files (wrote at bytes ∷ changes) distinct only = (
  subst (λ (p : List ℕ). Keeps w files (wrote p bytes)) (sym only.0) (write_keeps w files bytes distinct),
  appends_keep w (after files (wrote at bytes)) changes distinct only.1,
)
appends_keep w files (renamed from to ∷ changes) distinct only = absurd only
appends_keep w files (copied from to ∷ changes) distinct only = absurd only
appends_keep w files (removed at ∷ changes) distinct only = absurd only

pub opens_keep : (w : Window) (files : Files) (changes : List Change) → AreDistinct (names w) → OnlyOpens w.active Append changes → GoodWithin zero w files changes
opens_keep w files changes distinct only = appends_keep w files changes distinct (opens_append w.active Append changes only)

pub writes_keep : (w : Window) (files : Files) (changes : List Change) → AreDistinct (names w) → OnlyWrites w.active changes → GoodWithin zero w files changes
writes_keep w files changes distinct only = appends_keep w files changes distinct (writes_append w.active Append changes only)

pub opens_silent : (path : List ℕ) (how : Open) (changes : List Change) → OnlyOpens path how changes → written path changes ≡ []
opens_silent path how [] only = refl
opens_silent path how (opened at way ∷ changes) only = opens_silent path how changes only.2
opens_silent path how (wrote at bytes ∷ changes) only = absurd only
opens_silent path how (renamed from to ∷ changes) only = absurd only
opens_silent path how (copied from to ∷ changes) only = absurd only
opens_silent path how (removed at ∷ changes) only = absurd only

-- a list that may drop, and then one without a drop
pub GoodWithin-behind : (n : ℕ) (w : Window) (files : Files) (xs ys : List Change) → GoodWithin n w files xs → GoodWithin zero w (replay files xs) ys → GoodWithin n w files (xs ++ ys)
GoodWithin-behind n w files [] ys g h = GoodWithin-more n w files ys h
GoodWithin-behind zero w files (x ∷ xs) ys g h = (g.0, GoodWithin-behind zero w (after files x) xs ys g.1 h)
GoodWithin-behind (suc n) w files (x ∷ xs) ys g h =
    elim g [
      | inl keeps ↦ inl (keeps.0, GoodWithin-behind (suc n) w (after files x) xs ys keeps.1 h)
      | inr drops ↦ inr (drops.0, GoodWithin-behind n w (after files x) xs ys drops.1 h)
    ]
