-- Where kept archives end, through writes and moves.
use Rattle.std.proofs.Common.{◌≡◌, ◌≢◌, ℕ, suc, ◌+◌, List, [], ◌∷◌, ◌++◌, length, Option, Some, None, refl, sym, ap, ◌∙◌, subst, inl, inr, Bool, true, append_assoc, arith, length-append, unwrap_or, cond}
use Rattle.std.proofs.lemmas.List.{append-nil}
use Rattle.std.specs.Option.{option_to_list, IsSome}
use Rattle.log4rs_rolling.specs.Change.{Change, copied, opened, wrote, renamed, removed, Files, put, bytes_at, after, replay, written, written_by}
use Rattle.log4rs_rolling.specs.declared.store.Open.{Open}
use Rattle.log4rs_rolling.specs.declared.store.Open.TheVariants.{Append}
use Rattle.log4rs_rolling.specs.Window.{Window, contents, NoCopies, NotAmong, AreDistinct}
use Rattle.log4rs_rolling.specs.FileChanges.{OnlyWrites, OnlyOpens}
use Rattle.log4rs_rolling.specs.Moves.{MovedAll, MovedPartly, each_to_the_older}
use Rattle.log4rs_rolling.specs.ArchiveEnds.{total, ends_of, older_of, ends, IsAt, AreAt, longer, EndsAt}
use Rattle.log4rs_rolling.proofs.Replays.{put_here, put_there}
use Rattle.log4rs_rolling.proofs.Calls.{same_path}
use Rattle.log4rs_rolling.proofs.Windows.{apart, contents_moved, contents_vacant, contents-append, contents_elsewhere, moved_cases, renamed_from, renamed_to, not_last, NoCopies-front, NoCopies-back, NoCopies-append}

-- Places

is_later : (places : List ℕ) (at d w : ℕ) → IsAt places at d → IsAt places (at + w) (d + w)
is_later [] at d w is = absurd is
is_later (p ∷ places) at d w is = elim is [ inl here ↦ inl (omega (arith, here)) | inr there ↦ inr (is_later places at d w there) ]

total_more : (cs : List (List ℕ)) (a w : ℕ) → total cs (a + w) ≡ total cs a + w
total_more [] a w = refl
total_more (c ∷ cs) a w = let later = total_more cs a w in omega arith

pub are_later : (places : List ℕ) (at w a : ℕ) (cs : List (List ℕ)) → AreAt places at (ends_of cs a) → AreAt places (at + w) (ends_of cs (a + w))
are_later places at w a [] are = (is_later places at a w are.0, tt)
are_later places at w a (c ∷ cs) are =
    let e : length c + total cs a + w ≡ length c + total cs (a + w) = let t = total_more cs a w in omega arith in
    (subst (IsAt places (at + w)) e (is_later places at (length c + total cs a) w are.0), are_later places at w a cs are.1)

total_last : (cs : List (List ℕ)) (x : List ℕ) → total (cs ++ x ∷ []) 0 ≡ total cs (length x)
total_last [] x = omega arith
total_last (c ∷ cs) x = let t = total_last cs x in omega arith

-- the active file becomes the newest archive: one end more, at the end of the stream
pub are_closed : (places : List ℕ) (at : ℕ) (cs : List (List ℕ)) (x : List ℕ) → AreAt places at (ends_of cs (length x)) → IsAt places at 0 → AreAt places at (ends_of (cs ++ x ∷ []) 0)
are_closed places at [] x are cut = (let e : length x ≡ length x + 0 = omega arith in subst (IsAt places at) e are.0, (cut, tt))
are_closed places at (c ∷ cs) x are cut =
    (subst (λ (n : ℕ). IsAt places at (length c + n)) (sym (total_last cs x)) are.0, are_closed places at cs x are.1 cut)

-- Lists of changes

longer_suc : (ys : List ℕ) (at : ℕ) → longer ys (suc at) ≡ suc (longer ys at)
longer_suc [] at = refl
longer_suc (y ∷ ys) at = ap suc (longer_suc ys at)

pub longer_both : (xs ys : List ℕ) (at : ℕ) → longer (xs ++ ys) at ≡ longer ys (longer xs at)
longer_both [] ys at = refl
longer_both (x ∷ xs) ys at = ap suc (longer_both xs ys at) ∙ sym (longer_suc ys (longer xs at))

pub EndsAt-append : (places : List ℕ) (w : Window) (files : Files) (at : ℕ) (xs ys : List Change) → EndsAt places w files at xs → EndsAt places w (replay files xs) (longer (written w.active xs) at) ys → EndsAt places w files at (xs ++ ys)
EndsAt-append places w files at [] ys g h = h
EndsAt-append places w files at (x ∷ xs) ys g h = (
  g.0,
  EndsAt-append places w (after files x) (longer (written_by w.active x) at) xs ys g.1
      (subst (λ (n : ℕ). EndsAt places w (replay (after files x) xs) n ys) (longer_both (written_by w.active x) (written w.active xs) at) h),
)

pub EndsAt-last : (places : List ℕ) (w : Window) (files : Files) (at : ℕ) (xs : List Change) → EndsAt places w files at xs → AreAt places (longer (written w.active xs) at) (ends w (replay files xs))
EndsAt-last places w files at [] g = g
EndsAt-last places w files at (x ∷ xs) g =
    subst (λ (n : ℕ). AreAt places n (ends w (replay (after files x) xs))) (sym (longer_both (written_by w.active x) (written w.active xs) at))
    (EndsAt-last places w (after files x) (longer (written_by w.active x) at) xs g.1)

pub none_yes : {X : Type 0} → None ≡ Some true → X
none_yes e = absurd (clash e) where
  clash : None ≡ Some true → ⊥
  clash e = cc

pub EndsAt-front : (places : List ℕ) (w : Window) (files : Files) (at : ℕ) (xs ys : List Change) → EndsAt places w files at (xs ++ ys) → EndsAt places w files at xs
EndsAt-front places w files at [] [] g = g
EndsAt-front places w files at [] (y ∷ ys) g = g.0
EndsAt-front places w files at (x ∷ xs) ys g = (g.0, EndsAt-front places w (after files x) (longer (written_by w.active x) at) xs ys g.1)

-- Moves

active_elsewhere : (w : Window) (files : Files) (from to : List ℕ) → w.active ≢ to → w.active ≢ from → bytes_at (after files (renamed from to)) w.active ≡ bytes_at files w.active
active_elsewhere w files from to a b = ap (λ (v : Option (List ℕ)). unwrap_or v []) (put_there (put files from None) to (files from) w.active a ∙ put_there files from None w.active b)

not_in : (name : List ℕ) (pre : List (List ℕ)) (a : List ℕ) (post : List (List ℕ)) → NotAmong name (pre ++ a ∷ post) → name ≢ a
not_in name [] a post h = h.0
not_in name (p ∷ pre) a post h = not_in name pre a post h.1

distinct_front : (xs : List (List ℕ)) (a : List ℕ) → AreDistinct (xs ++ a ∷ []) → AreDistinct xs
distinct_front [] a h = tt
distinct_front (x ∷ xs) a h = (front x xs a h.0, distinct_front xs a h.1) where
  front : (x : List ℕ) (xs : List (List ℕ)) (a : List ℕ) → NotAmong x (xs ++ a ∷ []) → NotAmong x xs
  front x [] a h = tt
  front x (y ∷ ys) a h = (h.0, front x ys a h.1)

-- a move to a vacant name between archives changes no end
pub move_ends : (w : Window) (files : Files) (pre : List (List ℕ)) (to from : List ℕ) (post : List (List ℕ)) → older_of w ≡ pre ++ to ∷ from ∷ post → AreDistinct (older_of w ++ w.active ∷ []) → files to ≡ None
    → ends w (after files (renamed from to)) ≡ ends w files
move_ends w files pre to from post is distinct vacant =
    let new = after files (renamed from to) in
    let apart_active = subst (NotAmong w.active) is (not_last (older_of w) w.active distinct) in
    let inner = subst AreDistinct is (distinct_front (older_of w) w.active distinct) in
    let same : contents new (older_of w) ≡ contents files (older_of w) =
    ap (contents new) is ∙ contents_moved files pre to from post (apart pre to from post inner) ∙ sym (contents_vacant files pre to from post vacant) ∙ ap (contents files) (sym is) in
    let different2 = not_in w.active (pre ++ to ∷ []) from post (subst (NotAmong w.active) (sym (append_assoc pre (to ∷ []) (from ∷ post))) apart_active) in
    ap (λ (c : List (List ℕ)). ends_of c (length (bytes_at new w.active))) same
    ∙ ap (λ (b : List ℕ). ends_of (contents files (older_of w)) (length b)) (active_elsewhere w files from to (not_in w.active pre to (from ∷ post) apart_active) different2)

-- the active file is moved to the vacant newest name
pub last_move : (w : Window) (files : Files) (pre : List (List ℕ)) (to : List ℕ) (places : List ℕ) (at : ℕ) (v : Option (List ℕ)) → files w.active ≡ v → IsSome v
    → older_of w ≡ pre ++ to ∷ [] → AreDistinct (older_of w ++ w.active ∷ []) → files to ≡ None
    → AreAt places at (ends w files) → IsAt places at 0 → AreAt places at (ends w (after files (renamed w.active to)))
last_move w files pre to places at None present some is distinct vacant are cut = absurd (no some) where
  no : IsSome {T = List ℕ} None → ⊥
  no e = cc
last_move w files pre to places at (Some x) present some is distinct vacant are cut =
    let new = after files (renamed w.active to) in
    let all = subst AreDistinct (ap (λ (l : List (List ℕ)). l ++ w.active ∷ []) is ∙ append_assoc pre (to ∷ []) (w.active ∷ [])) distinct in
    let h = apart pre to w.active [] all in
    let c = contents files pre in
    let new_older : contents new (older_of w) ≡ c ++ x ∷ [] =
    ap (contents new) is
    ∙ contents-append new pre (to ∷ [])
    ∙ ap (λ (b : List (List ℕ)). b ++ (option_to_list (new to) ++ [])) (contents_elsewhere (put files w.active None) to (files w.active) pre h.a_pre ∙ contents_elsewhere files w.active None pre h.b_pre)
    ∙ ap (λ (v : Option (List ℕ)). c ++ (option_to_list v ++ [])) (renamed_to files w.active to ∙ present) in
    let old_older : contents files (older_of w) ≡ c =
    ap (contents files) is ∙ contents-append files pre (to ∷ []) ∙ ap (λ (v : Option (List ℕ)). c ++ (option_to_list v ++ [])) vacant ∙ append-nil c in
    let gone : bytes_at new w.active ≡ [] = ap (λ (v : Option (List ℕ)). unwrap_or v []) (renamed_from files w.active to (λ e. h.a_b (sym e))) in
    let was : AreAt places at (ends_of c (length x)) =
    subst (λ (b : List ℕ). AreAt places at (ends_of c (length b))) (ap (λ (v : Option (List ℕ)). unwrap_or v []) present)
    (subst (λ (o : List (List ℕ)). AreAt places at (ends_of o (length (bytes_at files w.active)))) old_older are) in
    subst (λ (o : List (List ℕ)). AreAt places at (ends_of o (length (bytes_at new w.active)))) (sym new_older)
    (subst (λ (b : List ℕ). AreAt places at (ends_of (c ++ x ∷ []) (length b))) (sym gone) (are_closed places at c x was cut))

-- moves along a part of the archives whose oldest name is vacant, and then of the active file
pub moves_end : (w : Window) (rest : List (List ℕ)) (files : Files) (pre : List (List ℕ)) (to : List ℕ) (changes : List Change) (places : List ℕ) (at : ℕ)
    → older_of w ≡ pre ++ to ∷ rest → AreDistinct (older_of w ++ w.active ∷ []) → files to ≡ None → NoCopies changes
    → MovedAll files (each_to_the_older (to ∷ (rest ++ w.active ∷ []))) changes
    → AreAt places at (ends w files) → IsAt places at 0 → EndsAt places w files at changes
moves_end w [] files pre to changes places at is distinct vacant clean moved are cut =
    let first = moved.0 in
    let split : changes ≡ first = moved.2 ∙ ap (λ (c : List Change). first ++ c) moved.4 ∙ append-nil first in
    elim (moved_cases files w.active to first moved.3 (subst NoCopies split clean)) [
      | inl none ↦ subst (EndsAt places w files at) (sym (split ∙ none.1)) are
      | inr once ↦ subst (EndsAt places w files at) (sym (split ∙ once.1)) (are, last_move w files pre to places at (files w.active) refl once.0 is distinct vacant are cut)
    ]
moves_end w (from ∷ rest) files pre to changes places at is distinct vacant clean moved are cut =
    let first = moved.0 in
    let others = moved.1 in
    let split : changes ≡ first ++ others = moved.2 in
    let clean_split = subst NoCopies split clean in
    let next : older_of w ≡ (pre ++ to ∷ []) ++ from ∷ rest = is ∙ sym (append_assoc pre (to ∷ []) (from ∷ rest)) in
    elim (moved_cases files from to first moved.3 (NoCopies-front first others clean_split)) [
      | inl none ↦
          subst (EndsAt places w files at) (sym (split ∙ ap (λ (c : List Change). c ++ others) none.1))
          (moves_end w rest files (pre ++ to ∷ []) from others places at next distinct none.0 (NoCopies-back first others clean_split)
          (subst (λ (c : List Change). MovedAll (replay files c) (each_to_the_older (from ∷ (rest ++ w.active ∷ []))) others) none.1 moved.4) are cut)
      | inr once ↦
          let different = (apart pre to from rest (subst AreDistinct is (distinct_front (older_of w) w.active distinct))).a_b in
          subst (EndsAt places w files at) (sym (split ∙ ap (λ (c : List Change). c ++ others) once.1)) (
            are,
            moves_end w rest (after files (renamed from to)) (pre ++ to ∷ []) from others places at next distinct (renamed_from files from to (λ e. different (sym e)))
                (NoCopies-back first others clean_split)
                (subst (λ (c : List Change). MovedAll (replay files c) (each_to_the_older (from ∷ (rest ++ w.active ∷ []))) others) once.1 moved.4)
                (subst (AreAt places at) (sym (move_ends w files pre to from rest is distinct vacant)) are) cut,
          )
    ]

-- the oldest archive is replaced by the next one
pub drop_ends : (w : Window) (files : Files) (oldest from : List ℕ) (post : List (List ℕ)) (x : List ℕ) (places : List ℕ) (at : ℕ) → older_of w ≡ oldest ∷ from ∷ post → AreDistinct (older_of w ++ w.active ∷ []) → files oldest ≡ Some x
    → AreAt places at (ends w files) → AreAt places at (ends w (after files (renamed from oldest)))
drop_ends w files oldest from post x places at is distinct present are =
    let new = after files (renamed from oldest) in
    let apart_active = subst (NotAmong w.active) is (not_last (older_of w) w.active distinct) in
    let inner = subst AreDistinct is (distinct_front (older_of w) w.active distinct) in
    let c = option_to_list (files from) ++ contents files post in
    let now : contents new (older_of w) ≡ c = ap (contents new) is ∙ contents_moved files [] oldest from post (apart [] oldest from post inner) in
    let was : contents files (older_of w) ≡ x ∷ c = ap (contents files) is ∙ ap (λ (v : Option (List ℕ)). option_to_list v ++ c) present in
    let a : ℕ = length (bytes_at files w.active) in
    let dropped : AreAt places at (ends_of c a) = (subst (λ (o : List (List ℕ)). AreAt places at (ends_of o a)) was are).1 in
    subst (λ (o : List (List ℕ)). AreAt places at (ends_of o (length (bytes_at new w.active)))) (sym now)
    (subst (λ (b : List ℕ). AreAt places at (ends_of c (length b))) (sym (active_elsewhere w files from oldest apart_active.0 apart_active.1.0)) dropped)

-- the only archive is replaced by the active file
replace_ends : (w : Window) (files : Files) (oldest : List ℕ) (x : List ℕ) (places : List ℕ) (at : ℕ) (v : Option (List ℕ)) → files w.active ≡ v → IsSome v → older_of w ≡ oldest ∷ [] → AreDistinct (older_of w ++ w.active ∷ [])
    → files oldest ≡ Some x → AreAt places at (ends w files) → IsAt places at 0 → AreAt places at (ends w (after files (renamed w.active oldest)))
replace_ends w files oldest x places at None has some is distinct present are cut = absurd (no some) where
  no : IsSome {T = List ℕ} None → ⊥
  no e = cc
replace_ends w files oldest x places at (Some a) has some is distinct present are cut =
    let new = after files (renamed w.active oldest) in
    let apart_active = subst (NotAmong w.active) is (not_last (older_of w) w.active distinct) in
    let now : contents new (older_of w) ≡ a ∷ [] = ap (contents new) is ∙ ap (λ (v : Option (List ℕ)). option_to_list v ++ []) (renamed_to files w.active oldest ∙ has) in
    let was : contents files (older_of w) ≡ x ∷ [] = ap (contents files) is ∙ ap (λ (v : Option (List ℕ)). option_to_list v ++ []) present in
    let gone : bytes_at new w.active ≡ [] = ap (λ (v : Option (List ℕ)). unwrap_or v []) (renamed_from files w.active oldest apart_active.0) in
    let dropped : AreAt places at (ends_of [] (length a)) =
    subst (λ (b : List ℕ). AreAt places at (ends_of [] (length b))) (ap (λ (v : Option (List ℕ)). unwrap_or v []) has)
    (subst (λ (o : List (List ℕ)). AreAt places at (ends_of o (length (bytes_at files w.active)))) was are).1 in
    subst (λ (o : List (List ℕ)). AreAt places at (ends_of o (length (bytes_at new w.active)))) (sym now)
    (subst (λ (b : List ℕ). AreAt places at (ends_of (a ∷ []) (length b))) (sym gone) (are_closed places at [] a dropped cut))

-- the moves of a rotation, from the oldest archive on
rotation_end : (w : Window) (oldest : List ℕ) (rest : List (List ℕ)) (files : Files) (changes : List Change) (places : List ℕ) (at : ℕ) (v : Option (List ℕ)) → files oldest ≡ v
    → older_of w ≡ oldest ∷ rest → AreDistinct (older_of w ++ w.active ∷ []) → NoCopies changes
    → MovedAll files (each_to_the_older (oldest ∷ (rest ++ w.active ∷ []))) changes
    → AreAt places at (ends w files) → IsAt places at 0 → EndsAt places w files at changes
rotation_end w oldest rest files changes places at None vacant is distinct clean moved are cut = moves_end w rest files [] oldest changes places at is distinct vacant clean moved are cut
rotation_end w oldest [] files changes places at (Some x) present is distinct clean moved are cut =
    let first = moved.0 in
    let split : changes ≡ first = moved.2 ∙ ap (λ (c : List Change). first ++ c) moved.4 ∙ append-nil first in
    elim (moved_cases files w.active oldest first moved.3 (subst NoCopies split clean)) [
      | inl none ↦ subst (EndsAt places w files at) (sym (split ∙ none.1)) are
      | inr once ↦ subst (EndsAt places w files at) (sym (split ∙ once.1)) (are, replace_ends w files oldest x places at (files w.active) refl once.0 is distinct present are cut)
    ]
rotation_end w oldest (from ∷ rest) files changes places at (Some x) present is distinct clean moved are cut =
    let first = moved.0 in
    let others = moved.1 in
    let split : changes ≡ first ++ others = moved.2 in
    let clean_split = subst NoCopies split clean in
    let next : older_of w ≡ (oldest ∷ []) ++ from ∷ rest = is in
    elim (moved_cases files from oldest first moved.3 (NoCopies-front first others clean_split)) [
      | inl none ↦
          subst (EndsAt places w files at) (sym (split ∙ ap (λ (c : List Change). c ++ others) none.1))
          (moves_end w rest files (oldest ∷ []) from others places at next distinct none.0 (NoCopies-back first others clean_split)
          (subst (λ (c : List Change). MovedAll (replay files c) (each_to_the_older (from ∷ (rest ++ w.active ∷ []))) others) none.1 moved.4) are cut)
      | inr once ↦
          let different = (apart [] oldest from rest (subst AreDistinct is (distinct_front (older_of w) w.active distinct))).a_b in
          subst (EndsAt places w files at) (sym (split ∙ ap (λ (c : List Change). c ++ others) once.1)) (
            are,
            moves_end w rest (after files (renamed from oldest)) (oldest ∷ []) from others places at next distinct (renamed_from files from oldest (λ e. different (sym e)))
                (NoCopies-back first others clean_split)
                (subst (λ (c : List Change). MovedAll (replay files c) (each_to_the_older (from ∷ (rest ++ w.active ∷ []))) others) once.1 moved.4)
                (drop_ends w files oldest from rest x places at is distinct present are) cut,
          )
    ]

-- a rotation, or a beginning of it
pub rotation_ends : (w : Window) (oldest : List ℕ) (rest : List (List ℕ)) (files : Files) (changes : List Change) (places : List ℕ) (at : ℕ)
    → older_of w ≡ oldest ∷ rest → AreDistinct (older_of w ++ w.active ∷ []) → NoCopies changes
    → MovedPartly files (each_to_the_older (oldest ∷ (rest ++ w.active ∷ []))) changes
    → AreAt places at (ends w files) → IsAt places at 0 → EndsAt places w files at changes
rotation_ends w oldest rest files changes places at is distinct clean moved are cut =
    EndsAt-front places w files at changes moved.0
    (rotation_end w oldest rest files (changes ++ moved.0) places at (files oldest) refl is distinct (NoCopies-append changes moved.0 clean (moved.2 clean)) moved.1 are cut)

-- Writes and openings

longer_by : (bytes : List ℕ) (at : ℕ) → longer bytes at ≡ at + length bytes
longer_by [] at = omega arith
longer_by (b ∷ bytes) at = let e = longer_by bytes at in omega arith

active_put : (w : Window) (files : Files) (bytes : List ℕ) → AreDistinct (older_of w ++ w.active ∷ []) → ends w (put files w.active (Some bytes)) ≡ ends_of (contents files (older_of w)) (length bytes)
active_put w files bytes distinct =
    ap (λ (c : List (List ℕ)). ends_of c (length (bytes_at (put files w.active (Some bytes)) w.active))) (contents_elsewhere files w.active (Some bytes) (older_of w) (not_last (older_of w) w.active distinct))
    ∙ ap (λ (v : Option (List ℕ)). ends_of (contents files (older_of w)) (length (unwrap_or v []))) (put_here files w.active (Some bytes))

pub writes_end : (w : Window) (files : Files) (changes : List Change) (places : List ℕ) (at : ℕ) → AreDistinct (older_of w ++ w.active ∷ []) → OnlyWrites w.active changes
    → AreAt places at (ends w files) → EndsAt places w files at changes
writes_end w files [] places at distinct only are = are
writes_end w files (wrote path bytes ∷ changes) places at distinct only are =
    let Here : List ℕ → Type 0 = λ p. AreAt places (longer (written_by w.active (wrote p bytes)) at) (ends w (after files (wrote p bytes))) in
    let mine : written_by w.active (wrote w.active bytes) ≡ bytes = ap (λ (b : Bool). cond b bytes []) (same_path w.active) in
    let a = bytes_at files w.active in
    let next : Here w.active =
    subst (λ (e : List ℕ). AreAt places (longer (written_by w.active (wrote w.active bytes)) at) e) (sym (active_put w files (a ++ bytes) distinct))
    (subst (λ (b : List ℕ). AreAt places (longer b at) (ends_of (contents files (older_of w)) (length (a ++ bytes)))) (sym mine)
    (subst (λ (n : ℕ). AreAt places n (ends_of (contents files (older_of w)) (length (a ++ bytes)))) (sym (longer_by bytes at))
    (subst (λ (n : ℕ). AreAt places (at + length bytes) (ends_of (contents files (older_of w)) n)) (sym (length-append a bytes))
    (are_later places at (length bytes) (length a) (contents files (older_of w)) are)))) in
    (are, writes_end w (after files (wrote path bytes)) changes places (longer (written_by w.active (wrote path bytes)) at) distinct only.1 (subst Here (sym only.0) next))
writes_end w files (opened path how ∷ changes) places at distinct only are = absurd only
writes_end w files (renamed from to ∷ changes) places at distinct only are = absurd only
writes_end w files (copied from to ∷ changes) places at distinct only are = absurd only
writes_end w files (removed path ∷ changes) places at distinct only are = absurd only

pub opens_end : (w : Window) (files : Files) (changes : List Change) (places : List ℕ) (at : ℕ) → AreDistinct (older_of w ++ w.active ∷ []) → OnlyOpens w.active Append changes
    → AreAt places at (ends w files) → EndsAt places w files at changes
opens_end w files [] places at distinct only are = are
opens_end w files (opened path how ∷ changes) places at distinct only are =
    let here : AreAt places at (ends w (after files (opened w.active Append))) = subst (AreAt places at) (sym (active_put w files (bytes_at files w.active) distinct)) are in
    let next : AreAt places at (ends w (after files (opened path how))) =
    subst (λ (p : List ℕ). AreAt places at (ends w (after files (opened p how)))) (sym only.0) (subst (λ (h : Open). AreAt places at (ends w (after files (opened w.active h)))) (sym only.1) here) in
    (are, opens_end w (after files (opened path how)) changes places at distinct only.2 next)
opens_end w files (wrote path bytes ∷ changes) places at distinct only are = absurd only
opens_end w files (renamed from to ∷ changes) places at distinct only are = absurd only
opens_end w files (copied from to ∷ changes) places at distinct only are = absurd only
opens_end w files (removed path ∷ changes) places at distinct only are = absurd only
