-- What the files of a window show of segments, through its moves.
use Rattle.std.proofs.Common.{◌≡◌, ◌≢◌, ◌<◌, ℕ, suc, List, [], ◌∷◌, ◌++◌, length, Option, Some, None, refl, sym, ap, ◌∙◌, subst, Bool, true, false, if◌then◌else◌, append_assoc, unwrap_or}
use Rattle.std.specs.Str.{bytes_eq}
use Rattle.std.proofs.lemmas.List.{append-nil}
use Rattle.std.proofs.lemmas.Slice.Eq.{bytes_eq-Decides}
use Rattle.log4rs_rolling.specs.Change.{Change, Files, replay, bytes_at}
use Rattle.log4rs_rolling.proofs.Calls.{replay-append}
use Rattle.log4rs_rolling.specs.ArchiveEnds.{older_of}
use Rattle.log4rs_rolling.specs.Moves.{Moved, MovedAll, each_to_the_older}
use Rattle.log4rs_rolling.specs.Segments.{Segments, nth, Holds}
use Rattle.log4rs_rolling.specs.SegmentsShown.{without, standing, ShowsIn, StaysIn, close, ClosesIn}
use Rattle.log4rs_rolling.specs.Window.{Window, around, names, AreDistinct, NotAmong, Vacancy, Anywhere, VacantAt}
use Rattle.log4rs_rolling.proofs.Growing.{gapless, holds_shifted, nth_gap, present, shift_all, some_none}
use Rattle.log4rs_rolling.proofs.Shifting.{MovedTo, move_effect}
use Rattle.log4rs_rolling.proofs.Windows.{Apart, apart, not_last}

-- Names without one of them

differ : (a b : List ℕ) → a ≢ b → bytes_eq a b ≡ false
differ a b other = by (bytes_eq a b) refl where
  by : (v : Bool) → bytes_eq a b ≡ v → bytes_eq a b ≡ false
  by true is = absurd (other ((bytes_eq-Decides a b).0 is))
  by false is = is

without_here : (x : List ℕ) (post : List (List ℕ)) → without x (x ∷ post) ≡ post
without_here x post = ap (λ (b : Bool). if b then post else x ∷ without x post) ((bytes_eq-Decides x x).1 refl)

without_there : (x y : List ℕ) (post : List (List ℕ)) → x ≢ y → without x (y ∷ post) ≡ y ∷ without x post
without_there x y post other = ap (λ (b : Bool). if b then post else y ∷ without x post) (differ x y other)

pub without_at : (x : List ℕ) (pre post : List (List ℕ)) → NotAmong x pre → without x (pre ++ x ∷ post) ≡ pre ++ post
without_at x [] post not = without_here x post
without_at x (p ∷ pre) post not =
    without_there x p (pre ++ x ∷ post) not.0 ∙ ap (λ (l : List (List ℕ)). p ∷ l) (without_at x pre post not.1)

without_second : (y x : List ℕ) (pre post : List (List ℕ)) → NotAmong x pre → x ≢ y → without x (pre ++ y ∷ x ∷ post) ≡ pre ++ y ∷ post
without_second y x [] post not other = without_there x y (x ∷ post) other ∙ ap (λ (l : List (List ℕ)). y ∷ l) (without_here x post)
without_second y x (p ∷ pre) post not other =
    without_there x p (pre ++ y ∷ x ∷ post) not.0 ∙ ap (λ (l : List (List ℕ)). p ∷ l) (without_second y x pre post not.1 other)

among_parts : (x : List ℕ) (xs : List (List ℕ)) (a : List ℕ) → NotAmong x (xs ++ a ∷ []) → NotAmong x xs × (x ≢ a)
among_parts x [] a not = (tt, not.0)
among_parts x (y ∷ xs) a not = let inner = among_parts x xs a not.1 in ((not.0, inner.0), inner.1)

-- One move

holds_elsewhere : (f g : Files) (to from : List ℕ) (ns closed : List (List ℕ)) → ((q : List ℕ) → q ≢ to → q ≢ from → g q ≡ f q)
    → NotAmong to ns → NotAmong from ns → Holds f ns closed → Holds g ns closed
holds_elsewhere f g to from [] closed others a b holds = tt
holds_elsewhere f g to from (n ∷ ns) closed others a b holds =
    (others n (λ e. a.0 (sym e)) (λ e. b.0 (sym e)) ∙ holds.0, holds_elsewhere f g to from ns closed others a.1 b.1 holds.1)

length_swap : (pre : List (List ℕ)) (a b : List ℕ) (post : List (List ℕ)) → length (pre ++ a ∷ post) ≡ length (pre ++ b ∷ post)
length_swap [] a b post = refl
length_swap (p ∷ pre) a b post = ap (λ (n : ℕ). suc n) (length_swap pre a b post)

holds_moved : (f g : Files) (pre : List (List ℕ)) (to from : List ℕ) (post closed : List (List ℕ)) → g to ≡ f from
    → ((q : List ℕ) → q ≢ to → q ≢ from → g q ≡ f q) → NotAmong to pre → NotAmong from pre → NotAmong to post → NotAmong from post
    → Holds f (pre ++ from ∷ post) closed → Holds g (pre ++ to ∷ post) closed
holds_moved f g [] to from post closed there others a b c d holds = (there ∙ holds.0, holds_elsewhere f g to from post closed others c d holds.1)
holds_moved f g (p ∷ pre) to from post closed there others a b c d holds = (
  others p (λ e. a.0 (sym e)) (λ e. b.0 (sym e)) ∙ holds.0 ∙ ap (λ (n : ℕ). nth n closed) (length_swap pre from to post),
  holds_moved f g pre to from post closed there others a.1 b.1 c d holds.1,
)

-- a move within a window, and what it leaves at the other names
record Within (w : Window) (pre : List (List ℕ)) (to from : List ℕ) (post : List (List ℕ)) : Type 0 where
  pub apart : Apart pre to from (post ++ w.active ∷ [])
  pub to_post : NotAmong to post
  pub from_post : NotAmong from post
  pub to_active : w.active ≢ to
  pub from_active : w.active ≢ from

within : (w : Window) (pre : List (List ℕ)) (to from : List ℕ) (post : List (List ℕ)) → older_of w ≡ pre ++ to ∷ from ∷ post → AreDistinct (names w) → Within w pre to from post
within w pre to from post is distinct =
    let all : names w ≡ pre ++ to ∷ from ∷ (post ++ w.active ∷ []) =
    ap (λ (l : List (List ℕ)). l ++ w.active ∷ []) is ∙ append_assoc pre (to ∷ from ∷ post) (w.active ∷ []) in
    let parts = apart pre to from (post ++ w.active ∷ []) (subst AreDistinct all distinct) in
    let a = among_parts to post w.active parts.a_post in
    let b = among_parts from post w.active parts.b_post in
    record { apart = parts; to_post = a.0; from_post = b.0; to_active = λ e. a.1 (sym e); from_active = λ e. b.1 (sym e) }

moved_on : (w : Window) (pre : List (List ℕ)) (to from : List ℕ) (post : List (List ℕ)) (f g : Files) (segments : Segments) → older_of w ≡ pre ++ to ∷ from ∷ post → Within w pre to from post
    → MovedTo f g from to → Holds f (pre ++ from ∷ post) segments.closed → bytes_at f w.active ≡ segments.current → ShowsIn segments w (VacantAt from) g
moved_on w pre to from post f g segments is inside effect holds current =
    let parts = inside.apart in
    let left : without from (older_of w) ≡ pre ++ to ∷ post =
    ap (λ (l : List (List ℕ)). without from l) is ∙ without_second to from pre post parts.b_pre (λ e. parts.a_b (sym e)) in
    record {
      closed = subst (λ (l : List (List ℕ)). Holds g l segments.closed) (sym left)
          (holds_moved f g pre to from post segments.closed effect.there effect.others parts.a_pre parts.b_pre inside.to_post inside.from_post holds);
      current = ap (λ (v : Option (List ℕ)). unwrap_or v []) (effect.others w.active inside.to_active inside.from_active) ∙ current;
    }

-- to a vacant name
pub vacant_shown : (w : Window) (pre : List (List ℕ)) (to from : List ℕ) (post : List (List ℕ)) (files : Files) (changes : List Change) → older_of w ≡ pre ++ to ∷ from ∷ post → AreDistinct (names w)
    → files to ≡ None → Moved files from to changes → StaysIn (VacantAt to) (VacantAt from) w files changes
vacant_shown w pre to from post files changes is distinct vacant moved = λ segments shows.
    let inside = within w pre to from post is distinct in
    let effect = move_effect files from to changes (files from) refl (λ e. inside.apart.a_b (sym e)) (λ none. vacant) moved in
    let before : without to (older_of w) ≡ pre ++ from ∷ post =
    ap (λ (l : List (List ℕ)). without to l) is ∙ without_at to pre (from ∷ post) inside.apart.a_pre in
    moved_on w pre to from post files (replay files changes) segments is inside effect
    (subst (λ (l : List (List ℕ)). Holds files l segments.closed) before shows.closed) shows.current

-- to the oldest name
pub oldest_shown : (w : Window) (to from : List ℕ) (post : List (List ℕ)) (files : Files) (changes : List Change) → older_of w ≡ to ∷ from ∷ post → AreDistinct (names w)
    → Moved files from to changes → StaysIn Anywhere (VacantAt from) w files changes
oldest_shown w to from post files changes is distinct moved = λ segments shows.
    let inside = within w [] to from post is distinct in
    let holds = subst (λ (l : List (List ℕ)). Holds files l segments.closed) is shows.closed in
    let effect = move_effect files from to changes (files from) refl (λ e. inside.apart.a_b (sym e))
    (λ none. holds.0 ∙ nth_gap (length post) segments.closed (sym holds.1.0 ∙ none)) moved in
    moved_on w [] to from post files (replay files changes) segments is inside effect holds.1 shows.current

-- Names at the front

front_among : (x : List ℕ) (xs ys : List (List ℕ)) → NotAmong x (xs ++ ys) → NotAmong x xs
front_among x [] ys not = tt
front_among x (y ∷ xs) ys not = (not.0, front_among x xs ys not.1)

front : (xs ys : List (List ℕ)) → AreDistinct (xs ++ ys) → AreDistinct xs
front [] ys distinct = tt
front (x ∷ xs) ys distinct = (front_among x xs ys distinct.0, front xs ys distinct.1)

-- the waiting name is not one of the archives
waits_apart : (older : List (List ℕ)) (waiting path : List ℕ) → AreDistinct (names (around older (Some waiting) path)) → NotAmong waiting older
waits_apart older waiting path distinct = not_last older waiting (front (older ++ waiting ∷ []) (path ∷ []) distinct)

pub without_waiting : (older : List (List ℕ)) (waiting path : List ℕ) → AreDistinct (names (around older (Some waiting) path)) → without waiting (older ++ waiting ∷ []) ≡ older
without_waiting older waiting path distinct = without_at waiting older [] (waits_apart older waiting path distinct) ∙ append-nil older

-- The question whether a file waits

longer_by_one : (ns : List (List ℕ)) (a : List ℕ) → length (ns ++ a ∷ []) ≡ suc (length (ns ++ []))
longer_by_one [] a = refl
longer_by_one (n ∷ ns) a = ap (λ (k : ℕ). suc k) (longer_by_one ns a)

holds_shorter : (f : Files) (waiting : List ℕ) (older closed : List (List ℕ)) → f waiting ≡ None → Holds f (older ++ waiting ∷ []) closed → Holds f older closed × (nth (length older) closed ≡ None)
holds_shorter f waiting [] closed none holds = (tt, sym holds.0 ∙ none)
holds_shorter f waiting (n ∷ ns) closed none holds =
    let inner = holds_shorter f waiting ns closed none holds.1 in
    let gap = nth_gap (length ns) closed inner.1 in
    ((holds.0 ∙ ap (λ (k : ℕ). nth k closed) (longer_by_one ns waiting ∙ ap (λ (l : List (List ℕ)). suc (length l)) (append-nil ns)) ∙ gap ∙ sym inner.1, inner.0), gap)

-- where none does, there are no archives
pub probe_missing : (older : List (List ℕ)) (waiting path : List ℕ) (files : Files) → let w = around older (Some waiting) path in
    AreDistinct (names w) → files waiting ≡ None → StaysIn Anywhere (VacantAt waiting) w files []
probe_missing older waiting path files distinct none = λ segments shows.
    record {
      closed = subst (λ (l : List (List ℕ)). Holds files l segments.closed) (sym (without_waiting older waiting path distinct)) (holds_shorter files waiting older segments.closed none shows.closed).0;
      current = shows.current;
    }

holds_alike : (f g : Files) (ns closed : List (List ℕ)) → ((q : List ℕ) → g q ≡ f q) → Holds f ns closed → Holds g ns closed
holds_alike f g [] closed same holds = tt
holds_alike f g (n ∷ ns) closed same holds = (same n ∙ holds.0, holds_alike f g ns closed same holds.1)

-- where no file is changed
pub stays_same : (v : Vacancy) (w : Window) (files : Files) (added : List Change) → ((q : List ℕ) → replay files added q ≡ files q) → StaysIn v v w files added
stays_same v w files added same = λ segments shows.
    record {
      closed = holds_alike files (replay files added) (standing w v) segments.closed same shows.closed;
      current = ap (λ (x : Option (List ℕ)). unwrap_or x []) (same w.active) ∙ shows.current;
    }

-- The file is set aside

holds_longer : (f g : Files) (waiting path s : List ℕ) (ns closed : List (List ℕ)) → ((q : List ℕ) → q ≢ waiting → q ≢ path → g q ≡ f q) → NotAmong waiting ns → NotAmong path ns
    → g waiting ≡ Some s → Holds f (ns ++ []) closed → Holds g (ns ++ waiting ∷ []) (s ∷ closed)
holds_longer f g waiting path s [] closed others a b there holds = (there, tt)
holds_longer f g waiting path s (n ∷ ns) closed others a b there holds = (
  others n (λ e. a.0 (sym e)) (λ e. b.0 (sym e)) ∙ holds.0 ∙ sym (ap (λ (k : ℕ). nth k (s ∷ closed)) (longer_by_one ns waiting)),
  holds_longer f g waiting path s ns closed others a.1 b.1 there holds.1,
)

-- its name is the newest then
pub aside_closes : (older : List (List ℕ)) (waiting path : List ℕ) (files : Files) (added : List Change) → let w = around older (Some waiting) path in
    AreDistinct (names w) → Moved files path waiting added → ClosesIn (VacantAt waiting) Anywhere w files added
aside_closes older waiting path files added distinct moved = λ segments shows some.
    let s = segments.current in
    let ends = among_parts path older waiting (not_last (older ++ waiting ∷ []) path distinct) in
    let first = waits_apart older waiting path distinct in
    let here : files path ≡ Some s = present (files path) s shows.current some in
    let effect = move_effect files path waiting added (files path) refl ends.1 (λ none. some_none (files path) s here none) moved in
    let before : without waiting (older ++ waiting ∷ []) ≡ older ++ [] = without_at waiting older [] first in (
      record {
        closed = holds_longer files (replay files added) waiting path s older segments.closed effect.others first ends.0 (effect.there ∙ here)
            (subst (λ (l : List (List ℕ)). Holds files l segments.closed) before shows.closed);
        current = ap (λ (v : Option (List ℕ)). unwrap_or v []) effect.here;
      },
      effect.here,
    )

-- A rotation at once

pub at_once_closes : (older : List (List ℕ)) (path : List ℕ) (files : Files) (added : List Change) → let w = around older None path in
    0 < length older → AreDistinct (names w) → MovedAll files (each_to_the_older (older ++ path ∷ [])) added → ClosesIn Anywhere Anywhere w files added
at_once_closes older path files added full distinct moved = λ segments shows some.
    let s = segments.current in
    let g = replay files added in
    let same : older ++ [] ≡ older = append-nil older in
    let apart_all : AreDistinct (older ++ path ∷ []) = subst (λ (l : List (List ℕ)). AreDistinct (l ++ path ∷ [])) same distinct in
    let holds : Holds files older segments.closed = subst (λ (l : List (List ℕ)). Holds files l segments.closed) same shows.closed in
    let here : files path ≡ Some s = present (files path) s shows.current some in
    let shifted = shift_all files path older added full apart_all (gapless files path s older segments.closed holds here) moved in
    let after = holds_shifted files g path s older segments.closed holds here shifted in (
      record {
        closed = subst (λ (l : List (List ℕ)). Holds g l (s ∷ segments.closed)) (sym same) after.0;
        current = ap (λ (v : Option (List ℕ)). unwrap_or v []) after.1;
      },
      after.1,
    )

-- Two parts, one after the other

pub stays_still : (v : Vacancy) (w : Window) (files : Files) (added : List Change) → added ≡ [] → StaysIn v v w files added
stays_still v w files added none = subst (StaysIn v v w files) (sym none) (λ segments shows. shows)

pub stays_join : (u v x : Vacancy) (w : Window) (files : Files) (xs ys : List Change) → StaysIn u v w files xs → StaysIn v x w (replay files xs) ys → StaysIn u x w files (xs ++ ys)
stays_join u v x w files xs ys a b = λ segments shows.
    subst (λ (f : Files). ShowsIn segments w x f) (sym (replay-append files xs ys)) (b segments (a segments shows))

pub stays_then_closes : (u v x : Vacancy) (w : Window) (files : Files) (xs ys : List Change) → StaysIn u v w files xs → ClosesIn v x w (replay files xs) ys → ClosesIn u x w files (xs ++ ys)
stays_then_closes u v x w files xs ys a b = λ segments shows some.
    subst (λ (f : Files). ShowsIn (close segments) w x f × (f w.active ≡ None)) (sym (replay-append files xs ys)) (b segments (a segments shows) some)
