-- Windows that differ in how many archives they have.
use Rattle.std.proofs.Common.{◌≡◌, ◌≤◌, ◌<◌, ◌+◌, ◌-◌, ◌∙◌, ℕ, zero, suc, List, [], ◌∷◌, ◌++◌, IsTrue, Option, refl, sym, ap, subst, append_assoc, length, take, take_all, arith}
use Rattle.std.proofs.lemmas.List.{append_cancel_left}
use Rattle.std.proofs.lemmas.List.Folds.{concat-append}
use Rattle.std.specs.List.{concat}
use Rattle.std.specs.Option.{option_to_list}
use Rattle.log4rs_rolling.specs.Change.{Change, Files, replay, written}
use Rattle.log4rs_rolling.specs.Disk.{Disk, files_of}
use Rattle.log4rs_rolling.specs.Moves.{archive_names}
use Rattle.log4rs_rolling.specs.Places.{OnlyOf}
use Rattle.log4rs_rolling.specs.Window.{AreDistinct, KeepsTheEnd, NoCopies, NotAmong, Window, contents, kept, names}
use Rattle.log4rs_rolling.proofs.Calls.{files_after, replay-append}
use Rattle.log4rs_rolling.proofs.Places.{others_stay}
use Rattle.log4rs_rolling.proofs.Windows.{NoCopies-back, NoCopies-front, contents-append}
use Rattle.log4rs_rolling.proofs.Written.{written-append}
use Rattle.log4rs_restarts.specs.RollingSettings.{archive_name, window_of}
use Rattle.log4rs_restarts.specs.Stops.{Changed}
use Rattle.log4rs_restarts.specs.Suffix.{HoldsASuffix}
use Rattle.log4rs_restarts.specs.Widened.{AtEach, KeepsBehind, KeepsBut, KeepsTheEndOf, SameFiles, widened}
use Rattle.log4rs_restarts.specs.declared.rolling_settings.RollingSettings.{RollingSettings}
use Rattle.log4rs_restarts.proofs.Doing.{changed_join}

-- Beginnings of two lists

take_joins : (n : ℕ) (xs ys : List Change) (R : List Change → Type 0) → ((m : ℕ) → R (take m xs)) → ((m : ℕ) → R (xs ++ take m ys)) → R (take n (xs ++ ys))
take_joins n [] ys R a b = b n
take_joins zero (x ∷ xs) ys R a b = a zero
take_joins (suc n) (x ∷ xs) ys R a b = take_joins n xs ys (λ (c : List Change). R (x ∷ c)) (λ m. a (suc m)) b

at_whole : (xs : List Change) (R : List Change → Type 0) → ((m : ℕ) → R (take m xs)) → R xs
at_whole xs R each = subst R (take_all (length xs) xs (omega arith)) (each (length xs))

-- what holds at each moment, by what holds in two parts
pub each_join : (d0 d1 d2 : Disk) (P Q R : List Change → Type 0) → AtEach d0 d1 P → AtEach d1 d2 Q
    → ((n : ℕ) (xs : List Change) → P (take n xs) → R (take n xs))
    → ((xs ys : List Change) → IsTrue d0.tells → files_of d1 ≡ replay (files_of d0) xs → P xs → Q ys → R (xs ++ ys)) → AtEach d0 d2 R
each_join d0 d1 d2 P Q R one other first both =
    changed_join d0 d1 d2 (λ added. NoCopies added → (n : ℕ) → P (take n added)) (λ added. NoCopies added → (n : ℕ) → Q (take n added)) (λ added. NoCopies added → (n : ℕ) → R (take n added)) one other
    (λ xs ys tells told x y clean n.
    let p = x (NoCopies-front xs ys clean) in
    let q = y (NoCopies-back xs ys clean) in
    take_joins n xs ys R (λ m. first m xs (p m)) (λ m. both xs (take m ys) tells (files_after d0 d1 xs told) (at_whole xs P p) (q m)))

-- two facts about the same changes
changed_both : (d0 d1 : Disk) (P Q : List Change → Type 0) → Changed d0 d1 P → Changed d0 d1 Q → Changed d0 d1 (λ added. P added × Q added)
changed_both d0 d1 P Q p q =
    record {
      tells = p.tells;
      told = λ tells.
          let x = p.told tells in
          let y = q.told tells in
          let same : y.0 ≡ x.0 = append_cancel_left d0.changes y.0 x.0 (sym y.1.changes ∙ x.1.changes) in
          (x.0, x.1, (x.2, subst Q same y.2));
    }

-- Ends, one after another

-- an end of a text and more, and then an end of that and more
ends_join : (gone0 gone1 before middle now first others : List ℕ) → gone0 ++ middle ≡ before ++ first → gone1 ++ now ≡ middle ++ others → (gone0 ++ gone1) ++ now ≡ before ++ (first ++ others)
ends_join gone0 gone1 before middle now first others a b =
    append_assoc gone0 gone1 now
    ∙ ap (λ (c : List ℕ). gone0 ++ c) b
    ∙ sym (append_assoc gone0 middle others)
    ∙ ap (λ (c : List ℕ). c ++ others) a
    ∙ append_assoc before first others

pub end_after : (before : List ℕ) (w : Window) (f0 f1 : Files) (xs ys : List Change) → f1 ≡ replay f0 xs → (gone : List ℕ) × (gone ++ kept w (replay f0 xs) ≡ before ++ written w.active xs) → KeepsTheEnd w f1 ys
    → (gone : List ℕ) × (gone ++ kept w (replay f0 (xs ++ ys)) ≡ before ++ written w.active (xs ++ ys))
end_after before w f0 f1 xs ys same a b = (
  a.0 ++ b.0,
  ap (λ (f : Files). (a.0 ++ b.0) ++ kept w f) (replay-append f0 xs ys ∙ ap (λ (f : Files). replay f ys) (sym same))
      ∙ ends_join a.0 b.0 before (kept w (replay f0 xs)) (kept w (replay f1 ys)) (written w.active xs) (written w.active ys) a.1 (b.1 ∙ ap (λ (f : Files). kept w f ++ written w.active ys) same)
      ∙ ap (λ (c : List ℕ). before ++ c) (sym (written-append w.active xs ys)),
)

pub suffix_join : (w : Window) (d0 d1 d2 : Disk) → HoldsASuffix w d0 d1 → HoldsASuffix w d1 d2 → HoldsASuffix w d0 d2
suffix_join w d0 d1 d2 one other =
    λ some distinct.
    each_join d0 d1 d2 (KeepsTheEnd w (files_of d0)) (KeepsTheEnd w (files_of d1)) (KeepsTheEnd w (files_of d0)) (one some distinct) (other some distinct)
    (λ n xs is. is)
    (λ xs ys tells same a b. end_after (kept w (files_of d0)) w (files_of d0) (files_of d1) xs ys same a b)

-- Wider windows

names_widened : (older : List (List ℕ)) (w : Window) → names (widened older w) ≡ older ++ names w
names_widened older w =
    ap (λ (c : List (List ℕ)). c ++ w.active ∷ []) (append_assoc older w.archives (option_to_list w.waiting)) ∙ append_assoc older (w.archives ++ option_to_list w.waiting) (w.active ∷ [])

kept_widened : (older : List (List ℕ)) (w : Window) (files : Files) → kept (widened older w) files ≡ concat (contents files older) ++ kept w files
kept_widened older w files =
    ap (λ (ns : List (List ℕ)). concat (contents files ns)) (names_widened older w) ∙ ap concat (contents-append files older (names w)) ∙ concat-append (contents files older) (contents files (names w))

distinct_behind : (xs ys : List (List ℕ)) → AreDistinct (xs ++ ys) → AreDistinct ys
distinct_behind [] ys is = is
distinct_behind (x ∷ xs) ys is = distinct_behind xs ys is.1

not_behind : (name : List ℕ) (xs ys : List (List ℕ)) → NotAmong name (xs ++ ys) → NotAmong name ys
not_behind name [] ys is = is
not_behind name (x ∷ xs) ys is = not_behind name xs ys is.1

only_take : (ns : List (List ℕ)) (n : ℕ) (changes : List Change) → OnlyOf ns changes → OnlyOf ns (take n changes)
only_take ns zero changes only = tt
only_take ns (suc n) [] only = tt
only_take ns (suc n) (change ∷ changes) only = (only.0, only_take ns n changes only.1)

-- names beside those that are changed hold what they held
pub contents_stay : (older ns : List (List ℕ)) (files : Files) (changes : List Change) → AreDistinct (older ++ ns) → OnlyOf ns changes → contents (replay files changes) older ≡ contents files older
contents_stay [] ns files changes distinct only = refl
contents_stay (name ∷ older) ns files changes distinct only =
    ap (λ (v : Option (List ℕ)). option_to_list v ++ contents (replay files changes) older) (others_stay ns files changes name only (not_behind name older ns distinct.0))
    ∙ ap (λ (c : List (List ℕ)). option_to_list (files name) ++ c) (contents_stay older ns files changes distinct.1 only)

pub widened_apart : (older : List (List ℕ)) (w : Window) → AreDistinct (names (widened older w)) → AreDistinct (older ++ names w)
widened_apart older w distinct = subst AreDistinct (names_widened older w) distinct

-- each beginning leaves what the older archives hold, and keeps the end of the rest
pub behind : (older : List (List ℕ)) (w : Window) (d0 d1 : Disk) → 0 < length w.archives → AreDistinct (names (widened older w)) → Changed d0 d1 (OnlyOf (names w)) → HoldsASuffix w d0 d1
    → AtEach d0 d1 (KeepsBehind older w (files_of d0))
behind older w d0 d1 some distinct only suffix =
    let apart = widened_apart older w distinct in
    let both = changed_both d0 d1 (OnlyOf (names w)) (λ added. NoCopies added → (n : ℕ) → KeepsTheEnd w (files_of d0) (take n added)) only (suffix some (distinct_behind older (names w) apart)) in
    record {
      tells = both.tells;
      told = λ tells.
          let x = both.told tells in
          (x.0, x.1, λ clean n. (contents_stay older (names w) (files_of d0) (take n x.0) apart (only_take (names w) n x.0 x.2.0), x.2.1 clean n));
    }

each_map : (d0 d1 : Disk) (P Q : List Change → Type 0) → ((changes : List Change) → IsTrue d0.tells → P changes → Q changes) → AtEach d0 d1 P → AtEach d0 d1 Q
each_map d0 d1 P Q step each = record { tells = each.tells; told = λ tells. let x = each.told tells in (x.0, x.1, λ clean n. step (take n x.0) tells (x.2 clean n)) }

-- a wider window, whose older archives have no files, keeps what the window keeps
kept_alone : (older : List (List ℕ)) (w : Window) (files : Files) → contents files older ≡ [] → kept (widened older w) files ≡ kept w files
kept_alone older w files none = kept_widened older w files ∙ ap (λ (c : List (List ℕ)). concat c ++ kept w files) none

end_widened : (older : List (List ℕ)) (w : Window) (files : Files) (changes : List Change) → contents files older ≡ [] → KeepsBehind older w files changes → KeepsTheEnd (widened older w) files changes
end_widened older w files changes none is = (
  is.1.0,
  ap (λ (c : List ℕ). is.1.0 ++ c) (kept_alone older w (replay files changes) (is.0 ∙ none)) ∙ is.1.1 ∙ ap (λ (c : List ℕ). c ++ written w.active changes) (sym (kept_alone older w files none)),
)

pub suffix_widened : (older : List (List ℕ)) (w : Window) (d0 d1 : Disk) → 0 < length w.archives → (IsTrue d0.tells → contents (files_of d0) older ≡ []) → Changed d0 d1 (OnlyOf (names w)) → HoldsASuffix w d0 d1
    → HoldsASuffix (widened older w) d0 d1
suffix_widened older w d0 d1 some none only suffix =
    λ more distinct.
    each_map d0 d1 (KeepsBehind older w (files_of d0)) (KeepsTheEnd (widened older w) (files_of d0)) (λ changes tells is. end_widened older w (files_of d0) changes (none tells) is)
    (behind older w d0 d1 some distinct only suffix)

pub suffix_raised : (older : List (List ℕ)) (w : Window) (d0 d1 d2 : Disk) → 0 < length w.archives → (IsTrue d0.tells → contents (files_of d0) older ≡ []) → Changed d0 d1 (OnlyOf (names w)) → HoldsASuffix w d0 d1
    → HoldsASuffix (widened older w) d1 d2 → HoldsASuffix (widened older w) d0 d2
suffix_raised older w d0 d1 d2 some none only suffix later = suffix_join (widened older w) d0 d1 d2 (suffix_widened older w d0 d1 some none only suffix) later

-- Fewer archives

some_wider : (older : List (List ℕ)) (archives : List (List ℕ)) → 0 < length archives → 0 < length (older ++ archives)
some_wider [] archives some = some
some_wider (name ∷ older) archives some = omega arith

-- the end of what the wider window kept ends with what the window keeps
narrowed : (older : List (List ℕ)) (w : Window) (files : Files) (changes : List Change) → KeepsTheEnd (widened older w) files changes → KeepsTheEndOf older w files changes
narrowed older w files changes is =
    let f = replay files changes in (
      is.0 ++ concat (contents f older),
      append_assoc is.0 (concat (contents f older)) (kept w f) ∙ ap (λ (c : List ℕ). is.0 ++ c) (sym (kept_widened older w f)) ∙ is.1,
    )

pub suffix_lowered : (older : List (List ℕ)) (w : Window) (d0 d1 d2 : Disk) → 0 < length w.archives → AreDistinct (names (widened older w)) → HoldsASuffix (widened older w) d0 d1 → HoldsASuffix w d1 d2
    → AtEach d0 d2 (KeepsTheEndOf older w (files_of d0))
suffix_lowered older w d0 d1 d2 some distinct wide suffix =
    let f = files_of d0 in
    each_join d0 d1 d2 (KeepsTheEnd (widened older w) f) (KeepsTheEnd w (files_of d1)) (KeepsTheEndOf older w f) (wide (some_wider older w.archives some) distinct)
    (suffix some (distinct_behind older (names w) (widened_apart older w distinct)))
    (λ n xs is. narrowed older w f (take n xs) is)
    (λ xs ys tells same a b. end_after (kept (widened older w) f) w f (files_of d1) xs ys same (narrowed older w f xs a) b)

-- Parts that are left out

-- one part goes behind what the older archives hold
one_gap : (older : List (List ℕ)) (w : Window) (files : Files) (changes : List Change) → KeepsBehind older w files changes → KeepsBut 1 (widened older w) files changes
one_gap older w files changes is =
    let f = replay files changes in
    let front = concat (contents files older) in (
      front,
      is.1.0,
      kept w f,
      ap (λ (c : List ℕ). c ++ written w.active changes) (kept_widened older w files) ∙ append_assoc front (kept w files) (written w.active changes) ∙ ap (λ (c : List ℕ). front ++ c) (sym is.1.1)
          ∙ sym (append_assoc front is.1.0 (kept w f)),
      kept_widened older w f ∙ ap (λ (c : List (List ℕ)). concat c ++ kept w f) is.0,
    )

pub one_gap_each : (older : List (List ℕ)) (w : Window) (d0 d1 : Disk) → 0 < length w.archives → AreDistinct (names (widened older w)) → Changed d0 d1 (OnlyOf (names w)) → HoldsASuffix w d0 d1
    → AtEach d0 d1 (KeepsBut 1 (widened older w) (files_of d0))
one_gap_each older w d0 d1 some distinct only suffix =
    each_map d0 d1 (KeepsBehind older w (files_of d0)) (KeepsBut 1 (widened older w) (files_of d0)) (λ changes tells is. one_gap older w (files_of d0) changes is)
    (behind older w d0 d1 some distinct only suffix)

-- Settings of the same files

-- more archives are those, behind older ones
more_names : (name : ℕ → List ℕ) (base count more : ℕ) → (older : List (List ℕ)) × (archive_names name base (more + count) ≡ older ++ archive_names name base count)
more_names name base count zero = let none : 0 + count ≡ count = omega arith in ([], ap (archive_names name base) none)
more_names name base count (suc more) =
    let rest = more_names name base count more in
    let next : suc more + count ≡ suc (more + count) = omega arith in
    (name (base + (more + count)) ∷ rest.0, ap (archive_names name base) next ∙ ap (λ (c : List (List ℕ)). name (base + (more + count)) ∷ c) rest.1)

pub same_window : (one other : RollingSettings) → SameFiles one other → other.count ≡ one.count → window_of other ≡ window_of one
same_window one other same count = rw (same.path, same.pattern, same.base, same.background, same.env, count) refl

with_count : RollingSettings → ℕ → Window
with_count settings count = record {
  archives = archive_names (archive_name settings) settings.base count;
  waiting = (window_of settings).waiting;
  active = (window_of settings).active;
}

pub wider_window : (one other : RollingSettings) → SameFiles one other → one.count ≤ other.count → (older : List (List ℕ)) × (window_of other ≡ widened older (window_of one))
unfolding with_count
wider_window one other same below =
    let more = more_names (archive_name one) one.base one.count (other.count - one.count) in
    let whole : (other.count - one.count) + one.count ≡ other.count = omega arith in
    let here : window_of other ≡ with_count one other.count = rw (same.path, same.pattern, same.base, same.background, same.env) refl in
    let there : archive_names (archive_name one) one.base other.count ≡ more.0 ++ (window_of one).archives = ap (archive_names (archive_name one) one.base) (sym whole) ∙ more.1 in
    (more.0, here ∙ ap (λ (a : List (List ℕ)). record { archives = a; waiting = (window_of one).waiting; active = (window_of one).active }) there)
