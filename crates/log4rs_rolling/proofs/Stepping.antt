-- One step of a job: a rename to a name that is vacant, or over the oldest archive.
use Rattle.std.proofs.Common.{◌≡◌, ◌≢◌, ◌≤◌, ◌<◌, ◌-◌, ℕ, ◌+◌, zero, suc, List, [], ◌∷◌, ◌++◌, Option, Some, None, refl, sym, ap, ◌∙◌, subst, inl, inr, append_assoc, arith, IsTrue, Bool, true, false, nat_eq, if◌then◌else◌, string_bytes}
use Rattle.std.specs.Option.{IfSome, IsSome}
use Rattle.std.specs.Str.{bytes_eq}
use Rattle.std.proofs.lemmas.List.{append-nil}
use Rattle.std.proofs.lemmas.Bool.Decides.{nat_tests}
use Rattle.log4rs_rolling.specs.Change.{Change, Files, renamed, after, replay, written}
use Rattle.log4rs_rolling.specs.Disk.{Disk, Calls, files_of}
use Rattle.log4rs_rolling.specs.Window.{drops_into, drops_between, Window, around, names, IsOurs, NoCopies, AreDistinct, NotAmong, GoodWithin, Vacancy, Anywhere, VacantAt, OfAnother, Vacant}
use Rattle.log4rs_rolling.specs.ArchiveEnds.{older_of, ends, AreAt, IsAt, EndsAt, longer}
use Rattle.std.proofs.lemmas.Slice.Eq.{bytes_eq-Decides}
use Rattle.log4rs_rolling.specs.Archives.{waiting_name}
use Rattle.log4rs_rolling.specs.declared.fixed_window.Job.{Job}
use Rattle.log4rs_rolling.specs.Places.{IsAmong, OnlyOf}
use Rattle.log4rs_rolling.specs.Keeping.{Keeping, LeavesOpen, Silent, Stands, StaysShown, RolledIn, SteppedAs, SteppedAt, SteppedIn, names_of}
use Rattle.log4rs_rolling.specs.SegmentsShown.{StaysIn}
use Rattle.log4rs_rolling.proofs.Standing.{oldest_shown, stays_join, stays_still, vacant_shown}
use Rattle.log4rs_rolling.specs.Moves.{AreLast, Moved, MovedAll, MovedFirst, MovedPartly, archive_names, each_to_the_older}
use Rattle.log4rs_rolling.proofs.Moving.{Leads, leads_more, leads_end, leads_stop}
use Rattle.log4rs_rolling.specs.declared.fixed_window.FixedWindowRoller.{FixedWindowRoller}
use Rattle.log4rs_rolling.specs.Roller.{archive_name, begun_of, kept_by, archives_of, left_of, rest_of, slot, vacancy_in, vacancy_of, window_with}
use Rattle.log4rs_rolling.proofs.Ending.{EndsAt-append, EndsAt-last, last_move, move_ends, drop_ends, none_yes}
use Rattle.log4rs_rolling.proofs.Windows.{GoodWithin-append, GoodWithin-behind, GoodWithin-more, NoCopies-front, NoCopies-back, apart, first_move, move_keeps, moved_cases, renamed_from, not_last}
use Rattle.log4rs_rolling.proofs.Rollers.{moved_silent}
use Rattle.log4rs_rolling.proofs.Parts.{clean_join, if_all, silent_both, stands_on, then_later}
use Rattle.log4rs_rolling.proofs.Leaving.{leaves_join}
use Rattle.log4rs_rolling.proofs.Copying.{copies_join, nothing_clean}
use Rattle.log4rs_rolling.proofs.Places.{moved_of, among_behind, among_join, names_join}
use Rattle.log4rs_rolling.proofs.Calls.{calls_join, calls_map, replay-append, files_after}

-- Drops of two parts

pub within_split : (a b c : ℕ) (w : Window) (files : Files) (xs ys : List Change) → a ≤ 1 → b ≤ a → c ≤ b
    → GoodWithin (a - b) w files xs → GoodWithin (b - c) w (replay files xs) ys → GoodWithin (a - c) w files (xs ++ ys)
within_split zero zero c w files xs ys one less fewer g h = GoodWithin-append (0 - c) w files xs ys g h
within_split zero (suc b) c w files xs ys one less fewer g h = absurd (omega arith)
within_split (suc zero) zero zero w files xs ys one less fewer g h = GoodWithin-behind 1 w files xs ys g h
within_split (suc zero) zero (suc c) w files xs ys one less fewer g h = absurd (omega arith)
within_split (suc zero) (suc zero) c w files xs ys one less fewer g h = GoodWithin-append (1 - c) w files xs ys g h
within_split (suc zero) (suc (suc b)) c w files xs ys one less fewer g h = absurd (omega arith)
within_split (suc (suc a)) b c w files xs ys one less fewer g h = absurd (omega arith)

pub drops_one : (v : Vacancy) → drops_into v ≤ 1
drops_one Anywhere = omega arith
drops_one (VacantAt name) = omega arith
drops_one OfAnother = omega arith

-- two parts of a job, one after the other
pub stepped_in_join : (u v x : Vacancy) (w : Window) (files : Files) (xs ys : List Change) → drops_into v ≤ drops_into u → drops_into x ≤ drops_into v
    → SteppedIn u v w files xs → SteppedIn v x w (replay files xs) ys → SteppedIn u x w files (xs ++ ys)
stepped_in_join u v x w files xs ys less fewer a b = (
  (
    (
      silent_both w.active xs ys a.0.0.0 b.0.0.0,
      λ clean. within_split (drops_into u) (drops_into v) (drops_into x) w files xs ys (drops_one u) less fewer
          (a.0.0.1 (NoCopies-front xs ys clean)) (b.0.0.1 (NoCopies-back xs ys clean)),
    ),
    subst (Vacant x w.active) (sym (replay-append files xs ys)) b.0.1,
  ),
  λ clean places at are cut.
      let first = a.1 (NoCopies-front xs ys clean) places at are (λ e. none_yes e) in
      EndsAt-append places w files at xs ys first
      (b.1 (NoCopies-back xs ys clean) places _ (EndsAt-last places w files at xs first) (λ e. none_yes e)),
)

-- The names round a move

-- the newer names behind the one that is moved
abbrev newer_than : (ℕ → List ℕ) → ℕ → List ℕ → ℕ → List (List ℕ)
newer_than name base waiting zero = []
newer_than name base waiting (suc n) = archive_names name base n ++ waiting ∷ []

-- so many more than the ones that are left behind a move
abbrev pub above : ℕ → ℕ → ℕ
above zero left = suc left
above (suc more) left = suc (above more left)

pub above_is : (more left : ℕ) → above more left ≡ more + suc left
above_is zero left = omega arith
above_is (suc more) left = let e = above_is more left in omega arith

-- the archives from an index on, and those above it
record Split (name : ℕ → List ℕ) (base count : ℕ) (waiting : List ℕ) (left : ℕ) : Type 0 where
  pub older : List (List ℕ)
  pub is : archive_names name base count ++ waiting ∷ [] ≡ older ++ slot name base waiting (suc left) ∷ slot name base waiting left ∷ newer_than name base waiting left

split_here : (name : ℕ → List ℕ) (base : ℕ) (waiting : List ℕ) (left : ℕ)
    → archive_names name base (suc left) ++ waiting ∷ [] ≡ slot name base waiting (suc left) ∷ slot name base waiting left ∷ newer_than name base waiting left
split_here name base waiting zero = refl
split_here name base waiting (suc n) = refl

split_at : (name : ℕ → List ℕ) (base more : ℕ) (waiting : List ℕ) (left : ℕ) → Split name base (above more left) waiting left
split_at name base zero waiting left = record { older = []; is = split_here name base waiting left }
split_at name base (suc more) waiting left =
    let inner = split_at name base more waiting left in
    record { older = name (base + (above more left)) ∷ inner.older; is = ap (λ (l : List (List ℕ)). name (base + (above more left)) ∷ l) inner.is }

-- One move

-- a move within a window: `first` where it goes to the oldest name
record Move (w : Window) (pre : List (List ℕ)) (to from : List ℕ) (post : List (List ℕ)) : Type 0 where
  pub is : older_of w ≡ pre ++ to ∷ from ∷ post
  pub distinct : AreDistinct (names w)

all_names : (w : Window) (pre : List (List ℕ)) (to from : List ℕ) (post : List (List ℕ)) → Move w pre to from post → names w ≡ pre ++ to ∷ from ∷ (post ++ w.active ∷ [])
all_names w pre to from post move =
    ap (λ (l : List (List ℕ)). l ++ w.active ∷ []) move.is ∙ append_assoc pre (to ∷ from ∷ post) (w.active ∷ [])

older_distinct : (w : Window) → AreDistinct (names w) → AreDistinct (older_of w ++ w.active ∷ [])
older_distinct w distinct = distinct

-- to a vacant name: nothing is dropped
vacant_move : (w : Window) (pre : List (List ℕ)) (to from : List ℕ) (post : List (List ℕ)) (files : Files) (changes : List Change) → Move w pre to from post → files to ≡ None
    → Moved files from to changes → NoCopies changes → SteppedIn (VacantAt to) (VacantAt from) w files changes
vacant_move w pre to from post files changes move vacant moved clean =
    let all = all_names w pre to from post move in
    let different = (apart pre to from (post ++ w.active ∷ []) (subst AreDistinct all move.distinct)).a_b in
    elim (moved_cases files from to changes moved clean) [
      | inl none ↦ subst (SteppedIn (VacantAt to) (VacantAt from) w files) (sym none.1)
          (((refl, λ _. tt), λ _. none.0), λ _ places at are cut. are)
      | inr once ↦ subst (SteppedIn (VacantAt to) (VacantAt from) w files) (sym once.1) (
        ((refl, λ _. (move_keeps w files pre to from (post ++ w.active ∷ []) all move.distinct vacant, tt)), λ _. renamed_from files from to (λ e. different (sym e))),
        λ _ places at are cut. (are, subst (AreAt places at) (sym (move_ends w files pre to from post move.is (older_distinct w move.distinct) vacant)) are),
      )
    ]

-- to the oldest name: what is there is dropped
oldest_move : (w : Window) (oldest from : List ℕ) (more post : List (List ℕ)) (files : Files) (changes : List Change) (v : Option (List ℕ)) → files oldest ≡ v
    → w.archives ≡ oldest ∷ more → Move w [] oldest from post
    → Moved files from oldest changes → NoCopies changes → SteppedIn Anywhere (VacantAt from) w files changes
oldest_move w oldest from more post files changes v holds first move moved clean =
    let all = all_names w [] oldest from post move in
    elim (moved_cases files from oldest changes moved clean) [
      | inl none ↦ subst (SteppedIn Anywhere (VacantAt from) w files) (sym none.1)
          (((refl, λ _. tt), λ _. none.0), λ _ places at are cut. are)
      | inr once ↦ subst (SteppedIn Anywhere (VacantAt from) w files) (sym once.1) (
        (
          (refl, λ _. first_move w files oldest from more (post ++ w.active ∷ []) [] v holds first all move.distinct tt),
          λ _. renamed_from files from oldest (λ e. ((apart [] oldest from (post ++ w.active ∷ []) (subst AreDistinct all move.distinct)).a_b) (sym e)),
        ),
        λ _ places at are cut. (are, oldest_ends w oldest from post files v holds move places at are),
      )
    ] where
      oldest_ends : (w : Window) (oldest from : List ℕ) (post : List (List ℕ)) (files : Files) (v : Option (List ℕ)) → files oldest ≡ v → Move w [] oldest from post
          → (places : List ℕ) (at : ℕ) → AreAt places at (ends w files) → AreAt places at (ends w (after files (renamed from oldest)))
      oldest_ends w oldest from post files None vacant move places at are =
          subst (AreAt places at) (sym (move_ends w files [] oldest from post move.is (older_distinct w move.distinct) vacant)) are
      oldest_ends w oldest from post files (Some x) present move places at are =
          drop_ends w files oldest from post x places at move.is (older_distinct w move.distinct) present are

not_active : (w : Window) (name : List ℕ) (pre post : List (List ℕ)) → older_of w ≡ pre ++ name ∷ post → AreDistinct (names w) → name ≢ w.active
not_active w name pre post is distinct = λ e. in_list w.active pre name post (subst (NotAmong w.active) is (not_last (older_of w) w.active (older_distinct w distinct))) (sym e) where
  in_list : (a : List ℕ) (pre : List (List ℕ)) (name : List ℕ) (post : List (List ℕ)) → NotAmong a (pre ++ name ∷ post) → a ≢ name
  in_list a [] name post h = h.0
  in_list a (p ∷ pre) name post h = in_list a pre name post h.1

below_above : (more left : ℕ) → suc left < suc (above more left)
below_above more left = let e : above more left ≡ more + suc left = above_is more left in omega arith

not_equal : (a b : ℕ) → a < b → nat_eq a b ≡ false
not_equal a b less = grind (arith, nat_tests)

-- the move where so many are left behind it, of a job with the waiting file of this path
pub one_step : (name : ℕ → List ℕ) (base more : ℕ) (waiting path : List ℕ) (left : ℕ) (files : Files) (changes : List Change)
    → let w = around (archive_names name base (above more left)) (Some waiting) path in
    AreDistinct (names w) → Vacant (vacancy_in name base (above more left) waiting (suc left)) path files
    → Moved files (slot name base waiting left) (slot name base waiting (suc left)) changes → NoCopies changes
    → SteppedIn (vacancy_in name base (above more left) waiting (suc left)) (VacantAt (slot name base waiting left)) w files changes
one_step name base zero waiting path left files changes distinct vacant moved clean =
    let w = around (archive_names name base (suc left)) (Some waiting) path in
    let begun : nat_eq (suc left) (suc left) ≡ true = grind (arith, nat_tests) in
    subst (λ (b : Bool). SteppedIn (if b then Anywhere else VacantAt (slot name base waiting (suc left))) (VacantAt (slot name base waiting left)) w files changes) (sym begun)
    (oldest_move w (name (base + left)) (slot name base waiting left) (archive_names name base left) (newer_than name base waiting left) files changes (files (name (base + left))) refl refl
    (record { is = split_here name base waiting left; distinct = distinct }) moved clean)
one_step name base (suc more) waiting path left files changes distinct vacant moved clean =
    let w = around (archive_names name base (suc (above more left))) (Some waiting) path in
    let split = split_at name base (suc more) waiting left in
    let on : nat_eq (suc left) (suc (above more left)) ≡ false = not_equal (suc left) (suc (above more left)) (below_above more left) in
    let to = slot name base waiting (suc left) in
    let here : Vacant (VacantAt to) path files = subst (λ (b : Bool). Vacant (if b then Anywhere else VacantAt to) path files) on vacant in
    subst (λ (b : Bool). SteppedIn (if b then Anywhere else VacantAt to) (VacantAt (slot name base waiting left)) w files changes) (sym on)
    (vacant_move w split.older to (slot name base waiting left) (newer_than name base waiting left) files changes (record { is = split.is; distinct = distinct })
    (here (not_active w to split.older (slot name base waiting left ∷ newer_than name base waiting left) split.is distinct)) moved clean)

-- and what it shows
one_shown : (name : ℕ → List ℕ) (base more : ℕ) (waiting path : List ℕ) (left : ℕ) (files : Files) (changes : List Change)
    → let w = around (archive_names name base (above more left)) (Some waiting) path in
    AreDistinct (names w) → Vacant (vacancy_in name base (above more left) waiting (suc left)) path files
    → Moved files (slot name base waiting left) (slot name base waiting (suc left)) changes
    → StaysIn (vacancy_in name base (above more left) waiting (suc left)) (VacantAt (slot name base waiting left)) w files changes
one_shown name base zero waiting path left files changes distinct vacant moved =
    let w = around (archive_names name base (suc left)) (Some waiting) path in
    let begun : nat_eq (suc left) (suc left) ≡ true = grind (arith, nat_tests) in
    subst (λ (b : Bool). StaysIn (if b then Anywhere else VacantAt (slot name base waiting (suc left))) (VacantAt (slot name base waiting left)) w files changes) (sym begun)
    (oldest_shown w (name (base + left)) (slot name base waiting left) (newer_than name base waiting left) files changes (split_here name base waiting left) distinct moved)
one_shown name base (suc more) waiting path left files changes distinct vacant moved =
    let w = around (archive_names name base (suc (above more left))) (Some waiting) path in
    let split = split_at name base (suc more) waiting left in
    let on : nat_eq (suc left) (suc (above more left)) ≡ false = not_equal (suc left) (suc (above more left)) (below_above more left) in
    let to = slot name base waiting (suc left) in
    let here : Vacant (VacantAt to) path files = subst (λ (b : Bool). Vacant (if b then Anywhere else VacantAt to) path files) on vacant in
    subst (λ (b : Bool). StaysIn (if b then Anywhere else VacantAt to) (VacantAt (slot name base waiting left)) w files changes) (sym on)
    (vacant_shown w split.older to (slot name base waiting left) (newer_than name base waiting left) files changes split.is distinct
    (here (not_active w to split.older (slot name base waiting left ∷ newer_than name base waiting left) split.is distinct)) moved)

pub archives_some : (name : ℕ → List ℕ) (base count : ℕ) (P : List (List ℕ) → Type 0) → P (archive_names name base count) → IfSome (archives_of name base count) P
archives_some name base zero P is = tt
archives_some name base (suc n) P is = is

-- the vacancy after a step of a job of this file
vacancy_after : (name : ℕ → List ℕ) (base count : ℕ) (waiting path : List ℕ) (job : Option Job) → waiting ≡ waiting_name path → IfSome job (λ j. string_bytes j.waiting ≡ waiting) → left_of job < count
    → vacancy_of name base count job path ≡ VacantAt (slot name base waiting (left_of job))
vacancy_after name base count waiting path None same its below = ap (λ (p : List ℕ). VacantAt p) (sym same)
vacancy_after name base count waiting path (Some job) same its below =
    ap (λ (b : Bool). if b then vacancy_in name base count (string_bytes job.waiting) job.left else OfAnother) ((bytes_eq-Decides (string_bytes job.waiting) (waiting_name path)).1 (its ∙ same))
    ∙ ap (λ (b : Bool). if b then Anywhere else VacantAt (slot name base (string_bytes job.waiting) job.left)) (not_equal job.left count below)
    ∙ ap (λ (p : List ℕ). VacantAt (slot name base p job.left)) its

-- what a call adds that is not told
not_told : (d0 d1 : Disk) (P Q : List Change → Type 0) → Calls d0 d1 P → (IsTrue d0.tells → ⊥) → Calls d0 d1 Q
not_told d0 d1 P Q calls not = calls_map d0 d1 P Q calls (λ added tells told is. absurd (not tells))

pub record Step (name : ℕ → List ℕ) (base count : ℕ) (rename_only : Bool) (before : Job) (now : Option Job) (d0 d1 : Disk) : Type 0 where
  pub one : before.left ≡ left_of now + 1
  pub most : before.left ≤ count
  pub its : IfSome now (λ j. string_bytes j.waiting ≡ string_bytes before.waiting)
  pub calls : Calls d0 d1 (λ added. Moved (files_of d0) (slot name base (string_bytes before.waiting) (left_of now)) (slot name base (string_bytes before.waiting) before.left) added × NoCopies added)

abbrev Kept : (ℕ → List ℕ) → ℕ → ℕ → Vacancy → Vacancy → List ℕ → Disk → Disk → Type 0
Kept name base count v0 v1 path d0 d1 =
    let window = around (archive_names name base count) (Some (waiting_name path)) path in
    Stands window v0 d0 → (drops_into v1 ≤ drops_into v0) × Calls d0 d1 (SteppedIn v0 v1 window (files_of d0))

step_kept : (name : ℕ → List ℕ) (base count : ℕ) (rename_only : Bool) (before : Job) (now : Option Job) (d0 d1 : Disk) (path : List ℕ) → Step name base count rename_only before now d0 d1
    → (b : Bool) → bytes_eq (string_bytes before.waiting) (waiting_name path) ≡ b
    → Kept name base count (if b then vacancy_in name base count (string_bytes before.waiting) before.left else OfAnother) (vacancy_of name base count now path) path d0 d1
step_kept name base count rename_only before now d0 d1 path step false other = λ stands.
    (drops_one (vacancy_of name base count now path), not_told d0 d1 _ _ step.calls (λ tells. stands.1 tells))
step_kept name base count rename_only before now d0 d1 path step true ours =
    let waiting = string_bytes before.waiting in
    let left = left_of now in
    let same : waiting ≡ waiting_name path = (bytes_eq-Decides waiting (waiting_name path)).0 ours in
    let one = step.one in
    let most = step.most in
    let more = count - before.left in
    let next : before.left ≡ suc left = omega arith in
    let all : above more left ≡ count = above_is more left ∙ omega arith in
    let Goal : ℕ → ℕ → List ℕ → Vacancy → Type 0 = λ n k p v1.
    Stands (around (archive_names name base n) (Some p) path) (vacancy_in name base n waiting k) d0
    → (drops_into v1 ≤ drops_into (vacancy_in name base n waiting k))
    × Calls d0 d1 (SteppedIn (vacancy_in name base n waiting k) v1 (around (archive_names name base n) (Some p) path) (files_of d0)) in
    subst (Goal count before.left (waiting_name path)) (sym (vacancy_after name base count waiting path now same step.its (omega arith)))
    (subst (λ (p : List ℕ). Goal count before.left p (VacantAt (slot name base waiting left))) same
    (subst (λ (k : ℕ). Goal count k waiting (VacantAt (slot name base waiting left))) (sym next)
    (subst (λ (n : ℕ). Goal n (suc left) waiting (VacantAt (slot name base waiting left))) all
    (λ stands. (
      omega arith,
      calls_map d0 d1 _ _ step.calls (λ added tells told moved.
          one_step name base more waiting path left (files_of d0) added stands.0 (stands.1 tells)
          (subst (λ (k : ℕ). Moved (files_of d0) (slot name base waiting left) (slot name base waiting k) added) next moved.0) moved.1),
    )))))

step_shown : (name : ℕ → List ℕ) (base count : ℕ) (rename_only : Bool) (before : Job) (now : Option Job) (d0 d1 : Disk) (path : List ℕ) → Step name base count rename_only before now d0 d1
    → (b : Bool) → bytes_eq (string_bytes before.waiting) (waiting_name path) ≡ b
    → let window = around (archive_names name base count) (Some (waiting_name path)) path in
    let v0 = if b then vacancy_in name base count (string_bytes before.waiting) before.left else OfAnother in
    Stands window v0 d0 → Calls d0 d1 (StaysIn v0 (vacancy_of name base count now path) window (files_of d0))
step_shown name base count rename_only before now d0 d1 path step false other = λ stands. not_told d0 d1 _ _ step.calls (λ tells. stands.1 tells)
step_shown name base count rename_only before now d0 d1 path step true ours =
    let waiting = string_bytes before.waiting in
    let left = left_of now in
    let same : waiting ≡ waiting_name path = (bytes_eq-Decides waiting (waiting_name path)).0 ours in
    let one = step.one in
    let most = step.most in
    let more = count - before.left in
    let next : before.left ≡ suc left = omega arith in
    let all : above more left ≡ count = above_is more left ∙ omega arith in
    let Goal : ℕ → ℕ → List ℕ → Vacancy → Type 0 = λ n k p v1.
    Stands (around (archive_names name base n) (Some p) path) (vacancy_in name base n waiting k) d0
    → Calls d0 d1 (StaysIn (vacancy_in name base n waiting k) v1 (around (archive_names name base n) (Some p) path) (files_of d0)) in
    subst (Goal count before.left (waiting_name path)) (sym (vacancy_after name base count waiting path now same step.its (omega arith)))
    (subst (λ (p : List ℕ). Goal count before.left p (VacantAt (slot name base waiting left))) same
    (subst (λ (k : ℕ). Goal count k waiting (VacantAt (slot name base waiting left))) (sym next)
    (subst (λ (n : ℕ). Goal n (suc left) waiting (VacantAt (slot name base waiting left))) all
    (λ stands. calls_map d0 d1 _ _ step.calls (λ added tells told moved.
    one_shown name base more waiting path left (files_of d0) added stands.0 (stands.1 tells)
    (subst (λ (k : ℕ). Moved (files_of d0) (slot name base waiting left) (slot name base waiting k) added) next moved.0))))))

slot_among : (name : ℕ → List ℕ) (base more : ℕ) (waiting path : List ℕ) (left : ℕ) → let ns = archive_names name base (above more left) ++ waiting ∷ [] in
    IsAmong (slot name base waiting (suc left)) ns × IsAmong (slot name base waiting left) ns
slot_among name base more waiting path left =
    let split = split_at name base more waiting left in
    let to = slot name base waiting (suc left) in
    let from = slot name base waiting left in
    subst (λ (ns : List (List ℕ)). IsAmong to ns × IsAmong from ns) (sym split.is)
    (among_behind to split.older _ (inl refl), among_behind from split.older _ (inr (inl refl)))

pub among_front : (q : List ℕ) (xs ys : List (List ℕ)) → IsAmong q xs → IsAmong q (xs ++ ys)
among_front q [] ys is = absurd is
among_front q (x ∷ xs) ys is = elim is [ inl here ↦ inl here | inr there ↦ inr (among_front q xs ys there) ]

step_among : (name : ℕ → List ℕ) (base count : ℕ) (rename_only : Bool) (before : Job) (now : Option Job) (d0 d1 : Disk) (path : List ℕ) → Step name base count rename_only before now d0 d1
    → (b : Bool) → bytes_eq (string_bytes before.waiting) (waiting_name path) ≡ b
    → IsOurs (if b then vacancy_in name base count (string_bytes before.waiting) before.left else OfAnother)
    → IsOurs (vacancy_of name base count now path) × Calls d0 d1 (OnlyOf (names_of (window_with name base count rename_only true true (Some before)) path))
step_among name base count rename_only before now d0 d1 path step false other is = absurd is
step_among name base count rename_only before now d0 d1 path step true ours is =
    let waiting = string_bytes before.waiting in
    let left = left_of now in
    let same : waiting ≡ waiting_name path = (bytes_eq-Decides waiting (waiting_name path)).0 ours in
    let one = step.one in
    let most = step.most in
    let more = count - before.left in
    let next : before.left ≡ suc left = omega arith in
    let all : above more left ≡ count = above_is more left ∙ omega arith in
    let Ns : ℕ → List (List ℕ) = λ n. names_of (window_with name base n rename_only true true (Some before)) path in
    let Goal : ℕ → Type 0 = λ n. Calls d0 d1 (OnlyOf (Ns n)) in (
      subst IsOurs (sym (vacancy_after name base count waiting path now same step.its (omega arith))) tt,
      subst Goal all
          (calls_map d0 d1 _ (OnlyOf (Ns (above more left))) step.calls (λ added tells told moved.
          let ws = slot_among name base more waiting path left in
          let In : List ℕ → Type 0 = λ q. IsAmong q (Ns (above more left)) in
          let inside : (q : List ℕ) → IsAmong q (archive_names name base (above more left) ++ waiting ∷ []) → In q =
          λ q among. named more left q (among_front q _ (path ∷ []) (subst (λ (p : List ℕ). IsAmong q (archive_names name base (above more left) ++ p ∷ [])) same among)) in
          moved_of (files_of d0 (slot name base waiting left)) (Ns (above more left)) (slot name base waiting left) (slot name base waiting before.left) added
          (inside (slot name base waiting left) ws.1) (subst (λ (k : ℕ). In (slot name base waiting k)) (sym next) (inside (slot name base waiting (suc left)) ws.0)) moved.0)),
    ) where
      named : (more left : ℕ) (q : List ℕ) → IsAmong q ((archive_names name base (above more left) ++ waiting_name path ∷ []) ++ path ∷ []) → IsAmong q (names_of (window_with name base (above more left) rename_only true true (Some before)) path)
      named zero left q is = is
      named (suc more) left q is = is

-- the moves of a rolling are told with any job
pub begun_told : (name : ℕ → List ℕ) (base count : ℕ) (before now : Option Job) (file : List ℕ) → IsSome (begun_of name base count before file) → IsSome (begun_of name base count now file)
begun_told name base zero before now file known = known
begun_told name base (suc n) before now file known = refl

-- one step of a job
pub stepped_once : (name : ℕ → List ℕ) (base count : ℕ) (rename_only : Bool) (before : Job) (now : Option Job) (d0 d1 : Disk) → Step name base count rename_only before now d0 d1 → LeavesOpen d0 d1
    → SteppedAs (window_with name base count rename_only true true (Some before)) (window_with name base count rename_only true true now) d0 d1
stepped_once name base count rename_only before now d0 d1 step left = λ path.
    let waiting = string_bytes before.waiting in
    record {
      kept = archives_some name base count
          (λ older. let window = around older (Some (waiting_name path)) path in
          Stands window (vacancy_of name base count (Some before) path) d0
          → (drops_into (vacancy_of name base count now path) ≤ drops_into (vacancy_of name base count (Some before) path))
          × Calls d0 d1 (SteppedIn (vacancy_of name base count (Some before) path) (vacancy_of name base count now path) window (files_of d0)))
          (step_kept name base count rename_only before now d0 d1 path step (bytes_eq waiting (waiting_name path)) refl);
      shown = archives_some name base count
          (λ older. let window = around older (Some (waiting_name path)) path in
          Stands window (vacancy_of name base count (Some before) path) d0
          → Calls d0 d1 (StaysIn (vacancy_of name base count (Some before) path) (vacancy_of name base count now path) window (files_of d0)))
          (step_shown name base count rename_only before now d0 d1 path step (bytes_eq waiting (waiting_name path)) refl);
      silent = λ built. calls_map d0 d1 _ Silent step.calls (λ added tells told moved. λ path. moved_silent (files_of d0 (slot name base waiting (left_of now))) _ _ path added moved.0);
      renames = λ only. calls_map d0 d1 _ NoCopies step.calls (λ added tells told moved. moved.1);
      copies = λ built none. calls_map d0 d1 _ NoCopies step.calls (λ added tells told moved. moved.1);
      elsewhere = λ ours.
          let both = step_among name base count rename_only before now d0 d1 path step (bytes_eq waiting (waiting_name path)) refl ours in (both.0, λ built. both.1);
      names = record { is_built_in = refl; renames = refl; removes = refl; archives = refl; waiting = refl; moves = λ path none. cc; told = λ path known. begun_told name base count (Some before) now path known };
      left = left;
      store = calls_map d0 d1 _ (λ added. Unit {0}) step.calls (λ added tells told moved. tt);
    }

-- nothing was done
pub shown_none : (k : Keeping) (path : List ℕ) (d0 d1 : Disk) → Calls d0 d1 (λ added. added ≡ []) → StaysShown k k path d0 d1
shown_none k path d0 d1 calls =
    let v = k.vacant path in
    if_all k.archives
    (λ older. let window = around older (k.waiting path) path in Stands window v d0 → Calls d0 d1 (StaysIn v v window (files_of d0)))
    (λ older. λ stands.
    calls_map d0 d1 _ _ calls (λ added tells told none. stays_still v (around older (k.waiting path) path) (files_of d0) added none))

pub stepped_none : (k0 k1 : Keeping) (d0 d1 : Disk) → k1 ≡ k0 → Calls d0 d1 (λ added. added ≡ []) → LeavesOpen d0 d1 → SteppedAs k0 k1 d0 d1
stepped_none k0 k1 d0 d1 same calls left = subst (λ (k : Keeping). SteppedAs k0 k d0 d1) (sym same)
    (λ path. record {
      kept = if_all k0.archives
          (λ older. let window = around older (k0.waiting path) path in
          Stands window (k0.vacant path) d0 → (drops_into (k0.vacant path) ≤ drops_into (k0.vacant path)) × Calls d0 d1 (SteppedIn (k0.vacant path) (k0.vacant path) window (files_of d0)))
          (λ older. λ stands.
          let window = around older (k0.waiting path) path in
          let v = k0.vacant path in (
            omega arith,
            calls_map d0 d1 _ _ calls (λ added tells told none. subst (SteppedIn v v window (files_of d0)) (sym none) (((refl, λ _. tt), stands.1 tells), λ _ places at are cut. are)),
          ));
      shown = shown_none k0 path d0 d1 calls;
      silent = λ built. calls_map d0 d1 _ Silent calls (λ added tells told none. subst Silent (sym none) (λ path. refl));
      renames = λ only. nothing_clean d0 d1 calls;
      copies = λ built none. nothing_clean d0 d1 calls;
      elsewhere = λ ours. (ours, λ built. calls_map d0 d1 _ _ calls (λ added tells told none. subst (OnlyOf (names_of k0 path)) (sym none) tt));
      names = record { is_built_in = refl; renames = refl; removes = refl; archives = refl; waiting = refl; moves = λ path none. refl; told = λ path known. known };
      left = left;
      store = calls_map d0 d1 _ (λ added. Unit {0}) calls (λ added tells told none. tt);
    })

kept_join : (o : Option (List (List ℕ))) (waits : Option (List ℕ)) (u v x : Vacancy) (path : List ℕ) (d0 d1 d2 : Disk)
    → IfSome o (λ older. let w = around older waits path in Stands w u d0 → (drops_into v ≤ drops_into u) × Calls d0 d1 (SteppedIn u v w (files_of d0)))
    → IfSome o (λ older. let w = around older waits path in Stands w v d1 → (drops_into x ≤ drops_into v) × Calls d1 d2 (SteppedIn v x w (files_of d1)))
    → IfSome o (λ older. let w = around older waits path in Stands w u d0 → (drops_into x ≤ drops_into u) × Calls d0 d2 (SteppedIn u x w (files_of d0)))
kept_join None waits u v x path d0 d1 d2 a b = tt
kept_join (Some older) waits u v x path d0 d1 d2 a b = λ stands.
    let w : Window = around older waits path in
    let first = a stands in
    let later = b (stands_on w u v _ d0 d1 stands first.1 (λ added is. is.0.1)) in
    let less = first.0 in
    let fewer = later.0 in (
      at_most (drops_into u) (drops_into v) (drops_into x) less fewer,
      calls_join d0 d1 d2 _ _ _ first.1 later.1 (λ xs ys tells told p q.
          stepped_in_join u v x w (files_of d0) xs ys less fewer p (subst (λ (f : Files). SteppedIn v x w f ys) (files_after d0 d1 xs told) q)),
    ) where
      at_most : (a b c : ℕ) → b ≤ a → c ≤ b → c ≤ a
      at_most a b c p q = omega arith

shown_join : (o : Option (List (List ℕ))) (waits : Option (List ℕ)) (u v x : Vacancy) (path : List ℕ) (d0 d1 d2 : Disk)
    → IfSome o (λ older. let w = around older waits path in Stands w u d0 → (drops_into v ≤ drops_into u) × Calls d0 d1 (SteppedIn u v w (files_of d0)))
    → IfSome o (λ older. let w = around older waits path in Stands w u d0 → Calls d0 d1 (StaysIn u v w (files_of d0)))
    → IfSome o (λ older. let w = around older waits path in Stands w v d1 → Calls d1 d2 (StaysIn v x w (files_of d1)))
    → IfSome o (λ older. let w = around older waits path in Stands w u d0 → Calls d0 d2 (StaysIn u x w (files_of d0)))
shown_join None waits u v x path d0 d1 d2 kept a b = tt
shown_join (Some older) waits u v x path d0 d1 d2 kept a b = λ stands.
    let w : Window = around older waits path in
    calls_join d0 d1 d2 _ _ _ (a stands) (b (stands_on w u v _ d0 d1 stands (kept stands).1 (λ added is. is.0.1)))
    (λ xs ys tells told p q. stays_join u v x w (files_of d0) xs ys p (subst (λ (f : Files). StaysIn v x w f ys) (files_after d0 d1 xs told) q))

abbrev LaterShown : (List ℕ → Vacancy) → (List ℕ → Vacancy) → Option (List ℕ) → List ℕ → Disk → Disk → List (List ℕ) → Type 0
LaterShown before now waits path old new older = let w = around older waits path in
    Stands w (before path) old → Calls old new (StaysIn (before path) (now path) w (files_of old))

shown_both : (a b c : Keeping) (path : List ℕ) (d0 d1 d2 : Disk) → SteppedAt a b path d0 d1 → StaysShown b c path d1 d2 → StaysShown a c path d0 d2
shown_both a b c path d0 d1 d2 x later =
    shown_join a.archives (a.waiting path) (a.vacant path) (b.vacant path) (c.vacant path) path d0 d1 d2 x.kept x.shown
    (subst (λ (o : Option (List (List ℕ))). IfSome o (LaterShown b.vacant c.vacant (a.waiting path) path d1 d2)) x.names.archives
    (subst (λ (f : List ℕ → Option (List ℕ)). IfSome b.archives (LaterShown b.vacant c.vacant (f path) path d1 d2)) x.names.waiting later))

abbrev Later : (List ℕ → Vacancy) → (List ℕ → Vacancy) → Option (List ℕ) → List ℕ → Disk → Disk → List (List ℕ) → Type 0
Later before now waits path old new older = let w = around older waits path in
    Stands w (before path) old → (drops_into (now path) ≤ drops_into (before path)) × Calls old new (SteppedIn (before path) (now path) w (files_of old))

-- two parts of a job, one after the other
pub stepped_at_join : (a b c : Keeping) (path : List ℕ) (d0 d1 d2 : Disk) → SteppedAt a b path d0 d1 → SteppedAt b c path d1 d2 → SteppedAt a c path d0 d2
stepped_at_join a b c path d0 d1 d2 x y = record {
  kept = kept_join a.archives (a.waiting path) (a.vacant path) (b.vacant path) (c.vacant path) path d0 d1 d2 x.kept
      (subst (λ (o : Option (List (List ℕ))). IfSome o (Later b.vacant c.vacant (a.waiting path) path d1 d2)) x.names.archives
      (subst (λ (f : List ℕ → Option (List ℕ)). IfSome b.archives (Later b.vacant c.vacant (f path) path d1 d2)) x.names.waiting y.kept));
  shown = shown_both a b c path d0 d1 d2 x y.shown;
  silent = λ built. calls_join d0 d1 d2 _ _ Silent (x.silent built) (y.silent (subst IsTrue (sym x.names.is_built_in) built)) (λ xs ys tells told p q. λ path. silent_both path xs ys (p path) (q path));
  renames = λ only. clean_join d0 d1 d2 (x.renames only) (y.renames (subst IsTrue (sym x.names.renames) only));
  copies = λ built. copies_join _ _ d0 d1 d2 x.store y.store (x.copies built) (y.copies (subst IsTrue (sym x.names.is_built_in) built));
  elsewhere = among_join a b c path path d0 d1 d2 x.names refl x.elsewhere y.elsewhere;
  names = names_join a b c x.names y.names;
  left = leaves_join d0 d1 d2 _ x.store x.left y.left;
  store = then_later _ _ d0 d1 d2 x.store y.store;
}

pub stepped_join : (a b c : Keeping) (d0 d1 d2 : Disk) → SteppedAs a b d0 d1 → SteppedAs b c d1 d2 → SteppedAs a c d0 d2
stepped_join a b c d0 d1 d2 x y = λ path. stepped_at_join a b c path d0 d1 d2 (x path) (y path)

pub job_stepped : (roller : FixedWindowRoller) (job : Job) (now : Option Job) (text : List ℕ) (d0 d1 : Disk) → roller.job ≡ Some job → IsTrue roller.background → IsTrue roller.asked → 0 < job.left → job.left ≤ roller.count
    → left_of now ≡ job.left - 1 → IfSome now (λ j. string_bytes j.waiting ≡ string_bytes job.waiting) → text ≡ string_bytes job.waiting
    → Calls d0 d1 (λ added. Moved (files_of d0) (slot (archive_name roller) roller.base text (job.left - 1)) (slot (archive_name roller) roller.base text job.left) added × NoCopies added)
    → LeavesOpen d0 d1 → SteppedAs (kept_by roller) (window_with (archive_name roller) roller.base roller.count roller.rename_only roller.background roller.asked now) d0 d1
job_stepped roller job now text d0 d1 is on knows some most next its same calls left =
    let name = archive_name roller in
    let K : Bool → Bool → Option Job → Keeping = λ b a j. window_with name roller.base roller.count roller.rename_only b a j in
    let W : List ℕ → ℕ → Type 0 = λ t n. Calls d0 d1 (λ added. Moved (files_of d0) (slot name roller.base t n) (slot name roller.base t job.left) added × NoCopies added) in
    subst (λ (j : Option Job). SteppedAs (K roller.background roller.asked j) (K roller.background roller.asked now) d0 d1) (sym is)
    (subst (λ (b : Bool). SteppedAs (K b roller.asked (Some job)) (K b roller.asked now) d0 d1) (sym on)
    (subst (λ (a : Bool). SteppedAs (K true a (Some job)) (K true a now) d0 d1) (sym knows)
    (stepped_once name roller.base roller.count roller.rename_only job now d0 d1
    (record { one = omega (arith, next); most = most; its = its; calls = subst (W (string_bytes job.waiting)) (sym next) (subst (λ (t : List ℕ). W t (job.left - 1)) same calls) }) left)))

-- The moves that are left

first_of : (name : ℕ → List ℕ) (base left : ℕ) (waiting : List ℕ) → 0 < left → each_to_the_older (archive_names name base left ++ waiting ∷ [])
    ≡ (slot name base waiting (left - 1), slot name base waiting left) ∷ each_to_the_older (archive_names name base (left - 1) ++ waiting ∷ [])
first_of name base zero waiting some = absurd (omega arith)
first_of name base (suc zero) waiting some =
    let e : 0 ≡ suc zero - 1 = omega arith in
    ap (λ (k : ℕ). (slot name base waiting k, slot name base waiting (suc zero)) ∷ each_to_the_older (archive_names name base k ++ waiting ∷ [])) e
first_of name base (suc (suc n)) waiting some =
    let e : suc n ≡ suc (suc n) - 1 = omega arith in
    ap (λ (k : ℕ). (slot name base waiting k, slot name base waiting (suc (suc n))) ∷ each_to_the_older (archive_names name base k ++ waiting ∷ [])) e

rest_now : (name : ℕ → List ℕ) (base left : ℕ) (waiting : List ℕ) (now : Option Job) → left_of now ≡ left → IfSome now (λ j. string_bytes j.waiting ≡ waiting)
    → rest_of name base now ≡ each_to_the_older (archive_names name base left ++ waiting ∷ [])
rest_now name base left waiting None none its = ap (λ (n : ℕ). each_to_the_older (archive_names name base n ++ waiting ∷ [])) none
rest_now name base left waiting (Some job) is its =
    ap (λ (n : ℕ). each_to_the_older (archive_names name base n ++ string_bytes job.waiting ∷ [])) is
    ∙ ap (λ (p : List ℕ). each_to_the_older (archive_names name base left ++ p ∷ [])) its

-- the moves that are left are the last of them
pub job_rest : (roller : FixedWindowRoller) (job : Job) (now : Option Job) → roller.job ≡ Some job → 0 < job.left → left_of now ≡ job.left - 1 → IfSome now (λ j. string_bytes j.waiting ≡ string_bytes job.waiting)
    → AreLast (rest_of (archive_name roller) roller.base roller.job) (rest_of (archive_name roller) roller.base now)
job_rest roller job now is some next its =
    let name = archive_name roller in
    let waiting = string_bytes job.waiting in
    let move : List ℕ × List ℕ = (slot name roller.base waiting (job.left - 1), slot name roller.base waiting job.left) in
    subst (λ (j : Option Job). AreLast (rest_of name roller.base j) (rest_of name roller.base now)) (sym is)
    (move ∷ [], first_of name roller.base job.left waiting some ∙ ap (λ (m : List (List ℕ × List ℕ)). move ∷ m) (sym (rest_now name roller.base (job.left - 1) waiting now next its)))

pub last_same : (all : List (List ℕ × List ℕ)) → AreLast all all
last_same all = ([], refl)

pub last_join : (all mid last : List (List ℕ × List ℕ)) → AreLast all mid → AreLast mid last → AreLast all last
last_join all mid last a b = (a.0 ++ b.0, a.1 ∙ ap (λ (m : List (List ℕ × List ℕ)). a.0 ++ m) b.1 ∙ sym (append_assoc a.0 b.0 last))

pub last_none : (all : List (List ℕ × List ℕ)) → AreLast all []
last_none all = (all, sym (append-nil all))

-- a step makes the first of them
pub step_moves : (name : ℕ → List ℕ) (base : ℕ) (before : Job) (now : Option Job) (text : List ℕ) (d0 d1 : Disk) → 0 < before.left
    → left_of now ≡ before.left - 1 → IfSome now (λ j. string_bytes j.waiting ≡ string_bytes before.waiting) → text ≡ string_bytes before.waiting
    → Calls d0 d1 (λ added. Moved (files_of d0) (slot name base text (before.left - 1)) (slot name base text before.left) added × NoCopies added)
    → Calls d0 d1 (λ added. MovedFirst (files_of d0) (rest_of name base (Some before)) (rest_of name base now) added)
step_moves name base before now text d0 d1 some next its same calls =
    let waiting = string_bytes before.waiting in
    calls_map d0 d1 _ _ calls (λ added tells told moved.
    subst (λ (m : List (List ℕ × List ℕ)). MovedFirst (files_of d0) m (rest_of name base now) added) (sym (first_of name base before.left waiting some)) (
      rest_now name base (before.left - 1) waiting now next its,
      subst (λ (p : List ℕ). Moved (files_of d0) (slot name base p (before.left - 1)) (slot name base p before.left) added) same moved.0,
    ))

pub job_moves : (roller : FixedWindowRoller) (job : Job) (now : Option Job) (text : List ℕ) (d0 d1 : Disk) → roller.job ≡ Some job → 0 < job.left
    → left_of now ≡ job.left - 1 → IfSome now (λ j. string_bytes j.waiting ≡ string_bytes job.waiting) → text ≡ string_bytes job.waiting
    → Calls d0 d1 (λ added. Moved (files_of d0) (slot (archive_name roller) roller.base text (job.left - 1)) (slot (archive_name roller) roller.base text job.left) added × NoCopies added)
    → Calls d0 d1 (λ added. MovedFirst (files_of d0) (rest_of (archive_name roller) roller.base roller.job) (rest_of (archive_name roller) roller.base now) added)
job_moves roller job now text d0 d1 is some next its same calls =
    let name = archive_name roller in
    subst (λ (j : Option Job). Calls d0 d1 (λ added. MovedFirst (files_of d0) (rest_of name roller.base j) (rest_of name roller.base now) added)) (sym is)
    (step_moves name roller.base job now text d0 d1 some next its same calls)

first_leads : (files : Files) (all left others : List (List ℕ × List ℕ)) (xs ys : List Change) → Leads files all left xs → MovedFirst (replay files xs) left others ys → Leads files all others (xs ++ ys)
first_leads files all [] others xs ys leads first =
    subst (λ (m : List (List ℕ × List ℕ)). Leads files all m (xs ++ ys)) (sym first.0)
    (subst (Leads files all []) (sym (ap (λ (c : List Change). xs ++ c) first.1 ∙ append-nil xs)) leads)
first_leads files all (move ∷ moves) others xs ys leads first =
    subst (λ (m : List (List ℕ × List ℕ)). Leads files all m (xs ++ ys)) (sym first.0) (leads_more files all moves move xs ys leads first.1)

-- a step of a job that goes on
pub drive_goes_on : (all left others : List (List ℕ × List ℕ)) (d0 d1 d2 : Disk) → Calls d0 d1 (Leads (files_of d0) all left) → Calls d1 d2 (λ added. MovedFirst (files_of d1) left others added)
    → Calls d0 d2 (Leads (files_of d0) all others)
drive_goes_on all left others d0 d1 d2 before now =
    calls_join d0 d1 d2 _ _ (Leads (files_of d0) all others) before now
    (λ xs ys tells told leads first. first_leads (files_of d0) all left others xs ys leads (subst (λ (f : Files). MovedFirst f left others ys) (files_after d0 d1 xs told) first))

pub drive_ends : (all left : List (List ℕ × List ℕ)) (d0 d1 : Disk) → left ≡ [] → Calls d0 d1 (Leads (files_of d0) all left) → Calls d0 d1 (MovedAll (files_of d0) all)
drive_ends all left d0 d1 none calls =
    calls_map d0 d1 _ (MovedAll (files_of d0) all) calls
    (λ added tells told leads. leads_end (files_of d0) all added (subst (λ (m : List (List ℕ × List ℕ)). Leads (files_of d0) all m added) none leads))

-- where a step fails, a beginning of them was made
pub drive_stops : (all left : List (List ℕ × List ℕ)) (d0 d1 d2 : Disk) → Calls d0 d1 (Leads (files_of d0) all left) → Calls d1 d2 (λ added. added ≡ [])
    → Calls d0 d2 (MovedPartly (files_of d0) all)
drive_stops all left d0 d1 d2 before nothing =
    calls_join d0 d1 d2 _ _ (MovedPartly (files_of d0) all) before nothing
    (λ xs ys tells told leads none.
    subst (MovedPartly (files_of d0) all) (sym (ap (λ (c : List Change). xs ++ c) none ∙ append-nil xs)) (leads_stop (files_of d0) all left xs leads))

-- and where nothing comes behind all of them
pub driven_stops : (all : List (List ℕ × List ℕ)) (d0 d1 d2 : Disk) → Calls d0 d1 (MovedAll (files_of d0) all) → Calls d1 d2 (λ added. added ≡ [])
    → Calls d0 d2 (MovedPartly (files_of d0) all)
driven_stops all d0 d1 d2 before nothing =
    calls_join d0 d1 d2 _ _ (MovedPartly (files_of d0) all) before nothing
    (λ xs ys tells told moved none.
    subst (MovedPartly (files_of d0) all) (sym (ap (λ (c : List Change). xs ++ c) none ∙ append-nil xs))
    ([], subst (MovedAll (files_of d0) all) (sym (append-nil xs)) moved, λ clean. tt))

pub rest_none : (name : ℕ → List ℕ) (base : ℕ) (job : Option Job) → job ≡ None → rest_of name base job ≡ []
rest_none name base job none = ap (rest_of name base) none

-- Setting the file aside

pub within_up : (n m : ℕ) (w : Window) (files : Files) (xs : List Change) → n ≤ m → GoodWithin n w files xs → GoodWithin m w files xs
within_up n m w files [] less g = tt
within_up zero m w files (x ∷ xs) less g = GoodWithin-more m w files (x ∷ xs) g
within_up (suc n) zero w files (x ∷ xs) less g = absurd (omega arith)
within_up (suc n) (suc m) w files (x ∷ xs) less g =
    elim g [
      | inl keeps ↦ inl (keeps.0, within_up (suc n) (suc m) w (after files x) xs less keeps.1)
      | inr drops ↦ inr (drops.0, within_up n m w (after files x) xs (omega arith) drops.1)
    ]

-- the active file takes the waiting name, which is vacant: nothing is dropped, and one end more stands at the end of the stream
pub aside_in : (older : List (List ℕ)) (waiting path : List ℕ) (now : Vacancy) (files : Files) (added : List Change)
    → let w = around older (Some waiting) path in
    AreDistinct (names w) → Vacant (VacantAt waiting) path files → Moved files path waiting added → NoCopies added → Vacant now path (replay files added)
    → RolledIn 0 now w files added
aside_in older waiting path now files added distinct vacant moved clean later =
    let w : Window = around older (Some waiting) path in
    let all : names w ≡ older ++ waiting ∷ path ∷ [] = append_assoc older (waiting ∷ []) (path ∷ []) in
    let free : files waiting ≡ None = vacant (not_active w waiting older [] refl distinct) in
    let Result : List Change → Type 0 = λ c. (written path c ≡ []) × GoodWithin 0 w files c
    × ((places : List ℕ) (at : ℕ) → AreAt places at (ends w files) → IsAt places at 0 → EndsAt places w files at c) in
    let done : Result added =
    elim (moved_cases files path waiting added moved clean) [
      | inl none ↦ subst Result (sym none.1) (refl, tt, λ places at are cut. are)
      | inr once ↦ subst Result (sym once.1) (
        refl,
        (move_keeps w files older waiting path [] all distinct free, tt),
        λ places at are cut. (are, last_move w files older waiting places at (files path) refl once.0 refl distinct free are cut),
      )
    ] in
    (((done.0, λ _. done.1), later), λ _ places at are cut. done.2 places at are (cut refl))

within_after : (a b : ℕ) (w : Window) (files : Files) (xs ys : List Change) → a ≤ 1 → b ≤ a → GoodWithin (a - b) w files xs → GoodWithin b w (replay files xs) ys → GoodWithin a w files (xs ++ ys)
within_after a b w files xs ys one less g h =
    let all : a - 0 ≡ a = omega arith in
    let last : b ≡ b - 0 = omega arith in
    subst (λ (n : ℕ). GoodWithin n w files (xs ++ ys)) all
    (within_split a b 0 w files xs ys one less (omega arith) g (subst (λ (n : ℕ). GoodWithin n w (replay files xs) ys) last h))

-- steps of an older job, and then a rolling
pub rolled_behind_steps : (u v x : Vacancy) (w : Window) (files : Files) (xs ys : List Change) → drops_into v ≤ drops_into u
    → SteppedIn u v w files xs → RolledIn (drops_into v) x w (replay files xs) ys → RolledIn (drops_into u) x w files (xs ++ ys)
rolled_behind_steps u v x w files xs ys less a b = (
  (
    (
      silent_both w.active xs ys a.0.0.0 b.0.0.0,
      λ clean. within_after (drops_into u) (drops_into v) w files xs ys (drops_one u) less (a.0.0.1 (NoCopies-front xs ys clean)) (b.0.0.1 (NoCopies-back xs ys clean)),
    ),
    subst (Vacant x w.active) (sym (replay-append files xs ys)) b.0.1,
  ),
  λ clean places at are cut.
      let first = a.1 (NoCopies-front xs ys clean) places at are (λ e. none_yes e) in
      EndsAt-append places w files at xs ys first
      (b.1 (NoCopies-back xs ys clean) places _ (EndsAt-last places w files at xs first)
      (λ e. subst (λ (bytes : List ℕ). IsAt places (longer bytes at) 0) (sym a.0.0.0) (cut e))),
)

-- a job that was not driven to its end
pub rolled_by_steps : (u v : Vacancy) (w : Window) (files : Files) (xs : List Change) → SteppedIn u v w files xs → RolledIn (drops_into u) v w files xs
rolled_by_steps u v w files xs a =
    (((a.0.0.0, λ clean. within_up (drops_between u v) (drops_into u) w files xs (omega arith) (a.0.0.1 clean)), a.0.1), λ clean places at are cut. a.1 clean places at are (λ e. none_yes e))
