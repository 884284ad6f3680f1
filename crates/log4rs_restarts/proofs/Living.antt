-- Lives, one after another.
use Rattle.std.proofs.Common.{◌≡◌, ◌<◌, ◌+◌, ◌∙◌, ℕ, zero, suc, List, [], ◌∷◌, ◌++◌, None, IsTrue, Result, Ok, IfOk, refl, sym, ap, subst, append_assoc, length, take, get_or}
use Rattle.std.proofs.lemmas.List.{append-nil, take_more}
use Rattle.log4rs_rolling.specs.Change.{Change, Files, replay, written}
use Rattle.log4rs_rolling.specs.Disk.{Disk, files_of}
use Rattle.log4rs_rolling.specs.Window.{AreDistinct, KeepsTheEnd, NoCopies, Window, contents, kept, names}
use Rattle.log4rs_rolling.proofs.Calls.{files_after, replay-append}
use Rattle.log4rs_rolling.proofs.Windows.{contents-append}
use Rattle.log4rs_rolling.proofs.Written.{written-append}
use Rattle.log4rs_restarts.specs.Lives.{AreKept, AreWithin, KeptBy, LifeDid, LivesDid, Rise}
use Rattle.log4rs_restarts.specs.RollingSettings.{refusal_of, window_of}
use Rattle.log4rs_restarts.specs.Sessions.{AreReportedBy, RanBy}
use Rattle.log4rs_restarts.specs.Suffix.{DropsTheOldest, HoldsASuffix}
use Rattle.log4rs_restarts.specs.Widened.{AtEach, KeepsBut, LeavesOut, widened}
use Rattle.log4rs_restarts.specs.declared.by_life.Life.{Life}
use Rattle.log4rs_restarts.specs.declared.rolling_settings.RollingSettings.{RollingSettings}
use Rattle.log4rs_restarts.specs.declared.run.Report.{Report}
use Rattle.log4rs_restarts.specs.declared.run.Run.{Run}
use Rattle.log4rs_restarts.proofs.Doing.{changed_none}
use Rattle.log4rs_restarts.proofs.Elsewhere.{elsewhere_same}
use Rattle.log4rs_restarts.proofs.Promising.{suffix_same}
use Rattle.log4rs_restarts.proofs.Widening.{contents_stay, each_join, end_after, one_gap_each, suffix_widened, widened_apart}

-- Lives that do nothing

kept_nothing : (settings : RollingSettings) (disk : Disk) → KeptBy settings disk disk
kept_nothing settings disk = record { suffix = suffix_same (window_of settings) disk; elsewhere = elsewhere_same settings disk; renames = λ only. changed_none NoCopies disk tt }

pub kept_none : (lives : List Life) (disk : Disk) → AreKept lives disk disk
kept_none [] disk = refl
kept_none (life ∷ lives) disk = (disk, kept_nothing life.settings disk, kept_none lives disk)

pub kept_rest : (lives : List Life) (i : ℕ) (d0 d1 : Disk) → AreKept (take i lives) d0 d1 → AreKept lives d0 d1
kept_rest lives zero d0 d1 are = subst (λ (d : Disk). AreKept lives d0 d) (sym are) (kept_none lives d0)
kept_rest [] (suc i) d0 d1 are = are
kept_rest (life ∷ lives) (suc i) d0 d1 are = (are.0, are.1, kept_rest lives i are.0 d1 are.2)

-- One life more

push : (lives : List Life) (life : Life) (d0 d1 d2 : Disk) → AreKept lives d0 d1 → KeptBy life.settings d1 d2 → AreKept (lives ++ life ∷ []) d0 d2
push [] life d0 d1 d2 are one = (d2, subst (λ (d : Disk). KeptBy life.settings d d2) are one, refl)
push (first ∷ lives) life d0 d1 d2 are one = (are.0, are.1, push lives life are.0 d1 d2 are.2 one)

taken : (lives : List Life) (i : ℕ) (life : Life) → i < length lives → life ≡ get_or lives i life → take i lives ++ life ∷ [] ≡ take (i + 1) lives
taken lives i life below here = ap (λ (l : Life). take i lives ++ l ∷ []) here ∙ sym (take_more lives i life below)

pub kept_more : (lives : List Life) (i : ℕ) (life : Life) (d0 d1 d2 : Disk) → i < length lives → life ≡ get_or lives i life → AreKept (take i lives) d0 d1 → KeptBy life.settings d1 d2 → AreKept (take (i + 1) lives) d0 d2
kept_more lives i life d0 d1 d2 below here are one = subst (λ (l : List Life). AreKept l d0 d2) (taken lives i life below here) (push (take i lives) life d0 d1 d2 are one)

push_did : (lives : List Life) (reports : List Report) (life : Life) (report : Report) (d0 d1 d2 : Disk) → LivesDid lives reports d0 d1 → LifeDid life report d1 d2 → LivesDid (lives ++ life ∷ []) (reports ++ report ∷ []) d0 d2
push_did [] [] life report d0 d1 d2 are one = (d2, subst (λ (d : Disk). LifeDid life report d d2) are one, refl)
push_did [] (r ∷ reports) life report d0 d1 d2 are one = absurd are
push_did (first ∷ lives) [] life report d0 d1 d2 are one = absurd are
push_did (first ∷ lives) (r ∷ reports) life report d0 d1 d2 are one = (are.0, are.1, push_did lives reports life report are.0 d1 d2 are.2 one)

pub did_none : (lives : List Life) (reports : List Report) (disk : Disk) → reports ≡ [] → LivesDid (take 0 lives) reports disk disk
did_none lives reports disk none = subst (λ (r : List Report). LivesDid [] r disk disk) (sym none) refl

pub did_more : (lives : List Life) (i : ℕ) (life : Life) (reports reports2 : List Report) (report : Report) (d0 d1 d2 : Disk)
    → i < length lives → life ≡ get_or lives i life → reports2 ≡ reports ++ report ∷ []
    → LivesDid (take i lives) reports d0 d1 → LifeDid life report d1 d2 → LivesDid (take (i + 1) lives) reports2 d0 d2
did_more lives i life reports reports2 report d0 d1 d2 below here is are one =
    subst (λ (l : List Life). LivesDid l reports2 d0 d2) (taken lives i life below here)
    (subst (λ (r : List Report). LivesDid (take i lives ++ life ∷ []) r d0 d2) (sym is) (push_did (take i lives) reports life report d0 d1 d2 are one))

-- A suffix, where later lives hide no more

no_front : (xs ys : List (List ℕ)) → xs ++ ys ≡ [] → xs ≡ []
no_front [] ys none = refl
no_front (x ∷ xs) ys none = absurd (some_left none) where
  some_left : x ∷ (xs ++ ys) ≡ [] → ⊥
  some_left e = cc

rises : (hidden : List (List ℕ)) (wide : Window) (lives : List Life) (d0 d1 : Disk) → AreDistinct (names wide) → 0 < length wide.archives → Rise hidden wide lives → (IsTrue d0.tells → contents (files_of d0) hidden ≡ []) → AreKept lives d0 d1
    → AtEach d0 d1 (KeepsTheEnd wide (files_of d0))
rises hidden wide [] d0 d1 distinct some rise none are = subst (λ (d : Disk). AtEach d0 d (KeepsTheEnd wide (files_of d0))) (sym are) (suffix_same wide d0 some distinct)
rises hidden wide (life ∷ lives) d0 d1 distinct some rise none are =
    let w = window_of life.settings in
    let older = rise.0 in
    let is : wide ≡ widened older w = rise.3.0 in
    let left = are.0 in
    let one = are.1 in
    let f = files_of d0 in
    let here : IsTrue d0.tells → contents f older ≡ [] = λ tells. no_front (contents f older) (contents f rise.1) (sym (contents-append f older rise.1) ∙ ap (contents f) (sym rise.2) ∙ none tells) in
    let first : HoldsASuffix wide d0 left = subst (λ (x : Window). HoldsASuffix x d0 left) (sym is) (suffix_widened older w d0 left rise.3.1 here one.elsewhere one.suffix) in
    let apart = widened_apart older w (subst (λ (x : Window). AreDistinct (names x)) is distinct) in
    let then : IsTrue left.tells → contents (files_of left) older ≡ [] = λ tells.
    let before = subst IsTrue one.elsewhere.tells tells in
    let made = one.elsewhere.told before in
    ap (λ (g : Files). contents g older) (files_after d0 left made.0 made.1) ∙ contents_stay older (names w) f made.0 apart made.2 ∙ here before in
    each_join d0 left d1 (KeepsTheEnd wide f) (KeepsTheEnd wide (files_of left)) (KeepsTheEnd wide f) (first some distinct) (rises older wide lives left d1 distinct some rise.4 then are.2)
    (λ n xs at. at)
    (λ xs ys tells same a b. end_after (kept wide f) wide f (files_of left) xs ys same a b)

pub rises_suffix : (lives : List Life) (d0 d1 : Disk) → AreKept lives d0 d1 → (hidden : List (List ℕ)) (wide : Window) → Rise hidden wide lives → (IsTrue d0.tells → contents (files_of d0) hidden ≡ []) → HoldsASuffix wide d0 d1
rises_suffix lives d0 d1 are hidden wide rise none = λ some distinct. rises hidden wide lives d0 d1 distinct some rise none are

-- One part left out by each life

leaves_none : (n : ℕ) (text left : List ℕ) → left ≡ text → LeavesOut n text left
leaves_none zero text left same = same
leaves_none (suc n) text left same = ([], [], text, refl, leaves_none n text left same)

leaves_one : (n : ℕ) (text left : List ℕ) → LeavesOut 1 text left → LeavesOut (suc n) text left
leaves_one n text left out = (out.0, out.1, out.2, out.3, leaves_none n (out.0 ++ out.2) left out.4)

-- one part of a text, and then parts of what was left and more
leaves_join : (n : ℕ) (before middle now first others : List ℕ) → LeavesOut 1 (before ++ first) middle → LeavesOut n (middle ++ others) now → LeavesOut (suc n) (before ++ (first ++ others)) now
leaves_join n before middle now first others one more = (
  one.0,
  one.1,
  one.2 ++ others,
  sym (append_assoc before first others) ∙ ap (λ (c : List ℕ). c ++ others) one.3 ∙ append_assoc (one.0 ++ one.1) one.2 others,
  subst (λ (c : List ℕ). LeavesOut n c now) (ap (λ (c : List ℕ). c ++ others) one.4 ∙ append_assoc one.0 one.2 others) more,
)

but_join : (n : ℕ) (w : Window) (f0 f1 : Files) (xs ys : List Change) → f1 ≡ replay f0 xs → KeepsBut 1 w f0 xs → KeepsBut n w f1 ys → KeepsBut (suc n) w f0 (xs ++ ys)
but_join n w f0 f1 xs ys same one more =
    let now = kept w (replay f1 ys) in
    let joined = leaves_join n (kept w f0) (kept w (replay f0 xs)) now (written w.active xs) (written w.active ys) one (subst (λ (f : Files). LeavesOut n (kept w f ++ written w.active ys) now) same more) in
    let end : replay f1 ys ≡ replay f0 (xs ++ ys) = ap (λ (f : Files). replay f ys) same ∙ sym (replay-append f0 xs ys) in
    subst (λ (c : List ℕ). LeavesOut (suc n) (kept w f0 ++ c) (kept w (replay f0 (xs ++ ys)))) (sym (written-append w.active xs ys))
    (subst (λ (f : Files). LeavesOut (suc n) (kept w f0 ++ (written w.active xs ++ written w.active ys)) (kept w f)) end joined)

take_none : (n : ℕ) → take {A = Change} n [] ≡ []
take_none zero = refl
take_none (suc n) = refl

pub lives_leave : (lives : List Life) (d0 d1 : Disk) → AreKept lives d0 d1 → (wide : Window) → AreWithin wide lives → AreDistinct (names wide) → AtEach d0 d1 (KeepsBut (length lives) wide (files_of d0))
lives_leave [] d0 d1 are wide within distinct =
    let f = files_of d0 in
    subst (λ (d : Disk). AtEach d0 d (KeepsBut 0 wide f)) (sym are)
    (changed_none (λ added. NoCopies added → (n : ℕ) → KeepsBut 0 wide f (take n added)) d0 (λ clean n. subst (KeepsBut 0 wide f) (sym (take_none n)) (sym (append-nil (kept wide f)))))
lives_leave (life ∷ lives) d0 d1 are wide within distinct =
    let w = window_of life.settings in
    let older = within.0.0 in
    let is : wide ≡ widened older w = within.0.1.0 in
    let left = are.0 in
    let f = files_of d0 in
    let n = length lives in
    let first : AtEach d0 left (KeepsBut 1 wide f) =
    subst (λ (x : Window). AtEach d0 left (KeepsBut 1 x f)) (sym is) (one_gap_each older w d0 left within.0.1.1 (subst (λ (x : Window). AreDistinct (names x)) is distinct) are.1.elsewhere are.1.suffix) in
    each_join d0 left d1 (KeepsBut 1 wide f) (KeepsBut n wide (files_of left)) (KeepsBut (suc n) wide f) first (lives_leave lives left d1 are.2 wide within.1 distinct)
    (λ m xs out. leaves_one n (kept wide f ++ written wide.active (take m xs)) (kept wide (replay f (take m xs))) out)
    (λ xs ys tells same a b. but_join n wide f (files_of left) xs ys same a b)

-- What a life did, by the contract of its sessions

pub did_of : {E : Type 0} (life : Life) (runs : List Run) (result : Result Report E) (report : Report) (d0 d1 : Disk) → runs ≡ life.runs.items → result ≡ Ok report
    → (refusal_of life.settings ≡ None → IfOk result (λ r. RanBy life.settings runs r.runs.items d0 d1)) → KeptBy life.settings d0 d1
    → IfOk result (λ r. DropsTheOldest (window_of life.settings) runs r.runs.items d0 d1) → IfOk result (λ r. AreReportedBy life.settings runs r.runs.items d0 d1) → LifeDid life report d0 d1
did_of {E = E} life runs result report d0 d1 same is ran kept drops reported =
    let Ran : List Run → Report → Type 0 = λ rs r. RanBy life.settings rs r.runs.items d0 d1 in
    let Dropped : List Run → Report → Type 0 = λ rs r. DropsTheOldest (window_of life.settings) rs r.runs.items d0 d1 in
    let Told : List Run → Report → Type 0 = λ rs r. AreReportedBy life.settings rs r.runs.items d0 d1 in
    record {
      ran = λ none. subst (λ (rs : List Run). Ran rs report) same (subst (λ (o : Result Report E). IfOk o (Ran runs)) is (ran none));
      kept = kept;
      drops = subst (λ (rs : List Run). Dropped rs report) same (subst (λ (o : Result Report E). IfOk o (Dropped runs)) is drops);
      reported = subst (λ (rs : List Run). Told rs report) same (subst (λ (o : Result Report E). IfOk o (Told runs)) is reported);
    }
