-- A rolled file that one appender hands over to another.
use Rattle.std.proofs.Common.{◌≡◌, ℕ, List, ◌∷◌, ◌++◌, [], Bool, Option, Some, None, IfSome, IsTrue, Result, Ok, Err, IfOk, IfErr, inr, refl, sym, subst, take, drop, arith}
use Rattle.std.proofs.lemmas.List.{take-append-drop}
use Rattle.std.proofs.Math.Logic.{∥∥₁_map}
use Rattle.log4rs_rolling.specs.AtOpening.{AskedThenOpened, AskedThenTried, FailsToOpen}
use Rattle.log4rs_rolling.specs.Change.{Change, Files, opened, replay}
use Rattle.log4rs_rolling.specs.Disk.{Calls, Disk, files_of}
use Rattle.log4rs_rolling.specs.Keeping.{Keeping, Stands, SteppedAt}
use Rattle.log4rs_rolling.specs.FileChanges.{OnlyOpens, way}
use Rattle.log4rs_rolling.specs.SinceOpening.{GoodSince}
use Rattle.log4rs_rolling.specs.Window.{Anywhere, Good, KeepsTheEnd, NoCopies, Vacancy, Vacant, Window, around}
use Rattle.log4rs_rolling.proofs.Appending.{since_opened, since_start, since_step_at}
use Rattle.log4rs_rolling.proofs.Calls.{calls_join, calls_one, files_after}
use Rattle.log4rs_rolling.proofs.Places.{names_same}
use Rattle.log4rs_rolling.proofs.Windows.{Good-append, Good-front, NoCopies-back, NoCopies-front, good_end}
use Rattle.log4rs_base.specs.declared.error.LogError.{LogError}
use Rattle.log4rs_rolling.specs.Background.{Driven}
use Rattle.log4rs_rolling.specs.declared.policy.Keep as Keep
use Rattle.log4rs_rolling.specs.declared.store.Store as Store
use Rattle.log4rs_append.specs.HandedOver.{HandedOver, IsRefusedOver, KeepsItsEndOver}
use Rattle.log4rs_append.specs.PlainFile.{IsShut}
use Rattle.log4rs_append.specs.Rolling.{IsOpened, policy_of, store_after, store_of}
use Rattle.log4rs_append.specs.declared.rolling_file.RollingFileAppender.{RollingFileAppender}

-- each beginning of good changes keeps the end
ends_always : (w : Window) (files : Files) (added : List Change) → Good w files added → (n : ℕ) → KeepsTheEnd w files (take n added)
ends_always w files added good n =
    good_end w files (take n added) (Good-front w files (take n added) (drop n added) (subst (Good w files) (sym (take-append-drop n added)) good))

-- what the second policy did since it took over
since_asked : (k k1 : Keeping) (path : List ℕ) (append : Bool) (d0 d1 d2 : Disk) → SteppedAt k k1 path d0 d1 → Calls d1 d2 (OnlyOpens path (way append)) → GoodSince k k1 path append d0 d2
since_asked k k1 path append d0 d1 d2 steps opens =
    since_opened k k1 path append d0 d1 d2 steps.names opens (since_step_at k k k1 path append d0 d0 d1 (names_same k) steps (since_start k path append d0))

pub since_over : (k k1 : Keeping) (path : List ℕ) (append : Bool) (d0 d1 : Disk) → AskedThenOpened k k1 path append d0 d1 → GoodSince k k1 path append d0 d1
since_over k k1 path append d0 d1 is =
    since_asked k k1 path append d0 is.asked d1 is.stepped
    (calls_one is.asked d1 (Some path) (OnlyOpens path (way append)) (opened path (way append) ∷ []) is.asked.refusals is.opens (omega arith) (λ tells. (refl, refl, tt)))

-- what holds of a part of the changes in a window with these archives and this waiting name
abbrev Part : Keeping → Keeping → List ℕ → Bool → Disk → Disk → Option (List ℕ) → List (List ℕ) → Type 0
Part k k1 path append d0 d1 waits older =
    let window = around older waits path in
    IsTrue append → Stands window (k.vacant path) d0 → Calls d0 d1 (λ added. (NoCopies added → Good window (files_of d0) added) × Vacant (k1.vacant path) path (replay (files_of d0) added))

abbrev Whole : Keeping → Keeping → List ℕ → Bool → Disk → Disk → List (List ℕ) → Type 0
Whole first second path append opening new older =
    let window = around older (first.waiting path) path in
    second.archives ≡ Some older → second.waiting path ≡ first.waiting path → second.vacant path ≡ Anywhere → IsTrue append → Stands window (first.vacant path) opening
    → Calls opening new (λ added. NoCopies added → (n : ℕ) → KeepsTheEnd window (files_of opening) (take n added))

-- one part after another, in a window of both
good_over : (first left second now : Keeping) (path : List ℕ) (append : Bool) (opening start new : Disk) → GoodSince first left path append opening start → GoodSince second now path append start new
    → KeepsItsEndOver first second path append opening new
good_over first left second now path append opening start new since later = by first.archives refl where
  by : (o : Option (List (List ℕ))) → first.archives ≡ o → IfSome o (Whole first second path append opening new)
  by None are = tt
  by (Some older) are = λ others waits fresh on stands.
      let window = around older (first.waiting path) path in
      let f = files_of opening in
      let one : Part first left path append opening start (first.waiting path) older =
      subst (λ (o : Option (List (List ℕ))). IfSome o (Part first left path append opening start (first.waiting path))) are since.kept in
      let other : Part second now path append start new (first.waiting path) older =
      subst (λ (u : Option (List ℕ)). Part second now path append start new u older) waits
      (subst (λ (o : Option (List (List ℕ))). IfSome o (Part second now path append start new (second.waiting path))) others later.kept) in
      let rests : Stands window (second.vacant path) start = (stands.0, λ tells. subst (λ (v : Vacancy). Vacant v path (files_of start)) (sym fresh) tt) in
      calls_join opening start new _ _ (λ added. NoCopies added → (n : ℕ) → KeepsTheEnd window f (take n added)) (one on stands) (other on rests)
      (λ xs ys tells told x y clean n.
      ends_always window f (xs ++ ys)
      (Good-append window f xs ys (x.0 (NoCopies-front xs ys clean)) (subst (λ (g : Files). Good window g ys) (files_after opening start xs told) (y.0 (NoCopies-back xs ys clean)))) n)

pub kept_over : (first left second now : Keeping) (path : List ℕ) (append : Bool) (opening start new : Disk) → ∥ GoodSince first left path append opening start ∥₁ → GoodSince second now path append start new
    → ∥ KeepsItsEndOver first second path append opening new ∥₁
kept_over first left second now path append opening start new since later =
    ∥∥₁_map since (λ (s : GoodSince first left path append opening start). good_over first left second now path append opening start new s later)

-- where the second did nothing
pub kept_back : (first left second : Keeping) (path : List ℕ) (append : Bool) (opening now : Disk) → ∥ GoodSince first left path append opening now ∥₁ → ∥ KeepsItsEndOver first second path append opening now ∥₁
kept_back first left second path append opening now since = kept_over first left second second path append opening now now since (since_start second path append now)

-- as the appender says that hands over
pub kept_as : (first first1 second : Keeping) (path path1 : List ℕ) (append append1 : Bool) (opening opening1 now now1 : Disk) → first1 ≡ first → path1 ≡ path → append1 ≡ append → opening1 ≡ opening → now1 ≡ now
    → ∥ KeepsItsEndOver first second path append opening now ∥₁ → ∥ KeepsItsEndOver first1 second path1 append1 opening1 now1 ∥₁
kept_as first first1 second path path1 append append1 opening opening1 now now1 settings place mode start end is = rw (settings, place, mode, start, end) is

-- What the second did

pub since_after : {S Q F : Type 0} {store : Store.Ghosts S} {keep : Keep.Ghosts Q S} (second : Keeping) (path : List ℕ) (append : Bool) (start : Disk) (result : Result (RollingFileAppender S Q F store keep) (S × LogError))
    → IfOk result (λ a. AskedThenOpened second (keep.keeping (policy_of a)) path append start (store.disk (store_of a)))
    → IfErr result (λ failed. AskedThenTried second path append start (store.disk failed.0))
    → (now : Keeping) × GoodSince second now path append start (store.disk (store_after result))
since_after {store = store} {keep = keep} second path append start (Ok a) did tried = (keep.keeping (policy_of a), since_over second (keep.keeping (policy_of a)) path append start (store.disk (store_of a)) did)
since_after {store = store} second path append start (Err failed) did tried = (tried.now, since_asked second tried.now path append start tried.asked (store.disk failed.0) tried.stepped tried.opens)

pub handed_by : {S Q F : Type 0} {store : Store.Ghosts S} {keep : Keep.Ghosts Q S} (first left second : Keeping) (p path : List ℕ) (m append : Bool) (old : Disk) (start : S) (policy : Q) (given : F)
    (result : Result (RollingFileAppender S Q F store keep) (S × LogError))
    → p ≡ path → m ≡ append → Driven first left (Ok tt) old (store.disk start) → IsShut (store.disk start) → IfOk result (IsOpened start policy p m given)
    → IfOk result (λ a. AskedThenOpened second (keep.keeping (policy_of a)) p m (store.disk start) (store.disk (store_of a)))
    → IfOk result (λ a. (x : S) × IsOpened x policy path append given a × HandedOver first second (keep.keeping (policy_of a)) path append old (store.disk x) (store.disk (store_of a)))
handed_by {store = store} {keep = keep} first left second p path m append old start policy given (Ok a) place mode driven closed begun asked = (
  start,
  subst (λ (q : List ℕ). IsOpened start policy q append given a) place (subst (λ (b : Bool). IsOpened start policy p b given a) mode begun),
  record {
    left = left;
    driven = driven;
    closed = closed;
    opened = subst (λ (q : List ℕ). AskedThenOpened second (keep.keeping (policy_of a)) q append (store.disk start) (store.disk (store_of a))) place
        (subst (λ (b : Bool). AskedThenOpened second (keep.keeping (policy_of a)) p b (store.disk start) (store.disk (store_of a))) mode asked);
  },
)
handed_by first left second p path m append old start policy given (Err failed) place mode driven closed begun asked = tt

-- why it was refused
pub refused_by : {A S : Type 0} (first left second : Keeping) (p path : List ℕ) (m append : Bool) (old start : Disk) (disk : S → Disk) (result : Result A (S × LogError))
    → p ≡ path → m ≡ append → Driven first left (Ok tt) old start → IsShut start
    → IfErr result (λ failed. AskedThenTried second p m start (disk failed.0)) → (IsTrue second.is_built_in → IfErr result (λ failed. FailsToOpen second p start (disk failed.0) failed.1))
    → IfErr result (λ failed. IsRefusedOver first second path append old (disk failed.0) failed.1)
refused_by first left second p path m append old start disk (Ok a) place mode driven closed tried fault = tt
refused_by first left second p path m append old start disk (Err failed) place mode driven closed tried fault = inr (record {
  left = left;
  start = start;
  driven = driven;
  closed = closed;
  tried = subst (λ (q : List ℕ). AskedThenTried second q append start (disk failed.0)) place (subst (λ (b : Bool). AskedThenTried second p b start (disk failed.0)) mode tried);
  cause = λ built. subst (λ (q : List ℕ). FailsToOpen second q start (disk failed.0) failed.1) place (fault built);
})
