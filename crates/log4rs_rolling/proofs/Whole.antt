-- All that an append does, where it is answered Ok.
use Rattle.std.proofs.Common.{◌≡◌, ℕ, List, ◌++◌, Option, Some, None, refl, sym, ap, ◌∙◌, subst, IsTrue, Bool, true, false, Result, Ok, Err, OnOk, length}
use Rattle.std.specs.Option.{IfSome, IsSome}
use Rattle.std.proofs.lemmas.List.{append-nil}
use Rattle.log4rs_rolling.specs.Change.{Change, Files, bytes_at, replay, written}
use Rattle.log4rs_rolling.specs.Disk.{Disk, Calls, files_of}
use Rattle.log4rs_rolling.specs.declared.store.Open.{Open}
use Rattle.log4rs_base.specs.declared.record.Context.{Context}
use Rattle.log4rs_base.specs.declared.record.Record.{Record}
use Rattle.log4rs_base.specs.declared.error.LogError.{LogError}
use Rattle.log4rs_rolling.specs.FileChanges.{OnlyWrites, OnlyOpens}
use Rattle.log4rs_rolling.proofs.Calls.{calls_join, files_after}
use Rattle.log4rs_rolling.specs.Asking.{Asking, Kind, Untold, BySize, First, Asked, is_told, is_first}
use Rattle.log4rs_rolling.specs.Keeping.{Keeping}
use Rattle.log4rs_rolling.specs.PolicyResults.{Processed}
use Rattle.log4rs_rolling.specs.Appends.{Reading, SaidAt}
use Rattle.log4rs_rolling.specs.LogFile.{estimate}
use Rattle.log4rs_rolling.specs.AppendParts.{TakesAway, TakenAfter, WroteAndTook, TextIn, FinishedText, OpenedAndTook, OpenedWroteTook, OpenedTookWrote, WholeBy, Whole}
use Rattle.log4rs_rolling.proofs.Parts.{not_yes, processed_moves}

on_ok : {T E X : Type 0} (r : Result T E) → X → OnOk r X
on_ok (Ok t) x = x
on_ok (Err e) x = tt

on_ok_with : (r : Result Unit LogError) (X Y : Type 0) → OnOk r X → (X → Y) → OnOk r Y
on_ok_with (Ok t) X Y x f = f x
on_ok_with (Err e) X Y x f = tt

-- opened, taken away, and opened again
pub prepared_moves : (asking : Asking) (context : Context) (answer : Option Bool) (u : Unit {0}) (k0 k1 : Keeping) (A : Type 0) (path other again : List ℕ) (len : ℕ) (how : Open) (result : Result Unit LogError) (d0 d1 d2 d3 : Disk)
    → other ≡ path → again ≡ path → Calls d0 d1 (OnlyOpens path how) → (A → IsTrue d1.tells → len ≡ estimate (length (bytes_at (files_of d1) other)))
    → Asked asking len context (Ok u) answer → Processed k0 k1 answer other (Ok u) d1 d2 → Calls d1 d2 (λ added. Unit {0})
    → Calls d2 d3 (OnlyOpens again how)
    → A → OnOk result ((IsTrue (is_told asking.kind) → IsSome answer) × Calls d0 d3 (OpenedAndTook path how asking context answer (TakesAway k0 path) (files_of d0)))
prepared_moves asking context answer u k0 k1 A path other again len how result d0 d1 d2 d3 same back opens known asked done later opens2 a =
    let here = subst (λ (t : List ℕ). Processed k0 k1 answer t (Ok u) d1 d2) same done in
    let last = subst (λ (t : List ℕ). Calls d2 d3 (OnlyOpens t how)) back opens2 in
    let f0 = files_of d0 in
    let Takes = TakesAway k0 path in
    let Front : List Change → Type 0 = λ added. (opens : List Change) × (others : List Change) × (added ≡ opens ++ others) × OnlyOpens path how opens
    × SaidAt asking context answer (estimate (length (bytes_at (replay f0 opens) path))) × TakenAfter answer Takes (replay f0 opens) others in
    let front : Calls d0 d2 Front = calls_join d0 d1 d2 _ _ Front opens (processed_moves answer k0 k1 path u d1 d2 here later)
    (λ xs ys tells told x y.
    let is : len ≡ estimate (length (bytes_at (replay f0 xs) path)) =
    known a (subst IsTrue (sym opens.tells) tells)
    ∙ ap (λ (p : List ℕ). estimate (length (bytes_at (files_of d1) p))) same
    ∙ ap (λ (f : Files). estimate (length (bytes_at f path))) (files_after d0 d1 xs told) in
    (xs, ys, refl, x, subst (SaidAt asking context answer) is (λ t. (asked t).0), subst (λ (f : Files). TakenAfter answer Takes f ys) (files_after d0 d1 xs told) y)) in
    on_ok result (
      λ told. (asked told).1,
      calls_join d0 d2 d3 _ _ (OpenedAndTook path how asking context answer Takes f0) front last
          (λ xs ys tells told x y. (x.0, x.1, ys, ap (λ (c : List Change). c ++ ys) x.2, x.3, x.4, x.5, y)),
    )

first_is : (k : Kind) → is_first k ≡ true → k ≡ First
first_is Untold is = absurd (not_yes (sym is))
first_is (BySize limit) is = absurd (not_yes (sym is))
first_is First is = refl

last_is : (k : Kind) → IsTrue (is_told k) → is_first k ≡ false → (limit : ℕ) × (k ≡ BySize limit)
last_is Untold told is = absurd (not_yes (sym told))
last_is (BySize limit) told is = (limit, refl)
last_is First told is = absurd (not_yes is)

-- what was written, and then not moved
only_wrote : (path text : List ℕ) (answer : Option Bool) (Takes : Files → List Change → Type 0) (files : Files) (added : List Change) → answer ≡ None → WroteAndTook path text answer Takes files added
    → (writes : List Change) × (added ≡ writes) × OnlyWrites path writes × (written path writes ≡ text)
only_wrote path text answer Takes files added none wrote =
    let still = subst (λ (a : Option Bool). TakenAfter a Takes (replay files wrote.0) wrote.1) none wrote.5 in
    (wrote.0, wrote.2 ∙ ap (λ (c : List Change). wrote.0 ++ c) still ∙ append-nil wrote.0, wrote.3, wrote.4)

abbrev WholeOf : Asking → Context → Open → List ℕ → (Files → List Change → Type 0) → Result Unit LogError → Option Bool → Disk → Disk → List ℕ → Type 0
WholeOf asking c how path Takes result answer d0 d2 text = IsTrue (is_told asking.kind) → OnOk result (IsSome answer × Calls d0 d2 (WholeBy asking.kind path how text asking c answer Takes (files_of d0)))

by_reading : (reading : Option Reading) (r : Record) (c : Context) (text : List ℕ) (P : List ℕ → Type 0) → IfSome reading (λ read. text ≡ read r c) → P text → IfSome reading (λ read. P (read r c))
by_reading None r c text P is p = tt
by_reading (Some read) r c text P is p = subst P is p

pub whole_first : (reading : Option Reading) (r : Record) (c : Context) (asking asking1 : Asking) (k0 k1 : Keeping) (first : Bool) (how : Open) (a1 a2 : Option Bool) (result : Result Unit LogError) (A1 : Type 0) (text path other : List ℕ) (d0 d1 d2 : Disk)
    → (IsTrue (is_told asking.kind) → is_first asking.kind ≡ true) → A1 → other ≡ path → a2 ≡ None → IfSome reading (λ read. text ≡ read r c)
    → (IsTrue (is_told asking.kind) → IsSome a1) × Calls d0 d1 (OpenedAndTook path how asking c a1 (TakesAway k0 path) (files_of d0))
    → FinishedText text first asking1 c a2 result k1 A1 other d1 d2 → Whole reading r c asking k0 how path result a1 d0 d2
whole_first reading r c asking asking1 k0 k1 first how a1 a2 result A1 text path other d0 d1 d2 kind agrees same none made front finished =
    let Takes = TakesAway k0 path in
    by_reading reading r c text (WholeOf asking c how path Takes result a1 d0 d2) made (λ told.
    let here = subst (λ (p : List ℕ). FinishedText text first asking1 c a2 result k1 A1 p d1 d2) same finished in
    on_ok_with result _ (IsSome a1 × Calls d0 d2 (WholeBy asking.kind path how text asking c a1 Takes (files_of d0))) (here agrees)
    (λ done. (
      front.0 told,
      subst (λ (k : Kind). Calls d0 d2 (WholeBy k path how text asking c a1 Takes (files_of d0))) (sym (first_is asking.kind (kind told)))
          (calls_join d0 d1 d2 _ _ (OpenedTookWrote path how text asking c a1 Takes (files_of d0)) front.1 done.1
          (λ xs ys tells told x y.
          let wrote = only_wrote path text a2 (TakesAway k1 path) (files_of d1) ys none y.1 in
          (xs, wrote.0, ap (λ (w : List Change). xs ++ w) wrote.1, x, wrote.2, wrote.3))),
    )))

pub whole_last : (reading : Option Reading) (r : Record) (c : Context) (asking : Asking) (k : Keeping) (first : Bool) (how : Open) (answer : Option Bool) (result : Result Unit LogError) (A1 : Type 0) (text path : List ℕ) (d0 d1 d2 : Disk)
    → (IsTrue (is_told asking.kind) → is_first asking.kind ≡ false) → first ≡ false → A1 → IfSome reading (λ read. text ≡ read r c)
    → Calls d0 d1 (OnlyOpens path how) → FinishedText text first asking c answer result k A1 path d1 d2 → Whole reading r c asking k how path result answer d0 d2
whole_last reading r c asking k first how answer result A1 text path d0 d1 d2 kind late agrees made opens finished =
    let Takes = TakesAway k path in
    by_reading reading r c text (WholeOf asking c how path Takes result answer d0 d2) made (λ told.
    on_ok_with result _ (IsSome answer × Calls d0 d2 (WholeBy asking.kind path how text asking c answer Takes (files_of d0))) (finished agrees)
    (λ done. (
      done.0 late told,
      subst (λ (k : Kind). Calls d0 d2 (WholeBy k path how text asking c answer Takes (files_of d0))) (sym (last_is asking.kind told (kind told)).1)
          (calls_join d0 d1 d2 _ _ (OpenedWroteTook path how text asking c answer Takes (files_of d0)) opens done.1
          (λ xs ys tells told x y. (xs, ys, refl, x, subst (λ (f : Files). TextIn text asking c answer Takes path f ys) (files_after d0 d1 xs told) y))),
    )))

pub whole_nothing : (reading : Option Reading) (r : Record) (c : Context) (asking : Asking) (k : Keeping) (how : Open) (path : List ℕ) (result : Result Unit LogError) (answer : Option Bool) (d0 d1 : Disk) → ((X : Type 0) → OnOk result X)
    → Whole reading r c asking k how path result answer d0 d1
whole_nothing None r c asking k how path result answer d0 d1 failed = tt
whole_nothing (Some read) r c asking k how path result answer d0 d1 failed = λ told. failed (IsSome answer × Calls d0 d1 (WholeBy asking.kind path how (read r c) asking c answer (TakesAway k path) (files_of d0)))
