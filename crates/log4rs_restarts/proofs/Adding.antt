-- Acts, one after another.
use Rattle.std.proofs.Common.{◌≡◌, ◌<◌, ◌^◌, ◌-◌, ℕ, zero, suc, List, [], ◌∷◌, ◌++◌, Bool, true, false, Option, None, Some, refl, sym, ap, ◌∙◌, subst, IfSome, IsSome, IsTrue, OnOk, ◌≤◌, Result, length}
use Rattle.std.proofs.lemmas.List.{append-nil, append_cancel_left}
use Rattle.log4rs_rolling.specs.Change.{Change, Files, replay}
use Rattle.log4rs_rolling.specs.Disk.{Disk, Told, Calls, files_of}
use Rattle.log4rs_base.specs.declared.record.Entry.{Entry}
use Rattle.log4rs_base.specs.declared.error.LogError.{LogError}
use Rattle.log4rs_rolling.specs.declared.store.Open.{Open}
use Rattle.log4rs_rolling.specs.declared.store.Open.TheVariants.{Append}
use Rattle.log4rs_base.specs.declared.record.Context.{Context}
use Rattle.log4rs_rolling.specs.declared.fixed_window.FixedWindowRoller.{FixedWindowRoller}
use Rattle.log4rs_rolling.specs.Moves.{MovedAll, each_to_the_older}
use Rattle.log4rs_rolling.specs.declared.fixed_window.Job.{Job}
use Rattle.log4rs_rolling.specs.Archives.{waiting_name}
use Rattle.log4rs_rolling.specs.AtOpening.{HasLooked}
use Rattle.log4rs_rolling.specs.Window.{drops_into, Window, Vacancy, VacantAt, Vacant, around, names, AreDistinct}
use Rattle.log4rs_rolling.specs.Roller.{kept_by, archive_name, archives_of, rolling_if, waiting_if, vacancy_if, in_background, job_of, kept_anew, was_asked, window_with}
use Rattle.log4rs_rolling.specs.Asking.{Asking, Kind, is_told, Untold, BySize, First, Noted, UnlessYes}
use Rattle.log4rs_rolling.specs.Triggers.{NotesAny}
use Rattle.log4rs_rolling.specs.declared.trigger.SizeTrigger.{SizeTrigger}
use Rattle.log4rs_rolling.specs.Keeping.{Keeping, Stands, SameNames, SteppedAs, SteppedIn}
use Rattle.log4rs_rolling.specs.AppendParts.{Whole, WholeBy, TakesAway, TakenAfter, TextIn, OpenedAndTook}
use Rattle.log4rs_rolling.specs.RetiredAppends.{AddsRetired}
use Rattle.log4rs_rolling.specs.Segments.{Segments, Shows, ShowsAfter}
use Rattle.log4rs_rolling.specs.SegmentsShown.{ShowsIn, StaysIn, standing}
use Rattle.log4rs_rolling.specs.Appends.{Reading, IsWhole, OneAppend}
use Rattle.log4rs_rolling.proofs.Calls.{calls_map}
use Rattle.log4rs_rolling.proofs.Growing.{on_ok_with}
use Rattle.log4rs_rolling.proofs.Parts.{appends_vacant, if_all, if_map, if_two}
use Rattle.log4rs_restarts.specs.declared.run.Act.{Act}
use Rattle.log4rs_restarts.specs.declared.run.Act.TheVariants as act
use Rattle.log4rs_restarts.specs.declared.run.ActOutcome.{ActOutcome}
use Rattle.log4rs_restarts.specs.declared.run.ActOutcome.TheVariants.{Appended, Stepped}
use Rattle.log4rs_restarts.specs.Acts.{ActEffect, BuiltIn, asks, IsBy, IsEffect, ChangedBy, GrowsBy, GrowsAt, Follows, AreDone, at_rest, vacant_if}
use Rattle.log4rs_restarts.proofs.Stepping.{asks_told}

-- an act of a call, in a window that stands, and the trigger after it
abbrev pub ActedTo : Keeping → Keeping → BuiltIn → BuiltIn → Option Reading → List ℕ
    → Act → ActOutcome → Option Bool → Disk → Disk → Type 0
ActedTo before now trigger next reading path does outcome answer old new =
    IfSome before.archives (λ older.
    let window = around older (before.waiting path) path in
    Stands window (before.vacant path) old
    → Calls old new (λ added.
    let effect : ActEffect = record {
      trigger = trigger;
      act = does;
      outcome = outcome;
      answer = answer;
      before = before.vacant path;
      now = now.vacant path;
      added = added;
    } in
    IsEffect reading window (files_of old) effect × Follows effect next))

-- the acts of a call, where the window stands and no rolling goes on
abbrev pub ActedOver : Keeping → BuiltIn → Option Reading → List ℕ
    → List Act → List ActOutcome → List Bool → Disk → Disk → Type 0
ActedOver keeping first reading path acts outcomes answers old new =
    IfSome keeping.archives (λ older.
    let window = around older (keeping.waiting path) path in
    Stands window (at_rest window) old
    → Calls old new (AreDone first reading window (files_of old) acts outcomes answers))

-- Rollings at once

true_false : true ≡ false → ⊥
true_false is = cc

some_none : {X : Type 0} (x : X) → Some x ≡ None → ⊥
some_none x is = cc

-- where nothing waits, rollings are made at once
at_once : (b : Bool) (path : List ℕ) → waiting_if b path ≡ None → b ≡ false
at_once false path none = refl
at_once true path none = absurd (some_none (waiting_name path) none)

pub rolls_at_once : (roller : FixedWindowRoller) (path : List ℕ) → (kept_by roller).waiting path ≡ None → in_background roller ≡ false
rolls_at_once roller path none = at_once roller.background path none

-- then no job is there
pub no_job : (roller : FixedWindowRoller) → in_background roller ≡ false → job_of roller ≡ None
no_job roller is = by roller.job refl where
  by : (job : Option Job) → roller.job ≡ job → job ≡ None
  by None same = refl
  by (Some j) same = absurd (true_false (sym (roller.in_steps j same).0 ∙ is))

-- without a job no file is to stand at the waiting name alone
pub rests : (roller : FixedWindowRoller) (path : List ℕ) → job_of roller ≡ None → (in_background roller ≡ true → was_asked roller ≡ true) → (kept_by roller).vacant path ≡ vacant_if ((kept_by roller).waiting path)
rests roller path none asked = ap (λ (job : Option Job). vacancy_if roller.background roller.asked (archive_name roller) roller.base roller.count job path) none ∙ by roller.background asked where
  by : (b : Bool) → (b ≡ true → roller.asked ≡ true) → vacancy_if b roller.asked (archive_name roller) roller.base roller.count None path ≡ vacant_if (waiting_if b path)
  by true on = ap (λ (a : Bool). vacancy_if true a (archive_name roller) roller.base roller.count None path) (on refl)
  by false on = refl

-- so it is after an opening that asked
pub looked_rests : (k : Keeping) (now : FixedWindowRoller) (path : List ℕ) → SameNames k (kept_by now) → IsSome k.archives → HasLooked k (kept_by now) path
    → (kept_by now).vacant path ≡ vacant_if ((kept_by now).waiting path)
looked_rests k now path names some looked = by now.background refl where
  by : (b : Bool) → now.background ≡ b → (kept_by now).vacant path ≡ vacant_if ((kept_by now).waiting path)
  by true is =
      let waits : k.waiting path ≡ Some (waiting_name path) = ap (λ (f : List ℕ → Option (List ℕ)). f path) (sym names.waiting) ∙ ap (λ (b : Bool). waiting_if b path) is in
      let rests : (kept_by now).vacant path ≡ VacantAt (waiting_name path) =
      (subst (λ (o : Option (List ℕ)). IfSome o (λ waiting. ((kept_by now).vacant path ≡ VacantAt waiting) × IsSome ((kept_by now).moves path))) waits (looked some)).0 in
      rests ∙ sym (ap (λ (b : Bool). vacant_if (waiting_if b path)) is)
  by false is = subst (λ (b : Bool). vacancy_if b now.asked (archive_name now) now.base now.count now.job path ≡ vacant_if (waiting_if b path)) (sym is) refl

-- Segments

-- the moves of a fixed window are those of a rotation, where it rolls at once
kept_whole : (roller : FixedWindowRoller) (path : List ℕ) → in_background roller ≡ false → IfSome (kept_by roller).archives (IsWhole (kept_by roller) path)
kept_whole roller path is = whole roller.background roller.count is where
  whole : (b : Bool) (n : ℕ) → b ≡ false → IfSome (archives_of (archive_name roller) roller.base n) (λ older. rolling_if b roller.asked (archive_name roller) roller.base n roller.job path ≡ Some (each_to_the_older (older ++ path ∷ [])))
  whole true n is = absurd (true_false is)
  whole false zero is = tt
  whole false (suc n) is = refl

-- what a call added, whose changes are known: a fact about all of them holds of these
told_of : (d0 d1 : Disk) (P : List Change → Type 0) (added : List Change) → IsTrue d0.tells → Told d0 d1 added → Calls d0 d1 P → P added
told_of d0 d1 P added tells told calls =
    let was = calls.told tells in
    let same : was.0 ≡ added = append_cancel_left d0.changes was.0 added (sym was.1.changes ∙ told.changes) in
    subst P same was.2

abbrev SegmentedIn : Option Reading → Entry → Asking → Keeping → List ℕ → Result Unit LogError → Disk → Disk → List (List ℕ) → Type 0
SegmentedIn reading e asking keeping path outcome d0 d1 older =
    IfSome reading (λ read. (limit : ℕ) → asking.kind ≡ BySize limit → limit < 2 ^ 64 - 1 → IsWhole keeping path older → 0 < length older → AreDistinct (older ++ path ∷ [])
    → OnOk outcome ((segments : Segments) → Calls d0 d1 (λ added. Shows segments older path (files_of d0) → ShowsAfter limit segments (read e.logged e.context) older path (replay (files_of d0) added))))

grows_by : (kind : Kind) (asking : Asking) (reading : Option Reading) (keeping : Keeping) (older : List (List ℕ)) (waits : Option (List ℕ)) (path : List ℕ) (e : Entry) (outcome : Result Unit LogError) (d0 d1 : Disk) (added : List Change)
    → asking.kind ≡ kind → IsTrue d0.tells → Told d0 d1 added → IsWhole keeping path older → AreDistinct (older ++ path ∷ [])
    → SegmentedIn reading e asking keeping path outcome d0 d1 older
    → GrowsBy kind reading (around older waits path) (files_of d0) e outcome added
grows_by Untold asking reading keeping older waits path e outcome d0 d1 added is tells told whole distinct segmented = tt
grows_by First asking reading keeping older waits path e outcome d0 d1 added is tells told whole distinct segmented = tt
grows_by (BySize limit) asking reading keeping older waits path e outcome d0 d1 added is tells told whole distinct segmented =
    if_map reading (λ read. (limit : ℕ) → asking.kind ≡ BySize limit → limit < 2 ^ 64 - 1 → IsWhole keeping path older → 0 < length older → AreDistinct (older ++ path ∷ [])
    → OnOk outcome ((segments : Segments) → Calls d0 d1 (λ added. Shows segments older path (files_of d0) → ShowsAfter limit segments (read e.logged e.context) older path (replay (files_of d0) added))))
    (λ read. limit < 2 ^ 64 - 1 → 0 < length older → OnOk outcome ((segments : Segments) → Shows segments older path (files_of d0) → ShowsAfter limit segments (read e.logged e.context) older path (replay (files_of d0) added)))
    segmented
    (λ read f. λ small some.
    on_ok_with outcome _ _ (f limit is small whole some distinct)
    (λ g. λ segments shows. told_of d0 d1 (λ a. Shows segments older path (files_of d0) → ShowsAfter limit segments (read e.logged e.context) older path (replay (files_of d0) a)) added tells told (g segments) shows))

-- the segments that an append adds to, by what a roller tells
abbrev pub GrownIn : Option Reading → Entry → Asking → Option (List ℕ) → Vacancy → Vacancy → List ℕ → Result Unit LogError → Disk → Disk → Option (List (List ℕ)) → Type 0
GrownIn reading e asking waits v0 v1 path outcome d0 d1 o =
    IfSome reading (λ read. IfSome o (λ older.
    let w = around older waits path in
    (limit : ℕ) → asking.kind ≡ BySize limit → limit < 2 ^ 64 - 1 → IsTrue true → Stands w v0 d0
    → OnOk outcome (Calls d0 d1 (λ added. (segments : Segments) → ShowsIn segments w v0 (files_of d0) → ShowsAfter limit segments (read e.logged e.context) (standing w v1) path (replay (files_of d0) added)))))

grows_at : (kind : Kind) (asking : Asking) (reading : Option Reading) (older : List (List ℕ)) (waits : Option (List ℕ)) (path : List ℕ) (e : Entry) (outcome : Result Unit LogError) (d0 d1 : Disk) (effect : ActEffect)
    → asking.kind ≡ kind → IsTrue d0.tells → Told d0 d1 effect.added → Stands (around older waits path) effect.before d0
    → GrownIn reading e asking waits effect.before effect.now path outcome d0 d1 (Some older)
    → GrowsAt kind reading (around older waits path) (files_of d0) e outcome effect
grows_at Untold asking reading older waits path e outcome d0 d1 effect is tells told stands grown = tt
grows_at First asking reading older waits path e outcome d0 d1 effect is tells told stands grown = tt
grows_at (BySize limit) asking reading older waits path e outcome d0 d1 effect is tells told stands grown =
    let w = around older waits path in
    let After : ℕ → Reading → List Change → Type 0 = λ n read added. (segments : Segments) → ShowsIn segments w effect.before (files_of d0) → ShowsAfter n segments (read e.logged e.context) (standing w effect.now) path (replay (files_of d0) added) in
    if_map reading (λ read. (n : ℕ) → asking.kind ≡ BySize n → n < 2 ^ 64 - 1 → IsTrue true → Stands w effect.before d0 → OnOk outcome (Calls d0 d1 (After n read)))
    (λ read. limit < 2 ^ 64 - 1 → OnOk outcome (After limit read effect.added))
    grown
    (λ read f. λ small.
    on_ok_with outcome (Calls d0 d1 (After limit read)) (After limit read effect.added) (f limit is small refl stands)
    (λ calls. told_of d0 d1 (After limit read) effect.added tells told calls))

-- what holds of how a file is taken away

taken_map : (answer : Option Bool) (T U : Files → List Change → Type 0) (f : Files) (ys : List Change) → ((g : Files) (zs : List Change) → T g zs → U g zs) → TakenAfter answer T f ys → TakenAfter answer U f ys
taken_map (Some true) T U f ys map x = map f ys x
taken_map (Some false) T U f ys map x = x
taken_map None T U f ys map x = x

text_map : (text : List ℕ) (asking : Asking) (c : Context) (answer : Option Bool) (T U : Files → List Change → Type 0) (path : List ℕ) (f : Files) (added : List Change)
    → ((g : Files) (zs : List Change) → T g zs → U g zs) → TextIn text asking c answer T path f added → TextIn text asking c answer U path f added
text_map text asking c answer T U path f added map x = let w = x.1 in (x.0, (w.0, w.1, w.2, w.3, w.4, taken_map answer T U (replay f w.0) w.1 map w.5))

took_map : (path : List ℕ) (how : Open) (asking : Asking) (c : Context) (answer : Option Bool) (T U : Files → List Change → Type 0) (f : Files) (added : List Change)
    → ((g : Files) (zs : List Change) → T g zs → U g zs) → OpenedAndTook path how asking c answer T f added → OpenedAndTook path how asking c answer U f added
took_map path how asking c answer T U f added map x = (x.0, x.1, x.2, x.3, x.4, x.5, taken_map answer T U (replay f x.0) x.1 map x.6, x.7)

whole_map : (kind : Kind) (path : List ℕ) (how : Open) (text : List ℕ) (asking : Asking) (c : Context) (answer : Option Bool) (T U : Files → List Change → Type 0) (f : Files) (added : List Change)
    → ((g : Files) (zs : List Change) → T g zs → U g zs) → WholeBy kind path how text asking c answer T f added → WholeBy kind path how text asking c answer U f added
whole_map Untold path how text asking c answer T U f added map x = tt
whole_map (BySize limit) path how text asking c answer T U f added map x = (x.0, x.1, x.2, x.3, text_map text asking c answer T U path (replay f x.0) x.1 map x.4)
whole_map First path how text asking c answer T U f added map x = (x.0, x.1, x.2, took_map path how asking c answer T U f x.0 map x.3, x.4, x.5)

-- the changes of an append that answers Ok
changed_by : (reading : Option Reading) (keeping : Keeping) (older : List (List ℕ)) (waits : Option (List ℕ)) (path : List ℕ) (e : Entry) (outcome : Result Unit LogError) (d0 d1 : Disk) (effect : ActEffect)
    → IsTrue d0.tells → Told d0 d1 effect.added → IsWhole keeping path older → Whole reading e.logged e.context (asks effect.trigger) keeping Append path outcome effect.answer d0 d1
    → ChangedBy reading (around older waits path) (files_of d0) e outcome effect
changed_by reading keeping older waits path e outcome d0 d1 effect tells told moves whole =
    let T = TakesAway keeping path in
    let U : Files → List Change → Type 0 = λ f. MovedAll f (each_to_the_older (older ++ path ∷ [])) in
    let By : (Files → List Change → Type 0) → Reading → List Change → Type 0 = λ Takes read. WholeBy (asks effect.trigger).kind path Append (read e.logged e.context) (asks effect.trigger) e.context effect.answer Takes (files_of d0) in
    if_map reading (λ read. IsTrue (is_told (asks effect.trigger).kind) → OnOk outcome (IsSome effect.answer × Calls d0 d1 (By T read)))
    (λ read. OnOk outcome (IsSome effect.answer × By U read effect.added)) whole
    (λ read f.
    on_ok_with outcome (IsSome effect.answer × Calls d0 d1 (By T read)) (IsSome effect.answer × By U read effect.added) (f (asks_told effect.trigger))
    (λ x. (
      x.0,
      whole_map (asks effect.trigger).kind path Append (read e.logged e.context) (asks effect.trigger) e.context effect.answer T U (files_of d0) effect.added
          (λ g zs taken. subst (λ (k : Option (List (List ℕ × List ℕ))). IfSome k (λ m. MovedAll g m zs)) moves taken.0)
          (told_of d0 d1 (By T read) effect.added tells told x.1),
    )))

-- One act, of which all is known

unless_ap : {X Y : Type 0} (f : X → Y) (answer : Option Bool) (x y : X) → UnlessYes answer (x ≡ y) → UnlessYes answer (f x ≡ f y)
unless_ap f (Some true) x y same = tt
unless_ap f (Some false) x y same = ap f same
unless_ap f None x y same = ap f same

without : (older : List (List ℕ)) (waits : Option (List ℕ)) (path : List ℕ) → waits ≡ None → AreDistinct (names (around older waits path)) → AreDistinct (older ++ path ∷ [])
without older waits path none distinct =
    subst (λ (l : List (List ℕ)). AreDistinct (l ++ path ∷ [])) (append-nil older) (subst (λ (o : Option (List ℕ)). AreDistinct (names (around older o path))) none distinct)

append_over : (o : Option (List (List ℕ))) (keeping : Keeping) (waits : Option (List ℕ)) (v0 v1 : Vacancy) (trigger next : BuiltIn) (reading : Option Reading) (path : List ℕ) (e : Entry) (outcome : Result Unit LogError) (answer : Option Bool) (d0 d1 : Disk)
    → (waits ≡ None → IfSome o (IsWhole keeping path))
    → IfSome o (λ older. Stands (around older waits path) v0 d0 → Calls d0 d1 (OneAppend (asks trigger) reading e.logged e.context outcome answer v0 v1 (around older waits path) (files_of d0)))
    → UnlessYes answer (v1 ≡ v0)
    → Whole reading e.logged e.context (asks trigger) keeping Append path outcome answer d0 d1
    → IfSome o (SegmentedIn reading e (asks trigger) keeping path outcome d0 d1)
    → GrownIn reading e (asks trigger) waits v0 v1 path outcome d0 d1 o
    → Noted (NotesAny (λ c (before : SizeTrigger) answer (after : SizeTrigger). after ≡ before) e.context) trigger answer next
    → IfSome o (λ older. Stands (around older waits path) v0 d0 → Calls d0 d1 (λ added.
    let effect : ActEffect = record { trigger = trigger; act = act.Append e; outcome = Appended outcome; answer = answer; before = v0; now = v1; added = added } in
    IsEffect reading (around older waits path) (files_of d0) effect × Follows effect next))
append_over None keeping waits v0 v1 trigger next reading path e outcome answer d0 d1 moves one stays whole segmented grown follows = tt
append_over (Some older) keeping waits v0 v1 trigger next reading path e outcome answer d0 d1 moves one stays whole segmented grown follows = λ stands.
    let Does : List Change → Type 0 = OneAppend (asks trigger) reading e.logged e.context outcome answer v0 v1 (around older waits path) (files_of d0) in
    calls_map d0 d1 Does _ (one stands)
    (λ added tells told does. (
      record {
        does = does;
        stays = stays;
        whole = λ none. changed_by reading keeping older waits path e outcome d0 d1 (record { trigger = trigger; act = act.Append e; outcome = Appended outcome; answer = answer; before = v0; now = v1; added = added }) tells told (moves none) whole;
        grows = λ none. grows_by (asks trigger).kind (asks trigger) reading keeping older waits path e outcome d0 d1 added refl tells told (moves none) (without older waits path none stands.0) segmented;
        shows = grows_at (asks trigger).kind (asks trigger) reading older waits path e outcome d0 d1 (record { trigger = trigger; act = act.Append e; outcome = Appended outcome; answer = answer; before = v0; now = v1; added = added }) refl tells told stands grown;
      },
      follows,
    ))

pub append_acted : (before now : FixedWindowRoller) (trigger next : BuiltIn) (reading : Option Reading) (path : List ℕ) (e : Entry) (outcome : Result Unit LogError) (answer : Option Bool) (d0 d1 : Disk)
    → IfSome (kept_by before).archives (λ older. Stands (around older ((kept_by before).waiting path) path) ((kept_by before).vacant path) d0
    → Calls d0 d1 (OneAppend (asks trigger) reading e.logged e.context outcome answer ((kept_by before).vacant path) ((kept_by now).vacant path) (around older ((kept_by before).waiting path) path) (files_of d0)))
    → UnlessYes answer (now ≡ before)
    → Whole reading e.logged e.context (asks trigger) (kept_by before) Append path outcome answer d0 d1
    → IfSome (kept_by before).archives (SegmentedIn reading e (asks trigger) (kept_by before) path outcome d0 d1)
    → GrownIn reading e (asks trigger) ((kept_by before).waiting path) ((kept_by before).vacant path) ((kept_by now).vacant path) path outcome d0 d1 (kept_by before).archives
    → Noted (NotesAny (λ c (before : SizeTrigger) answer (after : SizeTrigger). after ≡ before) e.context) trigger answer next
    → ActedTo (kept_by before) (kept_by now) trigger next reading path (act.Append e) (Appended outcome) answer d0 d1
append_acted before now trigger next reading path e outcome answer d0 d1 one stays whole segmented grown follows =
    append_over (kept_by before).archives (kept_by before) ((kept_by before).waiting path) ((kept_by before).vacant path) ((kept_by now).vacant path) trigger next reading path e outcome answer d0 d1
    (λ none. kept_whole before path (rolls_at_once before path none)) one (unless_ap (λ (r : FixedWindowRoller). (kept_by r).vacant path) answer now before stays) whole segmented grown follows

pub step_acted : (before now : FixedWindowRoller) (trigger next : BuiltIn) (reading : Option Reading) (path : List ℕ) (outcome : Result Bool LogError) (d0 d1 : Disk)
    → next ≡ trigger → SteppedAs (kept_by before) (kept_by now) d0 d1 → Calls d0 d1 (λ added. length added ≤ 1) → (in_background before ≡ false → Calls d0 d1 (λ added. added ≡ []))
    → ActedTo (kept_by before) (kept_by now) trigger next reading path act.Step (Stepped outcome) None d0 d1
step_acted before now trigger next reading path outcome d0 d1 same stepped once idle =
    let waits = (kept_by before).waiting path in
    let v0 = (kept_by before).vacant path in
    let v1 = (kept_by now).vacant path in
    if_two (kept_by before).archives
    (λ older. Stands (around older waits path) v0 d0 → (drops_into v1 ≤ drops_into v0) × Calls d0 d1 (SteppedIn v0 v1 (around older waits path) (files_of d0)))
    (λ older. Stands (around older waits path) v0 d0 → Calls d0 d1 (StaysIn v0 v1 (around older waits path) (files_of d0)))
    (λ older. Stands (around older waits path) v0 d0 → Calls d0 d1 (λ added.
    let effect : ActEffect = record { trigger = trigger; act = act.Step; outcome = Stepped outcome; answer = None; before = v0; now = v1; added = added } in
    IsEffect reading (around older waits path) (files_of d0) effect × Follows effect next))
    (stepped path).kept (stepped path).shown
    (λ older p q. λ stands.
    let x = p stands in
    calls_map d0 d1 (SteppedIn v0 v1 (around older waits path) (files_of d0)) _ x.1
    (λ added tells told does. (
      record {
        does = does;
        fewer = x.0;
        shown = told_of d0 d1 (StaysIn v0 v1 (around older waits path) (files_of d0)) added tells told (q stands);
        unasked = refl;
        once = told_of d0 d1 (λ a. length a ≤ 1) added tells told once;
        idle = λ none. told_of d0 d1 (λ a. a ≡ []) added tells told (idle (rolls_at_once before path none));
      },
      same,
    )))

-- a late append, which leaves roller and trigger
pub late_acted : (before now : FixedWindowRoller) (trigger next : BuiltIn) (reading : Option Reading) (path : List ℕ) (e : Entry) (outcome : Result Unit LogError) (d0 d1 : Disk)
    → next ≡ trigger → now ≡ before → Calls d0 d1 (AddsRetired reading e.logged e.context path outcome)
    → ActedTo (kept_by before) (kept_by now) trigger next reading path (act.Late e) (Appended outcome) None d0 d1
late_acted before now trigger next reading path e outcome d0 d1 same stays adds =
    let waits = (kept_by before).waiting path in
    let v0 = (kept_by before).vacant path in
    let v1 = (kept_by now).vacant path in
    if_all (kept_by before).archives
    (λ older. Stands (around older waits path) v0 d0 → Calls d0 d1 (λ added.
    let effect : ActEffect = record { trigger = trigger; act = act.Late e; outcome = Appended outcome; answer = None; before = v0; now = v1; added = added } in
    IsEffect reading (around older waits path) (files_of d0) effect × Follows effect next))
    (λ older. λ stands.
    calls_map d0 d1 (AddsRetired reading e.logged e.context path outcome) _ adds
    (λ added tells told is. (record { adds = is; unasked = refl; stays = ap (λ (r : FixedWindowRoller). (kept_by r).vacant path) stays }, same)))

-- after an act no file stands where none is to, if none did before
pub act_vacant : (reading : Option Reading) (w : Window) (files : Files) (a : Act) (o : ActOutcome) (effect : ActEffect) → IsBy reading w files a o effect → Vacant effect.before w.active files → Vacant effect.now w.active (replay files effect.added)
act_vacant reading w files (act.Append e) (Appended r) effect is vacant = is.does.0.vacant
act_vacant reading w files (act.Append e) (Stepped r) effect is vacant = absurd is
act_vacant reading w files (act.Late e) (Appended r) effect is vacant =
    subst (λ (v : Vacancy). Vacant v w.active (replay files effect.added)) (sym is.stays) (appends_vacant effect.before files w.active Append effect.added is.adds.0 vacant)
act_vacant reading w files (act.Late e) (Stepped r) effect is vacant = absurd is
act_vacant reading w files act.Step (Appended r) effect is vacant = absurd is
act_vacant reading w files act.Step (Stepped r) effect is vacant = is.does.0.1

-- by the names and the readings that stay
abbrev pub ActedIn : Option (List ℕ) → Vacancy → Vacancy → BuiltIn → BuiltIn → Option Reading → List ℕ → Act → ActOutcome → Option Bool → Disk → Disk → List (List ℕ) → Type 0
ActedIn waits v0 v1 trigger next reading path a outcome answer d0 d1 older =
    let window = around older waits path in
    Stands window v0 d0 → Calls d0 d1 (λ added.
    let effect : ActEffect = record { trigger = trigger; act = a; outcome = outcome; answer = answer; before = v0; now = v1; added = added } in IsEffect reading window (files_of d0) effect × Follows effect next)

-- a roller that nobody asked, without a job, keeps what one like it keeps
pub kept_fresh : (roller : FixedWindowRoller) → job_of roller ≡ None → was_asked roller ≡ false → kept_anew roller ≡ kept_by roller
kept_fresh roller none not =
    ap (λ (job : Option Job). window_with (archive_name roller) roller.base roller.count roller.rename_only roller.background false job) (sym none)
    ∙ ap (λ (a : Bool). window_with (archive_name roller) roller.base roller.count roller.rename_only roller.background a roller.job) (sym not)
