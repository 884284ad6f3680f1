-- The segments that the files of a roller show, through an append and through the end of a rolling.
use Rattle.std.proofs.Common.{◌≡◌, ◌<◌, ◌^◌, ◌-◌, ℕ, List, [], ◌∷◌, ◌++◌, length, Option, Some, None, refl, sym, ap, ◌∙◌, subst, Bool, true, false, if◌then◌else◌, nat_lt, arith, IsTrue, Result, Ok, Err, OnOk}
use Rattle.std.specs.Option.{IfSome, IsSome}
use Rattle.std.specs.Str.{bytes_eq}
use Rattle.std.proofs.lemmas.List.{append-nil}
use Rattle.log4rs_rolling.specs.Change.{Change, Files, replay, bytes_at, written}
use Rattle.log4rs_rolling.specs.Disk.{Disk, Calls, files_of}
use Rattle.log4rs_rolling.specs.FileChanges.{OnlyWrites, OnlyOpens}
use Rattle.log4rs_base.specs.declared.error.LogError.{LogError}
use Rattle.log4rs_base.specs.declared.record.Context.{Context}
use Rattle.log4rs_base.specs.declared.record.Record.{Record}
use Rattle.log4rs_rolling.specs.declared.store.Open.TheVariants.{Append, Truncate}
use Rattle.log4rs_rolling.proofs.Calls.{calls_join, calls_map, files_after, replay-append}
use Rattle.log4rs_rolling.specs.Appends.{Reading, WroteText}
use Rattle.log4rs_rolling.specs.Asking.{Asking, Asked, Kind, BySize, is_first, is_told}
use Rattle.log4rs_rolling.specs.ArchiveEnds.{older_of}
use Rattle.log4rs_rolling.specs.Keeping.{Keeping, Stands, SteppedAs}
use Rattle.log4rs_rolling.specs.LogFile.{estimate}
use Rattle.log4rs_rolling.specs.PolicyResults.{Processed}
use Rattle.log4rs_rolling.specs.Roller.{archive_name, kept_by, rolling_if, vacancy_if, waiting_if}
use Rattle.log4rs_rolling.specs.Archives.{waiting_name}
use Rattle.log4rs_rolling.specs.Segments.{Segments, Shows, ShowsAfter, add}
use Rattle.log4rs_rolling.specs.SegmentGrowth.{GrowsIn, GrowsBy, ShowsAtLast}
use Rattle.log4rs_rolling.specs.SegmentsShown.{standing, without, close, ClosesIn, ShowsIn, StaysIn}
use Rattle.log4rs_rolling.specs.Window.{Window, around, names, AreDistinct, NotAmong, Vacancy, Vacant, Anywhere, VacantAt, OfAnother}
use Rattle.log4rs_rolling.specs.declared.fixed_window.FixedWindowRoller.{FixedWindowRoller}
use Rattle.log4rs_rolling.specs.declared.fixed_window.Job.{Job}
use Rattle.log4rs_rolling.proofs.Growing.{above, holds_same, not_above, on_ok_with, over, said_by_size}
use Rattle.log4rs_rolling.proofs.Parts.{appending, if_all, if_map, not_yes, opens_apart, opens_bytes, opens_vacant, stands_on, writes_apart, writes_bytes, writes_vacant}
use Rattle.log4rs_rolling.proofs.Standing.{without_waiting}
use Rattle.log4rs_rolling.proofs.Windows.{not_last}

-- The active file stands beside the names

not_without : (p x : List ℕ) (ns : List (List ℕ)) → NotAmong p ns → NotAmong p (without x ns)
not_without p x [] not = tt
not_without p x (n ∷ ns) not = by (bytes_eq x n) (not_without p x ns not.1) where
  by : (b : Bool) → NotAmong p (without x ns) → NotAmong p (if b then ns else n ∷ without x ns)
  by true later = not.1
  by false later = (not.0, later)

beside : (w : Window) (v : Vacancy) → AreDistinct (names w) → NotAmong w.active (standing w v)
beside w Anywhere distinct = not_last (older_of w) w.active distinct
beside w (VacantAt name) distinct = not_without w.active name (older_of w) (not_last (older_of w) w.active distinct)
beside w OfAnother distinct = not_last (older_of w) w.active distinct

-- so it can be opened
opened_shown : (w : Window) (v : Vacancy) (segments : Segments) (f : Files) (xs : List Change) → AreDistinct (names w) → OnlyOpens w.active Append xs
    → ShowsIn segments w v f → ShowsIn segments w v (replay f xs)
opened_shown w v segments f xs distinct only shows =
    record {
      closed = holds_same f (replay f xs) w.active (standing w v) segments.closed (λ name other. opens_apart f w.active Append xs name only other) (beside w v distinct) shows.closed;
      current = opens_bytes f w.active xs only ∙ shows.current;
    }

-- the segments with a text behind the open one
abbrev longer : Segments → List ℕ → Segments
longer segments text = record { closed = segments.closed; current = segments.current ++ text }

-- and a text written to it
written_shown : (w : Window) (v : Vacancy) (segments : Segments) (text : List ℕ) (f : Files) (xs : List Change) → AreDistinct (names w) → OnlyWrites w.active xs → written w.active xs ≡ text
    → ShowsIn segments w v f → ShowsIn (longer segments text) w v (replay f xs)
written_shown w v segments text f xs distinct only wrote shows =
    record {
      closed = holds_same f (replay f xs) w.active (standing w v) segments.closed (λ name other. writes_apart f w.active xs name only other) (beside w v distinct) shows.closed;
      current = writes_bytes f w.active xs only ∙ ap (λ (b : List ℕ). b ++ written w.active xs) shows.current ∙ ap (λ (b : List ℕ). segments.current ++ b) wrote;
    }

-- A text, and then a rolling or none

-- whether the text made the segment longer than the limit
abbrev Over : Bool → ℕ → Segments → List ℕ → Type 0
Over b limit segments text = b ≡ nat_lt limit (length (segments.current ++ text))

added_as : (b : Bool) (limit : ℕ) (segments : Segments) (text : List ℕ) → Over b limit segments text
    → add limit segments text ≡ (if b then close (longer segments text) else longer segments text)
added_as b limit segments text is = ap (λ (t : Bool). if t then close (longer segments text) else longer segments text) (sym is)

rolled_shown : (w : Window) (v x : Vacancy) (limit : ℕ) (segments : Segments) (text : List ℕ) (f : Files) (xs ys : List Change) → AreDistinct (names w) → Over true limit segments text
    → OnlyWrites w.active xs → written w.active xs ≡ text → ClosesIn v x w (replay f xs) ys
    → ShowsIn segments w v f → ShowsAfter limit segments text (standing w x) w.active (replay f (xs ++ ys))
rolled_shown w v x limit segments text f xs ys distinct is only wrote closes shows =
    let whole = segments.current ++ text in
    let long = above limit (length whole) (sym is) in
    let closed = closes (longer segments text) (written_shown w v segments text f xs distinct only wrote shows) (omega arith) in
    subst (λ (g : Files). ShowsAfter limit segments text (standing w x) w.active g) (sym (replay-append f xs ys))
    (record {
      shows = subst (λ (s : Segments). Shows s (standing w x) w.active (replay (replay f xs) ys)) (sym (added_as true limit segments text is)) closed.0;
      absent = λ more. closed.1;
    })

unrolled_shown : (w : Window) (v : Vacancy) (limit : ℕ) (segments : Segments) (text : List ℕ) (f : Files) (xs ys : List Change) → AreDistinct (names w) → Over false limit segments text
    → OnlyWrites w.active xs → written w.active xs ≡ text → ys ≡ []
    → ShowsIn segments w v f → ShowsAfter limit segments text (standing w v) w.active (replay f (xs ++ ys))
unrolled_shown w v limit segments text f xs ys distinct is only wrote none shows =
    let same : replay f (xs ++ ys) ≡ replay f xs = replay-append f xs ys ∙ ap (replay (replay f xs)) none in
    subst (λ (g : Files). ShowsAfter limit segments text (standing w v) w.active g) (sym same)
    (record {
      shows = subst (λ (s : Segments). Shows s (standing w v) w.active (replay f xs)) (sym (added_as false limit segments text is)) (written_shown w v segments text f xs distinct only wrote shows);
      absent = λ more. not_above limit (length (segments.current ++ text)) (sym is) more;
    })

-- An append, from the writing on

abbrev GrowsOf : List ℕ → Asking → Keeping → Keeping → List ℕ → Result Unit LogError → Disk → Disk → List (List ℕ) → Type 0
GrowsOf text asking before now path result old new older =
    let window = around older (before.waiting path) path in
    (limit : ℕ) → asking.kind ≡ BySize limit → limit < 2 ^ 64 - 1 → IsTrue before.is_built_in → Stands window (before.vacant path) old
    → OnOk result (Calls old new (λ added. (segments : Segments) → ShowsIn segments window (before.vacant path) (files_of old)
    → ShowsAfter limit segments text (standing window (now.vacant path)) path (replay (files_of old) added)))

pub grows_failed : (text : List ℕ) (asking : Asking) (k0 k1 : Keeping) (path : List ℕ) (r : Result Unit LogError) (d0 d1 : Disk) → ((X : Type 0) → OnOk r X) → GrowsIn text asking k0 k1 path r d0 d1
grows_failed text asking k0 k1 path r d0 d1 failed =
    if_all k0.archives (GrowsOf text asking k0 k1 path r d0 d1)
    (λ older. λ limit size below known stands.
    let window = around older (k0.waiting path) path in
    failed (Calls d0 d1 (λ added. (segments : Segments) → ShowsIn segments window (k0.vacant path) (files_of d0)
    → ShowsAfter limit segments text (standing window (k1.vacant path)) path (replay (files_of d0) added))))

pub no_record : (reading : Option Reading) (r : Record) (c : Context) (asking : Asking) (k0 k1 : Keeping) (path : List ℕ) (result : Result Unit LogError) (d0 d1 : Disk) → ((X : Type 0) → OnOk result X)
    → GrowsBy reading r c asking k0 k1 path result d0 d1
no_record reading r c asking k0 k1 path result d0 d1 failed =
    if_all reading (λ read. GrowsIn (read r c) asking k0 k1 path result d0 d1) (λ read. grows_failed (read r c) asking k0 k1 path result d0 d1 failed)

told_by_size : (asking : Asking) (limit : ℕ) → asking.kind ≡ BySize limit → IsTrue (is_told asking.kind)
told_by_size asking limit size = subst (λ (k : Kind). IsTrue (is_told k)) (sym size) refl

-- the answer is the one to the length of the segment with the text
answered : (b : Bool) (limit len : ℕ) (segments : Segments) (text : List ℕ) (w : Window) (v : Vacancy) (f : Files) (xs : List Change) → AreDistinct (names w) → limit < 2 ^ 64 - 1
    → b ≡ nat_lt limit len → len ≡ estimate (length (bytes_at (replay f xs) w.active)) → OnlyWrites w.active xs → written w.active xs ≡ text → ShowsIn segments w v f → Over b limit segments text
answered b limit len segments text w v f xs distinct below said is only wrote shows =
    let bytes = (written_shown w v segments text f xs distinct only wrote shows).current in
    said ∙ ap (nat_lt limit) is ∙ over limit (length (bytes_at (replay f xs) w.active)) below ∙ ap (λ (b : List ℕ). nat_lt limit (length b)) bytes

abbrev Wrote : Window → Vacancy → List ℕ → Files → List Change → Type 0
Wrote w v text f added = (OnlyWrites w.active added × (written w.active added ≡ text)) × Vacant v w.active (replay f added)

pub grows_asked : (u : Unit {0}) (text : List ℕ) (asking : Asking) (context : Context) (answer : Option Bool) (r : Result Unit LogError) (k0 k1 : Keeping) (path other : List ℕ) (len : ℕ) (d0 d1 d2 : Disk)
    → other ≡ path → Calls d0 d1 (λ added. OnlyWrites path added × WroteText path text (Ok u) added)
    → (IsTrue d1.tells → len ≡ estimate (length (bytes_at (files_of d1) other)))
    → Asked asking len context r answer → Processed k0 k1 answer other r d1 d2
    → GrowsIn text asking k0 k1 path r d0 d2
grows_asked v text asking context answer (Err fault) k0 k1 path other len d0 d1 d2 same calls known asked done = grows_failed text asking k0 k1 path (Err fault) d0 d2 (λ X. tt)
grows_asked v text asking context (Some true) (Ok u) k0 k1 path other len d0 d1 d2 same calls known asked done =
    let here = subst (λ (t : List ℕ). Processed k0 k1 (Some true) t (Ok u) d1 d2) same done in
    if_map k0.archives
    (λ older. let w = around older (k0.waiting path) path in
    IsTrue k0.is_built_in → Stands w (k0.vacant path) d1 → Calls d1 d2 (ClosesIn (k0.vacant path) (k1.vacant path) w (files_of d1)))
    (GrowsOf text asking k0 k1 path (Ok u) d0 d2) here.closes
    (λ older closes. λ limit size below told stands.
    let w : Window = around older (k0.waiting path) path in
    let v0 = k0.vacant path in
    let writes : Calls d0 d1 (Wrote w v0 text (files_of d0)) =
    calls_map d0 d1 _ _ calls (λ added tells told x. ((x.0, x.1.1), writes_vacant v0 (files_of d0) path added x.0 (stands.1 tells))) in
    let said = said_by_size asking limit context (Some true) len size (λ t. (asked t).0) in
    calls_join d0 d1 d2 _ _ _ writes (closes told (stands_on w v0 v0 _ d0 d1 stands writes (λ added x. x.1)))
    (λ xs ys tells told x y. λ segments shows.
    let is : len ≡ estimate (length (bytes_at (replay (files_of d0) xs) path)) =
    known (subst IsTrue (sym calls.tells) tells)
    ∙ ap (λ (p : List ℕ). estimate (length (bytes_at (files_of d1) p))) same
    ∙ ap (λ (f : Files). estimate (length (bytes_at f path))) (files_after d0 d1 xs told) in
    rolled_shown w v0 (k1.vacant path) limit segments text (files_of d0) xs ys stands.0
    (answered true limit len segments text w v0 (files_of d0) xs stands.0 below said is x.0.0 x.0.1 shows) x.0.0 x.0.1
    (subst (λ (f : Files). ClosesIn v0 (k1.vacant path) w f ys) (files_after d0 d1 xs told) y) shows))
grows_asked v text asking context (Some false) (Ok u) k0 k1 path other len d0 d1 d2 same calls known asked done =
    if_all k0.archives (GrowsOf text asking k0 k1 path (Ok u) d0 d2)
    (λ older. λ limit size below told stands.
    let w : Window = around older (k0.waiting path) path in
    let v0 = k0.vacant path in
    let said = said_by_size asking limit context (Some false) len size (λ t. (asked t).0) in
    calls_join d0 d1 d2 _ _ _ calls done.1
    (λ xs ys tells told x none. λ segments shows.
    let is : len ≡ estimate (length (bytes_at (replay (files_of d0) xs) path)) =
    known (subst IsTrue (sym calls.tells) tells)
    ∙ ap (λ (p : List ℕ). estimate (length (bytes_at (files_of d1) p))) same
    ∙ ap (λ (f : Files). estimate (length (bytes_at f path))) (files_after d0 d1 xs told) in
    subst (λ (k : Keeping). ShowsAfter limit segments text (standing w (k.vacant path)) path (replay (files_of d0) (xs ++ ys))) (sym done.0)
    (unrolled_shown w v0 limit segments text (files_of d0) xs ys stands.0
    (answered false limit len segments text w v0 (files_of d0) xs stands.0 below said is x.0 x.1.1 shows) x.0 x.1.1 none shows)))
grows_asked v text asking context None (Ok u) k0 k1 path other len d0 d1 d2 same calls known asked done =
    if_all k0.archives (GrowsOf text asking k0 k1 path (Ok u) d0 d2)
    (λ older. λ limit size below told stands. absurd (not_yes (sym (asked (told_by_size asking limit size)).1)))

-- A whole append

-- the same of these values at another place
pub grows_at : {P : Type 0} (asking : P → Asking) (keeping : P → Keeping) (p0 p1 p2 : P) (text : List ℕ) (result : Result Unit LogError) (path other : List ℕ) (d1 d2 : Disk)
    → p1 ≡ p0 → other ≡ path → GrowsIn text (asking p1) (keeping p1) (keeping p2) other result d1 d2 → GrowsIn text (asking p0) (keeping p0) (keeping p2) path result d1 d2
grows_at {P = P} asking keeping p0 p1 p2 text result path other d1 d2 stayed same grows =
    subst (λ (q : P). GrowsIn text (asking q) (keeping q) (keeping p2) path result d1 d2) stayed
    (subst (λ (t : List ℕ). GrowsIn text (asking p1) (keeping p1) (keeping p2) t result d1 d2) same grows)

-- an append whose file was opened, if it was closed, before the writing
grows_behind : (text : List ℕ) (asking : Asking) (k0 k1 : Keeping) (append first : Bool) (result : Result Unit LogError) (path : List ℕ) (d0 d1 d2 : Disk)
    → IsTrue append → (IsTrue (is_told asking.kind) → is_first asking.kind ≡ first)
    → (first ≡ false → Calls d0 d1 (OnlyOpens path (if append then Append else Truncate))) → (first ≡ false → GrowsIn text asking k0 k1 path result d1 d2)
    → GrowsIn text asking k0 k1 path result d0 d2
grows_behind text asking k0 k1 append first result path d0 d1 d2 on kind opens grows = by k0.archives grows where
  Later : List (List ℕ) → Type 0
  Later older = GrowsOf text asking k0 k1 path result d1 d2 older

  by : (o : Option (List (List ℕ))) → (first ≡ false → IfSome o Later) → IfSome o (GrowsOf text asking k0 k1 path result d0 d2)
  by None later = tt
  by (Some older) later = λ limit size below known stands.
      let w : Window = around older (k0.waiting path) path in
      let v0 = k0.vacant path in
      let last : first ≡ false = sym (kind (told_by_size asking limit size)) ∙ ap is_first size in
      let opened : Calls d0 d1 (λ added. OnlyOpens path Append added × Vacant v0 path (replay (files_of d0) added)) =
      calls_map d0 d1 _ _ (opens last) (λ added tells told only. let x = appending append path added on only in (x, opens_vacant v0 (files_of d0) path Append added x (stands.1 tells))) in
      let Shown : Disk → List Change → Type 0 = λ d added. (segments : Segments) → ShowsIn segments w v0 (files_of d) → ShowsAfter limit segments text (standing w (k1.vacant path)) path (replay (files_of d) added) in
      on_ok_with result (Calls d1 d2 (Shown d1)) (Calls d0 d2 (Shown d0))
      (later last limit size below known (stands_on w v0 v0 _ d0 d1 stands opened (λ added x. x.1)))
      (λ done. calls_join d0 d1 d2 _ _ (Shown d0) opened done
      (λ xs ys tells told x y. λ segments shows.
      let f0 = files_of d0 in
      let same = files_after d0 d1 xs told in
      subst (λ (f : Files). ShowsAfter limit segments text (standing w (k1.vacant path)) path f) (ap (λ (f : Files). replay f ys) same ∙ sym (replay-append f0 xs ys))
      (y segments (subst (ShowsIn segments w v0) (sym same) (opened_shown w v0 segments f0 xs stands.0 x.0 shows)))))

pub grows_whole : (reading : Option Reading) (r : Record) (c : Context) (asking : Asking) (k0 k1 : Keeping) (append first : Bool) (result : Result Unit LogError) (text path : List ℕ) (d0 d1 d2 : Disk)
    → IsTrue append → (IsTrue (is_told asking.kind) → is_first asking.kind ≡ first) → IfSome reading (λ read. text ≡ read r c)
    → (first ≡ false → Calls d0 d1 (OnlyOpens path (if append then Append else Truncate))) → (first ≡ false → GrowsIn text asking k0 k1 path result d1 d2)
    → GrowsBy reading r c asking k0 k1 path result d0 d2
grows_whole reading r c asking k0 k1 append first result text path d0 d1 d2 on kind made opens grows =
    if_map reading (λ read. text ≡ read r c) (λ read. GrowsIn (read r c) asking k0 k1 path result d0 d2) made
    (λ read is. subst (λ (t : List ℕ). GrowsIn t asking k0 k1 path result d0 d2) is (grows_behind text asking k0 k1 append first result path d0 d1 d2 on kind opens grows))

-- The end of a rolling

both_wait : (b0 b1 : Bool) (path : List ℕ) → waiting_if b1 path ≡ waiting_if b0 path → b1 ≡ b0
both_wait true true path same = refl
both_wait true false path same = cc
both_wait false true path same = cc
both_wait false false path same = refl

-- where nothing is left of one, the archives stand
at_rest : (b a : Bool) (name : ℕ → List ℕ) (base count : ℕ) (job : Option Job) (older : List (List ℕ)) (path : List ℕ) → IsSome (rolling_if b a name base count job path)
    → let w = around older (waiting_if b path) path in AreDistinct (names w) → standing w (vacancy_if b a name base count None path) ≡ older
at_rest true true name base count job older path known distinct = without_waiting older (waiting_name path) path distinct
at_rest true false name base count job older path known distinct = absurd (not_yes (sym known))
at_rest false a name base count job older path known distinct = append-nil older

-- of a vacancy without a job the name and the window say nothing
same_rest : (b a : Bool) (n0 n1 : ℕ → List ℕ) (base0 base1 count0 count1 : ℕ) (path : List ℕ) → vacancy_if b a n1 base1 count1 None path ≡ vacancy_if b a n0 base0 count0 None path
same_rest true true n0 n1 base0 base1 count0 count1 path = refl
same_rest true false n0 n1 base0 base1 count0 count1 path = refl
same_rest false a n0 n1 base0 base1 count0 count1 path = refl

pub shows_at_last : (r0 r1 : FixedWindowRoller) (path : List ℕ) (d0 d1 : Disk) → SteppedAs (kept_by r0) (kept_by r1) d0 d1 → r1.job ≡ None → r1.asked ≡ r0.asked → ShowsAtLast (kept_by r0) path d0 d1
shows_at_last r0 r1 path d0 d1 stepped none knows =
    let k0 = kept_by r0 in
    let k1 = kept_by r1 in
    let b = both_wait r0.background r1.background path (ap (λ (f : List ℕ → Option (List ℕ)). f path) (stepped path).names.waiting) in
    let rest : k1.vacant path ≡ vacancy_if r0.background r0.asked (archive_name r0) r0.base r0.count None path =
    ap (λ (j : Option Job). vacancy_if r1.background r1.asked (archive_name r1) r1.base r1.count j path) none
    ∙ ap (λ (x : Bool). vacancy_if x r1.asked (archive_name r1) r1.base r1.count None path) b
    ∙ ap (λ (x : Bool). vacancy_if r0.background x (archive_name r1) r1.base r1.count None path) knows
    ∙ same_rest r0.background r0.asked (archive_name r0) (archive_name r1) r0.base r1.base r0.count r1.count path in
    if_map k0.archives
    (λ older. let w = around older (k0.waiting path) path in Stands w (k0.vacant path) d0 → Calls d0 d1 (StaysIn (k0.vacant path) (k1.vacant path) w (files_of d0)))
    (λ older. let w = around older (k0.waiting path) path in IsSome (k0.moves path) → Stands w (k0.vacant path) d0
    → Calls d0 d1 (λ added. (segments : Segments) → ShowsIn segments w (k0.vacant path) (files_of d0) → Shows segments older path (replay (files_of d0) added)))
    (stepped path).shown
    (λ older shown. λ known stands.
    let w : Window = around older (k0.waiting path) path in
    let is : standing w (k1.vacant path) ≡ older =
    ap (λ (v : Vacancy). standing w v) rest ∙ at_rest r0.background r0.asked (archive_name r0) r0.base r0.count r0.job older path known stands.0 in
    calls_map d0 d1 _ _ (shown stands) (λ added tells told stays. λ segments shows.
    subst (λ (l : List (List ℕ)). Shows segments l path (replay (files_of d0) added)) is (stays segments shows)))
