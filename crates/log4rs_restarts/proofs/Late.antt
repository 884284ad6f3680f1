-- Late appends: the file is opened and written to, and nothing is rolled.
use Rattle.std.proofs.Common.{◌≡◌, ◌≢◌, ◌⊎◌, ◌∙◌, ℕ, List, [], ◌∷◌, ◌++◌, Bool, true, false, if◌then◌else◌, Option, IfErr, IsSome, Result, Ok, Err, inl, inr, refl, sym, ap, subst}
use Rattle.std.specs.Option.{option_to_list}
use Rattle.std.specs.Str.{bytes_eq}
use Rattle.log4rs_base.specs.declared.error.LogError.{LogError}
use Rattle.log4rs_base.specs.declared.error.LogError.TheVariants.{Memory}
use Rattle.log4rs_base.specs.declared.record.Context.{Context}
use Rattle.log4rs_base.specs.declared.record.Record.{Record}
use Rattle.log4rs_rolling.specs.Appends.{Failing, Reading}
use Rattle.log4rs_rolling.specs.ArchiveEnds.{AreAt, EndsAt, ends, longer, older_of}
use Rattle.log4rs_rolling.specs.AppendResults.{LimitedAppend}
use Rattle.log4rs_rolling.specs.Change.{Change, Files, copied, opened, removed, renamed, replay, written, wrote}
use Rattle.log4rs_rolling.specs.Disk.{Disk, Calls}
use Rattle.log4rs_rolling.specs.Faults.{MayAnswer}
use Rattle.log4rs_rolling.specs.FileChanges.{OnlyAppends}
use Rattle.log4rs_rolling.specs.Roller.{kept_by}
use Rattle.log4rs_rolling.specs.LogFile.{IsClosed}
use Rattle.log4rs_rolling.specs.declared.log_file.LogFile.{LogFile}
use Rattle.log4rs_append.specs.PlainFile.{IsShut}
use Rattle.log4rs_rolling.specs.RetiredAppends.{AddsRetired, FailsRetired, OpenedAndWrote}
use Rattle.log4rs_rolling.specs.Segments.{Segments, Shows}
use Rattle.log4rs_rolling.specs.SegmentsShown.{standing, without}
use Rattle.log4rs_rolling.specs.Window.{AreDistinct, NotAmong, Vacancy, Anywhere, VacantAt, OfAnother, Window, names}
use Rattle.log4rs_rolling.specs.declared.fixed_window.FixedWindowRoller.{FixedWindowRoller}
use Rattle.log4rs_rolling.specs.declared.store.Open.TheVariants.{Append}
use Rattle.log4rs_rolling.proofs.Calls.{calls_map}
use Rattle.log4rs_rolling.proofs.Ending.{EndsAt-append, EndsAt-last, opens_end, writes_end}
use Rattle.log4rs_rolling.proofs.Growing.{holds_same}
use Rattle.log4rs_rolling.proofs.Limits.{limited_quiet}
use Rattle.log4rs_rolling.proofs.Parts.{opens_apart, opens_bytes, writes_apart, writes_bytes}
use Rattle.log4rs_rolling.proofs.Windows.{not_last}
use Rattle.log4rs_append.proofs.Rolling.{refusal_may}
use Rattle.log4rs_restarts.specs.ActsDone.{LateDone, Moment, any_fault, kept_at}
use Rattle.log4rs_restarts.specs.Segmented.{lengthened}
use Rattle.log4rs_base.specs.declared.record.Entry.{Entry}

-- Calls

pub only_appends : (reading : Option Reading) (r : Record) (c : Context) (path : List ℕ) (result : Result Unit LogError) (d0 d1 : Disk) → Calls d0 d1 (AddsRetired reading r c path result) → Calls d0 d1 (OnlyAppends path Append)
only_appends reading r c path result d0 d1 calls = calls_map d0 d1 (AddsRetired reading r c path result) (OnlyAppends path Append) calls (λ added tells told adds. adds.0)

-- what is changed at most: what an append changes whose trigger does not fire
pub late_limits : (reading : Option Reading) (path : List ℕ) (entry : Entry) (result : Result Unit LogError) (answer : Option Bool) (before now : Moment) → LateDone reading path entry result answer before now
    → LimitedAppend (kept_at before) (kept_at now) path Append before.disk now.disk
late_limits reading path entry result answer before now done =
    subst (λ (r : FixedWindowRoller). LimitedAppend (kept_at before) (kept_by r) path Append before.disk now.disk) (sym done.stays)
    (limited_quiet (kept_at before) path Append before.disk now.disk (only_appends reading entry.logged entry.context path result before.disk now.disk done.adds))

-- Faults

may_memory : (fault : LogError) (before now : ℕ) → fault ≡ Memory → MayAnswer before now fault
may_memory fault before now is = subst (MayAnswer before now) (sym is) tt

pub late_fault : (reading : Option Reading) (fails : Failing) (r : Record) (c : Context) (Stayed : Type 0) (result : Result Unit LogError) (d0 d1 : Disk) → IfErr result (FailsRetired reading fails r c d0 d1 Stayed) → IsSome reading
    → IfErr result (MayAnswer d0.refusals d1.refusals)
late_fault reading fails r c Stayed (Ok u) d0 d1 failed some = tt
late_fault reading fails r c Stayed (Err fault) d0 d1 failed some = elim failed [
  | inl refused ↦ refusal_may (Err fault) d0 d1 refused
  | inr own ↦ may_memory fault d0.refusals d1.refusals (own.1 some)
]

-- texts may fail in any way
pub fails_any : (reading : Option Reading) (fails : Failing) (r : Record) (c : Context) (Stayed Same : Type 0) (result : Result Unit LogError) (d0 d1 : Disk) → (Stayed → Same) → IfErr result (FailsRetired reading fails r c d0 d1 Stayed)
    → IfErr result (FailsRetired reading any_fault r c d0 d1 Same)
fails_any reading fails r c Stayed Same (Ok u) d0 d1 so failed = tt
fails_any reading fails r c Stayed Same (Err fault) d0 d1 so failed = elim failed [
  | inl refused ↦ inl refused
  | inr own ↦ inr (tt, own.1, so own.2)
]

-- the file is closed, or nothing was done
pub shut_or : (log : LogFile) (disk : Disk) (Stayed Same : Type 0) → (Stayed → Same) → IsClosed log disk ⊎ Stayed → IsShut disk ⊎ Same
shut_or log disk Stayed Same so done = elim done [
  | inl closed ↦ inl closed.1
  | inr stayed ↦ inr (so stayed)
]

-- Ends

pub appends_end : (w : Window) (files : Files) (changes : List Change) (places : List ℕ) (at : ℕ) → AreDistinct (names w) → OnlyAppends w.active Append changes
    → AreAt places at (ends w files) → EndsAt places w files at changes
appends_end w files [] places at distinct only are = are
appends_end w files (opened path how ∷ changes) places at distinct only are =
    let one = opens_end w files (opened path how ∷ []) places at distinct (only.0, only.1, tt) are in
    EndsAt-append places w files at (opened path how ∷ []) changes one
    (appends_end w (replay files (opened path how ∷ [])) changes places (longer (written w.active (opened path how ∷ [])) at) distinct only.2 (EndsAt-last places w files at (opened path how ∷ []) one))
appends_end w files (wrote path bytes ∷ changes) places at distinct only are =
    let one = writes_end w files (wrote path bytes ∷ []) places at distinct (only.0, tt) are in
    EndsAt-append places w files at (wrote path bytes ∷ []) changes one
    (appends_end w (replay files (wrote path bytes ∷ [])) changes places (longer (written w.active (wrote path bytes ∷ [])) at) distinct only.1 (EndsAt-last places w files at (wrote path bytes ∷ []) one))
appends_end w files (renamed from to ∷ changes) places at distinct only are = absurd only
appends_end w files (copied from to ∷ changes) places at distinct only are = absurd only
appends_end w files (removed path ∷ changes) places at distinct only are = absurd only

-- Segments

not_without : (p x : List ℕ) (ns : List (List ℕ)) → NotAmong p ns → NotAmong p (without x ns)
not_without p x [] not = tt
not_without p x (n ∷ ns) not = by (bytes_eq x n) (not_without p x ns not.1) where
  by : (b : Bool) → NotAmong p (without x ns) → NotAmong p (if b then ns else n ∷ without x ns)
  by true later = not.1
  by false later = (not.0, later)

not_behind : (n : List ℕ) (xs ms ys : List (List ℕ)) → NotAmong n (xs ++ ms ++ ys) → NotAmong n (xs ++ ys)
not_behind n [] [] ys h = h
not_behind n [] (m ∷ ms) ys h = not_behind n [] ms ys h.1
not_behind n (x ∷ xs) ms ys h = (h.0, not_behind n xs ms ys h.1)

distinct_without : (xs ms ys : List (List ℕ)) → AreDistinct (xs ++ ms ++ ys) → AreDistinct (xs ++ ys)
distinct_without [] [] ys h = h
distinct_without [] (m ∷ ms) ys h = distinct_without [] ms ys h.1
distinct_without (x ∷ xs) ms ys h = (not_behind x xs ms ys h.0, distinct_without xs ms ys h.1)

-- the archives and the active file have different names
pub alone : (w : Window) → AreDistinct (names w) → AreDistinct (w.archives ++ w.active ∷ [])
alone w distinct = distinct_without w.archives (option_to_list w.waiting) (w.active ∷ []) distinct

-- the file is none of the older names that show segments
pub beside : (w : Window) (v : Vacancy) → AreDistinct (names w) → NotAmong w.active (standing w v)
beside w Anywhere distinct = not_last (older_of w) w.active distinct
beside w (VacantAt name) distinct = not_without w.active name (older_of w) (not_last (older_of w) w.active distinct)
beside w OfAnother distinct = not_last (older_of w) w.active distinct

pub late_shown : (ns : List (List ℕ)) (path text : List ℕ) (files : Files) (added : List Change) (segments : Segments) → NotAmong path ns → OpenedAndWrote path text added
    → Shows segments ns path files → Shows (lengthened segments text) ns path (replay files added)
late_shown ns path text files added segments other is shows =
    let opening : List Change = opened path Append ∷ [] in
    let f1 = replay files opening in
    let f2 = replay f1 is.0 in
    let apart : (name : List ℕ) → name ≢ path → f2 name ≡ files name = λ name not. writes_apart f1 path is.0 name is.2 not ∙ opens_apart files path Append opening name (refl, refl, tt) not in
    subst (λ (c : List Change). Shows (lengthened segments text) ns path (replay files c)) (sym is.1)
    (record {
      closed = holds_same files f2 path ns segments.closed apart other shows.closed;
      current = writes_bytes f1 path is.0 is.2
          ∙ ap (λ (b : List ℕ). b ++ written path is.0) (opens_bytes files path opening (refl, refl, tt) ∙ shows.current)
          ∙ ap (λ (b : List ℕ). segments.current ++ b) is.3;
    })
