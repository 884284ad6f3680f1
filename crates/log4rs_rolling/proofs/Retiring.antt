-- Files that are retired: appends that open the file and close it behind them.
use Rattle.std.proofs.Common.{rules, ◌≡◌, ℕ, List, [], ◌++◌, Option, None, Some, if◌then◌else◌, refl, sym, ap, ◌∙◌, subst, IsTrue, Bool, true, false, Result, Ok, Err, inl, inr, take, IfErr}
use Rattle.std.specs.Option.{IfSome, IsSome}
use Rattle.log4rs_rolling.specs.Change.{Change, Files, replay}
use Rattle.log4rs_rolling.specs.Disk.{Disk, Calls, files_of}
use Rattle.log4rs_rolling.specs.declared.store.Open.TheVariants.{Append}
use Rattle.log4rs_base.specs.declared.error.LogError.{LogError}
use Rattle.log4rs_rolling.proofs.Calls.{calls_map, files_after, replay-append}
use Rattle.log4rs_rolling.specs.HandingOver.{HandsOver, KeepsTheEndOver}
use Rattle.log4rs_rolling.specs.Keeping.{Keeping, NothingLeft, SameNames, SteppedAs}
use Rattle.log4rs_rolling.specs.LogFile.{Agrees, IsClosed, is_open, log_path}
use Rattle.log4rs_rolling.specs.declared.log_file.LogFile.{LogFile}
use Rattle.log4rs_rolling.specs.FileChanges.{OnlyAppends}
use Rattle.log4rs_rolling.specs.Faults.{MayAnswer}
use Rattle.log4rs_base.specs.declared.error.LogError.TheVariants.{Store}
use Rattle.log4rs_base.specs.declared.record.Context.{Context}
use Rattle.log4rs_base.specs.declared.record.Record.{Record}
use Rattle.log4rs_rolling.specs.Appends.{Failing, Reading}
use Rattle.log4rs_rolling.specs.RetiredAppends.{AddsRetired, FailsRetired, IsRefusal, OpenedAndWrote, OpenedToWrite}
use Rattle.log4rs_rolling.specs.Roller.{archive_name, kept_by, waiting_if, rolling_if}
use Rattle.log4rs_rolling.specs.SinceOpening.{GoodSince}
use Rattle.log4rs_rolling.specs.Window.{AreDistinct, Good, VacantAt, Window, kept, names}
use Rattle.log4rs_rolling.specs.declared.fixed_window.Job.{Job}
use Rattle.log4rs_rolling.specs.declared.fixed_window.FixedWindowRoller.{FixedWindowRoller}
use Rattle.log4rs_rolling.proofs.Appending.{since_join, since_quiet}
use Rattle.log4rs_rolling.proofs.Aside.{still_background}
use Rattle.log4rs_rolling.proofs.Beginning.{vacant_now}
use Rattle.log4rs_rolling.proofs.Parts.{if_map}
use Rattle.log4rs_rolling.proofs.Quiet.{writes_append}
use Rattle.log4rs_rolling.proofs.Stepping.{stepped_none}
use Rattle.log4rs_rolling.proofs.Windows.{Good-append, Good-within, good_end, appends_keep}

-- whatever the mode of the file is
pub since_appended : (settings k : Keeping) (path : List ℕ) (append : Bool) (opening d0 d1 : Disk)
    → SameNames settings k → Calls d0 d1 (OnlyAppends path Append) → GoodSince settings k path append opening d0 → GoodSince settings k path append opening d1
since_appended settings k path append opening d0 d1 names appends since = since_join settings k k path append opening d0 d1 names since (since_quiet k path Append append d0 d1 (λ on. refl) appends)

-- What one append adds

wrote_appends : (path text : List ℕ) (added : List Change) → OpenedAndWrote path text added → OnlyAppends path Append added
wrote_appends path text added is = subst (OnlyAppends path Append) (sym is.1) (refl, refl, writes_append path Append is.0 is.2)

pub opened_appends : (path text : List ℕ) (r : Result Unit LogError) (added : List Change) → OpenedToWrite path text r added → OnlyAppends path Append added
opened_appends path text (Ok t) added is = wrote_appends path text added is.0
opened_appends path text (Err e) added is = elim is.1 [
  | inl none ↦ subst (OnlyAppends path Append) (sym none) tt
  | inr some ↦ wrote_appends path (take some.0 text) added some.1
]

-- Nothing is left behind a job that ended

pub moves_asked : (b a : Bool) (name : ℕ → List ℕ) (base count : ℕ) (job : Option Job) (path : List ℕ) → IsTrue b → IsSome (rolling_if b a name base count job path) → IsTrue a
moves_asked true true name base count job path on some = refl
moves_asked true false name base count job path on some = absurd (search rules)
moves_asked false a name base count job path on some = cc

pub ended_job : (r0 r1 : FixedWindowRoller) → SameNames (kept_by r0) (kept_by r1) → r1.asked ≡ r0.asked → r1.job ≡ None → NothingLeft (kept_by r0) (kept_by r1)
ended_job r0 r1 names same none path some = by r0.background refl where
  by : (b : Bool) → r0.background ≡ b → IfSome (waiting_if b path) (λ waiting. (kept_by r1).vacant path ≡ VacantAt waiting)
  by true on =
      let asked : IsTrue r0.asked = moves_asked r0.background r0.asked (archive_name r0) r0.base r0.count r0.job path on some in
      vacant_now r1.background r1.asked (archive_name r1) r1.base r1.count r1.job path (still_background r0 r1 names on) (subst IsTrue (sym same) asked) none
  by false off = tt

-- Parts of the three

pub some_calls : (d0 d1 : Disk) (P : List Change → Type 0) → Calls d0 d1 P → Calls d0 d1 (λ added. Unit {0})
some_calls d0 d1 P calls = calls_map d0 d1 P (λ added. Unit {0}) calls (λ added tells told is. tt)

pub all_appends : (path text : List ℕ) (r : Result Unit LogError) (d0 d1 : Disk) → Calls d0 d1 (OpenedToWrite path text r) → Calls d0 d1 (OnlyAppends path Append)
all_appends path text r d0 d1 calls = calls_map d0 d1 (OpenedToWrite path text r) (OnlyAppends path Append) calls (λ added tells told is. opened_appends path text r added is)

not_open : (b : Bool) → b ≡ false → IsTrue b → ⊥
not_open true is on = cc
not_open false is on = cc

-- a closed log file agrees with a store that has no file open
pub closed_agrees : (log : LogFile) (disk : Disk) → IsClosed log disk → Agrees log disk
closed_agrees log disk closed = record {
  opened = λ tells. closed.1 tells ∙ sym (ap (λ (b : Bool). if b then Some (log_path log) else None) closed.0);
  len = λ tells is. absurd (not_open (is_open log) closed.0 is);
  present = λ tells is. absurd (not_open (is_open log) closed.0 is);
}

pub refused_by : (r : Result Unit LogError) (d0 d1 : Disk) → IfErr r (λ fault. fault ≡ Store) → IfErr r (MayAnswer d0.refusals d1.refusals) → IfErr r (IsRefusal d0 d1)
refused_by (Ok t) d0 d1 only fault = tt
refused_by (Err e) d0 d1 only fault = (only, subst (MayAnswer d0.refusals d1.refusals) only fault)

pub adds_some : (reading : Option Reading) (r : Record) (c : Context) (path text : List ℕ) (result : Result Unit LogError) (d0 d1 : Disk) → IfSome reading (λ read. text ≡ read r c)
    → Calls d0 d1 (OpenedToWrite path text result) → Calls d0 d1 (AddsRetired reading r c path result)
adds_some reading r c path text result d0 d1 is calls =
    calls_map d0 d1 (OpenedToWrite path text result) (AddsRetired reading r c path result) calls
    (λ added tells told whole. (
      opened_appends path text result added whole,
      if_map reading (λ read. text ≡ read r c) (λ read. OpenedToWrite path (read r c) result added) is (λ read same. subst (λ (t : List ℕ). OpenedToWrite path t result added) same whole),
    ))

pub refuses : (reading : Option Reading) (fails : Failing) (rec : Record) (c : Context) (Stayed : Type 0) (r : Result Unit LogError) (d0 d1 : Disk) → IfErr r (IsRefusal d0 d1)
    → IfErr r (FailsRetired reading fails rec c d0 d1 Stayed)
refuses reading fails rec c Stayed (Ok t) d0 d1 is = tt
refuses reading fails rec c Stayed (Err e) d0 d1 is = inl is

-- a file that is closed behind a step
pub closed_behind : (k : Keeping) (d0 d1 : Disk) → Calls d0 d1 (λ added. added ≡ []) → (IsTrue d0.tells → d1.opened ≡ None) → SteppedAs k k d0 d1
closed_behind k d0 d1 calls closed = stepped_none k k d0 d1 refl calls (λ tells. inl (closed tells))

-- Handing over

pub appends_good : (w : Window) (files : Files) (changes : List Change) → AreDistinct (names w) → OnlyAppends w.active Append changes → Good w files changes
appends_good w files changes distinct only = Good-within 0 w files changes (appends_keep w files changes distinct only)

pub kept_over : (w : Window) (opening end start now : Disk) → HandsOver w opening end start now → KeepsTheEndOver w opening end start now
kept_over w opening end start now over =
    let f = files_of opening in
    let one = over.before.told over.tells.0 in
    let two = over.behind.told over.tells.1 in
    let began : files_of start ≡ replay f one.0 = over.files ∙ files_after opening end one.0 one.1 in
    let ended : files_of now ≡ replay f (one.0 ++ two.0) = files_after start now two.0 two.1 ∙ ap (λ (g : Files). replay g two.0) began ∙ sym (replay-append f one.0 two.0) in
    let good : Good w f (one.0 ++ two.0) = Good-append w f one.0 two.0 one.2 (subst (λ (g : Files). Good w g two.0) began two.2) in
    let whole = good_end w f (one.0 ++ two.0) good in (
      one.0,
      two.0,
      whole.0,
      one.1,
      two.1,
      ap (λ (g : Files). whole.0 ++ kept w g) ended ∙ whole.1,
    )
