-- An append to a rolled file, with what of its trigger a sink tells.
use Rattle.std.proofs.Common.{◌≡◌, ◌≤◌, ◌&&◌, ℕ, List, Bool, IsTrue, Option, Some, None, is_some, length, Result, Ok, Err, IfErr, inl, inr, ap, refl, subst, sym, ◌∙◌}
use Rattle.std.proofs.Math.Logic.{∥∥₁_map}
use Rattle.log4rs_rolling.specs.Change.{Change, Files}
use Rattle.log4rs_rolling.specs.Disk.{Calls, Disk, files_of}
use Rattle.log4rs_rolling.proofs.Calls.{calls_join, calls_map, calls_none}
use Rattle.log4rs_base.specs.declared.record.Record.{Record}
use Rattle.log4rs_base.specs.declared.record.Context.{Context}
use Rattle.log4rs_base.specs.declared.error.LogError.{LogError}
use Rattle.log4rs_rolling.specs.declared.store.Open.{Open}
use Rattle.log4rs_rolling.specs.AppendResults.{AnsweredAppend, GrownAppend, LimitedAppend, MadeAppend}
use Rattle.log4rs_rolling.specs.Appends.{Appended, AppendedTo, Failing, FailsBy, Reading, SaidAt, asked_length}
use Rattle.log4rs_rolling.specs.Asking.{Asking, AnswersBy, Kind, Untold, BySize, First, is_told}
use Rattle.log4rs_rolling.specs.Keeping.{Keeping, SameNames}
use Rattle.log4rs_rolling.specs.FileChanges.{way}
use Rattle.log4rs_rolling.specs.AppendParts.{TakesAway, Whole, WholeBy}
use Rattle.log4rs_rolling.specs.SinceOpening.{GoodSince}
use Rattle.log4rs_rolling.specs.Window.{Window, Vacancy, around}
use Rattle.log4rs_rolling.proofs.Appending.{since_renamed}
use Rattle.log4rs_rolling.proofs.Places.{names_join}
use Rattle.log4rs_rolling.proofs.Windows.{good_end}
use Rattle.log4rs_append.specs.RolledFile.{RolledFile, GoesOn, KeepsItsEnd, asked_by}
use Rattle.log4rs_append.specs.Rolling.{IsSameFile, encoder_of, policy_of, rolled_file, rolling_sink, store_of}
use Rattle.log4rs_append.specs.Sink.{plain_reading, Appended as SinkAppended}
use Rattle.log4rs_append.proofs.Rolling.{both_true, known_reading, since_gains}
use Rattle.log4rs_append.specs.declared.rolling_file.RollingFileAppender.{RollingFileAppender}
use Rattle.log4rs_encode.specs.Runs.{Run}
use Rattle.log4rs_rolling.specs.declared.policy.Keep as Keep
use Rattle.log4rs_rolling.specs.declared.store.Store as Store

answers_by : (kind : Kind) (says : ℕ → Context → Bool → Type 0) (len : ℕ) (c : Context) (b : Bool) → AnswersBy kind says len c b → AnswersBy kind (λ len c b. Unit {0}) len c b
answers_by Untold says len c b is = tt
answers_by (BySize limit) says len c b is = is
answers_by First says len c b is = tt

said_by : (asking : Asking) (c : Context) (answer : Option Bool) (len : ℕ) → SaidAt asking c answer len → SaidAt (asked_by asking.kind) c answer len
said_by asking c None len is = λ told. tt
said_by asking c (Some b) len is = λ told. answers_by asking.kind asking.answer len c b (is told)

appended_by : (asking : Asking) (c : Context) (answer : Option Bool) (before now : Vacancy) (window : Window) (files : Files) (added : List Change)
    → Appended asking c answer before now window files added → Appended (asked_by asking.kind) c answer before now window files added
appended_by asking c answer before now window files added is = record {
  good = is.good;
  vacant = is.vacant;
  said = said_by asking c answer (asked_length asking.kind window.active files added) is.said;
  ends = is.ends;
}

appended_to_by : (asking : Asking) (c : Context) (answer : Option Bool) (archives : Option (List (List ℕ))) (before now : Keeping) (path : List ℕ) (old new : Disk) → before.archives ≡ archives
    → AppendedTo asking c answer before now path old new → AppendedTo (asked_by asking.kind) c answer before now path old new
appended_to_by asking c answer None before now path old new none is = rw none tt
appended_to_by asking c answer (Some older) before now path old new some is =
    let kept = rw some at is in
    rw some (λ stands. calls_map old new _ _ (kept stands) (λ added tells told one. appended_by asking c answer (before.vacant path) (now.vacant path) (around older (before.waiting path) path) (files_of old) added one))

whole_by : (kind : Kind) (path : List ℕ) (how : Open) (text : List ℕ) (asking : Asking) (c : Context) (answer : Option Bool) (Takes : Files → List Change → Type 0) (files : Files) (added : List Change)
    → WholeBy kind path how text asking c answer Takes files added → WholeBy kind path how text (asked_by asking.kind) c answer Takes files added
whole_by Untold path how text asking c answer Takes files added is = tt
whole_by (BySize limit) path how text asking c answer Takes files added is = (is.0, is.1, is.2, is.3, (said_by asking c answer _ is.4.0, is.4.1))
whole_by First path how text asking c answer Takes files added is =
    let took = is.3 in
    (is.0, is.1, is.2, (took.0, took.1, took.2, took.3, took.4, said_by asking c answer _ took.5, took.6, took.7), is.4, is.5)

whole_told : (reading : Option Reading) (r : Record) (c : Context) (asking : Asking) (keeping : Keeping) (how : Open) (path : List ℕ) (result : Result (Unit {0}) LogError) (answer : Option Bool) (old new : Disk)
    → Whole reading r c asking keeping how path result answer old new → Whole reading r c (asked_by asking.kind) keeping how path result answer old new
whole_told None r c asking keeping how path result answer old new is = tt
whole_told (Some read) r c asking keeping how path (Err fault) answer old new is = λ told. tt
whole_told (Some read) r c asking keeping how path (Ok u) answer old new is = λ told.
    let all = is told in
    (all.0, calls_map old new _ _ all.1 (λ added tells done one. whole_by asking.kind path how (read r c) asking c answer (TakesAway keeping path) (files_of old) added one))

module _ (reading : Option Reading) (r : Record) (c : Context) (asking : Asking) (before now : Keeping) (append : Bool) (path : List ℕ) (result : Result (Unit {0}) LogError) (old new : Disk) where
  pub answered_by : (answer : Option Bool) → AnsweredAppend reading r c asking answer before now append path result old new
      → AnsweredAppend reading r c (asked_by asking.kind) answer before now append path result old new
  answered_by answer is = record {
    kept = λ on. appended_to_by asking c answer before.archives before now path old new refl (is.kept on);
    whole = whole_told reading r c asking before (way append) path result answer old new is.whole;
    quiet = is.quiet;
    opens = is.opens;
    behind = is.behind;
    unrefused = is.unrefused;
  }

  any_fault : (fails : Failing) (answer : Result (Unit {0}) LogError) → IfErr answer (FailsBy fails r c path old new) → IfErr answer (FailsBy (λ r c fault. Unit {0}) r c path old new)
  any_fault fails (Ok u) is = tt
  any_fault fails (Err fault) (inl own) = inl own
  any_fault fails (Err fault) (inr made) = inr (tt, made.1)

  pub made_by : (fails : Failing) → MadeAppend reading fails r c asking before path result old new → MadeAppend reading (λ r c fault. Unit {0}) r c (asked_by asking.kind) before path result old new
  made_by fails is = record {
    adds = is.adds;
    memory = is.memory;
    copies = is.copies;
    unrefused = is.unrefused;
    fault = is.fault;
    faults = λ told. any_fault fails result (is.faults told);
    cost = is.cost;
    cause = is.cause;
  }

  pub grown_by : GrownAppend reading r c asking before now path result old new → GrownAppend reading r c (asked_by asking.kind) before now path result old new
  grown_by is = record { segments = is.segments; shown = is.shown }

-- the sink after an append, by what its other clauses say
pub sink_appended : (rendering : Option (Record → Context → List Run)) (r : Record) (c : Context) (asking : Asking) (kind : Kind) (fails : Failing) (answer : Option Bool) (result : Result (Unit {0}) LogError) (append : Bool)
    (settings k0 k1 : Keeping) (path path1 : List ℕ) (opening d0 d1 : Disk) (good0 : ∥ GoodSince settings k0 path append opening d0 ∥₁) (good1 : ∥ GoodSince settings k1 path1 append opening d1 ∥₁)
    → (IsTrue d0.tells → length opening.changes ≤ length d0.changes) → path1 ≡ path → kind ≡ asking.kind
    → AnsweredAppend (plain_reading rendering) r c asking answer k0 k1 append path result d0 d1
    → LimitedAppend k0 k1 path (way append) d0 d1
    → (IsTrue k0.is_built_in → MadeAppend (plain_reading rendering) fails r c asking k0 path result d0 d1)
    → (IsTrue append → GrownAppend (plain_reading rendering) r c asking k0 k1 path result d0 d1)
    → SinkAppended r c result
    (rolling_sink rendering (record { path = path; append = append; reading = plain_reading rendering; kind = asking.kind; settings = settings; keeping = k0; opening = opening; disk = d0; good = good0 }))
    (rolling_sink rendering (record { path = path1; append = append; reading = plain_reading rendering; kind = kind; settings = settings; keeping = k1; opening = opening; disk = d1; good = good1 }))
sink_appended rendering r c asking kind fails answer result append settings k0 k1 path path1 opening d0 d1 good0 good1 later here told answered limited made grown =
    let reading = plain_reading rendering in
    record {
      gains = since_gains reading reading r c result k0.is_built_in k1.is_built_in path path1 opening opening d0 d1 refl limited.names.is_built_in here refl later limited.store (λ built. (made built).adds);
      fault = λ is.
          let one = both_true (is_some rendering) (is_told asking.kind && k0.is_built_in) is in
          let two = both_true (is_told asking.kind) k0.is_built_in one.1 in
          (made two.1).fault two.0 (known_reading rendering one.0);
      built_in = rw (told, limited.names.is_built_in) refl;
      rolled = record {
        goes_on = record {
          path = here;
          mode = refl;
          reading = refl;
          kind = told;
          settings = refl;
          opening = refl;
          names = limited.names;
          store = limited.store;
        };
        answer = answer;
        answered = answered_by reading r c asking k0 k1 append path result d0 d1 answer answered;
        limited = limited;
        made = λ built. made_by reading r c asking k0 k1 append path result d0 d1 fails (made built);
        grown = λ on. grown_by reading r c asking k0 k1 append path result d0 d1 (grown on);
      };
      plain = tt;
    }

-- the same keeping keeps the same names
pub same_names : (before now : Keeping) → now ≡ before → SameNames before now
same_names before now same = subst (SameNames before) (sym same) (record {
  is_built_in = refl;
  renames = refl;
  removes = refl;
  archives = refl;
  waiting = refl;
  moves = λ path none. refl;
  told = λ path some. some;
})

-- The laws of rolled files

kept_end : (archives : Option (List (List ℕ))) (file : RolledFile) → file.settings.archives ≡ archives → GoodSince file.settings file.keeping file.path file.append file.opening file.disk → KeepsItsEnd file
kept_end None file none since = rw none tt
kept_end (Some older) file some since =
    rw some (λ on stands copies.
    let kept = rw some at (since_renamed file.settings file.keeping file.path file.append file.opening file.disk since copies) in
    calls_map file.opening file.disk _ _ (kept on stands) (λ added tells told good. good_end (around older (file.settings.waiting file.path) file.path) (files_of file.opening) added good))

pub keeps_its_end : (file : RolledFile) → ∥ KeepsItsEnd file ∥₁
keeps_its_end file = ∥∥₁_map file.good (λ (since : GoodSince file.settings file.keeping file.path file.append file.opening file.disk). kept_end file.settings.archives file refl since)

pub goes_on_still : (file : RolledFile) → GoesOn file file
goes_on_still file = record {
  path = refl;
  mode = refl;
  reading = refl;
  kind = refl;
  settings = refl;
  opening = refl;
  names = same_names file.keeping file.keeping refl;
  store = calls_none file.disk (λ added. Unit {0}) tt;
}

pub goes_on_joined : (before between after : RolledFile) → GoesOn before between → GoesOn between after → GoesOn before after
goes_on_joined before between after one other = record {
  path = other.path ∙ one.path;
  mode = other.mode ∙ one.mode;
  reading = other.reading ∙ one.reading;
  kind = other.kind ∙ one.kind;
  settings = other.settings ∙ one.settings;
  opening = other.opening ∙ one.opening;
  names = names_join before.keeping between.keeping after.keeping one.names other.names;
  store = calls_join before.disk between.disk after.disk (λ added. Unit {0}) (λ added. Unit {0}) (λ added. Unit {0}) one.store other.store (λ xs ys tells told a b. tt);
}

-- the rolled file of an appender goes on, if it is the same by the same settings
pub goes_on_by : {S P E : Type 0} {store : Store.Ghosts S} {keep : Keep.Ghosts P S} (kind : P → Kind) (rendering : E → Option (Record → Context → List Run))
    (before now : RollingFileAppender S P E store keep) → IsSameFile before now → kind (policy_of now) ≡ kind (policy_of before)
    → SameNames (keep.keeping (policy_of before)) (keep.keeping (policy_of now)) → Calls (store.disk (store_of before)) (store.disk (store_of now)) (λ added. Unit {0})
    → GoesOn (rolled_file kind (rendering (encoder_of before)) before) (rolled_file kind (rendering (encoder_of now)) now)
goes_on_by {store = store} {keep = keep} kind rendering before now same told names calls = record {
  path = same.0;
  mode = same.1;
  reading = ap (λ e. plain_reading (rendering e)) same.4;
  kind = told;
  settings = ap keep.keeping same.3;
  opening = ap store.disk same.2;
  names = names;
  store = calls;
}
