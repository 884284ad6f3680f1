-- What runs keep.
use Rattle.std.proofs.Common.{◌≡◌, ◌<◌, ◌^◌, ◌-◌, ◌+◌, ◌∙◌, ℕ, List, [], ◌∷◌, ◌++◌, Bool, Option, Some, None, All, Result, Ok, Err, OnOk, OnErr, length, map, refl, sym, ap, subst, arith, append-nil}
use Rattle.std.specs.Option.{option_to_list}
use Rattle.std.specs.List.{flat_map}
use Rattle.std.proofs.lemmas.List.Elements.{All-head, All-tail}
use Rattle.log4rs_rolling.specs.Change.{Change, Files, replay, written}
use Rattle.log4rs_restarts.specs.declared.run.Act.{Act}
use Rattle.log4rs_rolling.specs.declared.store.Open.TheVariants.{Append}
use Rattle.log4rs_rolling.specs.Window.{Window, GoodWithin, NoCopies, AreDistinct, Anywhere, contents, names, drops_between}
use Rattle.log4rs_rolling.specs.AtOpening.{found_moves}
use Rattle.log4rs_rolling.specs.Moves.{MovedAll, MovedPartly, each_to_the_older, if_there}
use Rattle.log4rs_rolling.proofs.Written.{written-append}
use Rattle.log4rs_rolling.proofs.Stepping.{within_up}
use Rattle.log4rs_rolling.specs.Appends.{Reading}
use Rattle.log4rs_rolling.specs.Segments.{Segments, Shows}
use Rattle.log4rs_rolling.specs.Asking.{BySize}
use Rattle.log4rs_rolling.specs.ArchiveEnds.{longer, AreAt, EndsAt, ends, older_of}
use Rattle.log4rs_rolling.proofs.Growing.{opens_show}
use Rattle.log4rs_rolling.proofs.Windows.{Good-within, NoCopies-front, NoCopies-back, GoodWithin-behind, opens_keep, opens_silent}
use Rattle.log4rs_rolling.proofs.Ending.{EndsAt-append, EndsAt-last, none_yes, opens_end}
use Rattle.log4rs_rolling.proofs.Calls.{replay-append}
use Rattle.log4rs_restarts.specs.Rotations.{found_in, rotations_begun, waiting_in, yeses}
use Rattle.log4rs_restarts.specs.Acts.{RunDone, changes_before, changes_in, all_changes, BuiltIn, asks, changes_of, answers_of, cuts_of, AreAmong}
use Rattle.log4rs_restarts.specs.Segmented.{RunsShow, EffectsShow, SegmentsIn, WentWell, IsWell, grown_by}
use Rattle.log4rs_restarts.specs.Runs.{IsRun, AreRuns, all_cuts, Ran}
use Rattle.log4rs_restarts.specs.declared.settings.TriggerSettings.{TriggerSettings}
use Rattle.log4rs_restarts.specs.declared.settings.TriggerSettings.TheVariants.{Size, OnStartUp, Time}
use Rattle.log4rs_restarts.specs.declared.run.RunReport.{RunReport}
use Rattle.log4rs_restarts.specs.declared.run.Run.{Run}
use Rattle.log4rs_restarts.proofs.Behind.{segments_behind}
use Rattle.log4rs_restarts.proofs.Late.{alone}
use Rattle.log4rs_restarts.proofs.Showing.{effects_show, begins_kind}
use Rattle.log4rs_restarts.proofs.Stepping.{plus_is, within_join, yeses-append, effects_good, effects_end, among_front, among_back}

-- nothing is the only beginning of nothing
only_none : (files : Files) (added : List Change) → MovedPartly files [] added → added ≡ []
only_none files [] partly = refl
only_none files (x ∷ xs) partly = absurd (clash partly.1) where
  clash : x ∷ (xs ++ partly.0) ≡ [] → ⊥
  clash e = cc

-- before its file is opened a run drops at most one archive, and none where no file waits
waits_within : (w : Window) (files : Files) (asked : List Change) (o : Option (List ℕ)) → MovedPartly files (found_moves (Some w.archives) o files) asked → GoodWithin 1 w files asked
    → GoodWithin (length (contents files (option_to_list o))) w files asked
waits_within w files asked None partly one = subst (GoodWithin 0 w files) (sym (only_none files asked partly)) tt
waits_within w files asked (Some name) partly one = by (files name) refl where
  by : (v : Option (List ℕ)) → files name ≡ v → GoodWithin (length (contents files (name ∷ []))) w files asked
  by None is =
      let none = only_none files asked (subst (λ (v : Option (List ℕ)). MovedPartly files (if_there v ((name, name) ∷ each_to_the_older (w.archives ++ name ∷ []))) asked) is partly) in
      subst (GoodWithin (length (contents files (name ∷ []))) w files) (sym none) tt
  by (Some x) is = subst (λ (v : Option (List ℕ)). GoodWithin (length (option_to_list v ++ [])) w files asked) (sym is) one

began_moves : {E : Type 0} (r : Result Unit E) (files : Files) (moves : List (List ℕ × List ℕ)) (asked : List Change) → OnOk r (MovedAll files moves asked) → OnErr r (MovedPartly files moves asked) → MovedPartly files moves asked
began_moves (Ok u) files moves asked all partly = ([], subst (MovedAll files moves) (sym (append-nil asked)) all, λ clean. tt)
began_moves (Err e) files moves asked all partly = partly

asked_within : {Starts : BuiltIn → Type 0} (reading : Option Reading) (w : Window) (files : Files) {acts : List Act} (report : RunReport) (run : RunDone) → IsRun Starts reading w files acts report run → NoCopies run.asked
    → GoodWithin (waiting_in w files) w files run.asked
asked_within reading w files report run is clean =
    waits_within w files run.asked w.waiting (began_moves report.opening files (found_moves (Some w.archives) w.waiting files) run.asked is.moved is.partly)
    (within_up (drops_between Anywhere run.vacancy) 1 w files run.asked (omega arith) (is.asked.0.0.1 clean))

run_within : {Starts : BuiltIn → Type 0} (reading : Option Reading) (w : Window) (files : Files) {acts : List Act} (report : RunReport) (run : RunDone)
    → AreDistinct (names w) → IsRun Starts reading w files acts report run → NoCopies (changes_in run) → GoodWithin (waiting_in w files + yeses report.answers.items) w files (changes_in run)
run_within reading w files report run distinct is clean =
    let front : NoCopies (changes_before run) = NoCopies-front (changes_before run) (changes_of run.effects) clean in
    subst (λ (answers : List Bool). GoodWithin (waiting_in w files + yeses answers) w files (changes_in run)) (sym is.answers)
    (subst (λ (n : ℕ). GoodWithin n w files (changes_in run)) (plus_is (waiting_in w files) (yeses (answers_of run.effects)))
    (within_join (waiting_in w files) (yeses (answers_of run.effects)) w files (changes_before run) (changes_of run.effects)
    (GoodWithin-behind (waiting_in w files) w files run.asked run.opening (asked_within reading w files report run is (NoCopies-front run.asked run.opening front))
    (opens_keep w (replay files run.asked) run.opening distinct is.opens))
    (effects_good reading w (replay files (changes_before run)) run.effects distinct is.effects is.vacant (NoCopies-back (changes_before run) (changes_of run.effects) clean))))

-- the decisions of the triggers of all runs, in order
abbrev all_answers : List RunReport → List Bool
all_answers reports = flat_map (λ (report : RunReport). report.answers.items) reports

sums : (may one more others all : ℕ) → all ≡ one + others → (may + one) + (more + others) ≡ (may + more) + all
sums may one more others all is = omega arith

pub runs_within : (trigger : TriggerSettings) (reading : Option Reading) (w : Window) (files : Files) (runs : List Run) (reports : List RunReport) (dones : List RunDone)
    → AreDistinct (names w) → AreRuns trigger reading w files runs reports dones → NoCopies (all_changes dones) → GoodWithin (rotations_begun w files (map changes_in dones) reports) w files (all_changes dones)
runs_within trigger reading w files [] [] [] distinct are clean = tt
runs_within trigger reading w files [] [] (done ∷ dones) distinct are clean = absurd are
runs_within trigger reading w files [] (report ∷ reports) dones distinct are clean = absurd are
runs_within trigger reading w files (run ∷ runs) [] dones distinct are clean = absurd are
runs_within trigger reading w files (run ∷ runs) (report ∷ reports) [] distinct are clean = absurd are
runs_within trigger reading w files (run ∷ runs) (report ∷ reports) (done ∷ dones) distinct are clean =
    let may = waiting_in w files in
    let one = yeses report.answers.items in
    let more = found_in w (replay files (changes_in done)) (map changes_in dones) in
    let others = yeses (all_answers reports) in
    subst (λ (n : ℕ). GoodWithin n w files (changes_in done ++ all_changes dones)) (sums may one more others (yeses (report.answers.items ++ all_answers reports)) (yeses-append report.answers.items (all_answers reports) ∙ plus_is one others))
    (subst (λ (n : ℕ). GoodWithin n w files (changes_in done ++ all_changes dones)) (plus_is (may + one) (more + others))
    (within_join (may + one) (more + others) w files (changes_in done) (all_changes dones)
    (run_within reading w files report done distinct are.0 (NoCopies-front (changes_in done) (all_changes dones) clean))
    (runs_within trigger reading w (replay files (changes_in done)) runs reports dones distinct are.2 (NoCopies-back (changes_in done) (all_changes dones) clean))))

distinct_at : (w : Window) → AreDistinct (names w) → AreDistinct (older_of w ++ w.active ∷ [])
distinct_at w distinct = distinct

run_ends : {Starts : BuiltIn → Type 0} (reading : Option Reading) (w : Window) (files : Files) {acts : List Act} (report : RunReport) (run : RunDone) (places : List ℕ) (at : ℕ)
    → AreDistinct (names w) → IsRun Starts reading w files acts report run → NoCopies (changes_in run)
    → AreAt places at (ends w files) → AreAmong places (cuts_of w.active at run.effects) → EndsAt places w files at (changes_in run)
run_ends reading w files report run places at distinct is clean start among =
    let front : NoCopies (changes_before run) = NoCopies-front (changes_before run) (changes_of run.effects) clean in
    let silent : written w.active run.asked ≡ [] = is.asked.0.0.0 in
    let still : longer (written w.active run.asked) at ≡ at = ap (λ (b : List ℕ). longer b at) silent in
    let asked : EndsAt places w files at run.asked = is.asked.1 (NoCopies-front run.asked run.opening front) places at start (λ e. none_yes e) in
    let first : EndsAt places w files at (changes_before run) =
    EndsAt-append places w files at run.asked run.opening asked
    (subst (λ (n : ℕ). EndsAt places w (replay files run.asked) n run.opening) (sym still)
    (opens_end w (replay files run.asked) run.opening places at (distinct_at w distinct) is.opens
    (subst (λ (n : ℕ). AreAt places n (ends w (replay files run.asked))) still (EndsAt-last places w files at run.asked asked)))) in
    let same : longer (written w.active (changes_before run)) at ≡ at =
    ap (λ (b : List ℕ). longer b at)
    (written-append w.active run.asked run.opening ∙ ap (λ (b : List ℕ). b ++ written w.active run.opening) silent ∙ opens_silent w.active Append run.opening is.opens) in
    EndsAt-append places w files at (changes_before run) (changes_of run.effects) first
    (subst (λ (n : ℕ). EndsAt places w (replay files (changes_before run)) n (changes_of run.effects)) (sym same)
    (effects_end reading w (replay files (changes_before run)) run.effects places at distinct is.effects (NoCopies-back (changes_before run) (changes_of run.effects) clean)
    (subst (λ (n : ℕ). AreAt places n (ends w (replay files (changes_before run)))) same (EndsAt-last places w files at (changes_before run) first)) among))

pub runs_end : (trigger : TriggerSettings) (reading : Option Reading) (w : Window) (files : Files) (runs : List Run) (reports : List RunReport) (dones : List RunDone) (places : List ℕ) (at : ℕ)
    → AreDistinct (names w) → AreRuns trigger reading w files runs reports dones → NoCopies (all_changes dones)
    → AreAt places at (ends w files) → AreAmong places (all_cuts w.active at dones) → EndsAt places w files at (all_changes dones)
runs_end trigger reading w files [] [] [] places at distinct are clean start among = start
runs_end trigger reading w files [] [] (done ∷ dones) places at distinct are clean start among = absurd are
runs_end trigger reading w files [] (report ∷ reports) dones places at distinct are clean start among = absurd are
runs_end trigger reading w files (run ∷ runs) [] dones places at distinct are clean start among = absurd are
runs_end trigger reading w files (run ∷ runs) (report ∷ reports) [] places at distinct are clean start among = absurd are
runs_end trigger reading w files (run ∷ runs) (report ∷ reports) (done ∷ dones) places at distinct are clean start among =
    let cuts = cuts_of w.active at done.effects in
    let n = longer (written w.active (changes_in done)) at in
    let first : EndsAt places w files at (changes_in done) =
    run_ends reading w files report done places at distinct are.0 (NoCopies-front (changes_in done) (all_changes dones) clean) start
    (among_front places cuts (all_cuts w.active n dones) among) in
    EndsAt-append places w files at (changes_in done) (all_changes dones) first
    (runs_end trigger reading w (replay files (changes_in done)) runs reports dones places n distinct are.2 (NoCopies-back (changes_in done) (all_changes dones) clean)
    (EndsAt-last places w files at (changes_in done) first) (among_back places cuts (all_cuts w.active n dones) among))

-- Segments

run_shows : {Starts : BuiltIn → Type 0} (limit : ℕ) (read : Reading) (w : Window) (files : Files) {acts : List Act} (report : RunReport) (run : RunDone) (segments : Segments)
    → ((t : BuiltIn) → Starts t → (asks t).kind ≡ BySize limit) → w.waiting ≡ None → limit < 2 ^ 64 - 1 → 0 < length w.archives → AreDistinct (names w) → IsRun Starts (Some read) w files acts report run
    → WentWell report → Shows segments w.archives w.active files
    → EffectsShow limit read segments w (replay files (changes_before run)) run.effects × Shows (grown_by limit read segments run.effects) w.archives w.active (replay files (changes_in run))
run_shows {Starts = Starts} limit read w files report run segments kinds alone_now below some distinct is well shows =
    let alike : changes_before run ≡ run.opening = ap (λ (c : List Change). c ++ run.opening) (is.idle alone_now) in
    let opened : Shows segments w.archives w.active (replay files (changes_before run)) =
    subst (λ (c : List Change). Shows segments w.archives w.active (replay files c)) (sym alike) (opens_show segments w.archives w.active files run.opening (alone w distinct) is.opens shows) in
    let rest = effects_show limit read Starts w (replay files (changes_before run)) run.effects segments kinds alone_now below some distinct is.effects is.triggers (subst (All IsWell) is.outcomes well.outcomes) opened in
    (rest.0, subst (λ (f : Files). Shows (grown_by limit read segments run.effects) w.archives w.active f) (sym (replay-append files (changes_before run) (changes_of run.effects))) rest.1)

runs_show : (limit : ℕ) (read : Reading) (w : Window) (files : Files) (runs : List Run) (reports : List RunReport) (dones : List RunDone) (segments : Segments)
    → w.waiting ≡ None → limit < 2 ^ 64 - 1 → 0 < length w.archives → AreDistinct (names w) → AreRuns (Size limit) (Some read) w files runs reports dones
    → All WentWell reports → Shows segments w.archives w.active files → RunsShow limit read segments w files dones
runs_show limit read w files [] [] [] segments alone_now below some distinct are well shows = tt
runs_show limit read w files [] [] (done ∷ dones) segments alone_now below some distinct are well shows = absurd are
runs_show limit read w files [] (report ∷ reports) dones segments alone_now below some distinct are well shows = absurd are
runs_show limit read w files (run ∷ runs) [] dones segments alone_now below some distinct are well shows = absurd are
runs_show limit read w files (run ∷ runs) (report ∷ reports) [] segments alone_now below some distinct are well shows = absurd are
runs_show limit read w files (run ∷ runs) (report ∷ reports) (done ∷ dones) segments alone_now below some distinct are well shows =
    let first = run_shows limit read w files report done segments (begins_kind limit) alone_now below some distinct are.0 (All-head WentWell report reports well) shows in
    (first.0, runs_show limit read w (replay files (changes_in done)) runs reports dones (grown_by limit read segments done.effects) alone_now below some distinct are.2 (All-tail WentWell report reports well) first.1)

segments_in : (trigger : TriggerSettings) (reading : Option Reading) (w : Window) (files : Files) (runs : List Run) (reports : List RunReport) (dones : List RunDone)
    → AreDistinct (names w) → AreRuns trigger reading w files runs reports dones → SegmentsIn trigger reading w files reports dones
segments_in (Size limit) None w files runs reports dones distinct are = tt
segments_in (Size limit) (Some read) w files runs reports dones distinct are =
    λ alone_now below some well segments shows. runs_show limit read w files runs reports dones segments alone_now below some distinct are well shows
segments_in (OnStartUp min_size) reading w files runs reports dones distinct are = tt
segments_in (Time config) reading w files runs reports dones distinct are = tt

pub ran : (trigger : TriggerSettings) (reading : Option Reading) (w : Window) (files : Files) (runs : List Run) (reports : List RunReport) (dones : List RunDone)
    → AreDistinct (names w) → AreRuns trigger reading w files runs reports dones → Ran trigger reading w files runs reports (all_changes dones)
ran trigger reading w files runs reports dones distinct are =
    let within = runs_within trigger reading w files runs reports dones distinct are in
    record {
      done = dones;
      all = refl;
      are = are;
      good = λ clean. Good-within (rotations_begun w files (map changes_in dones) reports) w files (all_changes dones) (within clean);
      drops = within;
      ends = λ clean places at start among. runs_end trigger reading w files runs reports dones places at distinct are clean start among;
      segments = segments_in trigger reading w files runs reports dones distinct are;
      behind = segments_behind trigger reading w.archives w.waiting w.active files runs reports dones distinct are;
    }
