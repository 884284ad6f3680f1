-- The segments that runs leave whose rollings go on in the background.
use Rattle.std.proofs.Common.{◌≡◌, ◌≢◌, ◌≤◌, ◌<◌, ◌^◌, ◌-◌, ◌∙◌, Bool, true, false, if◌then◌else◌, ℕ, suc, List, [], ◌∷◌, ◌++◌, nat_eq, Option, Some, None, Result, Ok, Err, All, IsOk, IsSome, OnOk, refl, sym, ap, subst, length, reverse, arith}
use Rattle.std.specs.Option.{option_to_list}
use Rattle.std.specs.Str.{bytes_eq}
use Rattle.std.proofs.lemmas.Bool.Decides.{nat_tests}
use Rattle.std.proofs.lemmas.List.Elements.{All-head, All-tail}
use Rattle.std.proofs.lemmas.Slice.Eq.{bytes_eq-Decides}
use Rattle.log4rs_rolling.specs.Change.{Files, replay}
use Rattle.log4rs_rolling.proofs.Calls.{replay-append}
use Rattle.log4rs_rolling.specs.declared.store.Open.TheVariants.{Append}
use Rattle.log4rs_rolling.specs.Appends.{Reading}
use Rattle.log4rs_rolling.specs.Asking.{BySize}
use Rattle.log4rs_rolling.specs.ArchiveEnds.{older_of}
use Rattle.log4rs_rolling.specs.Segments.{Segments, nth, Holds, Shows, begun}
use Rattle.log4rs_rolling.specs.Window.{NoGaps, Window, around, contents, names, AreDistinct, NotAmong, Vacancy, Vacant, Anywhere, VacantAt, OfAnother}
use Rattle.log4rs_rolling.specs.SegmentsShown.{ShowsIn, standing, without}
use Rattle.log4rs_rolling.proofs.Growing.{nth_gap}
use Rattle.log4rs_rolling.proofs.Parts.{opens_vacant}
use Rattle.log4rs_rolling.proofs.Standing.{without_waiting}
use Rattle.log4rs_rolling.proofs.Starting.{begins}
use Rattle.log4rs_rolling.proofs.Windows.{not_last}
use Rattle.log4rs_restarts.specs.Acts.{BuiltIn, RunDone, asks, at_rest, changes_before, changes_in, changes_of}
use Rattle.log4rs_restarts.specs.Runs.{AreRuns, IsRun}
use Rattle.log4rs_restarts.specs.Segmented.{EffectsShowIn, IsWell, RunsShowIn, SegmentsBehind, WentWell, grown_by}
use Rattle.log4rs_restarts.specs.declared.run.Act.{Act}
use Rattle.log4rs_restarts.specs.declared.run.Run.{Run}
use Rattle.log4rs_restarts.specs.declared.run.RunReport.{RunReport}
use Rattle.log4rs_restarts.specs.declared.settings.TriggerSettings.{TriggerSettings}
use Rattle.log4rs_restarts.specs.declared.settings.TriggerSettings.TheVariants.{Size, OnStartUp, Time}
use Rattle.log4rs_restarts.proofs.Showing.{begins_kind, effects_show_in, effects_vacant}
use Rattle.log4rs_restarts.proofs.Stepping.{vacant_to}

-- The same segments by two names

equal : (a b : ℕ) → nat_eq a b ≡ true → a ≡ b
equal a b is = grind (arith, nat_tests)

different : (a b : ℕ) → nat_eq a b ≡ false → a < suc b → a < b
different a b is below = grind (arith, nat_tests)

-- two lists that the same files hold agree so far
agree : (f : Files) (ns xs ys : List (List ℕ)) → Holds f ns xs → Holds f ns ys → (i : ℕ) → i < length ns → nth i xs ≡ nth i ys
agree f [] xs ys a b i below = absurd (omega arith)
agree f (n ∷ ns) xs ys a b i below = by (nat_eq i (length ns)) refl (λ less. agree f ns xs ys a.1 b.1 i less) where
  by : (v : Bool) → nat_eq i (length ns) ≡ v → (i < length ns → nth i xs ≡ nth i ys) → nth i xs ≡ nth i ys
  by true is later =
      let e : i ≡ length ns = equal i (length ns) is in
      ap (λ (k : ℕ). nth k xs) e ∙ sym a.0 ∙ b.0 ∙ sym (ap (λ (k : ℕ). nth k ys) e)
  by false is later = later (different i (length ns) is below)

agreed : (g : Files) (ns xs ys : List (List ℕ)) → ((i : ℕ) → i < length ns → nth i xs ≡ nth i ys) → Holds g ns xs → Holds g ns ys
agreed g [] xs ys same holds = tt
agreed g (n ∷ ns) xs ys same holds =
    (holds.0 ∙ same (length ns) (omega arith), agreed g ns xs ys (λ i below. same i (omega arith)) holds.1)

-- names that hold segments have no gap
held_gapless : (f : Files) (ns closed : List (List ℕ)) → Holds f ns closed → NoGaps f ns
held_gapless f [] closed holds = tt
held_gapless f (n ∷ []) closed holds = tt
held_gapless f (n ∷ m ∷ ns) closed holds = (λ none. holds.0 ∙ nth_gap (length ns) closed (sym holds.1.0 ∙ none), held_gapless f (m ∷ ns) closed holds.1)

-- The names but one without a file

contents_without : (f : Files) (x active : List ℕ) (ns : List (List ℕ)) → NotAmong active ns → (x ≢ active → f x ≡ None) → contents f (without x ns) ≡ contents f ns
contents_without f x active [] other vacant = refl
contents_without f x active (n ∷ ns) other vacant = by (bytes_eq x n) refl (contents_without f x active ns other.1 vacant) where
  by : (b : Bool) → bytes_eq x n ≡ b → contents f (without x ns) ≡ contents f ns → contents f (if b then ns else n ∷ without x ns) ≡ contents f (n ∷ ns)
  by true is later =
      let e : x ≡ n = (bytes_eq-Decides x n).0 is in
      let none : f n ≡ None = subst (λ (p : List ℕ). f p ≡ None) e (vacant (λ same. other.0 (sym same ∙ e))) in
      sym (ap (λ (v : Option (List ℕ)). option_to_list v ++ contents f ns) none)
  by false is later = ap (λ (c : List (List ℕ)). option_to_list (f n) ++ c) later

length_without : (x : List ℕ) (ns : List (List ℕ)) → length ns ≤ suc (length (without x ns))
length_without x [] = omega arith
length_without x (n ∷ ns) = by (bytes_eq x n) (length_without x ns) where
  by : (b : Bool) → length ns ≤ suc (length (without x ns)) → length (n ∷ ns) ≤ suc (length (if b then ns else n ∷ without x ns))
  by true less = omega arith
  by false less = omega arith

one_longer : (ns : List (List ℕ)) (name : List ℕ) → length (ns ++ name ∷ []) ≡ suc (length ns)
one_longer [] name = refl
one_longer (n ∷ ns) name = ap (λ (k : ℕ). suc k) (one_longer ns name)

-- they hold all that is there, and are as many as the archives at least
standing_all : (older : List (List ℕ)) (waiting path : List ℕ) (first : Vacancy) (f : Files) → let w = around older (Some waiting) path in
    AreDistinct (names w) → Vacant first path f → (contents f (standing w first) ≡ contents f (older_of w)) × (length older ≤ length (standing w first))
standing_all older waiting path Anywhere f distinct vacant = let more = one_longer older waiting in (refl, omega arith)
standing_all older waiting path (VacantAt x) f distinct vacant =
    let all = older ++ waiting ∷ [] in
    let more : length all ≡ suc (length older) = one_longer older waiting in
    let less : length all ≤ suc (length (without x all)) = length_without x all in
    (contents_without f x path all (not_last all path distinct) vacant, omega arith)
standing_all older waiting path OfAnother f distinct vacant = absurd vacant

-- the archives that show the segments of a start show those that were shown then
from_begun : (older : List (List ℕ)) (waiting path : List ℕ) (first : Vacancy) (f g : Files) (segments : Segments) → let w = around older (Some waiting) path in
    AreDistinct (names w) → Vacant first path f → ShowsIn segments w first f → Shows (begun (older_of w) path f) older path g → Shows segments older path g
from_begun older waiting path first f g segments distinct vacant shows start =
    let w : Window = around older (Some waiting) path in
    let ns = standing w first in
    let all = standing_all older waiting path first f distinct vacant in
    let began : Holds f ns (reverse (contents f ns)) = (begins ns path f (held_gapless f ns segments.closed shows.closed)).closed in
    let same : Holds f ns (reverse (contents f (older_of w))) = subst (λ (c : List (List ℕ)). Holds f ns (reverse c)) all.0 began in
    let fits : length older ≤ length ns = all.1 in
    record {
      closed = agreed g older (reverse (contents f (older_of w))) segments.closed (λ i below. agree f ns (reverse (contents f (older_of w))) segments.closed same shows.closed i (omega arith)) start.closed;
      current = start.current ∙ shows.current;
    }

-- Runs

ok_so : {E : Type 0} (X : Type 0) (r : Result Unit E) → IsOk r → OnOk r X → X
ok_so X (Ok u) ok x = x
ok_so X (Err e) ok x = absurd (failed e ok) where
  failed : {E : Type 0} (e : E) → IsOk {T = Unit} {E = E} (Err e) → ⊥
  failed e h = cc

-- what a run shows, and what stands at its end
record RunShows (limit : ℕ) (read : Reading) (segments : Segments) (w : Window) (files : Files) (run : RunDone) : Type 0 where
  before : Shows segments w.archives w.active (replay files (changes_before run))
  effects : EffectsShowIn limit read segments w (replay files (changes_before run)) run.effects
  after : ShowsIn (grown_by limit read segments run.effects) w (vacant_to (at_rest w) run.effects) (replay files (changes_in run))
  vacant : Vacant (vacant_to (at_rest w) run.effects) w.active (replay files (changes_in run))

run_shows_in : {Starts : BuiltIn → Type 0} (limit : ℕ) (read : Reading) (older : List (List ℕ)) (waiting path : List ℕ) (files : Files) {acts : List Act} (report : RunReport) (run : RunDone) (segments : Segments) (first : Vacancy)
    → let w = around older (Some waiting) path in
    ((t : BuiltIn) → Starts t → (asks t).kind ≡ BySize limit) → limit < 2 ^ 64 - 1 → AreDistinct (names w) → IsRun Starts (Some read) w files acts report run → WentWell report
    → Vacant first path files → ShowsIn segments w first files → NoGaps files older → RunShows limit read segments w files run
run_shows_in {Starts = Starts} limit read older waiting path files report run segments first kinds below distinct is well vacant shows gapless =
    let w : Window = around older (Some waiting) path in
    let f1 = replay files (changes_before run) in
    let start = ok_so (NoGaps files older → Shows (begun (older_of w) path files) older path f1) report.opening well.opening is.shows gapless in
    let opened : Shows segments older path f1 = from_begun older waiting path first files f1 segments distinct vacant shows start in
    let rest : ShowsIn segments w (VacantAt waiting) f1 = subst (λ (l : List (List ℕ)). Shows segments l path f1) (sym (without_waiting older waiting path distinct)) opened in
    let resting = ok_so (run.vacancy ≡ at_rest w) report.opening well.opening is.rests in
    let asked : Vacant (VacantAt waiting) path (replay files run.asked) = subst (λ (v : Vacancy). Vacant v path (replay files run.asked)) resting is.asked.0.1 in
    let free : Vacant (VacantAt waiting) path f1 =
    subst (λ (f : Files). Vacant (VacantAt waiting) path f) (sym (replay-append files run.asked run.opening)) (opens_vacant (VacantAt waiting) (replay files run.asked) path Append run.opening is.opens asked) in
    let acted = effects_show_in limit read Starts w f1 run.effects segments (VacantAt waiting) kinds below distinct is.effects is.triggers is.vacant (subst (All IsWell) is.outcomes well.outcomes) rest in
    let last = vacant_to (VacantAt waiting) run.effects in
    let end : replay files (changes_in run) ≡ replay f1 (changes_of run.effects) = replay-append files (changes_before run) (changes_of run.effects) in
    record {
      before = opened;
      effects = acted.0;
      after = subst (λ (f : Files). ShowsIn (grown_by limit read segments run.effects) w last f) (sym end) acted.1;
      vacant = subst (λ (f : Files). Vacant last path f) (sym end) (effects_vacant (Some read) w f1 run.effects (VacantAt waiting) is.effects is.vacant free);
    }

runs_show_in : (limit : ℕ) (read : Reading) (older : List (List ℕ)) (waiting path : List ℕ) (files : Files) (runs : List Run) (reports : List RunReport) (dones : List RunDone) (segments : Segments) (first : Vacancy)
    → let w = around older (Some waiting) path in
    limit < 2 ^ 64 - 1 → AreDistinct (names w) → AreRuns (Size limit) (Some read) w files runs reports dones
    → All WentWell reports → Vacant first path files → ShowsIn segments w first files → RunsShowIn limit read segments w files dones
runs_show_in limit read older waiting path files [] [] [] segments first below distinct are well vacant shows = tt
runs_show_in limit read older waiting path files [] [] (done ∷ dones) segments first below distinct are well vacant shows = absurd are
runs_show_in limit read older waiting path files [] (report ∷ reports) dones segments first below distinct are well vacant shows = absurd are
runs_show_in limit read older waiting path files (run ∷ runs) [] dones segments first below distinct are well vacant shows = absurd are
runs_show_in limit read older waiting path files (run ∷ runs) (report ∷ reports) [] segments first below distinct are well vacant shows = absurd are
runs_show_in limit read older waiting path files (run ∷ runs) (report ∷ reports) (done ∷ dones) segments first below distinct are well vacant shows = λ gapless.
    let w : Window = around older (Some waiting) path in
    let here = run_shows_in limit read older waiting path files report done segments first (begins_kind limit) below distinct are.0 (All-head WentWell report reports well) vacant shows gapless in (
      here.before,
      here.effects,
      runs_show_in limit read older waiting path (replay files (changes_in done)) runs reports dones (grown_by limit read segments done.effects) (vacant_to (at_rest w) done.effects) below distinct are.2
          (All-tail WentWell report reports well) here.vacant here.after,
    )

pub segments_behind : (trigger : TriggerSettings) (reading : Option Reading) (older : List (List ℕ)) (waits : Option (List ℕ)) (path : List ℕ) (files : Files) (runs : List Run) (reports : List RunReport) (dones : List RunDone)
    → let w = around older waits path in
    AreDistinct (names w) → AreRuns trigger reading w files runs reports dones → SegmentsBehind trigger reading w files reports dones
segments_behind (Size limit) None older waits path files runs reports dones distinct are = tt
segments_behind (Size limit) (Some read) older None path files runs reports dones distinct are = λ some. nothing some where
  nothing : {X : Type 0} → IsSome {T = List ℕ} None → X
  nothing h = cc
segments_behind (Size limit) (Some read) older (Some waiting) path files runs reports dones distinct are =
    λ some below well segments first vacant shows. runs_show_in limit read older waiting path files runs reports dones segments first below distinct are well vacant shows
segments_behind (OnStartUp min_size) reading older waits path files runs reports dones distinct are = tt
segments_behind (Time config) reading older waits path files runs reports dones distinct are = tt
