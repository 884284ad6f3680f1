-- The segments that runs leave.
use Rattle.std.proofs.Common.{◌≡◌, ◌<◌, ◌^◌, ◌-◌, ◌∙◌, ◌++◌, inl, inr, Bool, ℕ, List, [], ◌∷◌, Option, Some, None, Result, Ok, Err, All, IsOk, OnOk, refl, sym, ap, subst, length, map}
use Rattle.std.proofs.lemmas.List.Elements.{All-head, All-tail}
use Rattle.log4rs_rolling.specs.Change.{Change, Files, replay}
use Rattle.log4rs_base.specs.declared.record.Context.{Context}
use Rattle.log4rs_base.specs.declared.error.LogError.{LogError}
use Rattle.log4rs_rolling.specs.Window.{AreDistinct, Window, Vacancy, Vacant, names}
use Rattle.log4rs_rolling.specs.Asking.{Kind, BySize}
use Rattle.log4rs_rolling.specs.Appends.{Reading}
use Rattle.log4rs_rolling.specs.Segments.{Segments, Shows}
use Rattle.log4rs_rolling.specs.SegmentsShown.{ShowsIn, standing}
use Rattle.log4rs_rolling.specs.Triggers.{NotesAny}
use Rattle.log4rs_rolling.specs.declared.trigger.SizeTrigger.{SizeTrigger}
use Rattle.log4rs_rolling.specs.declared.trigger.AnyTriggerOf.TheVariants.{Size, Time, OnStartUp, Custom}
use Rattle.log4rs_rolling.proofs.Calls.{replay-append}
use Rattle.log4rs_restarts.specs.Acts.{BuiltIn, ActEffect, asks, IsBy, AreEffects, GrowsBy, GrowsAt, GoOn, Follows, FollowsBy, VacanciesGo, changes_of}
use Rattle.log4rs_restarts.proofs.Adding.{act_vacant}
use Rattle.log4rs_rolling.proofs.Windows.{not_last}
use Rattle.log4rs_restarts.proofs.Late.{alone, beside, late_shown}
use Rattle.log4rs_restarts.proofs.Stepping.{vacant_to}
use Rattle.log4rs_restarts.specs.declared.run.Act.{Act}
use Rattle.log4rs_restarts.specs.declared.run.Act.TheVariants as act
use Rattle.log4rs_restarts.specs.declared.run.ActOutcome.{ActOutcome}
use Rattle.log4rs_restarts.specs.declared.run.ActOutcome.TheVariants.{Appended, Stepped}
use Rattle.log4rs_restarts.specs.Segmented.{EffectsShow, EffectsShowIn, ShowsBy, IsWell, grown, grown_by, lengthened}
use Rattle.log4rs_restarts.specs.Triggers.{Begins}
use Rattle.log4rs_restarts.specs.declared.settings.TriggerSettings.TheVariants as settings

-- Kinds stay

kind_kept : (c : Context) (before now : BuiltIn) (answer : Option Bool) → NotesAny (λ c (t : SizeTrigger) answer (u : SizeTrigger). u ≡ t) c before answer now → (asks now).kind ≡ (asks before).kind
kind_kept c (Size b) now answer is = ap (λ (t : BuiltIn). (asks t).kind) is
kind_kept c (Time b) now answer is = ap (λ (t : BuiltIn). (asks t).kind) is.1
kind_kept c (OnStartUp b) now answer is = ap (λ (t : BuiltIn). (asks t).kind) is.1
kind_kept c (Custom b) now answer is = ap (λ (t : BuiltIn). (asks t).kind) (is.1 ∙ ap Custom is.2)

follows_kind : (a : Act) (trigger now : BuiltIn) (answer : Option Bool) → FollowsBy a trigger answer now → (asks now).kind ≡ (asks trigger).kind
follows_kind (act.Append e) trigger now answer follows = elim follows [
  | inl notes ↦ kind_kept e.context trigger now answer notes
  | inr same ↦ ap (λ (t : BuiltIn). (asks t).kind) same.1
]
follows_kind (act.Late e) trigger now answer follows = ap (λ (t : BuiltIn). (asks t).kind) follows
follows_kind act.Step trigger now answer follows = ap (λ (t : BuiltIn). (asks t).kind) follows

pub begins_kind : (limit : ℕ) (trigger : BuiltIn) → Begins (settings.Size limit) trigger → (asks trigger).kind ≡ BySize limit
begins_kind limit trigger begins = ap (λ (t : BuiltIn). (asks t).kind) begins.1 ∙ ap BySize begins.2

-- Steps

failed : (e : LogError) → IsOk {T = Unit} {E = LogError} (Err e) → ⊥
failed e h = cc

is_ok_so : {X : Type 0} (r : Result Unit LogError) → IsOk r → OnOk r X → X
is_ok_so (Ok u) ok x = x
is_ok_so (Err e) ok x = absurd (failed e ok)

act_shows : (limit : ℕ) (read : Reading) (w : Window) (files : Files) (a : Act) (o : ActOutcome) (effect : ActEffect) (segments : Segments)
    → w.waiting ≡ None → limit < 2 ^ 64 - 1 → 0 < length w.archives → AreDistinct (names w) → IsBy (Some read) w files a o effect → (asks effect.trigger).kind ≡ BySize limit → IsWell o → Shows segments w.archives w.active files
    → ShowsBy limit read segments w.archives w.active (replay files effect.added) a
act_shows limit read w files (act.Append e) (Appended r) effect segments none below some distinct is kind well shows =
    let grows : GrowsBy (BySize limit) (Some read) w files e r effect.added = subst (λ (k : Kind). GrowsBy k (Some read) w files e r effect.added) kind (is.grows none) in
    is_ok_so r well (grows below some) segments shows
act_shows limit read w files (act.Append e) (Stepped r) effect segments none below some distinct is kind well shows = absurd is
act_shows limit read w files (act.Late e) (Appended r) effect segments none below some distinct is kind well shows =
    late_shown w.archives w.active (read e.logged e.context) files effect.added segments (not_last w.archives w.active (alone w distinct)) (is_ok_so r well is.adds.1.0) shows
act_shows limit read w files (act.Late e) (Stepped r) effect segments none below some distinct is kind well shows = absurd is
act_shows limit read w files act.Step (Appended r) effect segments none below some distinct is kind well shows = absurd is
act_shows limit read w files act.Step (Stepped r) effect segments none below some distinct is kind well shows =
    subst (λ (c : List Change). Shows segments w.archives w.active (replay files c)) (sym (is.idle none)) shows

-- so the segments with its text are shown
shown_by : (limit : ℕ) (read : Reading) (segments : Segments) (ns : List (List ℕ)) (active : List ℕ) (files : Files) (a : Act)
    → ShowsBy limit read segments ns active files a → Shows (grown limit read segments a) ns active files
shown_by limit read segments ns active files (act.Append e) shows = shows.shows
shown_by limit read segments ns active files (act.Late e) shows = shows
shown_by limit read segments ns active files act.Step shows = shows

pub effects_show : (limit : ℕ) (read : Reading) (Starts : BuiltIn → Type 0) (w : Window) (files : Files) (effects : List ActEffect) (segments : Segments)
    → ((t : BuiltIn) → Starts t → (asks t).kind ≡ BySize limit) → w.waiting ≡ None → limit < 2 ^ 64 - 1 → 0 < length w.archives → AreDistinct (names w)
    → AreEffects (Some read) w files effects → GoOn Starts effects → All IsWell (map (λ (d : ActEffect). d.outcome) effects) → Shows segments w.archives w.active files
    → EffectsShow limit read segments w files effects × Shows (grown_by limit read segments effects) w.archives w.active (replay files (changes_of effects))
effects_show limit read Starts w files [] segments kinds none below some distinct are go ok shows = (tt, shows)
effects_show limit read Starts w files (s ∷ effects) segments kinds none below some distinct are go ok shows =
    let kind = kinds s.trigger go.0 in
    let outcomes = map (λ (d : ActEffect). d.outcome) effects in
    let f1 = replay files s.added in
    let now = grown limit read segments s.act in
    let here = act_shows limit read w files s.act s.outcome s segments none below some distinct are.0 kind (All-head IsWell s.outcome outcomes ok) shows in
    let rest = effects_show limit read (Follows s) w f1 effects now (λ t follows. follows_kind s.act s.trigger t s.answer follows ∙ kind) none below some distinct are.1 go.1 (All-tail IsWell s.outcome outcomes ok)
    (shown_by limit read segments w.archives w.active f1 s.act here) in (
      (here, rest.0),
      subst (λ (f : Files). Shows (grown_by limit read now effects) w.archives w.active f) (sym (replay-append files s.added (changes_of effects))) rest.1,
    )

-- Rollings in the background too

act_shows_in : (limit : ℕ) (read : Reading) (w : Window) (files : Files) (a : Act) (o : ActOutcome) (effect : ActEffect) (segments : Segments)
    → limit < 2 ^ 64 - 1 → AreDistinct (names w) → IsBy (Some read) w files a o effect → (asks effect.trigger).kind ≡ BySize limit → IsWell o → ShowsIn segments w effect.before files
    → ShowsBy limit read segments (standing w effect.now) w.active (replay files effect.added) a
act_shows_in limit read w files (act.Append e) (Appended r) effect segments below distinct is kind well shows =
    let grows : GrowsAt (BySize limit) (Some read) w files e r effect = subst (λ (k : Kind). GrowsAt k (Some read) w files e r effect) kind is.shows in
    is_ok_so r well (grows below) segments shows
act_shows_in limit read w files (act.Append e) (Stepped r) effect segments below distinct is kind well shows = absurd is
act_shows_in limit read w files (act.Late e) (Appended r) effect segments below distinct is kind well shows =
    let text = read e.logged e.context in
    subst (λ (v : Vacancy). Shows (lengthened segments text) (standing w v) w.active (replay files effect.added)) (sym is.stays)
    (late_shown (standing w effect.before) w.active text files effect.added segments (beside w effect.before distinct) (is_ok_so r well is.adds.1.0) shows)
act_shows_in limit read w files (act.Late e) (Stepped r) effect segments below distinct is kind well shows = absurd is
act_shows_in limit read w files act.Step (Appended r) effect segments below distinct is kind well shows = absurd is
act_shows_in limit read w files act.Step (Stepped r) effect segments below distinct is kind well shows = is.shown segments shows

pub effects_show_in : (limit : ℕ) (read : Reading) (Starts : BuiltIn → Type 0) (w : Window) (files : Files) (effects : List ActEffect) (segments : Segments) (first : Vacancy)
    → ((t : BuiltIn) → Starts t → (asks t).kind ≡ BySize limit) → limit < 2 ^ 64 - 1 → AreDistinct (names w)
    → AreEffects (Some read) w files effects → GoOn Starts effects → VacanciesGo first effects → All IsWell (map (λ (d : ActEffect). d.outcome) effects) → ShowsIn segments w first files
    → EffectsShowIn limit read segments w files effects × ShowsIn (grown_by limit read segments effects) w (vacant_to first effects) (replay files (changes_of effects))
effects_show_in limit read Starts w files [] segments first kinds below distinct are go vacant ok shows = (tt, shows)
effects_show_in limit read Starts w files (s ∷ effects) segments first kinds below distinct are go vacant ok shows =
    let outcomes = map (λ (d : ActEffect). d.outcome) effects in
    let kind = kinds s.trigger go.0 in
    let here = act_shows_in limit read w files s.act s.outcome s segments below distinct are.0 kind (All-head IsWell s.outcome outcomes ok) (subst (λ (v : Vacancy). ShowsIn segments w v files) (sym vacant.0) shows) in
    let rest = effects_show_in limit read (Follows s) w (replay files s.added) effects (grown limit read segments s.act) s.now (λ t follows. follows_kind s.act s.trigger t s.answer follows ∙ kind) below distinct are.1 go.1 vacant.1
    (All-tail IsWell s.outcome outcomes ok) (shown_by limit read segments (standing w s.now) w.active (replay files s.added) s.act here) in
    let last = vacant_to s.now effects in (
      (here, rest.0),
      subst (λ (f : Files). ShowsIn (grown_by limit read (grown limit read segments s.act) effects) w last f) (sym (replay-append files s.added (changes_of effects))) rest.1,
    )

-- after the acts no file stands where none is to
pub effects_vacant : (reading : Option Reading) (w : Window) (files : Files) (effects : List ActEffect) (first : Vacancy)
    → AreEffects reading w files effects → VacanciesGo first effects → Vacant first w.active files → Vacant (vacant_to first effects) w.active (replay files (changes_of effects))
effects_vacant reading w files [] first are go vacant = vacant
effects_vacant reading w files (s ∷ effects) first are go vacant =
    subst (λ (f : Files). Vacant (vacant_to s.now effects) w.active f) (sym (replay-append files s.added (changes_of effects)))
    (effects_vacant reading w (replay files s.added) effects s.now are.1 go.1
    (act_vacant reading w files s.act s.outcome s are.0 (subst (λ (v : Vacancy). Vacant v w.active files) (sym go.0) vacant)))
