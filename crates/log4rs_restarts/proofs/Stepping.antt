-- The acts of a run.
use Rattle.std.proofs.Common.{◌≡◌, ◌≤◌, ◌+◌, ◌-◌, inl, inr, ℕ, zero, suc, List, [], ◌∷◌, ◌++◌, Bool, true, false, Option, Some, None, refl, sym, ap, ◌∙◌, subst, IsTrue, arith}
use Rattle.std.specs.Option.{option_to_list}
use Rattle.log4rs_rolling.specs.Change.{Change, Files, after, replay}
use Rattle.log4rs_rolling.specs.Window.{Window, AreDistinct, Vacancy, Anywhere, VacantAt, OfAnother, GoodWithin, NoCopies, drops_into, drops_between, drops_after, names}
use Rattle.log4rs_rolling.specs.Asking.{is_told, UnlessYes}
use Rattle.log4rs_rolling.specs.declared.trigger.AnyTriggerOf.TheVariants.{Size, Time, OnStartUp, Custom}
use Rattle.log4rs_rolling.specs.Appends.{Reading}
use Rattle.log4rs_rolling.specs.ArchiveEnds.{IsAt, AreAt, EndsAt, ends}
use Rattle.log4rs_rolling.proofs.Windows.{NoCopies-front, NoCopies-back, GoodWithin-append, appends_keep}
use Rattle.log4rs_rolling.proofs.Ending.{EndsAt-append, EndsAt-last}
use Rattle.log4rs_rolling.proofs.Stepping.{within_up}
use Rattle.log4rs_restarts.proofs.Late.{appends_end}
use Rattle.log4rs_restarts.specs.declared.run.Act.{Act}
use Rattle.log4rs_restarts.specs.declared.run.Act.TheVariants as act
use Rattle.log4rs_restarts.specs.declared.run.ActOutcome.{ActOutcome}
use Rattle.log4rs_restarts.specs.declared.run.ActOutcome.TheVariants.{Appended, Stepped}
use Rattle.log4rs_restarts.specs.Rotations.{yeses}
use Rattle.log4rs_restarts.specs.Acts.{BuiltIn, ActEffect, asks, changes_of, answers_of, IsStep, IsBy, AreEffects, GoOn, VacanciesGo, vacant_if, at_rest, cut_by, asked_at, length_after, cuts_of, AreAmong}

-- where no file is to stand after these acts
abbrev pub vacant_to : Vacancy → List ActEffect → Vacancy
vacant_to first [] = first
vacant_to first (effect ∷ effects) = vacant_to effect.now effects

-- another start of the first trigger
pub goes_as : (P Q : BuiltIn → Type 0) (effects : List ActEffect) → ((t : BuiltIn) → P t → Q t) → GoOn P effects → GoOn Q effects
goes_as P Q [] all go = tt
goes_as P Q (s ∷ effects) all go = (all s.trigger go.0, go.1)

-- each trigger of this project is told
pub asks_told : (trigger : BuiltIn) → IsTrue (is_told (asks trigger).kind)
asks_told (Size trigger) = refl
asks_told (Time trigger) = refl
asks_told (OnStartUp trigger) = refl
asks_told (Custom trigger) = refl

-- Drops

abbrev pub plus : ℕ → ℕ → ℕ
plus zero n = n
plus (suc m) n = suc (plus m n)

within_suc : (n : ℕ) (w : Window) (files : Files) (ys : List Change) → GoodWithin n w files ys → GoodWithin (suc n) w files ys
within_suc n w files [] h = tt
within_suc zero w files (y ∷ ys) h = inl (h.0, within_suc zero w (after files y) ys h.1)
within_suc (suc n) w files (y ∷ ys) h =
    elim h [
      | inl keeps ↦ inl (keeps.0, within_suc (suc n) w (after files y) ys keeps.1)
      | inr drops ↦ inr (drops.0, within_suc n w (after files y) ys drops.1)
    ]

within_more : (m n : ℕ) (w : Window) (files : Files) (ys : List Change) → GoodWithin n w files ys → GoodWithin (plus m n) w files ys
within_more zero n w files ys h = h
within_more (suc m) n w files ys h = within_suc (plus m n) w files ys (within_more m n w files ys h)

pub within_join : (m n : ℕ) (w : Window) (files : Files) (xs ys : List Change) → GoodWithin m w files xs → GoodWithin n w (replay files xs) ys → GoodWithin (plus m n) w files (xs ++ ys)
within_join zero n w files xs ys g h = GoodWithin-append n w files xs ys g h
within_join (suc m) n w files [] ys g h = within_more (suc m) n w files ys h
within_join (suc m) n w files (x ∷ xs) ys g h =
    elim g [
      | inl keeps ↦ inl (keeps.0, within_join (suc m) n w (after files x) xs ys keeps.1 h)
      | inr drops ↦ inr (drops.0, within_join m n w (after files x) xs ys drops.1 h)
    ]

pub yeses-append : (xs ys : List Bool) → yeses (xs ++ ys) ≡ plus (yeses xs) (yeses ys)
yeses-append [] ys = refl
yeses-append (true ∷ xs) ys = ap suc (yeses-append xs ys)
yeses-append (false ∷ xs) ys = yeses-append xs ys

-- what a rolling that was begun may still drop, where a file waits
abbrev pub owed : Option (List ℕ) → Vacancy → ℕ
owed None vacancy = 0
owed (Some name) vacancy = drops_into vacancy

at_most_one : (v : Vacancy) → drops_into v ≤ 1
at_most_one Anywhere = omega arith
at_most_one (VacantAt name) = omega arith
at_most_one OfAnother = omega arith

-- an append drops what was owed, and owes again after a yes
append_spends : (waits : Option (List ℕ)) (answer : Option Bool) (before now : Vacancy) → UnlessYes answer (now ≡ before)
    → drops_after answer before + owed waits now ≤ owed waits before + yeses (option_to_list answer)
append_spends None (Some true) before now stays = let a = at_most_one before in omega arith
append_spends None (Some false) before now stays = omega arith
append_spends None None before now stays = omega arith
append_spends (Some name) (Some true) before now stays = let a = at_most_one now in omega arith
append_spends (Some name) (Some false) before now stays = let a : drops_into now ≡ drops_into before = ap drops_into stays in omega arith
append_spends (Some name) None before now stays = let a : drops_into now ≡ drops_into before = ap drops_into stays in omega arith

-- a late append drops none, and owes what was owed
late_owes : (waits : Option (List ℕ)) (answer : Option Bool) (before now : Vacancy) → now ≡ before → 0 + owed waits now ≤ owed waits before + yeses (option_to_list answer)
late_owes waits answer before now same = let a : owed waits now ≡ owed waits before = ap (owed waits) same in omega arith

-- what an act dropped, with what is owed then
record Spent (w : Window) (files : Files) (effect : ActEffect) : Type 0 where
  n : ℕ
  within : GoodWithin n w files effect.added
  owes : n + owed w.waiting effect.now ≤ owed w.waiting effect.before + yeses (option_to_list effect.answer)

step_spends : (waits : Option (List ℕ)) (w : Window) (files : Files) (effect : ActEffect) → w.waiting ≡ waits → IsStep w files effect → NoCopies effect.added → Spent w files effect
step_spends None w files effect none is clean =
    record {
      n = 0;
      within = subst (λ (c : List Change). GoodWithin 0 w files c) (sym (is.idle none)) tt;
      owes = let a : owed w.waiting effect.now ≡ 0 = ap (λ (o : Option (List ℕ)). owed o effect.now) none in omega arith;
    }
step_spends (Some name) w files effect some is clean =
    record {
      n = drops_between effect.before effect.now;
      within = is.does.0.0.1 clean;
      owes = let a : owed w.waiting effect.now ≡ drops_into effect.now = ap (λ (o : Option (List ℕ)). owed o effect.now) some in
          let b : owed w.waiting effect.before ≡ drops_into effect.before = ap (λ (o : Option (List ℕ)). owed o effect.before) some in
          let c : drops_between effect.before effect.now ≡ drops_into effect.before - drops_into effect.now = refl in
          let d = is.fewer in
          omega arith;
    }

act_spends : (reading : Option Reading) (w : Window) (files : Files) (a : Act) (o : ActOutcome) (effect : ActEffect) → AreDistinct (names w) → IsBy reading w files a o effect → NoCopies effect.added → Spent w files effect
act_spends reading w files (act.Append e) (Appended r) effect distinct is clean =
    record { n = drops_after effect.answer effect.before; within = is.does.0.good clean; owes = append_spends w.waiting effect.answer effect.before effect.now is.stays }
act_spends reading w files (act.Append e) (Stepped r) effect distinct is clean = absurd is
act_spends reading w files (act.Late e) (Appended r) effect distinct is clean =
    record { n = 0; within = appends_keep w files effect.added distinct is.adds.0; owes = late_owes w.waiting effect.answer effect.before effect.now is.stays }
act_spends reading w files (act.Late e) (Stepped r) effect distinct is clean = absurd is
act_spends reading w files act.Step (Appended r) effect distinct is clean = absurd is
act_spends reading w files act.Step (Stepped r) effect distinct is clean = step_spends w.waiting w files effect refl is clean

pub plus_is : (m n : ℕ) → plus m n ≡ m + n
plus_is zero n = omega arith
plus_is (suc m) n = let e = plus_is m n in omega arith

effects_within : (reading : Option Reading) (w : Window) (files : Files) (effects : List ActEffect) (first : Vacancy)
    → AreDistinct (names w) → AreEffects reading w files effects → VacanciesGo first effects → NoCopies (changes_of effects) → GoodWithin (owed w.waiting first + yeses (answers_of effects)) w files (changes_of effects)
effects_within reading w files [] first distinct are go clean = tt
effects_within reading w files (s ∷ effects) first distinct are go clean =
    let one = act_spends reading w files s.act s.outcome s distinct are.0 (NoCopies-front s.added (changes_of effects) clean) in
    let left = owed w.waiting s.now + yeses (answers_of effects) in
    let rest : GoodWithin left w (replay files s.added) (changes_of effects) = effects_within reading w (replay files s.added) effects s.now distinct are.1 go.1 (NoCopies-back s.added (changes_of effects) clean) in
    let all = owed w.waiting first + yeses (option_to_list s.answer ++ answers_of effects) in
    let begun : owed w.waiting s.before ≡ owed w.waiting first = ap (λ (v : Vacancy). owed w.waiting v) go.0 in
    let both : yeses (option_to_list s.answer ++ answers_of effects) ≡ yeses (option_to_list s.answer) + yeses (answers_of effects) =
    yeses-append (option_to_list s.answer) (answers_of effects) ∙ plus_is (yeses (option_to_list s.answer)) (yeses (answers_of effects)) in
    let sum : plus one.n left ≡ one.n + left = plus_is one.n left in
    let owes = one.owes in
    let less : plus one.n left ≤ all = omega arith in
    within_up (plus one.n left) all w files (s.added ++ changes_of effects) less (within_join one.n left w files s.added (changes_of effects) one.within rest)

none_owed : (waits : Option (List ℕ)) → owed waits (vacant_if waits) ≡ 0
none_owed None = refl
none_owed (Some name) = refl

pub effects_good : (reading : Option Reading) (w : Window) (files : Files) (effects : List ActEffect)
    → AreDistinct (names w) → AreEffects reading w files effects → VacanciesGo (at_rest w) effects → NoCopies (changes_of effects) → GoodWithin (yeses (answers_of effects)) w files (changes_of effects)
effects_good reading w files effects distinct are go clean =
    let none : owed w.waiting (at_rest w) ≡ 0 = none_owed w.waiting in
    let less : owed w.waiting (at_rest w) + yeses (answers_of effects) ≤ yeses (answers_of effects) = omega arith in
    within_up (owed w.waiting (at_rest w) + yeses (answers_of effects)) (yeses (answers_of effects)) w files (changes_of effects) less (effects_within reading w files effects (at_rest w) distinct are go clean)

-- Ends

pub among_front : (places xs ys : List ℕ) → AreAmong places (xs ++ ys) → AreAmong places xs
among_front places [] ys h = tt
among_front places (x ∷ xs) ys h = (h.0, among_front places xs ys h.1)

pub among_back : (places xs ys : List ℕ) → AreAmong places (xs ++ ys) → AreAmong places ys
among_back places [] ys h = h
among_back places (x ∷ xs) ys h = among_back places xs ys h.1

cut_is : (places : List ℕ) (answer : Option Bool) (place : ℕ) → AreAmong places (cut_by answer place) → answer ≡ Some true → IsAt places place 0
cut_is places answer place among said = (subst (λ (a : Option Bool). AreAmong places (cut_by a place)) said among).0

none_yes : {b : Bool} → None ≡ Some b → ⊥
none_yes e = cc

act_ends : (reading : Option Reading) (w : Window) (files : Files) (a : Act) (o : ActOutcome) (effect : ActEffect) (places : List ℕ) (at : ℕ) → AreDistinct (names w) → IsBy reading w files a o effect → NoCopies effect.added
    → AreAt places at (ends w files) → AreAmong places (cut_by effect.answer (asked_at w.active at effect)) → EndsAt places w files at effect.added
act_ends reading w files (act.Append e) (Appended r) effect places at distinct is clean start among =
    is.does.0.ends (asks_told effect.trigger) clean places at start (cut_is places effect.answer (asked_at w.active at effect) among)
act_ends reading w files (act.Append e) (Stepped r) effect places at distinct is clean start among = absurd is
act_ends reading w files (act.Late e) (Appended r) effect places at distinct is clean start among = appends_end w files effect.added places at distinct is.adds.0 start
act_ends reading w files (act.Late e) (Stepped r) effect places at distinct is clean start among = absurd is
act_ends reading w files act.Step (Appended r) effect places at distinct is clean start among = absurd is
act_ends reading w files act.Step (Stepped r) effect places at distinct is clean start among = is.does.1 clean places at start (λ e. absurd (none_yes e))

pub effects_end : (reading : Option Reading) (w : Window) (files : Files) (effects : List ActEffect) (places : List ℕ) (at : ℕ)
    → AreDistinct (names w) → AreEffects reading w files effects → NoCopies (changes_of effects)
    → AreAt places at (ends w files) → AreAmong places (cuts_of w.active at effects) → EndsAt places w files at (changes_of effects)
effects_end reading w files [] places at distinct are clean start among = start
effects_end reading w files (s ∷ effects) places at distinct are clean start among =
    let cut = cut_by s.answer (asked_at w.active at s) in
    let later = cuts_of w.active (length_after w.active at s) effects in
    let first : EndsAt places w files at s.added =
    act_ends reading w files s.act s.outcome s places at distinct are.0 (NoCopies-front s.added (changes_of effects) clean) start (among_front places cut later among) in
    EndsAt-append places w files at s.added (changes_of effects) first
    (effects_end reading w (replay files s.added) effects places (length_after w.active at s) distinct are.1 (NoCopies-back s.added (changes_of effects) clean)
    (EndsAt-last places w files at s.added first) (among_back places cut later among))
