-- What a rolled file keeps through an append.
use Rattle.std.proofs.Common.{◌≡◌, ◌≤◌, ◌<◌, ◌^◌, ◌-◌, ℕ, ◌+◌, List, [], ◌∷◌, ◌++◌, length, Option, Some, None, refl, sym, ap, ◌∙◌, subst, IsTrue, Bool, arith, Result, Ok, Err, OnOk, IfErr, length-append, inl, inr, true, false, rules}
use Rattle.std.specs.Option.{IfSome}
use Rattle.log4rs_rolling.specs.Change.{Change, Files, replay, written}
use Rattle.log4rs_rolling.specs.Disk.{Disk, Calls, Does, files_of}
use Rattle.log4rs_base.specs.declared.record.Context.{Context}
use Rattle.log4rs_base.specs.declared.record.Record.{Record}
use Rattle.log4rs_base.specs.declared.error.LogError.{LogError}
use Rattle.log4rs_base.specs.declared.error.LogError.TheVariants.{Store, Memory, Policy, Custom}
use Rattle.log4rs_rolling.specs.Faults.{MayAnswer}
use Rattle.log4rs_rolling.specs.Window.{Window, around, Good, NoCopies, Vacancy, Vacant, drops_after, drops_into, drops_between, AreDistinct}
use Rattle.log4rs_rolling.specs.Asking.{Asking, BySize}
use Rattle.log4rs_rolling.specs.Keeping.{Keeping, Stands, SameNames, SteppedAt, SteppedIn}
use Rattle.log4rs_rolling.specs.declared.store.Open.TheVariants.{Append}
use Rattle.log4rs_rolling.proofs.Places.{among_alone, among_join, appended_named}
use Rattle.log4rs_rolling.specs.AppendParts.{FinishedText}
use Rattle.log4rs_rolling.specs.Appends.{Reading, Appended, AppendedTo, WroteText, Adds, IsWhole, Segmented}
use Rattle.log4rs_rolling.specs.Segments.{Segments, Shows, ShowsAfter}
use Rattle.log4rs_rolling.specs.FileChanges.{IsBeginning, OnlyOpens, way, OnlyAppends}
use Rattle.log4rs_rolling.specs.SinceOpening.{CopiesNothing, GoodSince, KeptSince}
use Rattle.log4rs_rolling.proofs.Calls.{replay-append}
use Rattle.log4rs_rolling.proofs.Calls.{calls_map, calls_join, calls_one, files_after, calls_none}
use Rattle.log4rs_rolling.proofs.Windows.{Good-append, Good-within, NoCopies-front, NoCopies-back, appends_keep}
use Rattle.log4rs_rolling.proofs.Both.{calls_both}
use Rattle.log4rs_rolling.proofs.Copying.{copies_join, more_above}
use Rattle.log4rs_rolling.specs.Copies.{CopiesNeedRefusal}
use Rattle.log4rs_rolling.proofs.Parts.{clean_join, if_map, if_two, if_all, silent_ahead, then_later, appended_clean, appends_vacant}
use Rattle.log4rs_rolling.proofs.Quiet.{opened_quiet}
use Rattle.log4rs_rolling.specs.AppendResults.{LimitedAppend}
use Rattle.log4rs_rolling.specs.declared.store.Open.{Open}

abbrev pub Since : (List ℕ → Option (List ℕ)) → (List ℕ → Vacancy) → (List ℕ → Vacancy) → List ℕ → Bool → Disk → Disk → List (List ℕ) → Type 0
Since waits first now active append opening disk older = let window = around older (waits active) active in IsTrue append → Stands window (first active) opening →
    Calls opening disk (λ added. (NoCopies added → Good window (files_of opening) added) × Vacant (now active) active (replay (files_of opening) added))

under : {X : Type 0} (o : Option X) (A : Type 0) (P : X → Type 0) → (A → IfSome o P) → IfSome o (λ x. A → P x)
under None A P f = tt
under (Some x) A P f = f

-- what went on since, and what then goes on
pub since_join : (settings k0 k1 : Keeping) (path : List ℕ) (append : Bool) (opening d0 d1 : Disk)
    → SameNames settings k0 → GoodSince settings k0 path append opening d0 → GoodSince k0 k1 path append d0 d1 → GoodSince settings k1 path append opening d1
since_join settings k0 k1 path append opening d0 d1 names first later =
    let Later : (List ℕ → Option (List ℕ)) → List (List ℕ) → Type 0 = λ waits. Since waits k0.vacant k1.vacant path append d0 d1 in
    let here : IfSome settings.archives (Later settings.waiting) =
    subst (λ (o : Option (List (List ℕ))). IfSome o (Later settings.waiting)) names.archives (subst (λ (f : List ℕ → Option (List ℕ)). IfSome k0.archives (Later f)) names.waiting later.kept) in
    record {
      kept = if_two settings.archives (Later settings.waiting) (Since settings.waiting settings.vacant k0.vacant path append opening d0) (Since settings.waiting settings.vacant k1.vacant path append opening d1) here first.kept
          (λ older part since. λ on stands.
          let w : Window = around older (settings.waiting path) path in
          let past = since on stands in
          let now_stands : Stands w (k0.vacant path) d0 = (
            stands.0,
            λ tells. let was = past.told (subst IsTrue past.tells tells) in subst (Vacant (k0.vacant path) path) (sym (files_after opening d0 was.0 was.1)) was.2.1,
          ) in
          let f = files_of opening in
          calls_join opening d0 d1 _ _ (λ added. (NoCopies added → Good w f added) × Vacant (k1.vacant path) path (replay f added)) past (part on now_stands)
          (λ xs ys tells told x y. (
            λ clean. Good-append w f xs ys (x.0 (NoCopies-front xs ys clean)) (subst (λ (g : Files). Good w g ys) (files_after opening d0 xs told) (y.0 (NoCopies-back xs ys clean))),
            subst (Vacant (k1.vacant path) path) (sym (replay-append f xs ys)) (subst (λ (g : Files). Vacant (k1.vacant path) path (replay g ys)) (files_after opening d0 xs told) y.1),
          )));
      renames = λ only. clean_join opening d0 d1 (first.renames only) (later.renames (subst IsTrue (sym names.renames) only));
      copies = λ built. copies_join _ _ opening d0 d1 first.store later.store (first.copies built) (later.copies (subst IsTrue (sym names.is_built_in) built));
      elsewhere = among_join settings k0 k1 path path opening d0 d1 names refl first.elsewhere later.elsewhere;
      store = then_later _ _ opening d0 d1 first.store later.store;
    }

pub since_append : (settings k0 k1 : Keeping) (asking : Asking) (context : Context) (answer : Option Bool) (path path1 : List ℕ) (how : Open) (append : Bool) (opening d0 d1 : Disk)
    → SameNames settings k0 → path1 ≡ path → (IsTrue append → AppendedTo asking context answer k0 k1 path d0 d1) → LimitedAppend k0 k1 path how d0 d1
    → (IsTrue k0.is_built_in → CopiesNeedRefusal d0 d1) → GoodSince settings k0 path append opening d0 → GoodSince settings k1 path1 append opening d1
since_append settings k0 k1 asking context answer path path1 how append opening d0 d1 names same appended limited copies since =
    let Here : List (List ℕ) → Type 0 = λ older. let w = around older (k0.waiting path) path in Stands w (k0.vacant path) d0 → Calls d0 d1 (Appended asking context answer (k0.vacant path) (k1.vacant path) w (files_of d0)) in
    subst (λ (p : List ℕ). GoodSince settings k1 p append opening d1) (sym same)
    (since_join settings k0 k1 path append opening d0 d1 names since
    (record {
      kept = if_map k0.archives (λ older. IsTrue append → Here older) (Since k0.waiting k0.vacant k1.vacant path append d0 d1) (under k0.archives (IsTrue append) Here appended)
          (λ older here. λ on stands.
          calls_map d0 d1 _ _ (here on stands) (λ added tells told y. (λ clean. Good-within (drops_after answer (k0.vacant path)) (around older (k0.waiting path) path) (files_of d0) added (y.good clean), y.vacant)));
      renames = limited.renames;
      copies = copies;
      elsewhere = limited.elsewhere;
      store = limited.store;
    }))

-- a step of a rolling in the background keeps it so
pub since_step_at : (settings k0 k1 : Keeping) (path : List ℕ) (append : Bool) (opening d0 d1 : Disk)
    → SameNames settings k0 → SteppedAt k0 k1 path d0 d1 → GoodSince settings k0 path append opening d0 → GoodSince settings k1 path append opening d1
since_step_at settings k0 k1 path append opening d0 d1 names stepped since =
    let Step : List (List ℕ) → Type 0 = λ older. let w = around older (k0.waiting path) path in
    Stands w (k0.vacant path) d0 → (drops_into (k1.vacant path) ≤ drops_into (k0.vacant path)) × Calls d0 d1 (SteppedIn (k0.vacant path) (k1.vacant path) w (files_of d0)) in
    since_join settings k0 k1 path append opening d0 d1 names since
    (record {
      kept = if_map k0.archives Step (Since k0.waiting k0.vacant k1.vacant path append d0 d1) stepped.kept
          (λ older step. λ on stands.
          calls_map d0 d1 _ _ (step stands).1 (λ added tells told y. (λ clean. Good-within (drops_between (k0.vacant path) (k1.vacant path)) (around older (k0.waiting path) path) (files_of d0) added (y.0.0.1 clean), y.0.1)));
      renames = stepped.renames;
      copies = stepped.copies;
      elsewhere = stepped.elsewhere;
      store = stepped.store;
    })

-- and so do openings and writings, where what the file holds stays
pub since_quiet : (k : Keeping) (path : List ℕ) (how : Open) (append : Bool) (d0 d1 : Disk)
    → (IsTrue append → how ≡ Append) → Calls d0 d1 (OnlyAppends path how) → GoodSince k k path append d0 d1
since_quiet k path how append d0 d1 stays appends =
    record {
      kept = if_all k.archives (Since k.waiting k.vacant k.vacant path append d0 d1)
          (λ older. λ on stands.
          let w : Window = around older (k.waiting path) path in
          let f = files_of d0 in
          calls_map d0 d1 _ (λ added. (NoCopies added → Good w f added) × Vacant (k.vacant path) path (replay f added)) appends
          (λ added tells told only.
          let again = subst (λ (h : Open). OnlyAppends path h added) (stays on) only in
          (λ clean. Good-within 0 w f added (appends_keep w f added stands.0 again), appends_vacant (k.vacant path) f path Append added again (stands.1 tells))));
      renames = λ only. appended_clean path how d0 d1 appends;
      copies = λ built none. appended_clean path how d0 d1 appends;
      elsewhere = among_alone k k path d0 d1 refl (appended_named k path how d0 d1 appends);
      store = calls_map d0 d1 _ (λ added. Unit {0}) appends (λ added tells told only. tt);
    }

pub since_opened : (settings k : Keeping) (path : List ℕ) (append : Bool) (opening d0 d1 : Disk)
    → SameNames settings k → Calls d0 d1 (OnlyOpens path (way append)) → GoodSince settings k path append opening d0 → GoodSince settings k path append opening d1
since_opened settings k path append opening d0 d1 names opens since =
    since_join settings k k path append opening d0 d1 names since (since_quiet k path (way append) append d0 d1 (stays append) (opened_quiet path (way append) d0 d1 opens)) where
      stays : (a : Bool) → IsTrue a → way a ≡ Append
      stays true on = refl
      stays false on = absurd (search rules)

-- nothing was changed yet
pub since_nothing : (k : Keeping) (path : List ℕ) (append : Bool) (disk now : Disk) → Calls disk now (λ added. added ≡ []) → GoodSince k k path append disk now
since_nothing k path append disk now nothing =
    since_quiet k path Append append disk now (λ on. refl) (calls_map disk now _ (OnlyAppends path Append) nothing (λ added tells told none. subst (OnlyAppends path Append) (sym none) tt))

pub since_start : (k : Keeping) (path : List ℕ) (append : Bool) (disk : Disk) → GoodSince k k path append disk disk
since_start k path append disk = since_nothing k path append disk disk (calls_none disk (λ added. added ≡ []) refl)

-- nothing was copied since
since_clean : (settings keeping : Keeping) (active : List ℕ) (append : Bool) (opening now : Disk)
    → GoodSince settings keeping active append opening now → CopiesNothing settings opening now → Calls opening now NoCopies
since_clean settings keeping active append opening now since nothing =
    elim nothing [ inl only ↦ since.renames only | inr both ↦ since.copies both.0 both.1 ]

-- what was changed since, where nothing was copied
pub since_renamed : (settings keeping : Keeping) (active : List ℕ) (append : Bool) (opening now : Disk)
    → GoodSince settings keeping active append opening now → CopiesNothing settings opening now → KeptSince settings active append opening now
since_renamed settings keeping active append opening now since only =
    if_map settings.archives (Since settings.waiting settings.vacant keeping.vacant active append opening now)
    (λ older. let window = around older (settings.waiting active) active in IsTrue append → Stands window (settings.vacant active) opening → Calls opening now (Good window (files_of opening)))
    since.kept
    (λ older kept. λ on stands.
    let window = around older (settings.waiting active) active in
    calls_map opening now _ (Good window (files_of opening)) (calls_both opening now _ NoCopies (kept on stands) (since_clean settings keeping active append opening now since only))
    (λ added tells told both. both.0.0 both.1))

pub later_on : (n : ℕ) (d0 d1 : Disk) → (IsTrue d0.tells → n ≤ length d0.changes) → Calls d0 d1 (λ added. Unit {0}) → IsTrue d1.tells → n ≤ length d1.changes
later_on n d0 d1 before calls tells =
    let tells0 = subst IsTrue calls.tells tells in
    let was = calls.told tells0 in
    let least = before tells0 in
    let more : length d1.changes ≡ length d0.changes + length was.0 = ap (λ (c : List Change). length c) was.1.changes ∙ length-append d0.changes was.0 in
    omega arith

-- Texts

pub adds_nothing : (reading : Option Reading) (r : Record) (c : Context) (path : List ℕ) (result : Result Unit LogError) (d0 d1 : Disk) → ((X : Type 0) → OnOk result X)
    → Calls d0 d1 (λ added. written path added ≡ []) → Calls d0 d1 (Adds reading r c path result)
adds_nothing reading r c path result d0 d1 failed calls =
    calls_map d0 d1 _ (Adds reading r c path result) calls (λ added tells told none.
    if_all reading (λ read. WroteText path (read r c) result added) (λ read. (subst (λ (b : List ℕ). IsBeginning b (read r c)) (sym none) refl, failed (written path added ≡ read r c))))

pub adds_text : (reading : Option Reading) (r : Record) (c : Context) (text path other : List ℕ) (result : Result Unit LogError) (d0 d1 d2 : Disk) → other ≡ path
    → IfSome reading (λ read. text ≡ read r c) → Calls d0 d1 (λ added. written path added ≡ []) → Calls d1 d2 (WroteText other text result) → Calls d0 d2 (Adds reading r c path result)
adds_text reading r c text path other result d0 d1 d2 same is none wrote =
    calls_join d0 d1 d2 _ _ (Adds reading r c path result) none wrote
    (λ xs ys tells told x y.
    let here = subst (λ (p : List ℕ). WroteText p text result ys) same y in
    if_map reading (λ read. text ≡ read r c) (λ read. WroteText path (read r c) result (xs ++ ys)) is
    (λ read e.
    subst (λ (t : List ℕ). WroteText path t result (xs ++ ys)) e
    (subst (λ (b : List ℕ). IsBeginning b text × OnOk result (b ≡ text)) (sym (silent_ahead path xs ys x)) here)))

pub segmented_nothing : (reading : Option Reading) (r : Record) (c : Context) (asking : Asking) (k : Keeping) (path : List ℕ) (result : Result Unit LogError) (d0 d1 : Disk) → ((X : Type 0) → OnOk result X)
    → Segmented reading r c asking k path result d0 d1
segmented_nothing reading r c asking k path result d0 d1 failed = archived k.archives where
  archived : (o : Option (List (List ℕ))) → IfSome o (λ older. IfSome reading (λ read. (limit : ℕ) → asking.kind ≡ BySize limit → limit < 2 ^ 64 - 1 → IsWhole k path older → 0 < length older →
      AreDistinct (older ++ path ∷ []) → OnOk result ((segments : Segments) →
      Calls d0 d1 (λ added. Shows segments older path (files_of d0) → ShowsAfter limit segments (read r c) older path (replay (files_of d0) added)))))
  archived None = tt
  archived (Some older) = read_as reading where
    read_as : (o : Option Reading) → IfSome o (λ read. (limit : ℕ) → asking.kind ≡ BySize limit → limit < 2 ^ 64 - 1 → IsWhole k path older → 0 < length older →
        AreDistinct (older ++ path ∷ []) → OnOk result ((segments : Segments) →
        Calls d0 d1 (λ added. Shows segments older path (files_of d0) → ShowsAfter limit segments (read r c) older path (replay (files_of d0) added))))
    read_as None = tt
    read_as (Some read) = λ limit size below whole full distinct. failed ((segments : Segments) →
        Calls d0 d1 (λ added. Shows segments older path (files_of d0) → ShowsAfter limit segments (read r c) older path (replay (files_of d0) added)))

pub finished_at : {P : Type 0} (asking : P → Asking) (keeping : P → Keeping) (p0 p1 : P) (text : List ℕ) (first : Bool) (c : Context) (answer : Option Bool) (result : Result Unit LogError) (A1 : Type 0) (path other : List ℕ) (d1 d2 : Disk)
    → p1 ≡ p0 → other ≡ path → FinishedText text first (asking p1) c answer result (keeping p1) A1 other d1 d2 → FinishedText text first (asking p0) c answer result (keeping p0) A1 path d1 d2
finished_at {P = P} asking keeping p0 p1 text first c answer result A1 path other d1 d2 stayed same finished =
    subst (λ (q : P). FinishedText text first (asking q) c answer result (keeping q) A1 path d1 d2) stayed
    (subst (λ (t : List ℕ). FinishedText text first (asking p1) c answer result (keeping p1) A1 t d1 d2) same finished)

-- Faults

-- a fault of a later part
pub earlier_fault : {T : Type 0} (r : Result T LogError) (a b c : ℕ) → b ≤ c → IfErr r (MayAnswer a b) → IfErr r (MayAnswer a c)
earlier_fault (Ok t) a b c h fault = tt
earlier_fault (Err Store) a b c h fault = omega arith
earlier_fault (Err Memory) a b c h fault = tt
earlier_fault (Err Policy) a b c h fault = absurd fault
earlier_fault (Err (Custom text)) a b c h fault = absurd fault

pub later_fault : {T : Type 0} (r : Result T LogError) (a b c : ℕ) → a ≤ b → IfErr r (MayAnswer b c) → IfErr r (MayAnswer a c)
later_fault (Ok t) a b c h fault = tt
later_fault (Err Store) a b c h fault = more_above a b c h fault
later_fault (Err Memory) a b c h fault = tt
later_fault (Err Policy) a b c h fault = absurd fault
later_fault (Err (Custom text)) a b c h fault = absurd fault
