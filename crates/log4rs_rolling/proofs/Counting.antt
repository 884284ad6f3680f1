-- Counts of refusals, and texts that were written as a whole.
use Rattle.std.proofs.Common.{◌≡◌, ℕ, List, [], Option, Some, None, Bool, true, false, ◌∙◌, subst, IsTrue, ◌⊎◌, inl, inr, Result, Ok, Err, IfErr, OnOk}
use Rattle.std.specs.Option.{IfSome, IsSome}
use Rattle.log4rs_rolling.specs.Change.{written}
use Rattle.log4rs_rolling.specs.Disk.{Disk, Calls}
use Rattle.log4rs_rolling.specs.FileChanges.{OnlyWrites}
use Rattle.log4rs_base.specs.declared.record.Context.{Context}
use Rattle.log4rs_base.specs.declared.record.Record.{Record}
use Rattle.log4rs_base.specs.declared.error.LogError.{LogError}
use Rattle.log4rs_rolling.specs.Faults.{MayAnswer}
use Rattle.log4rs_rolling.proofs.Calls.{calls_map, calls_join}
use Rattle.log4rs_rolling.specs.Appends.{Failing, FailsBy, Reading, WroteText, AddsNoneOrAll, AnsweredBehind}
use Rattle.log4rs_rolling.specs.Asking.{Asking, UnlessYes, asks_first}
use Rattle.log4rs_rolling.specs.Keeping.{Keeping, Silent}
use Rattle.log4rs_rolling.specs.PolicyResults.{Processed}
use Rattle.log4rs_rolling.proofs.Parts.{if_all, if_map, silent_ahead, silent_behind}
use Rattle.log4rs_rolling.proofs.Quiet.{unless_all, unless_map}

on_ok : {T E X : Type 0} (r : Result T E) → X → OnOk r X
on_ok (Ok t) x = x
on_ok (Err e) x = tt

on_ok_step : {T E : Type 0} (r : Result T E) (X Y : Type 0) → OnOk r X → (X → Y) → OnOk r Y
on_ok_step (Ok t) X Y x f = f x
on_ok_step (Err e) X Y x f = tt

-- a policy refuses nothing without a yes
pub processed_counts : (k0 k1 : Keeping) (answer : Option Bool) (path : List ℕ) (r : Result Unit LogError) (d0 d1 : Disk) → Processed k0 k1 answer path r d0 d1 → UnlessYes answer (d1.refusals ≡ d0.refusals)
processed_counts k0 k1 (Some true) path r d0 d1 done = tt
processed_counts k0 k1 (Some false) path r d0 d1 done = done.2
processed_counts k0 k1 None path r d0 d1 done = done.2

-- the counts of a part, of a policy, and of another part
pub counts_again : (answer : Option Bool) (result : Result Unit LogError) (a b c d : ℕ) → b ≡ a → UnlessYes answer (c ≡ b) → OnOk result (d ≡ c) → UnlessYes answer (OnOk result (d ≡ a))
counts_again answer result a b c d before asked behind =
    unless_map answer (c ≡ b) (OnOk result (d ≡ a)) (λ e. on_ok_step result (d ≡ c) (d ≡ a) behind (λ last. last ∙ e ∙ before)) asked

pub counts_asked : (answer : Option Bool) (result : Result Unit LogError) (a b c : ℕ) → b ≡ a → UnlessYes answer (c ≡ b) → UnlessYes answer (OnOk result (c ≡ a))
counts_asked answer result a b c before asked = unless_map answer (c ≡ b) (OnOk result (c ≡ a)) (λ e. on_ok result (e ∙ before)) asked

pub counts_first : (a1 a2 : Option Bool) (result : Result Unit LogError) (a b c : ℕ) → a2 ≡ None → UnlessYes a1 (b ≡ a) → UnlessYes a2 (OnOk result (c ≡ b)) → UnlessYes a1 (OnOk result (c ≡ a))
counts_first a1 a2 result a b c none before behind =
    let last : OnOk result (c ≡ b) = subst (λ (x : Option Bool). UnlessYes x (OnOk result (c ≡ b))) none behind in
    unless_map a1 (b ≡ a) (OnOk result (c ≡ a)) (λ e. on_ok_step result (c ≡ b) (c ≡ a) last (λ f. f ∙ e)) before

pub counts_last : (a1 a2 : Option Bool) (result : Result Unit LogError) (a b c : ℕ) → a1 ≡ None → UnlessYes a1 (b ≡ a) → UnlessYes a2 (OnOk result (c ≡ b)) → UnlessYes a2 (OnOk result (c ≡ a))
counts_last a1 a2 result a b c none before behind =
    let first : b ≡ a = subst (λ (x : Option Bool). UnlessYes x (b ≡ a)) none before in
    unless_map a2 (OnOk result (c ≡ b)) (OnOk result (c ≡ a)) (λ last. on_ok_step result (c ≡ b) (c ≡ a) last (λ f. f ∙ first)) behind

pub counts_failed : (answer : Option Bool) (result : Result Unit LogError) (X : Type 0) → ((Y : Type 0) → OnOk result Y) → UnlessYes answer (OnOk result X)
counts_failed answer result X failed = unless_all answer (OnOk result X) (failed X)

-- a text that was written as a whole, and then what writes nothing
pub text_all : (u : Unit {0}) (text path : List ℕ) (d0 d1 d2 : Disk)
    → Calls d0 d1 (λ added. OnlyWrites path added × WroteText path text (Ok u) added) → Calls d1 d2 Silent → Calls d0 d2 (λ added. written path added ≡ text)
text_all u text path d0 d1 d2 calls silent =
    calls_join d0 d1 d2 _ _ (λ added. written path added ≡ text) calls silent (λ xs ys tells told x y. silent_behind path xs ys (y path) ∙ x.1.1)

all_at : (text path other : List ℕ) (d0 d1 d2 : Disk) → other ≡ path → Calls d0 d1 (λ added. written path added ≡ []) → Calls d1 d2 (λ added. written other added ≡ text)
    → Calls d0 d2 (λ added. written path added ≡ text)
all_at text path other d0 d1 d2 same none wrote =
    calls_join d0 d1 d2 _ _ (λ added. written path added ≡ text) none wrote
    (λ xs ys tells told x y. silent_ahead path xs ys x ∙ subst (λ (p : List ℕ). written p ys ≡ text) same y)

pub none_added : (reading : Option Reading) (r : Record) (c : Context) (path : List ℕ) (d0 d1 : Disk) → Calls d0 d1 (λ added. written path added ≡ []) → Calls d0 d1 (AddsNoneOrAll reading r c path)
none_added reading r c path d0 d1 calls =
    calls_map d0 d1 _ (AddsNoneOrAll reading r c path) calls
    (λ added tells told none. if_all reading (λ read. (written path added ≡ []) ⊎ (written path added ≡ read r c)) (λ read. inl none))

pub all_added : (reading : Option Reading) (r : Record) (c : Context) (text path other : List ℕ) (d0 d1 d2 : Disk) → other ≡ path → IfSome reading (λ read. text ≡ read r c)
    → Calls d0 d1 (λ added. written path added ≡ []) → Calls d1 d2 (λ added. written other added ≡ text) → Calls d0 d2 (AddsNoneOrAll reading r c path)
all_added reading r c text path other d0 d1 d2 same is none wrote =
    calls_map d0 d2 _ (AddsNoneOrAll reading r c path) (all_at text path other d0 d1 d2 same none wrote)
    (λ added tells told all.
    if_map reading (λ read. text ≡ read r c) (λ read. (written path added ≡ []) ⊎ (written path added ≡ read r c)) is (λ read e. inr (all ∙ e)))

no_answer : (answer : Option Bool) → answer ≡ None → IsSome answer → ⊥
no_answer answer none some = cc

late : (o : Option Bool) (first : Bool) → IfSome o (λ b. first ≡ b) → o ≡ Some false → first ≡ false
late o first is last = subst (λ (x : Option Bool). IfSome x (λ b. first ≡ b)) last is

-- no answer of a trigger that is asked afterwards
pub behind_nothing : (reading : Option Reading) (r : Record) (c : Context) (asking : Asking) (k : Keeping) (first : Bool) (path : List ℕ) (answer : Option Bool) (d0 d1 : Disk)
    → IfSome (asks_first asking.kind) (λ b. first ≡ b) → (first ≡ false → answer ≡ None) → AnsweredBehind reading r c asking k path answer d0 d1
behind_nothing reading r c asking k first path answer d0 d1 is none =
    if_all reading (λ read. asks_first asking.kind ≡ Some false → IsTrue k.is_built_in → IsSome answer → Calls d0 d1 (λ added. written path added ≡ read r c))
    (λ read. λ last built some. absurd (no_answer answer (none (late (asks_first asking.kind) first is last)) some))

-- an answer behind the text
pub behind_text : (reading : Option Reading) (r : Record) (c : Context) (asking : Asking) (k : Keeping) (text path other : List ℕ) (answer : Option Bool) (d0 d1 d2 : Disk)
    → other ≡ path → IfSome reading (λ read. text ≡ read r c) → (IsTrue k.is_built_in → Calls d0 d1 (λ added. written path added ≡ []))
    → (IsTrue k.is_built_in → IsSome answer → Calls d1 d2 (λ added. written other added ≡ text)) → AnsweredBehind reading r c asking k path answer d0 d2
behind_text reading r c asking k text path other answer d0 d1 d2 same is none wrote =
    if_map reading (λ read. text ≡ read r c) (λ read. asks_first asking.kind ≡ Some false → IsTrue k.is_built_in → IsSome answer → Calls d0 d2 (λ added. written path added ≡ read r c)) is
    (λ read e. λ last built some. subst (λ (t : List ℕ). Calls d0 d2 (λ added. written path added ≡ t)) e (all_at text path other d0 d1 d2 same (none built) (wrote built some)))

-- Faults

pub own_fault : (result : Result Unit LogError) (fails : Failing) (r : Record) (c : Context) (path : List ℕ) (d0 d1 : Disk) → IfErr result (MayAnswer d0.refusals d1.refusals) → IfErr result (FailsBy fails r c path d0 d1)
own_fault (Ok t) fails r c path d0 d1 fault = tt
own_fault (Err f) fails r c path d0 d1 fault = inl fault

pub texts_fault : (result : Result Unit LogError) (fails : Failing) (r : Record) (c : Context) (path : List ℕ) (d0 d1 : Disk) → IfErr result (fails r c) → Calls d0 d1 (λ added. written path added ≡ []) → IfErr result (FailsBy fails r c path d0 d1)
texts_fault (Ok t) fails r c path d0 d1 fault silent = tt
texts_fault (Err f) fails r c path d0 d1 fault silent = inr (fault, silent)
