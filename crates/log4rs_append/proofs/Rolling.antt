-- What the sink of a rolling appender gains.
use Rattle.std.proofs.Common.{◌≡◌, ◌≤◌, ℕ, zero, suc, List, [], ◌∷◌, ◌++◌, length, take, drop, Option, Some, None, refl, sym, ap, ◌∙◌, append-nil, subst, Bool, true, false, ◌&&◌, IsTrue, IfSome, OnErr, OnOk, if◌then◌else◌, Result, Ok, Err, IfErr, arith, inl, inr, is_some, rules}
use Rattle.log4rs_rolling.specs.Change.{Change, opened, wrote, renamed, copied, removed, written}
use Rattle.std.proofs.lemmas.List.{take_all}
use Rattle.log4rs_rolling.proofs.Calls.{calls_map}
use Rattle.log4rs_rolling.specs.declared.store.Open.TheVariants.{Append}
use Rattle.log4rs_rolling.specs.RetiredAppends.{AddsRetired, IsRefusal, OpenedAndWrote, OpenedToWrite}
use Rattle.log4rs_rolling.specs.Faults.{MayAnswer}
use Rattle.std.specs.Option.{IsSome}
use Rattle.log4rs_encode.specs.Runs.{Run}
use Rattle.log4rs_rolling.specs.Disk.{Disk, Calls}
use Rattle.log4rs_rolling.specs.LogFile.{IsClosed, is_open, log_path}
use Rattle.log4rs_rolling.specs.declared.log_file.LogFile.{LogFile}
use Rattle.log4rs_base.specs.declared.record.Record.{Record}
use Rattle.log4rs_base.specs.declared.record.Context.{Context}
use Rattle.log4rs_base.specs.declared.error.LogError.{LogError}
use Rattle.log4rs_rolling.proofs.Written.{written-append}
use Rattle.log4rs_rolling.specs.FileChanges.{IsBeginning, OnlyOpens}
use Rattle.log4rs_rolling.specs.Appends.{Adds, WroteText}
use Rattle.log4rs_rolling.specs.Keeping.{Silent}
use Rattle.log4rs_append.specs.Texts.{shown_bytes}
use Rattle.log4rs_append.specs.Sink.{Reading, Bytes, Gains, bytes_of, plain_reading}
use Rattle.log4rs_append.specs.PlainFile.{IsShut}
use Rattle.log4rs_append.specs.Rolling.{since_bytes, begun_empty}

drop_front : (n : ℕ) (xs ys : List Change) → n ≤ length xs → drop n (xs ++ ys) ≡ drop n xs ++ ys
drop_front zero xs ys h = refl
drop_front (suc n) [] ys h = absurd (omega arith)
drop_front (suc n) (x ∷ xs) ys h = drop_front n xs ys (omega arith)

drop_whole : (xs ys : List Change) → xs ≡ ys → drop (length xs) ys ≡ []
drop_whole [] ys e = sym e
drop_whole (x ∷ xs) ys e = subst (λ (zs : List Change). drop (length (x ∷ xs)) zs ≡ []) e (drop_whole xs xs refl)

-- bytes that grow by a text, or by a beginning of it after a fault
abbrev pub Grown : List ℕ → Result Unit LogError → List ℕ → List ℕ → Type 0
Grown text (Ok u) before now = now ≡ before ++ text
Grown text (Err fault) before now = (n : ℕ) × (now ≡ before ++ take n text)

pub gains_bytes : (reading : Option Reading) (r : Record) (c : Context) (result : Result Unit LogError) (b0 b1 : Bool) (h0 h1 : List ℕ) → b1 ≡ b0
    → (IsTrue b0 → IfSome reading (λ read. Grown (read r c) result h0 h1))
    → Gains r c result (bytes_of reading (if b0 then Some h0 else None)) (bytes_of reading (if b1 then Some h1 else None))
gains_bytes None r c result b0 b1 h0 h1 same grown = refl
gains_bytes (Some read) r c result false b1 h0 h1 same grown = ap (λ (b : Bool). bytes_of (Some read) (if b then Some h1 else None)) same
gains_bytes (Some read) r c (Ok u) true b1 h0 h1 same grown = ap (λ (b : Bool). bytes_of (Some read) (if b then Some h1 else None)) same ∙ ap (Bytes read) (grown refl)
gains_bytes (Some read) r c (Err fault) true b1 h0 h1 same grown =
    let g = grown refl in (g.0, ap (λ (b : Bool). bytes_of (Some read) (if b then Some h1 else None)) same ∙ ap (Bytes read) g.1)

grown_by : (text added h0 h1 : List ℕ) (result : Result Unit LogError) → IsBeginning added text → OnOk result (added ≡ text) → h1 ≡ h0 ++ added → Grown text result h0 h1
grown_by text added h0 h1 (Ok u) begins whole is = is ∙ ap (λ (b : List ℕ). h0 ++ b) whole
grown_by text added h0 h1 (Err fault) begins whole is = (length added, is ∙ ap (λ (b : List ℕ). h0 ++ b) (sym begins))

read_grown : (reading : Option Reading) (r : Record) (c : Context) (path : List ℕ) (result : Result Unit LogError) (added : List Change) (h0 h1 : List ℕ)
    → Adds reading r c path result added → h1 ≡ h0 ++ written path added → IfSome reading (λ read. Grown (read r c) result h0 h1)
read_grown None r c path result added h0 h1 adds is = tt
read_grown (Some read) r c path result added h0 h1 adds is = grown_by (read r c) (written path added) h0 h1 result adds.0 adds.1 is

pub both_true : (a b : Bool) → IsTrue (a && b) → IsTrue a × IsTrue b
both_true true b is = (refl, is)
both_true false b is = absurd (no is) where
  no : IsTrue false → ⊥
  no e = cc

-- the bytes written to a rolled file since its opening, after an append
pub since_gains : (reading0 reading1 : Option Reading) (r : Record) (c : Context) (result : Result Unit LogError) (built0 built1 : Bool) (path0 path1 : List ℕ) (opening0 opening1 d0 d1 : Disk)
    → reading1 ≡ reading0 → built1 ≡ built0 → path1 ≡ path0 → opening1 ≡ opening0
    → (IsTrue d0.tells → length opening0.changes ≤ length d0.changes)
    → Calls d0 d1 (λ added. Unit {0}) → (IsTrue built0 → Calls d0 d1 (Adds reading0 r c path0 result))
    → Gains r c result (bytes_of reading0 (since_bytes built0 path0 opening0 d0)) (bytes_of reading1 (since_bytes built1 path1 opening1 d1))
since_gains reading0 reading1 r c result built0 built1 path0 path1 opening0 opening1 d0 d1 er eb ep eo later calls adds =
    let n : ℕ = length opening0.changes in
    subst (λ (o : Option Reading). Gains r c result (bytes_of reading0 (since_bytes built0 path0 opening0 d0)) (bytes_of o (since_bytes built1 path1 opening1 d1))) (sym er)
    (subst (λ (b : Bool). Gains r c result (bytes_of reading0 (since_bytes built0 path0 opening0 d0)) (bytes_of reading0 (since_bytes b path1 opening1 d1))) (sym eb)
    (subst (λ (p : List ℕ). Gains r c result (bytes_of reading0 (since_bytes built0 path0 opening0 d0)) (bytes_of reading0 (since_bytes built0 p opening1 d1))) (sym ep)
    (subst (λ (o : Disk). Gains r c result (bytes_of reading0 (since_bytes built0 path0 opening0 d0)) (bytes_of reading0 (since_bytes built0 path0 o d1))) (sym eo)
    (gains_bytes reading0 r c result (d0.tells && built0) (d1.tells && built0) (written path0 (drop n d0.changes)) (written path0 (drop n d1.changes))
    (ap (λ (b : Bool). b && built0) calls.tells)
    (λ on.
    let is = both_true d0.tells built0 on in
    let was = (adds is.1).told is.0 in
    read_grown reading0 r c path0 result was.0 (written path0 (drop n d0.changes)) (written path0 (drop n d1.changes)) was.2
    (ap (λ (x : List Change). written path0 (drop n x)) was.1.changes
    ∙ ap (written path0) (drop_front n d0.changes was.0 (later is.0))
    ∙ written-append path0 (drop n d0.changes) was.0))))))

-- what was written since an opening, at that opening
pub begins_empty : (reading : Option Reading) (built0 built1 : Bool) (path : List ℕ) (opening d0 d1 : Disk) → built1 ≡ built0 → opening ≡ d1 → d1.tells ≡ d0.tells
    → bytes_of reading (since_bytes built1 path opening d1) ≡ bytes_of reading (begun_empty built0 d0)
begins_empty reading built0 built1 path opening d0 d1 eb eo et =
    rw (eb, eo, et) (ap (λ (cs : List Change). bytes_of reading (if d0.tells && built0 then Some (written path cs) else None)) (drop_whole d1.changes d1.changes refl))

bytes_if : (b0 b1 : Bool) (h0 h1 : List ℕ) → b1 ≡ b0 → (IsTrue b0 → h1 ≡ h0) → (if b1 then Some h1 else None) ≡ (if b0 then Some h0 else None)
bytes_if false b1 h0 h1 same e = ap (λ (b : Bool). if b then Some h1 else None) same
bytes_if true b1 h0 h1 same e = ap (λ (b : Bool). if b then Some h1 else None) same ∙ ap Some (e refl)

same_bytes : (built : Bool) (path : List ℕ) (opening d0 d1 : Disk)
    → (IsTrue d0.tells → length opening.changes ≤ length d0.changes)
    → Calls d0 d1 (λ added. Unit {0}) → (IsTrue built → Calls d0 d1 Silent)
    → since_bytes built path opening d1 ≡ since_bytes built path opening d0
same_bytes built path opening d0 d1 later calls silent =
    let n : ℕ = length opening.changes in
    bytes_if (d0.tells && built) (d1.tells && built) (written path (drop n d0.changes)) (written path (drop n d1.changes))
    (ap (λ (b : Bool). b && built) calls.tells)
    (λ on.
    let is = both_true d0.tells built on in
    let was = (silent is.1).told is.0 in
    ap (λ (x : List Change). written path (drop n x)) was.1.changes
    ∙ ap (written path) (drop_front n d0.changes was.0 (later is.0))
    ∙ written-append path (drop n d0.changes) was.0
    ∙ ap (λ (b : List ℕ). written path (drop n d0.changes) ++ b) (was.2 path)
    ∙ append-nil (written path (drop n d0.changes)))

-- the bytes written to a rolled file since its opening, after calls that write nothing
pub since_silent : (reading0 reading1 : Option Reading) (built0 built1 : Bool) (path0 path1 : List ℕ) (opening0 opening1 d0 d1 : Disk)
    → reading1 ≡ reading0 → built1 ≡ built0 → path1 ≡ path0 → opening1 ≡ opening0
    → (IsTrue d0.tells → length opening0.changes ≤ length d0.changes)
    → Calls d0 d1 (λ added. Unit {0}) → (IsTrue built0 → Calls d0 d1 Silent)
    → bytes_of reading1 (since_bytes built1 path1 opening1 d1) ≡ bytes_of reading0 (since_bytes built0 path0 opening0 d0)
since_silent reading0 reading1 built0 built1 path0 path1 opening0 opening1 d0 d1 er eb ep eo later calls silent =
    rw (er, eb, ep, eo) (ap (bytes_of reading0) (same_bytes built0 path0 opening0 d0 d1 later calls silent))

-- the text of a record by what its encoder renders
pub read_text : (told : Option (Record → Context → List Run)) (r : Record) (c : Context) (text : List ℕ) → IfSome told (λ runs. text ≡ shown_bytes false (runs r c)) → IfSome (plain_reading told) (λ read. text ≡ read r c)
read_text None r c text is = tt
read_text (Some runs) r c text is = is

-- Retired files

only_silent : (path at : List ℕ) (added : List Change) → OnlyOpens at Append added → written path added ≡ []
only_silent path at [] only = refl
only_silent path at (opened place how ∷ added) only = only_silent path at added only.2
only_silent path at (wrote place bytes ∷ added) only = absurd only
only_silent path at (renamed from to ∷ added) only = absurd only
only_silent path at (copied from to ∷ added) only = absurd only
only_silent path at (removed place ∷ added) only = absurd only

pub only_opens_silent : (at : List ℕ) (d0 d1 : Disk) → Calls d0 d1 (OnlyOpens at Append) → Calls d0 d1 Silent
only_opens_silent at d0 d1 calls = calls_map d0 d1 (OnlyOpens at Append) Silent calls (λ added tells told only. λ path. only_silent path at added only)

take_of_take : (n : ℕ) (text : List ℕ) → take (length (take n text)) text ≡ take n text
take_of_take zero text = refl
take_of_take (suc n) [] = refl
take_of_take (suc n) (b ∷ text) = ap (λ (bs : List ℕ). b ∷ bs) (take_of_take n text)

wrote_beginning : (path text : List ℕ) (added : List Change) → OpenedAndWrote path text added → written path added ≡ text
wrote_beginning path text added is = ap (written path) is.1 ∙ is.3

retired_text : (path text : List ℕ) (result : Result Unit LogError) (added : List Change) → OpenedToWrite path text result added → WroteText path text result added
retired_text path text (Ok u) added is =
    let all = wrote_beginning path text added is.0 in (subst (λ (b : List ℕ). IsBeginning b text) (sym all) (take_all (length text) text (omega arith)), all)
retired_text path text (Err fault) added is = elim is.1 [
  | inl none ↦ (subst (λ (c : List Change). IsBeginning (written path c) text) (sym none) refl, tt)
  | inr some ↦ (subst (λ (b : List ℕ). IsBeginning b text) (sym (wrote_beginning path (take some.0 text) added some.1)) (take_of_take some.0 text), tt)
]

retired_adds : (reading : Option Reading) (r : Record) (c : Context) (path : List ℕ) (result : Result Unit LogError) (added : List Change) → AddsRetired reading r c path result added → Adds reading r c path result added
retired_adds None r c path result added is = tt
retired_adds (Some read) r c path result added is = retired_text path (read r c) result added is.1

pub retired_texts : (reading : Option Reading) (r : Record) (c : Context) (path : List ℕ) (result : Result Unit LogError) (d0 d1 : Disk) → Calls d0 d1 (AddsRetired reading r c path result)
    → Calls d0 d1 (Adds reading r c path result)
retired_texts reading r c path result d0 d1 calls = calls_map d0 d1 _ (Adds reading r c path result) calls (λ added tells told is. retired_adds reading r c path result added is)

pub known_reading : (told : Option (Record → Context → List Run)) → IsTrue (is_some told) → IsSome (plain_reading told)
known_reading None some = absurd (no some) where
  no : IsTrue false → ⊥
  no e = cc
known_reading (Some runs) some = search rules

may_answer : (fault : LogError) (d0 d1 : Disk) → IsRefusal d0 d1 fault → MayAnswer d0.refusals d1.refusals fault
may_answer fault d0 d1 is = subst (MayAnswer d0.refusals d1.refusals) (sym is.0) is.1

pub refusal_may : (result : Result Unit LogError) (d0 d1 : Disk) → IfErr result (IsRefusal d0 d1) → IfErr result (MayAnswer d0.refusals d1.refusals)
refusal_may (Ok u) d0 d1 is = tt
refusal_may (Err fault) d0 d1 is = may_answer fault d0 d1 is

-- a file that was opened again is open, where its store tells
pub opened_again : (result : Result (Unit {0}) LogError) (log : LogFile) (disk : Disk) (path : List ℕ) → OnOk result (IsTrue (is_open log))
    → (IsTrue disk.tells → disk.opened ≡ (if is_open log then Some (log_path log) else None)) → log_path log ≡ path
    → OnOk result (IsTrue disk.tells → disk.opened ≡ Some path)
opened_again (Ok u) log disk path is agrees same = λ tells. agrees tells ∙ ap (λ (b : Bool). if b then Some (log_path log) else None) is ∙ ap Some same
opened_again (Err fault) log disk path is agrees same = tt

pub shut_again : (result : Result (Unit {0}) LogError) (log : LogFile) (disk : Disk) → OnErr result (IsClosed log disk) → OnErr result (IsShut disk)
shut_again (Ok u) log disk is = tt
shut_again (Err fault) log disk is = is.1
