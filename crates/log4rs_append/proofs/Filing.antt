-- What the file of a path holds.
use Rattle.std.proofs.Common.{◌≡◌, ◌≢◌, ℕ, ◌≤◌, Bool, true, false, IsTrue, IfSome, Ok, Err, Result, List, [], ◌∷◌, ◌++◌, length, take, Option, Some, None, unwrap_or, if◌then◌else◌, refl, ap, sym, subst, ◌∙◌, inl, inr, arith}
use Rattle.std.proofs.lemmas.List.{append-nil, take_all}
use Rattle.std.specs.Str.{bytes_eq}
use Rattle.std.proofs.lemmas.Slice.Eq.{bytes_eq-Decides}
use Rattle.std.specs.Io.KnownBytes.{append_known}
use Rattle.log4rs_rolling.specs.Change.{Change, opened, Files, after, replay, bytes_at, written}
use Rattle.log4rs_rolling.specs.Disk.{Disk, Does, Calls, files_of}
use Rattle.log4rs_base.specs.declared.error.LogError.{LogError}
use Rattle.log4rs_base.specs.declared.record.Record.{Record}
use Rattle.log4rs_base.specs.declared.record.Context.{Context}
use Rattle.log4rs_rolling.specs.declared.store.Open.{Open}
use Rattle.log4rs_rolling.specs.declared.store.Open.TheVariants.{Append, Truncate}
use Rattle.log4rs_encode.specs.Runs.{Run, plain_bytes}
use Rattle.log4rs_rolling.specs.FileChanges.{OnlyWrites, WroteFirst}
use Rattle.log4rs_rolling.proofs.Calls.{calls_one, files_after}
use Rattle.log4rs_rolling.specs.RetiredAppends.{AddsRetired, OpenedAndWrote, OpenedToWrite}
use Rattle.log4rs_rolling.proofs.Quiet.{nothing_more}
use Rattle.log4rs_rolling.proofs.Retiring.{adds_some}
use Rattle.log4rs_rolling.proofs.Parts.{of_some, writes_apart, writes_bytes}
use Rattle.log4rs_append.specs.File.{path_bytes, begun, kept}
use Rattle.log4rs_append.specs.PlainFile.{OpensOnly}
use Rattle.log4rs_append.specs.Sink.{Reading, plain_reading, bytes_of, Gains}
use Rattle.log4rs_append.proofs.Rolling.{Grown, gains_bytes}

-- writes of no bytes change no file
quiet_writes : (files : Files) (q path : List ℕ) (added : List Change) → OnlyWrites q added → written q added ≡ [] → bytes_at (replay files added) path ≡ bytes_at files path
quiet_writes files q path added only none = by (bytes_eq path q) refl where
  clash : false ≡ true → ⊥
  clash e = cc

  by : (b : Bool) → bytes_eq path q ≡ b → bytes_at (replay files added) path ≡ bytes_at files path
  by true e = let same : path ≡ q = (bytes_eq-Decides path q).0 e in
      subst (λ (p : List ℕ). bytes_at (replay files added) p ≡ bytes_at files p) (sym same)
      (writes_bytes files q added only ∙ ap (λ (b : List ℕ). bytes_at files q ++ b) none ∙ append-nil (bytes_at files q))
  by false e = let other : path ≢ q = λ same. clash (sym e ∙ (bytes_eq-Decides path q).1 same) in
      ap (λ (v : Option (List ℕ)). unwrap_or v []) (writes_apart files q added path only other)

-- what is written to the open file is written to the file of the path, or it is nothing
grown : (o : Option (List ℕ)) (files : Files) (path bytes : List ℕ) (added : List Change) → ((at : List ℕ) → o ≡ Some at → at ≡ path) → (o ≡ None → bytes ≡ [])
    → OnlyWrites (unwrap_or o []) added → written (unwrap_or o []) added ≡ bytes → bytes_at (replay files added) path ≡ bytes_at files path ++ bytes
grown (Some at) files path bytes added same none only is =
    subst (λ (p : List ℕ). bytes_at (replay files added) p ≡ bytes_at files p ++ bytes) (same at refl)
    (writes_bytes files at added only ∙ ap (λ (b : List ℕ). bytes_at files at ++ b) is)
grown None files path bytes added same none only is =
    quiet_writes files [] path added only (is ∙ none refl) ∙ sym (append-nil (bytes_at files path)) ∙ ap (λ (b : List ℕ). bytes_at files path ++ b) (sym (none refl))

take_none : (n : ℕ) (text : List ℕ) → n ≡ 0 → take n text ≡ []
take_none n text none = ap (λ (k : ℕ). take k text) none

-- the first n bytes of a text were written
bytes_written : (path : List ℕ) (d0 d1 : Disk) (text : List ℕ) (n : ℕ) → OpensOnly path d0 → Calls d0 d1 (WroteFirst d0 text n) → (IsTrue d0.tells → d0.opened ≡ None → n ≡ 0)
    → IsTrue d0.tells → bytes_at (files_of d1) path ≡ bytes_at (files_of d0) path ++ take n text
bytes_written path d0 d1 text n opens calls shut tells =
    let was = calls.told tells in
    ap (λ (f : Files). bytes_at f path) (files_after d0 d1 was.0 was.1)
    ∙ grown d0.opened (files_of d0) path (take n text) was.0 (opens tells) (λ none. take_none n text (shut tells none)) was.2.0 was.2.1

-- the file of the path gains what was made of a record, or a beginning of it
text_gained : (told : Option (Record → Context → List Run)) (r : Record) (c : Context) (result : Result Unit LogError) (path : List ℕ) (d0 d1 : Disk) (text : List ℕ)
    → IfSome told (λ runs. text ≡ plain_bytes (runs r c)) → d1.tells ≡ d0.tells
    → (IsTrue d0.tells → Grown text result (bytes_at (files_of d0) path) (bytes_at (files_of d1) path))
    → Gains r c result (bytes_of (plain_reading told) (path_bytes path d0)) (bytes_of (plain_reading told) (path_bytes path d1))
text_gained None r c result path d0 d1 text made same grows = refl
text_gained (Some runs) r c result path d0 d1 text made same grows =
    gains_bytes (plain_reading (Some runs)) r c result d0.tells d1.tells (bytes_at (files_of d0) path) (bytes_at (files_of d1) path) same
    (λ tells. subst (λ (t : List ℕ). Grown t result (bytes_at (files_of d0) path) (bytes_at (files_of d1) path)) made (grows tells))

pub part_written : (told : Option (Record → Context → List Run)) (r : Record) (c : Context) (fault : LogError) (path : List ℕ) (d0 d1 : Disk) (text : List ℕ) (n : ℕ)
    → IfSome told (λ runs. text ≡ plain_bytes (runs r c)) → OpensOnly path d0 → Calls d0 d1 (WroteFirst d0 text n) → (IsTrue d0.tells → d0.opened ≡ None → n ≡ 0)
    → Gains r c (Err fault) (bytes_of (plain_reading told) (path_bytes path d0)) (bytes_of (plain_reading told) (path_bytes path d1))
part_written told r c fault path d0 d1 text n made opens calls shut =
    text_gained told r c (Err fault) path d0 d1 text made calls.tells (λ tells. (n, bytes_written path d0 d1 text n opens calls shut tells))

pub whole_written : (told : Option (Record → Context → List Run)) (r : Record) (c : Context) (u : Unit {0}) (path : List ℕ) (d0 d1 : Disk) (text : List ℕ) (n : ℕ)
    → IfSome told (λ runs. text ≡ plain_bytes (runs r c)) → OpensOnly path d0 → Calls d0 d1 (WroteFirst d0 text n) → (IsTrue d0.tells → d0.opened ≡ None → n ≡ 0) → length text ≤ n
    → Gains r c (Ok u) (bytes_of (plain_reading told) (path_bytes path d0)) (bytes_of (plain_reading told) (path_bytes path d1))
whole_written told r c u path d0 d1 text n made opens calls shut all =
    text_gained told r c (Ok u) path d0 d1 text made calls.tells
    (λ tells. bytes_written path d0 d1 text n opens calls shut tells ∙ ap (λ (b : List ℕ). bytes_at (files_of d0) path ++ b) (take_all n text all))

-- what is known of a file gains a beginning of the text of a record
pub part_gained : (read : Reading) (r : Record) (c : Context) (fault : LogError) (before after : Option (List ℕ)) (n : ℕ) → after ≡ append_known before (take n (read r c))
    → Gains r c (Err fault) (bytes_of (Some read) before) (bytes_of (Some read) after)
part_gained read r c fault None after n is = ap (bytes_of (Some read)) is
part_gained read r c fault (Some held) after n is = (n, ap (bytes_of (Some read)) is)

known_opened : (how : Open) (f : Files) (path : List ℕ) → bytes_at (after f (opened path how)) path ≡ kept how (bytes_at f path)
known_opened Append f path = of_some f path (bytes_at f path)
known_opened Truncate f path = of_some f path []

-- the file was opened, and a text was written
opened_grown : (files : Files) (path text : List ℕ) (added : List Change) → OpenedAndWrote path text added → bytes_at (replay files added) path ≡ bytes_at files path ++ text
opened_grown files path text added is =
    ap (λ (c : List Change). bytes_at (replay files c) path) is.1
    ∙ writes_bytes (after files (opened path Append)) path is.0 is.2
    ∙ ap (λ (b : List ℕ). b ++ written path is.0) (known_opened Append files path)
    ∙ ap (λ (b : List ℕ). bytes_at files path ++ b) is.3

opened_to_grown : (files : Files) (path text : List ℕ) (result : Result Unit LogError) (added : List Change) (now : List ℕ) → now ≡ bytes_at (replay files added) path → OpenedToWrite path text result added
    → Grown text result (bytes_at files path) now
opened_to_grown files path text (Ok u) added now same is = same ∙ opened_grown files path text added is.0
opened_to_grown files path text (Err fault) added now same is = elim is.1 [
  | inl none ↦ (0, same ∙ ap (λ (c : List Change). bytes_at (replay files c) path) none ∙ sym (append-nil (bytes_at files path)))
  | inr some ↦ (some.0, same ∙ opened_grown files path (take some.0 text) added some.1)
]

pub retired_gains : (told : Option (Record → Context → List Run)) (r : Record) (c : Context) (result : Result Unit LogError) (path : List ℕ) (d0 d1 : Disk) (text : List ℕ)
    → IfSome told (λ runs. text ≡ plain_bytes (runs r c)) → Calls d0 d1 (OpenedToWrite path text result)
    → Gains r c result (bytes_of (plain_reading told) (path_bytes path d0)) (bytes_of (plain_reading told) (path_bytes path d1))
retired_gains told r c result path d0 d1 text made calls =
    text_gained told r c result path d0 d1 text made calls.tells
    (λ tells.
    let was = calls.told tells in
    opened_to_grown (files_of d0) path text result was.0 (bytes_at (files_of d1) path) (ap (λ (f : Files). bytes_at f path) (files_after d0 d1 was.0 was.1)) was.2)

known_begun : (t t' : Bool) (f f' : Files) (how : Open) (path : List ℕ) → t' ≡ t → (IsTrue t → f' ≡ after f (opened path how))
    → (if t' then Some (bytes_at f' path) else None) ≡ (if t then Some (kept how (bytes_at f path)) else None)
known_begun false t' f f' how path same files = rw same refl
known_begun true t' f f' how path same files = rw (same, files refl) (ap Some (known_opened how f path))

-- an opened file holds what was kept of it
bytes_opened : (d0 d1 : Disk) (how : Open) (path : List ℕ) → Does d0 d1 (opened path how ∷ []) d0.refusals (Some path) → path_bytes path d1 ≡ begun how path d0
bytes_opened d0 d1 how path does =
    known_begun d0.tells d1.tells (files_of d0) (files_of d1) how path does.tells
    (λ tells. files_after d0 d1 (opened path how ∷ []) (does.told tells))

pub bytes_opened_at : (d0 d1 : Disk) (how : Open) (path other : List ℕ) → other ≡ path → Does d0 d1 (opened other how ∷ []) d0.refusals (Some other) → path_bytes path d1 ≡ begun how path d0
bytes_opened_at d0 d1 how path other same does = bytes_opened d0 d1 how path (subst (λ (p : List ℕ). Does d0 d1 (opened p how ∷ []) d0.refusals (Some p)) same does)

-- what adds no change, and then an opening
pub opens_after : (d0 d1 d2 : Disk) (how : Open) (path : List ℕ) → Does d0 d1 [] d0.refusals d0.opened → Does d1 d2 (opened path how ∷ []) d1.refusals (Some path)
    → Does d0 d2 (opened path how ∷ []) d0.refusals (Some path)
opens_after d0 d1 d2 how path first second = record {
  tells = second.tells ∙ first.tells;
  refusals = second.refusals ∙ first.refusals;
  told = λ t.
      let p = first.told t in
      let q = second.told (first.tells ∙ t) in record {
        start = q.start ∙ p.start;
        changes = q.changes ∙ ap (λ (cs : List Change). cs ++ opened path how ∷ []) (p.changes ∙ append-nil d0.changes);
      };
  opened = λ t. second.opened (first.tells ∙ t);
}

pub bytes_begun : (d0 d1 d2 : Disk) (how : Open) (path : List ℕ) → Does d0 d1 [] d0.refusals d0.opened → Does d1 d2 (opened path how ∷ []) d1.refusals (Some path)
    → path_bytes path d2 ≡ begun how path d0
bytes_begun d0 d1 d2 how path first second = bytes_opened d0 d2 how path (opens_after d0 d1 d2 how path first second)

-- what is written before a file is closed
pub behind_close : (path other text : List ℕ) (r : Result Unit LogError) (d0 d1 d2 : Disk) → other ≡ path → Calls d0 d1 (OpenedToWrite other text r) → Does d1 d2 [] d1.refusals None
    → Calls d0 d2 (OpenedToWrite path text r)
behind_close path other text r d0 d1 d2 same calls does =
    nothing_more (OpenedToWrite path text r) d0 d1 d2 (subst (λ (p : List ℕ). Calls d0 d1 (OpenedToWrite p text r)) same calls)
    (calls_one d1 d2 None (λ added. added ≡ []) [] d1.refusals does (omega arith) (λ tells. refl))

pub retired_adds : (told : Option (Record → Context → List Run)) (r : Record) (c : Context) (result : Result Unit LogError) (path : List ℕ) (d0 d1 : Disk) (text : List ℕ)
    → IfSome told (λ runs. text ≡ plain_bytes (runs r c)) → Calls d0 d1 (OpenedToWrite path text result) → Calls d0 d1 (AddsRetired (plain_reading told) r c path result)
retired_adds told r c result path d0 d1 text made calls = adds_some (plain_reading told) r c path text result d0 d1 (by told made) calls where
  by : (o : Option (Record → Context → List Run)) → IfSome o (λ runs. text ≡ plain_bytes (runs r c)) → IfSome (plain_reading o) (λ read. text ≡ read r c)
  by None is = tt
  by (Some runs) is = is
