-- Writes to one file, one after another.
use Rattle.std.proofs.Common.{◌≡◌, ◌+◌, ◌-◌, ℕ, length, take, drop, Option, unwrap_or, subst, arith, List, [], ◌∷◌, ◌++◌, refl, sym, ap, ◌∙◌, append_assoc, cond, Bool}
use Rattle.std.proofs.lemmas.List.{append-nil, take_all, length-drop}
use Rattle.std.proofs.Math.Seq.{take-add}
use Rattle.log4rs_rolling.specs.Disk.{Disk, Calls, Writes, Refuses, SameOpen, open_path, one_more}
use Rattle.log4rs_rolling.proofs.Calls.{calls_one, calls_join, one_more_above}
use Rattle.log4rs_rolling.specs.Change.{Change, opened, wrote, renamed, copied, removed, written, written_by}
use Rattle.log4rs_rolling.specs.FileChanges.{OnlyWrites, WroteFirst}
use Rattle.log4rs_rolling.proofs.Calls.{same_path}

pub written-append : (path : List ℕ) (xs ys : List Change) → written path (xs ++ ys) ≡ written path xs ++ written path ys
written-append path [] ys = refl
written-append path (x ∷ xs) ys =
    ap (λ (c : List ℕ). written_by path x ++ c) (written-append path xs ys) ∙ sym (append_assoc (written_by path x) (written path xs) (written path ys))

pub OnlyWrites-more : (path bytes : List ℕ) (xs : List Change) → OnlyWrites path xs → OnlyWrites path (xs ++ wrote path bytes ∷ [])
OnlyWrites-more path bytes [] h = (refl, tt)
OnlyWrites-more path bytes (wrote at more ∷ xs) h = (h.0, OnlyWrites-more path bytes xs h.1)
OnlyWrites-more path bytes (opened at how ∷ xs) h = absurd h
OnlyWrites-more path bytes (renamed from to ∷ xs) h = absurd h
OnlyWrites-more path bytes (copied from to ∷ xs) h = absurd h
OnlyWrites-more path bytes (removed at ∷ xs) h = absurd h

pub written-more : (path bytes : List ℕ) (xs : List Change) → written path (xs ++ wrote path bytes ∷ []) ≡ written path xs ++ bytes
written-more path bytes xs =
    written-append path xs (wrote path bytes ∷ [])
    ∙ ap (λ (c : List ℕ). written path xs ++ c) (append-nil (written_by path (wrote path bytes)) ∙ ap (λ (b : Bool). cond b bytes []) (same_path path))

-- a write takes some of the bytes that are left
pub write_more : (d0 d1 d2 : Disk) (bytes : List ℕ) (done n : ℕ)
    → Calls d0 d1 (WroteFirst d0 bytes done) → SameOpen d0 d1
    → Writes d1 d2 (take (length bytes - done) (drop done bytes)) n
    → Calls d0 d2 (WroteFirst d0 bytes (done + n))
write_more d0 d1 d2 bytes done n before open_file now =
    let left : take (length bytes - done) (drop done bytes) ≡ drop done bytes = take_all (length bytes - done) (drop done bytes) (omega (arith, length-drop done bytes)) in
    let piece = take n (take (length bytes - done) (drop done bytes)) in
    calls_join d0 d1 d2 (WroteFirst d0 bytes done) (λ es. es ≡ wrote (open_path d1) piece ∷ []) (WroteFirst d0 bytes (done + n))
    before (calls_one d1 d2 d1.opened _ (wrote (open_path d1) piece ∷ []) d1.refusals now.does (omega arith) (λ _. refl))
    (λ xs ys tells told was is.
    let same : open_path d1 ≡ open_path d0 = ap (λ (o : Option (List ℕ)). unwrap_or o []) (open_file tells) in
    let last : ys ≡ wrote (open_path d0) piece ∷ [] = is ∙ ap (λ (p : List ℕ). wrote p piece ∷ []) same in (
      subst (λ (c : List Change). OnlyWrites (open_path d0) (xs ++ c)) (sym last) (OnlyWrites-more (open_path d0) piece xs was.0),
      ap (λ (c : List Change). written (open_path d0) (xs ++ c)) last
          ∙ written-more (open_path d0) piece xs
          ∙ ap (λ (c : List ℕ). c ++ piece) was.1
          ∙ ap (λ (c : List ℕ). take done bytes ++ take n c) left
          ∙ sym (take-add done n bytes),
    ))

-- a refused write leaves what was written
pub write_refused : (d0 d1 d2 : Disk) (bytes : List ℕ) (done : ℕ)
    → Calls d0 d1 (WroteFirst d0 bytes done) → Refuses d1 d2 d1.opened
    → Calls d0 d2 (WroteFirst d0 bytes done)
write_refused d0 d1 d2 bytes done before now =
    calls_join d0 d1 d2 (WroteFirst d0 bytes done) (λ es. es ≡ []) (WroteFirst d0 bytes done)
    before (calls_one d1 d2 d1.opened _ [] (one_more d1.refusals) now (one_more_above d1.refusals) (λ _. refl))
    (λ xs ys tells told was is. subst (WroteFirst d0 bytes done) (sym (ap (λ (c : List Change). xs ++ c) is ∙ append-nil xs)) was)
