-- What operations leave open.
use Rattle.std.proofs.Common.{◌≡◌, ◌≢◌, ℕ, List, [], ◌∷◌, Option, Some, None, refl, sym, ap, ◌∙◌, subst, ◌⊎◌, inl, inr, IsTrue, Bool, true, false, if◌then◌else◌, Result, Ok, Err, OnErr}
use Rattle.log4rs_rolling.specs.declared.store.Renamed.{Renamed}
use Rattle.log4rs_rolling.specs.declared.store.Renamed.TheVariants.{Moved, Missing}
use Rattle.log4rs_rolling.specs.declared.store.StoreError.{StoreError}
use Rattle.std.specs.Option.{IfSome}
use Rattle.std.specs.Str.{bytes_eq}
use Rattle.log4rs_rolling.specs.Change.{Change, Files, put, renamed, replay}
use Rattle.log4rs_rolling.specs.Disk.{Disk, Does, Refuses, Calls, Told, files_of, closed_at, one_more}
use Rattle.log4rs_rolling.specs.Keeping.{LeavesOpen}
use Rattle.log4rs_rolling.proofs.Replays.{put_there}
use Rattle.log4rs_rolling.proofs.Calls.{files_after, same_path}

apart_from : (p q : List ℕ) → bytes_eq p q ≡ false → p ≢ q
apart_from p q not = λ e. absurd (clash (sym (same_path q) ∙ ap (λ (x : List ℕ). bytes_eq x q) (sym e) ∙ not)) where
  clash : true ≡ false → ⊥
  clash e = cc

left_open : (d0 d1 : Disk) (from to : List ℕ) (added : List Change) → Told d0 d1 added
    → ((q : List ℕ) → q ≢ from → q ≢ to → replay (files_of d0) added q ≡ files_of d0 q)
    → (o : Option (List ℕ)) → d0.opened ≡ o → d1.opened ≡ closed_at from (closed_at to o)
    → (d1.opened ≡ None) ⊎ ((d1.opened ≡ o) × IfSome o (λ path. files_of d1 path ≡ files_of d0 path))
left_open d0 d1 from to added told same None was is = inl is
left_open d0 d1 from to added told same (Some p) was is = by_to (bytes_eq p to) refl where
  by_from : (b : Bool) → bytes_eq p from ≡ b → p ≢ to → d1.opened ≡ (if b then None else Some p)
      → (d1.opened ≡ None) ⊎ ((d1.opened ≡ Some p) × IfSome (Some p) (λ path. files_of d1 path ≡ files_of d0 path))
  by_from true e other is = inl is
  by_from false e other is = inr (is, ap (λ (f : Files). f p) (files_after d0 d1 added told) ∙ same p (apart_from p from e) other)

  by_to : (b : Bool) → bytes_eq p to ≡ b → (d1.opened ≡ None) ⊎ ((d1.opened ≡ Some p) × IfSome (Some p) (λ path. files_of d1 path ≡ files_of d0 path))
  by_to true e = inl (is ∙ ap (λ (b : Bool). closed_at from (if b then None else Some p)) e)
  by_to false e = by_from (bytes_eq p from) refl (apart_from p to e) (is ∙ ap (λ (b : Bool). closed_at from (if b then None else Some p)) e)

-- a rename, or what was none
pub renames_leave : (d0 d1 : Disk) (from to : List ℕ) (added : List Change) (count : ℕ) → Does d0 d1 added count (closed_at from (closed_at to d0.opened))
    → (added ≡ []) ⊎ (added ≡ renamed from to ∷ []) → LeavesOpen d0 d1
renames_leave d0 d1 from to added count does one = λ tells. left_open d0 d1 from to added (does.told tells) (others one) d0.opened refl (does.opened tells) where
  others : (added ≡ []) ⊎ (added ≡ renamed from to ∷ []) → (q : List ℕ) → q ≢ from → q ≢ to → replay (files_of d0) added q ≡ files_of d0 q
  others (inl none) = λ q a b. ap (λ (c : List Change). replay (files_of d0) c q) none
  others (inr once) = λ q a b. ap (λ (c : List Change). replay (files_of d0) c q) once ∙ put_there (put (files_of d0) from None) to (files_of d0 from) q b ∙ put_there (files_of d0) from None q a

pub rename_leaves : (d0 d1 : Disk) (from to : List ℕ) (r : Result Renamed StoreError)
    → (r ≡ Ok Moved → Does d0 d1 (renamed from to ∷ []) d0.refusals (closed_at from (closed_at to d0.opened)))
    → (r ≡ Ok Missing → Does d0 d1 [] d0.refusals (closed_at from (closed_at to d0.opened)))
    → OnErr r (Refuses d0 d1 (closed_at from (closed_at to d0.opened))) → LeavesOpen d0 d1
rename_leaves d0 d1 from to (Ok Moved) moved missing refused = renames_leave d0 d1 from to (renamed from to ∷ []) d0.refusals (moved refl) (inr refl)
rename_leaves d0 d1 from to (Ok Missing) moved missing refused = renames_leave d0 d1 from to [] d0.refusals (missing refl) (inl refl)
rename_leaves d0 d1 from to (Err e) moved missing refused = renames_leave d0 d1 from to [] (one_more d0.refusals) refused (inl refl)

pub leaves_join : (d0 d1 d2 : Disk) (P : List Change → Type 0) → Calls d0 d1 P → LeavesOpen d0 d1 → LeavesOpen d1 d2 → LeavesOpen d0 d2
leaves_join d0 d1 d2 P calls a b = λ tells. elim (b (subst IsTrue (sym calls.tells) tells)) [
  | inl none ↦ inl none
  | inr kept ↦ elim (a tells) [
    | inl none ↦ inl (kept.0 ∙ none)
    | inr was ↦ inr (kept.0 ∙ was.0, both d0.opened was.1 (subst (λ (o : Option (List ℕ)). IfSome o (λ path. files_of d2 path ≡ files_of d1 path)) was.0 kept.1))
  ]
] where
  both : (o : Option (List ℕ)) → IfSome o (λ path. files_of d1 path ≡ files_of d0 path) → IfSome o (λ path. files_of d2 path ≡ files_of d1 path) → IfSome o (λ path. files_of d2 path ≡ files_of d0 path)
  both None x y = tt
  both (Some p) x y = y ∙ x

pub leaves_still : (d0 d1 : Disk) → Calls d0 d1 (λ added. added ≡ []) → (IsTrue d0.tells → d1.opened ≡ d0.opened) → LeavesOpen d0 d1
leaves_still d0 d1 calls same = λ tells. let was = calls.told tells in inr (same tells, all was.0 was.1 was.2 d0.opened) where
  all : (added : List Change) → Told d0 d1 added → added ≡ [] → (o : Option (List ℕ)) → IfSome o (λ path. files_of d1 path ≡ files_of d0 path)
  all added told none None = tt
  all added told none (Some p) = ap (λ (f : Files). f p) (files_after d0 d1 added told ∙ ap (replay (files_of d0)) none)
