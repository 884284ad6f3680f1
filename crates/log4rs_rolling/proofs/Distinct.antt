-- Names that are pairwise different, found one after another.
use Rattle.std.proofs.Common.{◌≡◌, ◌+◌, ℕ, zero, suc, List, [], ◌∷◌, ◌++◌, append_assoc, Bool, String, Option, true, false, ◌||◌, not, refl, sym, ap, subst, ◌∙◌, arith, inl, inr, cond}
use Rattle.std.proofs.lemmas.Bool.{cases_Bool, true≢false}
use Rattle.std.proofs.lemmas.Slice.Eq.{bytes_eq-Decides}
use Rattle.std.specs.List.{list_any}
use Rattle.std.specs.Str.{bytes_eq}
use Rattle.std.specs.String.{string_bytes, string_cmp}
use Rattle.std.specs.BTreeSet.{BTreeSet, Updates, contains_text}
use Rattle.std.specs.declared.alloc.Global.{Global}
use Rattle.std.proofs.lemmas.Map.Text.{btree_set_updates_text}
use Rattle.std.specs.Option.{option_to_list}
use Rattle.log4rs_rolling.specs.declared.fixed_window.Job.{Job}
use Rattle.log4rs_rolling.specs.Keeping.{names_of}
use Rattle.log4rs_rolling.specs.Moves.{archive_names}
use Rattle.log4rs_rolling.specs.Roller.{names_beside, waiting_if, window_with}
use Rattle.log4rs_rolling.specs.Window.{NotAmong, AreDistinct}

-- whether a name is one of these
abbrev pub is_among : List ℕ → List (List ℕ) → Bool
is_among name names = list_any (bytes_eq name) names

-- the names of so many archives, and those beside them
abbrev pub names_to : (ℕ → List ℕ) → ℕ → List (List ℕ) → ℕ → List (List ℕ)
names_to name base others n = archive_names name base n ++ others

or_false : (x y : Bool) → (x || y) ≡ false → (x ≡ false) × (y ≡ false)
or_false true y e = absurd (true≢false e)
or_false false y e = (refl, e)

pub not_among : (name : List ℕ) (names : List (List ℕ)) → is_among name names ≡ false → NotAmong name names
not_among name [] none = tt
not_among name (other ∷ others) none =
    let both = or_false (bytes_eq name other) (is_among name others) none in
    (λ same. true≢false (sym ((bytes_eq-Decides name other).1 same) ∙ both.0), not_among name others both.1)

pub among : (name : List ℕ) (names : List (List ℕ)) → is_among name names ≡ true → NotAmong name names → ⊥
among name [] is none = absurd (true≢false (sym is))
among name (other ∷ others) is none =
    elim (cases_Bool (bytes_eq name other)) [
      | inl same ↦ none.0 ((bytes_eq-Decides name other).0 same)
      | inr differs ↦ among name others (rw differs at is) none.1
    ]

-- fewer names are distinct too
pub fewer : (name : ℕ → List ℕ) (base : ℕ) (others : List (List ℕ)) (more less : ℕ)
    → AreDistinct (names_to name base others (less + more)) → AreDistinct (names_to name base others less)
fewer name base others zero less are = subst (λ n. AreDistinct (names_to name base others n)) (omega arith) are
fewer name base others (suc more) less are =
    let one : less + suc more ≡ suc (less + more) = omega arith in
    fewer name base others more less (subst (λ n. AreDistinct (names_to name base others n)) one are).1

-- all names of a roller are those of its archives and those beside them
pub all_names : (name : ℕ → List ℕ) (base count : ℕ) (rename_only background asked : Bool) (job : Option Job) (file : List ℕ)
    → names_of (window_with name base count rename_only background asked job) file ≡ names_to name base (names_beside background file) count
all_names name base zero rename_only background asked job file = append_assoc [] (option_to_list (waiting_if background file)) (file ∷ [])
all_names name base (suc n) rename_only background asked job file = append_assoc (archive_names name base (suc n)) (option_to_list (waiting_if background file)) (file ∷ [])

pub was_there : (new there : Bool) → new ≡ not there → new ≡ false → there ≡ true
was_there new true e h = refl
was_there new false e h = absurd (true≢false (sym e ∙ h))

pub was_new : (new there : Bool) → new ≡ not there → new ≡ true → there ≡ false
was_new new true e h = absurd (true≢false (sym h ∙ e))
was_new new false e h = refl

either : (b c x y : Bool) → b ≡ c → x ≡ y → cond b true x ≡ (c || y)
either b true x y same rest = ap (λ t. cond t true x) same
either b false x y same rest = ap (λ t. cond t true x) same ∙ rest

bytes_eq_swap : (p q : List ℕ) → bytes_eq p q ≡ bytes_eq q p
bytes_eq_swap p q = grind (arith, bytes_eq-Decides)

-- a set of names after one more
pub one_more : (old new : BTreeSet (String Global)) (key : String Global) (names : List (List ℕ)) → Updates string_cmp old new key true
    → ((name : List ℕ) → contains_text old name ≡ is_among name names)
    → (name : List ℕ) → contains_text new name ≡ is_among name (string_bytes key ∷ names)
one_more old new key names updates known name =
    btree_set_updates_text (string_bytes key) old new true updates name
    ∙ either _ _ _ _ (bytes_eq_swap (string_bytes key) name) (known name)
