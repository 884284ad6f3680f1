-- Names, colon by colon.
use Rattle.std.proofs.Common.{◌≡◌, ◌≢◌, ℕ, ◌<◌, ◌+◌, Bool, true, false, ◌==◌, ◌&&◌, not, [], ◌∷◌, drop, length, get_or, refl, sym, ap, ◌∙◌, arith, add-one, drop-cons, eqb-true, get_or-drop, length-drop}
use Rattle.std.proofs.lemmas.Bool.{eqb-false}
use Rattle.log4rs_base.specs.Text.{Text}
use Rattle.log4rs_config.specs.Name.{colon, has_paired_colons, is_valid}

drop_first : (s : Text) (i : ℕ) → i < length s → drop i s ≡ get_or s i 0 ∷ drop (i + 1) s
drop_first s i h = rw add-one (drop-cons s i 0 h)

test_true : (b : Bool) (a : ℕ) → (a == colon) ≡ b → a ≡ colon → b ≡ true
test_true true a e h = refl
test_true false a e h = absurd (eqb-false a colon e h)

test_false : (b : Bool) (a : ℕ) → (a == colon) ≡ b → a ≢ colon → b ≡ false
test_false true a e h = absurd (h (eqb-true a colon e))
test_false false a e h = refl

is_colon : (a : ℕ) → a ≡ colon → (a == colon) ≡ true
is_colon a h = test_true (a == colon) a refl h

no_colon : (a : ℕ) → a ≢ colon → (a == colon) ≡ false
no_colon a h = test_false (a == colon) a refl h

-- another byte in front
paired-byte : (a : ℕ) (rest : Text) → a ≢ colon → has_paired_colons (a ∷ rest) ≡ has_paired_colons rest
paired-byte a [] h = rw (no_colon a h) refl
paired-byte a (b ∷ rest) h = rw (no_colon a h) refl

-- a colon in front that is none of two
paired-alone : (a : ℕ) (rest : Text) → a ≡ colon → (1 < length rest → get_or rest 0 0 ≡ colon → get_or rest 1 0 ≢ colon → ⊥) → has_paired_colons (a ∷ rest) ≡ false
paired-alone a [] p h = rw (is_colon a p) refl
paired-alone a (b ∷ []) p h = rw (is_colon a p) (either (b == colon))
  where
    either : (t : Bool) → ((t && false) && true) ≡ false
    either true = refl
    either false = refl
paired-alone a (b ∷ c ∷ rest) p h = rw (is_colon a p) (either (b == colon) (c == colon) refl refl)
  where
    either : (t u : Bool) → (b == colon) ≡ t → (c == colon) ≡ u → ((t && not u) && has_paired_colons (c ∷ rest)) ≡ false
    either true true e f = refl
    either true false e f = absurd (h (omega arith) (eqb-true b colon e) (eqb-false c colon f))
    either false u e f = refl

-- one byte further
pub valid-byte : (s : Text) (i : ℕ) → i < length s → get_or s i 0 ≢ colon → has_paired_colons s ≡ has_paired_colons (drop i s) → has_paired_colons s ≡ has_paired_colons (drop (i + 1) s)
valid-byte s i h other e = e ∙ ap has_paired_colons (drop_first s i h) ∙ paired-byte (get_or s i 0) (drop (i + 1) s) other

whole : (s : Text) → 0 < length s → is_valid s ≡ has_paired_colons s
whole [] h = absurd (omega arith)
whole (b ∷ rest) h = refl

-- a colon that is none of two
pub valid-alone : (s : Text) (i : ℕ) → i < length s → get_or s i 0 ≡ colon
    → (i + 2 < length s → get_or s (i + 1) 0 ≡ colon → get_or s (i + 2) 0 ≢ colon → ⊥)
    → has_paired_colons s ≡ has_paired_colons (drop i s) → false ≡ is_valid s
valid-alone s i h p none e =
    let next : get_or (drop (i + 1) s) 0 0 ≡ get_or s (i + 1) 0 = get_or-drop (i + 1) s 0 0 ∙ ap (λ (k : ℕ). get_or s k 0) (let k : i + 1 + 0 ≡ i + 1 = omega arith in k) in
    let after : get_or (drop (i + 1) s) 1 0 ≡ get_or s (i + 2) 0 = get_or-drop (i + 1) s 1 0 ∙ ap (λ (k : ℕ). get_or s k 0) (let k : i + 1 + 1 ≡ i + 2 = omega arith in k) in
    let alone : 1 < length (drop (i + 1) s) → get_or (drop (i + 1) s) 0 0 ≡ colon → get_or (drop (i + 1) s) 1 0 ≢ colon → ⊥ =
    (λ l q r. none (omega (arith, length-drop (i + 1) s)) (sym next ∙ q) (λ t. r (after ∙ t))) in
    sym (whole s (omega arith) ∙ e ∙ ap has_paired_colons (drop_first s i h) ∙ paired-alone (get_or s i 0) (drop (i + 1) s) p alone)
