-- What a configuration is after the loan of an appender.
use Rattle.std.specs.Prelude.{◌≡◌, ℕ, zero, suc, List, [], ◌∷◌, map, length}
use Rattle.std.proofs.Common.{refl, sym, ap, ◌∙◌}
use Rattle.log4rs_config.specs.declared.runtime.appender.Filtered.{Filtered}
use Rattle.log4rs_config.specs.declared.runtime.config.ConfigOf.{ConfigOf}
use Rattle.log4rs_config.specs.Appender.{name_of}

-- the same list, with another appender behind the filters at a place
abbrev pub left_in : {A F : Type 0} → List (Filtered A F) → ℕ → A → List (Filtered A F)
left_in [] at left = []
left_in (a ∷ all) zero left = record a { appender = left } ∷ all
left_in (a ∷ all) (suc at) left = a ∷ left_in all at left

-- lemma for `left_with`: what is read of names and filters alone stays
pub left_in_keeps : {A F B : Type 0} (read : Filtered A F → B)
    (all : List (Filtered A F)) (at : ℕ) (left : A)
    → ((a : Filtered A F) → read a ≡ read (record a { appender = left }))
    → map read all ≡ map read (left_in all at left)
left_in_keeps read [] at left same = refl
left_in_keeps {B = B} read (a ∷ all) zero left same = ap (λ (b : B). b ∷ map read all) (same a)
left_in_keeps {B = B} read (a ∷ all) (suc at) left same =
    ap (λ (bs : List B). read a ∷ bs) (left_in_keeps read all at left same)

-- lemma for `left_with`: the length stays
pub left_in_length : {A F : Type 0} (all : List (Filtered A F)) (at : ℕ) (left : A)
    → length all ≡ length (left_in all at left)
left_in_length [] at left = refl
left_in_length (a ∷ all) zero left = refl
left_in_length (a ∷ all) (suc at) left = ap suc (left_in_length all at left)

-- the same configuration, with another appender behind the filters at a place;
-- `ok` and `named` are proofs alone
abbrev pub left_with : {A F : Type 0} → ConfigOf A F → ℕ → A → ConfigOf A F
left_with c at left = record c {
  appenders = record c.appenders {
    items = left_in c.appenders.items at left;
    ok = (c.appenders.ok.0 ∙ left_in_length c.appenders.items at left, c.appenders.ok.1);
  };
  named = sym (left_in_keeps (λ a. name_of a) c.appenders.items at left (λ a. refl)) ∙ c.named;
}
