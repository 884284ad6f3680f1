-- What settings ask for, with one more setting at the end.
use Rattle.std.proofs.Common.{◌≡◌, ℕ, ◌+◌, ◌<◌, Bool, true, false, cond, List, [], ◌∷◌, ◌++◌, map, filter, take, length, get_or, Option, Some, None, unwrap_or, refl, ap, ◌∙◌}
use Rattle.std.specs.List.{last_or}
use Rattle.std.proofs.lemmas.List.{map-append, take_more, append-nil}
use Rattle.std.proofs.lemmas.List.Elements.{filter-append}
use Rattle.log.specs.declared.level.LevelFilter.{LevelFilter}
use Rattle.log.specs.declared.level.LevelFilter.TheVariants.{Info}
use Rattle.log4rs_command.specs.Arguments.{Setting, setting_of, asked_settings}
use Rattle.log4rs_command.specs.Settings.{has_no_name, root_level}
use Rattle.log4rs_command.specs.declared.arguments.Setting as source

last_or-snoc : {A : Type 0} (o : Option A) (xs : List A) (y : A) → last_or o (xs ++ (y ∷ [])) ≡ Some y
last_or-snoc o [] y = refl
last_or-snoc o (x ∷ xs) y = last_or-snoc (Some x) xs y

abbrev level_after : List Setting → LevelFilter
level_after settings = unwrap_or (last_or None (map (λ s. s.level) settings)) Info

level_by_test : (front : List Setting) (s : Setting) (test : Bool)
    → level_after (front ++ cond test (s ∷ []) []) ≡ cond test s.level (level_after front)
level_by_test front s true = ap (λ l. unwrap_or (last_or None l) Info) (map-append (λ t. t.level) front (s ∷ [])) ∙ ap (λ o. unwrap_or o Info) (last_or-snoc None (map (λ t. t.level) front) s.level)
level_by_test front s false = ap level_after (append-nil front)

root_level-snoc : (settings : List Setting) (s : Setting) → root_level (settings ++ (s ∷ [])) ≡ cond (has_no_name s) s.level (root_level settings)
root_level-snoc settings s =
    ap level_after (filter-append has_no_name settings (s ∷ [])) ∙ level_by_test (filter has_no_name settings) s (has_no_name s)

module _ (xs : List source.Setting) (i : ℕ) (d : source.Setting) (inside : i < length xs) where
  more : root_level (asked_settings (take (i + 1) xs)) ≡ cond (has_no_name (setting_of (get_or xs i d))) (get_or xs i d).level (root_level (asked_settings (take i xs)))
  more =
      ap (λ l. root_level (asked_settings l)) (take_more xs i d inside)
      ∙ ap root_level (map-append setting_of (take i xs) (get_or xs i d ∷ []))
      ∙ root_level-snoc (asked_settings (take i xs)) (setting_of (get_or xs i d))

  -- the root's level, after one more setting without a name
  pub root_level-nameless : has_no_name (setting_of (get_or xs i d)) ≡ true → root_level (asked_settings (take (i + 1) xs)) ≡ (get_or xs i d).level
  root_level-nameless test = more ∙ ap (λ b. cond b (get_or xs i d).level (root_level (asked_settings (take i xs)))) test

  -- the same, after one with a name
  pub root_level-named : has_no_name (setting_of (get_or xs i d)) ≡ false → root_level (asked_settings (take (i + 1) xs)) ≡ root_level (asked_settings (take i xs))
  root_level-named test = more ∙ ap (λ b. cond b (get_or xs i d).level (root_level (asked_settings (take i xs)))) test

-- the one sink of a list of one appender
pub one_sink : {A X : Type 0} (sink : A → X) (P : X → Type 0) (xs : List A) (a : A) → xs ≡ a ∷ [] → P (sink a) → (x : X) × (map sink xs ≡ x ∷ []) × P x
one_sink sink P xs a e p = (sink a, ap (λ l. map sink l) e, p)
