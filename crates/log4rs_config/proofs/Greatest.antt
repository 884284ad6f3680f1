-- The greatest of some levels, and one level more.
use Rattle.std.proofs.Common.{◌≡◌, ℕ, ◌<◌, ◌≤◌, ◌+◌, List, [], ◌∷◌, ◌++◌, All, Contains, map, take, length, get_or, Bool, true, false, cond, nat_le, refl, sym, ap, ◌∙◌, subst, arith, rules}
use Rattle.std.proofs.lemmas.Bool.{leb-true, leb-false}
use Rattle.std.proofs.lemmas.List.{take_more, map-append}
use Rattle.std.proofs.lemmas.List.Elements.{All-append, All-weaker, All-cons, Contains-append_left, Contains-append_right}
use Rattle.log.specs.Level.{filter_rank}
use Rattle.log.specs.declared.level.LevelFilter.{LevelFilter}
use Rattle.log4rs_config.specs.Settings.{LoggerSetting}

-- it is the greatest of the levels, and one of them
abbrev pub IsGreatest : LevelFilter → List LevelFilter → Type 0
IsGreatest greatest levels = All (λ level. filter_rank level ≤ filter_rank greatest) levels × Contains levels greatest

one : (level greatest : LevelFilter) → filter_rank level ≤ filter_rank greatest → All (λ l. filter_rank l ≤ filter_rank greatest) (level ∷ [])
one level greatest h = All-cons (λ (l : LevelFilter). filter_rank l ≤ filter_rank greatest) level [] h (search rules)

-- a greater level comes
greater : (levels : List LevelFilter) (old level : LevelFilter) → filter_rank old ≤ filter_rank level → IsGreatest old levels → IsGreatest level (levels ++ level ∷ [])
greater levels old level h (all, _) = (
  All-append (λ (l : LevelFilter). filter_rank l ≤ filter_rank level) levels (level ∷ [])
      (All-weaker (λ (l : LevelFilter). filter_rank l ≤ filter_rank old) (λ (l : LevelFilter). filter_rank l ≤ filter_rank level) (λ x p. omega arith) levels all)
      (one level level (omega arith)),
  Contains-append_right levels (level ∷ []) level (0, omega arith, refl),
)

-- none that is greater comes
no_greater : (levels : List LevelFilter) (old level : LevelFilter) → filter_rank level ≤ filter_rank old → IsGreatest old levels → IsGreatest old (levels ++ level ∷ [])
no_greater levels old level h (all, among) = (
  All-append (λ (l : LevelFilter). filter_rank l ≤ filter_rank old) levels (level ∷ []) all (one level old h),
  Contains-append_left levels (level ∷ []) old among,
)

levels_more : (root : LevelFilter) (loggers : List LoggerSetting) (i : ℕ) (logger : LoggerSetting) → i < length loggers → logger ≡ get_or loggers i logger
    → root ∷ map (λ l. l.level) (take (i + 1) loggers) ≡ (root ∷ map (λ l. l.level) (take i loggers)) ++ logger.level ∷ []
levels_more root loggers i logger h e =
    ap (λ (ls : List LoggerSetting). root ∷ map (λ l. l.level) ls) (take_more loggers i logger h ∙ ap (λ (l : LoggerSetting). take i loggers ++ l ∷ []) (sym e))
    ∙ ap (λ (ls : List LevelFilter). root ∷ ls) (map-append (λ (l : LoggerSetting). l.level) (take i loggers) (logger ∷ []))

either : (t : Bool) (levels : List LevelFilter) (old level now : LevelFilter) → nat_le (filter_rank old) (filter_rank level) ≡ t → now ≡ cond t level old
    → IsGreatest old levels → IsGreatest now (levels ++ level ∷ [])
either true levels old level now e is p =
    let more : filter_rank old ≤ filter_rank level = leb-true (filter_rank old) (filter_rank level) e in
    subst (λ (l : LevelFilter). IsGreatest l (levels ++ level ∷ [])) (sym is) (greater levels old level more p)
either false levels old level now e is p =
    let less : filter_rank level < filter_rank old = leb-false (filter_rank old) (filter_rank level) e in
    subst (λ (l : LevelFilter). IsGreatest l (levels ++ level ∷ [])) (sym is) (no_greater levels old level (omega arith) p)

-- one level more
pub next_level : (root : LevelFilter) (loggers : List LoggerSetting) (i : ℕ) (logger : LoggerSetting) (old level now : LevelFilter) → i < length loggers → logger ≡ get_or loggers i logger
    → level ≡ logger.level → now ≡ cond (nat_le (filter_rank old) (filter_rank level)) level old
    → IsGreatest old (root ∷ map (λ l. l.level) (take i loggers)) → IsGreatest now (root ∷ map (λ l. l.level) (take (i + 1) loggers))
next_level root loggers i logger old level now h e same is p =
    let levels = root ∷ map (λ (l : LoggerSetting). l.level) (take i loggers) in
    subst (IsGreatest now) (ap (λ (l : LevelFilter). levels ++ l ∷ []) same ∙ sym (levels_more root loggers i logger h e))
    (either (nat_le (filter_rank old) (filter_rank level)) levels old level now refl is p)
