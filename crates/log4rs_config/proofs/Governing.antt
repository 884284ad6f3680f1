-- The logger that governs a path, said of all loggers.
use Rattle.std.proofs.Common.{◌≡◌, ℕ, ◌≤◌, ◌<◌, ◌-◌, drop, List, [], ◌∷◌, ◌++◌, Option, Some, None, All, Contains, map, find, length, get_or, reverse, refl, sym, ap, ◌∙◌, subst, arith}
use Rattle.std.specs.Option.{option_or, option_map_or}
use Rattle.std.proofs.lemmas.List.{reverse-reverse, reverse-append, length-reverse, length-append, length-map, get_or-map}
use Rattle.std.proofs.lemmas.List.Elements.{All-contains, All-head, All-tail, Contains-get_or}
use Rattle.std.proofs.lemmas.List.Prefix.{end_rest}
use Rattle.log.specs.Level.{filter_rank}
use Rattle.log.specs.declared.level.LevelFilter.{LevelFilter}
use Rattle.log4rs_base.specs.Text.{Text}
use Rattle.log4rs_config.specs.Name.{components, path_of}
use Rattle.log4rs_config.specs.Settings.{Settings, LoggerSetting}
use Rattle.log4rs_config.specs.Routing.{is_at, governing}
use Rattle.log4rs_config.specs.Laws.{HaveDistinctNames, NothingAbove, IsAbove, Governs, GovernorIsLongest}
use Rattle.log4rs_config.specs.Levels.{all_levels}
use Rattle.log4rs_config.proofs.Distinct.{find-among, find-none, logger-at_path}
use Rattle.log4rs_config.proofs.Components.{first_part}
use Rattle.log4rs_config.proofs.Walks.{is_at-Decides, find-passes}

-- the path ends in the other one
abbrev Ends : List Text → List Text → Type 0
Ends path end = (front : List Text) × (path ≡ front ++ end)

-- what the search on the way up says of the logger that it finds
record IsNearest (loggers : List LoggerSetting) (path : List Text) (logger : LoggerSetting) : Type 0 where
  among : Contains loggers logger
  ends : Ends path (path_of logger.name)
  longest : (other : LoggerSetting) → Contains loggers other → Ends path (path_of other.name) → length (path_of other.name) ≤ length (path_of logger.name)

pub path-long : (name : Text) → 0 < length (path_of name)
path-long name =
    let (p, ps, e) = first_part name in
    let long : length (components name) ≡ length (p ∷ ps) = ap length e in
    omega (arith, length-reverse (components name))

ends-short : (path end : List Text) → Ends path end → length end ≤ length path
ends-short path end (front, e) = omega (arith, ap length e, length-append front end)

-- a path that ends in another is that one, or ends in it further up
ends-cases : (loggers : List LoggerSetting) (part : Text) (above : List Text) (other : LoggerSetting) → Contains loggers other
    → find (is_at (part ∷ above)) loggers ≡ None → Ends (part ∷ above) (path_of other.name) → Ends above (path_of other.name)
ends-cases loggers part above other c none ([], e) =
    let no = find-none (is_at (part ∷ above)) loggers other none c in
    let yes = (is_at-Decides (part ∷ above) other).1 (sym e) in cc
ends-cases loggers part above other c none (f ∷ fs, e) = (fs, cc)

none_step : (loggers : List LoggerSetting) (part : Text) (above : List Text) (o : Option LoggerSetting) → find (is_at (part ∷ above)) loggers ≡ o
    → option_or o (governing loggers above) ≡ None
    → (governing loggers above ≡ None → (other : LoggerSetting) → Contains loggers other → Ends above (path_of other.name) → ⊥)
    → (other : LoggerSetting) → Contains loggers other → Ends (part ∷ above) (path_of other.name) → ⊥
none_step loggers part above None f e k other c ends = k e other c (ends-cases loggers part above other c f ends)
none_step loggers part above (Some x) f e k other c ends = cc

-- where no logger governs, the path ends in no logger's
none-ends : (loggers : List LoggerSetting) (path : List Text) → governing loggers path ≡ None
    → (other : LoggerSetting) → Contains loggers other → Ends path (path_of other.name) → ⊥
none-ends loggers [] e other c ends = let short = ends-short [] (path_of other.name) ends in absurd (omega (arith, path-long other.name))
none-ends loggers (part ∷ above) e other c ends =
    none_step loggers part above (find (is_at (part ∷ above)) loggers) refl e
    (λ (f : governing loggers above ≡ None) (x : LoggerSetting) (d : Contains loggers x) (n : Ends above (path_of x.name)). none-ends loggers above f x d n) other c ends

nearest_step : (loggers : List LoggerSetting) (part : Text) (above : List Text) (o : Option LoggerSetting) (logger : LoggerSetting) → find (is_at (part ∷ above)) loggers ≡ o
    → option_or o (governing loggers above) ≡ Some logger
    → (governing loggers above ≡ Some logger → IsNearest loggers above logger)
    → IsNearest loggers (part ∷ above) logger
nearest_step loggers part above None logger f e k =
    let up = k e in
    record {
      among = up.among;
      ends = (part ∷ up.ends.0, ap (λ (x : List Text). part ∷ x) up.ends.1);
      longest = λ other c n. up.longest other c (ends-cases loggers part above other c f n);
    }
nearest_step loggers part above (Some x) logger f e k =
    let same : x ≡ logger = cc in
    let found : find (is_at (part ∷ above)) loggers ≡ Some logger = f ∙ e in
    let here : path_of logger.name ≡ part ∷ above = (is_at-Decides (part ∷ above) logger).0 (find-passes (is_at (part ∷ above)) loggers logger found) in
    record {
      among = find-among (is_at (part ∷ above)) loggers logger found;
      ends = ([], sym here);
      longest = λ other c n. subst (λ (x : List Text). length (path_of other.name) ≤ length x) (sym here) (ends-short (part ∷ above) (path_of other.name) n);
    }

nearest : (loggers : List LoggerSetting) (path : List Text) (logger : LoggerSetting) → governing loggers path ≡ Some logger → IsNearest loggers path logger
nearest loggers [] logger e = cc
nearest loggers (part ∷ above) logger e =
    nearest_step loggers part above (find (is_at (part ∷ above)) loggers) logger refl e (λ (f : governing loggers above ≡ Some logger). nearest loggers above logger f)

-- beginnings of components are ends of paths
ends-from_above : (target : Text) (logger : LoggerSetting) → IsAbove target logger → Ends (path_of target) (path_of logger.name)
ends-from_above target logger (rest, e) = (reverse rest, ap reverse e ∙ reverse-append (components logger.name) rest)

above-from_ends : (target : Text) (logger : LoggerSetting) → Ends (path_of target) (path_of logger.name) → IsAbove target logger
above-from_ends target logger (front, e) = (
  reverse front,
  sym (reverse-reverse (components target))
      ∙ (ap reverse e ∙ (reverse-append front (path_of logger.name)
      ∙ ap (λ (x : List Text). x ++ reverse front) (reverse-reverse (components logger.name)))),
)

shorter : (x y : Text) → length (path_of x) ≤ length (path_of y) → length (components x) ≤ length (components y)
shorter x y h = omega (arith, length-reverse (components x), length-reverse (components y))

pub governing-governs : (loggers : List LoggerSetting) (target : Text) (logger : LoggerSetting)
    → governing loggers (path_of target) ≡ Some logger → Governs loggers target logger
governing-governs loggers target logger e =
    let n = nearest loggers (path_of target) logger e in (
      n.among,
      above-from_ends target logger n.ends,
      λ k d h above. shorter (get_or loggers k d).name logger.name
          (n.longest (get_or loggers k d) (Contains-get_or loggers k d h) (ends-from_above target (get_or loggers k d) above)),
    )

-- ends of one length are the same
same_end : (path a b : List Text) → Ends path a → Ends path b → length a ≡ length b → a ≡ b
same_end path a b (f, p) (g, q) long =
    let left = end_rest path a f p in
    let right = end_rest path b g q in
    sym left ∙ (ap (λ (n : ℕ). drop (length path - n) path) long ∙ right)

settled : (loggers : List LoggerSetting) (target : Text) (logger : LoggerSetting) (o : Option LoggerSetting) → governing loggers (path_of target) ≡ o
    → HaveDistinctNames loggers → Governs loggers target logger → o ≡ Some logger
settled loggers target logger None e d (among, above, most) =
    absurd (none-ends loggers (path_of target) e logger among (ends-from_above target logger above))
settled loggers target logger (Some x) e d (among, above, most) =
    let n = nearest loggers (path_of target) x e in
    let ends = ends-from_above target logger above in
    let less : length (components x.name) ≤ length (components logger.name) =
    All-contains (λ (other : LoggerSetting). IsAbove target other → length (components other.name) ≤ length (components logger.name)) loggers x most n.among
    (above-from_ends target x n.ends) in
    let more : length (path_of logger.name) ≤ length (path_of x.name) = n.longest logger among ends in
    let long : length (path_of x.name) ≡ length (path_of logger.name) = omega (arith, length-reverse (components x.name), length-reverse (components logger.name)) in
    let same : path_of x.name ≡ path_of logger.name = same_end (path_of target) (path_of x.name) (path_of logger.name) n.ends ends long in
    ap (λ (y : LoggerSetting). Some y) (logger-at_path loggers d (path_of logger.name) x logger n.among among same refl)

none_left : (loggers : List LoggerSetting) (target : Text) (o : Option LoggerSetting) → governing loggers (path_of target) ≡ o
    → All (λ other. ¬ (IsAbove target other)) loggers → o ≡ None
none_left loggers target None e all = refl
none_left loggers target (Some x) e all =
    let n = nearest loggers (path_of target) x e in
    absurd (All-contains (λ (other : LoggerSetting). ¬ (IsAbove target other)) loggers x all n.among (above-from_ends target x n.ends))

none_above : (loggers : List LoggerSetting) (target : Text) → governing loggers (path_of target) ≡ None → All (λ other. ¬ (IsAbove target other)) loggers
none_above loggers target e k d h above =
    none-ends loggers (path_of target) e (get_or loggers k d) (Contains-get_or loggers k d h) (ends-from_above target (get_or loggers k d) above)

pub governor-longest : GovernorIsLongest
governor-longest loggers target distinct = (
  λ logger. (
    governing-governs loggers target logger,
    settled loggers target logger (governing loggers (path_of target)) refl distinct,
  ),
  (
    none_above loggers target,
    none_left loggers target (governing loggers (path_of target)) refl,
  ),
)

below_limit : (s : Settings) (limit : LevelFilter) (path : List Text) (o : Option LoggerSetting) → governing s.loggers path ≡ o
    → All (λ level. filter_rank level ≤ filter_rank limit) (all_levels s) → filter_rank (option_map_or (λ logger. logger.level) o s.root.level) ≤ filter_rank limit
below_limit s limit path None e all =
    All-head (λ (level : LevelFilter). filter_rank level ≤ filter_rank limit) s.root.level (map (λ logger. logger.level) s.loggers) all
below_limit s limit path (Some logger) e all =
    let n = nearest s.loggers path logger e in
    let (k, h, is) = n.among in
    let there : get_or (map (λ (l : LoggerSetting). l.level) s.loggers) k logger.level ≡ logger.level =
    get_or-map (λ (l : LoggerSetting). l.level) s.loggers k logger logger.level h ∙ ap (λ (l : LoggerSetting). l.level) is in
    subst (λ (level : LevelFilter). filter_rank level ≤ filter_rank limit) there
    (All-tail (λ (level : LevelFilter). filter_rank level ≤ filter_rank limit) s.root.level (map (λ l. l.level) s.loggers) all k logger.level
    (omega (arith, length-map s.loggers (λ (l : LoggerSetting). l.level))))

pub below-limit : NothingAbove
below-limit s limit path all = below_limit s limit path (governing s.loggers path) refl all
