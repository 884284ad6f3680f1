-- Routes of loggers that were put into order agree with the settings.
use Rattle.std.proofs.Common.{◌≡◌, ℕ, ◌<◌, ◌≤◌, zero, suc, Bool, true, false, cond, List, [], ◌∷◌, Option, Some, None, Contains, All, length, map, find, reverse, position, get_or, slice_get, string_bytes, refl, sym, ap, ◌∙◌, subst, arith}
use Rattle.std.specs.Option.{option_map_or, option_or}
use Rattle.std.specs.List.Sorted.{IsPermutation}
use Rattle.std.specs.Str.{bytes_eq}
use Rattle.std.specs.Cmp.Lexicographic.{pointwise}
use Rattle.std.proofs.lemmas.List.Sorted.{Contains-permutation}
use Rattle.std.proofs.lemmas.Map.Keys.{apart_from_distinct}
use Rattle.std.proofs.lemmas.Slice.Eq.{bytes_eq-Decides}
use Rattle.log4rs_base.specs.Text.{Text}
use Rattle.log4rs_config.specs.Name.{components}
use Rattle.log4rs_config.specs.Settings.{Settings, LoggerSetting, RootSetting, IsAccepted, settings_of, with_root_level}
use Rattle.log.specs.declared.level.LevelFilter.{LevelFilter}
use Rattle.log4rs_config.specs.Routing.{is_at, governor, places, Agrees}
use Rattle.log4rs_config.specs.declared.routes.Entry.{Entry}
use Rattle.log4rs_config.specs.declared.routes.Numbered.{Numbered}
use Rattle.log4rs_config.specs.declared.routes.Route.{Route}
use Rattle.log4rs_config.specs.declared.routes.Routes.{Routes}
use Rattle.log4rs_config.specs.Laws.{HaveDistinctNames, SameLookup}
use Rattle.log4rs_config.specs.RoutesSeen.{route_by, IsRouted}
use Rattle.log4rs_config.specs.Walk.{name_at, walk, longest, chained, index_of}
use Rattle.log4rs_config.proofs.Distinct.{find-none, path-injective, permuted}
use Rattle.log4rs_config.proofs.Halving.{position_found, position_none, first_of}
use Rattle.log4rs_config.proofs.Lookup.{governing_same, list_same}
use Rattle.log4rs_config.proofs.Rising.{within, get_of, length-same, distinct-names}
use Rattle.log4rs_config.proofs.Routed.{routes-levels, routes-places, agreeing, lists-are}
use Rattle.log4rs_config.proofs.Searches.{name-place}
use Rattle.log4rs_config.proofs.Walks.{found-there, is_at-Decides, longest-is}

-- the settings with the loggers in another order
abbrev reordered : Settings → List LoggerSetting → Settings
reordered s others = settings_of s.appenders s.root others

-- routes in another order of the loggers agree too
pub routed-order : (s : Settings) (others : List LoggerSetting) (names : List Text) (routes : List Route) (root : Route) → IsAccepted s → IsPermutation s.loggers others
    → names ≡ map (λ l. l.name) others
    → map (λ r. r.level) routes ≡ map (λ l. l.level) others → root.level ≡ s.root.level
    → map (λ r. r.places.items) routes ≡ map (λ l. walk (chained s.appenders others) (name_at names) root.places.items (components l.name)) others
    → root.places.items ≡ places s.appenders s.root.appenders
    → Agrees s (λ path. (route_by (name_at names) routes root path).level) (λ path. (route_by (name_at names) routes root path).places.items)
routed-order s others names routes root accepted moved named levels level lists list =
    let there : (parts : List Text) → name_at names parts ≡ index_of others parts = name-place names others named in
    let look : SameLookup s.loggers others = permuted s.loggers others moved accepted.distinct_loggers in
    agreeing s (λ path. (route_by (name_at names) routes root path).level) (λ path. (route_by (name_at names) routes root path).places.items) accepted
    (λ path. routes-levels (reordered s others) (name_at names) routes root there levels level path
    ∙ ap (λ (g : Option LoggerSetting). option_map_or (λ (l : LoggerSetting). l.level) g s.root.level) (sym (governing_same s.loggers others look path)))
    (λ path. routes-places (reordered s others) (name_at names) routes root there (lists ∙ lists-are (reordered s others) (name_at names) root.places.items list there) list path
    ∙ ap (places s.appenders) (sym (list_same s.appenders s.root s.loggers others look path)))

at_step : {X : Type 0} (p : X → Bool) (x : X) (xs : List X) (b : Bool) (o : Option ℕ) (i : ℕ) → p x ≡ b → position p xs ≡ o
    → cond b (Some 0) (option_map_or (λ k. Some (suc k)) o None) ≡ Some i
    → ((k : ℕ) → position p xs ≡ Some k → (y : X) × (slice_get xs k ≡ Some y) × (p y ≡ true))
    → (y : X) × (slice_get (x ∷ xs) i ≡ Some y) × (p y ≡ true)
at_step {X} p x xs true o i t e f k =
    let z : 0 ≡ i = cc f in subst (λ (n : ℕ). (y : X) × (slice_get (x ∷ xs) n ≡ Some y) × (p y ≡ true)) z (x, refl, t)
at_step p x xs false None i t e f k = absurd (cc f)
at_step {X} p x xs false (Some m) i t e f k =
    let z : suc m ≡ i = cc f in subst (λ (n : ℕ). (y : X) × (slice_get (x ∷ xs) n ≡ Some y) × (p y ≡ true)) z (k m e)

-- what stands at the place that is found
pub position_at : {X : Type 0} (p : X → Bool) (xs : List X) (i : ℕ) → position p xs ≡ Some i → (y : X) × (slice_get xs i ≡ Some y) × (p y ≡ true)
position_at p [] i e = absurd (cc e)
position_at p (x ∷ xs) i e =
    at_step p x xs (p x) (position p xs) i refl refl (sym (first_of p x xs) ∙ e) (λ (k : ℕ) (f : position p xs ≡ Some k). position_at p xs k f)

or_within : (n : ℕ) (a b : Option ℕ) → ((k : ℕ) → a ≡ Some k → k < n) → ((k : ℕ) → b ≡ Some k → k < n) → (k : ℕ) → option_or a b ≡ Some k → k < n
or_within n None b f h k e = h k e
or_within n (Some i) b f h k e = f k e

walk-within : (n : ℕ) (at : List Text → Option ℕ) (best : Option ℕ) (parts : List Text) → ((ps : List Text) (k : ℕ) → at ps ≡ Some k → k < n)
    → ((k : ℕ) → best ≡ Some k → k < n) → (k : ℕ) → longest at best parts ≡ Some k → k < n
walk-within n at best [] all h k e = h k e
walk-within n at best (part ∷ parts) all h k e =
    walk-within n (λ more. at (part ∷ more)) (option_or (at (part ∷ [])) best) parts (λ ps. all (part ∷ ps)) (or_within n (at (part ∷ [])) best (all (part ∷ [])) h) k e

-- what is found is the place of a name
pub longest-within : (names : List Text) (parts : List Text) (k : ℕ) → longest (name_at names) None parts ≡ Some k → k < length names
longest-within names parts k e =
    walk-within (length names) (name_at names) None parts
    (λ ps i f. let (x, at, t) = position_at (λ name. pointwise bytes_eq (components name) ps) names i f in within names i x at)
    (λ i f. absurd (cc f)) k e

contains : {X : Type 0} (xs : List X) (i : ℕ) (x : X) → slice_get xs i ≡ Some x → Contains xs x
contains xs i x at = (i, within xs i x at, get_of xs i x x at)

fails_by : (b : Bool) → (b ≡ true → ⊥) → b ≡ false
fails_by true f = absurd (f refl)
fails_by false f = refl

-- where one element alone passes, its place is that of the element that is found among the others
moved_place : {X : Type 0} (p : X → Bool) (xs ys : List X) (ps : List ℕ) → IsPermutation xs ys
    → ((i : ℕ) (x : X) → slice_get ys i ≡ Some x → slice_get xs (get_or ps i 0) ≡ Some x)
    → ((i j : ℕ) (x y : X) → i < j → slice_get xs i ≡ Some x → slice_get xs j ≡ Some y → p x ≡ true → p y ≡ true → ⊥)
    → (o : Option ℕ) → position p ys ≡ o → option_map_or (λ i. Some (get_or ps i 0)) o None ≡ position p xs
moved_place p xs ys ps moved placed one None e =
    let none : find p ys ≡ None = sym (found-there p ys) ∙ ap (λ (o : Option ℕ). option_map_or (λ i. slice_get ys i) o None) e in
    sym (position_none p xs (λ j y at. find-none p ys y none (Contains-permutation xs ys y moved (contains xs j y at))))
moved_place p xs ys ps moved placed one (Some i) e =
    let (x, at, passes) = position_at p ys i e in
    let there = placed i x at in
    sym (position_found p xs (get_or ps i 0) x there passes (λ j y lt jt. fails_by (p y) (λ t. one j (get_or ps i 0) y x lt jt there t passes)))

place_or : (ps : List ℕ) (a b : Option ℕ) → option_map_or (λ i. Some (get_or ps i 0)) (option_or a b) None
    ≡ option_or (option_map_or (λ i. Some (get_or ps i 0)) a None) (option_map_or (λ i. Some (get_or ps i 0)) b None)
place_or ps None b = refl
place_or ps (Some i) b = refl

one_alone : (loggers : List LoggerSetting) → HaveDistinctNames loggers → (path : List Text) (i j : ℕ) (x y : LoggerSetting) → i < j
    → slice_get loggers i ≡ Some x → slice_get loggers j ≡ Some y → is_at path x ≡ true → is_at path y ≡ true → ⊥
one_alone loggers distinct path i j x y lt at bt t u =
    let name = λ (l : LoggerSetting). l.name in
    let same : x.name ≡ y.name = path-injective x.name y.name ((is_at-Decides path x).0 t ∙ sym ((is_at-Decides path y).0 u)) in
    let l = within loggers j y bt in
    let apart = apart_from_distinct bytes_eq (map name loggers) i j x.name (distinct-names (map name loggers) distinct) lt (omega (arith, l, length-same name loggers)) in
    let yes = (bytes_eq-Decides x.name y.name).1 same in
    let first = get_of (map name loggers) i x.name x.name (there name loggers i x at) in
    let second = get_of (map name loggers) j y.name x.name (there name loggers j y bt) in
    (let no : bytes_eq x.name y.name ≡ false = sym (ap (λ (n : Text). bytes_eq n (get_or (map name loggers) j x.name)) first ∙ ap (bytes_eq x.name) second) ∙ apart in
    absurd (cc (yes, no)))
  where
    there : {X Y : Type 0} (f : X → Y) (xs : List X) (i : ℕ) (x : X) → slice_get xs i ≡ Some x → slice_get (map f xs) i ≡ Some (f x)
    there f [] i x e = absurd (cc e)
    there f (z ∷ zs) zero x e = ap (λ (o : Option _). option_map_or (λ w. Some (f w)) o None) e
    there f (z ∷ zs) (suc i) x e = there f zs i x e

governor_moved : (loggers others : List LoggerSetting) (ps : List ℕ) → HaveDistinctNames loggers → IsPermutation loggers others
    → ((i : ℕ) (x : LoggerSetting) → slice_get others i ≡ Some x → slice_get loggers (get_or ps i 0) ≡ Some x)
    → (path : List Text) → option_map_or (λ i. Some (get_or ps i 0)) (governor others path) None ≡ governor loggers path
governor_moved loggers others ps distinct moved placed [] = refl
governor_moved loggers others ps distinct moved placed (part ∷ above) =
    place_or ps (position (is_at (part ∷ above)) others) (governor others above)
    ∙ (ap (λ (o : Option ℕ). option_or o (option_map_or (λ i. Some (get_or ps i 0)) (governor others above) None))
    (moved_place (is_at (part ∷ above)) loggers others ps moved placed (one_alone loggers distinct (part ∷ above)) (position (is_at (part ∷ above)) others) refl)
    ∙ ap (option_or (position (is_at (part ∷ above)) loggers)) (governor_moved loggers others ps distinct moved placed above))

-- the places of the governing loggers
pub placed-governor : (loggers others : List LoggerSetting) (ps : List ℕ) (names : List Text) → HaveDistinctNames loggers → IsPermutation loggers others → names ≡ map (λ l. l.name) others
    → ((i : ℕ) (x : LoggerSetting) → slice_get others i ≡ Some x → slice_get loggers (get_or ps i 0) ≡ Some x)
    → (path : List Text) → option_map_or (λ i. Some (get_or ps i 0)) (longest (name_at names) None (reverse path)) None ≡ governor loggers path
placed-governor loggers others ps names distinct moved named placed path =
    ap (λ (o : Option ℕ). option_map_or (λ i. Some (get_or ps i 0)) o None) (longest-is others (name_at names) (name-place names others named) path)
    ∙ governor_moved loggers others ps distinct moved placed path

pub maps : {X Y Z : Type 0} (f : Y → Z) (g : X → Y) (xs : List X) → map f (map g xs) ≡ map (λ x. f (g x)) xs
maps f g [] = refl
maps f g (x ∷ xs) = ap (λ ys. f (g x) ∷ ys) (maps f g xs)

found_placed : (loggers : List LoggerSetting) (kept : List Numbered) → All (λ n. slice_get loggers n.place ≡ Some n.logger.now) kept
    → (i : ℕ) (x : LoggerSetting) → slice_get (map (λ n. n.logger.now) kept) i ≡ Some x → slice_get loggers (get_or (map (λ n. n.place) kept) i 0) ≡ Some x
found_placed loggers [] all i x e = absurd (cc e)
found_placed loggers (n ∷ kept) all zero x e = all 0 n (omega arith) ∙ e
found_placed loggers (n ∷ kept) all (suc i) x e = found_placed loggers kept (λ k d l. all (suc k) d (omega (arith, l))) i x e

-- accepted settings stay so with another level at the root
pub releveled : (s : Settings) (level : LevelFilter) → IsAccepted s → IsAccepted (with_root_level s level)
releveled s level a = record {
  distinct_appenders = a.distinct_appenders;
  distinct_loggers = a.distinct_loggers;
  valid_loggers = a.valid_loggers;
  root_known = a.root_known;
  loggers_known = a.loggers_known;
}

-- what was built of the loggers in order
pub is-routed : (names : List Text) (root : RootSetting) (loggers : List LoggerSetting) (kept : List Numbered) (routes : Routes)
    → All (λ n. slice_get loggers n.place ≡ Some n.logger.now) kept → length kept ≤ length loggers
    → (HaveDistinctNames loggers → IsPermutation loggers (map (λ n. n.logger.now) kept))
    → map (λ e. string_bytes e.name) routes.entries.items ≡ map (λ n. n.logger.now.name) kept
    → map (λ e. e.place) routes.entries.items ≡ map (λ n. n.place) kept
    → map (λ e. e.route.level) routes.entries.items ≡ map (λ n. n.logger.now.level) kept
    → map (λ e. e.route.places.items) routes.entries.items
    ≡ map (λ n. walk (chained names (map (λ n. n.logger.now) kept)) (name_at (map (λ n. n.logger.now.name) kept)) routes.root.places.items (components n.logger.now.name)) kept
    → routes.root.level ≡ root.level → routes.root.places.items ≡ places names root.appenders
    → IsRouted (settings_of names root loggers) routes
is-routed names root loggers kept routes placed few same named numbers levels lists level list =
    let others : List LoggerSetting = map (λ n. n.logger.now) kept in
    let entries : List Entry = routes.entries.items in
    let seen : List Text = map (λ e. string_bytes e.name) entries in
    let by_name : seen ≡ map (λ l. l.name) others = named ∙ sym (maps (λ (l : LoggerSetting). l.name) (λ (n : Numbered). n.logger.now) kept) in
    let by_level : map (λ (r : Route). r.level) (map (λ e. e.route) entries) ≡ map (λ l. l.level) others =
    maps (λ (r : Route). r.level) (λ (e : Entry). e.route) entries ∙ (levels ∙ sym (maps (λ (l : LoggerSetting). l.level) (λ (n : Numbered). n.logger.now) kept)) in
    let by_list : map (λ (r : Route). r.places.items) (map (λ e. e.route) entries) ≡ map (λ l. walk (chained names others) (name_at seen) routes.root.places.items (components l.name)) others =
    maps (λ (r : Route). r.places.items) (λ (e : Entry). e.route) entries
    ∙ (lists ∙ (ap (λ (ns : List Text). map (λ (n : Numbered). walk (chained names others) (name_at ns) routes.root.places.items (components n.logger.now.name)) kept) (sym named)
    ∙ sym (maps (λ (l : LoggerSetting). walk (chained names others) (name_at seen) routes.root.places.items (components l.name)) (λ (n : Numbered). n.logger.now) kept))) in
    let long : length (map (λ e. string_bytes e.name) entries) ≡ length (map (λ (n : Numbered). n.logger.now.name) kept) = ap length named in
    record {
      agrees = λ accepted. routed-order (settings_of names root loggers) others seen (map (λ e. e.route) entries) routes.root accepted (same accepted.distinct_loggers) by_name by_level level by_list list;
      agrees_with = λ other accepted.
          routed-order (with_root_level (settings_of names root loggers) other) others seen (map (λ e. e.route) entries) (record routes.root { level = other })
          (releveled (settings_of names root loggers) other accepted) (same accepted.distinct_loggers) by_name by_level refl by_list list;
      governors = λ accepted path. ap (λ (ps : List ℕ). option_map_or (λ i. Some (get_or ps i 0)) (longest (name_at seen) None (reverse path)) None) numbers
          ∙ placed-governor loggers others (map (λ n. n.place) kept) seen accepted.distinct_loggers (same accepted.distinct_loggers) by_name (found_placed loggers kept placed) path;
      size = omega (arith, few, long, length-same (λ (e : Entry). string_bytes e.name) entries, length-same (λ (n : Numbered). n.logger.now.name) kept);
    }
