-- Routes that are found at the components of their loggers agree with the settings.
use Rattle.std.proofs.Common.{◌≡◌, ℕ, List, Option, Some, None, map, length, get_or, refl, sym, ap, ◌∙◌, subst, All, ◌<◌}
use Rattle.std.proofs.Math.ListN.{get_or-map}
use Rattle.std.specs.Option.{option_map_or}
use Rattle.log.specs.declared.level.LevelFilter.{LevelFilter}
use Rattle.log4rs_config.specs.declared.routes.Route.{Route}
use Rattle.log4rs_base.specs.Text.{Text}
use Rattle.log4rs_config.specs.Name.{components, path_of}
use Rattle.log4rs_config.specs.Settings.{Settings, LoggerSetting, IsAccepted}
use Rattle.log4rs_config.specs.Routing.{governing, governor, level_at, appender_list, places, places_at, Agrees}
use Rattle.log4rs_config.specs.Walk.{index_of, walk, chained}
use Rattle.log4rs_config.specs.RoutesSeen.{route_by}
use Rattle.log4rs_config.proofs.Walks.{longest-is, governor-is, list-of-governing, list-known, places-within, gathered}

same_functions : {X Y : Type 0} (f g : X → Y) → ((x : X) → f x ≡ g x) → f ≡ g
same_functions f g h = λ i x. h x i

chosen : {Y : Type 0} (f : Route → Y) (routes : List Route) (root : Route) (o : Option ℕ)
    → f (option_map_or (λ i. get_or routes i root) o root) ≡ option_map_or (λ i. get_or (map f routes) i (f root)) o (f root)
chosen f routes root None = refl
chosen f routes root (Some i) = sym (get_or-map f routes i root)

-- what each route has of its logger, a target's route has of the logger that governs it
route-has : {Y : Type 0} (f : Route → Y) (g : LoggerSetting → Y) (d : Y) (at : List Text → Option ℕ) (routes : List Route) (root : Route) (loggers : List LoggerSetting) (path : List Text)
    → ((parts : List Text) → at parts ≡ index_of loggers parts)
    → map f routes ≡ map g loggers → f root ≡ d
    → f (route_by at routes root path) ≡ option_map_or g (governing loggers path) d
route-has {Y} f g d at routes root loggers path there each same =
    chosen f routes root _
    ∙ (ap (λ (o : Option ℕ). option_map_or (λ (i : ℕ). get_or (map f routes) i (f root)) o (f root)) (longest-is loggers at there path)
    ∙ (ap (λ (ys : List Y). option_map_or (λ (i : ℕ). get_or ys i (f root)) (governor loggers path) (f root)) each
    ∙ (ap (λ (y : Y). option_map_or (λ (i : ℕ). get_or (map g loggers) i y) (governor loggers path) y) same
    ∙ governor-is g d loggers path)))

-- the places of a list that was chosen
places-chosen : (names : List Text) (f : LoggerSetting → List Text) (o : Option LoggerSetting) (d : List Text)
    → option_map_or (λ l. places names (f l)) o (places names d) ≡ places names (option_map_or f o d)
places-chosen names f None d = refl
places-chosen names f (Some l) d = refl

-- levels and places of routes that are found at the loggers' components
pub routes-levels : (s : Settings) (at : List Text → Option ℕ) (routes : List Route) (root : Route)
    → ((parts : List Text) → at parts ≡ index_of s.loggers parts) → map (λ r. r.level) routes ≡ map (λ l. l.level) s.loggers → root.level ≡ s.root.level
    → (path : List Text) → (route_by at routes root path).level ≡ level_at s path
routes-levels s at routes root there levels level path =
    route-has (λ (r : Route). r.level) (λ (l : LoggerSetting). l.level) s.root.level at routes root s.loggers path there levels level

pub routes-places : (s : Settings) (at : List Text → Option ℕ) (routes : List Route) (root : Route)
    → ((parts : List Text) → at parts ≡ index_of s.loggers parts)
    → map (λ r. r.places.items) routes ≡ map (λ l. places_at s (path_of l.name)) s.loggers → root.places.items ≡ places s.appenders s.root.appenders
    → (path : List Text) → (route_by at routes root path).places.items ≡ places_at s path
routes-places s at routes root there lists list path =
    route-has (λ (r : Route). r.places.items) (λ (l : LoggerSetting). places_at s (path_of l.name)) (places s.appenders s.root.appenders) at routes root s.loggers path there lists list
    ∙ (places-chosen s.appenders (λ (l : LoggerSetting). appender_list s (path_of l.name)) (governing s.loggers path) s.root.appenders
    ∙ ap (places s.appenders) (sym (list-of-governing s path)))

-- levels and places that are those of the settings, agree with them
pub agreeing : (s : Settings) (levels : List Text → LevelFilter) (lists : List Text → List ℕ) → IsAccepted s
    → ((path : List Text) → levels path ≡ level_at s path) → ((path : List Text) → lists path ≡ places_at s path) → Agrees s levels lists
agreeing s levels lists accepted level same =
    record {
      level = level;
      places = same;
      within = λ path. subst (λ (ps : List ℕ). All (λ at. at < length s.appenders) ps) (sym (same path)) (places-within s.appenders (appender_list s path) (list-known s path accepted));
    }

-- the lists that walks along the loggers' names gather
pub lists-are : (s : Settings) (at : List Text → Option ℕ) (list : List ℕ) → list ≡ places s.appenders s.root.appenders → ((parts : List Text) → at parts ≡ index_of s.loggers parts)
    → map (λ l. walk (chained s.appenders s.loggers) at list (components l.name)) s.loggers ≡ map (λ l. places_at s (path_of l.name)) s.loggers
lists-are s at list is h =
    let same : (l : LoggerSetting) → walk (chained s.appenders s.loggers) at list (components l.name) ≡ places_at s (path_of l.name) =
    λ l. ap (λ (v : List ℕ). walk (chained s.appenders s.loggers) at v (components l.name)) is ∙ gathered s at l.name h in
    ap (λ (f : LoggerSetting → List ℕ). map f s.loggers)
    (same_functions (λ (l : LoggerSetting). walk (chained s.appenders s.loggers) at list (components l.name)) (λ (l : LoggerSetting). places_at s (path_of l.name)) same)
