-- What a routing structure finds at the path of a target.
use Rattle.std.specs.Prelude.{◌≡◌, ◌≤◌, ℕ, List, Option, Some, None, map, length, reverse}
use Rattle.std.specs.Prelude.{string_bytes, slice_index_or}
use Rattle.std.specs.Option.{option_map_or}
use Rattle.log.specs.declared.level.LevelFilter.{LevelFilter}
use Rattle.log4rs_config.specs.declared.routes.Route.{Route}
use Rattle.log4rs_config.specs.declared.routes.Routes.{Routes}
use Rattle.log4rs_base.specs.Text.{Text}
use Rattle.log4rs_config.specs.Routing.{Agrees, governor}
use Rattle.log4rs_config.specs.Settings.{Settings, with_root_level, IsAccepted}
use Rattle.log4rs_config.specs.Walk.{name_at, longest}

-- the names of the entries, in their order
abbrev pub entry_names : Routes → List Text
entry_names routes = map (λ e. string_bytes e.name) routes.entries.items

-- the route of the logger at the longest beginning of the path that has an index, or the root's
abbrev pub route_by : (List Text → Option ℕ) → List Route → Route → List Text → Route
route_by at loggers root path =
    option_map_or (λ index. slice_index_or loggers index root) (longest at None (reverse path)) root

abbrev pub route_at : Routes → List Text → Route
route_at routes path =
    route_by (name_at (entry_names routes)) (map (λ e. e.route) routes.entries.items)
    routes.root path

abbrev pub routes_level_at : Routes → List Text → LevelFilter
routes_level_at routes path = (route_at routes path).level

abbrev pub routes_places_at : Routes → List Text → List ℕ
routes_places_at routes path = (route_at routes path).places.items

-- the place among the loggers of the one at the longest beginning of the path that an entry has
abbrev pub governor_at : Routes → List Text → Option ℕ
governor_at routes path =
    option_map_or (λ index. Some (slice_index_or (map (λ e. e.place) routes.entries.items) index 0))
    (longest (name_at (entry_names routes)) None (reverse path)) None

-- how many entries there are
abbrev pub routes_size : Routes → ℕ
routes_size routes = length routes.entries.items

-- the same routes, with another level at the root
abbrev pub with_root : Routes → LevelFilter → Routes
with_root routes level = record routes { root = record routes.root { level = level } }

-- the routes are those of accepted settings: levels, places and governors,
-- also where both have another level at the root; there are no more entries than loggers
pub record IsRouted (s : Settings) (routes : Routes) : Type 0 where
  pub agrees : IsAccepted s → Agrees s (routes_level_at routes) (routes_places_at routes)
  pub agrees_with : (level : LevelFilter) → IsAccepted s
      → Agrees (with_root_level s level) (routes_level_at (with_root routes level))
      (routes_places_at (with_root routes level))
  pub governors : IsAccepted s
      → (path : List Text) → governor_at routes path ≡ governor s.loggers path
  pub size : routes_size routes ≤ length s.loggers
