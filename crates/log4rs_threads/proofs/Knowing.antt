-- What a session knows, and where its records go.
use Rattle.std.proofs.Common.{◌≡◌, ◌≤◌, Bool, List, [], ◌∷◌, length, refl, sym, ap, map, arith, length-append, Ok, Err, Some}
use Rattle.std.specs.Prelude.{Option, Result, IfOk, MatchResult, string_bytes}
use Rattle.std.specs.Option.{option_map_or}
use Rattle.log4rs_base.specs.Filtering.{passes}
use Rattle.log4rs_base.specs.declared.filter.Response.{Response}
use Rattle.log4rs_base.specs.declared.record.Record.{Record}
use Rattle.log4rs_config.specs.Appender.{filters_of}
use Rattle.log4rs_config.specs.Builder.{appenders_of, config_admits}
use Rattle.log4rs_config.specs.Name.{path_of}
use Rattle.log4rs_config.specs.Routing.{deliveries, let_through, level_at, places_at}
use Rattle.log4rs_config.specs.Settings.{Settings}
use Rattle.log4rs_config.specs.declared.runtime.appender.Filtered.{Filtered}
use Rattle.log4rs_config.specs.declared.runtime.config.ConfigOf.{ConfigOf}
use Rattle.log4rs_threads.specs.Known.{Known}
use Rattle.log4rs_threads.specs.States.{admits, after_swaps, config_filters, nothing}
use Rattle.log4rs_threads.specs.Swaps.{StartsWith}
use Rattle.log4rs_threads.proofs.Beginnings.{prefix_whole}

-- the reader was told of what the session was
pub told_before : (subscriber : Option Known) (taken : Known) → subscriber ≡ Some taken → (option_map_or (λ known. known) subscriber nothing).told ≡ taken.told
told_before subscriber taken e = ap (λ (o : Option Known). (option_map_or (λ known. known) o nothing).told) e

admits_all : {A F : Type 0} (answer : F → Record → Response) (all : List (Filtered A F)) (r : Record)
    → admits answer (map (λ a. filters_of a) all) r ≡ map (λ a. passes (λ f. answer f r) a.filters.items) all
admits_all answer [] r = refl
admits_all answer (a ∷ all) r = ap (λ (bs : List Bool). passes (λ f. answer f r) a.filters.items ∷ bs) (admits_all answer all r)

-- the filters of a configuration let pass what it lets pass
pub admits_same : {A F : Type 0} (answer : F → Record → Response) (c : ConfigOf A F) (r : Record) → admits answer (config_filters c) r ≡ config_admits answer c r
admits_same answer c r = admits_all answer (appenders_of c) r

-- and so the deliveries are the same
pub deliveries_same : {A F : Type 0} (s : Settings) (answer : F → Record → Response) (c : ConfigOf A F) (r : Record)
    → deliveries s (admits answer (config_filters c)) r ≡ deliveries s (config_admits answer c) r
deliveries_same s answer c r =
    ap (λ (bs : List Bool). let_through (level_at s (path_of (string_bytes r.target))) (places_at s (path_of (string_bytes r.target))) bs r.level) (admits_same answer c r)

-- what is so where there is a value
pub if_ok : {X Y : Type 0} (r : Result X Y) (P Q : X → Type 0) (R : Y → Type 0) → ((x : X) → P x → Q x) → MatchResult r P R → IfOk r Q
if_ok (Ok x) P Q R f m = f x m
if_ok (Err e) P Q R f m = tt

-- who was told of all swaps, saw that, and saw nothing else, saw these swaps
pub sees_all : (swaps told seen : List Settings) → StartsWith told swaps → StartsWith seen told → StartsWith swaps seen → seen ≡ swaps
sees_all swaps told seen t s all =
    let less : length swaps ≤ length seen = omega (arith, ap length t.1, length-append swaps t.0, ap length s.1, length-append told s.0) in
    prefix_whole seen swaps (all.0, sym all.1) less

-- of no swaps nothing is seen
pub uses_opening : (opening : Settings) (seen : List Settings) → StartsWith [] seen → after_swaps opening seen ≡ opening
uses_opening opening [] all = refl
uses_opening opening (swap ∷ swaps) all = absurd (cc (all.1))
