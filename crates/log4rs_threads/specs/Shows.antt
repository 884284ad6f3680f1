-- What is shown to readers.
use Rattle.std.specs.Prelude.{◌≡◌, Option, Some, None, IfSome}
use Rattle.std.specs.Arc.{arc_value}
use Rattle.std.specs.List.{last_or}
use Rattle.std.specs.Option.{option_map_or}
use Rattle.log4rs_config.specs.Settings.{Settings}
use Rattle.log4rs_threads.specs.declared.publish.published.PublishedSwap.{PublishedSwap}
use Rattle.log4rs_threads.specs.declared.publish.published.Opening.{Opening}
use Rattle.log4rs_threads.specs.declared.publish.published.Published.{Published}
use Rattle.log4rs_threads.specs.declared.publish.published.Shown.{Shown}
use Rattle.log4rs_threads.specs.Swaps.{Tidings}

-- the opening, and what was published up to the last swap
abbrev pub shown : Published → Shown
shown p =
    record {
      opening = arc_value p.opening;
      told = option_map_or (λ e. e.told) p.latest (arc_value p.opening).began;
    }

-- more is published
abbrev pub with_told : Shown → Tidings Settings → Shown
with_told s told = record { opening = s.opening; told = told }

-- another published_swap is shown, if there is one
abbrev pub after : Shown → Option PublishedSwap → Shown
after s None = s
after s (Some published_swap) = with_told s published_swap.told

-- what was published is of the history that began at the opening, and the last swap has its appenders
abbrev pub IsOf : Opening → Tidings Settings → Type 0
IsOf opening told =
    (told.book ≡ opening.began.book)
    × IfSome (last_or None told.swaps) (λ lists. lists.appenders ≡ opening.names)
