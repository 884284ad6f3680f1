use Rattle.std.proofs.Common.{◌∙◌, ap, map, rules, tests}
use Rattle.std.proofs.lemmas.Iterator.{YieldsList-from_slice}
use Rattle.std.proofs.lemmas.Iterator.Search.{any_from_yields_List}
use Rattle.std.specs.List.{list_any}
use Rattle.log4rs_plans.specs.Shared.{is_of_first}
use Rattle.log4rs_plans.specs.Written.{file_of, window_of}
use Rattle.log4rs_plans.proofs.written_files.shares_files.Goals as goal

pub returns : goal.returns
returns c =
    let files = map file_of c.in_ok-files.files.items in
    let windows = map window_of c.in_ok-windows.windows.items in
    let shared =
    any_from_yields_List (is_of_first files windows) _ _ c.any.result c.any.ensures.ran (YieldsList-from_slice c.in_ok-found.found.items cc) (λ x b q k. search (rules, tests)) in
    let found = rw (c.deref-2.ensures.value, c.deref-3.ensures.value) at c.in_ok-found.ensures in
    (files, windows, record { files_are = c.in_ok-files.ensures; windows_are = c.in_ok-windows.ensures }, shared ∙ ap (list_any (is_of_first files windows)) found)
