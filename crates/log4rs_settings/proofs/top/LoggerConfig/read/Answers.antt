use Rattle.std.proofs.Common.{◌≡◌, Ok, true, codes, refl, sym, ap, ◌∙◌}
use Rattle.log4rs_settings.specs.Loggers.{names_found, names_view}
use Rattle.log4rs_settings.specs.Members.{get_member}
use Rattle.log4rs_settings.specs.Part.{optional}
use Rattle.log4rs_settings.specs.Values.{as_bool}
use Rattle.log4rs_settings.specs.View.{members_view}
use Rattle.log4rs_settings.proofs.Others.{additive_stays}
use Rattle.log4rs_settings.proofs.top.LoggerConfig.read.Goals as goal

pub returns : goal.returns
returns c =
    let ms = members_view c.in_ok-object.object.entries in
    let names : names_found (get_member (codes "appenders") ms) ≡ Ok (names_view c.in_ok-appenders.appenders) =
    ap names_found (sym c.take.ensures.found) ∙ c.in_ok-appenders.ensures in
    let additive : optional (codes "additive") as_bool true ms ≡ Ok c.in_ok-additive.additive =
    sym (additive_stays ms) ∙ ap (optional (codes "additive") as_bool true) (sym c.take.ensures.left) ∙ c.in_ok-additive.ensures in
    rw (c.in_ok-object.ensures, c.in_ok-only.ensures, c.in_ok-level.ensures, names, additive) refl
