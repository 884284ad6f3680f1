use Rattle.std.proofs.Common.{◌≡◌, List, [], ◌∷◌, ◌++◌, Ok, Err, sym, ap, ◌∙◌, append_assoc}
use Rattle.std.proofs.lemmas.Result.{err_from_is_err_and}
use Rattle.log4rs_settings.specs.View.{view, members_view}
use Rattle.log4rs_settings.specs.Part.{Part, under}
use Rattle.log4rs_settings.specs.Loggers.{read_logger, logger_view, loggers_view}
use Rattle.log4rs_settings.specs.Top.{each_member}
use Rattle.log4rs_settings.proofs.Below.{refused_within, taken_within}
use Rattle.log4rs_settings.proofs.Trees.{Entry}
use Rattle.log4rs_settings.proofs.Members.{each_member-last, each_member-refused, loggers-last}
use Rattle.log4rs_settings.proofs.top.read_loggers.Goals as goal

pub returns-in_err-config : goal.returns-in_err-config
returns-in_err-config c =
    let l = c.loop-name in
    let e : Entry = (c.in-Some.name, c.in-Some.tree) in
    let left : List Entry = c.next.new.self in
    let all : c.args.object.entries ≡ l.yielded ++ e ∷ left = l.invariant.0 ∙ ap (λ es. l.yielded ++ es) c.in-Some.ensures.steps in
    let p = err_from_is_err_and c.from_residual.result c.from_residual.ensures.1 in
    let refused : (f : Part) → read_logger (view c.in-Some.tree) ≡ Err f → each_member read_logger (members_view c.args.object.entries) ≡ Err (under c.as_str.result.now f) =
    λ f here. ap (λ es. each_member read_logger (members_view es)) all ∙ each_member-refused read_logger l.yielded e left _ f l.invariant.1 here
    ∙ ap (λ name. Err (under name f)) (sym c.as_str.ensures.value) in
    rw (p.1, p.2) (refused_within logger_view loggers_view c.as_str.result.now _ _ c.read.result _ refused c.read.ensures c.in_err-config.ensures)

pub loop-name-preserved : goal.loop-name-preserved
loop-name-preserved c =
    let l = c.loop-name in
    let e : Entry = (c.in-Some.name, c.in-Some.tree) in
    let left : List Entry = c.next.new.self in
    let all : c.args.object.entries ≡ l.yielded ++ e ∷ left = l.invariant.0 ∙ ap (λ es. l.yielded ++ es) c.in-Some.ensures.steps in
    let here : read_logger (view c.in-Some.tree) ≡ Ok (logger_view c.in_ok-config.config) =
    taken_within logger_view c.as_str.result.now _ c.read.result c.in_ok-config.config c.read.ensures c.in_ok-config.ensures in (
      all ∙ sym (append_assoc l.yielded (e ∷ []) left),
      rw (c.in_ok-push.ensures.items, loggers-last) (each_member-last read_logger l.yielded e _ _ l.invariant.1 here),
    )
