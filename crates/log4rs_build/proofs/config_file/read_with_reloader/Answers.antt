use Rattle.std.proofs.Common.{◌≡◌, Ok, sym, string_bytes}
use Rattle.log4rs_build.specs.Raw.{asked_by, settings_in}
use Rattle.log4rs_build.proofs.Beginning.{begins_again}
use Rattle.log4rs_build.proofs.config_file.read_with_reloader.Goals as goal

pub returns-clause-ok : goal.returns-clause-ok
returns-clause-ok g c =
    let text = string_bytes c.in_ok-text.text in
    let says : settings_in c.in_ok-format.format text ≡ Ok (asked_by c.in_ok-config.config) = rw c.deref.ensures at c.in_ok-config.ensures.ok in
    begins_again _ _ _ _ (asked_by c.in_ok-config.config) _ c.in_ok-format.format text c.in-Some.rate c.modified.result
    c.in_ok-format.ensures.ok says c.in_ok-text.ensures c.modified.ensures (sym c.in-Some.ensures) (rw c.ok-stamp.ensures.value at c.new.ensures)
