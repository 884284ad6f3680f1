use Rattle.std.proofs.Common.{◌≡◌, string_bytes}
use Rattle.std.proofs.lemmas.Map.Text.{btree_map_updates_text}
use Rattle.std.proofs.lemmas.Result.{IfOk-at_ok}
use Rattle.log4rs_command.proofs.LossLemmas.{counts_one-from_set}
use Rattle.log4rs_command.proofs.losses.count_one.Goals as goal

-- the key has the name's bytes, so `insert` set the count of the name
pub returns : goal.returns
returns c =
    let is_name = IfOk-at_ok (λ s. string_bytes s ≡ c.args.name.now) c.in_ok-key.was c.from_str.ensures.ok in
    let sets = btree_map_updates_text (string_bytes c.in_ok-key.key) c.args.losses.now c.insert.new.self _ c.in_ok-insert.ensures.updates in
    counts_one-from_set c.args.losses.now c.insert.new.self c.args.name.now c.one_more-count.result (rw c.count_of.ensures at c.one_more-count.ensures)
    (rw is_name at sets)
