use Rattle.std.proofs.Common.{◌≡◌, List, ℕ, Some, None, ◌∙◌, ◌++◌, ap, string_bytes}
use Rattle.log4rs_rolling.specs.Change.{put, bytes_at}
use Rattle.log4rs_rolling.specs.MemStore.{files_in}
use Rattle.log4rs_rolling.proofs.Maps.{put_again, taken_out, then_same}
use Rattle.log4rs_rolling.proofs.store.replay.append.Goals as goal

pub returns : goal.returns
returns c =
    let old = files_in c.args.files.now in
    let path = string_bytes c.args.path.now in
    let without = taken_out old (files_in c.take_out-whole.new.files) c.as_str.result.now path c.as_str.ensures.value c.take_out-whole.ensures.files in
    let whole : c.extend_from_slice.new.self.items ≡ bytes_at old path ++ c.args.bytes.now =
    c.in_ok-extend_from_slice.ensures.items
    ∙ ap (λ (bs : List ℕ). bs ++ c.args.bytes.now) (c.take_out-whole.ensures.bytes ∙ ap (bytes_at old) c.as_str.ensures.value) in
    then_same _ _ (put (files_in c.take_out-whole.new.files) path (Some c.extend_from_slice.new.self.items)) _ c.set.ensures (λ at.
    put_again old (files_in c.take_out-whole.new.files) path None (Some c.extend_from_slice.new.self.items) without at
    ∙ ap (λ (bs : List ℕ). put old path (Some bs) at) whole)
