use Rattle.std.proofs.Common.{◌≡◌, List, ℕ, Option, Some, None, [], ◌∙◌, ◌++◌, ap, refl, sym, string_bytes, arith}
use Rattle.std.proofs.lemmas.List.{append-nil}
use Rattle.log4rs_rolling.specs.Change.{put, bytes_at, after}
use Rattle.log4rs_rolling.specs.MemStore.{files_in, change_of}
use Rattle.log4rs_rolling.specs.declared.store.effect.Effect.{Effect}
use Rattle.log4rs_rolling.proofs.Maps.{put_same, items_of, files_in_changed, then_same}
use Rattle.log4rs_rolling.proofs.store.replay.apply.Goals as goal

pub returns-in-Opened-default-Append : goal.returns-in-Opened-default-Append
returns-in-Opened-default-Append c =
    let old = files_in c.args.files.now in
    let at = string_bytes c.in-Opened-default-Append.at in
    then_same _ _ (put old at (Some (bytes_at old at ++ []))) _ c.append.ensures (λ path. ap (λ (bs : List ℕ). put old at (Some bs) path) (append-nil (bytes_at old at)) ∙ (grind arith))

pub returns-in-Renamed : goal.returns-in-Renamed
returns-in-Renamed c =
    let old = files_in c.args.files.now in
    let from = string_bytes c.in-Renamed.from in
    let to = string_bytes c.in-Renamed.to in
    let without = files_in_changed c.as_str.result.now from c.args.files.now c.remove-moved.new.self None None c.as_str.ensures.value refl c.remove-moved.ensures.updates in
    let moved : items_of c.remove-moved.result ≡ old from = ap items_of c.remove-moved.ensures.value ∙ ap old c.as_str.ensures.value in
    then_same _ _ (put (files_in c.remove-moved.new.self) to (items_of c.remove-moved.result)) _ c.set-in-Renamed.ensures (λ path.
    put_same (files_in c.remove-moved.new.self) (put old from None) to (items_of c.remove-moved.result) (old from) without moved path
    ∙ ap (λ (e : Effect). after old (change_of e) path) (sym c.in-Renamed.is))

pub returns-in_ok-copy-in-Copied : goal.returns-in_ok-copy-in-Copied
returns-in_ok-copy-in-Copied c =
    let old = files_in c.args.files.now in
    let to = string_bytes c.in-Copied.to in
    let copied : items_of c.in_ok-copy-in-Copied.copy ≡ old (string_bytes c.in-Copied.from) = c.in_ok-copy-in-Copied.ensures ∙ ap old c.as_str-in-Copied.ensures.value in
    then_same _ _ (put old to (items_of c.in_ok-copy-in-Copied.copy)) _ c.set-in-Copied.ensures (λ path.
    ap (λ (o : Option (List ℕ)). put old to o path) copied
    ∙ ap (λ (e : Effect). after old (change_of e) path) (sym c.in-Copied.is))
