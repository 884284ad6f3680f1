use Rattle.std.proofs.Common.{◌≡◌, ◌++◌, ◌∷◌, List, ℕ, encode_utf8, encode_utf8_all, ap, sym, ◌∙◌, append_assoc}
use Rattle.std.specs.Str.{chars}
use Rattle.log4rs_encode.specs.Scan.{leading, is_alphanumeric}
use Rattle.log4rs_encode.proofs.Scanned.{cut_before}
use Rattle.log4rs_encode.proofs.pattern.parser.name.Goals as goal

pub split_at-requires : goal.split_at-requires
split_at-requires c =
    let letters : List ℕ = leading is_alphanumeric (chars c.in-Some.rest.now) in
    let whole : c.args.text.now ≡ encode_utf8_all (c.in-Some.c ∷ letters) ++ c.skip-rest.result.now =
    c.in-Some.ensures.bytes ∙ ap (λ (r : List ℕ). encode_utf8 c.in-Some.c ++ r) c.skip-rest.ensures.front
    ∙ sym (append_assoc (encode_utf8 c.in-Some.c) (encode_utf8_all letters) c.skip-rest.result.now) in
    (cut_before _ _ _ whole c.skip-rest.utf8).boundary
