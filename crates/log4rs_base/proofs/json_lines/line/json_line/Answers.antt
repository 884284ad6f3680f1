use Rattle.std.proofs.Common.{◌≡◌, ◌++◌, ◌∷◌, [], ap, ap₂, ◌∙◌, codes}
use Rattle.json.specs.Print.{print}
use Rattle.json.specs.Token.{begin_object}
use Rattle.serde_json.specs.Data.{object}
use Rattle.serde_json.proofs.Texts.{print-outline}
use Rattle.log4rs_base.specs.Line.{members_of}
use Rattle.log4rs_base.specs.Written.{tokens_of}
use Rattle.log4rs_base.proofs.json_lines.line.json_line.Goals as goal

pub returns : goal.returns
unfolding lib.Utf8.encode
returns c =
    let members = members_of c.args.time.now c.args.record.now c.args.context.now in
    let written = c.end_object.new.self in
    let before : written.before ≡ [] =
    c.in_ok-end_object.ensures.room.0 ∙ c.in_ok-put_members.ensures.0 ∙ c.in_ok-begin_object.ensures.room.0 ∙ c.new-out.ensures.before ∙ c.in_ok-reserve.ensures.items ∙ c.clear.ensures.items in
    let opened : c.begin_object.new.self.tokens ≡ begin_object ∷ [] = c.in_ok-begin_object.ensures.ok ∙ ap (λ ts. ts ++ begin_object ∷ []) c.new-out.ensures.tokens in
    let tokens : written.tokens ≡ begin_object ∷ tokens_of members =
    c.in_ok-end_object.ensures.ok ∙ c.in_ok-put_members.ensures.1 ∙ ap (λ ts. ts ++ tokens_of members) opened in
    let bytes = ap (λ v. v.items) c.from_utf8_unchecked-line.ensures.value ∙ c.into_inner.ensures.items ∙ ap₂ (λ b ts. b ++ print ts) before tokens ∙ print-outline (object members) in
    c.in_ok-push.ensures.bytes ∙ ap (λ t. t ++ codes "\n") bytes
