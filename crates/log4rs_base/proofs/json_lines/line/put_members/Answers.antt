use Rattle.std.proofs.Common.{◌≡◌, codes, option_map, string_bytes, ap, ◌∙◌, ◌++◌}
use Rattle.serde_json.specs.Data.{string, number, unsigned, object, Members, no_members, member}
use Rattle.log4rs_base.specs.Line.{if_some, or_null, text_members, members_of}
use Rattle.log4rs_base.specs.Written.{tokens_of}
use Rattle.log4rs_base.proofs.json_lines.line.put_members.Goals as goal

pub returns : goal.returns
returns c =
    let r = c.args.record.now in
    let context = c.args.context.now in
    let mdc : Members = member (codes "mdc") (object (text_members context.mdc.entries)) no_members in
    let id : Members = member (codes "thread_id") (number (unsigned context.thread_id)) mdc in
    let thread : Members = member (codes "thread") (or_null (option_map string_bytes context.thread)) id in
    let target : Members = member (codes "target") (string c.deref-2.result.now) thread in
    let line : Members = if_some (codes "line") (λ n. number (unsigned n)) r.line target in
    let file : Members = if_some (codes "file") string (option_map string_bytes r.file) line in
    let path : Members = if_some (codes "module_path") string (option_map string_bytes r.module_path) file in
    let message : Members = member (codes "message") (string c.deref.result.now) path in
    let level : Members = member (codes "level") (string c.as_str.result.now) message in
    let all : Members = member (codes "time") (string c.args.time.now) level in
    let same : all ≡ members_of c.args.time.now r context = rw (c.as_str.ensures, c.deref.ensures, c.deref-2.ensures) in (
      c.in_ok-put_texts.ensures.0 ∙ c.in_ok-put_number.ensures.0 ∙ c.in_ok-put_text_or_null.ensures.0 ∙ c.in_ok-put_text-4.ensures.0 ∙ c.in_ok-put_number_if.ensures.0
          ∙ c.in_ok-put_text_if-2.ensures.0 ∙ c.in_ok-put_text_if.ensures.0 ∙ c.in_ok-put_text-3.ensures.0 ∙ c.in_ok-put_text-2.ensures.0 ∙ c.in_ok-put_text.ensures.0,
      c.in_ok-put_texts.ensures.1 no_members ∙ c.in_ok-put_number.ensures.1 mdc ∙ c.in_ok-put_text_or_null.ensures.1 id ∙ c.in_ok-put_text-4.ensures.1 thread
          ∙ c.in_ok-put_number_if.ensures.1 target ∙ c.in_ok-put_text_if-2.ensures.1 line ∙ c.in_ok-put_text_if.ensures.1 file ∙ c.in_ok-put_text-3.ensures.1 path
          ∙ c.in_ok-put_text-2.ensures.1 message ∙ c.in_ok-put_text.ensures.1 level ∙ ap (λ ms. c.args.out.now.tokens ++ tokens_of ms) same,
    )
