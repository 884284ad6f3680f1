use Rattle.std.proofs.Common.{◌≡◌, ◌++◌, ℕ, List, Result, Ok, Err, OnOk, append_assoc, codes, string_bytes}
use Rattle.log4rs_base.specs.Directive.{fraction, date_time, offset_text}
use Rattle.log4rs_base.proofs.dates.directive.push_timestamp.Goals as goal

-- three texts, one after another
three : {V E : Type 0} (r : Result V E) (s s1 s2 s3 a b d : List ℕ) → s1 ≡ s ++ a → s2 ≡ s1 ++ b → OnOk r (s3 ≡ s2 ++ d) → OnOk r (s3 ≡ s ++ (a ++ b ++ d))
three (Ok v) s s1 s2 s3 a b d p q e = rw (e, q, p) (simp append_assoc)
three (Err e) s s1 s2 s3 a b d p q h = h

pub returns : goal.returns
returns c =
    three c.push_colon_offset.result (string_bytes c.args.out.now) (string_bytes c.push_date_time.new.out) (string_bytes c.push_fraction.new.out)
    (string_bytes c.push_colon_offset.new.out) (date_time c.args.clock.now) (fraction c.args.clock.now) (offset_text (codes ":") c.args.clock.now.offset)
    c.in_ok-push_date_time.ensures c.in_ok-push_fraction.ensures c.push_colon_offset.ensures
