use Rattle.std.proofs.Common.{◌≡◌, ◌+◌, ◌-◌, ◌∷◌, ◌∙◌, ℕ, suc, List, true, false, refl, sym, ap, subst, arith, string_bytes}
use Rattle.std.proofs.lemmas.Bool.{true≢false}
use Rattle.log4rs_rolling.specs.Roller.{archive_name, names_beside}
use Rattle.log4rs_rolling.specs.Window.{NotAmong, AreDistinct}
use Rattle.log4rs_rolling.proofs.Distinct.{all_names, is_among, names_to, not_among, among, fewer, was_there, was_new, one_more}
use Rattle.log4rs_rolling.proofs.fixed_window.FixedWindowRoller.distinct.Goals as goal

pub returns-then-not-branch : goal.returns-then-not-branch
returns-then-not-branch c =
    let self = c.args.self.now in
    let name = archive_name self in
    let others = names_beside self.background c.args.active.now in
    let at = c.loop-at.at in
    let names = names_to name self.base others at in
    let key = string_bytes c.in_ok-name.field-0 in
    let there : is_among key names ≡ true =
    sym (c.loop-at.invariant.known key) ∙ was_there _ _ c.in_ok-insert.ensures.added c.if-not-branch.true in
    let all : self.count ≡ suc at + (self.count - suc at) = omega (arith, c.loop-at-test.true, c.loop-at.auto.at-end) in (
      (λ no. absurd (true≢false (sym no))),
      λ are.
          let here = subst AreDistinct (all_names name self.base self.count self.rename_only self.background self.asked self.job c.args.active.now) are in
          let some = fewer name self.base others (self.count - suc at) (suc at) (subst (λ n. AreDistinct (names_to name self.base others n)) all here) in
          absurd (among key names there (subst (λ k. NotAmong k names) (sym c.in_ok-name.ensures) some.0)),
    )

pub loop-at-preserved : goal.loop-at-preserved
loop-at-preserved c =
    let self = c.args.self.now in
    let name = archive_name self in
    let others = names_beside self.background c.args.active.now in
    let at = c.loop-at.at in
    let names = names_to name self.base others at in
    let key = string_bytes c.in_ok-name.field-0 in
    let new : is_among key names ≡ false =
    sym (c.loop-at.invariant.known key) ∙ was_new _ _ c.in_ok-insert.ensures.added c.if-not-branch.false in
    let next : suc at ≡ at + 1 = omega arith in
    record {
      distinct = subst (λ n. AreDistinct (names_to name self.base others n)) next
          (subst (λ k. NotAmong k names) c.in_ok-name.ensures (not_among key names new), c.loop-at.invariant.distinct);
      known = λ other.
          one_more c.loop-at.names c.insert.new.self c.in_ok-name.field-0 names c.in_ok-insert.ensures.updates c.loop-at.invariant.known other
          ∙ ap (λ (k : List ℕ). is_among other (k ∷ names)) c.in_ok-name.ensures
          ∙ ap (λ (n : ℕ). is_among other (names_to name self.base others n)) next;
    }

pub returns : goal.returns
returns c =
    let self = c.args.self.now in
    let name = archive_name self in
    let active = c.args.active.now in
    let all : c.loop-at.at ≡ self.count = omega (arith, c.loop-at-test.false, c.loop-at.auto.at-end) in (
      (λ yes. subst AreDistinct (sym (all_names name self.base self.count self.rename_only self.background self.asked self.job active))
          (subst (λ n. AreDistinct (names_to name self.base (names_beside self.background active) n)) all c.loop-at.invariant.distinct)),
      λ are. refl,
    )
