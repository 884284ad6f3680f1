use Rattle.std.proofs.Common.{◌≡◌, List, ◌++◌, Bool, true, false, ◌&&◌, map, nat_eq, not, refl, sym, take, ap, ◌∙◌, arith}
use Rattle.std.proofs.lemmas.List.{take_all}
use Rattle.log4rs_plans.specs.Overlaps.{is_archive, one_file, one_pattern, other_archives, own_archives}
use Rattle.log4rs_plans.specs.Places.{if_so}
use Rattle.log4rs_plans.specs.Written.{file_of, window_of}
use Rattle.log4rs_plans.specs.declared.warnings.Warning.TheVariants.{OtherArchive, OwnArchive}
use Rattle.log4rs_plans.proofs.Listing.{all_places, front_of, one_more_place, two_turns}
use Rattle.log4rs_plans.proofs.overlaps.overlaps.Goals.{then-is_archive_at, else-is_archive_at, then-is_archive_at-2, else-is_archive_at-2}
use Rattle.log4rs_plans.proofs.overlaps.overlaps.Goals as goal

-- what `&&` gave, by the branch that ran
both : (is_so first a b : Bool) → first ≡ a → first ≡ true → is_so ≡ b → is_so ≡ (a && b)
both is_so first a b is holds so = so ∙ ap (λ (x : Bool). x && b) (sym holds ∙ is)

neither : (is_so first a b : Bool) → first ≡ a → first ≡ false → is_so ≡ first → is_so ≡ (a && b)
neither is_so first a b is fails so = so ∙ fails ∙ ap (λ (x : Bool). x && b) (sym fails ∙ is)

pub loop-place-preserved : goal.loop-place-preserved
loop-place-preserved c =
    one_more_place _ _ c.args.files.now c.loop-place.place _ _ _ _ _ (omega arith) c.index-files-place.is c.loop-place.invariant c.in_ok-add_where.ensures
    (rw (c.eq-is_so.ensures, c.as_str.ensures.value, ← c.index-files-place.is) refl)

pub loop-at-preserved : goal.loop-at-preserved
loop-at-preserved c =
    let file = file_of c.index-files-place-in-loop-place-2.result in
    let is : c.if-is_archive_at.is_so ≡ (is_archive file c.loop-at.at && nat_eq file.appender c.index-windows-at.result.appender) =
    elim c.if-is_archive_at.branch [
      | then-is_archive_at w ↦ both _ _ _ _ c.is_archive_at.ensures w.if-is_archive_at.true w.is_so-is
      | else-is_archive_at w ↦ neither _ _ _ _ c.is_archive_at.ensures w.if-is_archive_at.false w.is_so-is
    ] in
    one_more_place _ _ c.args.windows.now c.loop-at.at _ _ _ _ _ (omega arith) c.index-windows-at.is c.loop-at.invariant c.in_ok-add_where-2.ensures
    (ap (λ b. if_so b (OwnArchive c.loop-place-2.place)) is)

pub loop-at-2-preserved : goal.loop-at-2-preserved
loop-at-2-preserved c =
    one_more_place _ _ c.args.files.now c.loop-at-2.at _ _ _ _ _ (omega arith) c.index-files-at.is c.loop-at-2.invariant c.in_ok-add_where-3.ensures
    (rw (c.eq-is_so-in-loop-at-2.ensures, c.as_str-in-loop-at-2.ensures.value, c.as_str-in-loop-at-2-2.ensures.value, ← c.index-files-at.is) refl)

pub loop-place-2-preserved : goal.loop-place-2-preserved
loop-place-2-preserved c =
    let files = c.args.files.now in
    let windows = c.args.windows.now in
    let place = c.loop-place-2.place in
    let file = file_of c.index-files-place-in-loop-place-2.result in
    let own = ap (λ ws. own_archives ws place file) (ap (map window_of) (take_all c.loop-at.at windows c.loop-at-test.false)) in
    let one = ap (λ fs. one_file fs place file) (front_of file_of files c.loop-at-2.at place c.loop-at-2.auto.at-end c.loop-at-2-test.false) in
    one_more_place _ _ files place _ _ _ _ _ (omega arith) c.index-files-place-in-loop-place-2.is c.loop-place-2.invariant
    (two_turns _ _ _ _ _ c.loop-at.invariant c.loop-at-2.invariant)
    (ap (λ l. l ++ one_file (map file_of (take c.loop-at-2.at files)) place file) own ∙ ap (λ l. own_archives (map window_of windows) place file ++ l) one)

pub loop-at-3-preserved : goal.loop-at-3-preserved
loop-at-3-preserved c =
    let file = file_of c.index-files-place-in-loop-place-3.result in
    let is : c.if-is_archive_at-2.is_so ≡ (is_archive file c.loop-at-3.at && not (nat_eq file.appender c.index-windows-at-in-loop-at-3.result.appender)) =
    elim c.if-is_archive_at-2.branch [
      | then-is_archive_at-2 w ↦ both _ _ _ _ c.is_archive_at-in-loop-at-3.ensures w.if-is_archive_at-2.true w.is_so-is
      | else-is_archive_at-2 w ↦ neither _ _ _ _ c.is_archive_at-in-loop-at-3.ensures w.if-is_archive_at-2.false w.is_so-is
    ] in
    one_more_place _ _ c.args.windows.now c.loop-at-3.at _ _ _ _ _ (omega arith) c.index-windows-at-in-loop-at-3.is c.loop-at-3.invariant c.in_ok-add_where-4.ensures
    (ap (λ b. if_so b (OtherArchive c.loop-place-3.place c.loop-at-3.at)) is)

pub loop-place-3-preserved : goal.loop-place-3-preserved
loop-place-3-preserved c =
    let file = file_of c.index-files-place-in-loop-place-3.result in
    one_more_place _ _ c.args.files.now c.loop-place-3.place _ _ _ _ _ (omega arith) c.index-files-place-in-loop-place-3.is c.loop-place-3.invariant c.loop-at-3.invariant
    (ap (λ ws. other_archives ws c.loop-place-3.place file) (ap (map window_of) (take_all c.loop-at-3.at c.args.windows.now c.loop-at-3-test.false)))

pub loop-at-4-preserved : goal.loop-at-4-preserved
loop-at-4-preserved c =
    one_more_place _ _ c.args.windows.now c.loop-at-4.at _ _ _ _ _ (omega arith) c.index-windows-at-in-loop-at-4.is c.loop-at-4.invariant c.in_ok-add_where-5.ensures
    (rw (c.shares-is_so.ensures) refl)

pub loop-place-4-preserved : goal.loop-place-4-preserved
loop-place-4-preserved c =
    let windows = c.args.windows.now in
    let place = c.loop-place-4.place in
    let window = window_of c.index-windows-place.result in
    one_more_place _ _ windows place _ _ _ _ _ (omega arith) c.index-windows-place.is c.loop-place-4.invariant c.loop-at-4.invariant
    (ap (λ ws. one_pattern ws place window) (front_of window_of windows c.loop-at-4.at place c.loop-at-4.auto.at-end c.loop-at-4-test.false))

-- what was found in one turn more
behind : {B : Type 0} (between new front last : List B) → between ≡ front → new ≡ between ++ last → new ≡ front ++ last
behind between new front last before is = is ∙ ap (λ l. l ++ last) before

pub returns : goal.returns
returns c =
    let files = c.args.files.now in
    let windows = c.args.windows.now in
    let first = all_places _ _ files c.loop-place.place _ _ c.loop-place-test.false c.loop-place.invariant in
    let second = all_places _ _ files c.loop-place-2.place _ _ c.loop-place-2-test.false c.loop-place-2.invariant in
    let third = all_places _ _ files c.loop-place-3.place _ _ c.loop-place-3-test.false c.loop-place-3.invariant in
    let fourth = all_places _ _ windows c.loop-place-4.place _ _ c.loop-place-4-test.false c.loop-place-4.invariant in
    behind _ _ _ _ (behind _ _ _ _ (behind _ _ _ _ (behind _ _ _ _ c.new-found.ensures.items first) second) third) fourth
