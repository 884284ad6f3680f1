-- Two facts about the same calls.
use Rattle.std.proofs.Common.{◌≡◌, List, sym, ◌∙◌, subst}
use Rattle.std.proofs.lemmas.List.{append_cancel_left}
use Rattle.log4rs_rolling.specs.Change.{Change}
use Rattle.log4rs_rolling.specs.Disk.{Disk, Calls}

pub calls_both : (d0 d1 : Disk) (P Q : List Change → Type 0) → Calls d0 d1 P → Calls d0 d1 Q → Calls d0 d1 (λ added. P added × Q added)
calls_both d0 d1 P Q p q =
    record {
      tells = p.tells;
      refusals = p.refusals;
      told = λ tells.
          let x = p.told tells in
          let y = q.told tells in
          let same : y.0 ≡ x.0 = append_cancel_left d0.changes y.0 x.0 (sym y.1.changes ∙ x.1.changes) in
          (x.0, x.1, (x.2, subst Q same y.2));
    }
