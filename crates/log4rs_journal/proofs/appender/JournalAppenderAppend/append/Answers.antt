use Rattle.std.proofs.Common.{◌≡◌, ◌≢◌, Option, Some, None, Result, Ok, IfOk, IfSome, sym, ◌∙◌, subst, refl}
use Rattle.log4rs_journal.specs.Receipts.{Journal, IsReceiptOf, place_of}
use Rattle.log4rs_journal.specs.declared.receipt.Receipt.{Receipt}
use Rattle.log4rs_journal.proofs.appender.JournalAppenderAppend.append.Goals as goal
use Rattle.log4rs_journal.proofs.appender.JournalAppenderAppend.append.Goals.{in-Some, in-None}

-- what holds of the value in an answer holds of the value
found : {A E : Type 0} (P : A → Type 0) (r : Result A E) (x : A) → r ≡ Ok x → IfOk r P → P x
found P r x is holds = subst (λ (s : Result _ _). IfOk s P) is holds

-- a receipt of a journal is one of the same journal
of_same : (j k : Journal) (receipt : Receipt) → j ≡ k → IsReceiptOf j receipt → IsReceiptOf k receipt
of_same j k receipt is own = subst (λ (i : Journal). IsReceiptOf i receipt) is own

-- elsewhere than the receipt that there was, if there was one
beside : (before : Option Receipt) (earlier receipt : Receipt) → before ≡ Some earlier
    → place_of receipt ≢ place_of earlier → IfSome before (λ r. place_of receipt ≢ place_of r)
beside before earlier receipt is apart =
    subst (λ (b : Option Receipt). IfSome b (λ r. place_of receipt ≢ place_of r)) (sym is) apart

first : (before : Option Receipt) (receipt : Receipt) → before ≡ None
    → IfSome before (λ r. place_of receipt ≢ place_of r)
first before receipt is =
    subst (λ (b : Option Receipt). IfSome b (λ r. place_of receipt ≢ place_of r)) (sym is) tt

pub returns-clause-newest : goal.returns-clause-newest
returns-clause-newest g c =
    elim c.match-self.branch [
      | in-Some w ↦
          let is : _ = sym w.appended-is ∙ c.in-Ok.is in
          let e : _ = w.append_after-appended.ensures in
          record {
            receipt = c.in-Ok.receipt;
            last = refl;
            own = of_same _ _ c.in-Ok.receipt w.deref.ensures (found _ _ _ is e.own);
            logged = found _ _ _ is e.logged;
            around = found _ _ _ is e.context;
            elsewhere = beside _ w.in-Some.earlier c.in-Ok.receipt w.in-Some.is (found _ _ _ is e.elsewhere);
          }
      | in-None w ↦
          let is : _ = sym w.appended-is ∙ c.in-Ok.is in
          let e : _ = w.append-appended.ensures in
          record {
            receipt = c.in-Ok.receipt;
            last = refl;
            own = of_same _ _ c.in-Ok.receipt w.deref-in-None.ensures (found _ _ _ is e.own);
            logged = found _ _ _ is e.logged;
            around = found _ _ _ is e.context;
            elsewhere = first _ c.in-Ok.receipt w.in-None.is;
          }
    ]
