-- What came to the history of a holder.
use Rattle.std.proofs.Common.{[], Option, Some, None, ℕ, refl, sym, ap, inr}
use Rattle.std.proofs.lemmas.List.{append-nil}
use Rattle.std.proofs.lemmas.List.Elements.{All-nil}
use Rattle.log4rs_config.specs.Holder.{History, Happened, HasReread, IsReply}

module _ {A : Type 0} where
  pub nothing_happened : (h : History A) → Happened h h []
  nothing_happened None = refl
  nothing_happened (Some old) = ap Some (sym (append-nil old))

  -- a reading that does nothing ends so
  pub nothing_reread : (made : Option ℕ) (h : History A) → HasReread [] made h h
  nothing_reread made h =
      record {
        tried = h;
        again = nothing_happened h;
        replies = [];
        only = All-nil IsReply;
        leaving = [];
        end = [];
        ends = inr refl;
        happened = nothing_happened h;
      }
