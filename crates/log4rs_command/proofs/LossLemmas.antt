-- Counts of failed appends.
use Rattle.std.proofs.Common.{◌≡◌, ℕ, ◌+◌, ◌<◌, Bool, true, false, cond, List, [], ◌∷◌, ◌++◌, take, length, get_or, Some, refl, sym, ap, ◌∙◌, unwrap_or}
use Rattle.std.specs.BTreeMap.{get_by_text}
use Rattle.std.specs.Map.{update}
use Rattle.std.specs.Str.{bytes_eq}
use Rattle.std.specs.Cmp.Lexicographic.{bytes_decides, nat_list_eq_equiv}
use Rattle.std.proofs.lemmas.List.{map-append, take_more}
use Rattle.log4rs_rolling.specs.Disk.{one_more}
use Rattle.log4rs_base.specs.Text.{Text}
use Rattle.log4rs_command.specs.Losses.{Counts, CountsEach, CountsOneMore, count_of, failed_at, more_for_each, more_if_same, name_at}
use Rattle.log4rs_config.specs.declared.delivery.AppendError.{AppendError}

module _ (old new : Counts) (counted : Text) (count : ℕ) (is : count ≡ one_more (count_of old counted)) where
  after_set : (name : Text) (b : Bool) → bytes_eq counted name ≡ b
      → unwrap_or (cond (bytes_eq counted name) (Some count) (get_by_text old name)) 0 ≡ more_if_same name counted (count_of old name)
  after_set name true same = rw (nat_list_eq_equiv.symm name counted, same) (is ∙ ap (λ n. one_more (count_of old n)) ((bytes_decides counted name).0 same))
  after_set name false differs = rw (nat_list_eq_equiv.symm name counted, differs) refl

  -- one count was set to one more
  pub counts_one-from_set : ((name : Text) → get_by_text new name ≡ update bytes_eq (get_by_text old) counted (Some count) name) → CountsOneMore old new counted
  counts_one-from_set sets name = ap (λ o. unwrap_or o 0) (sets name) ∙ after_set name (bytes_eq counted name) refl

more_for_each-snoc : (name : Text) (others : List Text) (last : Text) (count : ℕ)
    → more_for_each name (others ++ (last ∷ [])) count ≡ more_if_same name last (more_for_each name others count)
more_for_each-snoc name [] last count = refl
more_for_each-snoc name (other ∷ others) last count = more_for_each-snoc name others last (more_if_same name other count)

-- some errors, and one more
pub counts_each-more : (first between new : Counts) (names : List Text) (errors : List AppendError) (i : ℕ) (error : AppendError)
    → i < length errors → error ≡ get_or errors i error → CountsEach first between (failed_at names (take i errors))
    → CountsOneMore between new (name_at names error.appender) → CountsEach first new (failed_at names (take (i + 1) errors))
counts_each-more first between new names errors i error inside at each one name =
    let last = name_at names error.appender in
    let front : failed_at names (take (i + 1) errors) ≡ failed_at names (take i errors) ++ (last ∷ []) =
    ap (failed_at names) (take_more errors i error inside) ∙ map-append (λ e. name_at names e.appender) (take i errors) (get_or errors i error ∷ [])
    ∙ ap (λ e. failed_at names (take i errors) ++ (name_at names e.appender ∷ [])) (sym at) in
    one name ∙ ap (λ n. more_if_same name last n) (each name) ∙ sym (more_for_each-snoc name (failed_at names (take i errors)) last (count_of first name))
    ∙ ap (λ l. more_for_each name l (count_of first name)) (sym front)
