-- Members are read one after another.
use Rattle.std.proofs.Common.{◌≡◌, ℕ, List, [], ◌∷◌, ◌++◌, map, Result, Ok, Err, string_bytes, refl, sym, ap}
use Rattle.std.specs.Result.{result_unwrap_or}
use Rattle.log4rs_settings.specs.Data.{Data}
use Rattle.log4rs_settings.specs.View.{view, members_view}
use Rattle.log4rs_settings.proofs.Trees.{Entry}
use Rattle.log4rs_settings.specs.Part.{Part, under, within}
use Rattle.log4rs_settings.specs.Fields.{◌>>=◌}
use Rattle.log4rs_settings.specs.Loggers.{logger_entry}
use Rattle.log4rs_settings.specs.Top.{each_member, entry_view}
use Rattle.log4rs_settings.specs.declared.top.NamedAppender.{NamedAppender}
use Rattle.log4rs_settings.specs.declared.top.NamedLogger.{NamedLogger}
use Rattle.log4rs_settings.proofs.Passed.{bind-parts}

module _ {A : Type 0} (read : Data → Result A Part) where
  pub each_member-last : (es : List Entry) (e : Entry) (xs : List (List ℕ × A)) (x : A) → each_member read (members_view es) ≡ Ok xs → read (view e.1) ≡ Ok x
      → each_member read (members_view (es ++ e ∷ [])) ≡ Ok (xs ++ (string_bytes e.0, x) ∷ [])
  each_member-last [] e xs x done here =
      let none : xs ≡ [] = ap (λ r. result_unwrap_or r xs) (sym done) in
      rw (here, none)
  each_member-last (y ∷ es) e xs x done here =
      let k = string_bytes y.0 in
      let p = bind-parts (within k (read (view y.1))) (λ g. each_member read (members_view es) >>= (λ gs. Ok ((k, g) ∷ gs))) xs done in
      let q = bind-parts (each_member read (members_view es)) (λ gs. Ok ((k, p.0) ∷ gs)) xs p.2 in
      let all : xs ≡ (k, p.0) ∷ q.0 = ap (λ r. result_unwrap_or r xs) (sym q.2) in
      let grown : List (List ℕ × A) → Result (List (List ℕ × A)) Part = λ l. Ok (l ++ (string_bytes e.0, x) ∷ []) in
      rw (p.1, each_member-last es e q.0 x q.1 here) (ap grown (sym all))

  pub each_member-refused : (es : List Entry) (e : Entry) (rest : List Entry) (xs : List (List ℕ × A)) (f : Part) → each_member read (members_view es) ≡ Ok xs → read (view e.1) ≡ Err f
      → each_member read (members_view (es ++ e ∷ rest)) ≡ Err (under (string_bytes e.0) f)
  each_member-refused [] e rest xs f done here = rw here
  each_member-refused (y ∷ es) e rest xs f done here =
      let k = string_bytes y.0 in
      let p = bind-parts (within k (read (view y.1))) (λ g. each_member read (members_view es) >>= (λ gs. Ok ((k, g) ∷ gs))) xs done in
      let q = bind-parts (each_member read (members_view es)) (λ gs. Ok ((k, p.0) ∷ gs)) xs p.2 in
      rw (p.1, each_member-refused es e rest q.0 f q.1 here)

pub entries-last : (xs : List NamedAppender) (a : NamedAppender) → map entry_view (xs ++ a ∷ []) ≡ map entry_view xs ++ entry_view a ∷ []
entries-last [] a = refl
entries-last (x ∷ xs) a = ap (λ l. entry_view x ∷ l) (entries-last xs a)

pub loggers-last : (xs : List NamedLogger) (l : NamedLogger) → map logger_entry (xs ++ l ∷ []) ≡ map logger_entry xs ++ logger_entry l ∷ []
loggers-last [] l = refl
loggers-last (x ∷ xs) l = ap (λ ls. logger_entry x ∷ ls) (loggers-last xs l)
