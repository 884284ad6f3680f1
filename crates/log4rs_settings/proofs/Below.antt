-- What is read below a name.
use Rattle.std.proofs.Common.{◌≡◌, ℕ, List, Result, Ok, Err, ap, sym, ◌∙◌}
use Rattle.std.proofs.lemmas.Bool.{false≢true}
use Rattle.std.specs.Result.{is_ok, result_unwrap_or}
use Rattle.log4rs_settings.specs.Part.{Part, part_of, under, within}
use Rattle.log4rs_settings.specs.Reading.{IsPartRead, IsBelow, IsWithin}
use Rattle.log4rs_settings.specs.declared.part.PartError.{PartError}
use Rattle.log4rs_settings.specs.declared.part.PartError.TheVariants.{Fault, Memory}

read_below : {T A : Type 0} (see : T → A) (name : List ℕ) (settings : Result A Part) (error told : PartError)
    → IsPartRead see settings (Err error) → IsBelow name error told → IsPartRead see (within name settings) (Err told)
read_below see name settings (Fault f) (Fault g) read below = ap (within name) read ∙ ap Err (sym below)
read_below see name settings Memory (Fault g) read below = absurd below
read_below see name settings error Memory read below = tt

pub read_within : {T A : Type 0} (see : T → A) (name : List ℕ) (settings : Result A Part) (read told : Result T PartError)
    → IsPartRead see settings read → IsWithin name read told → IsPartRead see (within name settings) told
read_within see name settings (Ok x) told is so = rw so (ap (within name) is)
read_within see name settings (Err error) (Ok x) is so = absurd so
read_within see name settings (Err error) (Err told) is so = read_below see name settings error told is so

-- a value that was read below a name
pub taken_within : {T A : Type 0} (see : T → A) (name : List ℕ) (settings : Result A Part) (read : Result T PartError) (x : T)
    → IsPartRead see settings read → IsWithin name read (Ok x) → settings ≡ Ok (see x)
taken_within see name settings (Ok y) x is so = is ∙ ap (λ r. Ok (see (result_unwrap_or r x))) (sym so)
taken_within see name settings (Err error) x is so = absurd so

-- a whole that is refused as what is read below a name of it
pub refused_within : {T U A B : Type 0} (see : T → A) (see_all : U → B) (name : List ℕ) (settings : Result A Part) (all : Result B Part) (read : Result T PartError) (error : PartError)
    → ((p : Part) → settings ≡ Err p → all ≡ Err (under name p)) → IsPartRead see settings read → IsWithin name read (Err error) → IsPartRead see_all all (Err error)
refused_within see see_all name settings all (Ok x) error refused is so = absurd (false≢true (ap is_ok so))
refused_within see see_all name settings all (Err (Fault f)) (Fault g) refused is so = refused (part_of f) is ∙ ap Err (sym so)
refused_within see see_all name settings all (Err Memory) (Fault g) refused is so = absurd so
refused_within see see_all name settings all (Err f) Memory refused is so = tt
