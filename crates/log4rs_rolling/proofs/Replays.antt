-- A file that is put at a path.
use Rattle.std.proofs.Common.{◌≡◌, ◌≢◌, ℕ, List, Option, ap, false, cond}
use Rattle.std.specs.Str.{bytes_eq}
use Rattle.std.proofs.lemmas.Slice.Eq.{bytes_eq-Decides}
use Rattle.std.proofs.lemmas.Bool.{false_from_ne_true}
use Rattle.log4rs_rolling.proofs.Calls.{same_path}
use Rattle.log4rs_rolling.specs.Change.{Files, put}

pub other_path : (p q : List ℕ) → p ≢ q → bytes_eq p q ≡ false
other_path p q different = false_from_ne_true _ (λ e. different ((bytes_eq-Decides p q).0 e))

pub put_here : (files : Files) (path : List ℕ) (value : Option (List ℕ)) → put files path value path ≡ value
put_here files path value = ap (λ b. cond b value (files path)) (same_path path)

pub put_there : (files : Files) (path : List ℕ) (value : Option (List ℕ)) (q : List ℕ) → q ≢ path → put files path value q ≡ files q
put_there files path value q different = ap (λ b. cond b value (files q)) (other_path q path different)
