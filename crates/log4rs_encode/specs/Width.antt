-- The parameters of an argument: how wide it is printed. Each part is a value and what follows it.
use Rattle.std.specs.Prelude.{ℕ, ◌+◌, ◌-◌, ◌*◌, ◌^◌, Bool, true, false, ◌||◌, ◌&&◌, List, [], ◌∷◌}
use Rattle.std.specs.Prelude.{drop, Option, Some, None, if◌then◌else◌, nat_lt}
use Rattle.std.specs.Char.{is_ascii_digit}
use Rattle.log4rs_encode.specs.Scan.{leading, after_leading, begins}
use Rattle.log4rs_encode.specs.declared.pattern.piece.Alignment.{Alignment}
use Rattle.log4rs_encode.specs.declared.pattern.piece.Alignment.TheVariants.{Left, Right}
use Rattle.log4rs_encode.specs.declared.pattern.piece.Parameters.{Parameters}

-- the characters of parameters
abbrev pub space : ℕ
space = 32

abbrev pub minus : ℕ
minus = 45

abbrev pub dot : ℕ
dot = 46

abbrev pub zero_digit : ℕ
zero_digit = 48

abbrev pub colon : ℕ
colon = 58

abbrev pub less_than : ℕ
less_than = 60

abbrev pub greater_than : ℕ
greater_than = 62

-- the character before a `<` or `>`, else a space
abbrev pub fill_of : List ℕ → ℕ × List ℕ
fill_of [] = (space, [])
fill_of (c ∷ cs) =
    if begins less_than cs || begins greater_than cs then (c, cs) else (space, c ∷ cs)

-- `>` aligns right; `<`, and neither, align left
abbrev pub align_of : List ℕ → Alignment × List ℕ
align_of cs =
    if begins less_than cs then (Left, drop 1 cs)
    else (if begins greater_than cs then (Right, drop 1 cs) else (Left, cs))

-- `-` truncates at the left
abbrev pub right_truncate_of : List ℕ → Bool × List ℕ
right_truncate_of cs = if begins minus cs then (false, drop 1 cs) else (true, cs)

-- the number that decimal digits write behind those of n
abbrev pub decimal_after : ℕ → List ℕ → ℕ
decimal_after n [] = n
decimal_after n (d ∷ ds) = decimal_after (10 * n + (d - zero_digit)) ds

abbrev pub number_of : List ℕ → Option ℕ
number_of [] = None
number_of (d ∷ ds) = Some (decimal_after 0 (d ∷ ds))

-- the number of the ASCII digits at the front, if there are any
abbrev pub width_of : List ℕ → Option ℕ × List ℕ
width_of cs = (number_of (leading is_ascii_digit cs), after_leading is_ascii_digit cs)

-- a number behind a `.`
abbrev pub maximum_of : List ℕ → Option ℕ × List ℕ
maximum_of cs = if begins dot cs then width_of (drop 1 cs) else (None, cs)

-- the number has at most 64 bits
abbrev pub fits : Option ℕ → Bool
fits None = true
fits (Some n) = nat_lt n (2 ^ 64)

-- the parameters, unless a width is too large
abbrev pub checked : Parameters → Option Parameters
checked ps = if fits ps.min_width && fits ps.max_width then Some ps else None

-- the parameters behind the `:`
abbrev pub given_parameters : List ℕ → Option Parameters × List ℕ
given_parameters cs =
    let fill = fill_of cs in
    let align = align_of fill.1 in
    let right_truncate = right_truncate_of align.1 in
    let min = width_of right_truncate.1 in
    let max = maximum_of min.1 in (
      checked (record {
        fill = fill.0;
        right_truncate = right_truncate.0;
        align = align.0;
        min_width = min.0;
        max_width = max.0;
      }),
      max.1,
    )

abbrev pub default_parameters : Parameters
default_parameters =
    record { fill = space; right_truncate = true; align = Left; min_width = None; max_width = None }

-- the longest parameters at the front of a text
abbrev pub parameters_of : List ℕ → Option Parameters × List ℕ
parameters_of cs =
    if begins colon cs then given_parameters (drop 1 cs) else (Some default_parameters, cs)
