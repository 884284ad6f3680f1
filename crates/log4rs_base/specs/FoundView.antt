-- The result of a reader of directives, in the terms of its definition.
use Rattle.std.specs.Prelude.{◌≡◌, ◌≤◌, ◌-◌, ℕ, List, length, drop, Option, Some, None}
use Rattle.log4rs_base.specs.DateFormat.{Found, Named}
use Rattle.log4rs_base.specs.declared.dates.directive.Directive.{Directive}
use denote.Bor.{Bor}

-- the directive, and how many bytes of the text stand before the rest
abbrev pub found_view : List ℕ → Option (Directive × Bor (List ℕ)) → Option Found
found_view text None = None
found_view text (Some (directive, behind)) =
    Some (record { directive = directive; name_length = length text - length behind.now })

-- the entries of a table of names
abbrev pub named_entry : Bor (List ℕ) × Directive → Named
named_entry (name, directive) = record { name = name.now; directive = directive }

-- the second text is the end of the first
pub record IsBehind (text rest : List ℕ) : Type 0 where
  pub end : rest ≡ drop (length text - length rest) text
  pub within : length rest ≤ length text
