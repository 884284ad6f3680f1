-- What is read of settings, or a fault with its place and its value.
use Rattle.std.specs.Prelude.{ℕ, suc, List, [], ◌∷◌, ◌++◌, codes, decimal, Option, Some, None}
use Rattle.std.specs.Prelude.{option_map, Result, Ok, Err, string_bytes}
use Rattle.log4rs_settings.specs.Data.{Data, Items, no_items, item, Members}
use Rattle.log4rs_settings.specs.View.{view}
use Rattle.log4rs_settings.specs.Fault.{Fault, fault_of, bad_value}
use Rattle.log4rs_settings.specs.Fields.{◌>>=◌, only_known, present, given}
use Rattle.log4rs_settings.specs.Members.{get_member}
use Rattle.log4rs_settings.specs.Values.{as_members, as_text}
use Rattle.log4rs_settings.specs.declared.part.PartFault.{PartFault}

-- the place of a fault as text, the bad value, and what is wrong
pub record Part : Type 0 where
  pub place : List ℕ
  pub value : Option Data
  pub fault : Fault

abbrev pub part_of : PartFault → Part
part_of p =
    record {
      place = string_bytes p.place;
      value = option_map view p.value;
      fault = fault_of p.fault;
    }

-- a place below a name: `name.place`, or the name itself
abbrev pub below : List ℕ → List ℕ → List ℕ
below name [] = name
below name (b ∷ place) = name ++ codes "." ++ (b ∷ place)

-- what is read below a name: the name stands before the place of a fault
abbrev pub under : List ℕ → Part → Part
under name p = record { place = below name p.place; value = p.value; fault = p.fault }

abbrev pub within : {A : Type 0} → List ℕ → Result A Part → Result A Part
within name (Ok x) = Ok x
within name (Err p) = Err (under name p)

-- an unknown or a missing field: a fault of the object itself
abbrev pub of_object : Fault → Part
of_object f = record { place = []; value = None; fault = f }

abbrev pub in_object : {A : Type 0} → Result A Fault → Result A Part
in_object (Ok x) = Ok x
in_object (Err f) = Err (of_object f)

-- a bad value, of a field or a class of this name
abbrev pub bad : List ℕ → Data → Part
bad name d = record { place = []; value = Some d; fault = bad_value name }

abbrev pub or_bad : {A : Type 0} → List ℕ → Data → Option A → Result A Part
or_bad name d (Some x) = Ok x
or_bad name d None = Err (bad name d)

-- what is read where a value is given, else the default
abbrev pub read_or : {A : Type 0} → List ℕ → (Data → Option A) → A → Option Data → Result A Part
read_or name read default None = Ok default
read_or name read default (Some d) = or_bad name d (read d)

-- the same of what is found at a field, where null stands for nothing
abbrev pub found_or : {A : Type 0} → List ℕ → (Data → Option A) → A → Option Data → Result A Part
found_or name read default d = within name (read_or name read default (given d))

-- a field that must be there, and one with a default, which an absent field has
abbrev pub required : {A : Type 0} → List ℕ → (Data → Option A) → Members → Result A Part
required name read ms =
    in_object (present name (get_member name ms)) >>= (λ d. within name (or_bad name d (read d)))

abbrev pub optional : {A : Type 0} → List ℕ → (Data → Option A) → A → Members → Result A Part
optional name read default ms = found_or name read default (get_member name ms)

-- a text, which may have a default
abbrev pub text_at : Option (List ℕ) → List ℕ → Members → Result (List ℕ) Part
text_at None name ms = required name as_text ms
text_at (Some default) name ms = optional name as_text default ms

-- an object of this class with no other fields than these
abbrev pub fields_of : List ℕ → List (List ℕ) → Data → Result Members Part
fields_of class names d =
    or_bad class d (as_members d) >>= (λ ms. in_object (only_known names ms) >>= (λ _. Ok ms))

-- each item in order, or the first fault, below the index of its item
abbrev pub each_item : {A : Type 0} → (Data → Result A Part) → ℕ → Items → Result (List A) Part
each_item read i no_items = Ok []
each_item read i (item d ds) =
    within (decimal i) (read d) >>= (λ x. each_item read (suc i) ds >>= (λ xs. Ok (x ∷ xs)))
