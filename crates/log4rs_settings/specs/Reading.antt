-- A call reads what the settings say.
use Rattle.std.specs.Prelude.{◌≡◌, ℕ, List, Result, Ok, Err, String, ⊤}
use Rattle.std.specs.Borrow.{Bor}
use Rattle.std.specs.BTreeMap.{BTreeMap}
use Rattle.std.specs.declared.alloc.Global.{Global}
use Rattle.log4rs_settings.specs.Data.{Data, Members}
use Rattle.log4rs_settings.specs.View.{view, members_view}
use Rattle.log4rs_settings.specs.declared.tree.Tree.{Tree}
use Rattle.log4rs_settings.specs.Fault.{Fault, fault_of}
use Rattle.log4rs_settings.specs.Part.{Part, part_of, under}
use Rattle.log4rs_settings.specs.declared.part.PartError.{PartError}
use Rattle.log4rs_settings.specs.declared.part.PartError.TheVariants as part
use Rattle.log4rs_settings.specs.declared.part.TreeError.{TreeError}
use Rattle.log4rs_settings.specs.declared.part.TreeError.TheVariants.{Fault as Refused, Memory}

-- the value, seen by `see`, or the fault; a refused growth says nothing
abbrev pub IsReadAs : {T A : Type 0} → (T → A) → Result A Fault → Result T TreeError → Type 0
IsReadAs {T} {A} see settings (Ok x) = settings ≡ Ok (see x)
IsReadAs {T} {A} see settings (Err (Refused f)) = settings ≡ Err (fault_of f)
IsReadAs {T} {A} see settings (Err Memory) = ⊤

-- the same, where a fault tells its place and its value
abbrev pub IsPartRead : {T A : Type 0} → (T → A) → Result A Part → Result T PartError → Type 0
IsPartRead {T} {A} see settings (Ok x) = settings ≡ Ok (see x)
IsPartRead {T} {A} see settings (Err (part.Fault f)) = settings ≡ Err (part_of f)
IsPartRead {T} {A} see settings (Err part.Memory) = ⊤

-- what is read, or the fault without its place and its value
abbrev pub without_place : {A : Type 0} → Result A Part → Result A Fault
without_place (Ok x) = Ok x
without_place (Err p) = Err p.fault

-- an error of what is read below a name, as it is told of the whole; a refused growth says nothing
abbrev pub IsBelow : List ℕ → PartError → PartError → Type 0
IsBelow name (part.Fault f) (part.Fault g) = part_of g ≡ under name (part_of f)
IsBelow name part.Memory (part.Fault g) = ⊥
IsBelow name error part.Memory = ⊤

-- what is read below a name, as it is told of the whole
abbrev pub IsWithin : {T : Type 0}
    → List ℕ → Result T PartError → Result T PartError → Type 0
IsWithin name (Ok x) told = told ≡ Ok x
IsWithin name (Err error) (Ok x) = ⊥
IsWithin name (Err error) (Err told) = IsBelow name error told

-- the same error, without place and value
abbrev pub IsWithoutPlace : PartError → TreeError → Type 0
IsWithoutPlace (part.Fault f) error = error ≡ Refused f.fault
IsWithoutPlace part.Memory error = error ≡ Memory

-- how results are seen: as they are, or what a reference points to
abbrev pub as_it_is : {A : Type 0} → A → A
as_it_is x = x

abbrev pub bytes_now : Bor (List ℕ) → List ℕ
bytes_now b = b.now

abbrev pub members_now : Bor (BTreeMap (String Global) Tree) → Members
members_now b = members_view b.now.entries

abbrev pub tree_now : Bor Tree → Data
tree_now t = view t.now
