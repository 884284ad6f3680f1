-- What a `Tree` is: its keys ascend, and each stands once.
use Rattle.std.specs.Prelude.{ℕ, ℤ, List, Bool}

mutual
  pub data Data : Type 0 where
    null : Data
    boolean : Bool → Data
    number : ℤ → Data
    text : List ℕ → Data
    list : Items → Data
    map : Members → Data

  pub data Items : Type 0 where
    no_items : Items
    item : Data → Items → Items

  pub data Members : Type 0 where
    no_members : Members
    member : List ℕ → Data → Members → Members
