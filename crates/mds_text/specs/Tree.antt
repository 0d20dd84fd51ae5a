-- A JSON value (RFC 8259, section 3) whose numbers are whole, or degrees to be printed.
use Rattle.std.specs.Prelude.{ℕ, ℤ, Bool, List, [], ◌∷◌}

mutual
  pub data Json : Type 0 where
    null : Json
    boolean : Bool → Json
    int : ℤ → Json
    text : List ℕ → Json
    degrees : ℤ → Json
    list : Items → Json
    object : Members → Json

  pub data Items : Type 0 where
    no_items : Items
    item : Json → Items → Items

  pub data Members : Type 0 where
    no_members : Members
    member : List ℕ → Json → Members → Members

abbrev pub items_of : List Json → Items
items_of [] = no_items
items_of (t ∷ ts) = item t (items_of ts)

abbrev pub members_of : List (List ℕ × Json) → Members
members_of [] = no_members
members_of (m ∷ ms) = member m.0 m.1 (members_of ms)

-- the entries of a list, as a list
abbrev pub entries : Items → List Json
entries no_items = []
entries (item t ts) = t ∷ entries ts
