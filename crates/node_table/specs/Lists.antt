-- A list of nodes in a row.
use Rattle.std.specs.Prelude.{ℕ, ◌+◌, ◌≤◌, List, length}

-- the nodes, in order, and how many fit with no allocation
pub record Nodes : Type 0 where
  pub items : List ℕ
  pub capacity : ℕ

-- so many more fit with no allocation
abbrev pub HasRoomFor : Nodes → ℕ → Type 0
HasRoomFor l n = length l.items + n ≤ l.capacity
