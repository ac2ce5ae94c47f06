-- Members and positions.
use Rattle.std.specs.Prelude.{ℕ, Bool, ◌&&◌, ◌==◌, List}
use Rattle.std.specs.List.{list_any}

-- whether a member's position is among some
abbrev pub is_place : List (ℕ × ℕ) → (member position : ℕ) → Bool
is_place places m p = list_any (λ (q : ℕ × ℕ). (m == q.0) && (p == q.1)) places
