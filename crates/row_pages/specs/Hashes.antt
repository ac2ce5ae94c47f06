-- Hashes of page numbers.
use Rattle.std.specs.Prelude.{ℕ, ◌*◌, ◌^◌, ◌%◌, List, [], ◌∷◌}
use Rattle.std.specs.Int.{from_le_bytes, w64}

-- the number that 8 bytes are, the lowest first, times an odd number; 0 of any others
abbrev pub hash_of : List ℕ → ℕ
hash_of (a ∷ b ∷ c ∷ d ∷ e ∷ f ∷ g ∷ h ∷ []) = from_le_bytes w64 (a ∷ b ∷ c ∷ d ∷ e ∷ f ∷ g ∷ h ∷ []) * 11400714819323198485 % 2 ^ 64
hash_of _ = 0
