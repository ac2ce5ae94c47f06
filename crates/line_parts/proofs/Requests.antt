-- The request of a line by its numbers.
use Rattle.std.proofs.Common.{◌≡◌, ℕ, ◌^◌, List, Some, None}
use Rattle.std.specs.List.{after_first, before_first}
use Rattle.line_parts.specs.Parts.{is_space, number_below, request_of, request_with}

-- the request of a line whose numbers are known
pub request_of-numbers : (level : ℕ) (parts : List ℕ) (client number : ℕ) → number_below (2 ^ 32) (before_first is_space parts) ≡ Some client
    → number_below (2 ^ 64) (before_first is_space (after_first is_space parts)) ≡ Some number
    → request_with level client number (after_first is_space (after_first is_space parts)) ≡ request_of level parts
unfolding request_of
request_of-numbers level parts client number a b = rw (a, b)

-- there is none where the second number is none
pub request_of-no_number : (level : ℕ) (parts : List ℕ) (client : ℕ) → number_below (2 ^ 32) (before_first is_space parts) ≡ Some client
    → number_below (2 ^ 64) (before_first is_space (after_first is_space parts)) ≡ None → None ≡ request_of level parts
unfolding request_of
request_of-no_number level parts client a b = rw (a, b)
