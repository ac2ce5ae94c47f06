-- How a text is read as a number or a boolean (XML Schema Part 2, sections 3.3.13 and 3.2.2; whitespace collapses, section 4.3.6).
use Rattle.std.specs.Prelude.{ℕ, ◌+◌, ◌-◌, ◌*◌, ◌^◌, ℤ, pos, neg_ℤ, Bool, true, false, ◌||◌, ◌==◌, nat_le, nat_lt, if◌then◌else◌, List, [], ◌∷◌, reverse, Option, Some, None, codes}
use Rattle.std.specs.List.{list_all}
use Rattle.std.specs.Str.{bytes_eq}
use Rattle.document_names.specs.Characters.{is_digit}

-- space, tab, line feed, carriage return
abbrev pub is_space : ℕ → Bool
is_space b = b == 32 || b == 9 || b == 10 || b == 13

-- the bytes from the first on that is no space
abbrev pub after_spaces : List ℕ → List ℕ
after_spaces [] = []
after_spaces (b ∷ bs) = if is_space b then after_spaces bs else b ∷ bs

-- the bytes without the spaces at both ends
abbrev pub trimmed : List ℕ → List ℕ
trimmed bs = reverse (after_spaces (reverse (after_spaces bs)))

-- the number that digits stand for, after others that stand for n
abbrev pub number_from : ℕ → List ℕ → ℕ
number_from n [] = n
number_from n (d ∷ ds) = number_from (n * 10 + (d - 48)) ds

-- one digit or more
abbrev pub are_digits : List ℕ → Bool
are_digits [] = false
are_digits (d ∷ ds) = list_all is_digit (d ∷ ds)

-- the integers from -2^63 to 2^63 - 1 (our own choice of the range)
abbrev pub not_negative : ℕ → Option ℤ
not_negative n = if nat_lt n (2 ^ 63) then Some (pos n) else None

abbrev pub not_positive : ℕ → Option ℤ
not_positive n = if nat_le n (2 ^ 63) then Some (neg_ℤ (pos n)) else None

-- an optional sign and digits, if the number is in range
abbrev pub signed : List ℕ → Option ℤ
signed [] = None
signed (c ∷ ds) =
    if c == 45 then (if are_digits ds then not_positive (number_from 0 ds) else None)
    else if c == 43 then (if are_digits ds then not_negative (number_from 0 ds) else None)
    else (if are_digits (c ∷ ds) then not_negative (number_from 0 (c ∷ ds)) else None)

-- the integer that a text reads as, if it does
abbrev pub integer_of : List ℕ → Option ℤ
integer_of bs = signed (trimmed bs)

-- the boolean that a text reads as, if it does
abbrev pub boolean_in : List ℕ → Option Bool
boolean_in bs =
    if bytes_eq bs (codes "true") || bytes_eq bs (codes "1") then Some true
    else if bytes_eq bs (codes "false") || bytes_eq bs (codes "0") then Some false
    else None

abbrev pub boolean_of : List ℕ → Option Bool
boolean_of bs = boolean_in (trimmed bs)
