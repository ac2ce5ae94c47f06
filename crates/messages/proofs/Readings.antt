-- Fields that are read in two steps.
use Rattle.std.proofs.Common.{◌≡◌, ◌≢◌, ℕ, zero, suc, ◌<◌, ◌≤◌, Bool, true, false, nat_le, List, refl, arith, ◌⊎◌, inl, inr}
use Rattle.std.specs.Str.{IsUtf8, is_utf8}
use Rattle.std.proofs.lemmas.Str.{IsUtf8-from_is_utf8, is_utf8-from_IsUtf8}
use Rattle.ballots.specs.declared.spelling.SpellingFault.{SpellingFault}
use Rattle.ballots.specs.declared.spelling.SpellingFault.TheVariants as of_value
use Rattle.std.proofs.lemmas.Option.{slice_get_past}
use Rattle.messages.specs.declared.fault.WireFault.TheVariants.{Number, NotUtf8, Memory}
use Rattle.messages.specs.Reading.{Gives, Fails, number_read, bytes_read, text_read, fault_of, outcome_read, codes_by_number}

le-true : (a b : ℕ) → a ≤ b → nat_le a b ≡ true
le-true a b h = grind arith

not-utf8 : (b : Bool) → (b ≡ true → ⊥) → b ≡ false
not-utf8 true h = absurd (h refl)
not-utf8 false h = refl

pub text_read-gives : (most n : ℕ) (bytes rest text after : List ℕ) → number_read 2 bytes ≡ Gives n rest → n ≤ most → bytes_read n rest ≡ Gives text after → IsUtf8 text → text_read most bytes ≡ Gives text after
text_read-gives most n bytes rest text after a small b utf8 = rw (a, le-true n most small, b, is_utf8-from_IsUtf8 text utf8) refl

pub text_read-fails : (most n : ℕ) (bytes rest text after : List ℕ) → number_read 2 bytes ≡ Gives n rest → n ≤ most → bytes_read n rest ≡ Gives text after → (IsUtf8 text → ⊥) → text_read most bytes ≡ Fails NotUtf8
text_read-fails most n bytes rest text after a small b not = rw (a, le-true n most small, b, not-utf8 (is_utf8 text) (λ h. not (IsUtf8-from_is_utf8 text h))) refl

-- a fault that is not want of memory is none of a value's
pub not_memory : (f : SpellingFault) → fault_of f ≢ Memory → f ≢ of_value.Memory
not_memory f h e = h (rw e refl)

-- past the last code there is none
pub no_code : (n : ℕ) (bytes rest : List ℕ) → number_read 1 bytes ≡ Gives n rest → (0 < n) → (n ≡ 0) ⊎ (48 < n) → outcome_read bytes ≡ Fails Number
no_code zero bytes rest read some h = absurd (omega arith)
no_code (suc i) bytes rest read some (inl e) = cc
no_code (suc i) bytes rest read some (inr h) = rw (read, slice_get_past codes_by_number i (omega arith)) refl
