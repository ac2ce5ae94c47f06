-- What bytes read as, field by field.
use Rattle.std.proofs.Common.{◌≡◌, ℕ, List, ◌++◌, Bool, true, false, nat_le, refl, ◌∙◌, Result, Ok, Err, OnOk, is_ok, if◌then◌else◌}
use Rattle.std.proofs.lemmas.List.{append_assoc}
use Rattle.std.specs.Str.{IsUtf8, is_utf8}
use Rattle.std.proofs.lemmas.Str.{IsUtf8-from_is_utf8, is_utf8-from_IsUtf8}
use Rattle.ballots.specs.Spelling.{Gives, Fails, number_read, bytes_read, text_read}
use Rattle.ballots.specs.declared.spelling.SpellingFault.TheVariants.{NotUtf8}

not-utf8 : (b : Bool) → (b ≡ true → ⊥) → b ≡ false
not-utf8 true h = absurd (h refl)
not-utf8 false h = refl

-- a length, so many bytes, and they are UTF-8
pub text_read-gives : (bytes rest text more : List ℕ) (n : ℕ) → number_read 2 bytes ≡ Gives n rest → nat_le n 4096 ≡ true → bytes_read n rest ≡ Gives text more → IsUtf8 text → text_read bytes ≡ Gives text more
text_read-gives bytes rest text more n a b e u = rw (a, b, e, is_utf8-from_IsUtf8 text u) refl

-- the bytes are not UTF-8
pub text_read-fails : (bytes rest text more : List ℕ) (n : ℕ) → number_read 2 bytes ≡ Gives n rest → nat_le n 4096 ≡ true → bytes_read n rest ≡ Gives text more → (IsUtf8 text → ⊥) → text_read bytes ≡ Fails NotUtf8
text_read-fails bytes rest text more n a b e u = rw (a, b, e, not-utf8 (is_utf8 text) (λ h. u (IsUtf8-from_is_utf8 text h))) refl

-- a head, and then a text, put after other bytes
pub appended-twice : {A E : Type 0} (old room mid new head text : List ℕ) (result : Result A E) → room ≡ old → mid ≡ room ++ head → new ≡ (if is_ok result then mid ++ text else mid) → (h t : List ℕ) → head ≡ h → text ≡ t → OnOk result (new ≡ old ++ (h ++ t))
appended-twice old room mid new head text (Ok a) e f g h t p q = g ∙ rw (f, e, p, q) (append_assoc old h t)
appended-twice old room mid new head text (Err a) e f g h t p q = tt
