-- The bytes of a number that some bytes stand for are those bytes.
use Rattle.std.proofs.Common.{◌≡◌, ℕ, zero, suc, ◌+◌, ◌*◌, ◌/◌, ◌%◌, ◌^◌, ◌<◌, ◌≤◌, List, [], ◌∷◌, length, take, slice_index, refl, sym, ap, ap₂, ◌∙◌, arith}
use Rattle.std.proofs.Math.Nat.{add-mul-div_left, add-mul-mod_self_left, mod-eq_of_lt, div-one, one-le-pow, pow-suc, mul_assoc, mul_comm, add_comm}
use Rattle.std.proofs.lemmas.Nat.{div-mul-add}
use Rattle.std.specs.Int.{byte_at, bytes_high_first}
use Rattle.byteorder.specs.Endian.{big_from, big_number}
use Rattle.byteorder.specs.Numbers.{big_from-cons, big_from-lt}

byte_at-pow : (k x : ℕ) → byte_at k x ≡ x / 256 ^ k % 256
byte_at-pow zero x = ap (λ (y : ℕ). y % 256) (sym (div-one x))
byte_at-pow (suc k) x = refl

pow_pos : (n : ℕ) → zero < 256 ^ n
pow_pos n = let h = one-le-pow n 256 (omega arith) in omega arith

-- what stands above a byte doesn't change it
byte-low : (k r y : ℕ) → byte_at k (r + 256 ^ k * (256 * y)) ≡ byte_at k r
byte-low k r y = rw (byte_at-pow k (r + 256 ^ k * (256 * y)), byte_at-pow k r, add-mul-div_left r (256 * y) (pow_pos k)) (add-mul-mod_self_left (r / 256 ^ k) 256 y)

-- what stands above n bytes doesn't change them
bytes-low : (n r y : ℕ) → bytes_high_first n (r + 256 ^ n * y) ≡ bytes_high_first n r
bytes-low zero r y = refl
bytes-low (suc n) r y =
    let e : 256 ^ suc n * y ≡ 256 ^ n * (256 * y) = ap (λ (p : ℕ). p * y) (pow-suc 256 n) ∙ mul_assoc (256 ^ n) 256 y in
    rw e (ap₂ (λ (b : ℕ) (bs : List ℕ). b ∷ bs) (byte-low n r y) (bytes-low n r (256 * y)))

-- the first n bytes are those of the number that they stand for
pub bytes-of-number : (n : ℕ) (bytes : List ℕ) → n ≤ length bytes → ((i : ℕ) → slice_index bytes i < 256) → bytes_high_first n (big_number n bytes) ≡ take n bytes
bytes-of-number zero bytes within small = refl
bytes-of-number (suc n) [] within small = absurd (omega arith)
bytes-of-number (suc n) (b ∷ bs) within small =
    let r = big_number n bs in
    let below : r < 256 ^ n = big_from-lt 0 n bs (λ i. small (suc i)) in
    let moved : big_from 1 n (b ∷ bs) ≡ r = big_from-cons 0 n b bs in
    let turned : b * 256 ^ n + r ≡ r + 256 ^ n * b = add_comm (b * 256 ^ n) r ∙ ap (λ (p : ℕ). r + p) (mul_comm b (256 ^ n)) in
    let head : byte_at n (b * 256 ^ n + r) ≡ b = byte_at-pow n (b * 256 ^ n + r) ∙ ap (λ (q : ℕ). q % 256) (div-mul-add b (256 ^ n) r below) ∙ mod-eq_of_lt (small 0) in
    let tail : bytes_high_first n (b * 256 ^ n + r) ≡ take n bs = ap (bytes_high_first n) turned ∙ bytes-low n r b ∙ bytes-of-number n bs (omega arith) (λ i. small (suc i)) in
    rw moved (ap₂ (λ (c : ℕ) (cs : List ℕ). c ∷ cs) head tail)
