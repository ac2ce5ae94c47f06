-- What bytes read as is spelt so, and nothing else is: field by field.
use Rattle.std.proofs.Common.{◌≡◌, ℕ, suc, ◌^◌, ◌<◌, ◌≤◌, Bool, true, false, nat_le, ◌==◌, ◌&&◌, if◌then◌else◌, List, [], ◌∷◌, ◌++◌, length, take, drop, refl, sym, ap, ap₂, ◌∙◌, arith, subst}
use Rattle.std.proofs.lemmas.List.{take-append-drop, length-take-le}
use Rattle.std.proofs.Math.Nat.{mod-eq_of_lt}
use Rattle.byteorder.specs.Endian.{big_bytes, big_number}
use Rattle.byteorder.specs.Numbers.{big_from-lt}
use Rattle.ballots.specs.Spelling.{AreBytes}
use Rattle.ballots.proofs.Numbers.{bytes-of-number}
use Rattle.messages.specs.declared.fault.WireFault.{WireFault}
use Rattle.messages.specs.declared.fault.WireFault.TheVariants.{Short, Number}
use Rattle.messages.specs.Reading.{Read, Gives, Fails, on_read, ◌>>=◌, pure, number_read, between_read, bytes_read}

-- the bytes are the spelling of what was read, and the rest
pub record Found {A : Type 0} (spell : A → List ℕ) (ok : A → Type 0) (bytes rest : List ℕ) (a : A) : Type 0 where
  pub are : bytes ≡ spell a ++ rest
  pub good : ok a

abbrev pub Exact : {A : Type 0} → (List ℕ → Read A) → (A → List ℕ) → (A → Type 0) → Type 0
Exact {A} f spell ok = (bytes rest : List ℕ) (a : A) → AreBytes bytes → f bytes ≡ Gives a rest → Found spell ok bytes rest a

pub rest-small : (xs ys : List ℕ) → AreBytes (xs ++ ys) → AreBytes ys
rest-small [] ys h i = h i
rest-small (x ∷ xs) ys h i = rest-small xs ys (λ j. h (suc j)) i

-- what was read first, and what the rest reads as
pub record Step {A B : Type 0} (g : A → List ℕ → Read B) (spell : A → List ℕ) (ok : A → Type 0) (bytes rest : List ℕ) (b : B) : Type 0 where
  pub first : A
  pub mid : List ℕ
  pub are : bytes ≡ spell first ++ mid
  pub good : ok first
  pub small : AreBytes mid
  pub next : g first mid ≡ Gives b rest

step-from : {A B : Type 0} (f : List ℕ → Read A) (g : A → List ℕ → Read B) (spell : A → List ℕ) (ok : A → Type 0) (bytes rest : List ℕ) (b : B) (r : Read A) → Exact f spell ok → AreBytes bytes → f bytes ≡ r → on_read r g ≡ Gives b rest → Step g spell ok bytes rest b
step-from f g spell ok bytes rest b (Gives a mid) exact small e h =
    let found = exact bytes mid a small e in
    record { first = a; mid = mid; are = found.are; good = found.good; small = rest-small (spell a) mid (subst AreBytes found.are small); next = h }
step-from f g spell ok bytes rest b (Fails why) exact small e h = cc

pub step : {A B : Type 0} {f : List ℕ → Read A} {g : A → List ℕ → Read B} {spell : A → List ℕ} {ok : A → Type 0} {bytes rest : List ℕ} {b : B} → Exact f spell ok → AreBytes bytes → (f >>= g) bytes ≡ Gives b rest → Step g spell ok bytes rest b
step {f = f} {g = g} {spell = spell} {ok = ok} {bytes = bytes} {rest = rest} {b = b} exact small h = step-from f g spell ok bytes rest b (f bytes) exact small refl h

-- a test that held
pub held-from : {B : Type 0} (why : WireFault) (t : Bool) (g : Unit {0} → List ℕ → Read B) (bytes rest : List ℕ) (b : B) → on_read (if t then Gives tt bytes else Fails why) g ≡ Gives b rest → (t ≡ true) × (g tt bytes ≡ Gives b rest)
held-from why true g bytes rest b h = (refl, h)
held-from why false g bytes rest b h = cc

pub link : {bytes mid more : List ℕ} (xs : List ℕ) → bytes ≡ xs ++ mid → mid ≡ more → bytes ≡ xs ++ more
link xs e f = e ∙ ap (λ ys. xs ++ ys) f

pub finish : {A : Type 0} (spell : A → List ℕ) (ok : A → Type 0) (bytes rest mid : List ℕ) (a b : A) → Gives a mid ≡ Gives b rest → bytes ≡ spell a ++ mid → ok a → Found spell ok bytes rest b
finish spell ok bytes rest mid a b e are good =
    let same : a ≡ b = cc in
    let end : mid ≡ rest = cc in
    subst (λ x. Found spell ok bytes rest x) same (record { are = are ∙ ap (λ xs. spell a ++ xs) end; good = good })

pub is-le : (a b : ℕ) → nat_le a b ≡ true → a ≤ b
is-le a b h = grind arith

pub is-equal : (a b : ℕ) → (a == b) ≡ true → a ≡ b
is-equal a b h = grind arith

pub both : (a b : Bool) → (a && b) ≡ true → (a ≡ true) × (b ≡ true)
both true b h = (refl, h)
both false b h = cc

given : {A : Type 0} (t : Bool) (v x : A) (r rest : List ℕ) (f : WireFault) → (if t then Gives v r else Fails f) ≡ Gives x rest → (t ≡ true) × ((v ≡ x) × (r ≡ rest))
given true v x r rest f e = (refl, (cc, cc))
given false v x r rest f e = cc

pub number-exact : (n : ℕ) → Exact (number_read n) (big_bytes n) (λ x. x < 256 ^ n)
number-exact n bytes rest x small e =
    let g = given (nat_le n (length bytes)) (big_number n bytes) x (drop n bytes) rest Short e in
    let spelt : take n bytes ≡ big_bytes n x = sym (bytes-of-number n bytes (is-le n (length bytes) g.0) small) ∙ ap (big_bytes n) g.1.0 in
    record { are = sym (take-append-drop n bytes) ∙ ap₂ (λ (a b : List ℕ). a ++ b) spelt g.1.1; good = subst (λ (y : ℕ). y < 256 ^ n) g.1.0 (big_from-lt 0 n bytes small) }

pub byte-exact : Exact (number_read 1) (λ x. x ∷ []) (λ x. x < 256)
byte-exact bytes rest x small e =
    let f = number-exact 1 bytes rest x small e in
    record { are = f.are ∙ ap (λ (b : ℕ). b ∷ rest) (mod-eq_of_lt f.good); good = f.good }

pub bytes-exact : (n : ℕ) → Exact (bytes_read n) (λ t. t) (λ t. length t ≡ n)
bytes-exact n bytes rest t small e =
    let g = given (nat_le n (length bytes)) (take n bytes) t (drop n bytes) rest Short e in
    record { are = sym (take-append-drop n bytes) ∙ ap₂ (λ (a b : List ℕ). a ++ b) g.1.0 g.1.1; good = ap length (sym g.1.0) ∙ length-take-le n bytes (is-le n (length bytes) g.0) }

-- between two numbers
abbrev pub Between : (least most x : ℕ) → Type 0
Between least most x = (least ≤ x) × (x ≤ most)

pub between-exact : (n least most : ℕ) → Exact (between_read n least most) (big_bytes n) (λ x. Between least most x)
between-exact n least most bytes rest x small e =
    let a = step (number-exact n) small e in
    let t = held-from Number (nat_le least a.first && nat_le a.first most) (λ u. pure a.first) a.mid rest x a.next in
    let two = both (nat_le least a.first) (nat_le a.first most) t.0 in
    finish (big_bytes n) (λ y. Between least most y) bytes rest a.mid a.first x t.1 a.are (is-le _ _ two.0, is-le _ _ two.1)

pub small-exact : (least most : ℕ) → Exact (between_read 1 least most) (λ x. x ∷ []) (λ x. Between least most x)
small-exact least most bytes rest x small e =
    let a = step byte-exact small e in
    let t = held-from Number (nat_le least a.first && nat_le a.first most) (λ u. pure a.first) a.mid rest x a.next in
    let two = both (nat_le least a.first) (nat_le a.first most) t.0 in
    finish (λ y. y ∷ []) (λ y. Between least most y) bytes rest a.mid a.first x t.1 a.are (is-le _ _ two.0, is-le _ _ two.1)
