-- UTF-8 orders texts as their characters do.
use Rattle.std.proofs.Common.{◌≡◌, ℕ, ◌+◌, ◌*◌, ◌<◌, ◌≤◌, ◌/◌, ◌%◌, List, [], ◌∷◌, ◌++◌, ◌⊎◌, inl, inr, refl, sym, ap, ◌∙◌, arith, IsUtf8}
use Rattle.std.specs.declared.cmp.Ordering.{Ordering}
use Rattle.std.specs.declared.cmp.Ordering.TheVariants.{Less, Equal, Greater}
use Rattle.std.specs.Ordering.{nat_cmp, ordering_then}
use Rattle.std.specs.Cmp.Lexicographic.{slice_cmp}
use Rattle.std.specs.Str.{chars}
use Rattle.std.proofs.lemmas.Bool.{cases_lt}
use Rattle.std.proofs.lemmas.Bool.Decides.{nat_tests}
use Rattle.std.proofs.lemmas.Str.{encode_ascii, encodes-chars}
use lib.Utf8.{encode, encodes, next}

less : (a b : ℕ) → a < b → nat_cmp a b ≡ Less
less a b h = grind (arith, nat_tests)

greater : (a b : ℕ) → b < a → nat_cmp a b ≡ Greater
greater a b h = grind (arith, nat_tests)

shifted : (k a b : ℕ) → nat_cmp (k + a) (k + b) ≡ nat_cmp a b
shifted k a b = grind (arith, nat_tests)

-- numbers in two digits, of which the second has 64 values
digits : (a b c d : ℕ) → b < 64 → d < 64 → ordering_then (nat_cmp a c) (nat_cmp b d) ≡ nat_cmp (a * 64 + b) (c * 64 + d)
digits a b c d g h = grind (arith, nat_tests)

then-then : (o p q : Ordering) → ordering_then o (ordering_then p q) ≡ ordering_then (ordering_then o p) q
then-then Less p q = refl
then-then Equal p q = refl
then-then Greater p q = refl

split : (c : ℕ) → c / 64 * 64 + c % 64 ≡ c
split c = omega arith

below : (c : ℕ) → c % 64 < 64
below c = omega arith

-- the last byte decides where those before it do not
last : (c d : ℕ) (o : Ordering) → ordering_then (nat_cmp (c / 64) (d / 64)) (ordering_then (nat_cmp (next c) (next d)) o) ≡ ordering_then (nat_cmp c d) o
last c d o =
    then-then (nat_cmp (c / 64) (d / 64)) (nat_cmp (next c) (next d)) o
    ∙ ap (λ p. ordering_then (ordering_then (nat_cmp (c / 64) (d / 64)) p) o) (shifted 128 (c % 64) (d % 64))
    ∙ ap (λ p. ordering_then p o) (digits (c / 64) (c % 64) (d / 64) (d % 64) (below c) (below d) ∙ (λ j. nat_cmp (split c j) (split d j)))

twice : (c : ℕ) → c / 4096 ≡ c / 64 / 64
twice c = omega arith

thrice : (c : ℕ) → c / 262144 ≡ c / 4096 / 64
thrice c = omega arith

-- how many bytes a character takes
abbrev Size : ℕ → Type 0
Size c = (c < 128) ⊎ (((128 ≤ c) × (c < 2048)) ⊎ (((2048 ≤ c) × (c < 65536)) ⊎ (65536 ≤ c)))

size : (c : ℕ) → Size c
size c = elim (cases_lt c 128) [
  | inl a ↦ inl a
  | inr a ↦ elim (cases_lt c 2048) [
    | inl b ↦ inr (inl (a, b))
    | inr b ↦ elim (cases_lt c 65536) [ inl e ↦ inr (inr (inl (b, e))) | inr e ↦ inr (inr (inr e)) ]
  ]
]

two : (c : ℕ) → (128 ≤ c) × (c < 2048) → encode c ≡ (192 + c / 64) ∷ next c ∷ []
unfolding encode
two c (a, b) = grind (arith, nat_tests)

three : (c : ℕ) → (2048 ≤ c) × (c < 65536) → encode c ≡ (224 + c / 4096) ∷ next (c / 64) ∷ next c ∷ []
unfolding encode
three c (a, b) = grind (arith, nat_tests)

four : (c : ℕ) → 65536 ≤ c → encode c ≡ (240 + c / 262144) ∷ next (c / 4096) ∷ next (c / 64) ∷ next c ∷ []
unfolding encode
four c a = grind (arith, nat_tests)

-- two characters, with what follows each, by their bytes
abbrev Agree : (c d : ℕ) (r t : List ℕ) → Type 0
Agree c d r t = slice_cmp nat_cmp (encode c ++ r) (encode d ++ t) ≡ ordering_then (nat_cmp c d) (slice_cmp nat_cmp r t)

before : (c d x y : ℕ) (xs ys r t : List ℕ) → encode c ≡ x ∷ xs → encode d ≡ y ∷ ys → x < y → c < d → Agree c d r t
before c d x y xs ys r t e f h g =
    (λ j. slice_cmp nat_cmp (e j ++ r) (f j ++ t)) ∙ ap (λ o. ordering_then o (slice_cmp nat_cmp (xs ++ r) (ys ++ t))) (less x y h) ∙ sym (ap (λ o. ordering_then o (slice_cmp nat_cmp r t)) (less c d g))

after : (c d x y : ℕ) (xs ys r t : List ℕ) → encode c ≡ x ∷ xs → encode d ≡ y ∷ ys → y < x → d < c → Agree c d r t
after c d x y xs ys r t e f h g =
    (λ j. slice_cmp nat_cmp (e j ++ r) (f j ++ t)) ∙ ap (λ o. ordering_then o (slice_cmp nat_cmp (xs ++ r) (ys ++ t))) (greater x y h) ∙ sym (ap (λ o. ordering_then o (slice_cmp nat_cmp r t)) (greater c d g))

agree : (c d : ℕ) (r t : List ℕ) → Size c → Size d → Agree c d r t
agree c d r t (inl a) (inl b) = λ j. slice_cmp nat_cmp (encode_ascii c a j ++ r) (encode_ascii d b j ++ t)
agree c d r t (inl a) (inr (inl b)) = before c d _ _ _ _ r t (encode_ascii c a) (two d b) (omega (arith, b.0, b.1)) (omega (arith, b.0, b.1))
agree c d r t (inl a) (inr (inr (inl b))) = before c d _ _ _ _ r t (encode_ascii c a) (three d b) (omega (arith, b.0, b.1)) (omega (arith, b.0, b.1))
agree c d r t (inl a) (inr (inr (inr b))) = before c d _ _ _ _ r t (encode_ascii c a) (four d b) (omega arith) (omega arith)
agree c d r t (inr (inl a)) (inl b) = after c d _ _ _ _ r t (two c a) (encode_ascii d b) (omega (arith, a.0, a.1)) (omega (arith, a.0, a.1))
agree c d r t (inr (inl a)) (inr (inl b)) =
    let o = slice_cmp nat_cmp r t in
    (λ j. slice_cmp nat_cmp (two c a j ++ r) (two d b j ++ t)) ∙ ap (λ p. ordering_then p (ordering_then (nat_cmp (next c) (next d)) o)) (shifted 192 (c / 64) (d / 64)) ∙ last c d o
agree c d r t (inr (inl a)) (inr (inr (inl b))) = before c d _ _ _ _ r t (two c a) (three d b) (omega (arith, a.0, a.1, b.0, b.1)) (omega (arith, a.0, a.1, b.0, b.1))
agree c d r t (inr (inl a)) (inr (inr (inr b))) = before c d _ _ _ _ r t (two c a) (four d b) (omega (arith, a.0, a.1)) (omega (arith, a.0, a.1))
agree c d r t (inr (inr (inl a))) (inl b) = after c d _ _ _ _ r t (three c a) (encode_ascii d b) (omega (arith, a.0, a.1)) (omega (arith, a.0, a.1))
agree c d r t (inr (inr (inl a))) (inr (inl b)) = after c d _ _ _ _ r t (three c a) (two d b) (omega (arith, a.0, a.1, b.0, b.1)) (omega (arith, a.0, a.1, b.0, b.1))
agree c d r t (inr (inr (inl a))) (inr (inr (inl b))) =
    let o = slice_cmp nat_cmp r t in
    let p = ordering_then (nat_cmp (next c) (next d)) o in
    (λ j. slice_cmp nat_cmp (three c a j ++ r) (three d b j ++ t)) ∙ ap (λ q. ordering_then q (ordering_then (nat_cmp (next (c / 64)) (next (d / 64))) p)) (shifted 224 (c / 4096) (d / 4096) ∙ (λ j. nat_cmp (twice c j) (twice d j))) ∙ last (c / 64) (d / 64) p ∙ last c d o
agree c d r t (inr (inr (inl a))) (inr (inr (inr b))) = before c d _ _ _ _ r t (three c a) (four d b) (omega (arith, a.0, a.1)) (omega (arith, a.0, a.1))
agree c d r t (inr (inr (inr a))) (inl b) = after c d _ _ _ _ r t (four c a) (encode_ascii d b) (omega arith) (omega arith)
agree c d r t (inr (inr (inr a))) (inr (inl b)) = after c d _ _ _ _ r t (four c a) (two d b) (omega (arith, b.0, b.1)) (omega (arith, b.0, b.1))
agree c d r t (inr (inr (inr a))) (inr (inr (inl b))) = after c d _ _ _ _ r t (four c a) (three d b) (omega (arith, b.0, b.1)) (omega (arith, b.0, b.1))
agree c d r t (inr (inr (inr a))) (inr (inr (inr b))) =
    let o = slice_cmp nat_cmp r t in
    let p = ordering_then (nat_cmp (next c) (next d)) o in
    let q = ordering_then (nat_cmp (next (c / 64)) (next (d / 64))) p in
    (λ j. slice_cmp nat_cmp (four c a j ++ r) (four d b j ++ t)) ∙ ap (λ s. ordering_then s (ordering_then (nat_cmp (next (c / 4096)) (next (d / 4096))) q)) (shifted 240 (c / 262144) (d / 262144) ∙ (λ j. nat_cmp (thrice c j) (thrice d j)))
    ∙ last (c / 4096) (d / 4096) q ∙ ap (λ s. ordering_then s q) (λ j. nat_cmp (twice c j) (twice d j)) ∙ last (c / 64) (d / 64) p ∙ last c d o

first : (c : ℕ) → Size c → (x : ℕ) × (xs : List ℕ) × (encode c ≡ x ∷ xs)
first c (inl a) = (_, _, encode_ascii c a)
first c (inr (inl a)) = (_, _, two c a)
first c (inr (inr (inl a))) = (_, _, three c a)
first c (inr (inr (inr a))) = (_, _, four c a)

encoded-order : (cs ds : List ℕ) → slice_cmp nat_cmp (encodes cs) (encodes ds) ≡ slice_cmp nat_cmp cs ds
encoded-order [] [] = refl
encoded-order [] (d ∷ ds) = let (x, xs, e) = first d (size d) in λ j. slice_cmp nat_cmp [] (e j ++ encodes ds)
encoded-order (c ∷ cs) [] = let (x, xs, e) = first c (size c) in λ j. slice_cmp nat_cmp (e j ++ encodes cs) []
encoded-order (c ∷ cs) (d ∷ ds) = agree c d (encodes cs) (encodes ds) (size c) (size d) ∙ ap (λ o. ordering_then (nat_cmp c d) o) (encoded-order cs ds)

pub bytes-order : (a b : List ℕ) → IsUtf8 a → IsUtf8 b → slice_cmp nat_cmp a b ≡ slice_cmp nat_cmp (chars a) (chars b)
bytes-order a b u v = (λ j. slice_cmp nat_cmp (sym (encodes-chars a u) j) (sym (encodes-chars b v) j)) ∙ encoded-order (chars a) (chars b)
