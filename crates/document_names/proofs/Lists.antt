-- Steps through a list, and clones of texts.
use Rattle.std.proofs.Common.{◌≡◌, ℕ, ◌+◌, ◌<◌, Bool, ◌||◌, List, length, map, drop, get_or, refl, add-one, [], ◌∷◌, String, Global, string_bytes}
use Rattle.std.specs.List.{AllZip, list_any}
use Rattle.std.proofs.Math.Seq.{drop-cons}

pub any-turn : {S : Type 0} (f : S → List ℕ) (test : List ℕ → Bool) (s : List S) (i : ℕ) (x : S) → i < length s → x ≡ get_or s i x → list_any test (map f (drop i s)) ≡ (test (f x) || list_any test (map f (drop (i + 1) s)))
any-turn f test s i x k e = rw (drop-cons s i x k, ← e, add-one)

-- clones of texts
pub strings-clone : (xs ys : List (String Global)) → AllZip (λ x y. string_bytes y ≡ string_bytes x) xs ys → map string_bytes ys ≡ map string_bytes xs
strings-clone [] [] h = refl
strings-clone (x ∷ xs) (y ∷ ys) h = λ i. h.0 i ∷ strings-clone xs ys h.1 i
strings-clone [] (y ∷ ys) h = absurd h
strings-clone (x ∷ xs) [] h = absurd h
