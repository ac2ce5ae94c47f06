-- Members by number, and what is in a list.
use Rattle.std.proofs.Common.{◌≡◌, ℕ, zero, suc, Bool, true, false, cond, refl, ◌⊎◌, inl, inr, sym, subst, ap, Some, List, [], ◌∷◌, ◌++◌, map, filter, length, replicate, slice_get, slice_set, ⊎_elim}
use Rattle.std.specs.Prelude.{flat_map, take}
use Rattle.std.specs.List.{list_any}
use Rattle.std.proofs.lemmas.Bool.{or_cases, false≢true}
use Rattle.std.proofs.lemmas.Option.{none-some, same_Some}
use Rattle.paxos.specs.Lists.{at, put, Has}

-- what is in the first list is in both
pub has_left : {A : Type 0} (xs ys : List A) (x : A) → Has xs x → Has (xs ++ ys) x
has_left [] ys x h = absurd h
has_left (y ∷ xs) ys x (inl e) = inl e
has_left (y ∷ xs) ys x (inr h) = inr (has_left xs ys x h)

-- what is in the second list is in both
pub has_right : {A : Type 0} (xs ys : List A) (x : A) → Has ys x → Has (xs ++ ys) x
has_right [] ys x h = h
has_right (y ∷ xs) ys x h = inr (has_right xs ys x h)

-- what is in both is in one of them
pub has_cases : {A : Type 0} (xs ys : List A) (x : A) → Has (xs ++ ys) x → Has xs x ⊎ Has ys x
has_cases [] ys x h = inr h
has_cases (y ∷ xs) ys x (inl e) = inl (inl e)
has_cases (y ∷ xs) ys x (inr h) = ⊎_elim (λ (o : Has xs x). inl (inr o)) (λ (o : Has ys x). inr o) (has_cases xs ys x h)

-- what is in a mapped list comes from an element
pub has_map : {A B : Type 0} (f : A → B) (xs : List A) (y : B) → Has (map f xs) y → (x : A) × (f x ≡ y)
has_map f [] y h = absurd h
has_map f (x ∷ xs) y (inl e) = (x, e)
has_map f (x ∷ xs) y (inr h) = has_map f xs y h

-- each element is in the mapped list
pub map_has : {A B : Type 0} (f : A → B) (xs : List A) (x : A) → Has xs x → Has (map f xs) (f x)
map_has f [] x h = absurd h
map_has f (y ∷ xs) x (inl e) = inl (ap f e)
map_has f (y ∷ xs) x (inr h) = inr (map_has f xs x h)

-- a test that some element passes finds one
pub any_has : {A : Type 0} (f : A → Bool) (xs : List A) → list_any f xs ≡ true → (x : A) × Has xs x × (f x ≡ true)
any_has f [] h = absurd (false≢true h)
any_has f (x ∷ xs) h = ⊎_elim
    (λ (e : f x ≡ true). (x, inl refl, e))
    (λ (o : list_any f xs ≡ true). let r = any_has f xs o in (r.0, inr r.1, r.2))
    (or_cases (f x) (list_any f xs) h)

-- what is in the joined lists is in one of them
pub has_flat : {A B : Type 0} (f : A → List B) (xs : List A) (y : B) → Has (flat_map f xs) y → (x : A) × Has xs x × Has (f x) y
has_flat f [] y h = absurd h
has_flat f (x ∷ xs) y h = ⊎_elim
    (λ (o : Has (f x) y). (x, inl refl, o))
    (λ (o : Has (flat_map f xs) y). let r = has_flat f xs y o in (r.0, inr r.1, r.2))
    (has_cases (f x) (flat_map f xs) y h)

-- what is in one of the lists is in the joined
pub flat_has : {A B : Type 0} (f : A → List B) (xs : List A) (x : A) (y : B) → Has xs x → Has (f x) y → Has (flat_map f xs) y
flat_has f [] x y h k = absurd h
flat_has f (z ∷ xs) x y (inl e) k = has_left (f z) (flat_map f xs) y (subst (λ a. Has (f a) y) (sym e) k)
flat_has f (z ∷ xs) x y (inr h) k = has_right (f z) (flat_map f xs) y (flat_has f xs x y h k)

-- what is left by a test was there
pub has_filter : {A : Type 0} (f : A → Bool) (xs : List A) (x : A) → Has (filter f xs) x → Has xs x
has_filter f [] x h = absurd h
has_filter f (y ∷ xs) x h = one (λ o. has_filter f xs x o) (f y) h
  where
    one : (Has (filter f xs) x → Has xs x) → (c : Bool) → Has (cond c (y ∷ filter f xs) (filter f xs)) x → Has (y ∷ xs) x
    one rest true (inl e) = inl e
    one rest true (inr o) = inr (rest o)
    one rest false o = inr (rest o)

-- what is in a beginning is in the list
pub has_take : {A : Type 0} (k : ℕ) (xs : List A) (x : A) → Has (take k xs) x → Has xs x
has_take zero xs x h = absurd h
has_take (suc k) [] x h = absurd h
has_take (suc k) (y ∷ xs) x (inl q) = inl q
has_take (suc k) (y ∷ xs) x (inr q) = inr (has_take k xs x q)

-- the element at an index is in the list
get_has : {A : Type 0} (xs : List A) (i : ℕ) (x : A) → slice_get xs i ≡ Some x → Has xs x
get_has [] i x h = absurd (none-some x h)
get_has (y ∷ xs) zero x h = inl (same_Some y x h)
get_has (y ∷ xs) (suc i) x h = inr (get_has xs i x h)

-- the element of a number is in the list
pub at_has : {A : Type 0} (xs : List A) (k : ℕ) (x : A) → at xs k ≡ Some x → Has xs x
at_has xs zero x h = absurd (none-some x h)
at_has xs (suc i) x h = get_has xs i x h

-- the index that was set
get_set : {A : Type 0} (xs : List A) (i : ℕ) (x y : A) → slice_get xs i ≡ Some x → slice_get (slice_set xs i y) i ≡ Some y
get_set [] i x y h = absurd (none-some x h)
get_set (z ∷ xs) zero x y h = refl
get_set (z ∷ xs) (suc i) x y h = get_set xs i x y h

-- another index stays
get_set_other : {A : Type 0} (xs : List A) (i k : ℕ) (y : A) → (k ≡ i → ⊥) → slice_get (slice_set xs i y) k ≡ slice_get xs k
get_set_other [] i k y d = refl
get_set_other (z ∷ xs) zero zero y d = absurd (d refl)
get_set_other (z ∷ xs) zero (suc k) y d = refl
get_set_other (z ∷ xs) (suc i) zero y d = refl
get_set_other (z ∷ xs) (suc i) (suc k) y d = get_set_other xs i k y (λ e. d (ap suc e))

-- setting keeps the length
length_set : {A : Type 0} (xs : List A) (i : ℕ) (y : A) → length (slice_set xs i y) ≡ length xs
length_set [] i y = refl
length_set (z ∷ xs) zero y = refl
length_set (z ∷ xs) (suc i) y = ap suc (length_set xs i y)

-- the number that was put
pub at_put : {A : Type 0} (xs : List A) (m : ℕ) (x y : A) → at xs m ≡ Some x → at (put xs m y) m ≡ Some y
at_put xs zero x y h = absurd (none-some x h)
at_put xs (suc i) x y h = get_set xs i x y h

-- another number stays
pub at_put_other : {A : Type 0} (xs : List A) (m k : ℕ) (y : A) → (k ≡ m → ⊥) → at (put xs m y) k ≡ at xs k
at_put_other xs zero k y d = refl
at_put_other xs (suc i) zero y d = refl
at_put_other xs (suc i) (suc k) y d = get_set_other xs i k y (λ e. d (ap suc e))

-- putting keeps the length
pub length_put : {A : Type 0} (xs : List A) (m : ℕ) (y : A) → length (put xs m y) ≡ length xs
length_put xs zero y = refl
length_put xs (suc i) y = length_set xs i y

-- each element of the copies is the one copied
get_replicate : {A : Type 0} (n i : ℕ) (x y : A) → slice_get (replicate n x) i ≡ Some y → x ≡ y
get_replicate zero i x y h = absurd (none-some y h)
get_replicate (suc n) zero x y h = same_Some x y h
get_replicate (suc n) (suc i) x y h = get_replicate n i x y h

-- the same by number
pub at_replicate : {A : Type 0} (n k : ℕ) (x y : A) → at (replicate n x) k ≡ Some y → x ≡ y
at_replicate n zero x y h = absurd (none-some y h)
at_replicate n (suc i) x y h = get_replicate n i x y h
