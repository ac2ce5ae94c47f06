-- Lists over the members 1 to n, element by element.
use Rattle.std.proofs.Common.{◌≡◌, ℕ, zero, suc, ◌+◌, ◌*◌, ◌<◌, ◌≤◌, arith, cond, leb, eqb, refl, sym, ap, ◌∙◌, ⊎_elim, Some, None, List, [], ◌∷◌, ◌++◌, map, length, replicate, slice_get, append-nil, length-append}
use Rattle.std.specs.Prelude.{flat_map}
use Rattle.std.proofs.Math.Path.{ap₂}
use Rattle.std.proofs.lemmas.Bool.{cases_lt, cases_eq, le-leb, lt-leb, eq-eqb, ne_eqb}
use Rattle.std.proofs.lemmas.Grind.{flat_map-append}
use Rattle.std.proofs.lemmas.List.{map-append, length-map}
use Rattle.std.proofs.lemmas.Option.{none-some, same_Some, slice_get_past}
use Rattle.ballots.specs.Messages.{up_to}
use Rattle.paxos.specs.Lists.{at, put}
use Rattle.paxos.proofs.Lists.{at_put, at_put_other}

-- an element of the first list
get_left : {A : Type 0} (xs ys : List A) (i : ℕ) (x : A) → slice_get xs i ≡ Some x → slice_get (xs ++ ys) i ≡ Some x
get_left [] ys i x h = absurd (none-some x h)
get_left (y ∷ xs) ys zero x h = h
get_left (y ∷ xs) ys (suc i) x h = get_left xs ys i x h

-- an element of the second
get_right : {A : Type 0} (xs ys : List A) (p i : ℕ) → p ≡ length xs + i → slice_get (xs ++ ys) p ≡ slice_get ys i
get_right [] ys p i h = ap (slice_get ys) (omega arith)
get_right (y ∷ xs) ys zero i h = absurd (omega arith)
get_right (y ∷ xs) ys (suc p) i h = get_right xs ys p i (omega arith)

-- an element of the first list, by number
pub at-left : {A : Type 0} (xs ys : List A) (k : ℕ) (x : A) → at xs k ≡ Some x → at (xs ++ ys) k ≡ Some x
at-left xs ys zero x h = h
at-left xs ys (suc i) x h = get_left xs ys i x h

-- an element of the second
pub at-right : {A : Type 0} (xs ys : List A) (n p k : ℕ) (x : A) → length xs ≡ n → p ≡ n + k → at ys k ≡ Some x → at (xs ++ ys) p ≡ Some x
at-right xs ys n p zero x l e h = absurd (none-some x h)
at-right xs ys n zero (suc k) x l e h = absurd (omega arith)
at-right xs ys n (suc p) (suc k) x l e h = get_right xs ys p k (omega arith) ∙ h

-- lists with the same elements are the same
same_elements : {A : Type 0} (xs ys : List A) → ((i : ℕ) → slice_get xs i ≡ slice_get ys i) → xs ≡ ys
same_elements [] [] h = refl
same_elements [] (y ∷ ys) h = absurd (none-some y (h 0))
same_elements (x ∷ xs) [] h = absurd (none-some x (sym (h 0)))
same_elements (x ∷ xs) (y ∷ ys) h = ap₂ (λ z zs. z ∷ zs) (same_Some x y (h 0)) (same_elements xs ys (λ i. h (suc i)))

-- there are n members
pub length_up_to : (n : ℕ) → length (up_to n) ≡ n
length_up_to zero = refl
length_up_to (suc n) = length-append (up_to n) (suc n ∷ []) ∙ omega (arith, length_up_to n)

-- so there are of what each has
pub length_each : {A : Type 0} (n : ℕ) (f : ℕ → A) → length (map f (up_to n)) ≡ n
length_each n f = length-map (up_to n) f ∙ length_up_to n

-- one member more
pub each_more : {A : Type 0} (n : ℕ) (f : ℕ → A) → map f (up_to (suc n)) ≡ map f (up_to n) ++ f (suc n) ∷ []
each_more n f = map-append f (up_to n) (suc n ∷ [])

-- what a member has
pub at_each : {A : Type 0} (n i : ℕ) (f : ℕ → A) → 1 ≤ i → i ≤ n → at (map f (up_to n)) i ≡ Some (f i)
at_each zero i f l h = absurd (omega arith)
at_each (suc n) i f l h = rw (each_more n f) (⊎_elim
    (λ (o : n < i). rw (the_last o) (at-right (map f (up_to n)) (f (suc n) ∷ []) n (suc n) 1 (f (suc n)) (length_each n f) (omega arith) refl))
    (λ (o : i ≤ n). at-left (map f (up_to n)) (f (suc n) ∷ []) i (f i) (at_each n i f l o))
    (cases_lt n i))
  where
    the_last : n < i → i ≡ suc n
    the_last o = omega arith

-- past the last there is nothing
past_each : {A : Type 0} (n i : ℕ) (f : ℕ → A) → n ≤ i → slice_get (map f (up_to n)) i ≡ None
past_each n i f h = slice_get_past (map f (up_to n)) i (omega (arith, length_each n f))

-- what is the same for each member
pub same_each : {A : Type 0} (n : ℕ) (f g : ℕ → A) → ((i : ℕ) → 1 ≤ i → i ≤ n → f i ≡ g i) → map f (up_to n) ≡ map g (up_to n)
same_each zero f g h = refl
same_each (suc n) f g h = each_more n f ∙ (ap₂ (λ xs x. xs ++ x ∷ []) (same_each n f g (λ i l k. h i l (omega arith))) (h (suc n) (omega arith) (omega arith)) ∙ sym (each_more n g))

-- one copy more
replicate_more : {A : Type 0} (n : ℕ) (x : A) → replicate n x ++ x ∷ [] ≡ x ∷ replicate n x
replicate_more zero x = refl
replicate_more (suc n) x = ap (λ xs. x ∷ xs) (replicate_more n x)

-- copies, one for each member
pub replicate_each : {A : Type 0} (n : ℕ) (x : A) → replicate n x ≡ map (λ i. x) (up_to n)
replicate_each zero x = refl
replicate_each (suc n) x = sym (replicate_more n x) ∙ (ap (λ xs. xs ++ x ∷ []) (replicate_each n x) ∙ sym (each_more n (λ i. x)))

-- one member changes
pub put_each : {A : Type 0} (n m : ℕ) (f g : ℕ → A) (x : A) → 1 ≤ m → m ≤ n → g m ≡ x → ((i : ℕ) → 1 ≤ i → i ≤ n → (i ≡ m → ⊥) → f i ≡ g i) → put (map f (up_to n)) m x ≡ map g (up_to n)
put_each n m f g x l h here other = same_elements (put (map f (up_to n)) m x) (map g (up_to n)) (λ i. ⊎_elim (changed i) (unchanged i) (cases_eq (suc i) m))
  where
    changed : (i : ℕ) → suc i ≡ m → slice_get (put (map f (up_to n)) m x) i ≡ slice_get (map g (up_to n)) i
    changed i e = ap (at (put (map f (up_to n)) m x)) e ∙ (at_put (map f (up_to n)) m (f m) x (at_each n m f l h) ∙ (ap Some (sym here) ∙ (sym (at_each n m g l h) ∙ ap (at (map g (up_to n))) (sym e))))

    unchanged : (i : ℕ) → (suc i ≡ m → ⊥) → slice_get (put (map f (up_to n)) m x) i ≡ slice_get (map g (up_to n)) i
    unchanged i d = at_put_other (map f (up_to n)) m (suc i) x d ∙ ⊎_elim
        (λ (o : i < n). at_each n (suc i) f (omega arith) (omega arith) ∙ (ap Some (other (suc i) (omega arith) (omega arith) d) ∙ sym (at_each n (suc i) g (omega arith) (omega arith))))
        (λ (o : n ≤ i). past_each n i f o ∙ sym (past_each n i g o))
        (cases_lt i n)

-- the first j of n members have moved on from one function to another
abbrev pub moved : {A : Type 0} → (n j : ℕ) → (f g : ℕ → A) → List A
moved n j f g = map (λ i. cond (leb i j) (g i) (f i)) (up_to n)

pub moved_none : {A : Type 0} (n : ℕ) (f g : ℕ → A) → moved n 0 f g ≡ map f (up_to n)
moved_none n f g = same_each n (λ i. cond (leb i 0) (g i) (f i)) f (λ i l h. rw (lt-leb i 0 (omega arith)) refl)

pub moved_all : {A : Type 0} (n : ℕ) (f g : ℕ → A) → moved n n f g ≡ map g (up_to n)
moved_all n f g = same_each n (λ i. cond (leb i n) (g i) (f i)) g (λ i l h. rw (le-leb i n h) refl)

pub moved_at : {A : Type 0} (n j : ℕ) (f g : ℕ → A) → j < n → at (moved n j f g) (suc j) ≡ Some (f (suc j))
moved_at n j f g h = at_each n (suc j) (λ i. cond (leb i j) (g i) (f i)) (omega arith) (omega arith) ∙ rw (lt-leb (suc j) j (omega arith)) refl

pub moved_put : {A : Type 0} (n j : ℕ) (f g : ℕ → A) → j < n → put (moved n j f g) (suc j) (g (suc j)) ≡ moved n (suc j) f g
moved_put n j f g h = put_each n (suc j) (λ i. cond (leb i j) (g i) (f i)) (λ i. cond (leb i (suc j)) (g i) (f i)) (g (suc j)) (omega arith) (omega arith)
    (rw (le-leb (suc j) (suc j) (omega arith)) refl)
    (λ i l k d. ⊎_elim
    (λ (o : j < i). rw (lt-leb i j o, lt-leb i (suc j) (omega arith)) refl)
    (λ (o : i ≤ j). rw (le-leb i j o, le-leb i (suc j) (omega arith)) refl)
    (cases_lt j i))

-- member m of n is this one, the others are as the function says
abbrev pub beside : {A : Type 0} → (n m : ℕ) → A → (f : ℕ → A) → List A
beside n m x f = map (λ i. cond (eqb i m) x (f i)) (up_to n)

pub beside_at : {A : Type 0} (n m : ℕ) (x : A) (f : ℕ → A) → 1 ≤ m → m ≤ n → at (beside n m x f) m ≡ Some x
beside_at n m x f l h = at_each n m (λ i. cond (eqb i m) x (f i)) l h ∙ rw (eq-eqb m m refl) refl

pub beside_put : {A : Type 0} (n m : ℕ) (x y : A) (f : ℕ → A) → 1 ≤ m → m ≤ n → put (beside n m x f) m y ≡ beside n m y f
beside_put n m x y f l h = put_each n m (λ i. cond (eqb i m) x (f i)) (λ i. cond (eqb i m) y (f i)) y l h (rw (eq-eqb m m refl) refl) (λ i l k d. rw (ne_eqb i m d) refl)

-- for each of the first j members, what it has for each of n
abbrev pub rows : {A : Type 0} → (n j : ℕ) → (ℕ → ℕ → A) → List A
rows n j f = flat_map (λ a. map (f a) (up_to n)) (up_to j)

pub rows_more : {A : Type 0} (n j : ℕ) (f : ℕ → ℕ → A) → rows n (suc j) f ≡ rows n j f ++ map (f (suc j)) (up_to n)
rows_more n j f = flat_map-append (λ a. map (f a) (up_to n)) (up_to j) (suc j ∷ []) ∙ ap (λ xs. rows n j f ++ xs) (append-nil (map (f (suc j)) (up_to n)))

pub length_rows : {A : Type 0} (n j : ℕ) (f : ℕ → ℕ → A) → length (rows n j f) ≡ n * j
length_rows n zero f = omega arith
length_rows n (suc j) f = ap length (rows_more n j f) ∙ (length-append (rows n j f) (map (f (suc j)) (up_to n)) ∙ grind (arith, length_rows n j f, length_each n (f (suc j))))

-- what member a + 1 has for member k
pub at_rows : {A : Type 0} (n j a k p : ℕ) (f : ℕ → ℕ → A) → a < j → 1 ≤ k → k ≤ n → p ≡ n * a + k → at (rows n j f) p ≡ Some (f (suc a) k)
at_rows n zero a k p f l h g e = absurd (omega arith)
at_rows n (suc j) a k p f l h g e = rw (rows_more n j f) (⊎_elim
    (λ (o : a < j). at-left (rows n j f) (map (f (suc j)) (up_to n)) p (f (suc a) k) (at_rows n j a k p f o h g e))
    (λ (o : j ≤ a). rw (the_last o) (at-right (rows n j f) (map (f (suc j)) (up_to n)) (n * j) p k (f (suc j) k) (length_rows n j f) (e ∙ ap (λ x. n * x + k) (the_last o)) (at_each n k (f (suc j)) h g)))
    (cases_lt a j))
  where
    the_last : j ≤ a → a ≡ j
    the_last o = omega arith
