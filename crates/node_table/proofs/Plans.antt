-- Plans of changes, made one after the other.
use Rattle.std.proofs.Common.{◌≡◌, true, false, ℕ, ◌+◌, ◌≤◌, ◌<◌, List, [], ◌∷◌, ◌++◌, refl, ap, ap₂, sym, ◌∙◌, arith, ⊎_elim, Option, None, Some, take, drop, length, get_or, slice_set, reverse, nat_eq, append_assoc, add-one}
use Rattle.std.proofs.lemmas.Bool.Decides.{eqb_tells}
use Rattle.std.proofs.lemmas.List.{take_more_set, drop-set-lt, reverse-reverse, length-reverse}
use Rattle.std.proofs.Math.Seq.{drop-cons}
use Rattle.std.proofs.lemmas.Grind.{reverse_onto}
use Rattle.row_pages.specs.Rows.{Term, get, Changes}
use Rattle.node_table.specs.declared.table.Row.{Row}
use Rattle.node_table.specs.declared.exchange.Change.{Change}
use Rattle.node_table.specs.Rows.{row_of}
use Rattle.node_table.specs.Plans.{changed, over, replaced, places, all_places}

pub rows-changed : (m n : Term Row) (k : ℕ) (o : Option Row) → Changes k o m n → row_of n ≡ changed k o (row_of m)
unfolding row_of
rows-changed m n k o u = λ t i.
    (let e : row_of n i ≡ changed k o (row_of m) i = ⊎_elim (λ s. (let z : nat_eq k i ≡ true = s.0 in rw z (ap (get n) (sym s.1) ∙ u.here))) (λ s. (let z : nat_eq k i ≡ false = s.0 in rw z (u.apart i (λ x. s.1 (sym x))))) (eqb_tells k i) in e t)

pub row-at : (m : Term Row) (k : ℕ) → get m k ≡ row_of m k
unfolding row_of
row-at m k = refl

pub rows-reordered : (m n : Term Row) → ((k : ℕ) → get n k ≡ get m k) → row_of n ≡ row_of m
unfolding row_of
rows-reordered m n e = λ t i. e i t

-- ---- one step of the loop
module _ (xs : List Change) (i : ℕ) (d y : Change) (f : ℕ → Option Row) (in_range : i < length xs) where
  left : drop i xs ≡ get_or xs i d ∷ drop (i + 1) xs
  left = rw (drop-cons xs i d in_range, add-one)

  left-after : drop (i + 1) (slice_set xs i y) ≡ drop (i + 1) xs
  left-after = drop-set-lt (i + 1) xs i y (omega arith)

  pub over-step : over (drop i xs) f ≡ over (drop (i + 1) (slice_set xs i y)) (changed (get_or xs i d).id (get_or xs i d).row f)
  over-step = rw (left-after, left)

  pub replaced-step : y.id ≡ (get_or xs i d).id → y.row ≡ f (get_or xs i d).id
      → take i xs ++ replaced (drop i xs) f ≡ take (i + 1) (slice_set xs i y) ++ replaced (drop (i + 1) (slice_set xs i y)) (changed (get_or xs i d).id (get_or xs i d).row f)
  replaced-step e r =
      let same : record { id = (get_or xs i d).id; row = f (get_or xs i d).id } ≡ y = sym (ap₂ (λ a b. record { id = a; row = b }) e r) in
      rw (left-after, left, take_more_set xs i y in_range) (rw same (sym (append_assoc (take i xs) (y ∷ []) _)))

  pub places-step : all_places (drop i xs) ≡ places (get_or xs i d).row + all_places (drop (i + 1) (slice_set xs i y))
  places-step = rw (left-after, left)

-- ---- back
over-append : (ps qs : List Change) (f : ℕ → Option Row) → over (ps ++ qs) f ≡ over qs (over ps f)
over-append [] qs f = refl
over-append (p ∷ ps) qs f = over-append ps qs (changed p.id p.row f)

replaced-append : (ps qs : List Change) (f : ℕ → Option Row) → replaced (ps ++ qs) f ≡ replaced ps f ++ replaced qs (over ps f)
replaced-append [] qs f = refl
replaced-append (p ∷ ps) qs f = ap (λ xs. record { id = p.id; row = f p.id } ∷ xs) (replaced-append ps qs (changed p.id p.row f))

back-one : (k : ℕ) (o : Option Row) (f : ℕ → Option Row) → changed k (f k) (changed k o f) ≡ f
back-one k o f = λ t i. (let e : changed k (f k) (changed k o f) i ≡ f i = ⊎_elim (λ s. rw s.0 (ap f s.1)) (λ s. rw s.0 refl) (eqb_tells k i) in e t)

changed-here : (k : ℕ) (o : Option Row) (f : ℕ → Option Row) → changed k o f k ≡ o
changed-here k o f = ⊎_elim (λ s. rw s.0 refl) (λ s. absurd (s.1 refl)) (eqb_tells k k)

reverse-cons : (p : Change) (ps : List Change) → reverse (p ∷ ps) ≡ reverse ps ++ p ∷ []
reverse-cons p ps = reverse_onto ps p []

-- what was replaced, put back from the last on
pub over-back : (ps : List Change) (f : ℕ → Option Row) → over (reverse (replaced ps f)) (over ps f) ≡ f
over-back [] f = refl
over-back (p ∷ ps) f =
    let g = changed p.id p.row f in
    rw (reverse-cons (record { id = p.id; row = f p.id }) (replaced ps g), over-append) (rw (over-back ps g) (back-one p.id p.row f))

-- what that replaces
again : (ps : List Change) (f : ℕ → Option Row) → replaced (reverse (replaced ps f)) (over ps f) ≡ reverse ps
again [] f = refl
again (p ∷ ps) f =
    let g = changed p.id p.row f in
    let last : record { id = p.id; row = g p.id } ≡ p = ap (λ o. record { id = p.id; row = o }) (changed-here p.id p.row f) in
    rw (reverse-cons (record { id = p.id; row = f p.id }) (replaced ps g), replaced-append, again ps g, over-back ps g) (rw last (sym (reverse-cons p ps)))

pub plan-back : (ps : List Change) (f : ℕ → Option Row) → reverse (replaced (reverse (replaced ps f)) (over ps f)) ≡ ps
plan-back ps f = ap reverse (again ps f) ∙ reverse-reverse ps

-- ---- places
places-one : (o : Option Row) → places o ≤ 1
places-one None = omega arith
places-one (Some r) = omega arith

pub places-most : (ps : List Change) → all_places ps ≤ length ps
places-most [] = omega arith
places-most (p ∷ ps) = omega (arith, places-one p.row, places-most ps)

length-replaced : (ps : List Change) (f : ℕ → Option Row) → length (replaced ps f) ≡ length ps
length-replaced [] f = refl
length-replaced (p ∷ ps) f = omega (arith, length-replaced ps (changed p.id p.row f))

pub places-back : (ps : List Change) (f : ℕ → Option Row) → all_places (reverse (replaced ps f)) ≤ length ps
places-back ps f = omega (arith, places-most (reverse (replaced ps f)), length-reverse (replaced ps f), length-replaced ps f)
