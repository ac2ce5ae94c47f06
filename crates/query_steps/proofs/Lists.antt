-- Lists of identities: what they hold, and what is filtered from them.
use Rattle.std.proofs.Common.{◌≡◌, ℕ, ◌≤◌, ◌<◌, Bool, true, false, ◌&&◌, ◌||◌, List, [], ◌∷◌, ◌++◌, filter, cond, eqb, refl, ap, sym, ◌∙◌, arith, ⊎_elim, inl, inr}
use Rattle.std.proofs.lemmas.Bool.Decides.{eqb_tells}
use Rattle.data_model.specs.Walks.{held}
use Rattle.data_model.specs.Axes.{is_in}
use Rattle.data_model.proofs.Weights.{eqb-same}
use Rattle.data_model.proofs.Firsts.{eqb-swap}
use Rattle.node_table.proofs.Axes.{Among}

-- two tests that are true of the same are one
pub same-tests : (x y : Bool) → (x ≡ true → y ≡ true) → (y ≡ true → x ≡ true) → x ≡ y
same-tests true true f g = refl
same-tests true false f g = sym (f refl)
same-tests false true f g = g refl
same-tests false false f g = refl

pub both-true : (x y : Bool) → (x && y) ≡ true → (x ≡ true) × (y ≡ true)
both-true true true h = (refl, refl)
both-true true false h = cc
both-true false y h = cc

-- what one test keeps of what another keeps
pub filter-both : (p q : ℕ → Bool) (xs : List ℕ) → filter p (filter q xs) ≡ filter (λ i. q i && p i) xs
filter-both p q [] = refl
filter-both p q (x ∷ xs) = elim (q x) as (λ v. filter p (cond v (x ∷ filter q xs) (filter q xs)) ≡ cond (v && p x) (x ∷ filter (λ i. q i && p i) xs) (filter (λ i. q i && p i) xs)) [
  | true ↦ ap (λ zs. cond (p x) (x ∷ zs) zs) (filter-both p q xs)
  | false ↦ filter-both p q xs
]

pub filter-every : (p : ℕ → Bool) (xs : List ℕ) → ((i : ℕ) → 0 < held i xs → p i ≡ true) → filter p xs ≡ xs
filter-every p [] h = refl
filter-every p (x ∷ xs) h = rw (h x (rw (eqb-same x) (omega arith)), filter-every p xs (λ i k. h i (omega arith))) refl

pub filter-no : (p : ℕ → Bool) (xs : List ℕ) → ((i : ℕ) → 0 < held i xs → p i ≡ false) → filter p xs ≡ []
filter-no p [] h = refl
filter-no p (x ∷ xs) h = rw (h x (rw (eqb-same x) (omega arith))) (filter-no p xs (λ i k. h i (omega arith)))

-- ---- lists that stand in others, in their order
pub among-later : (x : ℕ) (ks xs : List ℕ) → Among ks xs → Among ks (x ∷ xs)
unfolding Among
among-later x [] xs h = tt
among-later x (k ∷ ks) xs h = inr h

pub among-after : (ks ys xs : List ℕ) → Among ks xs → Among ks (ys ++ xs)
among-after ks [] xs h = h
among-after ks (y ∷ ys) xs h = among-later y ks (ys ++ xs) (among-after ks ys xs h)

pub among-before : (ks xs ys : List ℕ) → Among ks xs → Among ks (xs ++ ys)
unfolding Among
among-before [] xs ys h = tt
among-before (j ∷ ks) [] ys h = absurd h
among-before (j ∷ ks) (x ∷ xs) ys h = ⊎_elim (λ t. inl (t.0, among-before ks xs ys t.1)) (λ t. inr (among-before (j ∷ ks) xs ys t)) h

pub among-same : (xs : List ℕ) → Among xs xs
unfolding Among
among-same [] = tt
among-same (x ∷ xs) = inl (refl, among-same xs)

pub among-first : (x : ℕ) (ks xs : List ℕ) → Among ks xs → Among (x ∷ ks) (x ∷ xs)
unfolding Among
among-first x ks xs h = inl (refl, h)

pub among-rest : (k : ℕ) (ks xs : List ℕ) → Among (k ∷ ks) xs → Among ks xs
unfolding Among
among-rest k ks [] h = absurd h
among-rest k ks (x ∷ xs) h = among-later x ks xs (⊎_elim (λ t. t.1) (λ t. among-rest k ks xs t) h)

-- what is filtered stands where all did
pub among-filter : (p : ℕ → Bool) (ks xs : List ℕ) → Among ks xs → Among (filter p ks) xs
unfolding Among
among-filter p [] xs h = tt
among-filter p (k ∷ ks) [] h = absurd h
among-filter p (k ∷ ks) (x ∷ xs) h = ⊎_elim
    (λ t. elim (p k) as (λ v. Among (cond v (k ∷ filter p ks) (filter p ks)) (x ∷ xs)) [
      | true ↦ inl (t.0, among-filter p ks xs t.1)
      | false ↦ among-later x (filter p ks) xs (among-filter p ks xs t.1)
    ])
    (λ t. among-later x (filter p (k ∷ ks)) xs (among-filter p (k ∷ ks) xs t)) h

pub held-most : (i : ℕ) (ks xs : List ℕ) → Among ks xs → held i ks ≤ held i xs
unfolding Among
held-most i [] xs h = omega arith
held-most i (k ∷ ks) [] h = absurd h
held-most i (k ∷ ks) (x ∷ xs) h =
    ⊎_elim (λ t. (let z = held-most i ks xs t.1 in let same : cond {A = ℕ} (eqb i k) 1 0 ≡ cond (eqb i x) 1 0 = ap (λ j. cond {A = ℕ} (eqb i j) 1 0) t.0 in omega arith))
    (λ t. (let z = held-most i (k ∷ ks) xs t in omega arith)) h

-- what a filtered list holds
pub in-filter : (p : ℕ → Bool) (i : ℕ) (xs : List ℕ) → is_in i (filter p xs) ≡ (p i && is_in i xs)
in-filter p i [] = elim (p i) as (λ v. false ≡ (v && false)) [ true ↦ refl | false ↦ refl ]
in-filter p i (x ∷ xs) = by (p x) refl (in-filter p i xs)
  where
    by : (v : Bool) → p x ≡ v → is_in i (filter p xs) ≡ (p i && is_in i xs) → is_in i (cond v (x ∷ filter p xs) (filter p xs)) ≡ (p i && is_in i (x ∷ xs))
    by true e rest = ⊎_elim (λ t. rw (t.0, ap p t.1 ∙ e) refl) (λ t. rw t.0 rest) (eqb_tells i x)
    by false e rest = rest ∙ ⊎_elim (λ t. rw (t.0, ap p t.1 ∙ e) refl) (λ t. rw t.0 refl) (eqb_tells i x)

pub among-first-filter : (p : ℕ → Bool) (k : ℕ) (ks xs : List ℕ) → Among (k ∷ ks) xs → Among (k ∷ filter p ks) xs
unfolding Among
among-first-filter p k ks [] h = absurd h
among-first-filter p k ks (x ∷ xs) h = ⊎_elim (λ t. inl (t.0, among-filter p ks xs t.1)) (λ t. inr (among-first-filter p k ks xs t)) h

pub eqb-turned : (i j : ℕ) → eqb i j ≡ eqb j i
eqb-turned i j = ⊎_elim (λ t. t.0 ∙ sym (eqb-swap i j true t.0)) (λ t. t.0 ∙ sym (eqb-swap i j false t.0)) (eqb_tells i j)

pub and-turned : (x y : Bool) → (x && y) ≡ (y && x)
and-turned true true = refl
and-turned true false = refl
and-turned false true = refl
and-turned false false = refl

pub or-turned : (x y : Bool) → (x || y) ≡ (y || x)
or-turned true true = refl
or-turned true false = refl
or-turned false true = refl
or-turned false false = refl
