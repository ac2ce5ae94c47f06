-- A stable sort gives what insertion gives, one element after the other.
use Rattle.std.proofs.Common.{◌≡◌, ℕ, suc, ◌<◌, ◌≤◌, Bool, true, false, cond, List, [], ◌∷◌, length, get_or, refl, sym, ap, ap₂, ◌∙◌, arith}
use Rattle.std.specs.Prelude.{not, ◌&&◌, filter, Result, Ok, Err, OnOk}
use Rattle.std.specs.Cmp.{IsStrictWeakOrder}
use Rattle.std.specs.List.Sorted.{IsSortedBy, IsStableBy, IsSortedByClosure, IsStableByClosure, ties}
use Rattle.std.specs.Fn.{Mut, Called}
use denote.Ref.{Bor}
use Rattle.std.specs.declared.cmp.Ordering.{Ordering}
use Rattle.std.proofs.lemmas.Fn.{always_returns_same}
use Rattle.std.specs.Ordering.{is_lt}
use Rattle.std.proofs.lemmas.List.Sorted.{sorted_far}
use Rattle.query_grammar.specs.declared.ast.SortKey.{SortKey}
use Rattle.sorted_tuples.specs.Keys.{Each, inserted, inserted_each}
use Rattle.query_meaning.specs.Sequences.{Meaning, Tuple, keys_cmp, sorted, sorted_in}

-- no element is less than x, and none than one before it
abbrev Above : {X : Type 0} → (X → X → Bool) → X → List X → Type 0
Above lt x [] = Unit {0}
Above lt x (y ∷ ys) = (lt y x ≡ false) × Above lt x ys

abbrev Rises : {X : Type 0} → (X → X → Bool) → List X → Type 0
Rises lt [] = Unit {0}
Rises lt (x ∷ xs) = Above lt x xs × Rises lt xs

module _ {X : Type 0} (lt : X → X → Bool) (o : IsStrictWeakOrder lt) where
  unlike : (b : Bool) → b ≡ true → b ≡ false → ⊥
  unlike b e f = cc (e, f)

  not_itself : (x : X) → lt x x ≡ false
  not_itself x = by (lt x x) refl
    where
      by : (b : Bool) → lt x x ≡ b → lt x x ≡ false
      by true e = o.one_way x x e
      by false e = e

  pub tied_itself : (x : X) → ties lt x x ≡ true
  tied_itself x = ap₂ (λ a b. not a && not b) (not_itself x) (not_itself x)

  above_from : (x : X) (ys : List X) → ((j : ℕ) (d : X) → j < length ys → lt (get_or ys j d) x ≡ false) → Above lt x ys
  above_from x [] h = tt
  above_from x (y ∷ ys) h = (h 0 y (omega arith), above_from x ys (λ j d below. h (suc j) d (omega (arith, below))))

  rises_from : (xs : List X) → ((i j : ℕ) (d : X) → i ≤ j → j < length xs → lt (get_or xs j d) (get_or xs i d) ≡ false) → Rises lt xs
  rises_from [] h = tt
  rises_from (x ∷ xs) h = (above_from x xs (λ j d below. h 0 (suc j) d (omega arith) (omega (arith, below))), rises_from xs (λ i j d up below. h (suc i) (suc j) d (omega (arith, up)) (omega (arith, below))))

  above_chain : (x y : X) (ys : List X) → lt y x ≡ false → Above lt y ys → Above lt x ys
  above_chain x y [] e h = tt
  above_chain x y (z ∷ ys) e h = (o.chain z y x h.0 e, above_chain x y ys e h.1)

  inserted_above : (a x : X) (ys : List X) → lt x a ≡ false → Above lt a ys → Above lt a (inserted lt x ys)
  inserted_above a x [] e h = (e, tt)
  inserted_above a x (y ∷ ys) e h = by (lt y x) (inserted_above a x ys e h.1)
    where
      by : (b : Bool) → Above lt a (inserted lt x ys) → Above lt a (cond b (y ∷ inserted lt x ys) (x ∷ y ∷ ys))
      by true rest = (h.0, rest)
      by false rest = (e, h)

  inserted_rises : (x : X) (ys : List X) → Rises lt ys → Rises lt (inserted lt x ys)
  inserted_rises x [] h = (tt, tt)
  inserted_rises x (y ∷ ys) h = by (lt y x) refl (inserted_rises x ys h.1)
    where
      by : (b : Bool) → lt y x ≡ b → Rises lt (inserted lt x ys) → Rises lt (cond b (y ∷ inserted lt x ys) (x ∷ y ∷ ys))
      by true e rest = (inserted_above y x ys (o.one_way y x e) h.0, rest)
      by false e rest = ((e, above_chain x y ys e h.0), h)

  each_rises : (xs : List X) → Rises lt (inserted_each lt xs)
  each_rises [] = tt
  each_rises (x ∷ xs) = inserted_rises x (inserted_each lt xs) (each_rises xs)

  both_false : (b c : Bool) → (not b && not c) ≡ true → (b ≡ false) × (c ≡ false)
  both_false true c e = cc
  both_false false true e = cc
  both_false false false e = (refl, refl)

  -- elements that tie with one tie with each other
  tied_alike : (x a y : X) → ties lt x a ≡ true → ties lt x y ≡ true → lt y a ≡ false
  tied_alike x a y e f = o.chain y x a (both_false (lt x y) (lt y x) f).1 (both_false (lt x a) (lt a x) e).0

  swapped : (a y : X) (b c : Bool) (rest : List X) → (b ≡ true → c ≡ true → ⊥)
      → cond c (y ∷ cond b (a ∷ rest) rest) (cond b (a ∷ rest) rest) ≡ cond b (a ∷ cond c (y ∷ rest) rest) (cond c (y ∷ rest) rest)
  swapped a y true true rest h = absurd (h refl refl)
  swapped a y true false rest h = refl
  swapped a y false true rest h = refl
  swapped a y false false rest h = refl

  inserted_stable : (x a : X) (ys : List X) → filter (ties lt x) (inserted lt a ys) ≡ filter (ties lt x) (a ∷ ys)
  inserted_stable x a [] = refl
  inserted_stable x a (y ∷ ys) = by (lt y a) refl (inserted_stable x a ys)
    where
      by : (b : Bool) → lt y a ≡ b → filter (ties lt x) (inserted lt a ys) ≡ filter (ties lt x) (a ∷ ys) → filter (ties lt x) (cond b (y ∷ inserted lt a ys) (a ∷ y ∷ ys)) ≡ filter (ties lt x) (a ∷ y ∷ ys)
      by true e same =
          ap (λ f. cond (ties lt x y) (y ∷ f) f) same
          ∙ swapped a y (ties lt x a) (ties lt x y) (filter (ties lt x) ys) (λ p q. unlike (lt y a) e (tied_alike x a y p q))
      by false e same = refl

  each_stable : (x : X) (xs : List X) → filter (ties lt x) (inserted_each lt xs) ≡ filter (ties lt x) xs
  each_stable x [] = refl
  each_stable x (a ∷ xs) = inserted_stable x a (inserted_each lt xs) ∙ ap (λ f. cond (ties lt x a) (a ∷ f) f) (each_stable x xs)

  -- what is less than the first ties with none
  none_tied : (y z : X) (zs : List X) → lt y z ≡ true → Above lt z zs → filter (ties lt y) zs ≡ []
  none_tied y z [] e h = refl
  none_tied y z (w ∷ ws) e h = by (lt y w) refl (none_tied y z ws e h.1)
    where
      by : (b : Bool) → lt y w ≡ b → filter (ties lt y) ws ≡ [] → cond (not b && not (lt w y)) (w ∷ filter (ties lt y) ws) (filter (ties lt y) ws) ≡ []
      by true f rest = rest
      by false f rest = absurd (unlike (lt y z) e (o.chain y w z f h.0))

  none_tied_too : (y z : X) (zs : List X) → lt y z ≡ true → Above lt z zs → filter (ties lt y) (z ∷ zs) ≡ []
  none_tied_too y z zs e h = ap (λ b. cond (not b && not (lt z y)) (z ∷ filter (ties lt y) zs) (filter (ties lt y) zs)) e ∙ none_tied y z zs e h

  itself_first : (y : X) (ys : List X) → filter (ties lt y) (y ∷ ys) ≡ y ∷ filter (ties lt y) ys
  itself_first y ys = ap (λ b. cond b (y ∷ filter (ties lt y) ys) (filter (ties lt y) ys)) (tied_itself y)

  nothing_first : (y : X) (ys : List X) → y ∷ ys ≡ [] → ⊥
  nothing_first y ys e = cc

  -- two lists that rise, and have the same elements in the same order where they tie
  alike : (ys zs : List X) → Rises lt ys → Rises lt zs → ((x : X) → filter (ties lt x) ys ≡ filter (ties lt x) zs) → ys ≡ zs
  alike [] [] p q e = refl
  alike [] (z ∷ zs) p q e = absurd (nothing_first _ _ (sym (itself_first z zs) ∙ sym (e z)))
  alike (y ∷ ys) [] p q e = absurd (nothing_first _ _ (sym (itself_first y ys) ∙ e y))
  alike (y ∷ ys) (z ∷ zs) p q e = by (lt y z) (lt z y) refl refl (alike ys zs p.1 q.1)
    where
      tails : (b : Bool) (f g : List X) → cond b (y ∷ f) f ≡ cond b (y ∷ g) g → f ≡ g
      tails true f g same = cc
      tails false f g same = same

      heads : (f g : List X) → y ∷ f ≡ z ∷ g → y ≡ z
      heads f g same = cc

      by : (b c : Bool) → lt y z ≡ b → lt z y ≡ c → (((x : X) → filter (ties lt x) ys ≡ filter (ties lt x) zs) → ys ≡ zs) → y ∷ ys ≡ z ∷ zs
      by true c f g rest = absurd (nothing_first _ _ (sym (itself_first y ys) ∙ e y ∙ none_tied_too y z zs f q.0))
      by false true f g rest = absurd (nothing_first _ _ (sym (itself_first z zs) ∙ sym (e z) ∙ none_tied_too z y ys g p.0))
      by false false f g rest =
          let tied : ties lt y z ≡ true = ap₂ (λ a b. not a && not b) f g in
          let same : y ≡ z = heads _ _ (sym (itself_first y ys) ∙ e y ∙ ap (λ b. cond b (z ∷ filter (ties lt y) zs) (filter (ties lt y) zs)) tied) in
          ap₂ (λ x xs. x ∷ xs) same (rest (λ x. tails (ties lt x y) _ _ (e x ∙ ap (λ w. cond (ties lt x w) (w ∷ filter (ties lt x) zs) (filter (ties lt x) zs)) (sym same))))

  -- what a stable sort ensures
  pub stable_is_inserted : (xs ys : List X) → IsSortedBy lt ys → IsStableBy lt xs ys → ys ≡ inserted_each lt xs
  stable_is_inserted xs ys up stable = alike ys (inserted_each lt xs) (rises_from ys (sorted_far lt o ys up)) (each_rises xs) (λ x. stable x ∙ sym (each_stable x xs))

  -- elements that tie are among those that tie by a coarser test
  tied_among : (coarse : X → X → Bool) → ((x y : X) → ties lt x y ≡ true → coarse x y ≡ true) → (x : X) (zs : List X) → filter (ties lt x) (filter (coarse x) zs) ≡ filter (ties lt x) zs
  tied_among coarse h x [] = refl
  tied_among coarse h x (z ∷ zs) = by (ties lt x z) (coarse x z) refl refl (tied_among coarse h x zs)
    where
      by : (b c : Bool) → ties lt x z ≡ b → coarse x z ≡ c → filter (ties lt x) (filter (coarse x) zs) ≡ filter (ties lt x) zs
          → filter (ties lt x) (cond c (z ∷ filter (coarse x) zs) (filter (coarse x) zs)) ≡ cond b (z ∷ filter (ties lt x) zs) (filter (ties lt x) zs)
      by true true e f same = ap₂ (λ w ws. cond w (z ∷ ws) ws) e same
      by true false e f same = absurd (unlike (coarse x z) (h x z e) f)
      by false true e f same = ap₂ (λ w ws. cond w (z ∷ ws) ws) e same
      by false false e f same = same

  -- insertion gives the same after a sort that keeps elements in their order which tie by a coarser test
  pub inserted_after : (coarse : X → X → Bool) → ((x y : X) → ties lt x y ≡ true → coarse x y ≡ true) → (xs ys : List X) → ((x : X) → filter (coarse x) ys ≡ filter (coarse x) xs)
      → inserted_each lt ys ≡ inserted_each lt xs
  inserted_after coarse h xs ys stable =
      alike (inserted_each lt ys) (inserted_each lt xs) (each_rises ys) (each_rises xs)
      (λ x. each_stable x ys ∙ sym (tied_among coarse h x ys) ∙ ap (filter (ties lt x)) (stable x) ∙ tied_among coarse h x xs ∙ sym (each_stable x xs))

-- what holds of each element holds of each that is inserted
each_inserted : {X : Type 0} (f : X → X → Bool) (P : X → Type 0) (x : X) (ys : List X) → P x → Each P ys → Each P (inserted f x ys)
each_inserted f P x [] p h = (p, tt)
each_inserted f P x (y ∷ ys) p h = by (f y x) (each_inserted f P x ys p h.1)
  where
    by : (b : Bool) → Each P (inserted f x ys) → Each P (cond b (y ∷ inserted f x ys) (x ∷ y ∷ ys))
    by true rest = (h.0, rest)
    by false rest = (p, h)

pub each_of_all : {X : Type 0} (f : X → X → Bool) (P : X → Type 0) (xs : List X) → Each P xs → Each P (inserted_each f xs)
each_of_all f P [] h = tt
each_of_all f P (x ∷ xs) h = each_inserted f P x (inserted_each f xs) h.0 (each_of_all f P xs h.1)

-- tests that answer alike of each element and one before it
abbrev pub AnswerAlike : {X : Type 0} → (f g : X → X → Bool) → List X → Type 0
AnswerAlike f g [] = Unit {0}
AnswerAlike f g (x ∷ xs) = Each (λ y. f y x ≡ g y x) xs × AnswerAlike f g xs

inserted_alike : {X : Type 0} (f g : X → X → Bool) (x : X) (ys : List X) → Each (λ y. f y x ≡ g y x) ys → inserted f x ys ≡ inserted g x ys
inserted_alike f g x [] h = refl
inserted_alike f g x (y ∷ ys) h = ap₂ (λ b zs. cond b (y ∷ zs) (x ∷ y ∷ ys)) h.0 (inserted_alike f g x ys h.1)

pub each_alike : {X : Type 0} (f g : X → X → Bool) (xs : List X) → AnswerAlike f g xs → inserted_each f xs ≡ inserted_each g xs
each_alike f g [] h = refl
each_alike f g (x ∷ xs) h = inserted_alike f g x (inserted_each f xs) (each_of_all f (λ y. f y x ≡ g y x) xs h.0) ∙ ap (inserted g x) (each_alike f g xs h.1)

-- the order of tuples in the definition is insertion
pub tuples_inserted : (keys : List (SortKey Meaning)) (ts : List Tuple) → sorted keys ts ≡ inserted_each (λ u t. is_lt (keys_cmp keys u.keys t.keys)) ts
tuples_inserted keys [] = refl
tuples_inserted keys (t ∷ ts) = ap (sorted_in keys t) (tuples_inserted keys ts) ∙ among (inserted_each (λ u t. is_lt (keys_cmp keys u.keys t.keys)) ts)
  where
    among : (us : List Tuple) → sorted_in keys t us ≡ inserted (λ u t. is_lt (keys_cmp keys u.keys t.keys)) t us
    among [] = refl
    among (u ∷ us) = ap (λ ws. cond (is_lt (keys_cmp keys u.keys t.keys)) (u ∷ ws) (t ∷ u ∷ us)) (among us)

-- what a stable sort ensures whose comparison answers a function's value
pub sort_inserts : {F X A E : Type 0} {g : Mut F (Bor X × (Bor X × Unit {0})) Ordering} {f : F} (cmp : X → X → Ordering) → IsStrictWeakOrder (λ x y. is_lt (cmp x y)) → (r : Result A E) (xs ys : List X)
    → OnOk r (IsSortedByClosure g f ys) → IsStableByClosure g f xs ys
    → ((a : Bor X × (Bor X × Unit {0})) (o : Ordering) (f' : F) → Called g f a o f' → (o ≡ cmp a.0.now a.1.0.now) × (f' ≡ f)) → OnOk r (ys ≡ inserted_each (λ x y. is_lt (cmp x y)) xs)
sort_inserts {g = g} {f = f} cmp weak (Ok a) xs ys up stable h =
    let answers = always_returns_same g (λ a o. is_lt o ≡ is_lt (cmp a.0.now a.1.0.now)) f (λ a o f' k. (ap is_lt (h a o f' k).0, (h a o f' k).1)) in
    stable_is_inserted (λ x y. is_lt (cmp x y)) weak xs ys (up (λ x y. is_lt (cmp x y)) weak answers) (stable (λ x y. is_lt (cmp x y)) weak answers)
sort_inserts cmp weak (Err e) xs ys up stable h = tt
