-- A list is its next item, and then the others.
use Rattle.std.proofs.Common.{◌≡◌, ℕ, zero, suc, ◌≤◌, Bool, true, false, cond, List, [], ◌∷◌, ◌++◌, length, Option, Some, None, refl, sym, ap, ◌∙◌, append_assoc, append-nil, arith}
use Rattle.query_tokens.specs.declared.token.Token.{Token}
use Rattle.query_grammar.specs.Reading.{Reader, and_then, pure, rounds, many}
use Rattle.query_rules.proofs.Lengths.{Shrinks}
use Rattle.query_rules.proofs.Turns.{made, in_turn, same_after}

-- what follows matters only after what was read
pub same_at : {A B : Type 0} (o : Option (A × List Token)) (f g : A → Reader B) → ((a : A) (ts : List Token) → o ≡ Some (a, ts) → f a ts ≡ g a ts) → and_then o f ≡ and_then o g
same_at None f g h = refl
same_at (Some p) f g h = h p.0 p.1 refl

-- more after what was read, then what is made of it
pub then_same : {A B C : Type 0} (o : Option (A × List Token)) (f : A → Reader B) (h : B → Reader C) (g : A → Reader C)
    → ((a : A) (ts : List Token) → and_then (f a ts) h ≡ g a ts) → and_then (and_then o f) h ≡ and_then o g
then_same o f h g same = in_turn o f h ∙ same_after o _ g same

-- either alternative, then what is made of it
pub either_same : {B C : Type 0} (b : Bool) (o u : Option (B × List Token)) (h : B → Reader C) (v w : Option (C × List Token))
    → and_then o h ≡ v → and_then u h ≡ w → and_then (cond b o u) h ≡ cond b v w
either_same true o u h v w p q = p
either_same false o u h v w p q = q

module _ {A : Type 0} (goes_on : List Token → Bool) {item : Reader A} (s : Shrinks item) (stops : goes_on [] ≡ false) where
  stopped : {X : Type 0} (a b : X) → cond (goes_on []) a b ≡ b
  stopped a b = ap (λ x. cond x a b) stops

  -- as many turns as there are tokens are enough
  enough : (n m : ℕ) (xs : List A) (ts : List Token) → length ts ≤ n → length ts ≤ m → rounds goes_on item n xs ts ≡ rounds goes_on item m xs ts
  unfolding rounds
  enough zero zero xs ts a b = refl
  enough zero (suc m) xs [] a b = sym (stopped _ _)
  enough zero (suc m) xs (t ∷ ts) a b = absurd (omega arith)
  enough (suc n) zero xs [] a b = stopped _ _
  enough (suc n) zero xs (t ∷ ts) a b = absurd (omega arith)
  enough (suc n) (suc m) xs ts a b = ap (λ o. cond (goes_on ts) o (Some (xs, ts)))
      (same_at (item ts) _ _ (λ x mid e. let less = s.shorter ts x mid e in enough n m (xs ++ x ∷ []) mid (omega (arith, less)) (omega (arith, less))))

  grown_step : (xs ys : List A) (ts : List Token) (f g : A → Reader (List A))
      → ((x : A) (mid : List Token) → and_then (f x mid) (λ zs. pure (xs ++ zs)) ≡ g x mid)
      → (b : Bool) (o : Option (A × List Token))
      → and_then (cond b (and_then o f) (Some (ys, ts))) (λ zs. pure (xs ++ zs)) ≡ cond b (and_then o g) (Some (xs ++ ys, ts))
  grown_step xs ys ts f g h false o = refl
  grown_step xs ys ts f g h true None = refl
  grown_step xs ys ts f g h true (Some p) = h p.0 p.1

  grown : (n : ℕ) (xs ys : List A) (ts : List Token) → and_then (rounds goes_on item n ys ts) (λ zs. pure (xs ++ zs)) ≡ rounds goes_on item n (xs ++ ys) ts
  unfolding rounds
  grown zero xs ys ts = refl
  grown (suc n) xs ys ts = grown_step xs ys ts (λ x. rounds goes_on item n (ys ++ x ∷ [])) (λ x. rounds goes_on item n ((xs ++ ys) ++ x ∷ []))
      (λ x mid. grown n xs (ys ++ x ∷ []) mid ∙ ap (λ zs. rounds goes_on item n zs mid) (sym (append_assoc xs ys (x ∷ []))))
      (goes_on ts) (item ts)

  onto : {B : Type 0} (G : List A → Reader B) (xs : List A) (ts : List Token) → and_then (many goes_on item ts) (λ others. G (xs ++ others)) ≡ and_then (rounds goes_on item (length ts) xs ts) G
  onto G xs ts =
      made (many goes_on item ts) (λ others. xs ++ others) G
      ∙ ap (λ o. and_then o G) (grown (length ts) xs [] ts ∙ ap (λ ys. rounds goes_on item (length ts) ys ts) (append-nil xs))

  next : {B : Type 0} (G : List A → Reader B) (xs : List A) → A → Reader B
  next G xs x mid = and_then (many goes_on item mid) (λ others. G ((xs ++ x ∷ []) ++ others))

  turned : {B : Type 0} (G : List A → Reader B) (xs : List A) (ts : List Token) (f : A → Reader (List A)) (b : Bool) (o : Option (A × List Token))
      → ((x : A) (mid : List Token) → o ≡ Some (x, mid) → and_then (f x mid) G ≡ next G xs x mid)
      → and_then (cond b (and_then o f) (Some (xs, ts))) G ≡ cond b (and_then o (next G xs)) (G xs ts)
  turned G xs ts f false o h = refl
  turned G xs ts f true o h = in_turn o f G ∙ same_at o _ (next G xs) h

  unrolled : {B : Type 0} (G : List A → Reader B) (xs : List A) (ts : List Token)
      → and_then (rounds goes_on item (length ts) xs ts) G ≡ cond (goes_on ts) (and_then (item ts) (next G xs)) (G xs ts)
  unfolding rounds next
  unrolled G xs [] = sym (stopped _ _)
  unrolled G xs (t ∷ ts) = turned G xs (t ∷ ts) (λ x. rounds goes_on item (length ts) (xs ++ x ∷ [])) (goes_on (t ∷ ts)) (item (t ∷ ts))
      (λ x mid e. let less = s.shorter (t ∷ ts) x mid e in
      ap (λ o. and_then o G) (enough (length ts) (length mid) (xs ++ x ∷ []) mid (omega (arith, less)) (omega arith)) ∙ sym (onto G (xs ++ x ∷ []) mid))

  pub once_more : {B : Type 0} (G : List A → Reader B) (xs : List A) (ts : List Token)
      → and_then (many goes_on item ts) (λ others. G (xs ++ others))
      ≡ cond (goes_on ts) (and_then (item ts) (λ x mid. and_then (many goes_on item mid) (λ others. G ((xs ++ x ∷ []) ++ others)))) (G xs ts)
  unfolding next
  once_more G xs ts = onto G xs ts ∙ unrolled G xs ts
