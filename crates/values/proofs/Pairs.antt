-- How the pairs of a general comparison are tried one by one.
use Rattle.std.proofs.Common.{◌≡◌, ◌≢◌, ◌⊎◌, ℕ, ◌+◌, ◌-◌, ◌<◌, ◌≤◌, Bool, true, false, cond, leb, ◌&&◌, List, [], ◌∷◌, ◌++◌, length, map, take, drop, get_or, refl, sym, ap, subst, ◌∙◌, arith, Result, Ok, Err, OnOk}
use Prim.Native.Nat.{zero, suc}
use Rattle.std.specs.List.{flat_map, sum}
use Rattle.std.proofs.lemmas.List.{at_drop_more, at_drop_all, map-append}
use Rattle.std.proofs.lemmas.List.Sums.{sum_by-cons}
use Rattle.std.proofs.lemmas.Bool.Decides.{nat_tests}
use Rattle.fault_codes.specs.declared.code.Code.{Code}
use Rattle.fault_codes.specs.declared.code.Code.TheVariants.{PXQ0002}
use Rattle.values.specs.Comparisons.{decided, tried}

-- what a pair comes to, and its work
abbrev pub Pair : Type 0
Pair = Result Bool Code × ℕ

-- whether some pair holds, with the turns and the work that are left
abbrev pub Walked : Type 0
Walked = Result (Bool × ℕ × ℕ) Code

abbrev pub told : Result Bool Code → (turns work : ℕ) → Walked
told (Ok b) n k = Ok (b, n, k)
told (Err code) n k = Err code

-- what goes on with the turns and the work that are left, where no pair holds yet
abbrev pub then : Walked → (ℕ → ℕ → Walked) → Walked
then (Ok (true, n, k)) f = Ok (true, n, k)
then (Ok (false, n, k)) f = f n k
then (Err code) f = Err code

-- what the pairs come to
abbrev pub walk : List Pair → (turns work : ℕ) → Walked
walk [] n k = Ok (false, n, k)
walk ((r, w) ∷ ps) zero k = Err PXQ0002
walk ((r, w) ∷ ps) (suc n) k = cond (leb w k) (then (told r n (k - w)) (walk ps)) (Err PXQ0002)

abbrev pub results : List Pair → List (Result Bool Code)
results = map (λ p. p.0)

abbrev pub works : List Pair → List ℕ
works = map (λ p. p.1)

abbrev pub spent : List (Result Bool Code) → List ℕ → ℕ
spent rs ws = sum (take (tried rs) ws)

abbrev pub limited : List (Result Bool Code) → List ℕ → (turns work : ℕ) → Result Bool Code
limited rs ws n k = cond (leb (tried rs) n && leb (spent rs ws) k) (decided rs) (Err PXQ0002)

sum-cons : (w : ℕ) (ws : List ℕ) → sum (w ∷ ws) ≡ w + sum ws
sum-cons w ws = sum_by-cons (λ x. x) w ws

walked : (ps : List Pair) (n k : ℕ) → walk ps n k ≡ told (limited (results ps) (works ps) n k) (n - tried (results ps)) (k - spent (results ps) (works ps))
walked [] n k = grind (arith, nat_tests)
walked ((Ok true, w) ∷ ps) zero k = grind (arith, nat_tests)
walked ((Ok false, w) ∷ ps) zero k = grind (arith, nat_tests)
walked ((Err code, w) ∷ ps) zero k = grind (arith, nat_tests)
walked ((Ok true, w) ∷ ps) (suc n) k = grind (arith, nat_tests, sum-cons)
walked ((Ok false, w) ∷ ps) (suc n) k = let e = walked ps n (k - w) in grind (arith, nat_tests, sum-cons)
walked ((Err code, w) ∷ ps) (suc n) k = grind (arith, nat_tests, sum-cons)

-- a walk over pairs of those results and works ends so
pub record Ends (rs : List (Result Bool Code)) (ws : List ℕ) (n k : ℕ) (r : Result Bool Code) (m l : ℕ) : Type 0 where
  pub result : r ≡ limited rs ws n k
  pub left : OnOk r ((m ≡ n - tried rs) × (l ≡ k - spent rs ws))

told-same : (r q : Result Bool Code) (m l n k : ℕ) → told r m l ≡ told q n k → (r ≡ q) × OnOk r ((m ≡ n) × (l ≡ k))
told-same (Ok b) (Ok c) m l n k h = (grind arith, (grind arith, grind arith))
told-same (Ok b) (Err c) m l n k h = grind arith
told-same (Err b) (Ok c) m l n k h = grind arith
told-same (Err b) (Err c) m l n k h = (grind arith, tt)

same-told : (r q : Result Bool Code) (m l n k : ℕ) → r ≡ q → OnOk r ((m ≡ n) × (l ≡ k)) → told q n k ≡ told r m l
same-told (Ok b) (Ok c) m l n k h e = grind arith
same-told (Ok b) (Err c) m l n k h e = grind arith
same-told (Err b) (Ok c) m l n k h e = grind arith
same-told (Err b) (Err c) m l n k h e = grind arith

ended : (ps : List Pair) (n k : ℕ) (r : Result Bool Code) (m l : ℕ) → walk ps n k ≡ told r m l → Ends (results ps) (works ps) n k r m l
ended ps n k r m l h =
    let e = told-same r (limited (results ps) (works ps) n k) m l (n - tried (results ps)) (k - spent (results ps) (works ps)) (sym h ∙ walked ps n k) in
    record { result = e.0; left = e.1 }

at-pair : (r : Result Bool Code) (w : ℕ) (ps : List Pair) (n k : ℕ) → n ≢ 0 → w ≤ k → walk ((r, w) ∷ ps) n k ≡ then (told r (n - 1) (k - w)) (walk ps)
at-pair r w ps zero k z h = absurd (z refl)
at-pair r w ps (suc n) k z h = grind (arith, nat_tests)

at-none : (r : Result Bool Code) (w : ℕ) (ps : List Pair) (n k : ℕ) → (n ≡ 0) ⊎ (k < w) → walk ((r, w) ∷ ps) n k ≡ Err PXQ0002
at-none r w ps zero k h = refl
at-none r w ps (suc n) k h = grind (arith, nat_tests)

results-map : {X : Type 0} (f : X → Result Bool Code) (w : X → ℕ) (xs : List X) → results (map (λ x. (f x, w x)) xs) ≡ map f xs
results-map f w [] = refl
results-map f w (x ∷ xs) = ap (λ l. f x ∷ l) (results-map f w xs)

works-map : {X : Type 0} (f : X → Result Bool Code) (w : X → ℕ) (xs : List X) → works (map (λ x. (f x, w x)) xs) ≡ map w xs
works-map f w [] = refl
works-map f w (x ∷ xs) = ap (λ l. w x ∷ l) (works-map f w xs)

-- a loop over the values xs, each of which makes a pair, where i of them have passed and left n turns and the work k
module _ {X : Type 0} (f : X → Result Bool Code) (w : X → ℕ) (xs : List X) where
  abbrev pub walk-each : List X → (turns work : ℕ) → Walked
  walk-each ys = walk (map (λ x. (f x, w x)) ys)

  each-ended : (n k : ℕ) (r : Result Bool Code) (m l : ℕ) → walk-each xs n k ≡ told r m l → Ends (map f xs) (map w xs) n k r m l
  each-ended n k r m l h =
      let e = ended (map (λ x. (f x, w x)) xs) n k r m l h in
      subst (λ rs. Ends rs (map w xs) n k r m l) (results-map f w xs) (subst (λ ws. Ends (results (map (λ x. (f x, w x)) xs)) ws n k r m l) (works-map f w xs) e)

  module _ (i n k turns work : ℕ) (so-far : walk-each (drop i xs) n k ≡ walk-each xs turns work) where
    module _ (x : X) (h : i < length xs) (e : x ≡ get_or xs i x) where
      next : walk-each xs turns work ≡ walk ((f x, w x) ∷ map (λ y. (f y, w y)) (drop (i + 1) xs)) n k
      next = sym so-far ∙ at_drop_more (λ l. walk-each l n k) xs i x h ∙ ap (λ y. walk ((f y, w y) ∷ map (λ z. (f z, w z)) (drop (i + 1) xs)) n k) (sym e)

      pub no-more : (n ≡ 0) ⊎ (k < w x) → Ends (map f xs) (map w xs) turns work (Err PXQ0002) n k
      no-more z = each-ended turns work (Err PXQ0002) n k (next ∙ at-none (f x) (w x) (map (λ y. (f y, w y)) (drop (i + 1) xs)) n k z)

      module _ (r : Result Bool Code) (came : r ≡ f x) (v : ℕ) (is : v ≡ w x) (some : n ≢ 0) (enough : v ≤ k) where
        one : walk-each xs turns work ≡ then (told r (n - 1) (k - v)) (walk-each (drop (i + 1) xs))
        one =
            next ∙ ap (λ q. walk ((q, w x) ∷ map (λ y. (f y, w y)) (drop (i + 1) xs)) n k) (sym came)
            ∙ ap (λ u. walk ((r, u) ∷ map (λ y. (f y, w y)) (drop (i + 1) xs)) n k) (sym is)
            ∙ at-pair r v (map (λ y. (f y, w y)) (drop (i + 1) xs)) n k some enough

        pub one-true : r ≡ Ok true → Ends (map f xs) (map w xs) turns work (Ok true) (n - 1) (k - v)
        one-true p = each-ended turns work (Ok true) (n - 1) (k - v) (one ∙ ap (λ q. then (told q (n - 1) (k - v)) (walk-each (drop (i + 1) xs))) p)

        pub one-fault : (code : Code) → r ≡ Err code → Ends (map f xs) (map w xs) turns work (Err code) (n - 1) (k - v)
        one-fault code p = each-ended turns work (Err code) (n - 1) (k - v) (one ∙ ap (λ q. then (told q (n - 1) (k - v)) (walk-each (drop (i + 1) xs))) p)

        pub one-false : r ≡ Ok false → walk-each (drop (i + 1) xs) (n - 1) (k - v) ≡ walk-each xs turns work
        one-false p = sym (one ∙ ap (λ q. then (told q (n - 1) (k - v)) (walk-each (drop (i + 1) xs))) p)

    pub none-true : length xs ≤ i → Ends (map f xs) (map w xs) turns work (Ok false) n k
    none-true h = each-ended turns work (Ok false) n k (sym so-far ∙ at_drop_all (λ l. walk-each l n k) xs i h)

-- the pairs of one value, and then those of the values after it
then-then : (a : Walked) (f g : ℕ → ℕ → Walked) → then (then a f) g ≡ then a (λ n k. then (f n k) g)
then-then (Ok (true, n, k)) f g = refl
then-then (Ok (false, n, k)) f g = refl
then-then (Err code) f g = refl

append-more : (b : Bool) (a : Walked) (f g h : ℕ → ℕ → Walked) → f ≡ (λ n k. then (g n k) h) → cond b (then a f) (Err PXQ0002) ≡ then (cond b (then a g) (Err PXQ0002)) h
append-more true a f g h e = ap (then a) e ∙ sym (then-then a g h)
append-more false a f g h e = refl

walk-append : (ps qs : List Pair) (n k : ℕ) → walk (ps ++ qs) n k ≡ then (walk ps n k) (walk qs)
walk-append [] qs n k = refl
walk-append ((r, w) ∷ ps) qs zero k = refl
walk-append ((r, w) ∷ ps) qs (suc n) k = append-more (leb w k) (told r n (k - w)) (walk (ps ++ qs)) (walk ps) (walk qs) (λ j m l. walk-append ps qs m l j)

-- a loop over the values xs, each of which makes a pair with each of ys, where i of them have passed and left n turns and the work k
module _ {X Y : Type 0} (f : X → Y → Result Bool Code) (w : X → Y → ℕ) (ys : List Y) where
  abbrev pub row-of : X → List Pair
  row-of x = map (λ y. (f x y, w x y)) ys

  abbrev pub walk-rows : List X → (turns work : ℕ) → Walked
  walk-rows xs = walk (flat_map row-of xs)

  results-rows : (xs : List X) → results (flat_map row-of xs) ≡ flat_map (λ x. map (f x) ys) xs
  results-rows [] = refl
  results-rows (x ∷ xs) = map-append (λ p. p.0) (row-of x) (flat_map row-of xs) ∙ (λ j. results-map (f x) (w x) ys j ++ results-rows xs j)

  works-rows : (xs : List X) → works (flat_map row-of xs) ≡ flat_map (λ x. map (w x) ys) xs
  works-rows [] = refl
  works-rows (x ∷ xs) = map-append (λ p. p.1) (row-of x) (flat_map row-of xs) ∙ (λ j. works-map (f x) (w x) ys j ++ works-rows xs j)

  abbrev pub RowsEnd : List X → (turns work : ℕ) → Result Bool Code → (m l : ℕ) → Type 0
  RowsEnd xs = Ends (flat_map (λ x. map (f x) ys) xs) (flat_map (λ x. map (w x) ys) xs)

  rows-ended : (xs : List X) (n k : ℕ) (r : Result Bool Code) (m l : ℕ) → walk-rows xs n k ≡ told r m l → RowsEnd xs n k r m l
  rows-ended xs n k r m l h =
      let e = ended (flat_map row-of xs) n k r m l h in
      subst (λ rs. Ends rs (flat_map (λ x. map (w x) ys) xs) n k r m l) (results-rows xs) (subst (λ ws. Ends (results (flat_map row-of xs)) ws n k r m l) (works-rows xs) e)

  row-told : (x : X) (n k : ℕ) (r : Result Bool Code) (m l : ℕ) → Ends (map (f x) ys) (map (w x) ys) n k r m l → walk (row-of x) n k ≡ told r m l
  row-told x n k r m l e =
      walked (row-of x) n k ∙ (λ j. told (limited (results-map (f x) (w x) ys j) (works-map (f x) (w x) ys j) n k) (n - tried (results-map (f x) (w x) ys j)) (k - spent (results-map (f x) (w x) ys j) (works-map (f x) (w x) ys j)))
      ∙ same-told r (limited (map (f x) ys) (map (w x) ys) n k) m l (n - tried (map (f x) ys)) (k - spent (map (f x) ys) (map (w x) ys)) e.result e.left

  module _ (xs : List X) (i n k turns work : ℕ) (so-far : walk-rows (drop i xs) n k ≡ walk-rows xs turns work) where
    module _ (x : X) (h : i < length xs) (e : x ≡ get_or xs i x) (r : Result Bool Code) (m l : ℕ) (came : Ends (map (f x) ys) (map (w x) ys) n k r m l) where
      row : walk-rows xs turns work ≡ then (told r m l) (walk-rows (drop (i + 1) xs))
      row =
          sym so-far ∙ at_drop_more (λ zs. walk-rows zs n k) xs i x h ∙ ap (λ y. walk (row-of y ++ flat_map row-of (drop (i + 1) xs)) n k) (sym e)
          ∙ walk-append (row-of x) (flat_map row-of (drop (i + 1) xs)) n k ∙ ap (λ p. then p (walk-rows (drop (i + 1) xs))) (row-told x n k r m l came)

      pub row-true : r ≡ Ok true → RowsEnd xs turns work (Ok true) m l
      row-true p = rows-ended xs turns work (Ok true) m l (row ∙ ap (λ q. then (told q m l) (walk-rows (drop (i + 1) xs))) p)

      pub row-fault : (code : Code) → r ≡ Err code → RowsEnd xs turns work (Err code) m l
      row-fault code p = rows-ended xs turns work (Err code) m l (row ∙ ap (λ q. then (told q m l) (walk-rows (drop (i + 1) xs))) p)

      pub row-false : r ≡ Ok false → walk-rows (drop (i + 1) xs) m l ≡ walk-rows xs turns work
      row-false p = sym (row ∙ ap (λ q. then (told q m l) (walk-rows (drop (i + 1) xs))) p)

    pub no-row : length xs ≤ i → RowsEnd xs turns work (Ok false) n k
    no-row h = rows-ended xs turns work (Ok false) n k (sym so-far ∙ at_drop_all (λ zs. walk-rows zs n k) xs i h)
