-- What is gathered of what a learner has learnt.
use Rattle.std.proofs.Common.{◌≡◌, ℕ, zero, suc, ◌+◌, ◌-◌, ◌<◌, ◌≤◌, Bool, true, false, ◌||◌, arith, refl, sym, ap, ap₂, ◌∙◌, ◌⊎◌, inl, inr, List, [], ◌∷◌, ◌++◌, map, take, Some, None, is_some, option_to_list, eqb}
use Rattle.std.proofs.lemmas.Bool.{cases_eq, cases_lt, eq-eqb, ne_eqb}
use Rattle.ballots.specs.Values.{IsPosition, positions, IsRising}
use Rattle.ballots.specs.declared.value.Pair.{Pair}
use Rattle.ballots.specs.declared.value.Value.{Value}
use Rattle.learner.specs.Hearing.{IsLowest}
use Rattle.paxos.specs.Knowledge.{Heard, learnt as learnt_at, learnt_from, pair_of, value_at}
use Rattle.proposer.specs.Beginning.{is_in}
use Rattle.member.specs.Learnt.{IsFirst, pairs_from, pairs_in}

-- where nothing is learnt at d positions, they are passed
none_in : (learnt : List Pair) (d k p : ℕ) → ((q : ℕ) → p ≤ q → q < p + d → value_at q learnt ≡ None) → pairs_in learnt p (d + k) ≡ pairs_in learnt (p + d) k
none_in learnt zero k p h =
    let e : p + 0 ≡ p = omega arith in
    let z : 0 + k ≡ k = omega arith in
    ap (pairs_in learnt p) z ∙ sym (ap (λ q. pairs_in learnt q k) e)
none_in learnt (suc d) k p h =
    let e : suc p + d ≡ p + suc d = omega arith in
    let z : suc d + k ≡ suc (d + k) = omega arith in
    ap (pairs_in learnt p) z
    ∙ ap (λ o. map (pair_of p) (option_to_list o) ++ pairs_in learnt (suc p) (d + k)) (h p (omega arith) (omega arith))
    ∙ none_in learnt d k (suc p) (λ q l m. h q (omega (arith, l)) (omega (arith, m))) ∙ ap (λ q. pairs_in learnt q k) e

-- the first pair stands at the lowest position
first_pair : (learnt : List Pair) (p x : ℕ) (v : Value) → IsLowest p x learnt → x ≤ positions → value_at x learnt ≡ Some v → pairs_from learnt p ≡ pair_of x v ∷ pairs_from learnt (suc x)
first_pair learnt p x v h most is =
    let low = h.least in
    let all : suc positions - p ≡ (x - p) + suc (positions - x) = omega (arith, low, most) in
    let up : p + (x - p) ≡ x = omega (arith, low) in
    let rest : positions - x ≡ suc positions - suc x = omega arith in
    ap (pairs_in learnt p) all ∙ none_in learnt (x - p) (suc (positions - x)) p (λ q l m. h.none_before q l (omega (arith, m, low)))
    ∙ ap (λ q. pairs_in learnt q (suc (positions - x))) up
    ∙ ap (λ o. map (pair_of x) (option_to_list o) ++ pairs_in learnt (suc x) (positions - x)) is
    ∙ ap (λ k. pair_of x v ∷ pairs_in learnt (suc x) k) rest

-- no pair is left where nothing is learnt
pub first_none : (learnt : List Pair) (p : ℕ) → ((q : ℕ) → p ≤ q → value_at q learnt ≡ None) → IsFirst learnt p None
first_none learnt p h = none (suc positions - p) p h
  where
    none : (k p : ℕ) → ((q : ℕ) → p ≤ q → value_at q learnt ≡ None) → pairs_in learnt p k ≡ []
    none zero p h = refl
    none (suc k) p h = ap (λ o. map (pair_of p) (option_to_list o) ++ pairs_in learnt (suc p) k) (h p (omega arith)) ∙ none k (suc p) (λ q l. h q (omega (arith, l)))

-- the lowest position's pair is the first
pub first_some : (learnt : List Pair) (p x : ℕ) (v : Value) → IsLowest p x learnt → IsPosition x → Some v ≡ value_at x learnt → IsFirst learnt p (Some (pair_of x v))
first_some learnt p x v h within is = (h.least, within.1, first_pair learnt p x v h within.1 (sym is))

-- the lowest position has a value
pub lowest_there : (learnt : List Pair) (p x : ℕ) (A : Type 0) → IsLowest p x learnt → None ≡ value_at x learnt → A
lowest_there learnt p x A h none = let e = ap is_some none ∙ h.there in let f : ⊥ = cc in absurd f

-- one pair more of at most some
pub take_more : (j : ℕ) (all done : List Pair) (learnt : List Pair) (p : ℕ) (e : Pair) → pairs_from learnt p ≡ e ∷ pairs_from learnt (suc e.position) → all ≡ done ++ take (suc j) (pairs_from learnt p)
    → all ≡ (done ++ e ∷ []) ++ take j (pairs_from learnt (suc e.position))
take_more j all done learnt p e first h = h ∙ ap (λ es. done ++ take (suc j) es) first ∙ assoc done (take j (pairs_from learnt (suc e.position)))
  where
    assoc : (xs ys : List Pair) → xs ++ e ∷ ys ≡ (xs ++ e ∷ []) ++ ys
    assoc [] ys = refl
    assoc (x ∷ xs) ys = ap (λ zs. x ∷ zs) (assoc xs ys)

-- what is learnt at single positions is what was heard
pub pairs_heard : (n : ℕ) (heard : List Heard) (learnt : List Pair) → ((q : ℕ) → value_at q learnt ≡ learnt_at n q heard) → (p k : ℕ) → pairs_in learnt p k ≡ learnt_from n heard p k
pairs_heard n heard learnt h p zero = refl
pairs_heard n heard learnt h p (suc k) = ap₂ (λ o es. map (pair_of p) (option_to_list o) ++ es) (h p) (pairs_heard n heard learnt h (suc p) k)

-- Positions were gathered from one on, up to the next.
pub record AreGathered (learnt : List Pair) (from next : ℕ) (ps : List ℕ) : Type 0 where
  pub least : from ≤ next
  pub most : next ≤ suc positions
  pub rising : IsRising from ps
  pub before : (q : ℕ) → from ≤ q → q < next → is_in q ps ≡ is_some (value_at q learnt)
  pub after : (q : ℕ) → next ≤ q → is_in q ps ≡ false

-- one more
more_rising : (from x : ℕ) (ps : List ℕ) → from ≤ x → x ≤ positions → IsRising from ps → ((q : ℕ) → x ≤ q → is_in q ps ≡ false) → IsRising from (ps ++ x ∷ [])
more_rising from x [] low most h none = (low, most, tt)
more_rising from x (p ∷ ps) low most h none = (h.0, h.1, more_rising (p + 1) x ps (by_place (cases_eq p x)) most h.2 (λ q l. neither (eqb q p) (is_in q ps) (none q l)))
  where
    neither : (a b : Bool) → (a || b) ≡ false → b ≡ false
    neither true b e = let f : ⊥ = cc in absurd f
    neither false b e = e

    first_not : (a b : Bool) → (a || b) ≡ false → a ≡ true → ⊥
    first_not true b e g = cc
    first_not false b e g = cc

    by_place : (p ≡ x) ⊎ (p ≡ x → ⊥) → p + 1 ≤ x
    by_place (inl e) = absurd (first_not (eqb p p) (is_in p ps) (none p (omega (arith, e))) (eq-eqb p p refl))
    by_place (inr n) = by_order (cases_lt p x)
      where
        by_order : (p < x) ⊎ (x ≤ p) → p + 1 ≤ x
        by_order (inl l) = omega (arith, l)
        by_order (inr l) = absurd (first_not (eqb p p) (is_in p ps) (none p l) (eq-eqb p p refl))

more_in : (q x : ℕ) (ps : List ℕ) → is_in q (ps ++ x ∷ []) ≡ (is_in q ps || eqb q x)
more_in q x [] = or_false (eqb q x)
  where
    or_false : (b : Bool) → (b || false) ≡ b
    or_false true = refl
    or_false false = refl
more_in q x (p ∷ ps) = ap (λ b. eqb q p || b) (more_in q x ps) ∙ sym_assoc (eqb q p) (is_in q ps) (eqb q x)
  where
    sym_assoc : (a b c : Bool) → (a || (b || c)) ≡ ((a || b) || c)
    sym_assoc true b c = refl
    sym_assoc false b c = refl

pub gathered_more : (learnt : List Pair) (from next x : ℕ) (ps : List ℕ) → AreGathered learnt from next ps → IsLowest next x learnt → x ≤ positions → AreGathered learnt from (x + 1) (ps ++ x ∷ [])
gathered_more learnt from next x ps g h most =
    let low = h.least in
    let least = g.least in
    record {
      least = omega (arith, low, least);
      most = omega (arith, most);
      rising = more_rising from x ps (omega (arith, low, least)) most g.rising (λ q l. g.after q (omega (arith, low, l)));
      before = λ q a b. more_in q x ps ∙ by_place q a b (cases_eq q x) (cases_lt q next);
      after = λ q a. more_in q x ps ∙ ap₂ (λ c d. c || d) (g.after q (omega (arith, a, low))) (ne_eqb q x (λ e. omega (arith, a, e)));
    }
  where
    or_false : (b : Bool) → (b || false) ≡ b
    or_false true = refl
    or_false false = refl

    by_place : (q : ℕ) → from ≤ q → q < x + 1 → (q ≡ x) ⊎ (q ≡ x → ⊥) → (q < next) ⊎ (next ≤ q) → (is_in q ps || eqb q x) ≡ is_some (value_at q learnt)
    by_place q a b (inl e) o = rw (g.after q (let l = h.least in omega (arith, e, l)), eq-eqb q x e) (sym (ap (λ y. is_some (value_at y learnt)) e ∙ h.there))
    by_place q a b (inr n) (inl l) = ap₂ (λ c d. c || d) (g.before q a l) (ne_eqb q x n) ∙ or_false (is_some (value_at q learnt))
    by_place q a b (inr n) (inr l) = ap₂ (λ c d. c || d) (g.after q l) (ne_eqb q x n) ∙ sym (ap is_some (h.none_before q l (by_order (cases_lt q x))))
      where
        by_order : (q < x) ⊎ (x ≤ q) → q < x
        by_order (inl m) = m
        by_order (inr m) = absurd (n (omega (arith, b, m)))

-- where nothing more is learnt, all is gathered
pub all_gathered : (learnt : List Pair) (from next : ℕ) (ps : List ℕ) → AreGathered learnt from next ps → ((q : ℕ) → next ≤ q → value_at q learnt ≡ None) → (q : ℕ) → from ≤ q → is_in q ps ≡ is_some (value_at q learnt)
all_gathered learnt from next ps g none q a = by_place (cases_lt q next)
  where
    by_place : (q < next) ⊎ (next ≤ q) → is_in q ps ≡ is_some (value_at q learnt)
    by_place (inl l) = g.before q a l
    by_place (inr l) = g.after q l ∙ sym (ap is_some (none q l))
