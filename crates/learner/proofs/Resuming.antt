-- Values that stand at the positions from 1 on, as a start finds them.
use Rattle.std.proofs.Common.{◌≡◌, ℕ, zero, suc, ◌+◌, ◌<◌, ◌≤◌, true, false, cond, arith, refl, sym, ap, subst, ◌∙◌, ◌⊎◌, inl, inr, ⊎_elim, Option, Some, None, IsSome, List, [], ◌∷◌, ◌++◌, length, take, get_or, eqb}
use Rattle.std.proofs.lemmas.List.{length-take-le, take_all}
use Rattle.std.proofs.lemmas.Bool.{eq-eqb, ne_eqb, cases_eq, false≢true}
use Rattle.ballots.specs.declared.value.Value.{Value}
use Rattle.ballots.specs.declared.value.Vote.{Vote}
use Rattle.ballots.specs.declared.value.Pair.{Pair}
use Rattle.ballots.specs.Values.{positions}
use Rattle.paxos.specs.Knowledge.{accepted_by, kept_news, learnt as learnt_at, numbered, value_at}
use Rattle.position_map.specs.Slots.{value_at as value_in, filled}
use Rattle.learner.specs.Hearing.{HasHeard}
use Rattle.learner.specs.Slots.{AreWithin, pairs_of}
use Rattle.learner.proofs.Learning.{value_pairs}

-- one value more stands behind the others
numbered_more : (p q : ℕ) (vs : List Value) (v : Value) → value_at q (numbered p (vs ++ v ∷ [])) ≡ cond (eqb q (p + length vs)) (Some v) (value_at q (numbered p vs))
numbered_more p q [] v = ap (λ k. cond (eqb q k) (Some v) None) (omega arith)
numbered_more p q (w ∷ vs) v = by_test (cases_eq q p) (numbered_more (suc p) q vs v)
  where
    by_test : (q ≡ p) ⊎ (q ≡ p → ⊥) → value_at q (numbered (suc p) (vs ++ v ∷ [])) ≡ cond (eqb q (suc p + length vs)) (Some v) (value_at q (numbered (suc p) vs))
        → cond (eqb q p) (Some w) (value_at q (numbered (suc p) (vs ++ v ∷ []))) ≡ cond (eqb q (p + suc (length vs))) (Some v) (cond (eqb q p) (Some w) (value_at q (numbered (suc p) vs)))
    by_test (inl e) rest = rw (eq-eqb q p e, ne_eqb q (p + suc (length vs)) (λ d. omega arith)) refl
    by_test (inr n) rest = rw (ne_eqb q p n) (rest ∙ ap (λ k. cond (eqb q k) (Some v) (value_at q (numbered (suc p) vs))) (omega arith))

-- they stand at no other positions
numbered_within : (p q : ℕ) (vs : List Value) → IsSome (value_at q (numbered p vs)) → (p ≤ q) × (q < p + length vs)
numbered_within p q [] h = absurd (false≢true h)
numbered_within p q (v ∷ vs) h = by_test (cases_eq q p) h (λ g. numbered_within (suc p) q vs g)
  where
    by_test : (q ≡ p) ⊎ (q ≡ p → ⊥) → IsSome (cond (eqb q p) (Some v) (value_at q (numbered (suc p) vs))) → (IsSome (value_at q (numbered (suc p) vs)) → (suc p ≤ q) × (q < suc p + length vs)) → (p ≤ q) × (q < p + suc (length vs))
    by_test (inl e) g rest = (omega arith, omega arith)
    by_test (inr n) g rest = let r = rest (subst (λ b. IsSome (cond b (Some v) (value_at q (numbered (suc p) vs)))) (ne_eqb q p n) g) in let a = r.0 in let b = r.1 in (omega arith, omega arith)

-- the values taken so far, and the next one
taken : (i : ℕ) (vs : List Value) (v : Value) → i < length vs → v ≡ get_or vs i v → take (suc i) vs ≡ take i vs ++ v ∷ []
taken i [] v l e = absurd (omega arith)
taken zero (w ∷ vs) v l e = ap (λ x. x ∷ []) (sym e)
taken (suc i) (w ∷ vs) v l e = ap (λ xs. w ∷ xs) (taken i vs v (omega arith) e)

-- one more value is placed
pub placed_more : (q i : ℕ) (vs : List Value) (v : Value) (o p : Option Value) → i < length vs → v ≡ get_or vs i v → o ≡ value_at q (numbered 1 (take i vs)) → p ≡ cond (eqb q (i + 1)) (Some v) o → p ≡ value_at q (numbered 1 (take (i + 1) vs))
placed_more q i vs v o p l e h k =
    k ∙ ap (λ x. cond (eqb q (i + 1)) (Some v) x) h ∙ ap (λ x. cond (eqb q x) (Some v) (value_at q (numbered 1 (take i vs)))) place
    ∙ sym (numbered_more 1 q (take i vs) v) ∙ ap (λ xs. value_at q (numbered 1 xs)) (sym (taken i vs v l e)) ∙ ap (λ x. value_at q (numbered 1 (take x vs))) one
  where
    place : i + 1 ≡ 1 + length (take i vs)
    place = let n = length-take-le i vs (omega (arith, l)) in omega (arith, n)

    one : suc i ≡ i + 1
    one = omega arith

-- all are placed in the end
pub placed_all : (q i : ℕ) (vs : List Value) (es : List (ℕ × Value)) → length vs ≤ i → value_in q es ≡ value_at q (numbered 1 (take i vs)) → value_at q (pairs_of es) ≡ value_at q (numbered 1 vs)
placed_all q i vs es past h = value_pairs q es ∙ h ∙ ap (λ xs. value_at q (numbered 1 xs)) (take_all i vs past)

-- they stand at positions that there may be
pub placed_within : (slots : List (ℕ × Option Value)) (vs : List Value) → ((q : ℕ) → value_in q (filled slots) ≡ value_at q (numbered 1 vs)) → length vs ≤ positions → AreWithin slots
placed_within slots vs h l q s = let r = numbered_within 1 q vs (subst IsSome (h q) s) in let a = r.0 in let b = r.1 in (a, omega (arith, l, b))

-- what is kept is learnt
kept_at : (n p : ℕ) (pairs : List Pair) → learnt_at n p (kept_news pairs) ≡ value_at p pairs
kept_at n p [] = refl
kept_at n p (e ∷ es) = refl

-- and no acceptance was heard
kept_none : (p : ℕ) (vote : Vote) (m : ℕ) (pairs : List Pair) → accepted_by p vote (kept_news pairs) m ≡ false
kept_none p vote m [] = refl
kept_none p vote m (e ∷ es) = refl

-- a learner with just these values has heard them as chosen
pub resumed_heard : (n : ℕ) (slots : List (ℕ × Option Value)) (vs : List Value) → ((q : ℕ) → value_at q (pairs_of (filled slots)) ≡ value_at q (numbered 1 vs)) → HasHeard (kept_news (numbered 1 vs)) (record { members = n; slots = slots; tallies = [] })
resumed_heard n slots vs h = record {
  learnt = λ p. h p ∙ sym (kept_at n p (numbered 1 vs));
  tallied = λ p vote m low high none. sym (kept_none p vote m (numbered 1 vs));
  unlearnt = λ t o. absurd o;
  distinct = tt;
}
