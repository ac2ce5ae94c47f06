-- Lists of positions.
use Rattle.std.proofs.Common.{◌≡◌, ℕ, zero, suc, ◌+◌, ◌≤◌, ◌<◌, Bool, true, false, ◌||◌, cond, arith, refl, ap, ◌∙◌, subst, List, [], ◌∷◌, length, drop, replicate, Option, Some, None, is_some, get_or, eqb}
use Rattle.std.proofs.Math.Seq.{drop-cons}
use Rattle.std.proofs.lemmas.Bool.{ne_eqb}
use Rattle.std.specs.Option.{unwrap_or}
use Rattle.ballots.specs.Values.{positions, IsRising}
use Rattle.paxos.specs.Lists.{at}
use Rattle.position_map.specs.Slots.{value_at}
use Rattle.proposer.specs.Beginning.{is_in}

-- positions that rise from somewhere rise from below
pub rising_below : (k n : ℕ) (ps : List ℕ) → k ≤ n → IsRising n ps → IsRising k ps
rising_below k n [] l h = tt
rising_below k n (p ∷ ps) l h = (omega (arith, l, h.0), h.1, h.2)

-- a list from one of its places on
pub from_place : (i : ℕ) (ps : List ℕ) → i < length ps → drop i ps ≡ get_or ps i 0 ∷ drop (i + 1) ps
from_place i ps l = let n : suc i ≡ i + 1 = omega arith in drop-cons ps i 0 l ∙ ap (λ k. get_or ps i 0 ∷ drop k ps) n

-- what is left of rising positions once one is taken
pub rising_rest : (k i : ℕ) (ps : List ℕ) → i < length ps → IsRising k (drop i ps) → IsRising k (drop (i + 1) ps)
rising_rest k i ps l h =
    let t : IsRising k (get_or ps i 0 ∷ drop (i + 1) ps) = subst (IsRising k) (from_place i ps l) h in
    rising_below k (get_or ps i 0 + 1) (drop (i + 1) ps) (omega (arith, t.0)) t.2

-- one position more is known, and one is left to know
pub known_more : (i q : ℕ) (ps : List ℕ) (old new : List (ℕ × Unit {0})) → i < length ps → value_at q new ≡ cond (eqb q (get_or ps i 0)) (Some tt) (value_at q old)
    → (is_some (value_at q new) || is_in q (drop (i + 1) ps)) ≡ (is_some (value_at q old) || is_in q (drop i ps))
known_more i q ps old new l h = rw (h, from_place i ps l) (by_test (eqb q (get_or ps i 0)) (value_at q old) (is_in q (drop (i + 1) ps)))
  where
    by_test : (b : Bool) (o : Option (Unit {0})) (r : Bool) → (is_some (cond b (Some tt) o) || r) ≡ (is_some o || (b || r))
    by_test true (Some x) r = refl
    by_test true None r = refl
    by_test false o r = refl

-- positions that rise aren't past the last
pub none_past : (k q : ℕ) (ps : List ℕ) → IsRising k ps → positions < q → is_in q ps ≡ false
none_past k q [] h l = refl
none_past k q (p ∷ ps) h l = rw (ne_eqb q p (λ e. omega (arith, e, h.1, l))) (none_past (p + 1) q ps h.2 l)

-- where no value is found there is none
pub absent : {A : Type 0} (o : Option A) → is_some o ≡ false → o ≡ None
absent None e = refl
absent (Some x) e = let f : ⊥ = cc in absurd f

-- two values that are one option
pub some_one : {A : Type 0} {a b : A} → Some a ≡ Some b → a ≡ b
some_one e = cc

-- each element of equal ones is that one
pub same_each : (n m c : ℕ) → unwrap_or (at (replicate n c) m) c ≡ c
same_each n zero c = refl
same_each zero (suc m) c = refl
same_each (suc n) (suc zero) c = refl
same_each (suc n) (suc (suc m)) c = same_each n (suc m) c
