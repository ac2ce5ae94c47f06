-- What is seen of a member that runs in a world is chosen.
use Rattle.std.proofs.Common.{◌≡◌, ℕ, zero, suc, ◌≤◌, ◌<◌, arith, refl, sym, ap, subst, ◌∙◌, inl, inr, ⊎_elim, ◌⊎◌, List, [], ◌∷◌, ◌++◌, length, length-append, Option, Some}
use Rattle.std.specs.Prelude.{option_to_list}
use Rattle.std.proofs.lemmas.Option.{none-some}
use Rattle.ballots.specs.declared.value.Value.{Value}
use Rattle.paxos.specs.Agreement.{Agreement, IsRunning}
use Rattle.paxos.specs.Knowledge.{Heard, learnt as learnt_at, news, values_to}
use Rattle.paxos.specs.Lists.{at, Has}
use Rattle.paxos.specs.Step.{Running, values_of}
use Rattle.paxos.specs.World.{World}
use Rattle.published.proofs.Histories.{seen_published}
use Rattle.published.specs.Histories.{Happened}
use Rattle.published.specs.Stores.{Store, handed_on}
use Rattle.readers.specs.Chosen.{AreChosen}
use Rattle.sight.proofs.Beginnings.{begins_through}
use Rattle.sight.specs.Sights.{IsSight}

some_one : {A : Type 0} {a b : A} → Some a ≡ Some b → a ≡ b
some_one q = cc

-- the elements of a list with one more
at_cases : {A : Type 0} (xs : List A) (x y : A) (p : ℕ) → at (xs ++ x ∷ []) p ≡ Some y → (at xs p ≡ Some y) ⊎ (p ≡ suc (length xs)) × (x ≡ y)
at_cases xs x y zero h = inl h
at_cases [] x y (suc zero) h = inr (refl, some_one h)
at_cases [] x y (suc (suc i)) h = absurd (none-some y h)
at_cases (z ∷ xs) x y (suc zero) h = inl h
at_cases (z ∷ xs) x y (suc (suc i)) h = ⊎_elim (λ (o : at xs (suc i) ≡ Some y). inl o) (λ (p : (suc i ≡ suc (length xs)) × (x ≡ y)). inr (ap suc p.0, p.1)) (at_cases xs x y (suc i) h)

-- the elements of a beginning
at_more : {A : Type 0} (xs more : List A) (p : ℕ) (y : A) → at xs p ≡ Some y → at (xs ++ more) p ≡ Some y
at_more [] more zero y h = absurd (none-some y h)
at_more [] more (suc p) y h = absurd (none-some y h)
at_more (x ∷ xs) more zero y h = absurd (none-some y h)
at_more (x ∷ xs) more (suc zero) y h = h
at_more (x ∷ xs) more (suc (suc i)) y h = at_more xs more (suc i) y h

module _ (n : ℕ) (heard : List Heard) (a : ℕ) (each : (p : ℕ) → 0 < p → p ≤ a → (value : Value) × (learnt_at n p heard ≡ Some value)) where
  -- so many values are learnt there
  count : (k : ℕ) → k ≤ a → length (values_to n heard k) ≡ k
  count zero le = refl
  count (suc k) le =
      let x = each (suc k) (omega arith) le in
      let e : length (values_to n heard k) ≡ k = count k (omega (arith, le)) in
      let one : length (values_to n heard k ++ x.0 ∷ []) ≡ suc k = omega (arith, e, length-append (values_to n heard k) (x.0 ∷ [])) in
      ap (λ (o : Option Value). length (values_to n heard k ++ option_to_list o)) x.1 ∙ one

  -- a value among them is learnt at its position
  there : (k : ℕ) → k ≤ a → (p : ℕ) (v : Value) → at (values_to n heard k) p ≡ Some v → learnt_at n p heard ≡ Some v
  there zero le zero v h = absurd (none-some v h)
  there zero le (suc p) v h = absurd (none-some v h)
  there (suc k) le p v h =
      let x = each (suc k) (omega arith) le in
      ⊎_elim (λ (o : at (values_to n heard k) p ≡ Some v). there k (omega (arith, le)) p v o)
      (λ (e : (p ≡ suc (length (values_to n heard k))) × (x.0 ≡ v)). subst (λ (j : ℕ). learnt_at n j heard ≡ Some v) (sym (e.0 ∙ ap suc (count k (omega (arith, le))))) (x.1 ∙ ap Some e.1))
      (at_cases (values_to n heard k) x.0 v p (subst (λ (o : Option Value). at (values_to n heard k ++ option_to_list o) p ≡ Some v) x.1 h))

-- a beginning of what a running member has applied is chosen
applied_chosen : (w : World) → Agreement w → (member : ℕ) (u : Running) → IsRunning w member u → (values : List Value) → IsSight values (values_of (length w.members) u) → AreChosen w values
applied_chosen w agreed member u running values begins p v h =
    let applied : at (values_of (length w.members) u) p ≡ Some v = subst (λ (ys : List Value). at ys p ≡ Some v) begins.1 (at_more values begins.0 p v h) in
    agreed.told member p v (agreed.learnt member p u v running (there (length w.members) (news u.heard) u.applied (λ p low high. agreed.applied member p u running low high) u.applied (omega arith) p v applied))

pub seen_chosen : (w : World) → Agreement w → (member : ℕ) (u : Running) → IsRunning w member u → (store : Store) (seen : List (List Value)) → Happened store seen → IsSight (handed_on store) (values_of (length w.members) u)
    → (sight : List Value) → Has seen sight → AreChosen w sight
seen_chosen w agreed member u running store seen happened on sight has =
    let shown = begins_through sight store.published (handed_on store) (seen_published happened sight has) (store.pending, refl) in
    applied_chosen w agreed member u running sight (begins_through sight (handed_on store) (values_of (length w.members) u) shown on)
