-- How far an application has come, step by step.
use Rattle.std.proofs.Common.{◌≡◌, ℕ, zero, suc, ◌+◌, ◌<◌, ◌≤◌, arith, refl, sym, ap, subst, ◌∙◌, List, length, Option, Some, None, ⊎_elim, inl, inr, ◌⊎◌}
use Rattle.std.proofs.lemmas.Option.{none-some}
use Rattle.std.proofs.lemmas.List.{length-append}
use Rattle.std.specs.Prelude.{option_to_list}
use Rattle.ballots.specs.Values.{positions}
use Rattle.ballots.specs.declared.value.Value.{Value}
use Rattle.member.specs.Steps.{IsThis, Member}
use Rattle.paxos.proofs.Learnt.{prefix_ends}
use Rattle.paxos.proofs.News.{prefix_learnt, prefix_limit}
use Rattle.paxos.specs.Knowledge.{Heard, learnt as learnt_at, prefix, values_to}
use Rattle.paxos.specs.Step.{Running}
use Rattle.node.specs.Applying.{IsAt}

-- one value at each position that is learnt without a gap
pub values_count : (n : ℕ) (heard : List Heard) (k : ℕ) → k ≤ prefix n heard → length (values_to n heard k) ≡ k
values_count n heard zero h = refl
values_count n heard (suc k) h =
    let v = prefix_learnt n heard (suc k) (omega arith) h in
    let e : length (values_to n heard k) ≡ k = values_count n heard k (omega arith) in
    length-append (values_to n heard k) (option_to_list (learnt_at n (suc k) heard)) ∙ ap (λ (o : Option Value). length (values_to n heard k) + length (option_to_list o)) v.1 ∙ rw e (one k)
  where
    one : (j : ℕ) → j + 1 ≡ suc j
    one j = omega arith

-- where no position is left, all is applied
pub all_done : (n : ℕ) (heard : List Heard) (k : ℕ) → k ≤ prefix n heard → positions ≤ k → k ≡ prefix n heard
all_done n heard k most least = let l = prefix_limit n heard in omega (arith, most, least, l)

-- nor where none is learnt at the next
pub none_next : (n : ℕ) (heard : List Heard) (k : ℕ) → k ≤ prefix n heard → learnt_at n (suc k) heard ≡ None → k ≡ prefix n heard
none_next n heard k most none = ⊎_elim (λ (e : k ≡ prefix n heard). e) (λ (l : k < prefix n heard). let v = prefix_learnt n heard (suc k) (omega arith) l in absurd (none-some v.0 (sym none ∙ v.1))) (split k (prefix n heard) most)
  where
    split : (a b : ℕ) → a ≤ b → (a ≡ b) ⊎ (a < b)
    split zero zero h = inl refl
    split zero (suc b) h = inr (omega arith)
    split (suc a) zero h = absurd (omega (arith, h))
    split (suc a) (suc b) h = ⊎_elim (λ (e : a ≡ b). inl (ap suc e)) (λ (l : a < b). inr (omega (arith, l))) (split a b (omega (arith, h)))

-- one that is learnt at the next position lengthens what is learnt without a gap
pub some_next : (n : ℕ) (heard : List Heard) (k : ℕ) (v : Value) → k ≤ prefix n heard → k < positions → learnt_at n (suc k) heard ≡ Some v → suc k ≤ prefix n heard
some_next n heard k v most room some = ⊎_elim (λ (h : suc k ≤ prefix n heard). h) (λ (h : prefix n heard < suc k).
    let e : k ≡ prefix n heard = omega (arith, most, h) in
    let ends = prefix_ends n heard (subst (λ j. j < positions) e room) in
    absurd (none-some v (sym (subst (λ j. learnt_at n (suc j) heard ≡ None) (sym e) ends) ∙ some))) (split (suc k) (prefix n heard))
  where
    split : (a b : ℕ) → (a ≤ b) ⊎ (b < a)
    split zero b = inl (omega arith)
    split (suc a) zero = inr (omega arith)
    split (suc a) (suc b) = ⊎_elim (λ (h : a ≤ b). inl (omega (arith, h))) (λ (h : b < a). inr (omega (arith, h))) (split a b)

-- From wherever it was it has gone on, at least so far.
abbrev pub IsGoing : {R A : Type 0} → (has_applied : List (List ℕ) → List Value → A → Type 0) → Member R → (old new : A) → (least : ℕ) → Type 0
IsGoing has_applied x old new i = (names : List (List ℕ)) (u : Running) (k : ℕ) → IsThis u x → IsAt has_applied names x.members u k old
    → (j : ℕ) × (k ≤ j) × (i ≤ j) × IsAt has_applied names x.members u j new

-- all positions in numbers
pub all_positions : (k : ℕ) → 1000000 ≤ k → positions ≤ k
unfolding positions
all_positions k h = h

pub position_left : (k : ℕ) → k < 1000000 → k < positions
unfolding positions
position_left k h = h
