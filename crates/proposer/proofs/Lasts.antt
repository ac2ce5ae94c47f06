-- The last of entries and of positions that rise.
use Rattle.std.proofs.Common.{◌≡◌, ℕ, zero, suc, ◌+◌, ◌-◌, ◌≤◌, ◌<◌, Bool, true, false, ◌||◌, arith, refl, List, [], ◌∷◌, length, Some, None, IsSome, eqb}
use Rattle.std.specs.Prelude.{slice_get}
use Rattle.std.proofs.lemmas.Bool.{eq-eqb, ne_eqb}
use Rattle.ballots.specs.Values.{positions, IsRising}
use Rattle.ballots.specs.declared.value.Entry.{Entry}
use Rattle.paxos.specs.Records.{vote_at}
use Rattle.proposer.specs.Beginning.{is_in}
use Rattle.proposer.specs.Views.{AreRising}
use Rattle.proposer.proofs.Positions.{some_one}

-- what is known of the last entry
pub record IsLastEntry (k : ℕ) (es : List Entry) (e : Entry) : Type 0 where
  pub least : k ≤ e.position
  pub most : e.position ≤ positions
  pub above : (p : ℕ) → e.position < p → vote_at p es ≡ None
  pub there : IsSome (vote_at e.position es)

-- of a list of one
one_entry : (k : ℕ) (x : Entry) → AreRising k (x ∷ []) → IsLastEntry k (x ∷ []) x
one_entry k x h = record {
  least = h.0;
  most = h.1;
  above = λ p l. rw (ne_eqb p x.position (λ e. omega (arith, e, l))) refl;
  there = rw (eq-eqb x.position x.position refl) refl;
}

pub last_entry_is : (k : ℕ) (es : List Entry) (e : Entry) (i : ℕ) → AreRising k es → i + 1 ≡ length es → Some e ≡ slice_get es i → IsLastEntry k es e
last_entry_is k [] e i h n g = absurd (let q : ⊥ = omega (arith, n) in q)
last_entry_is k (x ∷ []) e zero h n g = let same : e ≡ x = some_one g in rw same (one_entry k x h)
last_entry_is k (x ∷ []) e (suc i) h n g = absurd (let q : ⊥ = omega (arith, n) in q)
last_entry_is k (x ∷ y ∷ ys) e zero h n g = absurd (let q : ⊥ = omega (arith, n) in q)
last_entry_is k (x ∷ y ∷ ys) e (suc i) h n g =
    let rest = last_entry_is (x.position + 1) (y ∷ ys) e i h.2 (omega (arith, n)) g in
    record {
      least = omega (arith, h.0, rest.least);
      most = rest.most;
      above = λ p l. rw (ne_eqb p x.position (λ q. omega (arith, q, l, rest.least))) (rest.above p l);
      there = rw (ne_eqb e.position x.position (λ q. omega (arith, q, rest.least))) rest.there;
    }

-- what is known of the last position
pub record IsLastPosition (k : ℕ) (ps : List ℕ) (q : ℕ) : Type 0 where
  pub least : k ≤ q
  pub most : q ≤ positions
  pub above : (p : ℕ) → q < p → is_in p ps ≡ false
  pub there : is_in q ps ≡ true

or_right : (a b : Bool) → b ≡ true → (a || b) ≡ true
or_right true b h = refl
or_right false b h = h

pub last_position_is : (k : ℕ) (ps : List ℕ) (q : ℕ) (i : ℕ) → IsRising k ps → i + 1 ≡ length ps → Some q ≡ slice_get ps i → IsLastPosition k ps q
last_position_is k [] q i h n g = absurd (let e : ⊥ = omega (arith, n) in e)
last_position_is k (x ∷ []) q zero h n g = let same : q ≡ x = some_one g in rw same (record {
  least = h.0;
  most = h.1;
  above = λ p l. rw (ne_eqb p x (λ e. omega (arith, e, l))) refl;
  there = rw (eq-eqb x x refl) refl;
})
last_position_is k (x ∷ []) q (suc i) h n g = absurd (let e : ⊥ = omega (arith, n) in e)
last_position_is k (x ∷ y ∷ ys) q zero h n g = absurd (let e : ⊥ = omega (arith, n) in e)
last_position_is k (x ∷ y ∷ ys) q (suc i) h n g =
    let rest = last_position_is (x + 1) (y ∷ ys) q i h.2 (omega (arith, n)) g in
    record {
      least = omega (arith, h.0, rest.least);
      most = rest.most;
      above = λ p l. rw (ne_eqb p x (λ e. omega (arith, e, l, rest.least))) (rest.above p l);
      there = or_right (eqb q x) (is_in q (y ∷ ys)) rest.there;
    }

-- the index of the last
pub last_index : {A : Type 0} (xs : List A) (x : A) → Some x ≡ slice_get xs (length xs - 1) → (length xs - 1) + 1 ≡ length xs
last_index [] x h = let e : ⊥ = cc in absurd e
last_index (y ∷ ys) x h = omega arith
