-- Nodes that are noted, turn by turn.
use Rattle.std.proofs.Common.{◌≡◌, ◌⊎◌, inl, inr, ⊎_elim, ℕ, ◌+◌, ◌<◌, eqb, cond, Bool, true, false, List, length, take, get_or, refl, ap, sym, ◌∙◌, subst, arith}
use Rattle.std.proofs.lemmas.Bool.Decides.{eqb_tells}
use Rattle.data_model.specs.Trees.{Trees, count}
use Rattle.data_model.specs.Tree.{TreeTerm, all_of, trees_of_tree}
use Rattle.data_model.proofs.Climbs.{any-tells}
use Rattle.data_model.proofs.Turns.{take-tree, weigh-take}
use Rattle.data_model.proofs.Weights.{weigh-append, eqb-same}
use Rattle.pending.specs.Compatible.{is_among}
use Rattle.chosen_drafts.specs.Noting.{Notes}

pub nothing : (is : List ℕ) (ts : Trees) → Notes is is ts
nothing is ts = record { grows = λ i h. h; only = λ i h. inl h }

-- one node
pub record Adds (old new : List ℕ) (id : ℕ) : Type 0 where
  pub grows : (i : ℕ) → is_among old i ≡ true → is_among new i ≡ true
  pub only : (i : ℕ) → is_among new i ≡ true → (is_among old i ≡ true) ⊎ (i ≡ id)

-- what the next turn counts
next-counts : (ts : List TreeTerm) (at : ℕ) (t : TreeTerm) (i : ℕ) → at < length ts → t ≡ get_or ts at t → count i (all_of (take (at + 1) ts)) ≡ count i (all_of (take at ts)) + (cond (eqb i t.content.identity) 1 0 + count i t.attributes + count i t.children)
next-counts ts at t i k e =
    let sum : count i (all_of (take (at + 1) ts)) ≡ count i (all_of (take at ts)) + count i (trees_of_tree t) = ap (count i) (take-tree ts at t k e) ∙ weigh-append (λ j. cond (eqb i j) 1 0) (all_of (take at ts)) (trees_of_tree t) in
    omega arith

itself : (i j : ℕ) → i ≡ j → 0 < cond (eqb i j) 1 0
itself i j e = subst (λ (k : ℕ). 0 < cond (eqb i k) 1 0) e (rw (eqb-same i) (omega arith))

pub turned : (ts : List TreeTerm) (at : ℕ) (t : TreeTerm) (a k0 k1 k2 k3 : List ℕ) → at < length ts → t ≡ get_or ts at t → Notes a k0 (all_of (take at ts)) → Adds k0 k1 t.content.identity → Notes k1 k2 t.attributes → Notes k2 k3 t.children
    → Notes a k3 (all_of (take (at + 1) ts))
turned ts at t a k0 k1 k2 k3 l e n0 n1 n2 n3 = record {
  grows = λ i h. n3.grows i (n2.grows i (n1.grows i (n0.grows i h)));
  only = λ i h.
      ⊎_elim
      (λ h2. ⊎_elim
      (λ h1. ⊎_elim
      (λ h0. ⊎_elim (λ g. inl g) (λ g. inr (omega (arith, next-counts ts at t i l e, g))) (n0.only i h0))
      (λ is. inr (omega (arith, next-counts ts at t i l e, itself i t.content.identity is)))
      (n1.only i h1))
      (λ g. inr (omega (arith, next-counts ts at t i l e, g))) (n2.only i h2))
      (λ g. inr (omega (arith, next-counts ts at t i l e, g))) (n3.only i h);
}

pub within : (a k : List ℕ) (n : ℕ) (ts : List TreeTerm) → Notes a k (all_of (take n ts)) → Notes a k (all_of ts)
within a k n ts h = record { grows = h.grows; only = λ i g. ⊎_elim (λ x. inl x) (λ x. inr (omega (arith, x, weigh-take (λ j. cond (eqb i j) 1 0) n ts))) (h.only i g) }

pub all-noted : (ts : List TreeTerm) (at : ℕ) (t : TreeTerm) (k0 k1 k2 k3 : List ℕ) → at < length ts → t ≡ get_or ts at t → ((i : ℕ) → 0 < count i (all_of (take at ts)) → is_among k0 i ≡ true) → Adds k0 k1 t.content.identity → is_among k1 t.content.identity ≡ true
    → Notes k1 k2 t.attributes → ((i : ℕ) → 0 < count i t.attributes → is_among k2 i ≡ true) → Notes k2 k3 t.children → ((i : ℕ) → 0 < count i t.children → is_among k3 i ≡ true)
    → (i : ℕ) → 0 < count i (all_of (take (at + 1) ts)) → is_among k3 i ≡ true
all-noted ts at t k0 k1 k2 k3 l e h0 n1 h1 n2 h2 n3 h3 i there =
    ⊎_elim (λ u. n3.grows i (n2.grows i (n1.grows i (h0 i u.1))))
    (λ u. ⊎_elim (λ v. n3.grows i (h2 i v.1))
    (λ v. ⊎_elim (λ w. h3 i w.1)
    (λ w. (let one : 0 < cond (eqb i t.content.identity) 1 0 = (let z = next-counts ts at t i l e in omega (arith, z, there, u.1, v.1, w.1)) in
    n3.grows i (n2.grows i (is i (eqb i t.content.identity) refl one))))
    (any-tells (count i t.children))) (any-tells (count i t.attributes))) (any-tells (count i (all_of (take at ts))))
  where
    eq : (i j : ℕ) → eqb i j ≡ true → i ≡ j
    eq i j f = ⊎_elim (λ u. u.1) (λ u. absurd (let z : true ≡ false = sym f ∙ u.0 in cc)) (eqb_tells i j)

    is : (i : ℕ) (b : Bool) → eqb i t.content.identity ≡ b → 0 < cond (eqb i t.content.identity) 1 0 → is_among k1 i ≡ true
    is i true f g = subst (λ (j : ℕ). is_among k1 j ≡ true) (sym (eq i t.content.identity f)) h1
    is i false f g = absurd (let z = rw f at g in omega (arith, z))
