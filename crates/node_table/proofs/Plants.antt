-- Trees of their own that become trees of a table.
use Prim.Native.Nat.{zero, suc}
use Rattle.std.proofs.Common.{◌≡◌, ◌≢◌, ℕ, ◌+◌, ◌≤◌, ◌<◌, List, [], ◌∷◌, length, cond, eqb, true, false, refl, ap, sym, ◌∙◌, arith, ⊎_elim, Option, Some, None, is_some, subst}
use Rattle.std.proofs.lemmas.Bool.{cases_lt}
use Rattle.std.proofs.lemmas.Bool.Decides.{eqb_tells}
use Rattle.data_model.specs.Trees.{Trees, no_trees, tree, Content, append, roots, count, size}
use Rattle.data_model.specs.Changes.{ranked}
use Rattle.data_model.specs.Tree.{TreeTerm, all_of}
use Rattle.data_model.specs.Planted.{past}
use Rattle.node_table.specs.Flat.{Table, Holds, entry_of, entry_is_root, IsTableOf}
use Rattle.data_model.proofs.Weights.{weigh-append, eqb-same}
use Rattle.node_table.proofs.Tables.{Sets, Holds-same, Holds-append, IsTableOf-later, count-absent}
use Rattle.node_table.proofs.Takes.{weigh-ranked, Holds-ranked, roots-ranked, inserted, parentless-freed}
use Rattle.data_model.proofs.Climbs.{AreDistinct, any-tells}
use Rattle.node_table.proofs.Copies.{Holds-there, Holds-inner, one-tree}
use Rattle.node_table.proofs.Entries.{empty-entry}
use Rattle.node_table.specs.Labels.{AreRanked}
use Rattle.node_table.proofs.Numbers.{AreRanked-append, AreRanked-same}

-- ---- one tree more is planted
pub Holds-planted : (g g1 g2 g3 : Table) (p : Option ℕ) (c : Content) (front bs cs : Trees) → ((i : ℕ) → count i front + (cond (eqb i c.identity) 1 0 + count i bs + count i cs) ≤ 1)
    → Holds g p front
    → ((i : ℕ) → count i bs ≡ 0 → g1 i ≡ g i) → Holds g1 (Some c.identity) bs
    → ((i : ℕ) → count i cs ≡ 0 → g2 i ≡ g1 i) → Holds g2 (Some c.identity) cs
    → Sets g2 g3 c.identity (entry_of c p (roots bs) (roots cs))
    → Holds g3 p (append front (tree c bs cs no_trees))
Holds-planted g g1 g2 g3 p c front bs cs d holds same1 holds1 same2 holds2 sets =
    let other : (i : ℕ) → 0 < count i front + count i bs + count i cs → i ≢ c.identity = λ i h same. (let l = d i in let one : cond {A = ℕ} (eqb i c.identity) 1 0 ≡ 1 = rw same (rw (eqb-same c.identity) refl) in absurd (omega arith)) in
    Holds-append g3 p front (tree c bs cs no_trees)
    (Holds-same g g3 p front (λ i h. (let l = d i in sets.apart i (other i (omega arith)) ∙ same2 i (omega arith) ∙ same1 i (omega arith))) holds) (
      sets.here,
      Holds-same g1 g3 (Some c.identity) bs (λ i h. (let l = d i in sets.apart i (other i (omega arith)) ∙ same2 i (omega arith))) holds1,
      Holds-same g2 g3 (Some c.identity) cs (λ i h. sets.apart i (other i (omega arith))) holds2,
      tt,
    )

-- the same, of the numbers
pub ranked-planted : (w0 w1 w2 w3 : ℕ → ℕ) (n : ℕ) (c : Content) (front bs cs : Trees) → ((i : ℕ) → count i front + (cond (eqb i c.identity) 1 0 + count i bs + count i cs) ≤ 1)
    → AreRanked w0 n front
    → ((i : ℕ) → count i bs ≡ 0 → w1 i ≡ w0 i) → AreRanked w1 0 bs
    → ((i : ℕ) → count i cs ≡ 0 → w2 i ≡ w1 i) → AreRanked w2 (length (roots bs)) cs
    → (w3 c.identity ≡ n + length (roots front)) → ((i : ℕ) → i ≢ c.identity → w3 i ≡ w2 i)
    → AreRanked w3 n (append front (tree c bs cs no_trees))
ranked-planted w0 w1 w2 w3 n c front bs cs d ranked same1 ranked1 same2 ranked2 here apart =
    let other : (i : ℕ) → 0 < count i front + count i bs + count i cs → i ≢ c.identity = λ i h same. (let l = d i in let one : cond {A = ℕ} (eqb i c.identity) 1 0 ≡ 1 = rw same (rw (eqb-same c.identity) refl) in absurd (omega arith)) in
    AreRanked-append w3 n front (tree c bs cs no_trees)
    (AreRanked-same w0 w3 n front (λ i h. (let l = d i in apart i (other i (omega arith)) ∙ same2 i (omega arith) ∙ same1 i (omega arith))) ranked) (
      here,
      AreRanked-same w1 w3 0 bs (λ i h. (let l = d i in apart i (other i (omega arith)) ∙ same2 i (omega arith))) ranked1,
      AreRanked-same w2 w3 (length (roots bs)) cs (λ i h. apart i (other i (omega arith))) ranked2,
      tt,
    )

pub length-all : (ts : List TreeTerm) → length (roots (all_of ts)) ≡ length ts
length-all [] = refl
length-all (t ∷ ts) = ap suc (length-all ts)

-- ---- distinct identities below n are at most n
-- how many nodes have an identity below n
tally : ℕ → Trees → ℕ
tally zero ts = 0
tally (suc n) ts = tally n ts + count n ts

hits : ℕ → ℕ → ℕ
hits zero k = 0
hits (suc n) k = hits n k + cond (eqb n k) 1 0

hits-none : (n k : ℕ) → n ≤ k → hits n k ≡ 0
unfolding hits
hits-none zero k h = refl
hits-none (suc n) k h = ⊎_elim (λ t. absurd (omega arith)) (λ t. rw t.0 (omega (arith, hits-none n k (omega arith)))) (eqb_tells n k)

hits-one : (n k : ℕ) → k < n → hits n k ≡ 1
unfolding hits
hits-one zero k h = absurd (omega arith)
hits-one (suc n) k h =
    ⊎_elim (λ t. rw t.0 (let z = hits-none n k (omega arith) in omega arith)) (λ t. rw t.0 (let ne = t.1 in let z = hits-one n k (omega arith) in omega arith)) (eqb_tells n k)

tally-tree : (n : ℕ) (c : Content) (bs cs rest : Trees) → tally n (tree c bs cs rest) ≡ hits n c.identity + tally n bs + tally n cs + tally n rest
unfolding tally hits
tally-tree zero c bs cs rest = refl
tally-tree (suc n) c bs cs rest = let z = tally-tree n c bs cs rest in omega arith

tally-none : (n : ℕ) → tally n no_trees ≡ 0
unfolding tally
tally-none zero = refl
tally-none (suc n) = let z = tally-none n in omega arith

tally-most : (n : ℕ) (ts : Trees) → AreDistinct ts → tally n ts ≤ n
unfolding tally
tally-most zero ts d = omega arith
tally-most (suc n) ts d = let z = tally-most n ts d in let l = d n in omega arith

tally-size : (n : ℕ) (ts : Trees) → ((i : ℕ) → 0 < count i ts → i < n) → tally n ts ≡ size ts
tally-size n no_trees below = tally-none n
tally-size n (tree c bs cs rest) below =
    let sum = tally-tree n c bs cs rest in
    let one = hits-one n c.identity (below c.identity (rw (eqb-same c.identity) (omega arith))) in
    let b = tally-size n bs (λ i h. below i (omega arith)) in
    let s = tally-size n cs (λ i h. below i (omega arith)) in
    let r = tally-size n rest (λ i h. below i (omega arith)) in
    omega arith

pub size-within-identities : (n : ℕ) (ts : Trees) → AreDistinct ts → ((i : ℕ) → 0 < count i ts → i < n) → size ts ≤ n
size-within-identities n ts d below = let a = tally-size n ts below in let b = tally-most n ts d in omega arith

-- ---- one past the largest identity
pub below-past : (i : ℕ) (ts : Trees) → 0 < count i ts → i < past ts
below-past i no_trees h = absurd (omega arith)
below-past i (tree c bs cs rest) h =
    ⊎_elim (λ t. (let same = t.1 in omega arith))
    (λ t. (let z = rw t.0 at h in
    ⊎_elim (λ u. (let l = below-past i bs u.1 in omega arith))
    (λ u. ⊎_elim (λ v. (let l = below-past i cs v.1 in omega arith)) (λ v. (let nb : count i bs ≡ 0 = u.1 in let nc : count i cs ≡ 0 = v.1 in let l = below-past i rest (omega arith) in omega arith)) (any-tells (count i cs)))
    (any-tells (count i bs)))) (eqb_tells i c.identity)

pub past-most : (n : ℕ) (ts : Trees) → ((i : ℕ) → 0 < count i ts → i < n) → past ts ≤ n
past-most n no_trees below = omega arith
past-most n (tree c bs cs rest) below =
    let here = below c.identity (rw (eqb-same c.identity) (omega arith)) in
    let b = past-most n bs (λ i h. below i (omega arith)) in
    let s = past-most n cs (λ i h. below i (omega arith)) in
    let r = past-most n rest (λ i h. below i (omega arith)) in
    omega arith

-- ---- the table with a planted tree
module _ (f g : Table) (n m : ℕ) (ts us : Trees) (k : ℕ) (h : IsTableOf f n ts) (root : roots us ≡ k ∷ []) (le : n ≤ m) (below : (i : ℕ) → 0 < count i us → i < m)
    (d : (i : ℕ) → count i ts + count i us ≤ 1) (holds : Holds g None us) (same : (i : ℕ) → count i us ≡ 0 → g i ≡ f i) where
  fresh : (i : ℕ) → 0 < count i us → f i ≡ None
  fresh i there = (let l = d i in let none : count i ts ≡ 0 = omega arith in empty-entry (f i) (sym none ∙ h.counted i))

  kept : (i : ℕ) → 0 < count i ts → g i ≡ f i
  kept i there = same i (let l = d i in omega arith)

  counts : (i : ℕ) → count i us + count i ts ≡ cond (is_some (g i)) 1 0
  counts i =
      ⊎_elim (λ t. (let there : is_some (g i) ≡ true = Holds-there g None us i holds t.1 in let l = d i in let some = t.1 in rw there (omega arith)))
      (λ t. (let none = t.1 in let c = h.counted i in rw (same i t.1) (omega arith))) (any-tells (count i us))

  all-below : (i : ℕ) → 0 < count i (ranked k us ts) → i < m
  all-below i there =
      let sum = weigh-ranked (λ j. cond (eqb i j) 1 0) k us ts in
      ⊎_elim (λ l. l) (λ l. (let absent : count i ts ≡ 0 = count-absent f n ts i h (h.above i (omega arith)) in below i (omega arith))) (cases_lt i m)

  distinct : AreDistinct (ranked k us ts)
  distinct i = let sum = weigh-ranked (λ j. cond (eqb i j) 1 0) k us ts in let l = d i in omega arith

  root-there : (entry_is_root (g k) ≡ true) × (entry_is_root (f k) ≡ false) × (k < m) × ((i : ℕ) → i ≢ k → entry_is_root (g i) ≡ entry_is_root (f i))
  root-there =
      let one = one-tree us k root in
      let c = one.content in
      let P : Trees → Type 0 = λ t. (roots t ≡ k ∷ []) × Holds g None t in
      let whole : P (tree c one.attributes one.children no_trees) = subst P one.is (root, holds) in
      let id : c.identity ≡ k = (let z = whole.0 in cc) in
      let P1 : ℕ → Type 0 = λ j. eqb k j ≡ true in
      let at_k : eqb k c.identity ≡ true = subst P1 (sym id) (eqb-same k) in
      let sum_k : count k us ≡ cond (eqb k c.identity) 1 0 + count k one.attributes + count k one.children + 0 = ap (count k) one.is in
      let there : 0 < count k us = (let e = rw at_k at sum_k in omega arith) in (
        ap (λ i. entry_is_root (g i)) (sym id) ∙ ap entry_is_root whole.1.0,
        ap entry_is_root (fresh k there),
        below k there,
        λ i ne. ⊎_elim
            (λ t. (let sum : count i us ≡ cond (eqb i c.identity) 1 0 + count i one.attributes + count i one.children + 0 = ap (count i) one.is in
            let apart : eqb i c.identity ≡ false = ⊎_elim (λ u. absurd (ne (u.1 ∙ id))) (λ u. u.0) (eqb_tells i c.identity) in
            let some = t.1 in
            let z : 0 < count i one.attributes + count i one.children = (let e = rw apart at sum in omega arith) in
            let inner : entry_is_root (g i) ≡ false =
            ⊎_elim (λ u. Holds-inner g c.identity one.attributes i whole.1.1 u.1) (λ u. (let no : count i one.attributes ≡ 0 = u.1 in Holds-inner g c.identity one.children i whole.1.2 (omega arith))) (any-tells (count i one.attributes)) in
            inner ∙ sym (ap entry_is_root (fresh i t.1))))
            (λ t. ap entry_is_root (same i t.1)) (any-tells (count i us)),
      )

  pub IsTableOf-planted : IsTableOf g m (ranked k us ts)
  IsTableOf-planted = record {
    holds = Holds-ranked g k us ts holds (Holds-same f g None ts kept h.holds);
    counted = λ i. weigh-ranked (λ j. cond (eqb i j) 1 0) k us ts ∙ counts i;
    above = λ i l. same i (⊎_elim (λ t. (let b = below i t.1 in absurd (omega arith))) (λ t. t.1) (any-tells (count i us))) ∙ h.above i (omega arith);
    fits = size-within-identities m (ranked k us ts) distinct all-below;
    in_order = (let r = root-there in roots-ranked k us ts root ∙ ap (inserted k) (IsTableOf-later f n m ts le h).in_order ∙ sym (parentless-freed f g k m r.2 r.0 r.1 r.3));
  }

-- a table that was put back
pub unplanted : {A : Type 0} (f g t : ℕ → Option A) (us : Trees) → ((i : ℕ) → 0 < count i us → f i ≡ None) → ((i : ℕ) → count i us ≡ 0 → g i ≡ f i)
    → ((i : ℕ) → 0 < count i us → t i ≡ None) → ((i : ℕ) → count i us ≡ 0 → t i ≡ g i) → t ≡ f
unplanted f g t us fresh same removed rest = λ j i.
    (let is : t i ≡ f i = ⊎_elim (λ k. removed i k.1 ∙ sym (fresh i k.1)) (λ k. rest i k.1 ∙ same i k.1) (any-tells (count i us)) in
    is j)

-- ---- one tree more is removed
module _ {A : Type 0} (g0 g1 g2 g3 : ℕ → Option A) (c : Content) (bs cs : Trees) (apart : (i : ℕ) → i ≢ c.identity → g1 i ≡ g0 i) (same2 : (i : ℕ) → count i bs ≡ 0 → g2 i ≡ g1 i) (same3 : (i : ℕ) → count i cs ≡ 0 → g3 i ≡ g2 i) where
  pub other-turn : (i : ℕ) → cond (eqb i c.identity) 1 0 + count i bs + count i cs ≡ 0 → g3 i ≡ g0 i
  other-turn i none = same3 i (omega arith) ∙ same2 i (omega arith) ∙ apart i (⊎_elim (λ t. (let z = rw t.0 at none in absurd (omega arith))) (λ t. t.1) (eqb_tells i c.identity))

  pub removed-turn : (front : Trees) → ((i : ℕ) → 0 < count i front → g0 i ≡ None) → g1 c.identity ≡ None → ((i : ℕ) → 0 < count i bs → g2 i ≡ None) → ((i : ℕ) → 0 < count i cs → g3 i ≡ None)
      → (i : ℕ) → 0 < count i (append front (tree c bs cs no_trees)) → g3 i ≡ None
  removed-turn front gone here removed2 removed3 i there =
      let sum : count i (append front (tree c bs cs no_trees)) ≡ count i front + (cond (eqb i c.identity) 1 0 + count i bs + count i cs + 0) = weigh-append _ front (tree c bs cs no_trees) in
      ⊎_elim (λ t. removed3 i t.1)
      (λ t. same3 i t.1 ∙ ⊎_elim (λ u. removed2 i u.1)
      (λ u. same2 i u.1 ∙ ⊎_elim (λ v. ap g1 v.1 ∙ here)
      (λ v. (let e = rw v.0 at sum in let nc : count i cs ≡ 0 = t.1 in let nb : count i bs ≡ 0 = u.1 in apart i v.1 ∙ gone i (omega arith))) (eqb_tells i c.identity))
      (any-tells (count i bs))) (any-tells (count i cs))
