-- A node stands once at most below its parent, so it is taken out where it is found first.
use Prim.Native.Nat.{zero, suc}
use Rattle.std.proofs.Common.{◌≡◌, true, false, ℕ, ◌+◌, ◌≤◌, ◌<◌, List, [], ◌∷◌, ◌++◌, length, take, drop, get_or, filter, not, eqb, refl, ap, sym, ◌∙◌, arith, ⊎_elim, Option, Some, None, IfSome, option_map}
use Rattle.std.proofs.lemmas.Bool.Decides.{eqb_tells}
use Rattle.data_model.specs.Trees.{Trees, no_trees, tree, Place, first, find_below, roots, count}
use Rattle.data_model.specs.Walks.{held}
use Rattle.node_table.specs.Flat.{Entry, entry_at, IsOnceBelow}
use Rattle.data_model.proofs.Weights.{eqb-same}

pub held-none : (k : ℕ) (xs : List ℕ) → held k xs ≡ 0 → filter (λ i. not (eqb k i)) xs ≡ xs
held-none k [] h = refl
held-none k (x ∷ xs) h = ⊎_elim (λ t. (let z = rw t.0 at h in absurd (omega arith))) (λ t. (let z = rw t.0 at h in rw t.0 (ap (λ r. x ∷ r) (held-none k xs (omega arith))))) (eqb_tells k x)

-- one place more in which k is not
pub held-next : (k x : ℕ) (xs : List ℕ) (i : ℕ) → i < length xs → x ≡ get_or xs i x → eqb x k ≡ false → held k (take i xs) ≡ 0 → held k (take (suc i) xs) ≡ 0
held-next k x [] i l e ne h = absurd (omega arith)
held-next k x (y ∷ xs) zero l e ne h = ⊎_elim (λ t. (let z : eqb x k ≡ true = rw (t.1, e) (eqb-same y) in let w = sym z ∙ ne in cc)) (λ t. rw t.0) (eqb_tells k y)
held-next k x (y ∷ xs) (suc i) l e ne h = ⊎_elim (λ t. (let z = rw t.0 at h in absurd (omega arith))) (λ t. (let z = rw t.0 at h in rw t.0 (omega (arith, held-next k x xs i (omega arith) e ne (omega arith))))) (eqb_tells k y)

-- the first place in which k is
pub held-first : (k x : ℕ) (xs : List ℕ) (i : ℕ) → i < length xs → x ≡ get_or xs i x → eqb x k ≡ true → held k (take i xs) ≡ 0 → held k xs ≤ 1 → (take i xs ++ drop (suc i) xs ≡ filter (λ j. not (eqb k j)) xs) × (held k xs ≡ 1)
held-first k x [] i l e is h m = absurd (omega arith)
held-first k x (y ∷ xs) zero l e is h m =
    ⊎_elim (λ t. (let z = rw t.0 at m in let none : held k xs ≡ 0 = omega arith in rw t.0 (sym (held-none k xs none), omega arith)))
    (λ t. ⊎_elim (λ u. absurd (t.1 (sym u.1 ∙ e))) (λ u. (let w = sym is ∙ u.0 in cc)) (eqb_tells x k)) (eqb_tells k y)
held-first k x (y ∷ xs) (suc i) l e is h m =
    ⊎_elim (λ t. (let z = rw t.0 at h in absurd (omega arith)))
    (λ t. (let z = rw t.0 at h in let w = rw t.0 at m in let on = held-first k x xs i (omega arith) e is (omega arith) (omega arith) in rw t.0 (ap (λ r. y ∷ r) on.0, omega (arith, on.1)))) (eqb_tells k y)

-- ---- in trees
pub held-roots : (k : ℕ) (ts : Trees) → held k (roots ts) ≤ count k ts
held-roots k no_trees = omega arith
held-roots k (tree c bs cs rest) = omega (arith, held-roots k rest)

abbrev Fits : ℕ → ℕ → Option Place → Type 0
Fits k n o = IfSome o (λ x. count k x.attributes + count k x.children ≤ n)

Fits-first : (k m n : ℕ) (a b : Option Place) → m ≤ n → Fits k m a → Fits k n b → Fits k n (first a b)
Fits-first k m n None b l h g = g
Fits-first k m n (Some x) b l h g = omega arith

Fits-more : (k m n : ℕ) (o : Option Place) → m ≤ n → Fits k m o → Fits k n o
Fits-more k m n None l h = tt
Fits-more k m n (Some x) l h = omega arith

Fits-find : (k : ℕ) (p : Option ℕ) (i : ℕ) (ts : Trees) → Fits k (count k ts) (find_below p i ts)
Fits-find k p i no_trees = tt
Fits-find k p i (tree c bs cs rest) =
    ⊎_elim (λ t. rw t.0 (omega arith))
    (λ t. rw t.0 (Fits-first k (count k bs) _ _ _ (omega arith) (Fits-find k (Some c.identity) i bs) (Fits-first k (count k cs) _ _ _ (omega arith) (Fits-find k (Some c.identity) i cs) (Fits-more k (count k rest) _ _ (omega arith) (Fits-find k p i rest))))) (eqb_tells i c.identity)

once-at : (k : ℕ) (o : Option Place) (e : Entry) → Fits k 1 o → option_map entry_at o ≡ Some e → IsOnceBelow k e
once-at k None e h s = cc
once-at k (Some x) e h s = (let same : entry_at x ≡ e = cc in rw (← same) (omega (arith, held-roots k x.attributes, held-roots k x.children)))

-- what the trees say of a node has each other at most once
pub once-below : (k i : ℕ) (ts : Trees) (e : Entry) → count k ts ≤ 1 → option_map entry_at (find_below None i ts) ≡ Some e → IsOnceBelow k e
once-below k i ts e most s = once-at k _ e (Fits-more k (count k ts) 1 _ most (Fits-find k None i ts)) s
