-- Trees of which some are changed where they stand: which nodes there are then, and what stays.
use Rattle.std.proofs.Common.{◌≡◌, ◌⊎◌, inl, inr, ℕ, ◌+◌, ◌<◌, ◌≤◌, ◌||◌, cond, eqb, not, Bool, true, false, if◌then◌else◌, List, [], ◌∷◌, refl, ap, subst, sym, ◌∙◌, arith, ⊎_elim}
use Rattle.std.proofs.lemmas.Bool.Decides.{eqb_tells}
use Rattle.data_model.specs.Trees.{Trees, no_trees, tree, append, count}
use Rattle.data_model.proofs.Weights.{append-append, eqb-same}
use Rattle.pending.specs.Compatible.{is_among}
use Rattle.pending.specs.Primitives.{PrimitiveTerm}
use Rattle.update_meaning.specs.Brought.{new_trees}
use Rattle.update_meaning.specs.Changed.{Choice, rooted_at, chosen, changed, with_changed}
use Rattle.update_meaning.proofs.Each.{KeepsRoot, changes, together, others-stay, by_identity}
use Rattle.meaning_laws.proofs.Keeps.{AreFrom}
use Rattle.meaning_laws.proofs.Effects.{AreApart, changed_few}

-- those that are chosen, and the others
parted : (f : Choice) (i : ℕ) (ts : Trees) → count i (chosen f ts) + count i (chosen (λ c. not (f c)) ts) ≡ count i ts
parted f i no_trees = refl
parted f i (tree c bs cs rest) = of (f c) (chosen f rest) (chosen (λ d. not (f d)) rest) (parted f i rest)
  where
    of : (b : Bool) (us vs : Trees) → count i us + count i vs ≡ count i rest
        → count i (if b then tree c bs cs us else us) + count i (if not b then tree c bs cs vs else vs) ≡ count i (tree c bs cs rest)
    of true us vs h = omega (arith, h)
    of false us vs h = omega (arith, h)

pub chosen_counted : (f : Choice) (i : ℕ) (ts us : Trees) → count i (chosen f (append ts us)) ≡ count i (chosen f ts) + count i (chosen f us)
chosen_counted f i no_trees us = omega arith
chosen_counted f i (tree c bs cs rest) us = of (f c) (chosen f (append rest us)) (chosen f rest) (chosen_counted f i rest us)
  where
    of : (b : Bool) (vs ws : Trees) → count i vs ≡ count i ws + count i (chosen f us)
        → count i (if b then tree c bs cs vs else vs) ≡ count i (if b then tree c bs cs ws else ws) + count i (chosen f us)
    of true vs ws h = omega (arith, h)
    of false vs ws h = h

pub chosen_few : (f : Choice) (i : ℕ) (ts : Trees) → count i (chosen f ts) ≤ count i ts
chosen_few f i ts = omega (arith, parted f i ts)

module _ (is : List ℕ) (ps : List PrimitiveTerm) where
  changed_alone : (ts : Trees) → chosen (rooted_at is) (with_changed (rooted_at is) ps ts) ≡ changed ps (chosen (rooted_at is) ts)
  changed_alone = together (rooted_at is) (by_identity is) (changed ps) (changes ps)

  others_same : (ts : Trees) → chosen (λ c. not (rooted_at is c)) (with_changed (rooted_at is) ps ts) ≡ chosen (λ c. not (rooted_at is c)) ts
  others_same = others-stay (rooted_at is) (by_identity is) (changed ps) (changes ps)

  -- there are no nodes but those that there were, and those that are brought
  pub with_changed_few : (ts : Trees) → AreApart ps ts → (i : ℕ) → count i (with_changed (rooted_at is) ps ts) ≤ count i ts + count i (new_trees ps)
  with_changed_few ts h i =
      let after = parted (rooted_at is) i (with_changed (rooted_at is) ps ts) in
      let before = parted (rooted_at is) i ts in
      let few = changed_few ps (chosen (rooted_at is) ts) (λ j. omega (arith, chosen_few (rooted_at is) j ts, h j)) i in
      omega (arith, after, before, few, ap (count i) (changed_alone ts), ap (count i) (others_same ts))

  -- a node that is in no tree that is changed stays
  pub others_stand : (ts : Trees) (i : ℕ) → count i (chosen (rooted_at is) ts) ≡ 0 → count i ts ≤ count i (with_changed (rooted_at is) ps ts)
  others_stand ts i none =
      let after = parted (rooted_at is) i (with_changed (rooted_at is) ps ts) in
      let before = parted (rooted_at is) i ts in
      omega (arith, after, before, none, ap (count i) (others_same ts))

  pub changed_append : (ts us : Trees) → with_changed (rooted_at is) ps (append ts us) ≡ append (with_changed (rooted_at is) ps ts) (with_changed (rooted_at is) ps us)
  changed_append no_trees us = refl
  changed_append (tree c bs cs rest) us =
      let first = if rooted_at is c then changed ps (tree c bs cs no_trees) else tree c bs cs no_trees in
      ap (append first) (changed_append rest us) ∙ sym (append-append first (with_changed (rooted_at is) ps rest) (with_changed (rooted_at is) ps us))

-- Roots.

-- the root of one of the trees
abbrev pub IsRoot : ℕ → Trees → Type 0
IsRoot k no_trees = ⊥
IsRoot k (tree c bs cs rest) = (c.identity ≡ k) ⊎ IsRoot k rest

pub root_there : (k : ℕ) (ts : Trees) → IsRoot k ts → 0 < count k ts
root_there k no_trees h = absurd h
root_there k (tree c bs cs rest) (inl e) =
    subst (λ j. 0 < cond (eqb j c.identity) 1 0 + count j bs + count j cs + count j rest) e
    (subst (λ b. 0 < cond b 1 0 + count c.identity bs + count c.identity cs + count c.identity rest) (sym (eqb-same c.identity)) (omega arith))
root_there k (tree c bs cs rest) (inr h) = let later = root_there k rest h in omega (arith, later)

pub root_before : (k : ℕ) (ts us : Trees) → IsRoot k ts → IsRoot k (append ts us)
root_before k no_trees us h = absurd h
root_before k (tree c bs cs rest) us (inl e) = inl e
root_before k (tree c bs cs rest) us (inr h) = inr (root_before k rest us h)

pub root_after : (k : ℕ) (ts us : Trees) → IsRoot k us → IsRoot k (append ts us)
root_after k no_trees us h = h
root_after k (tree c bs cs rest) us h = inr (root_after k rest us h)

-- a root stays
pub root_stays : (is : List ℕ) (ps : List PrimitiveTerm) (k : ℕ) (ts : Trees) → IsRoot k ts → IsRoot k (with_changed (rooted_at is) ps ts)
root_stays is ps k no_trees h = absurd h
root_stays is ps k (tree c bs cs rest) h = of (rooted_at is c) (root_stays is ps k rest) h
  where
    r : KeepsRoot c (changed ps (tree c bs cs no_trees))
    r = (changes ps).roots c bs cs

    more : Trees
    more = with_changed (rooted_at is) ps rest

    of : (b : Bool) → (IsRoot k rest → IsRoot k more) → IsRoot k (tree c bs cs rest)
        → IsRoot k (append (if b then changed ps (tree c bs cs no_trees) else tree c bs cs no_trees) more)
    of true later (inl e) = subst (λ us. IsRoot k (append us more)) (sym r.is) (inl (r.identity ∙ e))
    of true later (inr g) = subst (λ us. IsRoot k (append us more)) (sym r.is) (inr (later g))
    of false later (inl e) = inl e
    of false later (inr g) = inr (later g)

-- no root is among these
abbrev pub AreOthers : List ℕ → Trees → Type 0
AreOthers is no_trees = Unit {0}
AreOthers is (tree c bs cs rest) = (is_among is c.identity ≡ false) × AreOthers is rest

pub none_chosen : (is : List ℕ) (ts : Trees) → AreOthers is ts → chosen (rooted_at is) ts ≡ no_trees
none_chosen is no_trees h = refl
none_chosen is (tree c bs cs rest) h =
    ap (λ b. if b then tree c bs cs (chosen (rooted_at is) rest) else chosen (rooted_at is) rest) h.0 ∙ none_chosen is rest h.1

pub none_changed : (is : List ℕ) (ps : List PrimitiveTerm) (ts : Trees) → AreOthers is ts → with_changed (rooted_at is) ps ts ≡ ts
none_changed is ps no_trees h = refl
none_changed is ps (tree c bs cs rest) h =
    ap (λ b. append (if b then changed ps (tree c bs cs no_trees) else tree c bs cs no_trees) (with_changed (rooted_at is) ps rest)) h.0
    ∙ ap (tree c bs cs) (none_changed is ps rest h.1)

-- trees before others stay, where no root of theirs is among these
pub first_stay : (is : List ℕ) (ps : List PrimitiveTerm) (ts us : Trees) → AreOthers is ts
    → with_changed (rooted_at is) ps (append ts us) ≡ append ts (with_changed (rooted_at is) ps us)
first_stay is ps ts us h = changed_append is ps ts us ∙ ap (λ vs. append vs (with_changed (rooted_at is) ps us)) (none_changed is ps ts h)

-- where no node of the trees is among these
pub others_of : (is : List ℕ) (ts : Trees) → ((k : ℕ) → IsRoot k ts → is_among is k ≡ false) → AreOthers is ts
others_of is no_trees h = tt
others_of is (tree c bs cs rest) h = (h c.identity (inl refl), others_of is rest (λ k r. h k (inr r)))

pub below_others : (n k : ℕ) (is : List ℕ) → AreFrom n is → k < n → is_among is k ≡ false
below_others n k [] from h = refl
below_others n k (i ∷ is) from h =
    ⊎_elim (λ t. absurd (let low = from.0 in let same = t.1 in omega (arith, low, same, h))) (λ t. ap (λ b. b || is_among is k) t.0 ∙ below_others n k is from.1 h) (eqb_tells k i)

-- one more is among these, and is no root
pub same_chosen : (n : ℕ) (is : List ℕ) (ts : Trees) → count n ts ≡ 0 → chosen (rooted_at (n ∷ is)) ts ≡ chosen (rooted_at is) ts
same_chosen n is no_trees h = refl
same_chosen n is (tree c bs cs rest) h =
    ⊎_elim (λ t. absurd (let z = root_there n (tree c bs cs rest) (inl t.1) in omega (arith, h, z)))
    (λ t. ap (λ b. if b || is_among is c.identity then tree c bs cs (chosen (rooted_at (n ∷ is)) rest) else chosen (rooted_at (n ∷ is)) rest) t.0
    ∙ ap (λ us. if is_among is c.identity then tree c bs cs us else us) (same_chosen n is rest (omega (arith, h))))
    (eqb_tells c.identity n)
