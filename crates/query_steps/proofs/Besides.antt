-- The children of a node's parent, before it and after it.
use Prim.Native.Nat.{zero, suc}
use Rattle.std.proofs.Common.{◌≡◌, ℕ, ◌≤◌, ◌<◌, Bool, true, false, not, ◌&&◌, List, [], ◌∷◌, ◌++◌, filter, take, drop, length, slice_index_or, eqb, refl, ap, sym, ◌∙◌, arith, ⊎_elim, ◌⊎◌, inl, inr, Option, Some, None, subst}
use Rattle.std.proofs.lemmas.Bool.Decides.{eqb_tells}
use Rattle.data_model.specs.Trees.{Trees, parent_of, children_of}
use Rattle.data_model.specs.Order.{identities, comes_before, precedes}
use Rattle.data_model.specs.Walks.{held}
use Rattle.data_model.specs.Axes.{is_child, is_some_attribute, is_some_attribute_at, is_parent_at, have_one_parent, are_siblings, on_axis}
use Rattle.data_model.specs.declared.axis.Axis.TheVariants.{FollowingSibling, PrecedingSibling}
use Rattle.data_model.proofs.Weights.{eqb-same}
use Rattle.data_model.proofs.Climbs.{AreDistinct}
use Rattle.data_model.proofs.Firsts.{held-append, eqb-swap}
use Rattle.node_table.proofs.Axes.{Among, in-yes, in-held, filter-same, on-children, parent-lists, lists-parent, child-no-attribute}
use Rattle.query_steps.proofs.Lists.{same-tests, both-true, filter-both, filter-every, filter-no, among-rest, among-same, held-most, among-filter}
use Rattle.query_steps.proofs.Ancestors.{parent-is, held-once}

-- ---- which of two of a list comes first
before-itself : (a : ℕ) (xs : List ℕ) → comes_before a a xs ≡ false
before-itself a [] = refl
before-itself a (x ∷ xs) = ⊎_elim (λ t. rw t.0 refl) (λ t. rw t.0 (before-itself a xs)) (eqb_tells x a)

not-both : (a b : ℕ) (xs : List ℕ) → comes_before a b xs ≡ true → comes_before b a xs ≡ false
not-both a b [] h = refl
not-both a b (x ∷ xs) h =
    ⊎_elim (λ t. (let z = rw t.0 at h in cc))
    (λ t. ⊎_elim (λ u. rw u.0 refl) (λ u. (let z = rw (t.0, u.0) at h in rw (u.0, t.0) (not-both a b xs z))) (eqb_tells x a))
    (eqb_tells x b)

-- what stands after a in a list that stands among others, of which none is there twice, comes after it
comes-first : (a b : ℕ) (rs xs : List ℕ) → ((i : ℕ) → held i xs ≤ 1) → Among (a ∷ rs) xs → 0 < held b rs → comes_before a b xs ≡ true
unfolding Among
comes-first a b rs [] once h k = absurd h
comes-first a b rs (x ∷ xs) once h k =
    let less = λ (i : ℕ). (let z = once i in let goal : held i xs ≤ 1 = omega arith in goal) in
    ⊎_elim
    (λ t. (let later = held-most b rs xs t.1 in
    let other : eqb x b ≡ false = ⊎_elim (λ u. (let z = rw (eqb-swap x b true u.0) at (once b) in absurd (omega arith))) (λ u. u.0) (eqb_tells x b) in
    let here : eqb x a ≡ true = rw t.0 (eqb-same x) in
    rw (other, here) refl))
    (λ t. (let b_later = held-most b (a ∷ rs) xs t in
    let a_later = held-most a (a ∷ rs) xs t in
    let a_there : 0 < held a (a ∷ rs) = rw (eqb-same a) (omega arith) in
    let other : eqb x b ≡ false = ⊎_elim (λ u. (let z = rw (eqb-swap x b true u.0) at (once b) in absurd (omega arith))) (λ u. u.0) (eqb_tells x b) in
    let no : eqb x a ≡ false = ⊎_elim (λ u. (let z = rw (eqb-swap x a true u.0) at (once a) in absurd (omega arith))) (λ u. u.0) (eqb_tells x a) in
    rw (other, no) (comes-first a b rs xs less t k)))
    h

module _ (xs : List ℕ) (once : (i : ℕ) → held i xs ≤ 1) (a : ℕ) (rs : List ℕ) where
  a-there : (ls : List ℕ) → 0 < held a (ls ++ a ∷ rs)
  a-there ls = let e = held-append a ls (a ∷ rs) in let here : 0 < held a (a ∷ rs) = rw (eqb-same a) (omega arith) in omega arith

  after-a : (ls : List ℕ) → Among (ls ++ a ∷ rs) xs → filter (λ b. comes_before a b xs) (ls ++ a ∷ rs) ≡ rs
  after-a [] h = rw (before-itself a xs) (filter-every (λ b. comes_before a b xs) rs (λ b k. comes-first a b rs xs once h k))
  after-a (l ∷ ls) h = rw (not-both l a xs (comes-first l a (ls ++ a ∷ rs) xs once h (a-there ls))) (after-a ls (among-rest l (ls ++ a ∷ rs) xs h))

  before-a : (ls : List ℕ) → Among (ls ++ a ∷ rs) xs → filter (λ b. comes_before b a xs) (ls ++ a ∷ rs) ≡ ls
  before-a [] h = rw (before-itself a xs) (filter-no (λ b. comes_before b a xs) rs (λ b k. not-both a b xs (comes-first a b rs xs once h k)))
  before-a (l ∷ ls) h = rw (comes-first l a (ls ++ a ∷ rs) xs once h (a-there ls)) (ap (λ zs. l ∷ zs) (before-a ls (among-rest l (ls ++ a ∷ rs) xs h)))

-- a list by one of its places
pub parted : (xs : List ℕ) (k a : ℕ) → k < length xs → a ≡ slice_index_or xs k a → take k xs ++ a ∷ drop (suc k) xs ≡ xs
parted [] k a h is = absurd (omega (arith, h))
parted (x ∷ xs) zero a h is = ap (λ j. j ∷ xs) is
parted (x ∷ xs) (suc k) a h is = ap (λ zs. x ∷ zs) (parted xs k a (omega (arith, h)) is)

have-one : (o q : Option ℕ) (p : ℕ) → o ≡ Some p → have_one_parent o q ≡ true → q ≡ Some p
have-one None q p is h = cc
have-one (Some r) None p is h = cc
have-one (Some r) (Some s) p is h = ⊎_elim (λ t. ap Some (sym t.1) ∙ is) (λ t. (let z : false ≡ true = sym t.0 ∙ h in cc)) (eqb_tells r s)

module _ (ts : Trees) (d : AreDistinct ts) (a p : ℕ) (is : parent_of a ts ≡ Some p) where
  -- an attribute, or a child
  pub child-or-not : (is_child ts p a ≡ true) ⊎ (is_some_attribute ts a ≡ true)
  child-or-not = ⊎_elim inl (λ r. inr (ap (is_some_attribute_at ts a) is ∙ r)) (parent-lists ts d p a (ap (λ o. is_parent_at o p) is ∙ eqb-same p))

  attribute-of : (b : ℕ) → is_child ts p b ≡ true → is_some_attribute ts b ≡ false
  attribute-of b h = ap (is_some_attribute_at ts b) (parent-is (parent_of b ts) p (lists-parent ts d p b (inl h))) ∙ child-no-attribute ts d p b h

  siblings-are : is_child ts p a ≡ true → (b : ℕ) → are_siblings ts a b ≡ is_child ts p b
  siblings-are own b = same-tests (are_siblings ts a b) (is_child ts p b)
      (λ h. (let both = both-true (have_one_parent (parent_of a ts) (parent_of b ts) && not (is_some_attribute ts a)) (not (is_some_attribute ts b)) h in
      let one = both-true (have_one_parent (parent_of a ts) (parent_of b ts)) (not (is_some_attribute ts a)) both.0 in
      let up : parent_of b ts ≡ Some p = have-one (parent_of a ts) (parent_of b ts) p is one.0 in
      ⊎_elim (λ l. l) (λ r. (let z : not true ≡ true = ap not (sym (ap (is_some_attribute_at ts b) up ∙ r)) ∙ both.1 in cc)) (parent-lists ts d p b (ap (λ o. is_parent_at o p) up ∙ eqb-same p))))
      (λ h. (let up : parent_of b ts ≡ Some p = parent-is (parent_of b ts) p (lists-parent ts d p b (inl h)) in
      rw (attribute-of a own, attribute-of b h, is, up, eqb-same p) refl))

  no-siblings : is_some_attribute ts a ≡ true → (b : ℕ) → are_siblings ts a b ≡ false
  no-siblings attribute b = same-tests (are_siblings ts a b) false
      (λ h. (let both = both-true (have_one_parent (parent_of a ts) (parent_of b ts) && not (is_some_attribute ts a)) (not (is_some_attribute ts b)) h in
      let one = both-true (have_one_parent (parent_of a ts) (parent_of b ts)) (not (is_some_attribute ts a)) both.0 in
      let z : not true ≡ true = ap not (sym attribute) ∙ one.1 in cc))
      (λ h. (let z : false ≡ true = h in cc))

  on-siblings : (comes : ℕ → Bool) → is_child ts p a ≡ true → filter (λ b. are_siblings ts a b && comes b) (identities ts) ≡ filter comes (children_of p ts)
  on-siblings comes own =
      filter-same (λ b. are_siblings ts a b && comes b) (λ b. is_child ts p b && comes b) (identities ts) (λ b _. ap (λ v. v && comes b) (siblings-are own b))
      ∙ sym (filter-both comes (is_child ts p) (identities ts)) ∙ ap (filter comes) (on-children ts d p)

  no-one : (comes : ℕ → Bool) → is_some_attribute ts a ≡ true → filter (λ b. are_siblings ts a b && comes b) (identities ts) ≡ []
  no-one comes attribute = filter-no (λ b. are_siblings ts a b && comes b) (identities ts) (λ b _. ap (λ v. v && comes b) (no-siblings attribute b))

  children-among : Among (children_of p ts) (identities ts)
  children-among = let P : List ℕ → Type 0 = λ ks. Among ks (identities ts) in subst P (on-children ts d p) (among-filter (is_child ts p) (identities ts) (identities ts) (among-same (identities ts)))

  is-own : (ls rs : List ℕ) → ls ++ a ∷ rs ≡ children_of p ts → is_child ts p a ≡ true
  is-own ls rs whole = in-yes a (children_of p ts) (let e = a-there (identities ts) (held-once ts d) a rs ls in let w : held a (ls ++ a ∷ rs) ≡ held a (children_of p ts) = ap (held a) whole in omega arith)

  pub on-following : (ls rs : List ℕ) → ls ++ a ∷ rs ≡ children_of p ts → on_axis FollowingSibling ts a ≡ rs
  on-following ls rs whole =
      let P : List ℕ → Type 0 = λ ks. Among ks (identities ts) in
      on-siblings (λ b. precedes a b ts) (is-own ls rs whole) ∙ ap (filter (λ b. precedes a b ts)) (sym whole) ∙ after-a (identities ts) (held-once ts d) a rs ls (subst P (sym whole) children-among)

  pub on-preceding : (ls rs : List ℕ) → ls ++ a ∷ rs ≡ children_of p ts → on_axis PrecedingSibling ts a ≡ ls
  on-preceding ls rs whole =
      let P : List ℕ → Type 0 = λ ks. Among ks (identities ts) in
      on-siblings (λ b. precedes b a ts) (is-own ls rs whole) ∙ ap (filter (λ b. precedes b a ts)) (sym whole) ∙ before-a (identities ts) (held-once ts d) a rs ls (subst P (sym whole) children-among)

  -- an attribute has none
  is-attribute : held a (children_of p ts) ≡ 0 → is_some_attribute ts a ≡ true
  is-attribute none = ⊎_elim (λ l. (let z = in-held a (children_of p ts) l in absurd (omega arith))) (λ r. r) child-or-not

  pub no-following : held a (children_of p ts) ≡ 0 → on_axis FollowingSibling ts a ≡ []
  no-following none = no-one (λ b. precedes a b ts) (is-attribute none)

  pub no-preceding : held a (children_of p ts) ≡ 0 → on_axis PrecedingSibling ts a ≡ []
  no-preceding none = no-one (λ b. precedes b a ts) (is-attribute none)

module _ (ts : Trees) (a : ℕ) (none : parent_of a ts ≡ None) where
  pub alone-following : on_axis FollowingSibling ts a ≡ []
  alone-following = filter-no (λ b. are_siblings ts a b && precedes a b ts) (identities ts) (λ b _. rw none refl)

  pub alone-preceding : on_axis PrecedingSibling ts a ≡ []
  alone-preceding = filter-no (λ b. are_siblings ts a b && precedes b a ts) (identities ts) (λ b _. rw none refl)
