-- A list of nodes whose places rise is the listing filtered by it.
use Prim.Native.Nat.{suc}
use Rattle.std.proofs.Common.{◌≡◌, ◌≢◌, ℕ, ◌+◌, ◌<◌, ◌≤◌, Bool, true, false, ◌||◌, List, [], ◌∷◌, length, get_or, map, filter, cond, eqb, refl, ap, sym, ◌∙◌, arith, ⊎_elim, inl, inr, subst, Some, unwrap_or, All, nat_cmp, Ordering, Less, Equal, Greater}
use Rattle.std.specs.List.{dedup, dedup_from, list_any}
use Rattle.std.specs.List.Sorted.{IsPermutation}
use Rattle.std.specs.Ordering.{ordering_then, is_lt}
use Rattle.std.specs.Cmp.Lexicographic.{slice_cmp}
use Rattle.std.proofs.lemmas.Bool.Decides.{nat_tests, eqb_tells}
use Rattle.std.proofs.lemmas.Cmp.{same_from_slice_cmp}
use Rattle.std.proofs.lemmas.List.Sorted.{All-permutation, list_any-IsPermutation}
use Rattle.data_model.specs.Trees.{Trees, count}
use Rattle.data_model.specs.Order.{identities, comes_before}
use Rattle.data_model.specs.Walks.{held}
use Rattle.data_model.specs.Axes.{is_in}
use Rattle.data_model.proofs.Climbs.{AreDistinct}
use Rattle.data_model.proofs.Firsts.{eqb-swap, held-identities, before-seen}
use Rattle.node_table.specs.declared.label.Labelled.{Labelled}
use Rattle.node_table.specs.Labels.{Orders, label_of, lists_before}
use Rattle.node_table.specs.Rising.{Follows, Rises}
use Rattle.node_table.proofs.Labels.{seen-by-labels}
use Rattle.node_table.proofs.LabelSteps.{seen-other}
use Rattle.node_table.proofs.Axes.{Among, filter-among, filter-same}

-- ---- lists that rise in another
abbrev Avoids : ℕ → List ℕ → Type 0
Avoids x [] = Unit {0}
Avoids x (y ∷ ys) = (eqb x y ≡ false) × Avoids x ys

not-first : (y z x : ℕ) (xs : List ℕ) → comes_before y z (x ∷ xs) ≡ true → eqb x z ≡ false
not-first y z x xs h = ⊎_elim (λ t. (let w = rw t.0 at h in cc)) (λ t. t.0) (eqb_tells x z)

follows-avoid : (y x : ℕ) (ys xs : List ℕ) → Rises (y ∷ ys) (x ∷ xs) → Avoids x ys
follows-avoid y x [] xs h = tt
follows-avoid y x (z ∷ ys) xs h = (not-first y z x xs h.1, follows-avoid z x ys xs h.2)

held-later : (x y : ℕ) (xs : List ℕ) → eqb x y ≡ false → 0 < held y (x ∷ xs) → 0 < held y xs
held-later x y xs ne h = (let z = rw (eqb-swap x y false ne) at h in omega arith)

rises-later : (x : ℕ) (ys xs : List ℕ) → Avoids x ys → Rises ys (x ∷ xs) → Rises ys xs
rises-later x [] xs a h = tt
rises-later x (y ∷ []) xs a h = (held-later x y xs a.0 h.0, tt, tt)
rises-later x (y ∷ z ∷ ys) xs a h = (held-later x y xs a.0 h.0, (let k = h.1 in rw (a.1.0, a.0) at k), rises-later x (z ∷ ys) xs a.1 h.2)

pub rises-among : (ys xs : List ℕ) → Rises ys xs → Among ys xs
unfolding Among
rises-among [] xs h = tt
rises-among (y ∷ ys) [] h = absurd (omega arith)
rises-among (y ∷ ys) (x ∷ xs) h =
    let others = follows-avoid y x ys xs h in
    ⊎_elim (λ t. inl (sym t.1, rises-among ys xs (rises-later x ys xs others h.2)))
    (λ t. inr (rises-among (y ∷ ys) xs (rises-later x (y ∷ ys) xs (t.0, others) h))) (eqb_tells x y)

-- what rises in document order, and has those members of a list that stand in the trees, is the listing filtered by that list
pub in-document-order : (ids ys : List ℕ) (ts : Trees) → AreDistinct ts → ((i : ℕ) → 0 < count i ts → is_in i ids ≡ is_in i ys) → Rises ys (identities ts) → filter (λ i. is_in i ids) (identities ts) ≡ ys
in-document-order ids ys ts d same up =
    filter-same (λ i. is_in i ids) (λ i. is_in i ys) (identities ts) (λ i h. same i (let e = held-identities i ts in omega arith)) ∙ filter-among ys (identities ts) (λ i. (let z = d i in let e = held-identities i ts in omega arith)) (rises-among ys (identities ts) up)

-- a node alone
pub one-in-order : (a : ℕ) (ts : Trees) → AreDistinct ts → 0 < count a ts → filter (λ i. is_in i (a ∷ [])) (identities ts) ≡ a ∷ []
one-in-order a ts d there = in-document-order (a ∷ []) (a ∷ []) ts d (λ i h. refl) ((let e = held-identities a ts in omega arith), tt, tt)

-- ---- a list without what comes right after itself
-- each of the list, which k comes before, stands in xs, and is the one before it or comes after that
abbrev RisesFrom : List ℕ → ℕ → List ℕ → Type 0
RisesFrom xs k [] = Unit {0}
RisesFrom xs k (n ∷ ns) = (0 < held n xs) × (k ≢ n → comes_before k n xs ≡ true) × RisesFrom xs n ns

once-follows : (k n : ℕ) (ns xs : List ℕ) → comes_before k n xs ≡ true → Follows k (dedup_from eqb n ns) xs
once-follows k n [] xs h = h
once-follows k n (m ∷ ns) xs h = ⊎_elim (λ t. rw t.0 (once-follows k n ns xs h)) (λ t. rw t.0 h) (eqb_tells m n)

once-rises : (k : ℕ) (ns xs : List ℕ) → 0 < held k xs → RisesFrom xs k ns → Rises (dedup_from eqb k ns) xs
once-rises k [] xs h r = (h, tt, tt)
once-rises k (n ∷ ns) xs h r =
    ⊎_elim (λ t. rw t.0 (once-rises k ns xs h (subst (λ j. RisesFrom xs j ns) t.1 r.2))) (λ t. rw t.0 (h, once-follows k n ns xs (r.1 (λ e. t.1 (sym e))), once-rises n ns xs r.0 r.2)) (eqb_tells n k)

or-again : (a b : Bool) → a || b ≡ a || (a || b)
or-again true b = refl
or-again false b = refl

once-in : (i k : ℕ) (ns : List ℕ) → is_in i (dedup_from eqb k ns) ≡ is_in i (k ∷ ns)
once-in i k [] = refl
once-in i k (n ∷ ns) =
    ⊎_elim (λ t. rw t.0 (once-in i k ns ∙ or-again (eqb i k) (is_in i ns) ∙ ap (λ j. eqb i k || (eqb i j || is_in i ns)) (sym t.1))) (λ t. rw t.0 (ap (λ b. eqb i k || b) (once-in i n ns))) (eqb_tells n k)

pub once-same : (i : ℕ) (ns : List ℕ) → is_in i (dedup eqb ns) ≡ is_in i ns
once-same i [] = refl
once-same i (n ∷ ns) = once-in i n ns

-- ---- nodes and their labels
nodes-in : (i : ℕ) (xs : List Labelled) → is_in i (map (λ x. x.node) xs) ≡ list_any (λ x. eqb i x.node) xs
nodes-in i [] = refl
nodes-in i (x ∷ xs) = ap (λ b. eqb i x.node || b) (nodes-in i xs)

pub filter-in : (p : ℕ → Bool) (i : ℕ) (ids : List ℕ) → p i ≡ true → is_in i (filter p ids) ≡ is_in i ids
filter-in p i [] h = refl
filter-in p i (x ∷ ids) h = by (p x) refl (filter-in p i ids h)
  where
    by : (b : Bool) → p x ≡ b → is_in i (filter p ids) ≡ is_in i ids → is_in i (cond b (x ∷ filter p ids) (filter p ids)) ≡ is_in i (x ∷ ids)
    by true e r = ap (λ b. eqb i x || b) r
    by false e r = ⊎_elim (λ t. (let z : true ≡ false = sym h ∙ ap p t.1 ∙ e in cc)) (λ t. rw t.0 r) (eqb_tells i x)

labels-compare : (l m : List ℕ) → is_lt (slice_cmp nat_cmp l m) ≡ lists_before l m
labels-compare l m = same_from_slice_cmp nat_cmp is_lt lists_before refl (λ _ _. refl) (λ _ _. refl) (λ x y xs ys o h. grind (arith, nat_tests)) l m _ refl

-- pairs compare by their labels first
abbrev pub compare : Labelled → Labelled → Ordering
compare x y = ordering_then (slice_cmp nat_cmp x.label.items y.label.items) (nat_cmp x.node y.node)

no-less : (a b : Ordering) → is_lt (ordering_then a b) ≡ false → is_lt a ≡ false
no-less Less b h = h
no-less Equal b h = refl
no-less Greater b h = refl

module _ (w : ℕ → ℕ) (ts : Trees) (o : Orders w ts) where
  abbrev IsLabelled : Labelled → Type 0
  IsLabelled x = (0 < count x.node ts) × (x.label.items ≡ label_of w x.node ts)

  comes-next : (x y : Labelled) → IsLabelled x → IsLabelled y → is_lt (compare y x) ≡ false → x.node ≢ y.node → comes_before x.node y.node (identities ts) ≡ true
  comes-next x y hx hy le ne =
      let later : lists_before (label_of w y.node ts) (label_of w x.node ts) ≡ false =
      ap (λ l. lists_before l (label_of w x.node ts)) (sym hy.1) ∙ ap (lists_before y.label.items) (sym hx.1) ∙ sym (labels-compare y.label.items x.label.items) ∙ no-less _ _ le in
      before-seen x.node y.node (identities ts) ∙ ap (λ b. unwrap_or b false)
      (seen-other y.node x.node (identities ts) (λ e. ne (sym e)) (seen-by-labels (λ i. i) w y.node x.node ts o.distinct o.roots o.below hy.0 hx.0 ∙ ap Some later))

  rises-from : (x : Labelled) (xs : List Labelled) → ((k : ℕ) (d : Labelled) → k < length (x ∷ xs) → IsLabelled (get_or (x ∷ xs) k d))
      → ((k : ℕ) (d : Labelled) → suc k < length (x ∷ xs) → is_lt (compare (get_or (x ∷ xs) (suc k) d) (get_or (x ∷ xs) k d)) ≡ false) → RisesFrom (identities ts) x.node (map (λ y. y.node) xs)
  rises-from x [] all s = tt
  rises-from x (y ∷ xs) all s =
      let hx = all 0 x (omega arith) in
      let hy = all 1 x (omega arith) in (
        (let e = held-identities y.node ts in let there = hy.0 in omega arith),
        comes-next x y hx hy (s 0 x (omega arith)),
        rises-from y xs (λ k d l. all (suc k) d (omega (arith, l))) (λ k d l. s (suc k) d (omega (arith, l))),
      )

  -- nodes in the order of their labels, each once, are the listing filtered by a list that has them
  pub by-labels-in-order : (p : ℕ → Bool) (ids : List ℕ) (xs ys : List Labelled) → ((i : ℕ) → 0 < count i ts → p i ≡ true) → map (λ x. x.node) xs ≡ filter p ids → IsPermutation xs ys
      → All (λ x. 0 < count x.node ts) xs → All (λ x. x.label.items ≡ label_of w x.node ts) xs → ((k : ℕ) (d : Labelled) → 0 ≤ k → k + 1 < length ys → is_lt (compare (get_or ys (k + 1) d) (get_or ys k d)) ≡ false)
      → filter (λ i. is_in i ids) (identities ts) ≡ dedup eqb (map (λ x. x.node) ys)
  by-labels-in-order p ids xs ys stands own moved there labels s =
      in-document-order ids (dedup eqb (map (λ x. x.node) ys)) ts o.distinct
      (λ i h. sym (filter-in p i ids (stands i h)) ∙ ap (is_in i) (sym own) ∙ nodes-in i xs ∙ list_any-IsPermutation (λ x. eqb i x.node) xs ys moved ∙ sym (nodes-in i ys) ∙ sym (once-same i (map (λ x. x.node) ys)))
      (rises ys (All-permutation (λ x. 0 < count x.node ts) xs ys moved there) (All-permutation (λ x. x.label.items ≡ label_of w x.node ts) xs ys moved labels) s)
    where
      rises : (zs : List Labelled) → All (λ x. 0 < count x.node ts) zs → All (λ x. x.label.items ≡ label_of w x.node ts) zs
          → ((k : ℕ) (d : Labelled) → 0 ≤ k → k + 1 < length zs → is_lt (compare (get_or zs (k + 1) d) (get_or zs k d)) ≡ false) → Rises (dedup eqb (map (λ x. x.node) zs)) (identities ts)
      rises [] a b c = tt
      rises (z ∷ zs) a b c =
          once-rises z.node (map (λ x. x.node) zs) (identities ts) (let e = held-identities z.node ts in let here = a 0 z (omega arith) in omega arith)
          (rises-from z zs (λ k d l. (a k d l, b k d l))
          (λ k d l. subst (λ j. is_lt (compare (get_or (z ∷ zs) j d) (get_or (z ∷ zs) k d)) ≡ false) (let e : k + 1 ≡ suc k = omega arith in e) (c k d (omega arith) (omega (arith, l)))))

pub one-of : (xs : List ℕ) (x : ℕ) → length xs ≡ 1 → x ≡ get_or xs 0 x → xs ≡ x ∷ []
one-of [] x n is = absurd (omega arith)
one-of (y ∷ []) x n is = ap (λ z. z ∷ []) (sym is)
one-of (y ∷ z ∷ xs) x n is = absurd (omega arith)
