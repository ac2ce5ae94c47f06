-- The two forests of a shelf.
use Rattle.std.proofs.Common.{◌≡◌, ◌≢◌, ℕ, ◌+◌, ◌≤◌, ◌<◌, [], ◌∷◌, ◌++◌, refl, ap, sym, ◌∙◌, arith, ⊎_elim, Option, Some, None, IsSome, IfSome, is_some, true, false, unwrap_or, append_assoc, subst, Result, Ok, Err, IfOk, OnErr, Bool, List, map, filter, append-nil, cond, eqb, max, nat_le, nat_lt}
use Prim.Native.Nat.{suc}
use Rattle.std.proofs.lemmas.List.{map-append}
use Rattle.std.proofs.lemmas.List.Elements.{filter-append}
use Rattle.std.proofs.lemmas.Bool.{and_parts}
use Rattle.std.proofs.lemmas.Bool.Decides.{eqb_tells, nat_tests}
use Rattle.std.specs.List.{list_all}
use Rattle.data_model.specs.Axes.{is_in}
use Rattle.data_model.specs.Trees.{Trees, no_trees, tree, Content, Place, value_at, append, leaf, listing, count, size, find, first, parent_at, IsAt}
use Rattle.data_model.specs.Changes.{all_moved_below, CanAllMoveBelow, pick, ranked}
use Rattle.data_model.specs.Planted.{past}
use Rattle.node_table.specs.Plain.{IsPlainValue}
use Rattle.node_table.specs.declared.plain.PlainValue.{PlainValue}
use Rattle.shelves.specs.Parted.{IsParted}
use Rattle.data_model.specs.Tree.{TreeTerm, trees_of_tree}
use Rattle.data_model.specs.declared.node.Kind.TheVariants.{Document}
use Rattle.data_model.specs.declared.node.Kind.{Kind}
use Rattle.data_model.specs.declared.node.Part.{Part}
use Rattle.data_model.specs.Order.{identities, precedes}
use Rattle.data_model.specs.Walks.{held, seen, or_else}
use Rattle.copied_rows.specs.Copies.{WhereMade, WhereNot, grown}
use Rattle.trees.specs.Forest.{ForestTerm, IsForest, IsDocument}
use Rattle.trees.specs.Grown.{with_node}
use Rattle.shelves.specs.Shelf.{ShelfTerm, ComesAfter, IsShelf, shelf_trees}
use Rattle.data_model.proofs.Weights.{weigh-append, eqb-same}
use Rattle.node_table.proofs.Copies.{renumbered-within}
use Rattle.node_table.proofs.Plants.{past-most}
use Rattle.node_table.proofs.Puts.{weigh-moved}
use Rattle.node_table.proofs.Takes.{ltb-no}
use Rattle.data_model.proofs.Climbs.{AreDistinct, any-tells, find-absent, there-counts}
use Rattle.trees.proofs.CallerLemmas.{find-append}
use Rattle.trees.proofs.Copied.{grown-copy}
use Rattle.data_model.proofs.Firsts.{before-seen, held-identities, seen-none, seen-a, seen-b, seen-first}
use Rattle.data_model.proofs.Scans.{seen-append}
use Rattle.trees.proofs.Lent.{find-lent, find-own, has-counts, has-not-counts, lent-apart}

-- ---- what is known of both
pub shelf-facts : (u v : ForestTerm) → IsForest u → IsForest v → ComesAfter u v → IsShelf (record { lent = u; own = v })
shelf-facts u v lent own after = record {
  distinct = λ i.
      (let sum : count i (append u.trees v.trees) ≡ count i u.trees + count i v.trees = weigh-append _ u.trees v.trees in
      let one = lent.distinct i in
      let other = own.distinct i in
      ⊎_elim (λ t. (let none : count i v.trees ≡ 0 = lent-apart u v lent after.apart i t.1 in omega arith)) (λ t. (let none : count i u.trees ≡ 0 = t.1 in omega arith)) (any-tells (count i u.trees)));
  below = λ i h.
      (let sum : count i (append u.trees v.trees) ≡ count i u.trees + count i v.trees = weigh-append _ u.trees v.trees in
      ⊎_elim (λ t. (let b = lent.below i t.1 in let l = after.later in omega arith)) (λ t. (let none : count i u.trees ≡ 0 = t.1 in own.below i (omega arith))) (any-tells (count i u.trees)));
  lent = lent;
  own = own;
  after = after;
}

first-none : (a : Option Place) → first a None ≡ a
first-none None = refl
first-none (Some x) = refl

-- a node that is not of the own forest is of the lent one
pub find-not-own : (i : ℕ) (ts us : Trees) → is_some (find i us) ≡ false → find i (append ts us) ≡ find i ts
find-not-own i ts us h = find-append None i ts us ∙ ap (first (find i ts)) (find-absent None i us (has-not-counts i us h)) ∙ first-none (find i ts)

pub lent-there : (i : ℕ) (ts us : Trees) → is_some (find i us) ≡ false → IsSome (find i (append ts us)) → 0 < count i ts
lent-there i ts us h there = there-counts i ts (rw (find-not-own i ts us h) at there)

at-counts : (i : ℕ) (ts : Trees) (Q : Content → Type 0) → IsAt (find i ts) Q → 0 < count i ts
at-counts i ts Q h = ⊎_elim (λ t. t.1) (λ t. absurd (let P : Option Place → Type 0 = λ o. IsAt o Q in subst P (find-absent None i ts t.1) h)) (any-tells (count i ts))

document-both : (i : ℕ) (ts us : Trees) → IsDocument ts i → IsDocument (append ts us) i
document-both i ts us h =
    let Q : Content → Type 0 = λ c. c.kind ≡ Document in
    let P : Option Place → Type 0 = λ o. (parent_at o ≡ None) × IsAt o Q in
    subst P (sym (find-lent i ts us (at-counts i ts Q h.1))) h

pub documents-both : (o : Option ℕ) (ts us : Trees) → IfSome o (IsDocument ts) → IfSome o (IsDocument (append ts us))
documents-both None ts us h = h
documents-both (Some i) ts us h = document-both i ts us h

-- ---- what is said of a node that stands in both lists
pub plain-same : (i : ℕ) (ts us : Trees) (v : PlainValue) → find i ts ≡ find i us → pick i ts ≡ pick i us → IsPlainValue ts i v → IsPlainValue us i v
plain-same i ts us v same picked h =
    let P : Option Place → Type 0 = λ o. IsAt o (λ c. v.kind ≡ c.kind) in
    record { kind = subst P same h.kind; text = h.text ∙ ap value_at same; size = h.size ∙ ap size picked }

-- ---- forests that a number parts
pub parted-shelf : (s : ShelfTerm) → IsShelf s → IsParted s.lent.next s.lent.trees s.own.trees
parted-shelf s h = record { below = h.lent.below; above = h.after.apart }

-- a shelf's own two forests
pub parted-inside : (u v : ForestTerm) (s : ShelfTerm) → record { lent = u; own = v } ≡ s → IsShelf s → IsParted u.next u.trees v.trees
parted-inside u v s is h =
    let P : ShelfTerm → Type 0 = λ t. IsParted t.lent.next t.lent.trees t.own.trees in
    subst P (sym is) (parted-shelf s h)

module _ (n i : ℕ) (ts us : Trees) (h : IsParted n ts us) where
  pub parted-lent : i < n → find i (append ts us) ≡ find i ts
  parted-lent l =
      let none : count i us ≡ 0 = ⊎_elim (λ t. (let m = h.above i t.1 in absurd (omega (arith, l, m)))) (λ t. t.1) (any-tells (count i us)) in
      find-append None i ts us ∙ ap (first (find i ts)) (find-absent None i us none) ∙ first-none (find i ts)

  pub parted-own : n ≤ i → find i (append ts us) ≡ find i us
  parted-own l = find-own i ts us (⊎_elim (λ t. (let m = h.below i t.1 in absurd (omega (arith, l, m)))) (λ t. t.1) (any-tells (count i ts)))

-- ---- document order
listing-append : (ts us : Trees) → listing (append ts us) ≡ listing ts ++ listing us
listing-append no_trees us = refl
listing-append (tree c bs cs rest) us = rw (listing-append rest us) (sym (append_assoc ((c ∷ listing bs) ++ listing cs) (listing rest) (listing us)))

seen-both : (a b : ℕ) (ts us : Trees) → precedes a b (append ts us) ≡ unwrap_or (or_else (seen a b (identities ts)) (seen a b (identities us))) false
seen-both a b ts us =
    let n : Content → ℕ = λ d. d.identity in
    before-seen a b (identities (append ts us)) ∙ ap (λ (cs : List Content). unwrap_or (seen a b (map n cs)) false) (listing-append ts us)
    ∙ ap (λ xs. unwrap_or (seen a b xs) false) (map-append n (listing ts) (listing us)) ∙ ap (λ o. unwrap_or o false) (seen-append a b (identities ts) (identities us))

-- what of both forests' nodes passes a test
pub passing-both : (p : ℕ → Bool) (ts us : Trees) → filter p (identities (append ts us)) ≡ filter p (identities ts) ++ filter p (identities us)
passing-both p ts us =
    let n : Content → ℕ = λ d. d.identity in
    ap (λ (cs : List Content). filter p (map n cs)) (listing-append ts us) ∙ ap (filter p) (map-append n (listing ts) (listing us)) ∙ filter-append p (identities ts) (identities us)

none-pass : (p : ℕ → Bool) (us : Trees) → size us ≡ 0 → filter p (identities us) ≡ []
none-pass p no_trees h = refl
none-pass p (tree c bs cs rest) h = absurd (omega arith)

pub passing-lent : (p : ℕ → Bool) (ts us : Trees) → size us ≡ 0 → filter p (identities (append ts us)) ≡ filter p (identities ts)
passing-lent p ts us h = passing-both p ts us ∙ ap (λ l. filter p (identities ts) ++ l) (none-pass p us h) ∙ append-nil (filter p (identities ts))

-- what of a list passes a test
among : (t : ℕ → Bool) (ids : List ℕ) (i : ℕ) → list_all t ids ≡ true → is_in i ids ≡ true → t i ≡ true
among t [] i all at = let z : false ≡ true = at in cc
among t (j ∷ js) i all at =
    ⊎_elim (λ (s : (eqb i j ≡ true) × (i ≡ j)). ap t s.1 ∙ (and_parts (t j) (list_all t js) all).0)
    (λ (s : (eqb i j ≡ false) × (i ≢ j)). among t js i (and_parts (t j) (list_all t js) all).1 (rw s.0 at at))
    (eqb_tells i j)

refuted : (b : Bool) → (b ≡ true → ⊥) → b ≡ false
refuted true h = absurd (h refl)
refuted false h = refl

none-held : (p : ℕ → Bool) (xs : List ℕ) → ((i : ℕ) → 0 < held i xs → p i ≡ false) → filter p xs ≡ []
none-held p [] h = refl
none-held p (x ∷ xs) h = rw (h x (rw (eqb-same x) (omega arith))) (none-held p xs (λ i l. h i (omega (arith, l))))

-- nodes that the own forest alone may have, and those that the lent one alone may have
module _ (n : ℕ) (ts us : Trees) (h : IsParted n ts us) (ids : List ℕ) where
  pub all-own : list_all (λ i. nat_le n i) ids ≡ true → filter (λ i. is_in i ids) (identities (append ts us)) ≡ filter (λ i. is_in i ids) (identities us)
  all-own all =
      passing-both (λ i. is_in i ids) ts us
      ∙ ap (λ l. l ++ filter (λ i. is_in i ids) (identities us))
      (none-held (λ i. is_in i ids) (identities ts)
      (λ i l.
      (let e = held-identities i ts in
      let low : i < n = h.below i (omega (arith, e, l)) in
      refuted (is_in i ids) (λ at. (let high : nat_le n i ≡ true = among (λ j. nat_le n j) ids i all at in grind (arith, nat_tests))))))

  pub all-lent : list_all (λ i. nat_lt i n) ids ≡ true → filter (λ i. is_in i ids) (identities (append ts us)) ≡ filter (λ i. is_in i ids) (identities ts)
  all-lent all =
      passing-both (λ i. is_in i ids) ts us
      ∙ ap (λ l. filter (λ i. is_in i ids) (identities ts) ++ l)
      (none-held (λ i. is_in i ids) (identities us)
      (λ i l.
      (let e = held-identities i us in
      let high : n ≤ i = h.above i (omega (arith, e, l)) in
      refuted (is_in i ids) (λ at. (let low : nat_lt i n ≡ true = among (λ j. nat_lt j n) ids i all at in grind (arith, nat_tests))))))
      ∙ append-nil (filter (λ i. is_in i ids) (identities ts))

module _ (a b : ℕ) (ts us : Trees) where
  held-some : (i : ℕ) → 0 < count i ts → 0 < held i (identities ts)
  held-some i h = omega (arith, held-identities i ts)

  held-none : (i : ℕ) → count i ts ≡ 0 → held i (identities ts) ≡ 0
  held-none i h = omega (arith, held-identities i ts)

  pub precedes-lent : 0 < count a ts → precedes a b (append ts us) ≡ precedes a b ts
  precedes-lent h = seen-both a b ts us ∙ ap (λ o. unwrap_or o false) (seen-first a b (identities ts) _ (held-some a h)) ∙ sym (before-seen a b (identities ts))

  pub precedes-first : 0 < count a ts → count b ts ≡ 0 → precedes a b (append ts us) ≡ true
  precedes-first h k = seen-both a b ts us ∙ ap (λ o. unwrap_or (or_else o (seen a b (identities us))) false) (seen-a a b (identities ts) (held-some a h) (held-none b k))

  pub precedes-last : count a ts ≡ 0 → 0 < count b ts → precedes a b (append ts us) ≡ false
  precedes-last h k = seen-both a b ts us ∙ ap (λ o. unwrap_or (or_else o (seen a b (identities us))) false) (seen-b a b (identities ts) (held-none a h) (held-some b k))

  pub precedes-own : count a ts ≡ 0 → count b ts ≡ 0 → precedes a b (append ts us) ≡ precedes a b us
  precedes-own h k = seen-both a b ts us ∙ ap (λ o. unwrap_or (or_else o (seen a b (identities us))) false) (seen-none a b (identities ts) (held-none a h) (held-none b k)) ∙ sym (before-seen a b (identities us))

-- by what is known of a shelf
module _ (u v : ForestTerm) (s : ShelfTerm) (is : record { lent = u; own = v } ≡ s) (facts : IsForest u) (after : ComesAfter u v) (a : ℕ) where
  pub own-counts : true ≡ is_some (find a s.own.trees) → count a u.trees ≡ 0
  own-counts h =
      let there = has-counts a v.trees (ap (λ (t : ShelfTerm). is_some (find a t.own.trees)) is ∙ sym h) in
      ⊎_elim (λ t. (let none : count a v.trees ≡ 0 = lent-apart u v facts after.apart a t.1 in absurd (omega arith))) (λ t. t.1) (any-tells (count a u.trees))

  pub lent-counts : false ≡ is_some (find a s.own.trees) → IsSome (find a (shelf_trees s)) → 0 < count a u.trees
  lent-counts h there =
      lent-there a u.trees v.trees (ap (λ (t : ShelfTerm). is_some (find a t.own.trees)) is ∙ sym h) (let P : ShelfTerm → Type 0 = λ t. IsSome (find a (shelf_trees t)) in subst P (sym is) there)

-- ---- changes of the own forest
pub after-same : (u v w : ForestTerm) → ComesAfter u v → w ≡ v → ComesAfter u w
after-same u v w h e = let P : ForestTerm → Type 0 = ComesAfter u in subst P (sym e) h

-- trees of the same nodes
pub after-weighed : (u v w : ForestTerm) (ts : Trees) → ComesAfter u v → ((i : ℕ) → count i ts ≡ count i v.trees) → w ≡ record v { trees = ts } → ComesAfter u w
after-weighed u v w ts h same e = after-same u (record v { trees = ts }) w (record { documents = h.documents; later = h.later; apart = λ i k. h.apart i (let z = same i in omega arith) }) e

-- more trees, with later identities
pub after-more : (u v w : ForestTerm) (us : Trees) (n : ℕ) → ComesAfter u v → v.next ≤ n → ((i : ℕ) → 0 < count i us → v.next ≤ i) → w ≡ record v { trees = append v.trees us; next = n } → ComesAfter u w
after-more u v w us n h le later e =
    let l = h.later in
    after-same u (record v { trees = append v.trees us; next = n }) w
    (record {
      documents = h.documents;
      later = omega arith;
      apart = λ i k. (let sum : count i (append v.trees us) ≡ count i v.trees + count i us = weigh-append _ v.trees us in
          ⊎_elim (λ t. h.apart i t.1) (λ t. (let z = later i (omega arith) in omega arith)) (any-tells (count i v.trees)));
    }) e

pub after-either : {A E : Type 0} (r : Result A E) (P : A → Type 0) (u v w : ForestTerm) → ComesAfter u v → ((x : A) → P x → ComesAfter u w) → IfOk r P → OnErr r (w ≡ v) → ComesAfter u w
after-either (Ok x) P u v w h f made same = f x made
after-either (Err e) P u v w h f made same = after-same u v w h same

pub after-made : {A E : Type 0} (r : Result (Option A) E) (P : A → Type 0) (u v w : ForestTerm) → ComesAfter u v → ((x : A) → P x → ComesAfter u w) → WhereMade r P → WhereNot r (w ≡ v) → ComesAfter u w
after-made (Ok (Some x)) P u v w h f made same = f x made
after-made (Ok None) P u v w h f made same = after-same u v w h same
after-made (Err e) P u v w h f made same = after-same u v w h same

-- a new node with copies of some trees, with later identities
pub after-grown : (u v w : ForestTerm) (k : Kind) (name : List ℕ) (us : Trees) → ComesAfter u v → w ≡ with_node k name us v → ComesAfter u w
after-grown u v w k name us h e =
    let node : Content = record { identity = v.next; kind = k; name = name; text = [] } in
    let one = tree node no_trees us no_trees in
    after-more u v w (grown node us) (v.next + 1 + size us) h (omega arith) (λ j there. (let P : Trees → Type 0 = λ t. 0 < count j t in (renumbered-within v.next j one (subst P (grown-copy node us) there)).0)) e

pub one-leaf : (i : ℕ) (c : Content) → count i (leaf c) ≤ 1
one-leaf i c = ⊎_elim (λ t. rw t.0 (omega arith)) (λ t. rw t.0 (omega arith)) (eqb_tells i c.identity)

pub count-leaf : (i : ℕ) (c : Content) → 0 < count i (leaf c) → i ≡ c.identity
count-leaf i c h = ⊎_elim (λ t. t.1) (λ t. (let z = rw t.0 at h in absurd (omega arith))) (eqb_tells i c.identity)

-- trees that move count as they did
pub count-all-moved : (part : Part) (p m : ℕ) (ks : List ℕ) (ts : Trees) → AreDistinct ts → CanAllMoveBelow part p m ks ts → (i : ℕ) → count i (all_moved_below part p m ks ts) ≡ count i ts
count-all-moved part p m [] ts d can i = refl
count-all-moved part p m (k ∷ ks) ts d can i =
    let there = there-counts p ts can.0.there in
    let most = d p in
    let one : count p ts ≡ 1 = omega arith in
    let same = λ (j : ℕ). weigh-moved (λ x. cond (eqb j x) 1 0) part m p k ts one can.0.apart in
    count-all-moved part p (suc m) ks _ (λ j. (let e = same j in let l = d j in omega arith)) can.1 i ∙ same i

-- ---- a tree that is planted after all others
ranked-last : (k : ℕ) (us ts : Trees) → ((i : ℕ) → 0 < count i ts → i < k) → ranked k us ts ≡ append ts us
ranked-last k us no_trees h = refl
ranked-last k us (tree c bs cs rest) h =
    rw (ltb-no k c.identity (h c.identity (rw (eqb-same c.identity) (omega arith)))) (ap (tree c bs cs) (ranked-last k us rest (λ i there. h i (omega arith))))

module _ (u v : ForestTerm) (s : ShelfTerm) (is : record { lent = u; own = v } ≡ s) (t : TreeTerm) (facts : IsForest v) (distinct : AreDistinct (trees_of_tree t)) (least : (i : ℕ) → 0 < count i (trees_of_tree t) → t.content.identity ≤ i)
    (below : (i : ℕ) → 0 < count i (trees_of_tree t) → i < s.own.next) (later : (i : ℕ) → 0 < count i s.own.trees → i < t.content.identity) (lent : s.lent.next ≤ t.content.identity) where
  abbrev us : Trees
  us = trees_of_tree t

  own-before : (i : ℕ) → 0 < count i v.trees → i < t.content.identity
  own-before i there = later i (let P : ShelfTerm → Type 0 = λ x. 0 < count i x.own.trees in subst P is there)

  within : (i : ℕ) → 0 < count i us → i < v.next
  within i there = let P : ShelfTerm → Type 0 = λ x. i < x.own.next in subst P (sym is) (below i there)

  pub planted-distinct : (i : ℕ) → count i (append v.trees us) ≤ 1
  planted-distinct i =
      let sum : count i (append v.trees us) ≡ count i v.trees + count i us = weigh-append _ v.trees us in
      let one = facts.distinct i in
      let other = distinct i in
      ⊎_elim (λ x. (let least_i = least i x.1 in ⊎_elim (λ y. (let l = own-before i y.1 in absurd (omega arith))) (λ y. (let none : count i v.trees ≡ 0 = y.1 in omega arith)) (any-tells (count i v.trees)))) (λ x. (let none : count i us ≡ 0 = x.1 in omega arith)) (any-tells (count i us))

  pub planted-is : (w : ForestTerm) → w ≡ record v { trees = ranked t.content.identity us v.trees; next = max v.next (past us) } → w ≡ record v { trees = append v.trees us }
  planted-is w e =
      let most : past us ≤ v.next = past-most v.next us within in
      let next : max v.next (past us) ≡ v.next = omega arith in
      let trees : ranked t.content.identity us v.trees ≡ append v.trees us = ranked-last t.content.identity us v.trees own-before in
      let after : Trees → ℕ → ForestTerm = λ ts n. record v { trees = ts; next = n } in
      e ∙ ap (λ ts. after ts (max v.next (past us))) trees ∙ ap (after (append v.trees us)) next

  pub planted-after : (w : ForestTerm) → ComesAfter u v → w ≡ record v { trees = ranked t.content.identity us v.trees; next = max v.next (past us) } → ComesAfter u w
  planted-after w h e =
      let first : u.next ≤ t.content.identity = (let P : ShelfTerm → Type 0 = λ x. x.lent.next ≤ t.content.identity in subst P (sym is) lent) in
      after-same u (record v { trees = append v.trees us }) w
      (record {
        documents = h.documents;
        later = h.later;
        apart = λ i k. (let sum : count i (append v.trees us) ≡ count i v.trees + count i us = weigh-append _ v.trees us in
            ⊎_elim (λ x. h.apart i x.1) (λ x. (let none : count i v.trees ≡ 0 = x.1 in let z = least i (omega arith) in omega arith)) (any-tells (count i v.trees)));
      }) (planted-is w e)

-- ---- where a node stands is told by its identity
pub found-lent : (u v : ForestTerm) → ComesAfter u v → (i : ℕ) → i < u.next → find i (append u.trees v.trees) ≡ find i u.trees
found-lent u v after i below =
    let none : count i v.trees ≡ 0 = ⊎_elim (λ t. (let a = after.apart i t.1 in absurd (omega arith))) (λ t. t.1) (any-tells (count i v.trees)) in
    find-append None i u.trees v.trees ∙ ap (first (find i u.trees)) (find-absent None i v.trees none) ∙ first-none (find i u.trees)

pub found-own : (u v : ForestTerm) → IsForest u → (i : ℕ) → u.next ≤ i → find i (append u.trees v.trees) ≡ find i v.trees
found-own u v facts i past = find-own i u.trees v.trees (⊎_elim (λ t. (let b = facts.below i t.1 in absurd (omega arith))) (λ t. t.1) (any-tells (count i u.trees)))
