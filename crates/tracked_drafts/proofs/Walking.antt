-- The walk over the nodes of some trees, turn by turn.
use Prim.Native.Nat.{suc}
use Rattle.std.proofs.Common.{◌≡◌, ℕ, ◌+◌, ◌≤◌, ◌<◌, Bool, true, false, ◌||◌, cond, eqb, List, [], ◌∷◌, ◌++◌, take, drop, length, get_or, Option, Some, None, IsSome, refl, ap, sym, ◌∙◌, subst, arith}
use Rattle.std.proofs.lemmas.List.{take-append-le, drop-append-le, take-append-drop, take_more, append_assoc, get_or_default}
use Rattle.std.proofs.lemmas.List.Sums.{sum_by-cons, sum_by-append, sum_by_push, sum_by-take-le}
use Rattle.std.proofs.Math.ListN.{drop_of_length-le}
use Rattle.std.specs.List.{sum_by, All}
use Rattle.data_model.specs.Changes.{pick}
use Rattle.data_model.specs.Trees.{Trees, weigh, count, size, find, attributes_of, children_of, attributes_at, children_at, roots, Place}
use Rattle.data_model.specs.Views.{Views}
use Rattle.data_model.specs.declared.node.NodeView.{NodeView}
use Rattle.data_model.proofs.Climbs.{AreDistinct, find-present, there-counts}
use Rattle.data_model.proofs.Lists.{drop-turn}
use Rattle.data_model.proofs.Weights.{eqb-same}
use Rattle.pending.specs.Compatible.{is_among, has_repeat}
use Rattle.update_meaning.specs.Changed.{rooted_at, chosen}
use Rattle.chosen_drafts.specs.Chosen.{IsRoot, AreNodesOf}
use Rattle.chosen_drafts.proofs.Chosen.{counts-both, sizes-both}
use Rattle.chosen_drafts.proofs.Listed.{listed-counts, listed-length}
use Rattle.tracked_drafts.specs.Walked.{below, AreApart, AreThere, Walked}
use Rattle.tracked_drafts.proofs.Roots.{at-roots, more-roots, no-roots}
use Rattle.tracked_drafts.proofs.Walks.{below-append, below-roots, there-append, roots-there, tree-at, IsTreeAt}

-- ---- a node and its lists
pub record HasLists (k : ℕ) (xs : List ℕ) (ts : Trees) : Type 0 where
  pub whole : (w : ℕ → ℕ) → weigh w (pick k ts) ≡ w k + below w xs ts
  pub there : AreThere xs ts

pub its-lists : (k : ℕ) (ts : Trees) → AreDistinct ts → 0 < count k ts → HasLists k (attributes_of k ts ++ children_of k ts) ts
its-lists k ts d h = by (find k ts) refl (find-present None k ts h)
  where
    less : (x : Place) → IsTreeAt k x ts → AreDistinct x.attributes × AreDistinct x.children
    less x t = (
      λ i. (let w : ℕ → ℕ = λ j. cond (eqb i j) 1 0 in omega (arith, t.whole w, t.least w, d i)),
      λ i. (let w : ℕ → ℕ = λ j. cond (eqb i j) 1 0 in omega (arith, t.whole w, t.least w, d i)),
    )

    by : (o : Option Place) → find k ts ≡ o → IsSome o → HasLists k (attributes_at o ++ children_at o) ts
    by None e s = cc
    by (Some x) e s =
        let t = tree-at None k x ts d e in
        let l = less x t in
        record {
          whole = λ w. omega (arith, t.whole w, below-append w (roots x.attributes) (roots x.children) ts, below-roots w x.attributes ts l.0 t.attributes, below-roots w x.children ts l.1 t.children);
          there = there-append (roots x.attributes) (roots x.children) ts (roots-there x.attributes ts l.0 t.attributes) (roots-there x.children ts l.1 t.children);
        }

-- ---- the roots
begun : (w : ℕ → ℕ) (ts : Trees) (is : List ℕ) → AreDistinct ts → has_repeat is ≡ false → All (IsRoot ts) is → below w is ts ≡ weigh w (chosen (rooted_at is) ts)
begun w ts [] d r all = sym (no-roots w ts)
begun w ts (i ∷ is) d r all =
    let root : IsRoot ts i = all 0 i (omega arith) in
    let more = begun w ts is d (right (is_among is i) (has_repeat is) r) (λ k e l. all (suc k) e (omega (arith, l))) in
    omega (arith, more, more-roots w i is ts (left (is_among is i) (has_repeat is) r) (at-roots i ts d root.1))
  where
    left : (a b : Bool) → (a || b) ≡ false → a ≡ false
    left true b h = h
    left false b h = refl

    right : (a b : Bool) → (a || b) ≡ false → b ≡ false
    right true b h = cc
    right false b h = h

roots-stand : (ts : Trees) (is : List ℕ) → All (IsRoot ts) is → AreThere is ts
roots-stand ts [] all = tt
roots-stand ts (i ∷ is) all = (there-counts i ts (all 0 i (omega arith)).0, roots-stand ts is (λ k e l. all (suc k) e (omega (arith, l))))

pub walk-begins : (ts : Trees) (is : List ℕ) → AreDistinct ts → has_repeat is ≡ false → All (IsRoot ts) is → Walked ts (chosen (rooted_at is) ts) is 0
walk-begins ts is d r all = record { same = λ w. omega (arith, begun w ts is d r all); there = roots-stand ts is all }

-- ---- what is noted is noted once
least : (w : ℕ → ℕ) (is : List ℕ) (ts : Trees) → AreDistinct ts → AreThere is ts → sum_by w is ≤ below w is ts
least w [] ts d a = omega arith
least w (i ∷ is) ts d a = omega (arith, sum_by-cons w i is, (its-lists i ts d a.0).whole w, least w is ts d a.1)

noted-least : (w : ℕ → ℕ) (ts us : Trees) (is : List ℕ) (at : ℕ) → AreDistinct ts → Walked ts us is at → sum_by w is ≤ weigh w us
noted-least w ts us is at d h =
    let sum : sum_by w is ≡ sum_by w (take at is) + sum_by w (drop at is) = ap (sum_by w) (sym (take-append-drop at is)) ∙ sum_by-append w (take at is) (drop at is) in
    omega (arith, sum, h.same w, least w (drop at is) ts d h.there)

pub walk-apart : (ts : Trees) (rs is : List ℕ) (at : ℕ) → AreDistinct ts → Walked ts (chosen (rooted_at rs) ts) is at → AreApart is
walk-apart ts rs is at d h = λ i. omega (arith, noted-least (λ j. cond (eqb i j) 1 0) ts (chosen (rooted_at rs) ts) is at d h, counts-both rs i ts, d i)

-- ---- a turn
pub walk-on : (ts us : Trees) (is : List ℕ) (at k : ℕ) → AreDistinct ts → at < length is → k ≡ get_or is at k → Walked ts us is at → Walked ts us (is ++ (attributes_of k ts ++ children_of k ts)) (at + 1)
walk-on ts us is at k d l e h =
    let xs = attributes_of k ts ++ children_of k ts in
    let left : drop at is ≡ k ∷ drop (at + 1) is = drop-turn is at k l e in
    let there : AreThere (k ∷ drop (at + 1) is) ts = subst (λ (js : List ℕ). AreThere js ts) left h.there in
    let lists = its-lists k ts d there.0 in
    let done : take (at + 1) (is ++ xs) ≡ take at is ++ k ∷ [] = take-append-le (at + 1) is xs (omega (arith, l)) ∙ take_more is at k l ∙ ap (λ j. take at is ++ j ∷ []) (sym e) in
    let todo : drop (at + 1) (is ++ xs) ≡ drop (at + 1) is ++ xs = drop-append-le (at + 1) is xs (omega (arith, l)) in
    record {
      same = λ w. (let a : sum_by w (take (at + 1) (is ++ xs)) ≡ sum_by w (take at is) + w k = ap (sum_by w) done ∙ sum_by_push w (take at is) k in
          let b : below w (drop (at + 1) (is ++ xs)) ts ≡ below w (drop (at + 1) is) ts + below w xs ts = ap (λ js. below w js ts) todo ∙ below-append w (drop (at + 1) is) xs ts in
          let c : below w (drop at is) ts ≡ weigh w (pick k ts) + below w (drop (at + 1) is) ts = ap (λ js. below w js ts) left in
          omega (arith, a, b, c, h.same w, lists.whole w));
      there = subst (λ (js : List ℕ). AreThere js ts) (sym todo) (there-append (drop (at + 1) is) xs ts there.1 lists.there);
    }

pub walk-turn : (ts us : Trees) (is : List ℕ) (at k : ℕ) → AreDistinct ts → at < length is → k ≡ get_or is at 0 → Walked ts us is at → Walked ts us ((is ++ attributes_of k ts) ++ children_of k ts) (at + 1)
walk-turn ts us is at k d l e h =
    subst (λ (js : List ℕ). Walked ts us js (at + 1)) (sym (append_assoc is (attributes_of k ts) (children_of k ts))) (walk-on ts us is at k d l (e ∙ get_or_default is at 0 k l) h)

-- so many turns are left at most
pub walk-within : (ts : Trees) (rs is : List ℕ) (at : ℕ) → AreDistinct ts → at < length is → Walked ts (chosen (rooted_at rs) ts) is at → at < size ts
walk-within ts rs is at d l h = omega (arith, noted-least (λ _. 1) ts (chosen (rooted_at rs) ts) is at d h, listed-length is, sizes-both rs ts, l)

-- ---- the end
pub walked : (ts us : Trees) (is : List ℕ) (at : ℕ) → length is ≤ at → Walked ts us is at → AreNodesOf is us
walked ts us is at l h = λ w.
    (let none : drop at is ≡ [] = drop_of_length-le is l in
    let sum : sum_by w is ≡ sum_by w (take at is) + sum_by w (drop at is) = ap (sum_by w) (sym (take-append-drop at is)) ∙ sum_by-append w (take at is) (drop at is) in
    let a : sum_by w (drop at is) ≡ 0 = ap (sum_by w) none in
    let b : below w (drop at is) ts ≡ 0 = ap (λ js. below w js ts) none in
    omega (arith, sum, a, b, h.same w))

-- ---- one node more in a list
pub new-one : (old ids : List ℕ) (at i : ℕ) → at < length ids → i ≡ get_or ids at i → AreApart (old ++ ids) → is_among (old ++ take at ids) i ≡ false
new-one old ids at i l e apart = by (is_among (old ++ take at ids) i) refl
  where
    w : ℕ → ℕ
    w j = cond (eqb i j) 1 0

    by : (b : Bool) → is_among (old ++ take at ids) i ≡ b → is_among (old ++ take at ids) i ≡ false
    by false f = f
    by true f =
        let more : sum_by w (take (at + 1) ids) ≡ sum_by w (take at ids) + 1 = ap (sum_by w) (take_more ids at i l ∙ ap (λ j. take at ids ++ j ∷ []) (sym e)) ∙ sum_by_push w (take at ids) i ∙ ap (λ n. sum_by w (take at ids) + n) (rw (eqb-same i) refl) in
        absurd (omega (arith, listed-counts (old ++ take at ids) i f, sum_by-append w old (take at ids), sum_by-append w old ids, more, sum_by-take-le w ids (at + 1), apart i))

pub one-more : (old ids : List ℕ) (at i : ℕ) → at < length ids → i ≡ get_or ids at i → (old ++ take at ids) ++ i ∷ [] ≡ old ++ take (at + 1) ids
one-more old ids at i l e = append_assoc old (take at ids) (i ∷ []) ∙ ap (λ js. old ++ js) (ap (λ j. take at ids ++ j ∷ []) e ∙ sym (take_more ids at i l))

pub front-apart : (is js : List ℕ) → AreApart (is ++ js) → AreApart is
front-apart is js h = λ i. omega (arith, sum_by-append (λ j. cond (eqb i j) 1 0) is js, h i)

-- what a view lists
pub lists-seen : (v : NodeView) (o : Option Place) → Views (Some v) o → (v.attributes.now ≡ attributes_at o) × (v.children.now ≡ children_at o)
lists-seen v None h = absurd h
lists-seen v (Some x) h = (h.attributes, h.children)
