-- The attributes of a node, one after the other.
use Prim.Native.Nat.{zero, suc}
use Rattle.std.proofs.Common.{◌≡◌, ℕ, ◌+◌, ◌≤◌, ◌<◌, Bool, true, false, eqb, List, length, get_or, Option, Some, None, refl, sym, ap, arith, ⊎_elim}
use Rattle.std.proofs.lemmas.Bool.Decides.{eqb_tells}
use Rattle.data_model.specs.Trees.{Trees, no_trees, tree, Content, Place, count, find, find_below, first, roots}
use Rattle.data_model.specs.Tidy.{has_distinct_names}
use Rattle.data_model.proofs.Climbs.{find-absent}
use Rattle.data_model.proofs.Weights.{eqb-same}
use Rattle.name_sets.proofs.Distinct.{is_distinct_after}
use Rattle.node_plans.specs.Splices.{rest_of}
use Rattle.tracked_drafts.proofs.Places.{find-beside}

-- the attributes of a place
abbrev pub attributes_in : Option Place → Trees
attributes_in None = no_trees
attributes_in (Some x) = x.attributes

-- ---- a node below another
pub count-inside : (i : ℕ) (o : Option ℕ) (p : ℕ) (ts : Trees) (x : Place) → count p ts ≤ 1 → find_below o p ts ≡ Some x → count i x.attributes ≤ count i ts
count-inside i o p no_trees x one found = cc
count-inside i o p (tree c bs cs rest) x one found =
    ⊎_elim
    (λ t. (let f = rw t.0 at found in let is : x.attributes ≡ bs = cc in rw is (omega arith)))
    (λ t. (let l = rw t.0 at one in
    ⊎_elim (λ a. (let k = count-inside i (Some c.identity) p bs x (omega arith) a.0 in omega arith))
    (λ d. ⊎_elim (λ a. (let k = count-inside i (Some c.identity) p cs x (omega arith) a.1 in omega arith)) (λ a. (let k = count-inside i o p rest x (omega arith) a.2 in omega arith)) d)
    (find-beside o p c bs cs rest x t.0 one found).where_it_is))
    (eqb_tells p c.identity)

first-of : (a b : Option Place) (x : Place) → a ≡ Some x → first a b ≡ Some x
first-of a b x e = rw e refl

not-here : (i : ℕ) (c : Content) (bs cs rest : Trees) → count i (tree c bs cs rest) ≤ 1 → 0 < count i bs + count i cs + count i rest → eqb i c.identity ≡ false
not-here i c bs cs rest one some = ⊎_elim (λ t. (let z = rw t.0 at one in absurd (omega arith))) (λ t. t.0) (eqb_tells i c.identity)

pub find-inside : (i : ℕ) (o : Option ℕ) (p : ℕ) (ts : Trees) (x y : Place) → count i ts ≤ 1 → count p ts ≤ 1 → find_below o p ts ≡ Some x → find_below (Some p) i x.attributes ≡ Some y → 0 < count i x.attributes → find_below o i ts ≡ Some y
find-inside i o p no_trees x y once one found inner some = cc
find-inside i o p (tree c bs cs rest) x y once one found inner some =
    ⊎_elim
    (λ t. (let f = rw t.0 at found in let is : x.attributes ≡ bs = cc in let k = rw is at some in
    let other : eqb i c.identity ≡ false = not-here i c bs cs rest once (omega arith) in
    let here : find_below (Some c.identity) i bs ≡ Some y = rw (← t.1, ← is) inner in
    rw other (first-of (find_below (Some c.identity) i bs) (first (find_below (Some c.identity) i cs) (find_below o i rest)) y here)))
    (λ t. (let l = rw t.0 at one in
    ⊎_elim
    (λ a. (let k = count-inside i (Some c.identity) p bs x (omega arith) a.0 in
    let other : eqb i c.identity ≡ false = not-here i c bs cs rest once (omega arith) in let z = rw other at once in
    rw other (first-of (find_below (Some c.identity) i bs) (first (find_below (Some c.identity) i cs) (find_below o i rest)) y (find-inside i (Some c.identity) p bs x y (omega arith) (omega arith) a.0 inner some))))
    (λ d. ⊎_elim
    (λ a. (let k = count-inside i (Some c.identity) p cs x (omega arith) a.1 in
    let other : eqb i c.identity ≡ false = not-here i c bs cs rest once (omega arith) in let z = rw other at once in
    rw (other, find-absent (Some c.identity) i bs (omega arith)) (first-of (find_below (Some c.identity) i cs) (find_below o i rest) y (find-inside i (Some c.identity) p cs x y (omega arith) (omega arith) a.1 inner some))))
    (λ a. (let k = count-inside i o p rest x (omega arith) a.2 in
    let other : eqb i c.identity ≡ false = not-here i c bs cs rest once (omega arith) in let z = rw other at once in
    rw (other, find-absent (Some c.identity) i bs (omega arith), find-absent (Some c.identity) i cs (omega arith)) (find-inside i o p rest x y (omega arith) (omega arith) a.2 inner some))) d)
    (find-beside o p c bs cs rest x t.0 one found).where_it_is))
    (eqb_tells p c.identity)

-- ---- the tree at a place in a list
pub record Item (q : Option ℕ) (i k : ℕ) (ts : Trees) : Type 0 where
  pub content : Content
  pub attributes : Trees
  pub children : Trees
  pub is : rest_of k ts ≡ tree content attributes children (rest_of (k + 1) ts)
  pub found : find_below q i ts ≡ Some (record { parent = q; content = content; attributes = attributes; children = children })
  pub some : 0 < count i ts

pub item-at : (q : Option ℕ) (i k : ℕ) (ts : Trees) → k < length (roots ts) → i ≡ get_or (roots ts) k i → count i ts ≤ 1 → Item q i k ts
item-at q i k no_trees l at one = absurd (omega arith)
item-at q i zero (tree c bs cs rest) l at one =
    let same : eqb i c.identity ≡ true = rw at (eqb-same c.identity) in
    record { content = c; attributes = bs; children = cs; is = refl-rest; found = rw same refl; some = rw same (omega arith) }
  where
    refl-rest : tree c bs cs rest ≡ tree c bs cs (rest_of (0 + 1) (tree c bs cs rest))
    refl-rest = ap (tree c bs cs) (sym (whole rest))
      where
        whole : (us : Trees) → rest_of zero us ≡ us
        whole no_trees = refl
        whole (tree d es ds more) = refl
item-at q i (suc k) (tree c bs cs rest) l at one = of (item-at q i k rest (omega arith) at (omega arith))
  where
    of : Item q i k rest → Item q i (suc k) (tree c bs cs rest)
    of x =
        let k1 = x.some in
        let other : eqb i c.identity ≡ false = not-here i c bs cs rest one (omega arith) in
        let z = rw other at one in
        let n : suc k + 1 ≡ suc (k + 1) = omega arith in
        record {
          content = x.content;
          attributes = x.attributes;
          children = x.children;
          is = rw n x.is;
          found = rw (other, find-absent (Some c.identity) i bs (omega arith), find-absent (Some c.identity) i cs (omega arith)) x.found;
          some = rw other (omega arith);
        }

pub few-distinct : (ts : Trees) → length (roots ts) ≤ 1 → has_distinct_names ts ≡ true
few-distinct no_trees l = refl
few-distinct (tree c bs cs no_trees) l = refl
few-distinct (tree c bs cs (tree d es ds rest)) l = absurd (omega arith)

-- the node in the trees whose identity a list of attributes has there
pub item-in : (p i k : ℕ) (ts : Trees) (x : Place) → ((j : ℕ) → count j ts ≤ 1) → find p ts ≡ Some x → k < length (roots x.attributes) → i ≡ get_or (roots x.attributes) k i
    → (it : Item (Some p) i k x.attributes) × (find i ts ≡ Some (record { parent = Some p; content = it.content; attributes = it.attributes; children = it.children }))
item-in p i k ts x one found l at =
    let inside = count-inside i None p ts x (one p) found in
    let all = one i in
    let it = item-at (Some p) i k x.attributes l at (omega arith) in
    (it, find-inside i None p ts x (record { parent = Some p; content = it.content; attributes = it.attributes; children = it.children }) (one i) (one p) found it.found it.some)

rest-past : (k : ℕ) (ts : Trees) → length (roots ts) ≤ k → rest_of k ts ≡ no_trees
rest-past k no_trees l = refl
rest-past zero (tree c bs cs rest) l = absurd (omega arith)
rest-past (suc k) (tree c bs cs rest) l = rest-past k rest (omega arith)

pub rest-all : (ts : Trees) → rest_of 0 ts ≡ ts
rest-all no_trees = refl
rest-all (tree c bs cs rest) = refl

-- no attribute is left
pub none-left : (names : List (List ℕ)) (k : ℕ) (ts : Trees) (whole : Bool) → length (roots ts) ≤ k → is_distinct_after names (rest_of k ts) ≡ whole → true ≡ whole
none-left names k ts whole l h = let e = rest-past k ts l in rw e at h
