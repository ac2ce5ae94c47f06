-- Identities that come one after the other.
use Rattle.std.proofs.Common.{◌≡◌, ℕ, ◌+◌, ◌<◌, ◌≤◌, ◌^◌, List, [], ◌∷◌, ◌++◌, cond, eqb, ◌∙◌, ap, arith, ⊎_elim}
use Rattle.std.proofs.lemmas.Bool.Decides.{eqb_tells}
use Rattle.data_model.specs.Trees.{Trees, Content, append, count}
use Rattle.data_model.specs.Tree.{TreeTerm, all_of, trees_of_tree}
use Rattle.data_model.proofs.Weights.{weigh-append}
use Rattle.data_model.proofs.Turns.{all_of-push}
use Rattle.update_words.specs.New.{AreNew}

-- a node has its identity alone, and once
at_most_one : (i k : ℕ) → cond (eqb i k) 1 0 ≤ 1
at_most_one i k = ⊎_elim (λ t. rw t.0 (omega arith)) (λ t. rw t.0 (omega arith)) (eqb_tells i k)

that_one : (i k : ℕ) → 0 < cond (eqb i k) 1 0 → i ≡ k
that_one i k h = ⊎_elim (λ t. t.1) (λ t. (let z = rw t.0 at h in absurd (omega arith))) (eqb_tells i k)

-- new nodes, then a node, then new nodes
pub node_between : (first n k m : ℕ) (f g h : ℕ → ℕ) → AreNew first f n → n ≤ k → AreNew (k + 1) g m → ((i : ℕ) → h i ≡ f i + (cond (eqb i k) 1 0 + g i)) → AreNew first h m
node_between first n k m f g h before free after sum = record {
  later = (let a = before.later in let b = after.later in omega arith);
  bound = after.bound;
  once = λ i. (let s = sum i in let a = before.once i in let b = before.below i in let c = after.once i in let d = after.least i in let e = at_most_one i k in let o = that_one i k in grind arith);
  least = λ i there. (let s = sum i in let a = before.later in let b = before.least i in let d = after.least i in let o = that_one i k in grind arith);
  below = λ i there. (let s = sum i in let a = after.later in let b = before.below i in let d = after.below i in let o = that_one i k in grind arith);
}

-- one tree more
pub one_more : (i : ℕ) (ts : List TreeTerm) (t : TreeTerm) → count i (all_of (ts ++ t ∷ [])) ≡ count i (all_of ts) + (cond (eqb i t.content.identity) 1 0 + (count i t.attributes + count i t.children))
one_more i ts t = ap (count i) (all_of-push ts t) ∙ omega (arith, weigh-append (λ j. cond (eqb i j) 1 0) (all_of ts) (trees_of_tree t))

one_like : (i : ℕ) (ts new : List TreeTerm) (t : TreeTerm) (c : Content) (bs cs : Trees) → new ≡ ts ++ t ∷ [] → t ≡ record { content = c; attributes = bs; children = cs } → count i (all_of new) ≡ count i (all_of ts) + (cond (eqb i c.identity) 1 0 + (count i bs + count i cs))
one_like i ts new t c bs cs is that = ap (λ (l : List TreeTerm). count i (all_of l)) is ∙ one_more i ts t ∙ ap (λ (u : TreeTerm). count i (all_of ts) + (cond (eqb i u.content.identity) 1 0 + (count i u.attributes + count i u.children))) that

pub attribute_more : (n m : ℕ) (ts new us bs cs : List TreeTerm) (t : TreeTerm) (c : Content) → t ≡ record { content = c; attributes = all_of bs; children = all_of cs } → n ≤ c.identity → AreNew (c.identity + 1) (λ i. count i (all_of bs) + count i (all_of cs)) m → new ≡ ts ++ t ∷ [] → (first : ℕ) → AreNew first (λ i. count i (all_of ts) + count i (all_of us)) n → AreNew first (λ i. count i (all_of new) + count i (all_of us)) m
attribute_more n m ts new us bs cs t c that free after is first before =
    node_between first n c.identity m (λ i. count i (all_of ts) + count i (all_of us)) (λ i. count i (all_of bs) + count i (all_of cs)) (λ i. count i (all_of new) + count i (all_of us)) before free after
    (λ i. (let e = one_like i ts new t c (all_of bs) (all_of cs) is that in omega arith))

pub child_more : (n m : ℕ) (ts new us bs cs : List TreeTerm) (t : TreeTerm) (c : Content) → t ≡ record { content = c; attributes = all_of bs; children = all_of cs } → n ≤ c.identity → AreNew (c.identity + 1) (λ i. count i (all_of bs) + count i (all_of cs)) m → new ≡ ts ++ t ∷ [] → (first : ℕ) → AreNew first (λ i. count i (all_of us) + count i (all_of ts)) n → AreNew first (λ i. count i (all_of us) + count i (all_of new)) m
child_more n m ts new us bs cs t c that free after is first before =
    node_between first n c.identity m (λ i. count i (all_of us) + count i (all_of ts)) (λ i. count i (all_of bs) + count i (all_of cs)) (λ i. count i (all_of us) + count i (all_of new)) before free after
    (λ i. (let e = one_like i ts new t c (all_of bs) (all_of cs) is that in omega arith))

pub counted : (i : ℕ) (ts us : Trees) → count i (append ts us) ≡ count i ts + count i us
counted i ts us = weigh-append (λ j. cond (eqb i j) 1 0) ts us

-- new nodes, then more of them
pub nodes_after : (first n m : ℕ) (f g h : ℕ → ℕ) → AreNew first f n → AreNew n g m → ((i : ℕ) → h i ≡ f i + g i) → AreNew first h m
nodes_after first n m f g h before after sum = record {
  later = (let a = before.later in let b = after.later in omega arith);
  bound = after.bound;
  once = λ i. (let s = sum i in let a = before.once i in let b = before.below i in let c = after.once i in let d = after.least i in grind arith);
  least = λ i there. (let s = sum i in let a = before.later in let b = before.least i in let d = after.least i in grind arith);
  below = λ i there. (let s = sum i in let a = after.later in let b = before.below i in let d = after.below i in grind arith);
}

-- no more nodes than those, below a later identity
pub fewer : (first n m : ℕ) (f h : ℕ → ℕ) → AreNew first f n → ((i : ℕ) → h i ≤ f i) → n ≤ m → m ≤ 2 ^ 62 → AreNew first h m
fewer first n m f h before sum after bound = record {
  later = (let a = before.later in omega arith);
  bound = bound;
  once = λ i. (let s = sum i in let a = before.once i in omega arith);
  least = λ i there. (let s = sum i in before.least i (omega arith));
  below = λ i there. (let s = sum i in let b = before.below i (omega arith) in omega arith);
}

pub none_new : (first n : ℕ) (h : ℕ → ℕ) → first ≤ n → n ≤ 2 ^ 62 → ((i : ℕ) → h i ≡ 0) → AreNew first h n
none_new first n h after bound none = record {
  later = after;
  bound = bound;
  once = λ i. (let z = none i in omega arith);
  least = λ i there. (let z = none i in absurd (omega arith));
  below = λ i there. (let z = none i in absurd (omega arith));
}
