-- New nodes take the next identities, each its own: copied content, and what stands of it among the trees.
use Rattle.std.proofs.Common.{◌≡◌, ℕ, zero, suc, ◌+◌, ◌-◌, ◌/◌, ◌<◌, ◌≤◌, eqb, cond, Bool, true, false, nat_le, if◌then◌else◌, List, [], ◌∷◌, Option, Some, None, Result, Ok, Err, refl, ap, subst, sym, ◌∙◌, arith}
use Rattle.data_model.specs.Changes.{pick, renumbered}
use Rattle.data_model.specs.Trees.{Trees, no_trees, tree, leaf, Content, append, bytes_in, count, size, find}
use Rattle.node_table.proofs.Copies.{in-renumbered, renumbered-within}
use Rattle.node_table.proofs.Ups.{same-ids}
use Rattle.data_model.proofs.Weights.{append-append, eqb-same}
use Rattle.pending.specs.Texts.{merged, without_empty_texts, texts_within}
use Rattle.data_model.specs.declared.node.Kind.{Kind}
use Rattle.fault_codes.specs.declared.code.Code.{Code}
use Rattle.fault_codes.specs.declared.code.Code.TheVariants.{PXQ0002, PXQ0003}
use Rattle.values.specs.declared.atom.Item.{Item}
use Rattle.values.specs.declared.atom.Item.TheVariants as item
use Rattle.data_model.specs.Limits.{most_bytes}
use Rattle.values.specs.Work.{text_work}
use Rattle.query_meaning.specs.Running.{Run, M, trees_of, pure, and_then, ◌>>=◌, come_to, each, new_nodes, work, standing, most_nodes}
use Rattle.query_meaning.specs.Strings.{spaced}
use Rattle.query_meaning.specs.Content as contents
use Rattle.query_meaning.specs.Constructors as constructors
use Rattle.meaning_laws.proofs.Keeps.{no_value}
use Rattle.meaning_laws.proofs.Nodes.{merged_few, without_empty_few, two_parts}
use Rattle.update_meaning.specs.Brought.{new_trees}
use Rattle.meaning_laws.proofs.Steady.{same_beside}
use Rattle.meaning_laws.proofs.Sound.{uses, both_counted, IsSound, AreThere, Ends, Passes, Holds, hold, Any, Comes, Given, one_item, same_value}

-- trees whose nodes have distinct identities, of those from n on up to m
pub record AreNew (n m : ℕ) (us : Trees) : Type 0 where
  pub once : (i : ℕ) → count i us ≤ 1
  pub within : (i : ℕ) → 0 < count i us → (n ≤ i) × (i < m)

none_new : (n m : ℕ) → AreNew n m no_trees
none_new n m = record { once = λ i. omega arith; within = λ i h. absurd (omega (arith, h)) }

-- where the one are below n and the others are not, an identity is among one of them alone
on_one_side : (i n x y : ℕ) → x ≤ 1 → y ≤ 1 → (0 < x → i < n) → (0 < y → n ≤ i) → x + y ≤ 1
on_one_side i n zero y a b f l = omega (arith, b)
on_one_side i n (suc x) zero a b f l = omega (arith, a)
on_one_side i n (suc x) (suc y) a b f l = absurd (let u = f (omega arith) in let v = l (omega arith) in omega (arith, u, v))

on_either_side : {P : Type 0} (x y : ℕ) → 0 < x + y → (0 < x → P) → (0 < y → P) → P
on_either_side zero y h f l = l (omega (arith, h))
on_either_side (suc x) y h f l = f (omega arith)

-- those that come later are others
both_new : (n m k : ℕ) (us vs : Trees) → n ≤ m → m ≤ k → AreNew n m us → AreNew m k vs → AreNew n k (append us vs)
both_new n m k us vs h g a b = record { once = once; within = within }
  where
    once : (i : ℕ) → count i (append us vs) ≤ 1
    once i =
        let one = on_one_side i m (count i us) (count i vs) (a.once i) (b.once i) (λ t. (a.within i t).1) (λ t. (b.within i t).0) in
        omega (arith, both_counted i us vs, one)

    within : (i : ℕ) → 0 < count i (append us vs) → (n ≤ i) × (i < k)
    within i there = on_either_side (count i us) (count i vs) (omega (arith, both_counted i us vs, there))
        (λ t. (let u = a.within i t in (u.0, omega (arith, u.1, g)))) (λ t. (let v = b.within i t in (omega (arith, v.0, h), v.1)))

pub copy_new : (n : ℕ) (us : Trees) → AreNew n (n + size us) (renumbered n us)
copy_new n us = record { once = λ i. of i (count i (renumbered n us)) refl; within = λ i. renumbered-within n i us }
  where
    of : (i k : ℕ) → count i (renumbered n us) ≡ k → count i (renumbered n us) ≤ 1
    of i zero e = omega (arith, e)
    of i (suc k) e = let w = renumbered-within n i us (omega (arith, e)) in let one = in-renumbered n i us w.0 w.1 in omega (arith, one)

leaf_new : (n : ℕ) (c : Content) → c.identity ≡ n → AreNew n (n + 1) (leaf c)
leaf_new n c h = record { once = λ i. once i (eqb i c.identity); within = λ i. of i (eqb i c.identity) refl }
  where
    once : (i : ℕ) (b : Bool) → cond b 1 0 + 0 + 0 + 0 ≤ 1
    once i true = omega arith
    once i false = omega arith

    of : (i : ℕ) (b : Bool) → eqb i c.identity ≡ b → 0 < cond b 1 0 + 0 + 0 + 0 → (n ≤ i) × (i < n + 1)
    of i true e there = let s = same-ids i c.identity e in (omega (arith, s, h), omega (arith, s, h))
    of i false e there = absurd (omega (arith, there))

-- Steps that make trees and let none stand.

-- a list of trees, made of new nodes; what stands is the same
pub record Makes (run : Run) (p : Trees × Run) : Type 0 where
  pub lent : p.1.shelf.lent ≡ run.shelf.lent
  pub own : p.1.shelf.own.trees ≡ run.shelf.own.trees
  pub primitives : p.1.primitives ≡ run.primitives
  pub next : run.shelf.own.next ≤ p.1.shelf.own.next
  pub made : AreNew run.shelf.own.next p.1.shelf.own.next p.0

abbrev pub MakesNew : M Trees → Type 0
MakesNew m = (run : Run) (p : Trees × Run) → m run ≡ Ok p → Makes run p

come_makes : {A : Type 0} (x : Result A Code) (f : A → M Trees) → ((a : A) → MakesNew (f a)) → MakesNew (come_to x >>= f)
come_makes (Ok a) f h run p e = h a run p e
come_makes (Err c) f h run p e = absurd (no_value c p e)

numbered_if : (n : ℕ) (g : ℕ → Trees) (run : Run) (p : Trees × Run) (b : Bool) → AreNew run.shelf.own.next (run.shelf.own.next + n) (g run.shelf.own.next)
    → and_then (if b then Ok (run.shelf.own.next, record run { shelf = record run.shelf { own = record run.shelf.own { next = run.shelf.own.next + n } } }) else Err PXQ0003) (λ i. pure (g i)) ≡ Ok p → Makes run p
numbered_if n g run p true h e =
    subst (Makes run) (same_value (g run.shelf.own.next, record run { shelf = record run.shelf { own = record run.shelf.own { next = run.shelf.own.next + n } } }) p e)
    (record { lent = refl; own = refl; primitives = refl; next = omega arith; made = h })
numbered_if n g run p false h e = absurd (no_value PXQ0003 p e)

numbered : (n : ℕ) (g : ℕ → Trees) → ((i : ℕ) → AreNew i (i + n) (g i)) → MakesNew (new_nodes n >>= (λ i. pure (g i)))
numbered n g h run p e = numbered_if n g run p (nat_le (run.shelf.own.next + n) (run.shelf.lent.next + most_nodes)) (h run.shelf.own.next) e

-- work makes nothing
worked : (n : ℕ) (f : Unit {0} → M Trees) → MakesNew (f tt) → MakesNew (work n >>= f)
worked n f h run p e = of (nat_le n run.work) e
  where
    of : (b : Bool) → and_then (if b then Ok (tt, record run { work = run.work - n }) else Err PXQ0002) f ≡ Ok p → Makes run p
    of true e = let z = h (record run { work = run.work - n }) p e in record { lent = z.lent; own = z.own; primitives = z.primitives; next = z.next; made = z.made }
    of false e = absurd (no_value PXQ0002 p e)

pub none_made : MakesNew (pure no_trees)
none_made run p e =
    subst (Makes run) (same_value (no_trees, run) p e)
    (record { lent = refl; own = refl; primitives = refl; next = omega arith; made = none_new run.shelf.own.next run.shelf.own.next })

pub text_made : (text : List ℕ) → MakesNew (contents.new_text text)
text_made text = worked (text_work text) (λ _. new_nodes 1 >>= (λ i. pure (contents.text_node text i))) (numbered 1 (contents.text_node text) (λ i. leaf_new i _ refl))

copied_made : (i : ℕ) → MakesNew (contents.copied i)
copied_made i run p e = worked (bytes_in (pick i (trees_of run)) / 16) (λ _. copy_seen) seen_made run p e
  where
    copy_seen : M Trees
    copy_seen after = (let us = contents.source_at i (trees_of after) (find i (trees_of after)) in new_nodes (size us) >>= (λ n. pure (renumbered n us))) after

    seen_made : MakesNew copy_seen
    seen_made after q g =
        let us = contents.source_at i (trees_of after) (find i (trees_of after)) in
        numbered (size us) (λ n. renumbered n us) (λ n. copy_new n us) after q g

part_made : (x : contents.Part) → MakesNew (contents.made x)
part_made (contents.values more) = come_makes (spaced more) contents.new_text text_made
part_made (contents.node i) = copied_made i

-- after others
record MakesMore (n : ℕ) (run : Run) (p : Trees × Run) : Type 0 where
  pub lent : p.1.shelf.lent ≡ run.shelf.lent
  pub own : p.1.shelf.own.trees ≡ run.shelf.own.trees
  pub primitives : p.1.primitives ≡ run.primitives
  pub next : run.shelf.own.next ≤ p.1.shelf.own.next
  pub made : AreNew n p.1.shelf.own.next p.0

abbrev put : ℕ → Trees → contents.Part → M Trees
put k given x = contents.made x >>= (λ us. pure (append given us))

all_made : (n k : ℕ) (xs : List contents.Part) (given : Trees) (run : Run) (p : Trees × Run) → n ≤ run.shelf.own.next → AreNew n run.shelf.own.next given → each put k xs given run ≡ Ok p → MakesMore n run p
all_made n k [] given run p h g e =
    subst (MakesMore n run) (same_value (given, run) p e) (record { lent = refl; own = refl; primitives = refl; next = omega arith; made = g })
all_made n k (x ∷ xs) given run p h g e = of (contents.made x run) (part_made x run) (λ us after. all_made n (suc k) xs (append given us) after p) e
  where
    of : (r : Result (Trees × Run) Code) → ((q : Trees × Run) → r ≡ Ok q → Makes run q)
        → ((us : Trees) (after : Run) → n ≤ after.shelf.own.next → AreNew n after.shelf.own.next (append given us) → each put (suc k) xs (append given us) after ≡ Ok p → MakesMore n after p)
        → and_then (and_then r (λ us. pure (append given us))) (each put (suc k) xs) ≡ Ok p → MakesMore n run p
    of (Ok q) one rest e =
        let a = one q refl in
        let z = rest q.0 q.1 (omega (arith, h, a.next)) (both_new n run.shelf.own.next q.1.shelf.own.next given q.0 h a.next g a.made) e in
        record {
          lent = z.lent ∙ a.lent;
          own = z.own ∙ a.own;
          primitives = z.primitives ∙ a.primitives;
          next = omega (arith, z.next, a.next);
          made = z.made;
        }
    of (Err c) one rest e = absurd (no_value c p e)

pub content_made : (items : List Item) → MakesNew (contents.content items)
content_made items run p e =
    let n = run.shelf.own.next in
    let z = all_made n 0 (contents.parts_of items) no_trees run p (omega arith) (none_new n n) e in
    record { lent = z.lent; own = z.own; primitives = z.primitives; next = z.next; made = z.made }

-- What is aside, and what stands, after it.

-- new trees, which stand nowhere yet
made_sound : (aside : ℕ → ℕ) (run : Run) (p : Trees × Run) → IsSound aside run → Makes run p
    → Ends Trees Any (λ us i. aside i + count i us) run p
made_sound aside run p s h = record {
  sound = record {
    once = once;
    below = below;
    fresh = λ i there. subst (λ f. f.next ≤ i) (sym h.lent) (fresh i there);
    started = subst (λ f. f.next ≤ p.1.shelf.own.next) (sym h.lent) (omega (arith, s.started, h.next));
    documents = subst (λ f. AreThere f.trees f.documents) (sym h.lent) s.documents;
  };
  above = record { stand = λ i there. omega (arith, same i, there); more = same_beside run.shelf.own.trees p.1.shelf.own.trees h.own };
  value = tt;
}
  where
    same : (i : ℕ) → count i (trees_of p.1) ≡ count i (trees_of run)
    same i = ap (λ g. count i (append g.trees p.1.shelf.own.trees)) h.lent ∙ ap (λ us. count i (append run.shelf.lent.trees us)) h.own

    brought : (i : ℕ) → count i (new_trees p.1.primitives) ≡ count i (new_trees run.primitives)
    brought i = ap (λ qs. count i (new_trees qs)) h.primitives

    once : (i : ℕ) → aside i + count i p.0 + uses i p.1 ≤ 1
    once i =
        let one = on_one_side i run.shelf.own.next (aside i + uses i run) (count i p.0) (s.once i) (h.made.once i) (s.below i)
        (λ t. (h.made.within i t).0) in omega (arith, same i, brought i, one)

    below : (i : ℕ) → 0 < aside i + count i p.0 + uses i p.1 → i < p.1.shelf.own.next
    below i there = on_either_side (aside i + uses i run) (count i p.0) (omega (arith, same i, brought i, there))
        (λ t. (let b = s.below i t in omega (arith, b, h.next))) (λ t. (h.made.within i t).1)

    fresh : (i : ℕ) → 0 < aside i + count i p.0 + count i p.1.shelf.own.trees + count i (new_trees p.1.primitives) → run.shelf.lent.next ≤ i
    fresh i there = on_either_side (aside i + count i run.shelf.own.trees + count i (new_trees run.primitives)) (count i p.0)
        (omega (arith, ap (count i) h.own, brought i, there)) (s.fresh i) (λ t. (let v = (h.made.within i t).0 in omega (arith, v, s.started)))

pub makes_aside : {r : Run} {m : M Trees} (aside : ℕ → ℕ) → MakesNew m → Passes r Trees Any m aside (λ us i. aside i + count i us)
makes_aside aside h = record { passes = λ run s k p e. made_sound aside run p s (h run p e) }

abbrev with_tree : Run → Trees → Run
with_tree run t = record run { shelf = record run.shelf { own = record run.shelf.own { trees = append run.shelf.own.trees t } } }

-- the counts of what stands, once one tree more does
more_counted : (run : Run) (t : Trees) (i : ℕ) → count i (trees_of (with_tree run t)) ≡ count i (trees_of run) + count i t
more_counted run t i = ap (count i) (sym (append-append run.shelf.lent.trees run.shelf.own.trees t)) ∙ both_counted i (trees_of run) t

-- a tree that was aside stands
tree_sound : (aside : ℕ → ℕ) (run : Run) (t : Trees) → IsSound (λ i. aside i + count i t) run → IsSound aside (with_tree run t)
tree_sound aside run t s = record {
  once = λ i. omega (arith, more_counted run t i, s.once i);
  below = λ i there. s.below i (omega (arith, more_counted run t i, there));
  fresh = λ i there. s.fresh i (omega (arith, both_counted i run.shelf.own.trees t, there));
  started = s.started;
  documents = s.documents;
}

-- a tree of new nodes is made and stands
pub stands_sound : (aside : ℕ → ℕ) (run after : Run) (t : Trees) (i : ℕ) (p : List Item × Run) → IsSound aside run → Makes run (t, after)
    → 0 < count i t → Comes (Ok (item.Node i ∷ [], with_tree after t)) p → Ends (List Item) Given (λ _. aside) run p
stands_sound aside run after t i p s makes there e =
    let made = made_sound aside run (t, after) s makes in
    subst (Ends (List Item) Given (λ _. aside) run) (same_value (item.Node i ∷ [], with_tree after t) p e) (record {
      sound = tree_sound aside after t made.sound;
      above = record {
        stand = λ j h. (let k = made.above.stand j h in omega (arith, more_counted after t j, k));
        more = (t, ap (λ us. append us t) makes.own);
      };
      value = one_item (item.Node i) (omega (arith, more_counted after t i, there));
    })

-- a run whose next identity is taken
abbrev taken : Run → Run
taken run = record run { shelf = record run.shelf { own = record run.shelf.own { next = run.shelf.own.next + 1 } } }

-- a node with a text
pub leaf_sound : {r : Run} (g : ℕ → Content) → ((i : ℕ) → (g i).identity ≡ i)
    → Holds r (List Item) Given (new_nodes 1 >>= (λ i. standing (leaf (g i)) >>= (λ _. pure (item.Node i ∷ []))))
leaf_sound g same = hold (λ aside run s k p e. of aside run p (nat_le (run.shelf.own.next + 1) (run.shelf.lent.next + most_nodes)) s e)
  where
    leaf_there : (n : ℕ) → 0 < count n (leaf (g n))
    leaf_there n = subst (λ b. 0 < cond b 1 0 + 0 + 0 + 0) (sym (subst (λ j. eqb n j ≡ true) (sym (same n)) (eqb-same n))) (omega arith)

    of : (aside : ℕ → ℕ) (run : Run) (p : List Item × Run) (b : Bool) → IsSound aside run
        → and_then (if b then Ok (run.shelf.own.next, taken run) else Err PXQ0003) (λ i. standing (leaf (g i)) >>= (λ _. pure (item.Node i ∷ [])))
        ≡ Ok p → Ends (List Item) Given (λ _. aside) run p
    of aside run p true s e =
        let n = run.shelf.own.next in
        let made = leaf_new n (g n) (same n) in
        stands_sound aside run (taken run) (leaf (g n)) n p s
        (record { lent = refl; own = refl; primitives = refl; next = omega arith; made = made }) (leaf_there n) e
    of aside run p false s e = absurd (no_value PXQ0003 p e)

-- A node of parts: itself, and then its copied content.

parts_if : (us parts : Trees) (b : Bool) → (if b then Ok (without_empty_texts (merged us)) else Err PXQ0002) ≡ Ok parts → without_empty_texts (merged us) ≡ parts
parts_if us parts true e = same_value (without_empty_texts (merged us)) parts e
parts_if us parts false e = absurd (no_value PXQ0002 parts e)

parts_few : (us parts : Trees) → contents.without_adjacent_texts us ≡ Ok parts → (j : ℕ) → count j parts ≤ count j us
parts_few us parts e j =
    let a = merged_few j us in let b = without_empty_few j (merged us) in
    let same = ap (count j) (parts_if us parts (texts_within most_bytes (merged us)) e) in
    omega (arith, a, b, same)

faultless : {A : Type 0} (o : Option Code) (a b : A) → contents.unless_fault o a ≡ Ok b → a ≡ b
faultless None a b e = same_value a b e
faultless (Some c) a b e = absurd (no_value c b e)

node_new : (n m : ℕ) (c : Content) (us parts : Trees) → c.identity ≡ n → n + 1 ≤ m → AreNew (n + 1) m us → ((j : ℕ) → count j parts ≤ count j us) → AreNew n m (tree c (contents.attributes parts) (contents.others parts) no_trees)
node_new n m c us parts is h new few = record { once = λ j. once j (eqb j c.identity) refl; within = λ j there. within j (eqb j c.identity) refl there }
  where
    once : (j : ℕ) (b : Bool) → eqb j c.identity ≡ b → cond b 1 0 + count j (contents.attributes parts) + count j (contents.others parts) + 0 ≤ 1
    once j true e =
        let s = same-ids j c.identity e in let t = two_parts j contents.is_attribute parts in let f = few j in
        absurd_if j (count j us) s refl (new.within j) (λ z. omega (arith, t, f, z))
      where
        absurd_if : (j x : ℕ) → j ≡ c.identity → count j us ≡ x → (0 < count j us → (n + 1 ≤ j) × (j < m)) → (count j us ≡ 0 → 1 + count j (contents.attributes parts) + count j (contents.others parts) + 0 ≤ 1) → 1 + count j (contents.attributes parts) + count j (contents.others parts) + 0 ≤ 1
        absurd_if j zero s e w k = k e
        absurd_if j (suc x) s e w k = absurd (let v = (w (omega (arith, e))).0 in omega (arith, v, s, is))
    once j false e = let t = two_parts j contents.is_attribute parts in let f = few j in let o = new.once j in omega (arith, t, f, o)

    within : (j : ℕ) (b : Bool) → eqb j c.identity ≡ b → 0 < cond b 1 0 + count j (contents.attributes parts) + count j (contents.others parts) + 0 → (n ≤ j) × (j < m)
    within j true e there = let s = same-ids j c.identity e in (omega (arith, s, is), omega (arith, s, is, h))
    within j false e there = let t = two_parts j contents.is_attribute parts in let f = few j in let v = new.within j (omega (arith, t, f, there)) in (omega (arith, v.0), v.1)

node_there : (c : Content) (bs cs : Trees) → 0 < count c.identity (tree c bs cs no_trees)
node_there c bs cs = subst (λ b. 0 < cond b 1 0 + count c.identity bs + count c.identity cs + 0) (sym (eqb-same c.identity)) (omega arith)

module _ (kind : Kind) (name : List ℕ) (has_fault : Trees → Option Code) where
  abbrev node : ℕ → Content
  node i = record { identity = i; kind = kind; name = name; text = [] }

  abbrev node_of : ℕ → Trees → Trees
  node_of i parts = tree (node i) (contents.attributes parts) (contents.others parts) no_trees

  abbrev closed_with : ℕ → Trees → M (List Item)
  closed_with i parts = come_to (contents.unless_fault (has_fault parts) (node_of i parts)) >>= (λ t. constructors.rooted i t)

  abbrev closed : ℕ → Trees → M (List Item)
  closed i us = come_to (contents.without_adjacent_texts us) >>= closed_with i

  -- the run from before the node's identity is taken, and what its content makes after that
  closed_sound : (aside : ℕ → ℕ) (run after : Run) (us : Trees) (p : List Item × Run) → IsSound aside run → Makes (taken run) (us, after)
      → closed run.shelf.own.next us after ≡ Ok p → Ends (List Item) Given (λ _. aside) run p
  closed_sound aside run after us p s makes e = of_parts (contents.without_adjacent_texts us) refl e
    where
      of_tree : (parts : Trees) → ((j : ℕ) → count j parts ≤ count j us) → (x : Result Trees Code)
          → contents.unless_fault (has_fault parts) (node_of run.shelf.own.next parts) ≡ x
          → and_then (come_to x after) (λ t. constructors.rooted run.shelf.own.next t) ≡ Ok p → Ends (List Item) Given (λ _. aside) run p
      of_tree parts few (Ok t) is e =
          let n = run.shelf.own.next in
          let same = faultless (has_fault parts) (node_of n parts) t is in
          let new = subst (AreNew n after.shelf.own.next) same (node_new n after.shelf.own.next (node n) us parts refl makes.next makes.made few) in
          let there = subst (λ u. 0 < count n u) same (node_there (node n) (contents.attributes parts) (contents.others parts)) in
          let more = makes.next in
          stands_sound aside run after t n p s
          (record { lent = makes.lent; own = makes.own; primitives = makes.primitives; next = omega (arith, more); made = new }) there e
      of_tree parts few (Err c) is e = absurd (no_value c p e)

      of_parts : (x : Result Trees Code) → contents.without_adjacent_texts us ≡ x
          → and_then (come_to x after) (closed_with run.shelf.own.next) ≡ Ok p → Ends (List Item) Given (λ _. aside) run p
      of_parts (Ok parts) is e =
          of_tree parts (parts_few us parts is) (contents.unless_fault (has_fault parts) (node_of run.shelf.own.next parts)) refl e
      of_parts (Err c) is e = absurd (no_value c p e)

  pub assembled_sound : {r : Run} (items : List Item) → Holds r (List Item) Given (constructors.assembled kind name has_fault items)
  assembled_sound items =
      hold (λ aside run s k p e. of aside run p s (nat_le (run.shelf.own.next + 1) (run.shelf.lent.next + most_nodes)) e)
    where
      of_content : (aside : ℕ → ℕ) (run first : Run) (p : List Item × Run) → IsSound aside run → first ≡ taken run
          → (x : Result (Trees × Run) Code) → contents.content items first ≡ x → and_then x (closed run.shelf.own.next) ≡ Ok p
          → Ends (List Item) Given (λ _. aside) run p
      of_content aside run first p s is (Ok q) made e =
          closed_sound aside run q.1 q.0 p s (subst (λ (f : Run). Makes f q) is (content_made items first q made)) e
      of_content aside run first p s is (Err c) made e = absurd (no_value c p e)

      of : (aside : ℕ → ℕ) (run : Run) (p : List Item × Run) → IsSound aside run → (b : Bool)
          → and_then (if b then Ok (run.shelf.own.next, taken run) else Err PXQ0003) (λ i. contents.content items >>= closed i) ≡ Ok p
          → Ends (List Item) Given (λ _. aside) run p
      of aside run p s true e = of_content aside run (taken run) p s refl (contents.content items (taken run)) refl e
      of aside run p s false e = absurd (no_value PXQ0003 p e)
