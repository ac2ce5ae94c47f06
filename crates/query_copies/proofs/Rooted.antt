-- Nodes of copies, by the roots of the trees in which they stand.
use Rattle.std.proofs.Common.{◌≡◌, ◌≤◌, ◌<◌, ℕ, Bool, true, false, nat_lt, is_some, List, IsSome, Option, Some, None, refl, sym, ap, ◌∙◌, arith, ⊎_elim}
use Rattle.data_model.specs.Trees.{Trees, no_trees, tree, append, count, find, Place}
use Rattle.data_model.specs.Walks.{root_of}
use Rattle.data_model.proofs.Climbs.{any-tells, find-present, root-front, root-back, there-counts}
use Rattle.pending.specs.Compatible.{is_among}
use Rattle.update_meaning.specs.Changed.{chosen, rooted_at}
use Rattle.chosen_drafts.proofs.Chosen.{counts-both}
use Rattle.shelves.specs.Shelf.{IsShelf, ShelfTerm, shelf_trees}
use Rattle.query_copies.proofs.Adding.{counts_both}

some_are : (n : ℕ) → 0 < n → nat_lt 0 n ≡ true
some_are n h = ⊎_elim (λ t. t.0) (λ t. absurd (omega (arith, h, t.1))) (any-tells n)

none_are : (n : ℕ) → n ≡ 0 → nat_lt 0 n ≡ false
none_are n h = ⊎_elim (λ t. absurd (omega (arith, h, t.1))) (λ t. t.0) (any-tells n)

-- among trees of distinct nodes
pub rooted : (is : List ℕ) (i : ℕ) (ts : Trees) → ((j : ℕ) → count j ts ≤ 1) → 0 < count i ts → nat_lt 0 (count i (chosen (rooted_at is) ts)) ≡ is_among is (root_of i ts)
rooted is i no_trees d h = absurd (omega (arith, h))
rooted is i (tree c bs cs rest) d h =
    ⊎_elim (λ t. front (is_among is c.identity) refl t.1 ∙ ap (is_among is) (sym (root-front c bs cs rest i t.1)))
    (λ t. behind (is_among is c.identity) refl t.1 (rooted is i rest (λ j. (let one = d j in omega (arith, one))) (omega (arith, h, t.1))) ∙ ap (is_among is) (sym (root-back c bs cs rest i t.1)))
    (any-tells (count i (tree c bs cs no_trees)))
  where
    front : (b : Bool) → is_among is c.identity ≡ b → 0 < count i (tree c bs cs no_trees) → nat_lt 0 (count i (chosen (rooted_at is) (tree c bs cs rest))) ≡ is_among is c.identity
    front true e t = rw e (some_are (count i (tree c bs cs (chosen (rooted_at is) rest))) (omega (arith, t)))
    front false e t = rw e (none_are (count i (chosen (rooted_at is) rest)) (let one = d i in omega (arith, one, t, counts-both is i rest)))

    behind : (b : Bool) → is_among is c.identity ≡ b → count i (tree c bs cs no_trees) ≡ 0 → nat_lt 0 (count i (chosen (rooted_at is) rest)) ≡ is_among is (root_of i rest)
        → nat_lt 0 (count i (chosen (rooted_at is) (tree c bs cs rest))) ≡ is_among is (root_of i rest)
    behind true e none same =
        let n : count i (tree c bs cs (chosen (rooted_at is) rest)) ≡ count i (chosen (rooted_at is) rest) = omega (arith, none) in
        rw e (ap (nat_lt 0) n ∙ same)
    behind false e none same = rw e same

-- trees that come after others
root_after : (i : ℕ) (ts us : Trees) → count i ts ≡ 0 → root_of i (append ts us) ≡ root_of i us
root_after i no_trees us h = refl
root_after i (tree c bs cs rest) us h = root-back c bs cs (append rest us) i (omega (arith, h)) ∙ root_after i rest us (omega (arith, h))

-- where a shelf's own nodes stand
pub own_stands : (s : ShelfTerm) (i : ℕ) → is_some (find i s.own.trees) ≡ true → IsSome (find i (shelf_trees s))
own_stands s i e = find-present None i (shelf_trees s) (omega (arith, there-counts i s.own.trees (there (find i s.own.trees) e), counts_both i s.lent.trees s.own.trees))
  where
    there : (o : Option Place) → is_some o ≡ true → IsSome o
    there None z = cc
    there (Some x) z = refl

pub own_rooted : (is : List ℕ) (i : ℕ) (s : ShelfTerm) (k : ℕ) → IsShelf s → is_some (find i s.own.trees) ≡ true → k ≡ root_of i (shelf_trees s)
    → is_among is k ≡ nat_lt 0 (count i (chosen (rooted_at is) s.own.trees))
own_rooted is i s k shelf e root =
    let stands : 0 < count i s.own.trees = there-counts i s.own.trees (there (find i s.own.trees) e) in
    let apart : count i s.lent.trees ≡ 0 = (let one = shelf.distinct i in omega (arith, one, stands, counts_both i s.lent.trees s.own.trees)) in
    ap (is_among is) (root ∙ root_after i s.lent.trees s.own.trees apart) ∙ sym (rooted is i s.own.trees shelf.own.distinct stands)
  where
    there : (o : Option Place) → is_some o ≡ true → IsSome o
    there None z = cc
    there (Some x) z = refl

-- what is no own node is in no copy
pub not_rooted : (is : List ℕ) (i : ℕ) (ts : Trees) → is_some (find i ts) ≡ false → false ≡ nat_lt 0 (count i (chosen (rooted_at is) ts))
not_rooted is i ts e =
    ⊎_elim (λ t. absurd (there (find i ts) e (find-present None i ts t.1))) (λ t. sym (none_are (count i (chosen (rooted_at is) ts)) (omega (arith, t.1, counts-both is i ts)))) (any-tells (count i ts))
  where
    there : (o : Option Place) → is_some o ≡ false → IsSome o → ⊥
    there None z h = cc
    there (Some x) z h = cc
