-- Copied content is numbered without a gap.
use Rattle.std.proofs.Common.{◌≡◌, ℕ, zero, suc, ◌+◌, ◌-◌, ◌/◌, Bool, true, false, nat_le, if◌then◌else◌, List, [], ◌∷◌, ◌++◌, Result, Ok, Err, refl, ap, ap₂, subst, sym, ◌∙◌, arith}
use Rattle.std.proofs.lemmas.List.{append_assoc}
use Rattle.std.specs.List.{range_with_len}
use Rattle.data_model.specs.Changes.{pick, renumbered}
use Rattle.data_model.specs.Order.{identities}
use Rattle.data_model.specs.Trees.{Trees, no_trees, tree, append, bytes_in, size, find}
use Rattle.node_table.proofs.Copies.{size-renumbered}
use Rattle.data_model.proofs.Firsts.{identities-tree}
use Rattle.data_model.proofs.Weights.{weigh-append}
use Rattle.fault_codes.specs.declared.code.Code.{Code}
use Rattle.fault_codes.specs.declared.code.Code.TheVariants.{PXQ0002, PXQ0003}
use Rattle.values.specs.declared.atom.Item.{Item}
use Rattle.query_meaning.specs.Running.{Run, M, trees_of, pure, and_then, ◌>>=◌, come_to, each, new_nodes, work, most_nodes}
use Rattle.values.specs.Work.{text_work}
use Rattle.query_meaning.specs.Strings.{spaced}
use Rattle.query_meaning.specs.Content as contents
use Rattle.meaning_laws.proofs.Keeps.{no_value}
use Rattle.meaning_laws.proofs.Sound.{same_value}

-- ranges that follow each other
two_ranges : (a b n m k : ℕ) → a + n ≡ b → n + m ≡ k → range_with_len a n ++ range_with_len b m ≡ range_with_len a k
two_ranges a b zero m k h g = ap₂ range_with_len (omega (arith, h)) (omega (arith, g))
two_ranges a b (suc n) m zero h g = absurd (omega (arith, g))
two_ranges a b (suc n) m (suc k) h g = ap (λ is. a ∷ is) (two_ranges (a + 1) b n m k (omega (arith, h)) (omega (arith, g)))

identities_append : (ts us : Trees) → identities (append ts us) ≡ identities ts ++ identities us
identities_append no_trees us = refl
identities_append (tree c bs cs rest) us =
    identities-tree c bs cs (append rest us) ∙ ap (λ is. (c.identity ∷ identities bs) ++ identities cs ++ is) (identities_append rest us)
    ∙ sym (append_assoc ((c.identity ∷ identities bs) ++ identities cs) (identities rest) (identities us)) ∙ ap (λ is. is ++ identities us) (sym (identities-tree c bs cs rest))

-- in document order
renumbered_range : (n : ℕ) (us : Trees) → identities (renumbered n us) ≡ range_with_len n (size us)
renumbered_range n no_trees = refl
renumbered_range n (tree c bs cs rest) =
    identities-tree (record c { identity = n }) (renumbered (n + 1) bs) (renumbered (n + 1 + size bs) cs) (renumbered (n + 1 + size bs + size cs) rest)
    ∙ ap (λ is. ((n ∷ is) ++ identities (renumbered (n + 1 + size bs) cs)) ++ identities (renumbered (n + 1 + size bs + size cs) rest)) (renumbered_range (n + 1) bs)
    ∙ ap (λ is. (range_with_len n (suc (size bs)) ++ is) ++ identities (renumbered (n + 1 + size bs + size cs) rest)) (renumbered_range (n + 1 + size bs) cs)
    ∙ ap (λ is. (range_with_len n (suc (size bs)) ++ range_with_len (n + 1 + size bs) (size cs)) ++ is) (renumbered_range (n + 1 + size bs + size cs) rest)
    ∙ ap (λ is. is ++ range_with_len (n + 1 + size bs + size cs) (size rest)) (two_ranges n (n + 1 + size bs) (suc (size bs)) (size cs) (suc (size bs) + size cs) (omega arith) refl)
    ∙ two_ranges n (n + 1 + size bs + size cs) (suc (size bs) + size cs) (size rest) (size (tree c bs cs rest)) (omega arith) (omega arith)

-- trees that take the identities from n on, and leave off at m
pub record AreNumbered (n m : ℕ) (us : Trees) : Type 0 where
  pub range : identities us ≡ range_with_len n (size us)
  pub next : m ≡ n + size us

abbrev pub Numbers : M Trees → Type 0
Numbers m = (run : Run) (p : Trees × Run) → m run ≡ Ok p → AreNumbered run.shelf.own.next p.1.shelf.own.next p.0

come_numbers : {A : Type 0} (x : Result A Code) (f : A → M Trees) → ((a : A) → Numbers (f a)) → Numbers (come_to x >>= f)
come_numbers (Ok a) f h run p e = h a run p e
come_numbers (Err c) f h run p e = absurd (no_value c p e)

numbered_if : (n : ℕ) (g : ℕ → Trees) (run : Run) (p : Trees × Run) (b : Bool) → AreNumbered run.shelf.own.next (run.shelf.own.next + n) (g run.shelf.own.next)
    → and_then (if b then Ok (run.shelf.own.next, record run { shelf = record run.shelf { own = record run.shelf.own { next = run.shelf.own.next + n } } }) else Err PXQ0003) (λ i. pure (g i)) ≡ Ok p
    → AreNumbered run.shelf.own.next p.1.shelf.own.next p.0
numbered_if n g run p true h e =
    subst (λ (q : Trees × Run). AreNumbered run.shelf.own.next q.1.shelf.own.next q.0) (same_value (g run.shelf.own.next, record run { shelf = record run.shelf { own = record run.shelf.own { next = run.shelf.own.next + n } } }) p e) h
numbered_if n g run p false h e = absurd (no_value PXQ0003 p e)

numbered : (n : ℕ) (g : ℕ → Trees) → ((i : ℕ) → AreNumbered i (i + n) (g i)) → Numbers (new_nodes n >>= (λ i. pure (g i)))
numbered n g h run p e = numbered_if n g run p (nat_le (run.shelf.own.next + n) (run.shelf.lent.next + most_nodes)) (h run.shelf.own.next) e

-- work takes no identity
worked : (n : ℕ) (f : Unit {0} → M Trees) → Numbers (f tt) → Numbers (work n >>= f)
worked n f h run p e = of (nat_le n run.work) e
  where
    of : (b : Bool) → and_then (if b then Ok (tt, record run { work = run.work - n }) else Err PXQ0002) f ≡ Ok p → AreNumbered run.shelf.own.next p.1.shelf.own.next p.0
    of true e = h (record run { work = run.work - n }) p e
    of false e = absurd (no_value PXQ0002 p e)

text_numbered : (text : List ℕ) → Numbers (contents.new_text text)
text_numbered text =
    worked (text_work text) (λ _. new_nodes 1 >>= (λ i. pure (contents.text_node text i))) (numbered 1 (contents.text_node text) (λ i. record { range = refl; next = refl }))

copied_numbered : (i : ℕ) → Numbers (contents.copied i)
copied_numbered i run p e = worked (bytes_in (pick i (trees_of run)) / 16) (λ _. copy_seen) seen_numbered run p e
  where
    copy_seen : M Trees
    copy_seen after = (let us = contents.source_at i (trees_of after) (find i (trees_of after)) in new_nodes (size us) >>= (λ n. pure (renumbered n us))) after

    seen_numbered : Numbers copy_seen
    seen_numbered after q g =
        let us = contents.source_at i (trees_of after) (find i (trees_of after)) in
        numbered (size us) (λ n. renumbered n us) (λ n. record { range = renumbered_range n us ∙ ap (range_with_len n) (sym (size-renumbered n us)); next = ap (λ k. n + k) (sym (size-renumbered n us)) }) after q g

part_numbered : (x : contents.Part) → Numbers (contents.made x)
part_numbered (contents.values more) = come_numbers (spaced more) contents.new_text text_numbered
part_numbered (contents.node i) = copied_numbered i

abbrev put : ℕ → Trees → contents.Part → M Trees
put k given x = contents.made x >>= (λ us. pure (append given us))

both_numbered : (n m k : ℕ) (us vs : Trees) → AreNumbered n m us → AreNumbered m k vs → AreNumbered n k (append us vs)
both_numbered n m k us vs a b = record {
  range = identities_append us vs ∙ ap₂ (λ is js. is ++ js) a.range b.range ∙ two_ranges n m (size us) (size vs) (size (append us vs)) (sym a.next) (sym (weigh-append (λ _. 1) us vs));
  next = (let s = weigh-append (λ _. 1) us vs in let x = a.next in let y = b.next in omega (arith, s, x, y));
}

all_numbered : (n k : ℕ) (xs : List contents.Part) (given : Trees) (run : Run) (p : Trees × Run) → AreNumbered n run.shelf.own.next given → each put k xs given run ≡ Ok p → AreNumbered n p.1.shelf.own.next p.0
all_numbered n k [] given run p g e = subst (λ (q : Trees × Run). AreNumbered n q.1.shelf.own.next q.0) (same_value (given, run) p e) g
all_numbered n k (x ∷ xs) given run p g e = of (contents.made x run) (part_numbered x run) (λ us after. all_numbered n (suc k) xs (append given us) after p) e
  where
    of : (r : Result (Trees × Run) Code) → ((q : Trees × Run) → r ≡ Ok q → AreNumbered run.shelf.own.next q.1.shelf.own.next q.0)
        → ((us : Trees) (after : Run) → AreNumbered n after.shelf.own.next (append given us) → each put (suc k) xs (append given us) after ≡ Ok p → AreNumbered n p.1.shelf.own.next p.0)
        → and_then (and_then r (λ us. pure (append given us))) (each put (suc k) xs) ≡ Ok p → AreNumbered n p.1.shelf.own.next p.0
    of (Ok q) one rest e = rest q.0 q.1 (both_numbered n run.shelf.own.next q.1.shelf.own.next given q.0 g (one q refl)) e
    of (Err c) one rest e = absurd (no_value c p e)

pub content_numbered : (items : List Item) → Numbers (contents.content items)
content_numbered items run p e = all_numbered run.shelf.own.next 0 (contents.parts_of items) no_trees run p (record { range = refl; next = omega arith }) e
