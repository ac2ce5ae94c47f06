-- Trees that come after those that stood.
use Rattle.std.proofs.Common.{◌≡◌, ◌≤◌, ◌<◌, ℕ, ◌+◌, Bool, true, false, ◌||◌, cond, eqb, List, [], ◌∷◌, None, IsSome, refl, sym, ap, ◌∙◌, subst, arith, ⊎_elim}
use Rattle.std.specs.List.{All}
use Rattle.std.proofs.lemmas.Bool.Decides.{eqb_tells}
use Rattle.std.proofs.lemmas.List.Elements.{All-nil, All-cons, All-head, All-tail, All-weaker}
use Rattle.chosen_drafts.specs.Chosen.{IsRoot}
use Rattle.data_model.specs.Trees.{Trees, no_trees, tree, append, count, find, parent_at, roots}
use Rattle.data_model.proofs.Climbs.{first-some, there-counts}
use Rattle.data_model.proofs.Weights.{weigh-append, append-none, append-append, eqb-same}
use Rattle.trees.proofs.CallerLemmas.{find-append}
use Rattle.pending.specs.Compatible.{is_among, has_repeat}
use Rattle.query_meaning.specs.Running.{Run, trees_of}
use Rattle.query_copies.specs.Kept.{Adds, AreCopies, IsCopy}

pub counts_both : (i : ℕ) (ts us : Trees) → count i (append ts us) ≡ count i ts + count i us
counts_both i ts us = weigh-append (λ k. cond (eqb i k) 1 0) ts us

pub adds_none : (run : Run) → Adds run run
adds_none run = record { lent = refl; more = no_trees; own = sym (append-none run.shelf.own.trees) }

pub adds_then : (a b c : Run) → Adds a b → Adds b c → Adds a c
adds_then a b c h k = record {
  lent = k.lent ∙ h.lent;
  more = append h.more k.more;
  own = k.own ∙ ap (λ ts. append ts k.more) h.own ∙ append-append a.shelf.own.trees h.more k.more;
}

trees_more : (old new : Run) (a : Adds old new) → trees_of new ≡ append (trees_of old) a.more
trees_more old new a = (λ j. append (a.lent j).trees (a.own j)) ∙ sym (append-append old.shelf.lent.trees old.shelf.own.trees a.more)

pub found_still : (old new : Run) (i : ℕ) → Adds old new → IsSome (find i (trees_of old)) → find i (trees_of new) ≡ find i (trees_of old)
found_still old new i a there = ap (find i) (trees_more old new a) ∙ find-append None i (trees_of old) a.more ∙ first-some (find i (trees_of old)) (find i a.more) there

counted_more : (i : ℕ) (old new : Run) → Adds old new → count i (trees_of old) ≤ count i (trees_of new)
counted_more i old new a = omega (arith, ap (count i) (trees_more old new a) ∙ counts_both i (trees_of old) a.more)

root_still : (ts us : Trees) (i : ℕ) → IsRoot ts i → IsRoot (append ts us) i
root_still ts us i h =
    let same : find i (append ts us) ≡ find i ts = find-append None i ts us ∙ first-some (find i ts) (find i us) h.0 in
    (subst IsSome (sym same) h.0, ap parent_at same ∙ h.1)

pub roots_still : (old new : Run) (is : List ℕ) → Adds old new → All (IsRoot old.shelf.own.trees) is → All (IsRoot new.shelf.own.trees) is
roots_still old new is a h =
    All-weaker (IsRoot old.shelf.own.trees) (IsRoot new.shelf.own.trees) (λ i r. subst (λ (ts : Trees). IsRoot ts i) (sym a.own) (root_still old.shelf.own.trees a.more i r)) is h

-- roots stand, so they come before the next identity where all do
pub roots_below : (n : ℕ) (ts : Trees) → ((i : ℕ) → 0 < count i ts → i < n) → All (λ i. i < n) (roots ts)
roots_below n no_trees h = All-nil (λ i. i < n)
roots_below n (tree c bs cs rest) h = All-cons (λ i. i < n) c.identity (roots rest) (h c.identity (rw (eqb-same c.identity) (omega arith))) (roots_below n rest (λ i there. h i (omega (arith, there))))

-- ---- copies
pub no_copies : (run : Run) → AreCopies run [] run
no_copies run = record { adds = adds_none run; apart = refl; stand = All-nil (IsRoot run.shelf.own.trees); are_new = All-nil (λ i. count i (trees_of run) ≡ 0) }

pub copies_still : (start now new : Run) (is : List ℕ) → AreCopies start is now → Adds now new → AreCopies start is new
copies_still start now new is h a = record {
  adds = adds_then start now new h.adds a;
  apart = h.apart;
  stand = roots_still now new is a h.stand;
  are_new = h.are_new;
}

-- what is so of each is so of one of them
pub of_among : (P : ℕ → Type 0) (is : List ℕ) (k : ℕ) → is_among is k ≡ true → All P is → P k
of_among P [] k e h = absurd (let z : false ≡ true = e in cc)
of_among P (i ∷ is) k e h =
    ⊎_elim (λ t. subst P (sym t.1) (All-head P i is h)) (λ t. of_among P is k (let z = rw t.0 at e in z) (All-tail P i is h)) (eqb_tells k i)

neither : (a b : Bool) → a ≡ false → b ≡ false → (a || b) ≡ false
neither a b e f = rw e f

not_among : (run : Run) (is : List ℕ) (k : ℕ) (b : Bool) → is_among is k ≡ b → All (IsRoot run.shelf.own.trees) is → count k (trees_of run) ≡ 0 → b ≡ false
not_among run is k false e h none = refl
not_among run is k true e h none =
    let root = of_among (IsRoot run.shelf.own.trees) is k e h in
    absurd (omega (arith, there-counts k run.shelf.own.trees root.0, none, counts_both k run.shelf.lent.trees run.shelf.own.trees))

pub one_more : (start mid new : Run) (is : List ℕ) (k : ℕ) → AreCopies start is mid → IsCopy mid k new → AreCopies start (k ∷ is) new
one_more start mid new is k h c =
    let was = copies_still start mid new is h c.adds in
    record {
      adds = was.adds;
      apart = neither (is_among is k) (has_repeat is) (not_among mid is k (is_among is k) refl h.stand c.is_new) was.apart;
      stand = All-cons (IsRoot new.shelf.own.trees) k is c.stands was.stand;
      are_new = All-cons (λ i. count i (trees_of start) ≡ 0) k is (omega (arith, counted_more k start mid h.adds, c.is_new)) was.are_new;
    }
