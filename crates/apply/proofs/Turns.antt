-- The touched nodes, one after the other.
use Prim.Native.Nat.{zero, suc}
use Rattle.std.proofs.Common.{◌≡◌, ℕ, ◌+◌, ◌≤◌, ◌<◌, Bool, true, false, List, [], ◌∷◌, drop, length, Option, Some, None, IsSome, refl, sym, ◌∙◌, arith, ⊎_elim}
use Rattle.std.specs.List.{slice_get}
use Rattle.data_model.specs.Trees.{Trees, Place, count, find}
use Rattle.data_model.specs.Views.{Views, IsViewOf}
use Rattle.data_model.specs.declared.node.NodeView.{NodeView}
use Rattle.data_model.proofs.Climbs.{any-tells, find-present}
use Rattle.node_table.proofs.Numbers.{none-within}
use Rattle.tracked_drafts.specs.Tests.{NodeTest, all_but}
use Rattle.tracked_drafts.proofs.Exits.{passes_at, all_but-exit, all-pass}

drop-at : (is : List ℕ) (k i : ℕ) → slice_get is k ≡ Some i → drop k is ≡ i ∷ drop (suc k) is
drop-at [] k i e = cc
drop-at (j ∷ is) zero i e = let z : j ≡ i = cc in rw z refl
drop-at (j ∷ is) (suc k) i e = drop-at is k i e

next : (k : ℕ) → k + 1 ≡ suc k
next k = omega arith

-- one that passes
pub turn : (is : List ℕ) (k i : ℕ) (test : NodeTest) (ts : Trees) → Some i ≡ slice_get is k → true ≡ passes_at i test 0 ts → all_but (drop k is) test 0 ts ≡ true → all_but (drop (k + 1) is) test 0 ts ≡ true
turn is k i test ts at passes h = rw (next k) (all_but-exit i (drop (suc k) is) test 0 ts (rw (drop-at is k i (sym at)) at h) (sym passes))

-- the last
pub ended : (is : List ℕ) (k : ℕ) (test : NodeTest) (ts : Trees) → length is ≤ k → all_but (drop k is) test 0 ts ≡ true → all_but [] test 0 ts ≡ true
ended [] zero test ts l h = h
ended [] (suc k) test ts l h = h
ended (i ∷ is) zero test ts l h = absurd (omega arith)
ended (i ∷ is) (suc k) test ts l h = ended is k test ts (omega arith) h

-- one that doesn't
pub stops : (i : ℕ) (test : NodeTest) (ts : Trees) (whole : Bool) → false ≡ passes_at i test 0 ts → all_but [] test 0 ts ≡ whole → false ≡ whole
stops i test ts true fails h = fails ∙ all-pass i test 0 ts h
stops i test ts false fails h = refl

-- none is beyond the last
pub within : (is : List ℕ) (k : ℕ) → k < length is → None ≡ slice_get is k → ⊥
within is k l e = none-within is k l (sym e)

-- ---- what a view says is there
pub seen : (r : Option NodeView) (v : NodeView) (o : Option Place) → r ≡ Some v → Views r o → (x : Place) × (o ≡ Some x) × IsViewOf v x
seen r v None e h = absurd (rw e at h)
seen r v (Some x) e h = (x, refl, rw e at h)

pub unseen : (r : Option NodeView) (i : ℕ) (ts : Trees) → r ≡ None → Views r (find i ts) → count i ts ≡ 0
unseen r i ts e h = ⊎_elim (λ u. absurd (by (find i ts) (find-present None i ts u.1) (rw e at h))) (λ u. u.1) (any-tells (count i ts))
  where
    by : (o : Option Place) → IsSome o → Views None o → ⊥
    by None there k = (let z : true ≡ false = sym there in cc)
    by (Some x) there k = k
