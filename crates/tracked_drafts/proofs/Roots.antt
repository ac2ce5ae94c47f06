-- Roots of a forest, and the trees that are theirs.
use Rattle.std.proofs.Common.{◌≡◌, ℕ, ◌+◌, ◌<◌, Bool, true, false, cond, eqb, List, [], ◌∷◌, refl, ap, sym, ◌∙◌, arith, ⊎_elim, None}
use Rattle.std.proofs.lemmas.Bool.Decides.{eqb_tells}
use Rattle.data_model.specs.Changes.{pick}
use Rattle.data_model.specs.Trees.{Trees, no_trees, tree, weigh, count, parent_of}
use Rattle.data_model.specs.Walks.{root_of}
use Rattle.data_model.proofs.Climbs.{AreDistinct, any-tells, find-present, climb-end, root-front, root-back}
use Rattle.data_model.proofs.Firsts.{eqb-swap}
use Rattle.data_model.proofs.Weights.{eqb-same, pick-absent}
use Rattle.pending.specs.Compatible.{is_among}
use Rattle.update_meaning.specs.Changed.{rooted_at, chosen}
use Rattle.chosen_drafts.specs.Chosen.{AreNodesOf}
use Rattle.chosen_drafts.proofs.Listed.{listed}
use Rattle.tracked_drafts.specs.Tests.{AllAmong, IsStoredBut, is_apart, is_filled, is_named, is_limited, is_within}
use Rattle.tracked_drafts.proofs.Tests.{all_but-among}

-- below the roots the node i stands nowhere
abbrev pub StandsAtRoots : ℕ → Trees → Type 0
StandsAtRoots i no_trees = Unit {0}
StandsAtRoots i (tree c bs cs rest) = (count i bs ≡ 0) × (count i cs ≡ 0) × StandsAtRoots i rest

absent-at-roots : (i : ℕ) (ts : Trees) → count i ts ≡ 0 → StandsAtRoots i ts
absent-at-roots i no_trees h = tt
absent-at-roots i (tree c bs cs rest) h = (omega arith, omega arith, absent-at-roots i rest (omega arith))

own-root : (i : ℕ) (ts : Trees) → AreDistinct ts → root_of i ts ≡ i → StandsAtRoots i ts
own-root i no_trees d e = tt
own-root i (tree c bs cs rest) d e =
    ⊎_elim
    (λ u. (let l = d i in
    let s : eqb i c.identity ≡ true = ap (λ j. eqb i j) (sym (root-front c bs cs rest i u.1) ∙ e) ∙ eqb-same i in
    let m = rw s at l in
    (omega arith, omega arith, absent-at-roots i rest (omega arith))))
    (λ u. (let z = u.1 in
    (omega arith, omega arith, own-root i rest (λ j. (let l = d j in omega arith)) (sym (root-back c bs cs rest i u.1) ∙ e))))
    (any-tells (count i (tree c bs cs no_trees)))

pub at-roots : (i : ℕ) (ts : Trees) → AreDistinct ts → parent_of i ts ≡ None → StandsAtRoots i ts
at-roots i ts d none =
    ⊎_elim (λ u. own-root i ts d (climb-end i ts d (find-present None i ts u.1) none)) (λ u. absent-at-roots i ts u.1) (any-tells (count i ts))

-- ---- one root more
pub more-roots : (w : ℕ → ℕ) (r : ℕ) (is : List ℕ) (ts : Trees) → is_among is r ≡ false → StandsAtRoots r ts → weigh w (chosen (rooted_at (r ∷ is)) ts) ≡ weigh w (pick r ts) + weigh w (chosen (rooted_at is) ts)
more-roots w r is no_trees new at = refl
more-roots w r is (tree c bs cs rest) new at = by (more-roots w r is rest new at.2) (is_among is c.identity) refl
  where
    by : weigh w (chosen (rooted_at (r ∷ is)) rest) ≡ weigh w (pick r rest) + weigh w (chosen (rooted_at is) rest) → (b : Bool) → is_among is c.identity ≡ b
        → weigh w (chosen (rooted_at (r ∷ is)) (tree c bs cs rest)) ≡ weigh w (pick r (tree c bs cs rest)) + weigh w (chosen (rooted_at is) (tree c bs cs rest))
    by h true e =
        ⊎_elim (λ t. absurd (let z : true ≡ false = sym e ∙ ap (is_among is) (sym t.1) ∙ new in cc))
        (λ t. rw (eqb-swap r c.identity false t.0, t.0, e, pick-absent r bs at.0, pick-absent r cs at.1) (omega (arith, h)))
        (eqb_tells r c.identity)
    by h false e =
        ⊎_elim
        (λ t. rw (eqb-swap r c.identity true t.0, t.0, e) (omega (arith, h)))
        (λ t. rw (eqb-swap r c.identity false t.0, t.0, e, pick-absent r bs at.0, pick-absent r cs at.1) (omega (arith, h)))
        (eqb_tells r c.identity)

pub no-roots : (w : ℕ → ℕ) (ts : Trees) → weigh w (chosen (rooted_at []) ts) ≡ 0
no-roots w no_trees = refl
no-roots w (tree c bs cs rest) = no-roots w rest

-- ---- where all nodes are marked
count-among : (is : List ℕ) (ts : Trees) → ((i : ℕ) → 0 < count i ts → is_among is i ≡ true) → AllAmong is ts
count-among is no_trees h = tt
count-among is (tree c bs cs rest) h = (
  h c.identity (rw (eqb-same c.identity) (omega arith)),
  count-among is bs (λ i l. h i (omega (arith, l))),
  count-among is cs (λ i l. h i (omega (arith, l))),
  count-among is rest (λ i l. h i (omega (arith, l))),
)

pub all-marked : (is : List ℕ) (ts : Trees) → AreNodesOf is ts → IsStoredBut is ts
all-marked is ts nodes =
    let all = count-among is ts (λ i h. listed is i (omega (arith, h, nodes (λ j. cond (eqb i j) 1 0)))) in
    record {
      apart = all_but-among is is_apart 0 ts all;
      filled = all_but-among is is_filled 0 ts all;
      named = all_but-among is is_named 0 ts all;
      limited = all_but-among is is_limited 0 ts all;
      within = all_but-among is is_within 0 ts all;
    }
