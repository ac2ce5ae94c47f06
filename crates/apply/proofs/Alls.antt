-- Trees that pass a test but for some nodes, and then but for one node fewer.
use Rattle.std.proofs.Common.{◌≡◌, ℕ, ◌+◌, Bool, true, false, not, ◌||◌, ◌&&◌, ◌==◌, eqb, List, [], ◌∷◌, refl, ap, sym, ◌∙◌, arith, ⊎_elim, Option, Some, subst}
use Prim.Native.Nat.{suc}
use Rattle.std.proofs.lemmas.Bool.Decides.{eqb_tells}
use Rattle.data_model.specs.Trees.{Trees, no_trees, tree, Content, append, roots, count, is_text}
use Rattle.data_model.specs.Tidy.{begins_with_text}
use Rattle.data_model.specs.declared.node.Part.{Part}
use Rattle.data_model.specs.declared.node.Part.TheVariants.{Attributes, Children}
use Rattle.data_model.proofs.Firsts.{eqb-swap}
use Rattle.node_table.specs.Flat.{Entry, Table, Holds, entry_of, content_of}
use Rattle.node_table.proofs.Relists.{relisted, emptied}
use Rattle.node_plans.specs.Splices.{rest_of}
use Rattle.pending.specs.Compatible.{is_among}
use Rattle.tracked_drafts.specs.Tests.{NodeTest, all_but, is_apart, is_filled}
use Rattle.pending.specs.Texts.{is_empty_text, before_merged}
use Rattle.update_meaning.specs.Results.{all_merged, all_filled}
use Rattle.apply.specs.Texts.{merged_below, filled_below}
use Rattle.tracked_drafts.proofs.Tests.{passes, passing, all_but-rest}
use Rattle.update_meaning.proofs.Booleans.{never, not-true}
use Rattle.tracked_drafts.proofs.Roots.{StandsAtRoots}
use Rattle.apply.proofs.Merges.{more}

or-true : (a b : Bool) → b ≡ true → (a || b) ≡ true
or-true true b e = refl
or-true false b e = e

-- no root stands below others
below-root : (n : ℕ) → (suc n == 0) ≡ false
below-root n = ⊎_elim (λ t. (let z = t.1 in absurd (omega arith))) (λ t. t.0) (eqb_tells (suc n) 0)

-- another node is among those that are left out as before
head-other : (i j : ℕ) (is : List ℕ) (a b : Bool) → eqb i j ≡ false → a ≡ b → (is_among (i ∷ is) j || a) ≡ true → (is_among is j || b) ≡ true
head-other i j is a b e same h = let z = rw (eqb-swap i j false e, same) at h in z

-- ---- a node that doesn't stand there
pub but-absent : (i : ℕ) (is : List ℕ) (test : NodeTest) (n : ℕ) (ts : Trees) → count i ts ≡ 0 → all_but (i ∷ is) test n ts ≡ all_but is test n ts
but-absent i is test n no_trees h = refl
but-absent i is test n (tree c bs cs rest) h =
    ⊎_elim (λ t. (let z = rw t.0 at h in absurd (omega arith)))
    (λ t. (let z = rw t.0 at h in rw (eqb-swap i c.identity false t.0, but-absent i is test (suc n) bs (omega arith), but-absent i is test (suc n) cs (omega arith), but-absent i is test n rest (omega arith)) refl))
    (eqb_tells i c.identity)

pub but-gone : (i : ℕ) (is : List ℕ) (test : NodeTest) (n : ℕ) (ts : Trees) → count i ts ≡ 0 → all_but (i ∷ is) test n ts ≡ true → all_but is test n ts ≡ true
but-gone i is test n ts z h = sym (but-absent i is test n ts z) ∙ h

-- ---- a node that passes, whatever stands around it
pub but-passing : (f : Table) (i : ℕ) (is : List ℕ) (test : NodeTest) (q : Option ℕ) (n : ℕ) (ts : Trees) → Holds f q ts → ((e : Entry) → f i ≡ Some e → (m : ℕ) (bs cs : Trees) (b : Bool) → test m (content_of i e) bs cs b ≡ true)
    → all_but (i ∷ is) test n ts ≡ true → all_but is test n ts ≡ true
but-passing f i is test q n no_trees holds pass h = refl
but-passing f i is test q n (tree c bs cs rest) holds pass h =
    let s = passes (i ∷ is) test n c bs cs rest h in
    let P : ℕ → Type 0 = λ j. test n (record c { identity = j }) bs cs (begins_with_text rest) ≡ true in
    let head : (is_among is c.identity || test n c bs cs (begins_with_text rest)) ≡ true =
    ⊎_elim (λ t. or-true (is_among is c.identity) (test n c bs cs (begins_with_text rest)) (subst P t.1 (pass (entry_of c q (roots bs) (roots cs)) (ap f t.1 ∙ holds.0) n bs cs (begins_with_text rest))))
    (λ t. head-other i c.identity is (test n c bs cs (begins_with_text rest)) (test n c bs cs (begins_with_text rest)) t.0 refl s.here) (eqb_tells i c.identity) in
    passing is test n c bs cs rest head (but-passing f i is test (Some c.identity) (suc n) bs holds.1 pass s.attributes) (but-passing f i is test (Some c.identity) (suc n) cs holds.2 pass s.children) (but-passing f i is test q n rest holds.3 pass s.others)

-- ---- a node that stands at the roots alone, where all roots pass
pub but-root : (i : ℕ) (is : List ℕ) (test : NodeTest) → ((c : Content) (bs cs : Trees) (b : Bool) → test 0 c bs cs b ≡ true) → (ts : Trees) → StandsAtRoots i ts
    → all_but (i ∷ is) test 0 ts ≡ true → all_but is test 0 ts ≡ true
but-root i is test pass no_trees at h = refl
but-root i is test pass (tree c bs cs rest) at h =
    let s = passes (i ∷ is) test 0 c bs cs rest h in
    passing is test 0 c bs cs rest (or-true (is_among is c.identity) (test 0 c bs cs (begins_with_text rest)) (pass c bs cs (begins_with_text rest))) (but-gone i is test 1 bs at.0 s.attributes)
    (but-gone i is test 1 cs at.1 s.children) (but-root i is test pass rest at.2 s.others)

-- ---- a list of a node that becomes another
begins-relisted : (part : Part) (p : ℕ) (us ts : Trees) → begins_with_text (relisted part p us ts) ≡ begins_with_text ts
begins-relisted part p us no_trees = refl
begins-relisted part p us (tree c bs cs rest) = refl

-- the test reads neither list of a node
abbrev pub IsOfNode : NodeTest → Type 0
IsOfNode test = (n : ℕ) (c : Content) (bs cs ds es : Trees) (b : Bool) → test n c bs cs b ≡ test n c ds es b

module _ (i : ℕ) (is : List ℕ) (test : NodeTest) (of_node : IsOfNode test) (p : ℕ) (us vs : Trees) (step : (n : ℕ) → all_but (i ∷ is) test n us ≡ true → all_but is test n vs ≡ true) where
  relisted-head : (part : Part) (n : ℕ) (c : Content) (bs cs ds es rest : Trees) → eqb i c.identity ≡ false → (is_among (i ∷ is) c.identity || test n c bs cs (begins_with_text (relisted part p us rest))) ≡ true
      → (is_among is c.identity || test n c ds es (begins_with_text (relisted part p vs rest))) ≡ true
  relisted-head part n c bs cs ds es rest e h =
      head-other i c.identity is (test n c bs cs (begins_with_text (relisted part p us rest))) (test n c ds es (begins_with_text (relisted part p vs rest))) e
      (of_node n c bs cs ds es (begins_with_text (relisted part p us rest)) ∙ ap (test n c ds es) (begins-relisted part p us rest ∙ sym (begins-relisted part p vs rest))) h

  pub but-relisted : (part : Part) (n : ℕ) (ts : Trees) → count i (emptied part p ts) ≡ 0 → all_but (i ∷ is) test n (relisted part p us ts) ≡ true → all_but is test n (relisted part p vs ts) ≡ true
  but-relisted part n no_trees z h = refl
  but-relisted Attributes n (tree c bs cs rest) z h =
      ⊎_elim (λ t. (let y = rw t.0 at z in absurd (omega arith)))
      (λ t. (let y = rw t.0 at z in
      ⊎_elim
      (λ u. (let x = rw u.0 at y in
      let s = passes (i ∷ is) test n c us (relisted Attributes p us cs) (relisted Attributes p us rest) (let w = rw u.0 at h in w) in
      rw u.0 (passing is test n c vs (relisted Attributes p vs cs) (relisted Attributes p vs rest) (relisted-head Attributes n c us (relisted Attributes p us cs) vs (relisted Attributes p vs cs) rest t.0 s.here)
      (step (suc n) s.attributes) (but-relisted Attributes (suc n) cs (omega arith) s.children) (but-relisted Attributes n rest (omega arith) s.others))))
      (λ u. (let x = rw u.0 at y in
      let s = passes (i ∷ is) test n c (relisted Attributes p us bs) (relisted Attributes p us cs) (relisted Attributes p us rest) (let w = rw u.0 at h in w) in
      rw u.0 (passing is test n c (relisted Attributes p vs bs) (relisted Attributes p vs cs) (relisted Attributes p vs rest)
      (relisted-head Attributes n c (relisted Attributes p us bs) (relisted Attributes p us cs) (relisted Attributes p vs bs) (relisted Attributes p vs cs) rest t.0 s.here)
      (but-relisted Attributes (suc n) bs (omega arith) s.attributes) (but-relisted Attributes (suc n) cs (omega arith) s.children) (but-relisted Attributes n rest (omega arith) s.others))))
      (eqb_tells p c.identity))) (eqb_tells i c.identity)
  but-relisted Children n (tree c bs cs rest) z h =
      ⊎_elim (λ t. (let y = rw t.0 at z in absurd (omega arith)))
      (λ t. (let y = rw t.0 at z in
      ⊎_elim
      (λ u. (let x = rw u.0 at y in
      let s = passes (i ∷ is) test n c (relisted Children p us bs) us (relisted Children p us rest) (let w = rw u.0 at h in w) in
      rw u.0 (passing is test n c (relisted Children p vs bs) vs (relisted Children p vs rest) (relisted-head Children n c (relisted Children p us bs) us (relisted Children p vs bs) vs rest t.0 s.here)
      (but-relisted Children (suc n) bs (omega arith) s.attributes) (step (suc n) s.children) (but-relisted Children n rest (omega arith) s.others))))
      (λ u. (let x = rw u.0 at y in
      let s = passes (i ∷ is) test n c (relisted Children p us bs) (relisted Children p us cs) (relisted Children p us rest) (let w = rw u.0 at h in w) in
      rw u.0 (passing is test n c (relisted Children p vs bs) (relisted Children p vs cs) (relisted Children p vs rest)
      (relisted-head Children n c (relisted Children p us bs) (relisted Children p us cs) (relisted Children p vs bs) (relisted Children p vs cs) rest t.0 s.here)
      (but-relisted Children (suc n) bs (omega arith) s.attributes) (but-relisted Children (suc n) cs (omega arith) s.children) (but-relisted Children n rest (omega arith) s.others))))
      (eqb_tells p c.identity))) (eqb_tells i c.identity)

-- ---- the list in which the node stands
begins-append : (xs : Trees) (c : Content) (s : List ℕ) (bs cs us vs : Trees) → begins_with_text (append xs (tree c bs cs us)) ≡ begins_with_text (append xs (tree (more c s) bs cs vs))
begins-append no_trees c s bs cs us vs = refl
begins-append (tree x ds es xs) c s bs cs us vs = refl

-- a text that is followed by none
pub but-merged : (is : List ℕ) (n k : ℕ) (xs : Trees) (c : Content) (s : List ℕ) (bs cs rs : Trees) → count c.identity xs + count c.identity bs + count c.identity cs + count c.identity rs ≡ 0 → begins_with_text (rest_of k rs) ≡ false
    → all_but (c.identity ∷ is) is_apart n (append xs (tree c bs cs rs)) ≡ true → all_but is is_apart n (append xs (tree (more c s) bs cs (rest_of k rs))) ≡ true
but-merged is n k no_trees c s bs cs rs z e h =
    let i = c.identity in
    let q = passes (i ∷ is) is_apart n c bs cs rs h in
    passing is is_apart n (more c s) bs cs (rest_of k rs) (or-true (is_among is i) ((n == 0) || not (is_text c.kind && begins_with_text (rest_of k rs))) (or-true (n == 0) (not (is_text c.kind && begins_with_text (rest_of k rs))) (rw e (never (is_text c.kind)))))
    (but-gone i is is_apart (suc n) bs (omega arith) q.attributes) (but-gone i is is_apart (suc n) cs (omega arith) q.children)
    (all_but-rest is is_apart n k rs (but-gone i is is_apart n rs (omega arith) q.others))
but-merged is n k (tree x ds es xs) c s bs cs rs z e h =
    let i = c.identity in
    let q = passes (i ∷ is) is_apart n x ds es (append xs (tree c bs cs rs)) h in
    ⊎_elim (λ t. (let y = rw t.0 at z in absurd (omega arith)))
    (λ t. (let y = rw t.0 at z in
    passing is is_apart n x ds es (append xs (tree (more c s) bs cs (rest_of k rs)))
    (head-other i x.identity is ((n == 0) || not (is_text x.kind && begins_with_text (append xs (tree c bs cs rs)))) ((n == 0) || not (is_text x.kind && begins_with_text (append xs (tree (more c s) bs cs (rest_of k rs))))) t.0
    (ap (λ b. (n == 0) || not (is_text x.kind && b)) (begins-append xs c s bs cs rs (rest_of k rs))) q.here)
    (but-gone i is is_apart (suc n) ds (omega arith) q.attributes) (but-gone i is is_apart (suc n) es (omega arith) q.children)
    (but-merged is n k xs c s bs cs rs (omega arith) e q.others))) (eqb_tells i x.identity)

-- a node that goes
pub but-left : (is : List ℕ) (n : ℕ) (xs : Trees) (c : Content) (bs cs rs : Trees) → count c.identity xs + count c.identity rs ≡ 0
    → all_but (c.identity ∷ is) is_filled n (append xs (tree c bs cs rs)) ≡ true → all_but is is_filled n (append xs rs) ≡ true
but-left is n no_trees c bs cs rs z h = but-gone c.identity is is_filled n rs (omega arith) (passes (c.identity ∷ is) is_filled n c bs cs rs h).others
but-left is n (tree x ds es xs) c bs cs rs z h =
    let i = c.identity in
    let q = passes (i ∷ is) is_filled n x ds es (append xs (tree c bs cs rs)) h in
    ⊎_elim (λ t. (let y = rw t.0 at z in absurd (omega arith)))
    (λ t. (let y = rw t.0 at z in
    passing is is_filled n x ds es (append xs rs) (head-other i x.identity is ((n == 0) || not (is_empty_text x)) ((n == 0) || not (is_empty_text x)) t.0 refl q.here)
    (but-gone i is is_filled (suc n) ds (omega arith) q.attributes) (but-gone i is is_filled (suc n) es (omega arith) q.children)
    (but-left is n xs c bs cs rs (omega arith) q.others))) (eqb_tells i x.identity)

-- ---- where no node is left out
apart-merged : (n : ℕ) (ts : Trees) → all_but [] is_apart (suc n) ts ≡ true → all_merged ts ≡ ts
apart-merged n no_trees h = refl
apart-merged n (tree c bs cs rest) h =
    let s = passes [] is_apart (suc n) c bs cs rest h in
    rw (apart-merged (suc n) bs s.attributes, apart-merged (suc n) cs s.children, apart-merged n rest s.others) (before-same c bs cs rest (rw (below-root n) at s.here))
  where
    before-same : (c : Content) (bs cs rest : Trees) → not (is_text c.kind && begins_with_text rest) ≡ true → before_merged c bs cs rest ≡ tree c bs cs rest
    before-same c bs cs no_trees h = refl
    before-same c bs cs (tree d ds es rest) h = rw (not-true (is_text c.kind && is_text d.kind) h) refl

pub apart-below : (ts : Trees) → all_but [] is_apart 0 ts ≡ true → merged_below ts ≡ ts
apart-below no_trees h = refl
apart-below (tree c bs cs rest) h =
    let s = passes [] is_apart 0 c bs cs rest h in
    rw (apart-merged 0 bs s.attributes, apart-merged 0 cs s.children, apart-below rest s.others) refl

filled-all : (n : ℕ) (ts : Trees) → all_but [] is_filled (suc n) ts ≡ true → all_filled ts ≡ ts
filled-all n no_trees h = refl
filled-all n (tree c bs cs rest) h =
    let s = passes [] is_filled (suc n) c bs cs rest h in
    rw (not-true (is_empty_text c) (rw (below-root n) at s.here), filled-all (suc n) bs s.attributes, filled-all (suc n) cs s.children, filled-all n rest s.others) refl

pub filled-all-below : (ts : Trees) → all_but [] is_filled 0 ts ≡ true → filled_below ts ≡ ts
filled-all-below no_trees h = refl
filled-all-below (tree c bs cs rest) h =
    let s = passes [] is_filled 0 c bs cs rest h in
    rw (filled-all 0 bs s.attributes, filled-all 0 cs s.children, filled-all-below rest s.others) refl
