-- Lists of trees from which some are cut, and what a node in a list says.
use Rattle.std.proofs.Common.{◌≡◌, ℕ, ◌+◌, List, [], ◌∷◌, length, take, drop, refl, ap, ◌∙◌, arith, ⊎_elim, Some}
use Prim.Native.Nat.{zero, suc}
use Rattle.std.specs.List.{slice_get}
use Rattle.std.proofs.lemmas.Bool.Decides.{eqb_tells}
use Rattle.data_model.specs.Trees.{Trees, no_trees, tree, Content, append, count}
use Rattle.data_model.specs.Changes.{with_part, with_content}
use Rattle.data_model.specs.declared.node.Part.{Part}
use Rattle.data_model.specs.declared.node.Part.TheVariants.{Attributes, Children}
use Rattle.node_table.proofs.Relists.{relisted, emptied}
use Rattle.node_plans.specs.Splices.{first_of, rest_of, spliced}
use Rattle.apply.proofs.Merges.{rest-zero}

first-zero : (ts : Trees) → first_of zero ts ≡ no_trees
first-zero no_trees = refl
first-zero (tree c bs cs rest) = refl

-- a list without those after its first
shorter : ℕ → Trees → Trees
shorter m no_trees = no_trees
shorter m (tree c bs cs rest) = tree c bs cs (rest_of m rest)

later : Trees → Trees
later no_trees = no_trees
later (tree c bs cs rest) = rest

-- a tree stays, and m after it go
pub cut-after : (k m : ℕ) (us : Trees) (c : Content) (bs cs rs : Trees) → rest_of k us ≡ tree c bs cs rs → spliced (suc k) (suc k + m) no_trees us ≡ append (first_of k us) (tree c bs cs (rest_of m rs))
unfolding shorter
cut-after k m no_trees c bs cs rs h = cc
cut-after zero m (tree x ds es more) c bs cs rs h = let e : suc zero + m ≡ suc m = omega arith in rw (e, first-zero more) (ap (shorter m) h)
cut-after (suc k) m (tree x ds es more) c bs cs rs h = let e : suc (suc k) + m ≡ suc (suc k + m) = omega arith in rw e (ap (λ t. tree x ds es t) (cut-after k m more c bs cs rs h))

-- a tree goes
pub cut-at : (k : ℕ) (us : Trees) (c : Content) (bs cs rs : Trees) → rest_of k us ≡ tree c bs cs rs → spliced k (suc k) no_trees us ≡ append (first_of k us) rs
unfolding later
cut-at k no_trees c bs cs rs h = cc
cut-at zero (tree x ds es more) c bs cs rs h = rest-zero more ∙ ap later h
cut-at (suc k) (tree x ds es more) c bs cs rs h = ap (λ t. tree x ds es t) (cut-at k more c bs cs rs h)

-- ---- what a node says
pub content-absent : (i : ℕ) (g : Content → Content) (ts : Trees) → count i ts ≡ 0 → with_content i g ts ≡ ts
content-absent i g no_trees h = refl
content-absent i g (tree c bs cs rest) h =
    ⊎_elim (λ t. (let z = rw t.0 at h in absurd (omega arith)))
    (λ t. (let z = rw t.0 at h in rw (t.0, content-absent i g bs (omega arith), content-absent i g cs (omega arith), content-absent i g rest (omega arith)) refl)) (eqb_tells i c.identity)

-- of a node that stands in one list alone
pub content-relisted : (i : ℕ) (g : Content → Content) (part : Part) (p : ℕ) (us ts : Trees) → count i (emptied part p ts) ≡ 0 → with_content i g (relisted part p us ts) ≡ relisted part p (with_content i g us) ts
content-relisted i g part p us no_trees h = refl
content-relisted i g Attributes p us (tree c bs cs rest) h =
    ⊎_elim (λ t. (let z = rw t.0 at h in absurd (omega arith)))
    (λ t. (let z = rw t.0 at h in
    let d = content-relisted i g Attributes p us cs (omega arith) in
    let r = content-relisted i g Attributes p us rest (omega arith) in
    ⊎_elim (λ s. rw (t.0, s.0, d, r) refl) (λ s. (let y = rw s.0 at z in rw (t.0, s.0, content-relisted i g Attributes p us bs (omega arith), d, r) refl)) (eqb_tells p c.identity)))
    (eqb_tells i c.identity)
content-relisted i g Children p us (tree c bs cs rest) h =
    ⊎_elim (λ t. (let z = rw t.0 at h in absurd (omega arith)))
    (λ t. (let z = rw t.0 at h in
    let b = content-relisted i g Children p us bs (omega arith) in
    let r = content-relisted i g Children p us rest (omega arith) in
    ⊎_elim (λ s. rw (t.0, s.0, b, r) refl) (λ s. (let y = rw s.0 at z in rw (t.0, s.0, b, content-relisted i g Children p us cs (omega arith), r) refl)) (eqb_tells p c.identity)))
    (eqb_tells i c.identity)

-- of a tree in a list
pub content-at : (g : Content → Content) (xs : Trees) (c : Content) (bs cs ys : Trees) → count c.identity xs + count c.identity bs + count c.identity cs + count c.identity ys ≡ 0
    → with_content c.identity g (append xs (tree c bs cs ys)) ≡ append xs (tree (g c) bs cs ys)
content-at g no_trees c bs cs ys z =
    ⊎_elim (λ t. rw (t.0, content-absent c.identity g bs (omega arith), content-absent c.identity g cs (omega arith), content-absent c.identity g ys (omega arith)) refl) (λ t. absurd (t.1 refl)) (eqb_tells c.identity c.identity)
content-at g (tree x ds es xs) c bs cs ys z =
    ⊎_elim (λ t. (let y = rw t.0 at z in absurd (omega arith)))
    (λ t. (let y = rw t.0 at z in rw (t.0, content-absent c.identity g ds (omega arith), content-absent c.identity g es (omega arith), content-at g xs c bs cs ys (omega arith)) refl)) (eqb_tells c.identity x.identity)

-- ---- a list that is rewritten as it was
pub part-same : (part : Part) (p : ℕ) (ts : Trees) → with_part part p (λ t. t) ts ≡ ts
part-same part p no_trees = refl
part-same Attributes p (tree c bs cs rest) =
    ⊎_elim (λ t. rw (t.0, part-same Attributes p bs, part-same Attributes p cs, part-same Attributes p rest) refl) (λ t. rw (t.0, part-same Attributes p bs, part-same Attributes p cs, part-same Attributes p rest) refl) (eqb_tells p c.identity)
part-same Children p (tree c bs cs rest) =
    ⊎_elim (λ t. rw (t.0, part-same Children p bs, part-same Children p cs, part-same Children p rest) refl) (λ t. rw (t.0, part-same Children p bs, part-same Children p cs, part-same Children p rest) refl) (eqb_tells p c.identity)

-- ---- places in a list of numbers
pub get-drop : (k i : ℕ) (xs : List ℕ) → slice_get xs k ≡ Some i → drop k xs ≡ i ∷ drop (suc k) xs
get-drop k i [] h = cc
get-drop zero i (x ∷ xs) h = (let e : x ≡ i = cc in ap (λ j. j ∷ drop zero xs) e)
get-drop (suc k) i (x ∷ xs) h = get-drop k i xs h

pub get-within : (k i : ℕ) (xs : List ℕ) → slice_get xs k ≡ Some i → suc k + length (drop (suc k) xs) ≡ length xs
get-within k i [] h = cc
get-within zero i (x ∷ xs) h = omega arith
get-within (suc k) i (x ∷ xs) h = omega (arith, get-within k i xs h)

pub get-begins : (k i : ℕ) (xs ys : List ℕ) → take (length xs) ys ≡ xs → slice_get xs k ≡ Some i → slice_get ys k ≡ Some i
get-begins k i [] ys b h = cc
get-begins k i (x ∷ xs) [] b h = cc
get-begins zero i (x ∷ xs) (y ∷ ys) b h = (let e : x ≡ i = cc in let f : y ≡ x = cc in ap Some (f ∙ e))
get-begins (suc k) i (x ∷ xs) (y ∷ ys) b h = get-begins k i xs ys (let e : take (length xs) ys ≡ xs = cc in e) h
