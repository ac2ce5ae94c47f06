-- Lists that tidying makes the same.
use Rattle.std.proofs.Common.{◌≡◌, ℕ, true, false, cond, List, ◌++◌, refl, ap, sym, ◌∙◌, append-nil, append_assoc, ⊎_elim}
use Prim.Native.Nat.{zero}
use Rattle.std.proofs.lemmas.Bool.{cases_Bool}
use Rattle.std.proofs.lemmas.Bool.Decides.{eqb_tells}
use Rattle.data_model.specs.Trees.{Trees, no_trees, tree, Content, append, is_text}
use Rattle.data_model.specs.Tidy.{begins_with_text}
use Rattle.data_model.specs.declared.node.Part.{Part}
use Rattle.data_model.specs.declared.node.Part.TheVariants.{Attributes, Children}
use Rattle.node_table.proofs.Relists.{relisted}
use Rattle.node_plans.specs.Splices.{rest_of}
use Rattle.pending.specs.Texts.{before_merged, is_empty_text}
use Rattle.update_meaning.specs.Results.{all_merged, all_filled}
use Rattle.apply.specs.Texts.{merged_below, filled_below}
use Rattle.apply.proofs.Leading.{leading, leading_text}

-- ---- texts that follow a text
pub rest-zero : (ts : Trees) → rest_of zero ts ≡ ts
rest-zero no_trees = refl
rest-zero (tree c bs cs rest) = refl

abbrev pub more : Content → List ℕ → Content
more c s = record c { text = c.text ++ s }

-- after the texts with which a list begins, none comes
pub leading-ends : (ts : Trees) → begins_with_text (rest_of (leading ts) ts) ≡ false
leading-ends no_trees = refl
leading-ends (tree c bs cs rest) = ⊎_elim (λ e. rw e (leading-ends rest)) (λ e. rw e e) (cases_Bool (is_text c.kind))

-- a text before a text, and before another node
before-text : (c d : Content) (bs cs ds es ts : Trees) → is_text c.kind ≡ true → is_text d.kind ≡ true → before_merged c bs cs (tree d ds es ts) ≡ tree (more c d.text) bs cs ts
before-text c d bs cs ds es ts hc hd = rw (hc, hd) refl

before-other : (c d : Content) (bs cs ds es ts : Trees) → is_text c.kind ≡ true → is_text d.kind ≡ false → before_merged c bs cs (tree d ds es ts) ≡ tree c bs cs (tree d ds es ts)
before-other c d bs cs ds es ts hc hd = rw (hc, hd) refl

-- a text takes in one that took in another, or takes in the one, then the other
merged-twice : (c d : Content) (bs cs ds es ts : Trees) → is_text c.kind ≡ true → is_text d.kind ≡ true → before_merged c bs cs (before_merged d ds es ts) ≡ before_merged (more c d.text) bs cs ts
merged-twice c d bs cs ds es no_trees hc hd = before-text c d bs cs ds es no_trees hc hd
merged-twice c d bs cs ds es (tree x fs gs rest) hc hd =
    ⊎_elim
    (λ e. ap (before_merged c bs cs) (before-text d x ds es fs gs rest hd e)
    ∙ before-text c (more d x.text) bs cs ds es rest hc hd
    ∙ ap (λ s. tree (record c { text = s }) bs cs rest) (sym (append_assoc c.text d.text x.text))
    ∙ sym (before-text (more c d.text) x bs cs fs gs rest hc e))
    (λ e. ap (before_merged c bs cs) (before-other d x ds es fs gs rest hd e)
    ∙ before-text c d bs cs ds es (tree x fs gs rest) hc hd
    ∙ sym (before-other (more c d.text) x bs cs fs gs rest hc e))
    (cases_Bool (is_text x.kind))

pub merged-leading : (c : Content) (bs cs rs : Trees) → is_text c.kind ≡ true
    → all_merged (tree (more c (leading_text rs)) bs cs (rest_of (leading rs) rs)) ≡ all_merged (tree c bs cs rs)
merged-leading c bs cs no_trees h = ap (λ s. tree (record c { text = s }) (all_merged bs) (all_merged cs) no_trees) (append-nil c.text)
merged-leading c bs cs (tree d ds es rest) h =
    ⊎_elim
    (λ e. rw e
    (ap (λ s. all_merged (tree (record c { text = s }) bs cs (rest_of (leading rest) rest))) (sym (append_assoc c.text d.text (leading_text rest)))
    ∙ merged-leading (more c d.text) bs cs rest h
    ∙ sym (merged-twice c d (all_merged bs) (all_merged cs) (all_merged ds) (all_merged es) (all_merged rest) h e)))
    (λ e. rw e (ap (λ s. all_merged (tree (record c { text = s }) bs cs (tree d ds es rest))) (append-nil c.text)))
    (cases_Bool (is_text d.kind))

-- ---- lists that begin alike
pub merged-append : (xs us vs : Trees) → all_merged us ≡ all_merged vs → all_merged (append xs us) ≡ all_merged (append xs vs)
merged-append no_trees us vs h = h
merged-append (tree c bs cs xs) us vs h = ap (before_merged c (all_merged bs) (all_merged cs)) (merged-append xs us vs h)

pub filled-append : (xs us vs : Trees) → all_filled us ≡ all_filled vs → all_filled (append xs us) ≡ all_filled (append xs vs)
filled-append no_trees us vs h = h
filled-append (tree c bs cs xs) us vs h = ap (λ t. cond (is_empty_text c) t (tree c (all_filled bs) (all_filled cs) t)) (filled-append xs us vs h)

pub filled-without : (c : Content) (bs cs rest : Trees) → is_empty_text c ≡ true → all_filled (tree c bs cs rest) ≡ all_filled rest
filled-without c bs cs rest h = rw h refl

-- ---- a list of a node that becomes one that is the same once it is tidied
merged-relisted : (part : Part) (p : ℕ) (us vs ts : Trees) → all_merged us ≡ all_merged vs → all_merged (relisted part p us ts) ≡ all_merged (relisted part p vs ts)
merged-relisted part p us vs no_trees h = refl
merged-relisted Attributes p us vs (tree c bs cs rest) h =
    let d = merged-relisted Attributes p us vs cs h in
    let r = merged-relisted Attributes p us vs rest h in
    ⊎_elim (λ t. rw (t.0, h, d, r) refl) (λ t. rw (t.0, merged-relisted Attributes p us vs bs h, d, r) refl) (eqb_tells p c.identity)
merged-relisted Children p us vs (tree c bs cs rest) h =
    let b = merged-relisted Children p us vs bs h in
    let r = merged-relisted Children p us vs rest h in
    ⊎_elim (λ t. rw (t.0, h, b, r) refl) (λ t. rw (t.0, b, merged-relisted Children p us vs cs h, r) refl) (eqb_tells p c.identity)

filled-relisted : (part : Part) (p : ℕ) (us vs ts : Trees) → all_filled us ≡ all_filled vs → all_filled (relisted part p us ts) ≡ all_filled (relisted part p vs ts)
filled-relisted part p us vs no_trees h = refl
filled-relisted Attributes p us vs (tree c bs cs rest) h =
    let d = filled-relisted Attributes p us vs cs h in
    let r = filled-relisted Attributes p us vs rest h in
    ⊎_elim (λ t. rw (t.0, h, d, r) refl) (λ t. rw (t.0, filled-relisted Attributes p us vs bs h, d, r) refl) (eqb_tells p c.identity)
filled-relisted Children p us vs (tree c bs cs rest) h =
    let b = filled-relisted Children p us vs bs h in
    let r = filled-relisted Children p us vs rest h in
    ⊎_elim (λ t. rw (t.0, h, b, r) refl) (λ t. rw (t.0, b, filled-relisted Children p us vs cs h, r) refl) (eqb_tells p c.identity)

-- the same below the roots
pub merged-below-relisted : (part : Part) (p : ℕ) (us vs ts : Trees) → all_merged us ≡ all_merged vs → merged_below (relisted part p us ts) ≡ merged_below (relisted part p vs ts)
merged-below-relisted part p us vs no_trees h = refl
merged-below-relisted Attributes p us vs (tree c bs cs rest) h =
    let d = merged-relisted Attributes p us vs cs h in
    let r = merged-below-relisted Attributes p us vs rest h in
    ⊎_elim (λ t. rw (t.0, h, d, r) refl) (λ t. rw (t.0, merged-relisted Attributes p us vs bs h, d, r) refl) (eqb_tells p c.identity)
merged-below-relisted Children p us vs (tree c bs cs rest) h =
    let b = merged-relisted Children p us vs bs h in
    let r = merged-below-relisted Children p us vs rest h in
    ⊎_elim (λ t. rw (t.0, h, b, r) refl) (λ t. rw (t.0, b, merged-relisted Children p us vs cs h, r) refl) (eqb_tells p c.identity)

pub filled-below-relisted : (part : Part) (p : ℕ) (us vs ts : Trees) → all_filled us ≡ all_filled vs → filled_below (relisted part p us ts) ≡ filled_below (relisted part p vs ts)
filled-below-relisted part p us vs no_trees h = refl
filled-below-relisted Attributes p us vs (tree c bs cs rest) h =
    let d = filled-relisted Attributes p us vs cs h in
    let r = filled-below-relisted Attributes p us vs rest h in
    ⊎_elim (λ t. rw (t.0, h, d, r) refl) (λ t. rw (t.0, filled-relisted Attributes p us vs bs h, d, r) refl) (eqb_tells p c.identity)
filled-below-relisted Children p us vs (tree c bs cs rest) h =
    let b = filled-relisted Children p us vs bs h in
    let r = filled-below-relisted Children p us vs rest h in
    ⊎_elim (λ t. rw (t.0, h, b, r) refl) (λ t. rw (t.0, b, filled-relisted Children p us vs cs h, r) refl) (eqb_tells p c.identity)
