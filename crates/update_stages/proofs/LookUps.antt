-- What a look-up of a node, of its parent and of its place tells.
use Rattle.std.proofs.Common.{◌≡◌, ℕ, ◌+◌, ◌≤◌, ◌<◌, ◌==◌, List, [], ◌∷◌, true, false, cond, eqb, refl, ap, sym, ◌∙◌, arith, ⊎_elim, Option, Some, None, is_some, length, get_or, position}
use Rattle.std.specs.List.{slice_get, position_from}
use Rattle.std.proofs.lemmas.Bool.Decides.{eqb_tells}
use Rattle.std.proofs.lemmas.Iterator.Adapters.{position_from-zero}
use Rattle.std.proofs.lemmas.List.Quantifiers.{position-Some}
use Rattle.std.proofs.lemmas.Option.{slice_get_within}
use Prim.Native.Nat.{zero, suc}
use Rattle.data_model.specs.Trees.{Trees, Content, Place, append, count, find, parent_of}
use Rattle.data_model.specs.Changes.{with_part, with_content, part_of}
use Rattle.data_model.specs.Views.{Views}
use Rattle.data_model.specs.Walks.{held}
use Rattle.data_model.specs.declared.node.NodeView.{NodeView}
use Rattle.data_model.specs.declared.node.Part.{Part}
use Rattle.data_model.specs.declared.node.Part.TheVariants.{Attributes, Children}
use Rattle.data_model.proofs.Climbs.{any-tells, find-present}
use Rattle.data_model.proofs.Weights.{weigh-append}
use Rattle.node_plans.proofs.Sites.{absent-part}
use Rattle.node_plans.specs.Splices.{spliced}
use Rattle.update_meaning.specs.Effects.{with_tree_below}
use Rattle.update_stages.specs.Places.{beside, start_of, end_of}
use Rattle.update_stages.specs.declared.sites.Side.{Side}
use Rattle.update_stages.specs.declared.sites.Side.TheVariants.{Before, After, Instead}
use Rattle.update_stages.proofs.Absent.{with_content-absent}
use Rattle.update_stages.proofs.Places.{part_at, by-parent, below-listed, below-root, in-list, in_lists, none-in}

-- ---- a node that is not there
pub absent-count : (i : ℕ) (ts : Trees) → find i ts ≡ None → count i ts ≡ 0
absent-count i ts h = ⊎_elim (λ t. (let some = find-present None i ts t.1 in let z = rw h at some in cc)) (λ t. t.1) (any-tells (count i ts))

pub views-none : (x : Option Place) → Views None x → x ≡ None
views-none None h = refl
views-none (Some x) h = absurd h

pub no-view : (o : Option NodeView) (x : Option Place) → is_some o ≡ false → Views o x → x ≡ None
no-view None x e h = views-none x h
no-view (Some v) x e h = cc

pub content-nowhere : (i : ℕ) (g : Content → Content) (ts : Trees) → find i ts ≡ None → with_content i g ts ≡ ts
content-nowhere i g ts h = with_content-absent i g ts (absent-count i ts h)

pub part-nowhere : (part : Part) (i : ℕ) (g : Trees → Trees) (ts : Trees) → find i ts ≡ None → with_part part i g ts ≡ ts
part-nowhere part i g ts h = absent-part part i g ts (absent-count i ts h)

-- ---- the first place in a list
getting : (xs : List ℕ) (n d : ℕ) → n < length xs → slice_get xs n ≡ Some (get_or xs n d)
getting [] n d h = absurd (omega arith)
getting (x ∷ xs) zero d h = refl
getting (x ∷ xs) (suc n) d h = getting xs n d (omega arith)

is-it : (x i : ℕ) → (x == i) ≡ true → x ≡ i
is-it x i h = ⊎_elim (λ t. t.1) (λ t. (let z = t.0 in cc)) (eqb_tells x i)

pub place-there : (i n : ℕ) (xs : List ℕ) → position (λ x. x == i) xs ≡ Some n → slice_get xs n ≡ Some i
place-there i n xs h =
    let p = position-Some (λ x. x == i) xs n i h in
    getting xs n i p.0 ∙ ap Some (is-it (get_or xs n i) i p.1)

not-from : (i k : ℕ) (xs : List ℕ) → position_from (λ x. x == i) k xs ≡ None → held i xs ≡ 0
not-from i k [] h = refl
not-from i k (x ∷ xs) h =
    ⊎_elim (λ t. (let z = rw t.0 at h in cc))
    (λ t. (let z = rw t.0 at h in let r = not-from i (k + 1) xs z in ⊎_elim (λ s. absurd (t.1 (sym s.1))) (λ s. rw s.0 (omega arith)) (eqb_tells i x))) (eqb_tells x i)

pub place-none : (i : ℕ) (xs : List ℕ) → position (λ x. x == i) xs ≡ None → held i xs ≡ 0
place-none i xs h = not-from i 0 xs (sym (position_from-zero (λ x. x == i) xs) ∙ h)

-- ---- a parent, and its lists
there-none : (x : Option Place) (i : ℕ) → Views None x → 0 < in_lists i x → ⊥
there-none x i v h = none-in i x h (views-none x v)

there-unlisted : (v : NodeView) (x : Option Place) (i : ℕ) → Views (Some v) x → held i v.attributes.now ≡ 0 → held i v.children.now ≡ 0 → 0 < in_lists i x → ⊥
there-unlisted v None i h a b some = h
there-unlisted v (Some x) i h a b some = (let y = rw h.attributes at a in let z = rw h.children at b in omega arith)

module _ (i p : ℕ) (ts : Trees) (d : (j : ℕ) → count j ts ≤ 1) (up : parent_of i ts ≡ Some p) where
  listed-above : 0 < in_lists i (find p ts)
  listed-above = ⊎_elim (λ l. (let e = l.0 in cc)) (λ r. r) (by-parent p i None ts (d p) (d i) up)

  pub parent-there : Views None (find p ts) → ⊥
  parent-there v = there-none (find p ts) i v listed-above

  pub parent-lists : (v : NodeView) → Views (Some v) (find p ts) → position (λ x. x == i) v.attributes.now ≡ None → position (λ x. x == i) v.children.now ≡ None → ⊥
  parent-lists v h a b = there-unlisted v (find p ts) i h (place-none i v.attributes.now a) (place-none i v.children.now b) listed-above

-- ---- a place in a list of a node
pub part_of-at : (part : Part) (i : ℕ) (ts : Trees) → part_of part i ts ≡ part_at part (find i ts)
part_of-at Attributes i ts = refl
part_of-at Children i ts = refl

viewed-attributes : (v : NodeView) (x : Option Place) → Views (Some v) x → part_at Attributes x ≡ v.attributes.now
viewed-attributes v None h = absurd h
viewed-attributes v (Some x) h = sym h.attributes

viewed-children : (v : NodeView) (x : Option Place) → Views (Some v) x → part_at Children x ≡ v.children.now
viewed-children v None h = absurd h
viewed-children v (Some x) h = sym h.children

pub in-attributes : (i p n : ℕ) (ts : Trees) (v : NodeView) → Views (Some v) (find p ts) → position (λ x. x == i) v.attributes.now ≡ Some n → slice_get (part_of Attributes p ts) n ≡ Some i
in-attributes i p n ts v h e = ap (λ l. slice_get l n) (viewed-attributes v (find p ts) h) ∙ place-there i n v.attributes.now e

pub in-children : (i p n : ℕ) (ts : Trees) (v : NodeView) → Views (Some v) (find p ts) → position (λ x. x == i) v.children.now ≡ Some n → slice_get (part_of Children p ts) n ≡ Some i
in-children i p n ts v h e = ap (λ l. slice_get l n) (viewed-children v (find p ts) h) ∙ place-there i n v.children.now e

-- ---- what comes to stand beside a node
pub within-list : (side : Side) (n i : ℕ) (is : List ℕ) → slice_get is n ≡ Some i → end_of side n ≤ length is
within-list Before n i is h = omega (arith, slice_get_within is n i h)
within-list After n i is h = omega (arith, slice_get_within is n i h)
within-list Instead n i is h = omega (arith, slice_get_within is n i h)

once : (j : ℕ) (ts us : Trees) → count j (append ts us) ≤ 1 → count j ts ≤ 1
once j ts us h = omega (arith, weigh-append (λ k. cond (eqb j k) 1 0) ts us)

module _ (i : ℕ) (side : Side) (us ts : Trees) (d : (j : ℕ) → count j (append ts us) ≤ 1) where
  pub beside-root : parent_of i ts ≡ None → with_tree_below i (beside side us) ts ≡ ts
  beside-root h = below-root i (beside side us) ts (once i ts us (d i)) h

  pub beside-listed : (part : Part) (p n : ℕ) → slice_get (part_of part p ts) n ≡ Some i → with_part part p (spliced (start_of side n) (end_of side n) us) ts ≡ with_tree_below i (beside side us) ts
  beside-listed part p n h =
      let k = spliced (start_of side n) (end_of side n) us in
      let l : slice_get (part_at part (find p ts)) n ≡ Some i = ap (λ is. slice_get is n) (sym (part_of-at part p ts)) ∙ h in
      sym (below-listed p i n (beside side us) k (λ xs o e. in-list i n side us xs o e) part None ts (once p ts us (d p)) (once i ts us (d i)) l)
