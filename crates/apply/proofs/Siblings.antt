-- Where a text stands: below a parent, at a place of one of its lists.
use Prim.Native.Nat.{zero, suc}
use Rattle.std.proofs.Common.{◌≡◌, ◌==◌, ℕ, ◌<◌, true, false, List, [], ◌∷◌, length, get_or, refl, ap, sym, ◌∙◌, arith, ⊎_elim, inr, Option, Some, None}
use Rattle.std.specs.List.{slice_get, position, position_or_len}
use Rattle.std.specs.Option.{MatchOption}
use Rattle.std.proofs.lemmas.Bool.{eqb-true, lt-ltb}
use Rattle.std.proofs.lemmas.Bool.Decides.{eqb_tells}
use Rattle.std.proofs.lemmas.List.Quantifiers.{position-Some}
use Rattle.data_model.specs.Axes.{is_in}
use Rattle.data_model.specs.Trees.{Trees, Place, find, parent_at, children_of, attributes_of, is_text}
use Rattle.data_model.specs.Views.{Views}
use Rattle.data_model.specs.declared.node.NodeView.{NodeView}
use Rattle.data_model.proofs.Climbs.{AreDistinct}
use Rattle.data_model.proofs.Firsts.{eqb-swap}
use Rattle.data_model.proofs.Weights.{eqb-same}
use Rattle.node_table.proofs.Axes.{parent-lists}
use Rattle.apply.specs.Texts.{is_text_at, IsNoTextBelow, IsTextBelow}

-- a text, of which one look-up reads its parent
pub text-below : (i : ℕ) (ts : Trees) (v : NodeView) → Views (Some v) (find i ts) → is_text v.kind ≡ true → MatchOption v.parent (IsNoTextBelow i ts) (λ p. IsTextBelow p i ts)
text-below i ts v view text = by (find i ts) v.parent refl refl view
  where
    by : (o : Option Place) (q : Option ℕ) → find i ts ≡ o → v.parent ≡ q → Views (Some v) o → MatchOption q (IsNoTextBelow i ts) (λ p. IsTextBelow p i ts)
    by None q e f view = absurd view
    by (Some x) None e f view = inr (ap parent_at e ∙ sym view.parent ∙ f)
    by (Some x) (Some p) e f view = record { text = ap is_text_at e ∙ ap is_text (sym view.kind) ∙ text; parent = ap parent_at e ∙ sym view.parent ∙ f }

pub no-text : (i : ℕ) (ts : Trees) (v : NodeView) → Views (Some v) (find i ts) → is_text v.kind ≡ false → is_text_at (find i ts) ≡ false
no-text i ts v view text = by (find i ts) refl view
  where
    by : (o : Option Place) → find i ts ≡ o → Views (Some v) o → is_text_at (find i ts) ≡ false
    by None e view = absurd view
    by (Some x) e view = ap is_text_at e ∙ ap is_text (sym view.kind) ∙ text

-- ---- its place in a list
pub get-at : (k d : ℕ) (xs : List ℕ) → k < length xs → slice_get xs k ≡ Some (get_or xs k d)
get-at k d [] h = absurd (omega arith)
get-at zero d (x ∷ xs) h = refl
get-at (suc k) d (x ∷ xs) h = get-at k d xs (omega arith)

pub place-found : (i k : ℕ) (xs : List ℕ) → position (λ j. j == i) xs ≡ Some k → (slice_get xs k ≡ Some i) × (k < length xs)
place-found i k xs h =
    let s = position-Some (λ j. j == i) xs k 0 h in
    (get-at k 0 xs s.0 ∙ ap Some (eqb-true (get_or xs k 0) i s.1), s.0)

in-length : (i : ℕ) (xs : List ℕ) → is_in i xs ≡ true → position_or_len (λ j. j == i) xs < length xs
in-length i [] h = cc
in-length i (x ∷ xs) h =
    ⊎_elim (λ t. rw (eqb-swap i x true t.0) (omega arith)) (λ t. (let y = rw t.0 at h in let z = in-length i xs y in rw (eqb-swap i x false t.0) (omega arith))) (eqb_tells i x)

pub place-none : (i : ℕ) (xs : List ℕ) → position (λ j. j == i) xs ≡ None → is_in i xs ≡ true → ⊥
place-none i xs h there = (let l = lt-ltb (position_or_len (λ j. j == i) xs) (length xs) (in-length i xs there) in let z = rw l at h in cc)

-- a text that stands in neither list of its parent is none
pub text-listed : (p i : ℕ) (ts : Trees) → AreDistinct ts → IsTextBelow p i ts → position (λ j. j == i) (children_of p ts) ≡ None → position (λ j. j == i) (attributes_of p ts) ≡ None → is_text_at (find i ts) ≡ false
text-listed p i ts d below h k =
    let parent = below.parent in
    ⊎_elim (λ t. absurd (place-none i (children_of p ts) h t)) (λ t. absurd (place-none i (attributes_of p ts) k t)) (parent-lists ts d p i (rw parent (eqb-same p)))
