-- What the calls of the code need of the trees, and what they leave.
use Prim.Native.Nat.{suc}
use Rattle.std.proofs.Common.{◌≡◌, ℕ, ◌+◌, ◌-◌, ◌≤◌, ◌<◌, true, false, not, ◌||◌, ◌==◌, Bool, List, [], ◌∷◌, ◌++◌, length, take, drop, refl, ap, sym, ◌∙◌, arith, ◌&&◌, get_or, Some, None, IsSome, subst, ⊎_elim}
use Rattle.std.specs.List.{slice_get}
use Rattle.std.specs.Str.{bytes_eq}
use Rattle.std.proofs.lemmas.List.{take_rest}
use Rattle.data_model.specs.Changes.{with_part, with_content, part_of}
use Rattle.data_model.specs.Trees.{Trees, no_trees, tree, append, count, find, is_text}
use Rattle.data_model.proofs.Climbs.{AreDistinct}
use Rattle.data_model.proofs.Weights.{append-none}
use Rattle.node_plans.specs.Splices.{spliced}
use Rattle.node_table.specs.Flat.{entry_in}
use Rattle.tracked_drafts.specs.Tests.{is_apart, is_filled, Begins}
use Rattle.apply.specs.declared.site.Site.{Site}
use Rattle.apply.specs.Texts.{is_text_at, text_at, first_texts, texts_of, IsNoTextBelow, IsTextAt, Merges, Empties, merged_below, filled_below}
use Rattle.tracked_drafts.proofs.Roots.{at-roots}
use Rattle.update_meaning.specs.Results.{all_merged, all_filled}
use Rattle.update_meaning.specs.Changed.{tidied_below}
use Rattle.apply.proofs.Alls.{but-passing, but-root}
use Rattle.apply.proofs.Cuts.{get-drop, get-begins}
use Rattle.apply.proofs.Siblings.{get-at}
use Rattle.apply.proofs.Steps.{after_place, followers, followers_text, without_followers, with_followers, Merged, merged-at, Left, left-at, holds-found, kind-of}

-- first the one, then the other
pub both-below : (ts : Trees) → filled_below (merged_below ts) ≡ tidied_below ts
both-below no_trees = refl
both-below (tree c bs cs rest) = ap (tree c (all_filled (all_merged bs)) (all_filled (all_merged cs))) (both-below rest)

-- no trees are added
pub none-added : (ts : Trees) → AreDistinct ts → (i : ℕ) → count i (append ts no_trees) ≤ 1
none-added ts d i = rw (append-none ts) (d i)

-- ---- the nodes that were touched, one after the other
-- they stay at their places in a list that begins with them
touched-at : (is js : List ℕ) (k : ℕ) → Begins is js → k < length is → slice_get js k ≡ Some (get_or is k 0)
touched-at is js k b l = get-begins k (get_or is k 0) is js b (get-at k 0 is l)

pub touched-next : (is js : List ℕ) (k i : ℕ) → Begins is js → k < length is → slice_get js k ≡ Some i → drop k is ≡ i ∷ drop (k + 1) is
touched-next is js k i b l h =
    let x = get_or is k 0 in
    let same : x ≡ i = (let z : Some x ≡ Some i = sym (touched-at is js k b l) ∙ h in cc) in
    let one : suc k ≡ k + 1 = omega arith in
    get-drop k x is (get-at k 0 is l) ∙ (λ t. same t ∷ drop (one t) is)

pub touched-there : (is js : List ℕ) (k : ℕ) → Begins is js → k < length is → slice_get js k ≡ None → ⊥
touched-there is js k b l h = (let z : Some (get_or is k 0) ≡ None = sym (touched-at is js k b l) ∙ h in cc)

-- ---- a text takes in those after it
-- what is asked, and what comes of it, where n texts come after the text i at the place k of a list
pub record Takes (s : Site) (i n : ℕ) (ids : List ℕ) (ts : Trees) : Type 0 where
  pub parent : IsSome (find s.parent ts)
  pub within : s.at + 1 + n ≤ length ids
  pub stays : IsSome (find i (with_part s.part s.parent (spliced (s.at + 1) (s.at + 1 + n) no_trees) ts))
  pub merges : Merges i ts (with_content i (λ c. record c { text = texts_of ts (take (s.at + 1 + n - s.at) (drop s.at ids)) }) (with_part s.part s.parent (spliced (s.at + 1) (s.at + 1 + n) no_trees) ts))
  pub alone : n ≡ 0 → Merges i ts ts

module _ (s : Site) (i n : ℕ) (ids : List ℕ) (ts : Trees) (d : AreDistinct ts) (h : IsTextAt s i ts) (are : ids ≡ part_of s.part s.parent ts) (counts : n ≡ first_texts ts (take (length ids - (s.at + 1)) (drop (s.at + 1) ids))) where
  m : Merged s.part s.parent s.at i ts
  m = merged-at s.part s.parent s.at i ts d h.place h.text

  after : drop (s.at + 1) ids ≡ after_place s.part s.parent s.at ts
  after = let one : s.at + 1 ≡ suc s.at = omega arith in (λ t. drop (one t) (are t))

  n-is : n ≡ followers s.part s.parent s.at ts
  n-is = counts ∙ ap (first_texts ts) (take_rest ids (s.at + 1) ∙ after)

  from-here : drop s.at ids ≡ i ∷ after_place s.part s.parent s.at ts
  from-here = ap (drop s.at) are ∙ get-drop s.at i (part_of s.part s.parent ts) h.place

  said : texts_of ts (take (s.at + 1 + n - s.at) (drop s.at ids)) ≡ text_at (find i ts) ++ followers_text s.part s.parent s.at ts
  said =
      let e : s.at + 1 + n - s.at ≡ suc n = omega arith in
      (λ t. texts_of ts (take (e t) (from-here t))) ∙ ap (λ k. text_at (find i ts) ++ texts_of ts (take k (after_place s.part s.parent s.at ts))) n-is

  cut : with_part s.part s.parent (spliced (s.at + 1) (s.at + 1 + n) no_trees) ts ≡ without_followers s.part s.parent s.at ts
  cut = let one : s.at + 1 ≡ suc s.at = omega arith in (λ t. with_part s.part s.parent (spliced (one t) (one t + n-is t) no_trees) ts)

  whole : with_content i (λ c. record c { text = texts_of ts (take (s.at + 1 + n - s.at) (drop s.at ids)) }) (with_part s.part s.parent (spliced (s.at + 1) (s.at + 1 + n) no_trees) ts)
      ≡ with_followers s.part s.parent s.at i ts
  whole = λ t. with_content i (λ c. record c { text = said t }) (cut t)

  pub takes : Takes s i n ids ts
  takes = record {
    parent = m.parent;
    within = (let w = m.within in let e = n-is in let l = ap length are in omega arith);
    stays = (let P : Trees → Type 0 = λ t. IsSome (find i t) in subst P (sym cut) m.stays);
    merges = (let P : Trees → Type 0 = λ t. Merges i ts t in subst P (sym whole) (record { merged = m.same; apart = m.apart }));
    alone = λ z. record { merged = refl; apart = m.alone (sym n-is ∙ z) };
  }

-- the text that was joined is what the first one says then
pub says-so : (i : ℕ) (ts us vs ws : Trees) (text said : List ℕ) → text ≡ said → us ≡ vs → Merges i ts (with_content i (λ c. record c { text = said }) vs) → ws ≡ with_content i (λ c. record c { text = text }) us → Merges i ts ws
says-so i ts us vs ws text said e f h is =
    let P : Trees → Type 0 = Merges i ts in
    subst P (sym (is ∙ (λ t. with_content i (λ c. record c { text = e t }) (f t)))) h

or-true : (a b : Bool) → b ≡ true → (a || b) ≡ true
or-true true b e = refl
or-true false b e = e

-- what is no text has nothing to take in, and a root has no neighbours
pub takes-none : (i : ℕ) (ts : Trees) → AreDistinct ts → IsNoTextBelow i ts → Merges i ts ts
takes-none i ts d none = record {
  merged = refl;
  apart = λ is a. ⊎_elim
      (λ no. but-passing (λ j. entry_in j ts) i is is_apart None 0 ts (holds-found None ts d)
      (λ e at m bs cs b. (let z : is_text e.kind ≡ false = sym (kind-of (find i ts) e at).0 ∙ no in or-true (m == 0) (not (is_text e.kind && b)) (rw z refl))) a)
      (λ top. but-root i is is_apart (λ c bs cs b. refl) ts (at-roots i ts d top) a)
      none;
}

-- ---- an empty text goes
empty-text : (s : List ℕ) → bytes_eq s [] ≡ true → s ≡ []
empty-text [] h = refl
empty-text (x ∷ xs) h = cc

-- what is asked, and what comes of it, where the empty text i stands at a place of a list
pub record Goes (s : Site) (i : ℕ) (ts : Trees) : Type 0 where
  pub parent : IsSome (find s.parent ts)
  pub within : s.at + 1 ≤ length (part_of s.part s.parent ts)
  pub empties : Empties i ts (with_part s.part s.parent (spliced s.at (s.at + 1) no_trees) ts)

pub goes : (s : Site) (i : ℕ) (ts : Trees) → AreDistinct ts → IsTextAt s i ts → bytes_eq (text_at (find i ts)) [] ≡ true → Goes s i ts
goes s i ts d h empty =
    let l : Left s.part s.parent s.at i ts = left-at s.part s.parent s.at i ts d h.place h.text (empty-text (text_at (find i ts)) empty) in
    let one : suc s.at ≡ s.at + 1 = omega arith in
    let P : ℕ → Type 0 = λ k. Empties i ts (with_part s.part s.parent (spliced s.at k no_trees) ts) in
    record { parent = l.parent; within = (let w = l.within in omega arith); empties = subst P one (record { filled = l.same; others = l.filled }) }

-- a node that is no empty text stays
pub goes-none : (i : ℕ) (ts : Trees) → AreDistinct ts → (is_text_at (find i ts) && bytes_eq (text_at (find i ts)) []) ≡ false → Empties i ts ts
goes-none i ts d none = record {
  filled = refl;
  others = λ is a. but-passing (λ j. entry_in j ts) i is is_filled None 0 ts (holds-found None ts d)
      (λ e at m bs cs b. (let k = kind-of (find i ts) e at in
      let z : (is_text e.kind && bytes_eq e.text []) ≡ false = (λ t. sym k.0 t && bytes_eq (sym k.1 t) []) ∙ none in or-true (m == 0) (not (is_text e.kind && bytes_eq e.text [])) (rw z refl))) a;
}

-- and so does a node that is no text below another
pub goes-nowhere : (i : ℕ) (ts : Trees) → AreDistinct ts → IsNoTextBelow i ts → Empties i ts ts
goes-nowhere i ts d none =
    ⊎_elim (λ no. goes-none i ts d (rw no refl)) (λ top. record { filled = refl; others = λ is a. but-root i is is_filled (λ c bs cs b. refl) ts (at-roots i ts d top) a }) none
