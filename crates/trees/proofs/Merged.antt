-- Two lists that rise, merged.
use Rattle.std.proofs.Common.{◌≡◌, ◌≢◌, ◌∙◌, ◌<◌, ◌⊎◌, inl, inr, ℕ, Bool, true, false, ◌||◌, List, [], ◌∷◌, ◌++◌, eqb, filter, length, refl, ap, sym, subst, arith, ⊎_elim, None, IsSome}
use Rattle.std.proofs.lemmas.Bool.Decides.{eqb_tells}
use Rattle.std.proofs.lemmas.List.{append_assoc}
use Rattle.std.proofs.lemmas.List.Folds.{list_any-append}
use Rattle.data_model.specs.Axes.{is_in}
use Rattle.data_model.specs.Order.{identities, comes_before}
use Rattle.data_model.specs.Trees.{Trees, find}
use Rattle.data_model.specs.Walks.{held}
use Rattle.data_model.proofs.Climbs.{AreDistinct, find-present}
use Rattle.data_model.proofs.Firsts.{eqb-swap, held-identities}
use Rattle.node_table.specs.Rising.{Follows, Rises}
use Rattle.node_table.proofs.Ordered.{in-document-order}

-- of two nodes that are not one, the one comes before the other or the other way about
pub one-first : (a b : ℕ) (xs : List ℕ) → a ≢ b → 0 < held b xs → comes_before a b xs ≡ false → comes_before b a xs ≡ true
one-first a b [] ne there other = absurd (omega (arith, there))
one-first a b (x ∷ xs) ne there other = by-b (eqb_tells x b) (λ there-later not-before-later. one-first a b xs ne there-later not-before-later)
  where
    by-a : eqb x b ≡ false → (0 < held b xs → comes_before a b xs ≡ false → comes_before b a xs ≡ true) → (((eqb x a ≡ true) × (x ≡ a)) ⊎ ((eqb x a ≡ false) × (x ≢ a))) → comes_before b a (x ∷ xs) ≡ true
    by-a nb later (inl t) = (let z : true ≡ false = sym (rw nb (rw t.0 refl)) ∙ other in cc)
    by-a nb later (inr t) = rw (t.0, nb) (later (let z = rw (eqb-swap x b false nb) at there in omega arith) (rw (nb, t.0) at other))

    by-b : (((eqb x b ≡ true) × (x ≡ b)) ⊎ ((eqb x b ≡ false) × (x ≢ b))) → (0 < held b xs → comes_before a b xs ≡ false → comes_before b a xs ≡ true) → comes_before b a (x ∷ xs) ≡ true
    by-b (inl t) later = ⊎_elim (λ s. absurd (ne (sym s.1 ∙ t.1))) (λ s. rw (s.0, t.0) refl) (eqb_tells x a)
    by-b (inr t) later = by-a t.0 later (eqb_tells x a)

-- ---- a node is put at the end of a list that rises
pub rises-held : (a : ℕ) (out ls xs : List ℕ) → Rises (out ++ a ∷ ls) xs → 0 < held a xs
rises-held a [] ls xs h = h.0
rises-held a (o ∷ out) ls xs h = rises-held a out ls xs h.2

pub rises-put : (a : ℕ) (out ls rs xs : List ℕ) → Rises (out ++ a ∷ ls) xs → Follows a rs xs → Rises (out ++ rs) xs → Rises ((out ++ a ∷ []) ++ rs) xs
rises-put a [] ls rs xs h next r = (h.0, next, r)
rises-put a (o ∷ out) ls rs xs h next r = (h.0, follows out h.1, rises-put a out ls rs xs h.2 next r.2)
  where
    follows : (ps : List ℕ) → Follows o (ps ++ a ∷ ls) xs → Follows o ((ps ++ a ∷ []) ++ rs) xs
    follows [] k = k
    follows (p ∷ ps) k = k

-- ---- two lists of which the front is merged
-- what is out, followed by what is left of either list, rises, and all of them are the nodes of one list
pub record AreMerged (xs ids out ls rs : List ℕ) : Type 0 where
  pub left : Rises (out ++ ls) xs
  pub right : Rises (out ++ rs) xs
  pub members : (i : ℕ) → is_in i out || (is_in i ls || is_in i rs) ≡ is_in i ids

put-in : (i a : ℕ) (out : List ℕ) → is_in i (out ++ a ∷ []) ≡ is_in i out || (eqb i a || false)
put-in i a out = list_any-append (λ j. eqb i j) out (a ∷ [])

both : (o e l r : Bool) → (o || (e || false)) || (l || r) ≡ o || ((e || l) || (e || r))
both true e l r = refl
both false true l r = refl
both false false l r = refl

first-alone : (o e l r : Bool) → (o || (e || false)) || (l || r) ≡ o || ((e || l) || r)
first-alone true e l r = refl
first-alone false true l r = refl
first-alone false false l r = refl

second-alone : (o e l r : Bool) → (o || (e || false)) || (l || r) ≡ o || (l || (e || r))
second-alone true e l r = refl
second-alone false true true r = refl
second-alone false true false r = refl
second-alone false false l r = refl

pub none-merged : (xs ids ls rs : List ℕ) → ls ++ rs ≡ ids → Rises ls xs → Rises rs xs → AreMerged xs ids [] ls rs
none-merged xs ids ls rs is up down = record { left = up; right = down; members = λ i. sym (list_any-append (λ j. eqb i j) ls rs) ∙ ap (is_in i) is }

module _ (xs ids out : List ℕ) (a b : ℕ) (ls rs : List ℕ) (m : AreMerged xs ids out (a ∷ ls) (b ∷ rs)) where
  -- each begins with the same node
  pub both-taken : a ≡ b → AreMerged xs ids (out ++ a ∷ []) ls rs
  both-taken same =
      record {
        left = rw (append_assoc out (a ∷ []) ls) m.left;
        right = rw (append_assoc out (a ∷ []) rs) (rw same m.right);
        members = λ i. ap (λ o. o || (is_in i ls || is_in i rs)) (put-in i a out) ∙ both (is_in i out) (eqb i a) (is_in i ls) (is_in i rs) ∙ ap (λ j. is_in i out || ((eqb i a || is_in i ls) || (eqb i j || is_in i rs))) same ∙ m.members i;
      }

  -- the first node of the one comes before that of the other
  pub left-taken : comes_before a b xs ≡ true → AreMerged xs ids (out ++ a ∷ []) ls (b ∷ rs)
  left-taken next =
      record {
        left = rw (append_assoc out (a ∷ []) ls) m.left;
        right = rises-put a out ls (b ∷ rs) xs m.left next m.right;
        members = λ i. ap (λ o. o || (is_in i ls || is_in i (b ∷ rs))) (put-in i a out) ∙ first-alone (is_in i out) (eqb i a) (is_in i ls) (is_in i (b ∷ rs)) ∙ m.members i;
      }

  pub right-taken : comes_before b a xs ≡ true → AreMerged xs ids (out ++ b ∷ []) (a ∷ ls) rs
  right-taken next =
      record {
        left = rises-put b out rs (a ∷ ls) xs m.right next m.left;
        right = rw (append_assoc out (b ∷ []) rs) m.right;
        members = λ i. ap (λ o. o || (is_in i (a ∷ ls) || is_in i rs)) (put-in i b out) ∙ second-alone (is_in i out) (eqb i b) (is_in i (a ∷ ls)) (is_in i rs) ∙ m.members i;
      }

  pub left-held : 0 < held a xs
  left-held = rises-held a out ls xs m.left

  pub right-held : 0 < held b xs
  right-held = rises-held b out rs xs m.right

-- the first of either list, as they are read
pub at-turn : (xs ids out left right : List ℕ) (a b : ℕ) (ls rs : List ℕ) → left ≡ a ∷ ls → right ≡ b ∷ rs → AreMerged xs ids out left right → AreMerged xs ids out (a ∷ ls) (b ∷ rs)
at-turn xs ids out left right a b ls rs el er m = subst (λ l. AreMerged xs ids out l (b ∷ rs)) el (subst (λ r. AreMerged xs ids out left r) er m)

pub held-stands : (i : ℕ) (ts : Trees) → 0 < held i (identities ts) → IsSome (find i ts)
held-stands i ts there = find-present None i ts (let e = held-identities i ts in omega arith)

or-none : (o l : Bool) → o || (l || false) ≡ o || l
or-none true l = refl
or-none false true = refl
or-none false false = refl

-- one list is used up: what is left of the other goes after what is out
module _ (ts : Trees) (d : AreDistinct ts) (ids out : List ℕ) where
  pub left-last : (ls rs : List ℕ) → length rs ≡ 0 → AreMerged (identities ts) ids out ls rs → out ++ ls ≡ filter (λ i. is_in i ids) (identities ts)
  left-last ls [] end m =
      sym (in-document-order ids (out ++ ls) ts d (λ i there. sym (list_any-append (λ j. eqb i j) out ls ∙ sym (or-none (is_in i out) (is_in i ls)) ∙ m.members i)) m.left)
  left-last ls (r ∷ rs) end m = absurd (omega arith)

  pub right-last : (ls rs : List ℕ) → length ls ≡ 0 → AreMerged (identities ts) ids out ls rs → out ++ rs ≡ filter (λ i. is_in i ids) (identities ts)
  right-last [] rs end m = sym (in-document-order ids (out ++ rs) ts d (λ i there. sym (list_any-append (λ j. eqb i j) out rs ∙ m.members i)) m.right)
  right-last (l ∷ ls) rs end m = absurd (omega arith)
