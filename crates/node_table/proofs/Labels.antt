-- Labels compare as places in the listing.
use Rattle.std.proofs.Common.{◌≡◌, ℕ, ◌+◌, ◌<◌, true, false, List, [], ◌∷◌, ◌++◌, cond, eqb, ltb, refl, ap, sym, ◌∙◌, arith, ⊎_elim, Option, Some, None, unwrap_or, subst}
use Rattle.std.proofs.lemmas.Bool.Decides.{eqb_tells}
use Rattle.data_model.specs.Trees.{Trees, no_trees, tree, Content, roots, count}
use Rattle.data_model.specs.Order.{identities, precedes}
use Rattle.data_model.specs.Walks.{seen, or_else}
use Rattle.node_table.specs.Flat.{Entry, Table, Holds}
use Rattle.node_table.specs.Labels.{lists_before, AllAbove, Ascends, AreNumbered, HasNumbers, lists_in, label_by, label_of}
use Rattle.data_model.proofs.Weights.{eqb-same}
use Rattle.data_model.proofs.Climbs.{AreDistinct, any-tells}
use Rattle.data_model.proofs.Scans.{seen-tree}
use Rattle.node_table.proofs.Takes.{ltb-yes, ltb-no}
use Rattle.data_model.proofs.Firsts.{before-seen, held-identities, seen-none, seen-a, seen-b, seen-there, seen-only-a, seen-only-b, seen-later, eqb-swap}

-- ---- lists of numbers
abbrev FirstAbove : ℕ → List ℕ → Type 0
FirstAbove n [] = ⊥
FirstAbove n (x ∷ xs) = n < x

first-before : (n : ℕ) (xs ys : List ℕ) → FirstAbove n ys → lists_before (n ∷ xs) ys ≡ true
first-before n xs [] h = absurd h
first-before n xs (y ∷ ys) h = ⊎_elim (λ t. (let e = t.1 in absurd (omega arith))) (λ t. rw t.0 (ltb-yes n y h)) (eqb_tells n y)

first-after : (n : ℕ) (xs ys : List ℕ) → FirstAbove n ys → lists_before ys (n ∷ xs) ≡ false
first-after n xs [] h = absurd h
first-after n xs (y ∷ ys) h = ⊎_elim (λ t. (let e = t.1 in absurd (omega arith))) (λ t. rw t.0 (ltb-no y n h)) (eqb_tells y n)

pub same-first : (n : ℕ) (xs ys : List ℕ) → lists_before (n ∷ xs) (n ∷ ys) ≡ lists_before xs ys
same-first n xs ys = rw (eqb-same n)

none-before : (xs : List ℕ) → lists_before xs [] ≡ false
none-before [] = refl
none-before (x ∷ xs) = refl

some-after : (n : ℕ) (ys : List ℕ) → FirstAbove n ys → lists_before [] ys ≡ true
some-after n [] h = absurd h
some-after n (y ∷ ys) h = refl

-- ---- what rises
AllAbove-right : (w : ℕ → ℕ) (n : ℕ) (xs ys : List ℕ) → AllAbove w n (xs ++ ys) → AllAbove w n ys
AllAbove-right w n [] ys h = h
AllAbove-right w n (x ∷ xs) ys h = AllAbove-right w n xs ys h.1

AllAbove-left : (w : ℕ → ℕ) (n : ℕ) (xs ys : List ℕ) → AllAbove w n (xs ++ ys) → AllAbove w n xs
AllAbove-left w n [] ys h = tt
AllAbove-left w n (x ∷ xs) ys h = (h.0, AllAbove-left w n xs ys h.1)

pub Ascends-right : (w : ℕ → ℕ) (xs ys : List ℕ) → Ascends w (xs ++ ys) → Ascends w ys
Ascends-right w [] ys h = h
Ascends-right w (x ∷ xs) ys h = Ascends-right w xs ys h.1

pub Ascends-left : (w : ℕ → ℕ) (xs ys : List ℕ) → Ascends w (xs ++ ys) → Ascends w xs
Ascends-left w [] ys h = tt
Ascends-left w (x ∷ xs) ys h = (AllAbove-left w (w x) xs ys h.0, Ascends-left w xs ys h.1)

-- ---- the first number of a label
abbrev pub tail_by : (ℕ → ℕ) → ℕ → Content → Trees → Trees → List ℕ
tail_by w i c bs cs = cond (eqb i c.identity) [] (cond (ltb 0 (count i bs)) (label_by w w i bs) (label_by w w i cs))

pub label-here : (u w : ℕ → ℕ) (i : ℕ) (c : Content) (bs cs rest : Trees) → 0 < count i (tree c bs cs no_trees) → label_by u w i (tree c bs cs rest) ≡ u c.identity ∷ cond (eqb i c.identity) [] (cond (ltb 0 (count i bs)) (label_by w w i bs) (label_by w w i cs))
label-here u w i c bs cs rest h = ⊎_elim (λ t. rw t.0) (λ t. absurd (omega arith)) (any-tells (count i (tree c bs cs no_trees)))

pub label-later : (u w : ℕ → ℕ) (i : ℕ) (c : Content) (bs cs rest : Trees) → count i (tree c bs cs no_trees) ≡ 0 → label_by u w i (tree c bs cs rest) ≡ label_by u w i rest
label-later u w i c bs cs rest h = ⊎_elim (λ t. absurd (omega arith)) (λ t. rw t.0) (any-tells (count i (tree c bs cs no_trees)))

label-above : (u w : ℕ → ℕ) (n i : ℕ) (ts : Trees) → AllAbove u n (roots ts) → 0 < count i ts → FirstAbove n (label_by u w i ts)
label-above u w n i no_trees h k = absurd (omega arith)
label-above u w n i (tree c bs cs rest) h k =
    let P : List ℕ → Type 0 = FirstAbove n in
    ⊎_elim (λ t. subst P (sym (label-here u w i c bs cs rest t.1)) h.0) (λ t. subst P (sym (label-later u w i c bs cs rest t.1)) (label-above u w n i rest h.1 (omega arith))) (any-tells (count i (tree c bs cs no_trees)))

label-some : (u w : ℕ → ℕ) (i : ℕ) (ts : Trees) → 0 < count i ts → lists_before [] (label_by u w i ts) ≡ true
label-some u w i no_trees k = absurd (omega arith)
label-some u w i (tree c bs cs rest) k =
    let P : List ℕ → Type 0 = λ l. lists_before [] l ≡ true in
    ⊎_elim (λ t. subst P (sym (label-here u w i c bs cs rest t.1)) refl) (λ t. subst P (sym (label-later u w i c bs cs rest t.1)) (label-some u w i rest (omega arith))) (any-tells (count i (tree c bs cs no_trees)))

-- a node below an attribute or root comes before those of later lists
label-cross : (w : ℕ → ℕ) (a b : ℕ) (bs cs : Trees) → Ascends w (roots bs ++ roots cs) → 0 < count a bs → 0 < count b cs → (lists_before (label_by w w a bs) (label_by w w b cs) ≡ true) × (lists_before (label_by w w b cs) (label_by w w a bs) ≡ false)
label-cross w a b no_trees cs s h k = absurd (omega arith)
label-cross w a b (tree c ds es rest) cs s h k =
    ⊎_elim
    (λ t. (let above = label-above w w (w c.identity) b cs (AllAbove-right w (w c.identity) (roots rest) (roots cs) s.0) k in
    rw (label-here w w a c ds es rest t.1) (first-before (w c.identity) _ _ above, first-after (w c.identity) _ _ above)))
    (λ t. rw (label-later w w a c ds es rest t.1) (label-cross w a b rest cs s.1 (omega arith) k)) (any-tells (count a (tree c ds es no_trees)))

-- ---- one tree
module _ (w : ℕ → ℕ) (a b : ℕ) (c : Content) (bs cs : Trees) (d : AreDistinct (tree c bs cs no_trees)) (s : Ascends w (roots bs ++ roots cs)) where
  abbrev tail : ℕ → List ℕ
  tail i = cond (eqb i c.identity) [] (cond (ltb 0 (count i bs)) (label_by w w i bs) (label_by w w i cs))

  apart : (j : ℕ) → 0 < count j bs + count j cs → eqb j c.identity ≡ false
  apart j h = ⊎_elim (λ t. (let z = rw t.0 at (d j) in absurd (omega arith))) (λ t. t.0) (eqb_tells j c.identity)

  tail-bs : (i : ℕ) → 0 < count i bs → tail i ≡ label_by w w i bs
  tail-bs i h = ⊎_elim (λ t. rw (apart i (omega arith), t.0)) (λ t. absurd (omega arith)) (any-tells (count i bs))

  tail-cs : (i : ℕ) → 0 < count i cs → tail i ≡ label_by w w i cs
  tail-cs i h = ⊎_elim (λ t. (let z = d i in absurd (omega arith))) (λ t. rw (apart i (omega arith), t.0)) (any-tells (count i bs))

  tail-some : (i : ℕ) → 0 < count i bs + count i cs → lists_before [] (tail i) ≡ true
  tail-some i h = ⊎_elim (λ t. ap (lists_before []) (tail-bs i t.1) ∙ label-some w w i bs t.1) (λ t. (let k : 0 < count i cs = omega arith in ap (lists_before []) (tail-cs i k) ∙ label-some w w i cs k)) (any-tells (count i bs))

  tail-self : (i : ℕ) → eqb i c.identity ≡ true → tail i ≡ []
  tail-self i h = rw h

  in-one : 0 < count a (tree c bs cs no_trees) → 0 < count b (tree c bs cs no_trees) → (0 < count a bs → 0 < count b bs → seen a b (identities bs) ≡ Some (lists_before (label_by w w a bs) (label_by w w b bs)))
      → (0 < count a cs → 0 < count b cs → seen a b (identities cs) ≡ Some (lists_before (label_by w w a cs) (label_by w w b cs))) → seen a b (identities (tree c bs cs no_trees)) ≡ Some (lists_before (tail a) (tail b))
  in-one h k ihb ihc =
      let step = seen-tree a b c bs cs no_trees in
      ⊎_elim
      (λ t. step ∙ rw (eqb-swap b c.identity true t.0) (ap Some (sym (ap (lists_before (tail a)) (tail-self b t.0) ∙ none-before (tail a)))))
      (λ t. ⊎_elim
      (λ u. (let below : 0 < count b bs + count b cs = (let z = rw t.0 at k in omega arith) in
      step ∙ rw (eqb-swap b c.identity false t.0, eqb-swap a c.identity true u.0) (ap Some (sym (ap (λ l. lists_before l (tail b)) (tail-self a u.0) ∙ tail-some b below)))))
      (λ u. (let a-below : 0 < count a bs + count a cs = (let z = rw u.0 at h in omega arith) in
      let b-below : 0 < count b bs + count b cs = (let z = rw t.0 at k in omega arith) in
      let on : seen a b (identities (tree c bs cs no_trees)) ≡ or_else (seen a b (identities bs)) (or_else (seen a b (identities cs)) None) = step ∙ rw (eqb-swap b c.identity false t.0, eqb-swap a c.identity false u.0) refl in
      ⊎_elim
      (λ v. ⊎_elim
      (λ x. on ∙ ap (λ o. or_else o (or_else (seen a b (identities cs)) None)) (ihb v.1 x.1) ∙ ap Some (sym (ap (λ l. lists_before l (tail b)) (tail-bs a v.1) ∙ ap (lists_before (label_by w w a bs)) (tail-bs b x.1))))
      (λ x. (let k2 : 0 < count b cs = omega arith in
      let ia = held-identities a bs in
      on ∙ ap (λ o. or_else o (or_else (seen a b (identities cs)) None)) (seen-a a b (identities bs) (omega arith) (held-identities b bs ∙ x.1))
      ∙ ap Some (sym (ap (λ l. lists_before l (tail b)) (tail-bs a v.1) ∙ ap (lists_before (label_by w w a bs)) (tail-cs b k2) ∙ (label-cross w a b bs cs s v.1 k2).0))))
      (any-tells (count b bs)))
      (λ v. (let k1 : 0 < count a cs = omega arith in
      ⊎_elim
      (λ x. (let ib = held-identities b bs in
      on ∙ ap (λ o. or_else o (or_else (seen a b (identities cs)) None)) (seen-b a b (identities bs) (held-identities a bs ∙ v.1) (omega arith))
      ∙ ap Some (sym (ap (λ l. lists_before l (tail b)) (tail-cs a k1) ∙ ap (lists_before (label_by w w a cs)) (tail-bs b x.1) ∙ (label-cross w b a bs cs s x.1 k1).1))))
      (λ x. (let k2 : 0 < count b cs = omega arith in
      on ∙ ap (λ o. or_else o (or_else (seen a b (identities cs)) None)) (seen-none a b (identities bs) (held-identities a bs ∙ v.1) (held-identities b bs ∙ x.1))
      ∙ ap (λ o. or_else o None) (ihc k1 k2) ∙ ap Some (sym (ap (λ l. lists_before l (tail b)) (tail-cs a k1) ∙ ap (lists_before (label_by w w a cs)) (tail-cs b k2)))))
      (any-tells (count b bs))))
      (any-tells (count a bs))))
      (eqb_tells a c.identity))
      (eqb_tells b c.identity)

-- labels compare as places in the listing
pub seen-by-labels : (u w : ℕ → ℕ) (a b : ℕ) (ts : Trees) → AreDistinct ts → Ascends u (roots ts) → AreNumbered w ts → 0 < count a ts → 0 < count b ts → seen a b (identities ts) ≡ Some (lists_before (label_by u w a ts) (label_by u w b ts))
seen-by-labels u w a b no_trees d s n h k = absurd (omega arith)
seen-by-labels u w a b (tree c bs cs rest) d s n h k =
    ⊎_elim
    (λ t. ⊎_elim
    (λ x. seen-there a b c bs cs rest t.1
    ∙ in-one w a b c bs cs (λ j. let y = d j in omega arith) n.0 t.1 x.1
    (λ p q. seen-by-labels w w a b bs (λ j. let y = d j in omega arith) (Ascends-left w (roots bs) (roots cs) n.0) n.1 p q)
    (λ p q. seen-by-labels w w a b cs (λ j. let y = d j in omega arith) (Ascends-right w (roots bs) (roots cs) n.0) n.2 p q)
    ∙ ap Some (sym (rw (label-here u w a c bs cs rest t.1, label-here u w b c bs cs rest x.1) (same-first (u c.identity) (tail_by w a c bs cs) (tail_by w b c bs cs)))))
    (λ x. (let above = label-above u w (u c.identity) b rest s.0 (omega arith) in
    seen-only-a a b c bs cs rest t.1 x.1 ∙ ap Some (sym (rw (label-here u w a c bs cs rest t.1, label-later u w b c bs cs rest x.1) (first-before (u c.identity) (tail_by w a c bs cs) (label_by u w b rest) above)))))
    (any-tells (count b (tree c bs cs no_trees))))
    (λ t. ⊎_elim
    (λ x. (let above = label-above u w (u c.identity) a rest s.0 (omega arith) in
    seen-only-b a b c bs cs rest t.1 x.1 ∙ ap Some (sym (rw (label-here u w b c bs cs rest x.1, label-later u w a c bs cs rest t.1) (first-after (u c.identity) (tail_by w b c bs cs) (label_by u w a rest) above)))))
    (λ x. seen-later a b c bs cs rest t.1 x.1 ∙ seen-by-labels u w a b rest (λ j. let y = d j in omega arith) s.1 n.3 (omega arith) (omega arith)
    ∙ ap Some (sym (rw (label-later u w a c bs cs rest t.1, label-later u w b c bs cs rest x.1) refl)))
    (any-tells (count b (tree c bs cs no_trees))))
    (any-tells (count a (tree c bs cs no_trees)))

pub precedes-by-labels : (w : ℕ → ℕ) (a b : ℕ) (ts : Trees) → AreDistinct ts → Ascends (λ i. i) (roots ts) → AreNumbered w ts → 0 < count a ts → 0 < count b ts → precedes a b ts ≡ lists_before (label_of w a ts) (label_of w b ts)
precedes-by-labels w a b ts d s n h k = before-seen a b (identities ts) ∙ ap (λ o. unwrap_or o false) (seen-by-labels (λ i. i) w a b ts d s n h k)

-- from the rows to the trees
pub numbered-trees : (w : ℕ → ℕ) (f : Table) (p : Option ℕ) (ts : Trees) → HasNumbers w f → Holds f p ts → AreNumbered w ts
numbered-trees w f p no_trees n h = tt
numbered-trees w f p (tree c bs cs rest) n h = (subst (λ (o : Option Entry). Ascends w (lists_in o)) h.0 (n c.identity), numbered-trees w f (Some c.identity) bs n h.1, numbered-trees w f (Some c.identity) cs n h.2, numbered-trees w f p rest n h.3)
