-- Trees of which one list or one node is rewritten pass what they passed, but there.
use Prim.Native.Nat.{suc}
use Rattle.std.proofs.Common.{◌≡◌, ℕ, ◌+◌, ◌≤◌, ◌<◌, Bool, true, ◌||◌, List, ◌∷◌, refl, ap, sym, ◌∙◌, arith, ⊎_elim, ◌⊎◌, inl, inr, Option, Some, subst}
use Rattle.std.proofs.lemmas.Bool.Decides.{eqb_tells}
use Rattle.data_model.specs.Trees.{Trees, no_trees, tree, Content, Place, roots, count, find_below}
use Rattle.data_model.specs.Tidy.{begins_with_text}
use Rattle.data_model.specs.Changes.{with_content}
use Rattle.data_model.specs.Walks.{held}
use Rattle.data_model.specs.declared.node.Part.{Part}
use Rattle.data_model.specs.declared.node.Part.TheVariants.{Attributes, Children}
use Rattle.data_model.proofs.Climbs.{any-tells}
use Rattle.node_table.proofs.Relists.{relisted}
use Rattle.node_table.proofs.Onces.{held-roots}
use Rattle.pending.specs.Compatible.{is_among}
use Rattle.tracked_drafts.specs.Tests.{NodeTest, all_but}
use Rattle.tracked_drafts.proofs.Places.{find-beside, root-found}
use Rattle.tracked_drafts.proofs.Tests.{passes, passing, IsLocal, root_names}

-- ---- one list for another
names-relisted : (part : Part) (p : ℕ) (us ts : Trees) → root_names (relisted part p us ts) ≡ root_names ts
names-relisted part p us no_trees = refl
names-relisted part p us (tree c bs cs rest) = ap (λ xs. c.name ∷ xs) (names-relisted part p us rest)

begins-relisted : (part : Part) (p : ℕ) (us ts : Trees) → begins_with_text (relisted part p us ts) ≡ begins_with_text ts
begins-relisted part p us no_trees = refl
begins-relisted part p us (tree c bs cs rest) = refl

-- what is asked of the node whose list it is, and of the list
module _ (is : List ℕ) (test : NodeTest) (local : IsLocal test) (p : ℕ) (us vs : Trees)
    (here : (n : ℕ) (c : Content) (bs cs es ds : Trees) (is_followed : Bool) → p ≡ c.identity → (is_among is c.identity || test n c bs cs is_followed) ≡ true → (is_among is c.identity || test n c es ds is_followed) ≡ true)
    (list : (n : ℕ) → all_but is test n us ≡ true → all_but is test n vs ≡ true) where
  -- another node sees lists with the names that they had, and is followed by what followed it
  other : (part : Part) (n : ℕ) (c : Content) (bs cs rest : Trees) → (is_among is c.identity || test n c (relisted part p us bs) (relisted part p us cs) (begins_with_text (relisted part p us rest))) ≡ true
      → (is_among is c.identity || test n c (relisted part p vs bs) (relisted part p vs cs) (begins_with_text (relisted part p vs rest))) ≡ true
  other part n c bs cs rest h =
      let same = local n c (relisted part p us bs) (relisted part p us cs) (relisted part p vs bs) (relisted part p vs cs) (begins_with_text rest) (names-relisted part p vs bs ∙ sym (names-relisted part p us bs)) (names-relisted part p vs cs ∙ sym (names-relisted part p us cs)) in
      rw (begins-relisted part p vs rest) (rw same (rw (begins-relisted part p us rest) at h))

  own : (part : Part) (n : ℕ) (c : Content) (bs cs es ds rest : Trees) → p ≡ c.identity → (is_among is c.identity || test n c bs cs (begins_with_text (relisted part p us rest))) ≡ true
      → (is_among is c.identity || test n c es ds (begins_with_text (relisted part p vs rest))) ≡ true
  own part n c bs cs es ds rest e h = rw (begins-relisted part p vs rest) (here n c bs cs es ds (begins_with_text rest) e (rw (begins-relisted part p us rest) at h))

  pub all_but-relisted : (part : Part) (n : ℕ) (ts : Trees) → all_but is test n (relisted part p us ts) ≡ true → all_but is test n (relisted part p vs ts) ≡ true
  all_but-relisted part n no_trees h = refl
  all_but-relisted Attributes n (tree c bs cs rest) h =
      ⊎_elim
      (λ t. (let q = passes is test n c us (relisted Attributes p us cs) (relisted Attributes p us rest) (rw t.0 at h) in
      rw t.0 (passing is test n c vs (relisted Attributes p vs cs) (relisted Attributes p vs rest) (own Attributes n c us (relisted Attributes p us cs) vs (relisted Attributes p vs cs) rest t.1 q.here)
      (list (suc n) q.attributes) (all_but-relisted Attributes (suc n) cs q.children) (all_but-relisted Attributes n rest q.others))))
      (λ t. (let q = passes is test n c (relisted Attributes p us bs) (relisted Attributes p us cs) (relisted Attributes p us rest) (rw t.0 at h) in
      rw t.0 (passing is test n c (relisted Attributes p vs bs) (relisted Attributes p vs cs) (relisted Attributes p vs rest) (other Attributes n c bs cs rest q.here)
      (all_but-relisted Attributes (suc n) bs q.attributes) (all_but-relisted Attributes (suc n) cs q.children) (all_but-relisted Attributes n rest q.others))))
      (eqb_tells p c.identity)
  all_but-relisted Children n (tree c bs cs rest) h =
      ⊎_elim
      (λ t. (let q = passes is test n c (relisted Children p us bs) us (relisted Children p us rest) (rw t.0 at h) in
      rw t.0 (passing is test n c (relisted Children p vs bs) vs (relisted Children p vs rest) (own Children n c (relisted Children p us bs) us (relisted Children p vs bs) vs rest t.1 q.here)
      (all_but-relisted Children (suc n) bs q.attributes) (list (suc n) q.children) (all_but-relisted Children n rest q.others))))
      (λ t. (let q = passes is test n c (relisted Children p us bs) (relisted Children p us cs) (relisted Children p us rest) (rw t.0 at h) in
      rw t.0 (passing is test n c (relisted Children p vs bs) (relisted Children p vs cs) (relisted Children p vs rest) (other Children n c bs cs rest q.here)
      (all_but-relisted Children (suc n) bs q.attributes) (all_but-relisted Children (suc n) cs q.children) (all_but-relisted Children n rest q.others))))
      (eqb_tells p c.identity)

-- ---- what one node says of itself
-- whoever has the node i in a list is of these identities
abbrev pub ParentAmong : List ℕ → ℕ → Trees → Type 0
ParentAmong is i no_trees = Unit {0}
ParentAmong is i (tree c bs cs rest) = (0 < held i (roots bs) + held i (roots cs) → is_among is c.identity ≡ true) × ParentAmong is i bs × ParentAmong is i cs × ParentAmong is i rest

parent-absent : (is : List ℕ) (i : ℕ) (ts : Trees) → count i ts ≡ 0 → ParentAmong is i ts
parent-absent is i no_trees h = tt
parent-absent is i (tree c bs cs rest) h =
    ((λ k. absurd (let b = held-roots i bs in let d = held-roots i cs in omega arith)), parent-absent is i bs (omega arith), parent-absent is i cs (omega arith), parent-absent is i rest (omega arith))

pub parent-among : (is : List ℕ) (o : Option ℕ) (i : ℕ) (ts : Trees) (x : Place) → count i ts ≤ 1 → find_below o i ts ≡ Some x → ((p : ℕ) → x.parent ≡ Some p → is_among is p ≡ true) → ParentAmong is i ts
parent-among is o i no_trees x one found up = cc
parent-among is o i (tree c bs cs rest) x one found up =
    ⊎_elim
    (λ t. (let l = rw t.0 at one in
    ((λ k. absurd (let b = held-roots i bs in let d = held-roots i cs in omega arith)), parent-absent is i bs (omega arith), parent-absent is i cs (omega arith), parent-absent is i rest (omega arith))))
    (λ t. (let l = rw t.0 at one in
    ⊎_elim
    (λ a. (
      (λ k. ⊎_elim (λ u. up c.identity (root-found (Some c.identity) i bs x u.1 (omega arith) a.0)) (λ u. (let z = a.1 in let w = u.1 in let d = held-roots i cs in absurd (omega arith))) (any-tells (held i (roots bs)))),
      parent-among is (Some c.identity) i bs x (omega arith) a.0 up,
      parent-absent is i cs a.1,
      parent-absent is i rest a.2,
    ))
    (λ d. ⊎_elim
    (λ a. (
      (λ k. ⊎_elim (λ u. up c.identity (root-found (Some c.identity) i cs x u.1 (omega arith) a.1)) (λ u. (let z = a.0 in let w = u.1 in let b = held-roots i bs in absurd (omega arith))) (any-tells (held i (roots cs)))),
      parent-absent is i bs a.0,
      parent-among is (Some c.identity) i cs x (omega arith) a.1 up,
      parent-absent is i rest a.2,
    ))
    (λ a. (
      (λ k. absurd (let z = a.0 in let w = a.1 in let b = held-roots i bs in let d = held-roots i cs in omega arith)),
      parent-absent is i bs a.0,
      parent-absent is i cs a.1,
      parent-among is o i rest x (omega arith) a.2 up,
    )) d)
    (find-beside o i c bs cs rest x t.0 one found).where_it_is))
    (eqb_tells i c.identity)

-- the names in a list, where the node is not in it
names-elsewhere : (i : ℕ) (h : Content → Content) (ts : Trees) → held i (roots ts) ≡ 0 → root_names (with_content i h ts) ≡ root_names ts
names-elsewhere i h no_trees k = refl
names-elsewhere i h (tree c bs cs rest) k = ⊎_elim (λ t. (let z = rw t.0 at k in absurd (omega arith))) (λ t. (let z = rw t.0 at k in rw t.0 (ap (λ xs. c.name ∷ xs) (names-elsewhere i h rest (omega arith))))) (eqb_tells i c.identity)

pub record IsSameKind (h : Content → Content) : Type 0 where
  pub identity : (c : Content) → (h c).identity ≡ c.identity
  pub kind : (c : Content) → (h c).kind ≡ c.kind

module _ (is : List ℕ) (test : NodeTest) (local : IsLocal test) (i : ℕ) (h : Content → Content) (same : IsSameKind h)
    (here : (n : ℕ) (c : Content) (bs cs es ds : Trees) (is_followed : Bool) → i ≡ c.identity → (is_among is c.identity || test n c bs cs is_followed) ≡ true → (is_among is c.identity || test n (h c) es ds is_followed) ≡ true) where
  begins-content : (ts : Trees) → begins_with_text (with_content i h ts) ≡ begins_with_text ts
  begins-content no_trees = refl
  begins-content (tree c bs cs rest) = ⊎_elim (λ t. rw t.0 (rw (same.kind c) refl)) (λ t. rw t.0 refl) (eqb_tells i c.identity)

  -- where the names in the lists of other nodes stay, or their parent is of these identities
  pub all_but-content : (n : ℕ) (ts : Trees) → ((us : Trees) → root_names (with_content i h us) ≡ root_names us) ⊎ ParentAmong is i ts → all_but is test n ts ≡ true → all_but is test n (with_content i h ts) ≡ true
  all_but-content n no_trees names all = refl
  all_but-content n (tree c bs cs rest) names all =
      let q = passes is test n c bs cs rest all in
      let b : all_but is test (suc n) (with_content i h bs) ≡ true = all_but-content (suc n) bs (⊎_elim inl (λ a. inr a.1) names) q.attributes in
      let d : all_but is test (suc n) (with_content i h cs) ≡ true = all_but-content (suc n) cs (⊎_elim inl (λ a. inr a.2) names) q.children in
      let r : all_but is test n (with_content i h rest) ≡ true = all_but-content n rest (⊎_elim inl (λ a. inr a.3) names) q.others in
      ⊎_elim
      (λ t. rw t.0 (passing is test n (h c) (with_content i h bs) (with_content i h cs) (with_content i h rest)
      (rw (begins-content rest) (changed n c (with_content i h bs) (with_content i h cs) (begins_with_text rest) (here n c bs cs (with_content i h bs) (with_content i h cs) (begins_with_text rest) t.1 q.here))) b d r))
      (λ t. rw t.0 (passing is test n c (with_content i h bs) (with_content i h cs) (with_content i h rest) (rw (begins-content rest) (sees n c bs cs (begins_with_text rest) (⊎_elim inl (λ a. inr a.0) names) q.here)) b d r))
      (eqb_tells i c.identity)
    where
      changed : (n : ℕ) (c : Content) (bs cs : Trees) (f : Bool) → (is_among is c.identity || test n (h c) bs cs f) ≡ true → (is_among is (h c).identity || test n (h c) bs cs f) ≡ true
      changed n c bs cs f = subst (λ (j : ℕ). (is_among is j || test n (h c) bs cs f) ≡ true) (sym (same.identity c))

      sees : (n : ℕ) (c : Content) (bs cs : Trees) (is_followed : Bool) → ((us : Trees) → root_names (with_content i h us) ≡ root_names us) ⊎ (0 < held i (roots bs) + held i (roots cs) → is_among is c.identity ≡ true)
          → (is_among is c.identity || test n c bs cs is_followed) ≡ true → (is_among is c.identity || test n c (with_content i h bs) (with_content i h cs) is_followed) ≡ true
      sees n c bs cs f names k =
          ⊎_elim
          (λ a. rw (local n c bs cs (with_content i h bs) (with_content i h cs) f (a bs) (a cs)) k)
          (λ a. ⊎_elim
          (λ u. rw (a u.1) refl)
          (λ u. (let z = u.1 in rw (local n c bs cs (with_content i h bs) (with_content i h cs) f (names-elsewhere i h bs (omega arith)) (names-elsewhere i h cs (omega arith))) k))
          (any-tells (held i (roots bs) + held i (roots cs))))
          names
