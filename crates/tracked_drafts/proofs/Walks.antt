-- Nodes of a forest, and the trees below them, as their lists are walked.
use Rattle.std.proofs.Common.{◌≡◌, ℕ, ◌+◌, ◌≤◌, ◌<◌, true, false, eqb, List, [], ◌∷◌, ◌++◌, Option, Some, None, refl, sym, ◌∙◌, subst, arith, ⊎_elim}
use Rattle.std.proofs.lemmas.Bool.Decides.{eqb_tells}
use Rattle.data_model.specs.Changes.{pick}
use Rattle.data_model.specs.Trees.{Trees, no_trees, tree, Content, append, roots, weigh, count, find_below, first, Place}
use Rattle.data_model.proofs.Climbs.{AreDistinct, any-tells, find-absent, find-present, first-some}
use Rattle.data_model.proofs.Weights.{weigh-append, eqb-same, pick-absent}
use Rattle.tracked_drafts.specs.Walked.{below, AreThere}

pub below-append : (w : ℕ → ℕ) (is js : List ℕ) (ts : Trees) → below w (is ++ js) ts ≡ below w is ts + below w js ts
below-append w [] js ts = omega arith
below-append w (i ∷ is) js ts = omega (arith, below-append w is js ts)

-- ---- where a tree is picked
module _ (w : ℕ → ℕ) (c : Content) (bs cs rest : Trees) (d : AreDistinct (tree c bs cs rest)) where
  other : (r : ℕ) → 0 < count r bs + count r cs + count r rest → eqb r c.identity ≡ false
  other r h = ⊎_elim (λ t. (let z = rw t.0 at (d r) in absurd (omega arith))) (λ t. t.0) (eqb_tells r c.identity)

  parts : (r : ℕ) → eqb r c.identity ≡ false → weigh w (pick r (tree c bs cs rest)) ≡ weigh w (pick r bs) + weigh w (pick r cs) + weigh w (pick r rest)
  parts r e = rw e (omega (arith, weigh-append w (append (pick r bs) (pick r cs)) (pick r rest), weigh-append w (pick r bs) (pick r cs)))

  pub pick-head : weigh w (pick c.identity (tree c bs cs rest)) ≡ w c.identity + weigh w bs + weigh w cs
  pick-head =
      let l = d c.identity in
      let s = eqb-same c.identity in
      let m = rw s at l in
      rw (s, pick-absent c.identity rest (omega (arith, m))) (omega arith)

  pub pick-bs : (r : ℕ) → 0 < count r bs → weigh w (pick r (tree c bs cs rest)) ≡ weigh w (pick r bs)
  pick-bs r h =
      let l = d r in
      let p = parts r (other r (omega (arith, h))) in
      let x : weigh w (pick r cs) ≡ 0 = rw (pick-absent r cs (omega (arith, h, l))) refl in
      let y : weigh w (pick r rest) ≡ 0 = rw (pick-absent r rest (omega (arith, h, l))) refl in
      omega (arith, p, x, y)

  pub pick-cs : (r : ℕ) → 0 < count r cs → weigh w (pick r (tree c bs cs rest)) ≡ weigh w (pick r cs)
  pick-cs r h =
      let l = d r in
      let p = parts r (other r (omega (arith, h))) in
      let x : weigh w (pick r bs) ≡ 0 = rw (pick-absent r bs (omega (arith, h, l))) refl in
      let y : weigh w (pick r rest) ≡ 0 = rw (pick-absent r rest (omega (arith, h, l))) refl in
      omega (arith, p, x, y)

  pub pick-rest : (r : ℕ) → 0 < count r rest → weigh w (pick r (tree c bs cs rest)) ≡ weigh w (pick r rest)
  pick-rest r h =
      let l = d r in
      let p = parts r (other r (omega (arith, h))) in
      let x : weigh w (pick r bs) ≡ 0 = rw (pick-absent r bs (omega (arith, h, l))) refl in
      let y : weigh w (pick r cs) ≡ 0 = rw (pick-absent r cs (omega (arith, h, l))) refl in
      omega (arith, p, x, y)

-- the trees us stand in ts: each of their nodes has the same tree in both
abbrev pub StandsIn : Trees → Trees → Type 0
StandsIn us ts = (r : ℕ) → 0 < count r us → (0 < count r ts) × ((w : ℕ → ℕ) → weigh w (pick r ts) ≡ weigh w (pick r us))

-- trees that stand in others are the trees of their roots
pub below-roots : (w : ℕ → ℕ) (us ts : Trees) → AreDistinct us → StandsIn us ts → below w (roots us) ts ≡ weigh w us
below-roots w no_trees ts d s = refl
below-roots w (tree c bs cs rest) ts d s =
    let top = (s c.identity (rw (eqb-same c.identity) (omega arith))).1 w in
    let head = pick-head w c bs cs rest d in
    let more = below-roots w rest ts (λ i. (let l = d i in omega (arith, l))) (λ r h. ((s r (omega (arith, h))).0, λ v. (s r (omega (arith, h))).1 v ∙ pick-rest v c bs cs rest d r h)) in
    omega (arith, top, head, more)

pub there-append : (is js : List ℕ) (ts : Trees) → AreThere is ts → AreThere js ts → AreThere (is ++ js) ts
there-append [] js ts a b = b
there-append (i ∷ is) js ts a b = (a.0, there-append is js ts a.1 b)

pub roots-there : (us ts : Trees) → AreDistinct us → StandsIn us ts → AreThere (roots us) ts
roots-there no_trees ts d s = tt
roots-there (tree c bs cs rest) ts d s = (
  (s c.identity (rw (eqb-same c.identity) (omega arith))).0,
  roots-there rest ts (λ i. (let l = d i in omega (arith, l))) (λ r h. ((s r (omega (arith, h))).0, λ v. (s r (omega (arith, h))).1 v ∙ pick-rest v c bs cs rest d r h)),
)

-- ---- the tree of a node that was found
pub record IsTreeAt (i : ℕ) (x : Place) (ts : Trees) : Type 0 where
  pub attributes : StandsIn x.attributes ts
  pub children : StandsIn x.children ts
  pub whole : (w : ℕ → ℕ) → weigh w (pick i ts) ≡ w i + weigh w x.attributes + weigh w x.children
  pub least : (w : ℕ → ℕ) → weigh w (pick i ts) ≤ weigh w ts

same-some : (x y : Place) → Some x ≡ Some y → x ≡ y
same-some x y e = cc

pub tree-at : (o : Option ℕ) (i : ℕ) (x : Place) (ts : Trees) → AreDistinct ts → find_below o i ts ≡ Some x → IsTreeAt i x ts
tree-at o i x no_trees d e = absurd (let z : None ≡ Some x = e in cc)
tree-at o i x (tree c bs cs rest) d e = ⊎_elim (λ t. here t.1 t.0) (λ t. not_here t.0 (λ k. tree-at (Some c.identity) i x bs (λ j. (let l = d j in omega (arith, l))) k) (λ k. tree-at (Some c.identity) i x cs (λ j. (let l = d j in omega (arith, l))) k) (λ k. tree-at o i x rest (λ j. (let l = d j in omega (arith, l))) k)) (eqb_tells i c.identity)
  where
    bs-in : StandsIn bs (tree c bs cs rest)
    bs-in r h = (omega (arith, h), λ w. pick-bs w c bs cs rest d r h)

    cs-in : StandsIn cs (tree c bs cs rest)
    cs-in r h = (omega (arith, h), λ w. pick-cs w c bs cs rest d r h)

    rest-in : StandsIn rest (tree c bs cs rest)
    rest-in r h = (omega (arith, h), λ w. pick-rest w c bs cs rest d r h)

    through : (us vs ts2 : Trees) → StandsIn us vs → StandsIn vs ts2 → StandsIn us ts2
    through us vs ts2 s t r h = (let a = s r h in let b = t r a.0 in (b.0, λ w. b.1 w ∙ a.1 w))

    here : i ≡ c.identity → eqb i c.identity ≡ true → IsTreeAt i x (tree c bs cs rest)
    here same t =
        let found : Some (record { parent = o; content = c; attributes = bs; children = cs }) ≡ Some x = rw t at e in
        let is : record { parent = o; content = c; attributes = bs; children = cs } ≡ x = same-some (record { parent = o; content = c; attributes = bs; children = cs }) x found in
        subst (λ y. IsTreeAt i y (tree c bs cs rest)) is
        (subst (λ j. IsTreeAt j (record { parent = o; content = c; attributes = bs; children = cs }) (tree c bs cs rest)) (sym same)
        (record { attributes = bs-in; children = cs-in; whole = λ w. pick-head w c bs cs rest d; least = λ w. omega (arith, pick-head w c bs cs rest d) }))

    not_here : eqb i c.identity ≡ false → (find_below (Some c.identity) i bs ≡ Some x → IsTreeAt i x bs) → (find_below (Some c.identity) i cs ≡ Some x → IsTreeAt i x cs) → (find_below o i rest ≡ Some x → IsTreeAt i x rest) → IsTreeAt i x (tree c bs cs rest)
    not_here f in-bs in-cs in-rest =
        let found : first (find_below (Some c.identity) i bs) (first (find_below (Some c.identity) i cs) (find_below o i rest)) ≡ Some x = rw f at e in
        ⊎_elim
        (λ u. (let at-bs = in-bs (sym (first-some (find_below (Some c.identity) i bs) (first (find_below (Some c.identity) i cs) (find_below o i rest)) (find-present (Some c.identity) i bs u.1)) ∙ found) in
        record {
          attributes = through x.attributes bs (tree c bs cs rest) at-bs.attributes bs-in;
          children = through x.children bs (tree c bs cs rest) at-bs.children bs-in;
          whole = λ w. pick-bs w c bs cs rest d i u.1 ∙ at-bs.whole w;
          least = λ w. omega (arith, pick-bs w c bs cs rest d i u.1, at-bs.least w);
        }))
        (λ u. (let found2 : first (find_below (Some c.identity) i cs) (find_below o i rest) ≡ Some x = rw (find-absent (Some c.identity) i bs u.1) at found in
        ⊎_elim
        (λ v. (let at-cs = in-cs (sym (first-some (find_below (Some c.identity) i cs) (find_below o i rest) (find-present (Some c.identity) i cs v.1)) ∙ found2) in
        record {
          attributes = through x.attributes cs (tree c bs cs rest) at-cs.attributes cs-in;
          children = through x.children cs (tree c bs cs rest) at-cs.children cs-in;
          whole = λ w. pick-cs w c bs cs rest d i v.1 ∙ at-cs.whole w;
          least = λ w. omega (arith, pick-cs w c bs cs rest d i v.1, at-cs.least w);
        }))
        (λ v. (let found3 : find_below o i rest ≡ Some x = rw (find-absent (Some c.identity) i cs v.1) at found2 in
        let inside : 0 < count i rest = ⊎_elim (λ k. k.1) (λ k. absurd (let z : None ≡ Some x = sym (find-absent o i rest k.1) ∙ found3 in cc)) (any-tells (count i rest)) in
        let at-rest = in-rest found3 in
        record {
          attributes = through x.attributes rest (tree c bs cs rest) at-rest.attributes rest-in;
          children = through x.children rest (tree c bs cs rest) at-rest.children rest-in;
          whole = λ w. pick-rest w c bs cs rest d i inside ∙ at-rest.whole w;
          least = λ w. omega (arith, pick-rest w c bs cs rest d i inside, at-rest.least w);
        })) (any-tells (count i cs)))) (any-tells (count i bs))
