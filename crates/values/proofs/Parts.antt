-- The parts of a node, found by their identities.
use Rattle.std.proofs.Common.{◌≡◌, ℕ, ◌+◌, ◌≤◌, ◌<◌, true, false, eqb, List, [], ◌∷◌, length, map, refl, ap, sym, ◌∙◌, subst, arith, Option, Some, None, ⊎_elim, IsSome, sum_by, ◌++◌, ◌&&◌, not, codes}
use Rattle.std.specs.List.{All, AllByRecursion}
use Rattle.std.proofs.lemmas.List.Elements.{All-from_recursion}
use Rattle.std.proofs.lemmas.List.Sums.{sum_by-cons}
use Rattle.std.proofs.lemmas.Bool.Decides.{eqb_tells}
use Rattle.data_model.specs.Trees.{Trees, no_trees, tree, Content, Place, roots, count, size, first, find, find_below, IsAt, is_inner, attributes_at, attributes_of, children_at, children_of}
use Rattle.data_model.specs.declared.node.Kind.{Kind}
use Rattle.values.specs.Printing.{place_text, tree_texts, node_text, constructor, literal}
use Rattle.values.specs.Inside.{opening, following, nothing}
use Rattle.values.proofs.Constructors.{none-of-none, inner-text, leaf-text}
use Rattle.data_model.proofs.Weights.{eqb-same}
use Rattle.data_model.proofs.Climbs.{AreDistinct, any-tells, find-absent, find-present, first-some}

-- where a node below the first tree, or in the others, is found
module _ (p : Option ℕ) (c : Content) (bs cs rest : Trees) (d : AreDistinct (tree c bs cs rest)) (j : ℕ) where
  not-first : 0 < count j bs + count j cs + count j rest → eqb j c.identity ≡ false
  not-first h = ⊎_elim (λ t. (let z = rw t.0 at (d j) in absurd (omega arith))) (λ t. t.0) (eqb_tells j c.identity)

  in-attributes : 0 < count j bs → find_below p j (tree c bs cs rest) ≡ find_below (Some c.identity) j bs
  in-attributes h = rw (not-first (omega arith)) (first-some (find_below (Some c.identity) j bs) _ (find-present (Some c.identity) j bs h))

  in-children : 0 < count j cs → find_below p j (tree c bs cs rest) ≡ find_below (Some c.identity) j cs
  in-children h =
      let none : count j bs ≡ 0 = (let z = d j in omega arith) in
      rw (not-first (omega arith), find-absent (Some c.identity) j bs none) (first-some (find_below (Some c.identity) j cs) _ (find-present (Some c.identity) j cs h))

  in-rest : 0 < count j rest → find_below p j (tree c bs cs rest) ≡ find_below p j rest
  in-rest h =
      let nb : count j bs ≡ 0 = (let z = d j in omega arith) in
      let nc : count j cs ≡ 0 = (let z = d j in omega arith) in
      rw (not-first (omega arith), find-absent (Some c.identity) j bs nb, find-absent (Some c.identity) j cs nc) refl

-- the trees us stand among ts: their nodes are found there as here
pub record StandIn (p : Option ℕ) (ts : Trees) (q : Option ℕ) (us : Trees) : Type 0 where
  pub there : (j : ℕ) → count j us ≤ count j ts
  pub found : (j : ℕ) → 0 < count j us → find_below p j ts ≡ find_below q j us

-- a node's attributes and children stand where it does
pub record PartsStandIn (p : Option ℕ) (ts : Trees) (x : Place) : Type 0 where
  pub attributes : StandIn p ts (Some x.content.identity) x.attributes
  pub children : StandIn p ts (Some x.content.identity) x.children

stand-below : (p q o : Option ℕ) (ts us vs : Trees) → StandIn p ts q us → StandIn q us o vs → StandIn p ts o vs
stand-below p q o ts us vs f g =
    record { there = λ j. (let a = f.there j in let b = g.there j in omega arith); found = λ j h. (let b = g.there j in f.found j (omega arith) ∙ g.found j h) }

parts-below : (p q : Option ℕ) (ts us : Trees) (x : Place) → StandIn p ts q us → PartsStandIn q us x → PartsStandIn p ts x
parts-below p q ts us x f g = record { attributes = stand-below p q _ ts us x.attributes f g.attributes; children = stand-below p q _ ts us x.children f g.children }

module _ (p : Option ℕ) (c : Content) (bs cs rest : Trees) (d : AreDistinct (tree c bs cs rest)) where
  attributes-stand : StandIn p (tree c bs cs rest) (Some c.identity) bs
  attributes-stand = record { there = λ j. omega arith; found = in-attributes p c bs cs rest d }

  children-stand : StandIn p (tree c bs cs rest) (Some c.identity) cs
  children-stand = record { there = λ j. omega arith; found = in-children p c bs cs rest d }

  rest-stands : StandIn p (tree c bs cs rest) p rest
  rest-stands = record { there = λ j. omega arith; found = in-rest p c bs cs rest d }

pub parts-stand : (p : Option ℕ) (i : ℕ) (ts : Trees) (x : Place) → AreDistinct ts → find_below p i ts ≡ Some x → PartsStandIn p ts x
parts-stand p i no_trees x d e = cc
parts-stand p i (tree c bs cs rest) x d e =
    let ts = tree c bs cs rest in
    ⊎_elim
    (λ t. (let at : Some (record { parent = p; content = c; attributes = bs; children = cs }) ≡ Some x = rw t.0 at e in
    let same : record { parent = p; content = c; attributes = bs; children = cs } ≡ x = cc in
    subst (PartsStandIn p ts) same (record { attributes = attributes-stand p c bs cs rest d; children = children-stand p c bs cs rest d })))
    (λ t. ⊎_elim
    (λ b. parts-below p (Some c.identity) ts bs x (attributes-stand p c bs cs rest d) (parts-stand (Some c.identity) i bs x (λ j. let y = d j in omega arith) (sym (in-attributes p c bs cs rest d i b.1) ∙ e)))
    (λ b. ⊎_elim
    (λ u. parts-below p (Some c.identity) ts cs x (children-stand p c bs cs rest d) (parts-stand (Some c.identity) i cs x (λ j. let y = d j in omega arith) (sym (in-children p c bs cs rest d i u.1) ∙ e)))
    (λ u. (let at : first (find_below (Some c.identity) i bs) (first (find_below (Some c.identity) i cs) (find_below p i rest)) ≡ Some x = rw t.0 at e in
    let in_rest : find_below p i rest ≡ Some x = rw (find-absent (Some c.identity) i bs b.1, find-absent (Some c.identity) i cs u.1) at at in
    parts-below p p ts rest x (rest-stands p c bs cs rest d) (parts-stand p i rest x (λ j. let y = d j in omega arith) in_rest)))
    (any-tells (count i cs)))
    (any-tells (count i bs)))
    (eqb_tells i c.identity)

-- the places of the roots
abbrev pub places : Option ℕ → Trees → List (Option Place)
places q no_trees = []
places q (tree c bs cs rest) = Some (record { parent = q; content = c; attributes = bs; children = cs }) ∷ places q rest

pub roots-found : (q : Option ℕ) (us : Trees) (f : ℕ → Option Place) → AreDistinct us → ((j : ℕ) → 0 < count j us → f j ≡ find_below q j us) → map f (roots us) ≡ places q us
roots-found q no_trees f d h = refl
roots-found q (tree c bs cs rest) f d h =
    let one : 0 < count c.identity (tree c bs cs rest) = rw (eqb-same c.identity) (omega arith) in
    let here : f c.identity ≡ Some (record { parent = q; content = c; attributes = bs; children = cs }) = h c.identity one ∙ rw (eqb-same c.identity) refl in
    let more = roots-found q rest f (λ j. let y = d j in omega arith) (λ j k. h j (omega arith) ∙ in-rest q c bs cs rest d j k) in
    rw (here, more) refl

-- how many nodes there are in the tree of a place
abbrev pub size_at : Option Place → ℕ
size_at None = 0
size_at (Some x) = 1 + size x.attributes + size x.children

-- the text of the node i, and how many nodes its tree has
abbrev pub text_in : Trees → ℕ → List ℕ
text_in ts i = place_text (find i ts)

abbrev pub size_in : Trees → ℕ → ℕ
size_in ts i = size_at (find i ts)

each-place : {A : Type 0} (f : ℕ → Option Place) (g : Option Place → A) (ids : List ℕ) → map (λ i. g (f i)) ids ≡ map g (map f ids)
each-place f g [] = refl
each-place f g (i ∷ ids) = ap (λ l. g (f i) ∷ l) (each-place f g ids)

sum-places : (f : ℕ → Option Place) (g : Option Place → ℕ) (ids : List ℕ) → sum_by (λ i. g (f i)) ids ≡ sum_by g (map f ids)
sum-places f g [] = refl
sum-places f g (i ∷ ids) = omega (arith, sum_by-cons (λ i. g (f i)) i ids, sum_by-cons g (f i) (map f ids), sum-places f g ids)

place-texts : (q : Option ℕ) (us : Trees) → map place_text (places q us) ≡ tree_texts us
place-texts q no_trees = refl
place-texts q (tree c bs cs rest) = ap (λ l. node_text c (tree_texts bs ++ tree_texts cs) ∷ l) (place-texts q rest)

place-sizes : (q : Option ℕ) (us : Trees) → sum_by size_at (places q us) ≡ size us
place-sizes q no_trees = refl
place-sizes q (tree c bs cs rest) = omega (arith, sum_by-cons size_at (Some (record { parent = q; content = c; attributes = bs; children = cs })) (places q rest), place-sizes q rest)

each-root : (P : ℕ → Type 0) (us : Trees) → ((j : ℕ) → 0 < count j us → P j) → AllByRecursion P (roots us)
each-root P no_trees h = tt
each-root P (tree c bs cs rest) h =
    let one : 0 < count c.identity (tree c bs cs rest) = rw (eqb-same c.identity) (omega arith) in
    (h c.identity one, each-root P rest (λ j k. h j (omega arith)))

-- the roots of trees that stand among others
module _ (ts : Trees) (d : AreDistinct ts) (q : Option ℕ) (us : Trees) (s : StandIn None ts q us) (ids : List ℕ) (is : ids ≡ roots us) where
  roots-at : map (λ j. find j ts) ids ≡ places q us
  roots-at = ap (map (λ j. find j ts)) is ∙ roots-found q us (λ j. find j ts) (λ j. (let a = s.there j in let b = d j in omega arith)) s.found

  pub root-texts : map (text_in ts) ids ≡ tree_texts us
  root-texts = each-place (λ j. find j ts) place_text ids ∙ ap (map place_text) roots-at ∙ place-texts q us

  pub root-sizes : sum_by (size_in ts) ids ≡ size us
  root-sizes = sum-places (λ j. find j ts) size_at ids ∙ ap (sum_by size_at) roots-at ∙ place-sizes q us

  pub roots-there : All (λ j. IsSome (find j ts)) ids
  roots-there =
      let P : ℕ → Type 0 = λ j. IsSome (find j ts) in
      subst (All P) (sym is) (All-from_recursion P (roots us) (each-root P us (λ j h. rw (s.found j h) (find-present q j us h))))

-- a node's own text, the text that it and its parts make, that the parts are there, and that their trees are smaller than its own
pub record HasParts (ts : Trees) (i : ℕ) (k : Kind) (name : List ℕ) (bs cs : List ℕ) : Type 0 where
  pub text : List ℕ
  pub same : (t : List ℕ) → IsAt (find i ts) (λ c. t ≡ c.text) → t ≡ text
  pub made : text_in ts i ≡ constructor k name text (map (text_in ts) bs ++ map (text_in ts) cs)
  pub attributes : All (λ j. IsSome (find j ts)) bs
  pub children : All (λ j. IsSome (find j ts)) cs
  pub smaller : sum_by (size_in ts) bs + sum_by (size_in ts) cs < size_in ts i

pub has-parts : (ts : Trees) (i : ℕ) (k : Kind) (name : List ℕ) (bs cs : List ℕ) → AreDistinct ts → IsAt (find i ts) (λ c. k ≡ c.kind) → IsAt (find i ts) (λ c. name ≡ c.name) → bs ≡ attributes_of i ts → cs ≡ children_of i ts → HasParts ts i k name bs cs
has-parts ts i k name bs cs d hk hn hb hc = cases (find i ts) refl hk hn hb hc
  where
    cases : (o : Option Place) → find i ts ≡ o → IsAt o (λ c. k ≡ c.kind) → IsAt o (λ c. name ≡ c.name) → bs ≡ attributes_at o → cs ≡ children_at o → HasParts ts i k name bs cs
    cases None e hk hn hb hc = absurd hk
    cases (Some x) e hk hn hb hc =
        let p = parts-stand None i ts x d e in
        let tb = root-texts ts d _ x.attributes p.attributes bs hb in
        let tc = root-texts ts d _ x.children p.children cs hc in
        let sb = root-sizes ts d _ x.attributes p.attributes bs hb in
        let sc = root-sizes ts d _ x.children p.children cs hc in
        let whole : size_in ts i ≡ 1 + size x.attributes + size x.children = ap size_at e in
        let P : List ℕ → Option Place → Type 0 = λ t y. IsAt y (λ c. t ≡ c.text) in
        record {
          text = x.content.text;
          same = λ t h. subst (P t) e h;
          made = ap place_text e ∙ (λ j. constructor (sym hk j) (sym hn j) x.content.text (sym tb j ++ sym tc j));
          attributes = roots-there ts d _ x.attributes p.attributes bs hb;
          children = roots-there ts d _ x.children p.children cs hc;
          smaller = omega arith;
        }

-- a node's text, made of its pieces
module _ (ts : Trees) (i : ℕ) (k : Kind) (name : List ℕ) (bs cs : List ℕ) (p : HasParts ts i k name bs cs) (old : List ℕ) where
  pub inner-whole : is_inner k ≡ true
      → ((((old ++ opening k name) ++ following false (map (text_in ts) bs)) ++ following (not (eqb (length bs) 0)) (map (text_in ts) cs)) ++ nothing k (eqb (length bs) 0 && eqb (length cs) 0)) ++ codes "}" ≡ old ++ text_in ts i
  inner-whole h =
      let b = none-of-none (text_in ts) bs in
      let c = none-of-none (text_in ts) cs in
      (λ j. ((((old ++ opening k name) ++ following false (map (text_in ts) bs)) ++ following (not (b j)) (map (text_in ts) cs)) ++ nothing k (b j && c j)) ++ codes "}") ∙ inner-text old name p.text k (map (text_in ts) bs) (map (text_in ts) cs) h ∙ ap (λ l. old ++ l) (sym p.made)

  pub leaf-whole : (t : List ℕ) → IsAt (find i ts) (λ c. t ≡ c.text) → is_inner k ≡ false → ((old ++ opening k name) ++ literal t) ++ codes "}" ≡ old ++ text_in ts i
  leaf-whole t e h = ap (λ l. ((old ++ opening k name) ++ literal l) ++ codes "}") (p.same t e) ∙ leaf-text old name p.text k _ h ∙ ap (λ l. old ++ l) (sym p.made)
