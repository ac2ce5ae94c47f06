-- The list of a node, and the trees around it.
use Rattle.std.proofs.Common.{◌≡◌, ℕ, ◌+◌, ◌∷◌, take, drop, eqb, true, false, refl, ap, sym, ◌∙◌, arith, ⊎_elim, Option, Some, subst}
use Prim.Native.Nat.{zero, suc}
use Rattle.std.proofs.lemmas.Bool.Decides.{eqb_tells}
use Rattle.data_model.specs.Trees.{Trees, no_trees, tree, Content, roots, weigh, count}
use Rattle.data_model.specs.Changes.{with_part}
use Rattle.data_model.specs.declared.node.Part.{Part}
use Rattle.data_model.specs.declared.node.Part.TheVariants.{Attributes, Children}
use Rattle.data_model.proofs.Climbs.{any-tells}
use Rattle.node_table.specs.Flat.{Entry, Table, entry_of, Holds, listed}
use Rattle.node_table.proofs.Copies.{same-entry}
use Rattle.node_table.proofs.Relists.{relisted, emptied}
use Rattle.node_plans.specs.Splices.{first_of, rest_of}

-- ---- a list of trees that is cut
pub weigh-cut : (w : ℕ → ℕ) (n : ℕ) (ts : Trees) → weigh w (first_of n ts) + weigh w (rest_of n ts) ≡ weigh w ts
weigh-cut w n no_trees = omega arith
weigh-cut w zero (tree c bs cs rest) = omega arith
weigh-cut w (suc n) (tree c bs cs rest) = omega (arith, weigh-cut w n rest)

pub roots-first : (n : ℕ) (ts : Trees) → roots (first_of n ts) ≡ take n (roots ts)
roots-first zero no_trees = refl
roots-first (suc n) no_trees = refl
roots-first zero (tree c bs cs rest) = refl
roots-first (suc n) (tree c bs cs rest) = ap (λ x. c.identity ∷ x) (roots-first n rest)

pub roots-rest : (n : ℕ) (ts : Trees) → roots (rest_of n ts) ≡ drop n (roots ts)
roots-rest zero no_trees = refl
roots-rest (suc n) no_trees = refl
roots-rest zero (tree c bs cs rest) = refl
roots-rest (suc n) (tree c bs cs rest) = roots-rest n rest

pub Holds-first : (f : Table) (p : Option ℕ) (n : ℕ) (ts : Trees) → Holds f p ts → Holds f p (first_of n ts)
Holds-first f p n no_trees h = tt
Holds-first f p zero (tree c bs cs rest) h = tt
Holds-first f p (suc n) (tree c bs cs rest) h = (h.0, h.1, h.2, Holds-first f p n rest h.3)

pub Holds-rest : (f : Table) (p : Option ℕ) (n : ℕ) (ts : Trees) → Holds f p ts → Holds f p (rest_of n ts)
Holds-rest f p n no_trees h = tt
Holds-rest f p zero (tree c bs cs rest) h = h
Holds-rest f p (suc n) (tree c bs cs rest) h = Holds-rest f p n rest h.3

rest-zero : (ts : Trees) → rest_of zero ts ≡ ts
rest-zero no_trees = refl
rest-zero (tree c bs cs rest) = refl

-- those after the first n, then those after the first m of these
pub rest-rest : (n m : ℕ) (ts : Trees) → rest_of m (rest_of n ts) ≡ rest_of (n + m) ts
rest-rest n m no_trees = refl
rest-rest zero m (tree c bs cs rest) = let e : 0 + m ≡ m = omega arith in rw e
rest-rest (suc n) m (tree c bs cs rest) = let e : suc n + m ≡ suc (n + m) = omega arith in rw e (rest-rest n m rest)

-- ---- where a node stands
pub absent-part : (part : Part) (p : ℕ) (g : Trees → Trees) (ts : Trees) → count p ts ≡ 0 → with_part part p g ts ≡ ts
absent-part part p g no_trees z = refl
absent-part Attributes p g (tree c bs cs rest) z =
    ⊎_elim (λ t. absurd (let y = rw t.0 at z in omega arith))
    (λ t. (let y = rw t.0 at z in rw t.0 (λ i. tree c (absent-part Attributes p g bs (omega arith) i) (absent-part Attributes p g cs (omega arith) i) (absent-part Attributes p g rest (omega arith) i)))) (eqb_tells p c.identity)
absent-part Children p g (tree c bs cs rest) z =
    ⊎_elim (λ t. absurd (let y = rw t.0 at z in omega arith))
    (λ t. (let y = rw t.0 at z in rw t.0 (λ i. tree c (absent-part Children p g bs (omega arith) i) (absent-part Children p g cs (omega arith) i) (absent-part Children p g rest (omega arith) i)))) (eqb_tells p c.identity)

-- the list of p in that part, and what the trees are besides it
pub record Site (f : Table) (part : Part) (p : ℕ) (ts : Trees) : Type 0 where
  pub list : Trees
  pub held : Holds f (Some p) list
  pub entry : (e : Entry) → f p ≡ Some e → listed part e ≡ roots list
  pub stands : count p (emptied part p ts) ≡ 1
  pub own : count p list ≡ 0
  pub weighs : (w : ℕ → ℕ) → weigh w ts ≡ weigh w (emptied part p ts) + weigh w list
  pub rewrites : (g : Trees → Trees) → with_part part p g ts ≡ relisted part p (g list) ts

elsewhere : (part : Part) (p : ℕ) (g : Trees → Trees) (c : Content) (bs cs rest : Trees) → eqb p c.identity ≡ false → with_part part p g (tree c bs cs rest) ≡ tree c (with_part part p g bs) (with_part part p g cs) (with_part part p g rest)
elsewhere Attributes p g c bs cs rest t = rw t refl
elsewhere Children p g c bs cs rest t = rw t refl

-- what is written where p isn't
other : (part : Part) (p : ℕ) (g k : Trees → Trees) (ts : Trees) → count p ts ≡ 0 → with_part part p g ts ≡ with_part part p k ts
other part p g k ts z = absent-part part p g ts z ∙ sym (absent-part part p k ts z)

module _ (f : Table) (p : ℕ) where
  site-here : (part : Part) (q : Option ℕ) (c : Content) (bs cs rest : Trees) → Holds f q (tree c bs cs rest) → count p (tree c bs cs rest) ≡ 1 → eqb p c.identity ≡ true → p ≡ c.identity → Site f part p (tree c bs cs rest)
  site-here Attributes q c bs cs rest h one t same =
      let y = rw t at one in
      let P : ℕ → Type 0 = λ i. Holds f (Some i) bs in
      let zc : count p cs ≡ 0 = omega arith in
      let zr : count p rest ≡ 0 = omega arith in
      let zb : count p bs ≡ 0 = omega arith in
      let ec = absent-part Attributes p (λ _. no_trees) cs zc in
      let er = absent-part Attributes p (λ _. no_trees) rest zr in
      record {
        list = bs;
        held = subst P (sym same) h.1;
        entry = λ e at. ap (listed Attributes) (same-entry (f p) e (entry_of c q (roots bs) (roots cs)) at (ap f same ∙ h.0));
        stands = rw (t, ec, er) (omega arith);
        own = zb;
        weighs = λ w. rw (t, ec, er) (omega arith);
        rewrites = λ g. rw t (λ i. tree c (g (absent-part Attributes p g bs zb i)) (other Attributes p g (λ _. g bs) cs zc i) (other Attributes p g (λ _. g bs) rest zr i));
      }
  site-here Children q c bs cs rest h one t same =
      let y = rw t at one in
      let P : ℕ → Type 0 = λ i. Holds f (Some i) cs in
      let zc : count p cs ≡ 0 = omega arith in
      let zr : count p rest ≡ 0 = omega arith in
      let zb : count p bs ≡ 0 = omega arith in
      let eb = absent-part Children p (λ _. no_trees) bs zb in
      let er = absent-part Children p (λ _. no_trees) rest zr in
      record {
        list = cs;
        held = subst P (sym same) h.2;
        entry = λ e at. ap (listed Children) (same-entry (f p) e (entry_of c q (roots bs) (roots cs)) at (ap f same ∙ h.0));
        stands = rw (t, eb, er) (omega arith);
        own = zc;
        weighs = λ w. rw (t, eb, er) (omega arith);
        rewrites = λ g. rw t (λ i. tree c (other Children p g (λ _. g cs) bs zb i) (g (absent-part Children p g cs zc i)) (other Children p g (λ _. g cs) rest zr i));
      }

  pub site : (part : Part) (q : Option ℕ) (ts : Trees) → Holds f q ts → count p ts ≡ 1 → Site f part p ts
  site part q no_trees h one = absurd (omega arith)
  site part q (tree c bs cs rest) h one =
      let empty : Trees → Trees = λ _. no_trees in
      ⊎_elim (λ t. site-here part q c bs cs rest h one t.0 t.1)
      (λ t. (let y = rw t.0 at one in
      let e0 = elsewhere part p empty c bs cs rest t.0 in
      ⊎_elim
      (λ b. (let some = b.1 in
      let zc : count p cs ≡ 0 = omega arith in
      let zr : count p rest ≡ 0 = omega arith in
      let s = site part (Some c.identity) bs h.1 (omega arith) in
      let ec = absent-part part p empty cs zc in
      let er = absent-part part p empty rest zr in
      record {
        list = s.list;
        held = s.held;
        entry = s.entry;
        stands = ap (count p) e0 ∙ rw (t.0, ec, er) (omega (arith, s.stands));
        own = s.own;
        weighs = λ w. (let z = ap (weigh w) e0 in let zz = ap (weigh w) ec in let zzz = ap (weigh w) er in omega (arith, s.weighs w));
        rewrites = λ g. elsewhere part p g c bs cs rest t.0 ∙ (λ i. tree c (s.rewrites g i) (other part p g (λ _. g s.list) cs zc i) (other part p g (λ _. g s.list) rest zr i)) ∙ sym (elsewhere part p (λ _. g s.list) c bs cs rest t.0);
      }))
      (λ b. (let zb : count p bs ≡ 0 = b.1 in
      ⊎_elim
      (λ u. (let some = u.1 in
      let zr : count p rest ≡ 0 = omega arith in
      let s = site part (Some c.identity) cs h.2 (omega arith) in
      let eb = absent-part part p empty bs zb in
      let er = absent-part part p empty rest zr in
      record {
        list = s.list;
        held = s.held;
        entry = s.entry;
        stands = ap (count p) e0 ∙ rw (t.0, eb, er) (omega (arith, s.stands));
        own = s.own;
        weighs = λ w. (let z = ap (weigh w) e0 in let zz = ap (weigh w) eb in let zzz = ap (weigh w) er in omega (arith, s.weighs w));
        rewrites = λ g. elsewhere part p g c bs cs rest t.0 ∙ (λ i. tree c (other part p g (λ _. g s.list) bs zb i) (s.rewrites g i) (other part p g (λ _. g s.list) rest zr i)) ∙ sym (elsewhere part p (λ _. g s.list) c bs cs rest t.0);
      }))
      (λ u. (let zc : count p cs ≡ 0 = u.1 in
      let s = site part q rest h.3 (omega arith) in
      let eb = absent-part part p empty bs zb in
      let ec = absent-part part p empty cs zc in
      record {
        list = s.list;
        held = s.held;
        entry = s.entry;
        stands = ap (count p) e0 ∙ rw (t.0, eb, ec) (omega (arith, s.stands));
        own = s.own;
        weighs = λ w. (let z = ap (weigh w) e0 in let zz = ap (weigh w) eb in let zzz = ap (weigh w) ec in omega (arith, s.weighs w));
        rewrites = λ g. elsewhere part p g c bs cs rest t.0 ∙ (λ i. tree c (other part p g (λ _. g s.list) bs zb i) (other part p g (λ _. g s.list) cs zc i) (s.rewrites g i)) ∙ sym (elsewhere part p (λ _. g s.list) c bs cs rest t.0);
      }))
      (any-tells (count p cs))))
      (any-tells (count p bs))))
      (eqb_tells p c.identity)
