-- A list below a node that is exchanged for another: what was in it and is not in the new one leaves the table, what is new comes into it.
use Rattle.std.proofs.Common.{◌≡◌, ◌≢◌, ℕ, ◌+◌, ◌*◌, ◌≤◌, ◌<◌, List, ◌∷◌, cond, refl, ap, sym, ◌∙◌, arith, ⊎_elim, Option, Some, None, is_some, subst}
use Rattle.std.proofs.lemmas.Bool.Decides.{eqb_tells}
use Rattle.data_model.specs.Trees.{Trees, no_trees, tree, roots, weigh, count, size}
use Rattle.data_model.specs.Changes.{with_part}
use Rattle.node_table.specs.Flat.{Entry, Table, Holds, entry_is_root, IsTableOf}
use Rattle.data_model.specs.declared.node.Part.{Part}
use Rattle.data_model.specs.declared.node.Part.TheVariants.{Attributes, Children}
use Rattle.data_model.proofs.Weights.{eqb-same}
use Rattle.node_table.proofs.Tables.{IsTableOf-later}
use Rattle.node_table.proofs.Takes.{parentless-roots}

-- the trees in which that part of the node p is us
abbrev pub relisted : Part → ℕ → Trees → Trees → Trees
relisted part p us = with_part part p (λ _. us)

-- the trees in which it is empty: what stays whatever it becomes
abbrev pub emptied : Part → ℕ → Trees → Trees
emptied part p = relisted part p no_trees

abbrev pub with_list : Part → List ℕ → Entry → Entry
with_list Attributes is e = record e { attributes = is }
with_list Children is e = record e { children = is }

pub roots-relisted : (part : Part) (p : ℕ) (us ts : Trees) → roots (relisted part p us ts) ≡ roots ts
roots-relisted part p us no_trees = refl
roots-relisted part p us (tree c bs cs rest) = ap (λ x. c.identity ∷ x) (roots-relisted part p us rest)

pub weigh-relisted : (w : ℕ → ℕ) (part : Part) (p : ℕ) (us ts : Trees) → weigh w (relisted part p us ts) ≡ weigh w (emptied part p ts) + count p (emptied part p ts) * weigh w us
weigh-relisted w part p us no_trees = omega arith
weigh-relisted w Attributes p us (tree c bs cs rest) =
    let b = weigh-relisted w Attributes p us bs in
    let d = weigh-relisted w Attributes p us cs in
    let r = weigh-relisted w Attributes p us rest in
    ⊎_elim (λ t. rw t.0 (omega arith)) (λ t. rw t.0 (omega arith)) (eqb_tells p c.identity)
weigh-relisted w Children p us (tree c bs cs rest) =
    let b = weigh-relisted w Children p us bs in
    let d = weigh-relisted w Children p us cs in
    let r = weigh-relisted w Children p us rest in
    ⊎_elim (λ t. rw t.0 (omega arith)) (λ t. rw t.0 (omega arith)) (eqb_tells p c.identity)

module _ (f g : Table) (p : ℕ) (us : Trees) (held : Holds g (Some p) us) where
  pub Holds-relisted : (part : Part) → ((e : Entry) → f p ≡ Some e → g p ≡ Some (with_list part (roots us) e))
      → (q : Option ℕ) (ts : Trees) → ((i : ℕ) → 0 < count i (emptied part p ts) → i ≢ p → g i ≡ f i) → Holds f q ts → Holds g q (relisted part p us ts)
  Holds-relisted part here q no_trees kept h = tt
  Holds-relisted Attributes here q (tree c bs cs rest) kept h =
      let P : ℕ → Type 0 = λ i. Holds g (Some i) us in
      let d = Holds-relisted Attributes here (Some c.identity) cs (λ i k. kept i (omega arith)) h.2 in
      let r = Holds-relisted Attributes here q rest (λ i k. kept i (omega arith)) h.3 in
      ⊎_elim
      (λ t. rw t.0 (rw (roots-relisted Attributes p us cs) (ap g (sym t.1) ∙ here _ (ap f t.1 ∙ h.0), subst P t.1 held, d, r)))
      (λ t. (let b = Holds-relisted Attributes here (Some c.identity) bs (λ i k. kept i (rw t.0 (omega arith))) h.1 in
      let own : g c.identity ≡ f c.identity = kept c.identity (rw (eqb-same c.identity) (omega arith)) (λ e. t.1 (sym e)) in
      rw t.0 (rw (roots-relisted Attributes p us bs, roots-relisted Attributes p us cs) (own ∙ h.0, b, d, r))))
      (eqb_tells p c.identity)
  Holds-relisted Children here q (tree c bs cs rest) kept h =
      let P : ℕ → Type 0 = λ i. Holds g (Some i) us in
      let b = Holds-relisted Children here (Some c.identity) bs (λ i k. kept i (omega arith)) h.1 in
      let r = Holds-relisted Children here q rest (λ i k. kept i (omega arith)) h.3 in
      ⊎_elim
      (λ t. rw t.0 (rw (roots-relisted Children p us bs) (ap g (sym t.1) ∙ here _ (ap f t.1 ∙ h.0), b, subst P t.1 held, r)))
      (λ t. (let d = Holds-relisted Children here (Some c.identity) cs (λ i k. kept i (rw t.0 (omega arith))) h.2 in
      let own : g c.identity ≡ f c.identity = kept c.identity (rw (eqb-same c.identity) (omega arith)) (λ e. t.1 (sym e)) in
      rw t.0 (rw (roots-relisted Children p us bs, roots-relisted Children p us cs) (own ∙ h.0, b, d, r))))
      (eqb_tells p c.identity)

-- g is f, but that p has the trees us in that part; identities are below m
pub record Relists (f g : Table) (m : ℕ) (part : Part) (p : ℕ) (us ts : Trees) : Type 0 where
  pub stands : count p (emptied part p ts) ≡ 1
  pub here : (e : Entry) → f p ≡ Some e → g p ≡ Some (with_list part (roots us) e)
  pub held : Holds g (Some p) us
  pub kept : (i : ℕ) → 0 < count i (emptied part p ts) → i ≢ p → g i ≡ f i
  pub counts : (i : ℕ) → count i (emptied part p ts) + count i us ≡ cond (is_some (g i)) 1 0
  pub above : (i : ℕ) → m ≤ i → g i ≡ None
  pub fits : size (emptied part p ts) + size us ≤ m
  pub same_roots : (i : ℕ) → entry_is_root (g i) ≡ entry_is_root (f i)

weigh-one : (w : ℕ → ℕ) (part : Part) (p : ℕ) (us ts : Trees) → count p (emptied part p ts) ≡ 1 → weigh w (relisted part p us ts) ≡ weigh w (emptied part p ts) + weigh w us
weigh-one w part p us ts one = weigh-relisted w part p us ts ∙ rw one (omega arith)

pub IsTableOf-relisted : (f g : Table) (n m : ℕ) (part : Part) (p : ℕ) (us ts : Trees) → n ≤ m → IsTableOf f n ts → Relists f g m part p us ts → IsTableOf g m (relisted part p us ts)
IsTableOf-relisted f g n m part p us ts l h x =
    let later = IsTableOf-later f n m ts l h in
    record {
      holds = Holds-relisted f g p us x.held part x.here None ts x.kept h.holds;
      counted = λ i. weigh-one _ part p us ts x.stands ∙ x.counts i;
      above = x.above;
      fits = rw (weigh-one (λ _. 1) part p us ts x.stands) x.fits;
      in_order = roots-relisted part p us ts ∙ later.in_order ∙ sym (parentless-roots f g m (λ i _. x.same_roots i));
    }
