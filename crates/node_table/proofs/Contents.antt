-- A node that says something else of itself.
use Rattle.std.proofs.Common.{◌≡◌, ℕ, List, ◌∷◌, cond, refl, ap, sym, ◌∙◌, arith, ⊎_elim, Option, Some, None, is_some}
use Rattle.std.proofs.lemmas.Bool.Decides.{eqb_tells}
use Rattle.data_model.specs.Trees.{Trees, no_trees, tree, Content, roots, weigh}
use Rattle.data_model.specs.Changes.{with_content}
use Rattle.node_table.specs.Flat.{Entry, Table, entry_of, content_of, Holds, entry_is_root, IsTableOf, IsChangedAt}
use Rattle.node_table.proofs.Puts.{none-apart}
use Rattle.node_table.proofs.Takes.{parentless-roots}

-- s and step change the same, which is neither the identity nor what is around the node
pub record SaysSame (s : Content → Content) (step : Entry → Entry) : Type 0 where
  pub identity : (c : Content) → (s c).identity ≡ c.identity
  pub entry : (c : Content) (p : Option ℕ) (bs cs : List ℕ) → step (entry_of c p bs cs) ≡ entry_of (s c) p bs cs

module _ (s : Content → Content) (step : Entry → Entry) (same : SaysSame s step) (k : ℕ) where
  roots-with_content : (ts : Trees) → roots (with_content k s ts) ≡ roots ts
  roots-with_content no_trees = refl
  roots-with_content (tree c bs cs rest) =
      ⊎_elim (λ t. rw t.0 (rw (same.identity c) (ap (λ x. c.identity ∷ x) (roots-with_content rest)))) (λ t. rw t.0 (ap (λ x. c.identity ∷ x) (roots-with_content rest))) (eqb_tells k c.identity)

  pub weigh-with_content : (w : ℕ → ℕ) (ts : Trees) → weigh w (with_content k s ts) ≡ weigh w ts
  weigh-with_content w no_trees = refl
  weigh-with_content w (tree c bs cs rest) =
      let b = weigh-with_content w bs in
      let d = weigh-with_content w cs in
      let r = weigh-with_content w rest in
      ⊎_elim (λ t. rw t.0 (rw (same.identity c) (omega arith))) (λ t. rw t.0 (omega arith)) (eqb_tells k c.identity)

  module _ (f g : Table) (changed : IsChangedAt f g k step) (e : Entry) (at_k : f k ≡ Some e) where
    Holds-with_content : (p : Option ℕ) (ts : Trees) → Holds f p ts → Holds g p (with_content k s ts)
    Holds-with_content p no_trees h = tt
    Holds-with_content p (tree c bs cs rest) h =
        let b = Holds-with_content (Some c.identity) bs h.1 in
        let d = Holds-with_content (Some c.identity) cs h.2 in
        let r = Holds-with_content p rest h.3 in
        ⊎_elim
        (λ t. rw t.0 (rw (same.identity c, roots-with_content bs, roots-with_content cs)
        (ap g (sym t.1) ∙ changed.here _ (ap f t.1 ∙ h.0) ∙ ap Some (same.entry c p (roots bs) (roots cs)), b, d, r)))
        (λ t. rw t.0 (rw (roots-with_content bs, roots-with_content cs) (changed.apart c.identity (λ e. t.1 (sym e)) ∙ h.0), b, d, r))
        (eqb_tells k c.identity)

    there : (i : ℕ) → is_some (g i) ≡ is_some (f i)
    there i = ⊎_elim (λ t. rw t.1 (ap is_some (changed.here e at_k) ∙ sym (ap is_some at_k))) (λ t. ap is_some (changed.apart i t.1)) (eqb_tells i k)

    root : (i : ℕ) → entry_is_root (g i) ≡ entry_is_root (f i)
    root i =
        let says = ap (λ (d : Entry). entry_is_root (Some d)) (same.entry (content_of k e) e.parent e.attributes e.children) in
        ⊎_elim (λ t. rw t.1 (ap entry_is_root (changed.here e at_k) ∙ says ∙ sym (ap entry_is_root at_k))) (λ t. ap entry_is_root (changed.apart i t.1)) (eqb_tells i k)

    pub IsTableOf-content : (n : ℕ) (ts : Trees) → IsTableOf f n ts → IsTableOf g n (with_content k s ts)
    IsTableOf-content n ts h = record {
      holds = Holds-with_content None ts h.holds;
      counted = λ i. weigh-with_content _ ts ∙ h.counted i ∙ ap (λ b. cond b 1 0) (sym (there i));
      above = λ i z. changed.apart i (none-apart f i k e (h.above i z) at_k) ∙ h.above i z;
      fits = rw weigh-with_content h.fits;
      in_order = roots-with_content ts ∙ h.in_order ∙ sym (parentless-roots f g n (λ i _. root i));
    }
