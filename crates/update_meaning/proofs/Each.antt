-- What a list of primitives changes goes through a list of trees one by one, so what is changed together is changed alone.
use Rattle.std.proofs.Common.{◌≡◌, ℕ, Bool, true, false, not, cond, eqb, List, [], ◌∷◌, refl, ap, sym, ◌∙◌}
use Rattle.data_model.specs.Changes.{with_part, with_content}
use Rattle.data_model.specs.Trees.{Trees, no_trees, tree, Content, append}
use Rattle.data_model.specs.declared.node.Part.{Part}
use Rattle.data_model.specs.declared.node.Part.TheVariants.{Attributes, Children}
use Rattle.pending.specs.Compatible.{is_among}
use Rattle.pending.specs.Primitives.{PrimitiveTerm, insert_before, insert_after, insert_into, insert_into_as_first, insert_into_as_last, insert_attributes, delete, replace_node, replace_value, replace_element_content, rename}
use Rattle.update_meaning.specs.Effects.{with_tree, with_tree_below, effect, effects, of_stage, staged}
use Rattle.update_meaning.specs.Results.{all_merged, all_filled}
use Rattle.update_meaning.specs.Changed.{Choice, rooted_at, chosen, each_chosen, in_places, tidied_below, changed}

-- what a rewriter makes of a tree before others: what it says is of the same identity and kind, and the others are rewritten by themselves
pub record IsEach (g : Trees → Trees) : Type 0 where
  pub none : g no_trees ≡ no_trees
  pub one : (c : Content) (bs cs rest : Trees) → g (tree c bs cs rest) ≡ append (g (tree c bs cs no_trees)) (g rest)

pub record KeepsRoot (c : Content) (us : Trees) : Type 0 where
  pub root : Content
  pub attributes : Trees
  pub children : Trees
  pub identity : root.identity ≡ c.identity
  pub kind : root.kind ≡ c.kind
  pub is : us ≡ tree root attributes children no_trees

pub record Keeps (g : Trees → Trees) : Type 0 where
  pub each : IsEach g
  pub roots : (c : Content) (bs cs : Trees) → KeepsRoot c (g (tree c bs cs no_trees))

-- the one rewriter after the other
then_one : (g h : Trees → Trees) (c d : Content) (bs cs es fs rest : Trees) → IsEach h → g (tree c bs cs no_trees) ≡ tree d es fs no_trees → g (tree c bs cs rest) ≡ append (g (tree c bs cs no_trees)) (g rest)
    → h (g (tree c bs cs rest)) ≡ append (h (g (tree c bs cs no_trees))) (h (g rest))
then_one g h c d bs cs es fs rest k is one = rw one (rw is (k.one d es fs (g rest)))

pub then_ : (g h : Trees → Trees) → Keeps g → Keeps h → Keeps (λ ts. h (g ts))
then_ g h j k = record {
  each = record {
    none = rw j.each.none k.each.none;
    one = λ c bs cs rest. (let r = j.roots c bs cs in then_one g h c r.root bs cs r.attributes r.children rest k.each r.is (j.each.one c bs cs rest));
  };
  roots = λ c bs cs. (let r = j.roots c bs cs in let s = k.roots r.root r.attributes r.children in
      record { root = s.root; attributes = s.attributes; children = s.children; identity = s.identity ∙ r.identity; kind = s.kind ∙ r.kind; is = rw r.is s.is });
}

same : Keeps (λ ts. ts)
same = record {
  each = record { none = refl; one = λ c bs cs rest. refl };
  roots = λ c bs cs. record { root = c; attributes = bs; children = cs; identity = refl; kind = refl; is = refl };
}

below : (i : ℕ) (g : Trees → Trees) → Keeps (with_tree_below i g)
below i g = record {
  each = record { none = refl; one = λ c bs cs rest. refl };
  roots = λ c bs cs. record { root = c; attributes = with_tree i g bs; children = with_tree i g cs; identity = refl; kind = refl; is = refl };
}

part : (p : Part) (i : ℕ) (g : Trees → Trees) → Keeps (with_part p i g)
part p i g = record {
  each = record { none = refl; one = λ c bs cs rest. refl };
  roots = λ c bs cs. record { root = c; attributes = _; children = _; identity = refl; kind = refl; is = refl };
}

content : (i : ℕ) (g : Content → Content) → ((c : Content) → (g c).identity ≡ c.identity) → ((c : Content) → (g c).kind ≡ c.kind) → Keeps (with_content i g)
content i g same_id same_kind = record {
  each = record { none = refl; one = λ c bs cs rest. refl };
  roots = λ c bs cs. record {
    root = cond (eqb i c.identity) (g c) c;
    attributes = with_content i g bs;
    children = with_content i g cs;
    identity = of_identity (eqb i c.identity) c;
    kind = of_kind (eqb i c.identity) c;
    is = refl;
  };
}
  where
    of_identity : (b : Bool) (c : Content) → (cond b (g c) c).identity ≡ c.identity
    of_identity true c = same_id c
    of_identity false c = refl

    of_kind : (b : Bool) (c : Content) → (cond b (g c) c).kind ≡ c.kind
    of_kind true c = same_kind c
    of_kind false c = refl

pub one_effect : (p : PrimitiveTerm) → Keeps (effect p)
one_effect (insert_before i us) = below i (λ t. append us t)
one_effect (insert_after i us) = below i (λ t. append t us)
one_effect (insert_into i us) = part Children i _
one_effect (insert_into_as_first i us) = part Children i _
one_effect (insert_into_as_last i us) = part Children i _
one_effect (insert_attributes i us) = part Attributes i _
one_effect (delete i) = below i (λ t. no_trees)
one_effect (replace_node i us) = below i (λ t. us)
one_effect (replace_value i text) = content i _ (λ c. refl) (λ c. refl)
one_effect (replace_element_content i us) = part Children i _
one_effect (rename i name) = content i _ (λ c. refl) (λ c. refl)

pub all_effects : (ps : List PrimitiveTerm) → Keeps (effects ps)
all_effects [] = same
all_effects (p ∷ ps) = then_ (effect p) (effects ps) (one_effect p) (all_effects ps)

pub all_stages : (ps : List PrimitiveTerm) → Keeps (staged ps)
all_stages ps =
    then_ _ (effects (of_stage 5 ps)) (then_ _ (effects (of_stage 4 ps)) (then_ _ (effects (of_stage 3 ps)) (then_ (effects (of_stage 1 ps)) (effects (of_stage 2 ps)) (all_effects (of_stage 1 ps)) (all_effects (of_stage 2 ps))) (all_effects (of_stage 3 ps))) (all_effects (of_stage 4 ps))) (all_effects (of_stage 5 ps))

pub tidies : Keeps tidied_below
tidies = record {
  each = record { none = refl; one = λ c bs cs rest. refl };
  roots = λ c bs cs. record { root = c; attributes = all_filled (all_merged bs); children = all_filled (all_merged cs); identity = refl; kind = refl; is = refl };
}

pub changes : (ps : List PrimitiveTerm) → Keeps (changed ps)
changes ps = then_ (staged ps) tidied_below (all_stages ps) tidies

-- ---- of those that are chosen, each by itself or all together
module _ (choice : Choice) (alike : (c d : Content) → d.identity ≡ c.identity → d.kind ≡ c.kind → choice d ≡ choice c) (g : Trees → Trees) (k : Keeps g) where
  pub together : (ts : Trees) → chosen choice (each_chosen choice g ts) ≡ g (chosen choice ts)
  together no_trees = sym k.each.none
  together (tree c bs cs rest) = by (together rest) (choice c) refl
    where
      r : KeepsRoot c (g (tree c bs cs no_trees))
      r = k.roots c bs cs

      by : chosen choice (each_chosen choice g rest) ≡ g (chosen choice rest) → (b : Bool) → choice c ≡ b → chosen choice (each_chosen choice g (tree c bs cs rest)) ≡ g (chosen choice (tree c bs cs rest))
      by h true e = rw e (rw r.is (rw (alike c r.root r.identity r.kind ∙ e) (rw h (sym (k.each.one c bs cs (chosen choice rest) ∙ ap (λ us. append us (g (chosen choice rest))) r.is)))))
      by h false e = rw e (rw e h)

module _ (choice : Choice) (g : Trees → Trees) (k : Keeps g) where
  -- changed alone and put back in their places
  pub placed_each : (ts : Trees) → in_places choice ts (g (chosen choice ts)) ≡ each_chosen choice g ts
  placed_each no_trees = refl
  placed_each (tree c bs cs rest) = by (placed_each rest) (choice c) refl
    where
      r : KeepsRoot c (g (tree c bs cs no_trees))
      r = k.roots c bs cs

      by : in_places choice rest (g (chosen choice rest)) ≡ each_chosen choice g rest → (b : Bool) → choice c ≡ b → in_places choice (tree c bs cs rest) (g (chosen choice (tree c bs cs rest))) ≡ each_chosen choice g (tree c bs cs rest)
      by h true e = rw e (rw (k.each.one c bs cs (chosen choice rest)) (rw r.is (ap (tree r.root r.attributes r.children) h)))
      by h false e = rw e (ap (tree c bs cs) h)

pub by_identity : (is : List ℕ) (c d : Content) → d.identity ≡ c.identity → d.kind ≡ c.kind → rooted_at is d ≡ rooted_at is c
by_identity is c d i k = ap (is_among is) i

-- the others stay
module _ (choice : Choice) (alike : (c d : Content) → d.identity ≡ c.identity → d.kind ≡ c.kind → choice d ≡ choice c) (g : Trees → Trees) (k : Keeps g) where
  pub others-stay : (ts : Trees) → chosen (λ c. not (choice c)) (each_chosen choice g ts) ≡ chosen (λ c. not (choice c)) ts
  others-stay no_trees = refl
  others-stay (tree c bs cs rest) = by (others-stay rest) (choice c) refl
    where
      r : KeepsRoot c (g (tree c bs cs no_trees))
      r = k.roots c bs cs

      by : chosen (λ d. not (choice d)) (each_chosen choice g rest) ≡ chosen (λ d. not (choice d)) rest → (b : Bool) → choice c ≡ b
          → chosen (λ d. not (choice d)) (each_chosen choice g (tree c bs cs rest)) ≡ chosen (λ d. not (choice d)) (tree c bs cs rest)
      by h true e = rw e (rw r.is (rw (alike c r.root r.identity r.kind ∙ e) h))
      by h false e = rw e (rw e (ap (tree c bs cs) h))
