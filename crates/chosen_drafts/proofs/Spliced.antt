-- A list of a node of some trees that becomes another.
use Rattle.std.proofs.Common.{◌≡◌, ◌⊎◌, inl, inr, ⊎_elim, ℕ, zero, suc, ◌+◌, ◌*◌, ◌<◌, ◌≤◌, true, cond, eqb, List, refl, ap, arith}
use Rattle.std.proofs.lemmas.Bool.Decides.{eqb_tells}
use Rattle.data_model.specs.Changes.{with_part, part_of}
use Rattle.data_model.specs.Trees.{Trees, no_trees, tree, append, weigh, count, find, attributes_at, children_at}
use Rattle.data_model.specs.declared.node.Part.{Part}
use Rattle.data_model.specs.declared.node.Part.TheVariants.{Attributes, Children}
use Rattle.data_model.proofs.Climbs.{any-tells}
use Rattle.data_model.proofs.Weights.{weigh-append}
use Rattle.node_plans.specs.Splices.{first_of, rest_of, spliced}
use Rattle.trees.specs.Drafts.{DraftTerm}
use Rattle.pending.specs.Compatible.{is_among}
use Rattle.update_meaning.specs.Changed.{rooted_at, chosen}
use Rattle.chosen_drafts.specs.Chosen.{others}
use Rattle.chosen_drafts.specs.Inside.{AreTrees}
use Rattle.chosen_drafts.specs.Noting.{Notes}
use Rattle.chosen_drafts.proofs.Chosen.{counts-both, part-kept, noted-more}

weigh-cut : (w : ℕ → ℕ) (from to : ℕ) (ts : Trees) → from ≤ to → weigh w (first_of from ts) + weigh w (rest_of to ts) ≤ weigh w ts
weigh-cut w from to no_trees l = omega arith
weigh-cut w zero zero (tree c bs cs rest) l = omega arith
weigh-cut w zero (suc to) (tree c bs cs rest) l = (let h = weigh-cut w zero to rest (omega arith) in omega (arith, h, none rest))
  where
    none : (ts : Trees) → weigh w (first_of zero ts) ≡ 0
    none no_trees = refl
    none (tree c bs cs rest) = refl
weigh-cut w (suc from) zero (tree c bs cs rest) l = absurd (omega arith)
weigh-cut w (suc from) (suc to) (tree c bs cs rest) l = (let h = weigh-cut w from to rest (omega arith) in omega arith)

weigh-spliced : (w : ℕ → ℕ) (from to : ℕ) (us ts : Trees) → from ≤ to → weigh w (spliced from to us ts) ≤ weigh w ts + weigh w us
weigh-spliced w from to us ts l = omega (arith, weigh-append w (first_of from ts) (append us (rest_of to ts)), weigh-append w us (rest_of to ts), weigh-cut w from to ts l)

module _ (w : ℕ → ℕ) (g : Trees → Trees) (m : ℕ) (grows : (ts : Trees) → weigh w (g ts) ≤ weigh w ts + m) where
  weigh-part : (part : Part) (p : ℕ) (ts : Trees) → weigh w (with_part part p g ts) ≤ weigh w ts + count p ts * m
  weigh-part part p no_trees = omega arith
  weigh-part Attributes p (tree c bs cs rest) =
      let b = weigh-part Attributes p bs in
      let d = weigh-part Attributes p cs in
      let r = weigh-part Attributes p rest in
      let one = grows (with_part Attributes p g bs) in
      ⊎_elim (λ t. rw t.0 (omega arith)) (λ t. rw t.0 (omega arith)) (eqb_tells p c.identity)
  weigh-part Children p (tree c bs cs rest) =
      let b = weigh-part Children p bs in
      let d = weigh-part Children p cs in
      let r = weigh-part Children p rest in
      let one = grows (with_part Children p g cs) in
      ⊎_elim (λ t. rw t.0 (omega arith)) (λ t. rw t.0 (omega arith)) (eqb_tells p c.identity)

-- what stands there then stood there, or is new
either : (a b c n : ℕ) → n ≤ a + c * b → 0 < n → (0 < a) ⊎ (0 < b)
either a b c n l h = ⊎_elim (λ u. inl u.1) (λ u. ⊎_elim (λ v. inr v.1) (λ v. absurd (let z = rw (u.1, v.1) at l in omega (arith, z, h))) (any-tells b)) (any-tells a)

stands : (j : ℕ) (part : Part) (p from to : ℕ) (us ts : Trees) → from ≤ to → 0 < count j (with_part part p (spliced from to us) ts) → (0 < count j ts) ⊎ (0 < count j us)
stands j part p from to us ts l h =
    let w : ℕ → ℕ = λ k. cond (eqb j k) 1 0 in
    either (count j ts) (count j us) (count p ts) (count j (with_part part p (spliced from to us) ts)) (weigh-part w (spliced from to us) (count j us) (λ vs. weigh-spliced w from to us vs l) part p ts) h

pub part-same : (part : Part) (p : ℕ) (ts us : Trees) → find p ts ≡ find p us → part_of part p ts ≡ part_of part p us
part-same Attributes p ts us e = ap attributes_at e
part-same Children p ts us e = ap children_at e

pub distinct-whole : (is : List ℕ) (ts us hs : Trees) (i : ℕ) → others is ts ≡ hs → count i ts ≤ 1 → count i (append (chosen (rooted_at is) ts) us) ≤ 1 → (0 < count i us → count i hs ≡ 0) → count i (append ts us) ≤ 1
distinct-whole is ts us hs i e one new apart =
    let w : ℕ → ℕ = λ k. cond (eqb i k) 1 0 in
    let hidden : count i (others is ts) ≡ count i hs = ap (count i) e in
    ⊎_elim (λ u. (let z = apart u.1 in omega (arith, weigh-append w ts us, weigh-append w (chosen (rooted_at is) ts) us, counts-both is i ts, new, hidden, z)))
    (λ u. omega (arith, weigh-append w ts us, one, u.1)) (any-tells (count i us))

pub noted-new : (is keys more : List ℕ) (left : ℕ) (us : Trees) (d : DraftTerm) → Notes keys more us → ((i : ℕ) → 0 < count i us → count i (others is d.before.trees) ≡ 0) → AreTrees is keys left d → AreTrees is more left d
noted-new is keys more left us d n apart a = noted-more is keys more left d n.grows (λ i h. ⊎_elim (λ g. a.apart i g) (λ g. apart i g) (n.only i h)) a

pub spliced-kept : (is keys : List ℕ) (left : ℕ) (part : Part) (p from to : ℕ) (us : Trees) (d : DraftTerm) → from ≤ to → is_among keys p ≡ true → ((i : ℕ) → 0 < count i us → is_among keys i ≡ true)
    → AreTrees is keys left d → AreTrees is keys left (record d { after = with_part part p (spliced from to us) d.after })
spliced-kept is keys left part p from to us d l among noted a =
    part-kept is keys left part p (spliced from to us) d among (λ j there. ⊎_elim (λ h. a.noted j h) (λ h. noted j h) (stands j part p from to us (chosen (rooted_at is) d.after) l there)) a
