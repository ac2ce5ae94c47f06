-- What is changed in some trees is changed in the whole, and what isn't in them stays.
use Rattle.std.proofs.Common.{◌≡◌, ℕ, ◌+◌, ◌<◌, Bool, true, false, cond, eqb, List, Option, Some, None, refl, ap, sym, ◌∙◌, subst, arith, ⊎_elim}
use Rattle.std.proofs.lemmas.Bool.Decides.{eqb_tells}
use Rattle.data_model.specs.Changes.{with_content, with_part}
use Rattle.data_model.specs.Trees.{Trees, no_trees, tree, Content, count, size, weigh, find, find_below}
use Rattle.data_model.specs.declared.node.Part.{Part}
use Rattle.data_model.specs.declared.node.Part.TheVariants.{Attributes, Children}
use Rattle.data_model.proofs.Climbs.{find-absent, any-tells}
use Rattle.trees.specs.Drafts.{DraftTerm}
use Rattle.chosen_drafts.specs.Inside.{AreTrees}
use Rattle.pending.specs.Compatible.{is_among}
use Rattle.update_meaning.specs.Changed.{rooted_at, chosen, in_places}
use Rattle.chosen_drafts.specs.Chosen.{others}

-- ---- counts
pub weigh-both : (is : List ℕ) (w : ℕ → ℕ) (ts : Trees) → weigh w ts ≡ weigh w (chosen (rooted_at is) ts) + weigh w (others is ts)
weigh-both is w no_trees = refl
weigh-both is w (tree c bs cs rest) = by (weigh-both is w rest) (is_among is c.identity) refl
  where
    by : weigh w rest ≡ weigh w (chosen (rooted_at is) rest) + weigh w (others is rest) → (b : Bool) → is_among is c.identity ≡ b → weigh w (tree c bs cs rest) ≡ weigh w (chosen (rooted_at is) (tree c bs cs rest)) + weigh w (others is (tree c bs cs rest))
    by h true e = rw e (omega (arith, h))
    by h false e = rw e (omega (arith, h))

pub counts-both : (is : List ℕ) (i : ℕ) (ts : Trees) → count i ts ≡ count i (chosen (rooted_at is) ts) + count i (others is ts)
counts-both is i ts = weigh-both is (λ j. cond (eqb i j) 1 0) ts

pub sizes-both : (is : List ℕ) (ts : Trees) → size ts ≡ size (chosen (rooted_at is) ts) + size (others is ts)
sizes-both is ts = weigh-both is (λ _. 1) ts

-- ---- a node of these trees, found in the whole
pub found-in : (is : List ℕ) (o : Option ℕ) (i : ℕ) (ts : Trees) → count i (others is ts) ≡ 0 → find_below o i (chosen (rooted_at is) ts) ≡ find_below o i ts
found-in is o i no_trees h = refl
found-in is o i (tree c bs cs rest) h = by (found-in is o i rest) (is_among is c.identity) refl h
  where
    by : (count i (others is rest) ≡ 0 → find_below o i (chosen (rooted_at is) rest) ≡ find_below o i rest) → (b : Bool) → is_among is c.identity ≡ b → count i (others is (tree c bs cs rest)) ≡ 0
        → find_below o i (chosen (rooted_at is) (tree c bs cs rest)) ≡ find_below o i (tree c bs cs rest)
    by k true e z = rw e (let y = rw e at z in rw (k y) refl)
    by k false e z = (let y = rw e at z in
        rw e (⊎_elim (λ t. (let x = rw t.0 at y in absurd (omega arith)))
        (λ t. (let x = rw t.0 at y in rw (t.0, find-absent (Some c.identity) i bs (omega arith), find-absent (Some c.identity) i cs (omega arith)) (k (omega arith)))) (eqb_tells i c.identity)))

-- ---- what a node says
pub chosen-content : (is : List ℕ) (i : ℕ) (h : Content → Content) → ((c : Content) → (h c).identity ≡ c.identity) → (ts : Trees) → chosen (rooted_at is) (with_content i h ts) ≡ with_content i h (chosen (rooted_at is) ts)
chosen-content is i h same no_trees = refl
chosen-content is i h same (tree c bs cs rest) = by (chosen-content is i h same rest) (is_among is c.identity) refl (eqb i c.identity) refl
  where
    by : chosen (rooted_at is) (with_content i h rest) ≡ with_content i h (chosen (rooted_at is) rest) → (b : Bool) → is_among is c.identity ≡ b → (d : Bool) → eqb i c.identity ≡ d
        → chosen (rooted_at is) (with_content i h (tree c bs cs rest)) ≡ with_content i h (chosen (rooted_at is) (tree c bs cs rest))
    by k true e true f = rw (f, ap (is_among is) (same c) ∙ e) (rw e (rw f (rw k refl)))
    by k true e false f = rw (f, e) (rw f (rw k refl))
    by k false e true f = rw (f, ap (is_among is) (same c) ∙ e) (rw e k)
    by k false e false f = rw (f, e) k

-- ---- what a node lists
pub chosen-part : (is : List ℕ) (part : Part) (p : ℕ) (g : Trees → Trees) (ts : Trees) → chosen (rooted_at is) (with_part part p g ts) ≡ with_part part p g (chosen (rooted_at is) ts)
chosen-part is part p g no_trees = refl
chosen-part is part p g (tree c bs cs rest) = by (chosen-part is part p g rest) (is_among is c.identity) refl
  where
    by : chosen (rooted_at is) (with_part part p g rest) ≡ with_part part p g (chosen (rooted_at is) rest) → (b : Bool) → is_among is c.identity ≡ b → chosen (rooted_at is) (with_part part p g (tree c bs cs rest)) ≡ with_part part p g (chosen (rooted_at is) (tree c bs cs rest))
    by k true e = rw e (rw k refl)
    by k false e = rw e k

pub content-absent : (i : ℕ) (h : Content → Content) (ts : Trees) → count i ts ≡ 0 → with_content i h ts ≡ ts
content-absent i h no_trees z = refl
content-absent i h (tree c bs cs rest) z =
    ⊎_elim (λ t. (let y = rw t.0 at z in absurd (omega arith)))
    (λ t. (let y = rw t.0 at z in rw (t.0, content-absent i h bs (omega arith), content-absent i h cs (omega arith), content-absent i h rest (omega arith)) refl)) (eqb_tells i c.identity)

pub part-absent : (part : Part) (p : ℕ) (g : Trees → Trees) (ts : Trees) → count p ts ≡ 0 → with_part part p g ts ≡ ts
part-absent part p g no_trees h = refl
part-absent Attributes p g (tree c bs cs rest) h =
    ⊎_elim (λ t. (let z = rw t.0 at h in absurd (omega arith)))
    (λ t. (let z = rw t.0 at h in rw (t.0, part-absent Attributes p g bs (omega arith), part-absent Attributes p g cs (omega arith), part-absent Attributes p g rest (omega arith)) refl)) (eqb_tells p c.identity)
part-absent Children p g (tree c bs cs rest) h =
    ⊎_elim (λ t. (let z = rw t.0 at h in absurd (omega arith)))
    (λ t. (let z = rw t.0 at h in rw (t.0, part-absent Children p g bs (omega arith), part-absent Children p g cs (omega arith), part-absent Children p g rest (omega arith)) refl)) (eqb_tells p c.identity)

-- ---- put back in their places
pub content-placed : (is : List ℕ) (i : ℕ) (h : Content → Content) (ts us : Trees) → count i (others is ts) ≡ 0 → with_content i h (in_places (rooted_at is) ts us) ≡ in_places (rooted_at is) ts (with_content i h us)
content-placed is i h no_trees us z = refl
content-placed is i h (tree c bs cs rest) us z = by (content-placed is i h rest) us (is_among is c.identity) refl z
  where
    by : ((vs : Trees) → count i (others is rest) ≡ 0 → with_content i h (in_places (rooted_at is) rest vs) ≡ in_places (rooted_at is) rest (with_content i h vs)) → (us : Trees) → (b : Bool) → is_among is c.identity ≡ b → count i (others is (tree c bs cs rest)) ≡ 0
        → with_content i h (in_places (rooted_at is) (tree c bs cs rest) us) ≡ in_places (rooted_at is) (tree c bs cs rest) (with_content i h us)
    by k no_trees true e z = (let y = rw e at z in rw e (k no_trees y))
    by k (tree d es ds more) true e z = (let y = rw e at z in rw e (rw (k more y) refl))
    by k us false e z = (let y = rw e at z in
        rw e (⊎_elim (λ t. (let x = rw t.0 at y in absurd (omega arith)))
        (λ t. (let x = rw t.0 at y in rw (t.0, content-absent i h bs (omega arith), content-absent i h cs (omega arith), k us (omega arith)) refl)) (eqb_tells i c.identity)))

pub part-placed : (is : List ℕ) (part : Part) (p : ℕ) (g : Trees → Trees) (ts us : Trees) → count p (others is ts) ≡ 0 → with_part part p g (in_places (rooted_at is) ts us) ≡ in_places (rooted_at is) ts (with_part part p g us)
part-placed is part p g no_trees us z = refl
part-placed is part p g (tree c bs cs rest) us z = by (part-placed is part p g rest) us (is_among is c.identity) refl z
  where
    stays : (part : Part) (X : Trees) → eqb p c.identity ≡ false → count p bs ≡ 0 → count p cs ≡ 0 → with_part part p g (tree c bs cs X) ≡ tree c bs cs (with_part part p g X)
    stays Attributes X n x y = rw (n, part-absent Attributes p g bs x, part-absent Attributes p g cs y) refl
    stays Children X n x y = rw (n, part-absent Children p g bs x, part-absent Children p g cs y) refl

    by : ((vs : Trees) → count p (others is rest) ≡ 0 → with_part part p g (in_places (rooted_at is) rest vs) ≡ in_places (rooted_at is) rest (with_part part p g vs)) → (us : Trees) → (b : Bool) → is_among is c.identity ≡ b → count p (others is (tree c bs cs rest)) ≡ 0
        → with_part part p g (in_places (rooted_at is) (tree c bs cs rest) us) ≡ in_places (rooted_at is) (tree c bs cs rest) (with_part part p g us)
    by k no_trees true e z = (let y = rw e at z in rw e (k no_trees y))
    by k (tree d es ds more) true e z = (let y = rw e at z in rw e (rw (k more y) refl))
    by k us false e z = (let y = rw e at z in
        rw e (⊎_elim (λ t. (let x = rw t.0 at y in absurd (omega arith)))
        (λ t. (let x = rw t.0 at y in stays part (in_places (rooted_at is) rest us) t.0 (omega arith) (omega arith) ∙ ap (tree c bs cs) (k us (omega arith)))) (eqb_tells p c.identity)))

pub same-placed : (is : List ℕ) (ts : Trees) → in_places (rooted_at is) ts (chosen (rooted_at is) ts) ≡ ts
same-placed is no_trees = refl
same-placed is (tree c bs cs rest) = by (same-placed is rest) (is_among is c.identity) refl
  where
    by : in_places (rooted_at is) rest (chosen (rooted_at is) rest) ≡ rest → (b : Bool) → is_among is c.identity ≡ b → in_places (rooted_at is) (tree c bs cs rest) (chosen (rooted_at is) (tree c bs cs rest)) ≡ tree c bs cs rest
    by k true e = rw e (rw k refl)
    by k false e = rw e (rw k refl)

-- ---- the others
pub others-content : (is : List ℕ) (i : ℕ) (h : Content → Content) → ((c : Content) → (h c).identity ≡ c.identity) → (ts : Trees) → others is (with_content i h ts) ≡ with_content i h (others is ts)
others-content is i h same no_trees = refl
others-content is i h same (tree c bs cs rest) = by (others-content is i h same rest) (is_among is c.identity) refl (eqb i c.identity) refl
  where
    by : others is (with_content i h rest) ≡ with_content i h (others is rest) → (b : Bool) → is_among is c.identity ≡ b → (d : Bool) → eqb i c.identity ≡ d
        → others is (with_content i h (tree c bs cs rest)) ≡ with_content i h (others is (tree c bs cs rest))
    by k true e true f = rw (f, ap (is_among is) (same c) ∙ e) (rw e k)
    by k true e false f = rw (f, e) k
    by k false e true f = rw (f, ap (is_among is) (same c) ∙ e) (rw e (rw f (rw k refl)))
    by k false e false f = rw (f, e) (rw f (rw k refl))

pub others-part : (is : List ℕ) (part : Part) (p : ℕ) (g : Trees → Trees) (ts : Trees) → others is (with_part part p g ts) ≡ with_part part p g (others is ts)
others-part is part p g no_trees = refl
others-part is part p g (tree c bs cs rest) = by (others-part is part p g rest) (is_among is c.identity) refl
  where
    by : others is (with_part part p g rest) ≡ with_part part p g (others is rest) → (b : Bool) → is_among is c.identity ≡ b → others is (with_part part p g (tree c bs cs rest)) ≡ with_part part p g (others is (tree c bs cs rest))
    by k true e = rw e k
    by k false e = rw e (rw k refl)

-- ---- in the draft
pub seen : (is keys : List ℕ) (left i : ℕ) (d : DraftTerm) → AreTrees is keys left d → is_among keys i ≡ true → find i (chosen (rooted_at is) d.after) ≡ find i d.after
seen is keys left i d a h = found-in is None i d.after (ap (count i) a.same ∙ a.apart i h)

pub unseen : (is keys : List ℕ) (left i : ℕ) (d : DraftTerm) → AreTrees is keys left d → is_among keys i ≡ false → find i (chosen (rooted_at is) d.after) ≡ None
unseen is keys left i d a h = ⊎_elim (λ t. absurd (let z : true ≡ false = sym (a.noted i t.1) ∙ h in cc)) (λ t. find-absent None i (chosen (rooted_at is) d.after) t.1) (any-tells (count i (chosen (rooted_at is) d.after)))

weigh-content : (w : ℕ → ℕ) (i : ℕ) (h : Content → Content) → ((c : Content) → (h c).identity ≡ c.identity) → (ts : Trees) → weigh w (with_content i h ts) ≡ weigh w ts
weigh-content w i h same no_trees = refl
weigh-content w i h same (tree c bs cs rest) =
    let b = weigh-content w i h same bs in
    let d = weigh-content w i h same cs in
    let r = weigh-content w i h same rest in
    ⊎_elim (λ t. rw t.0 (rw (same c) (omega arith))) (λ t. rw t.0 (omega arith)) (eqb_tells i c.identity)

pub content-kept : (is keys : List ℕ) (left i : ℕ) (h : Content → Content) → ((c : Content) → (h c).identity ≡ c.identity) → (d : DraftTerm) → is_among keys i ≡ true → AreTrees is keys left d
    → AreTrees is keys left (record d { after = with_content i h d.after })
content-kept is keys left i h same d among a = record {
  noted = λ j there. a.noted j (subst (λ n. 0 < n) (ap (count j) (chosen-content is i h same d.after) ∙ weigh-content (λ k. cond (eqb j k) 1 0) i h same (chosen (rooted_at is) d.after)) there);
  apart = a.apart;
  same = others-content is i h same d.after ∙ ap (with_content i h) a.same ∙ content-absent i h (others is d.before.trees) (a.apart i among);
  placed =
      ap (with_content i h) a.placed ∙ content-placed is i h d.before.trees (chosen (rooted_at is) d.after) (a.apart i among) ∙ ap (in_places (rooted_at is) d.before.trees) (sym (chosen-content is i h same d.after));
  counted = a.counted;
}

-- a list of a node of these trees becomes another, of which all nodes are noted
pub part-kept : (is keys : List ℕ) (left : ℕ) (part : Part) (p : ℕ) (g : Trees → Trees) (d : DraftTerm) → is_among keys p ≡ true → ((j : ℕ) → 0 < count j (with_part part p g (chosen (rooted_at is) d.after)) → is_among keys j ≡ true)
    → AreTrees is keys left d → AreTrees is keys left (record d { after = with_part part p g d.after })
part-kept is keys left part p g d among all a = record {
  noted = λ j there. all j (subst (λ us. 0 < count j us) (chosen-part is part p g d.after) there);
  apart = a.apart;
  same = others-part is part p g d.after ∙ ap (with_part part p g) a.same ∙ part-absent part p g (others is d.before.trees) (a.apart p among);
  placed = ap (with_part part p g) a.placed ∙ part-placed is part p g d.before.trees (chosen (rooted_at is) d.after) (a.apart p among) ∙ ap (in_places (rooted_at is) d.before.trees) (sym (chosen-part is part p g d.after));
  counted = a.counted;
}

-- more nodes are noted, none of which stands in the other trees
pub noted-more : (is keys more : List ℕ) (left : ℕ) (d : DraftTerm) → ((i : ℕ) → is_among keys i ≡ true → is_among more i ≡ true) → ((i : ℕ) → is_among more i ≡ true → count i (others is d.before.trees) ≡ 0)
    → AreTrees is keys left d → AreTrees is more left d
noted-more is keys more left d grows apart a = record { noted = λ i there. grows i (a.noted i there); apart = apart; same = a.same; placed = a.placed; counted = a.counted }

-- before anything is changed
pub drafted : (is keys : List ℕ) (d : DraftTerm) → d.after ≡ d.before.trees → ((i : ℕ) → 0 < count i (chosen (rooted_at is) d.after) → is_among keys i ≡ true) → ((i : ℕ) → is_among keys i ≡ true → count i (others is d.before.trees) ≡ 0)
    → AreTrees is keys (size (others is d.before.trees)) d
drafted is keys d e noted apart = record {
  noted = noted;
  apart = apart;
  same = ap (others is) e;
  placed = subst (λ (ts : Trees). ts ≡ in_places (rooted_at is) d.before.trees (chosen (rooted_at is) ts)) (sym e) (sym (same-placed is d.before.trees));
  counted = refl;
}

-- the draft that is to be settled
pub put_back : (is keys : List ℕ) (left : ℕ) (d : DraftTerm) → AreTrees is keys left d → d ≡ record d { after = in_places (rooted_at is) d.before.trees (chosen (rooted_at is) d.after) }
put_back is keys left d a = ap (λ (ts : Trees). record d { after = ts }) a.placed
