-- Copies stand beside all that stood before them. Nothing of that is in them, so it stays when they are changed.
use Rattle.std.proofs.Common.{◌≡◌, ℕ, zero, suc, ◌+◌, ◌<◌, ◌≤◌, ◌||◌, cond, eqb, inl, Bool, true, false, List, [], ◌∷◌, ◌++◌, map, Ok, refl, ap, subst, sym, ◌∙◌, arith, ⊎_elim}
use Rattle.std.proofs.lemmas.Bool.Decides.{eqb_tells}
use Rattle.data_model.specs.Changes.{pick, renumbered}
use Rattle.data_model.specs.Trees.{Trees, no_trees, tree, append, count, size}
use Rattle.data_model.proofs.Weights.{weigh-pick}
use Rattle.node_table.proofs.Copies.{below-renumbered}
use Rattle.node_table.proofs.Puts.{count-without}
use Rattle.pending.specs.Compatible.{is_among}
use Rattle.pending.specs.Primitives.{PrimitiveTerm}
use Rattle.values.specs.declared.atom.Item.{Item}
use Rattle.values.specs.declared.atom.Item.TheVariants as item
use Rattle.query_grammar.specs.declared.ast.Binding.{Binding}
use Rattle.query_meaning.specs.Copies.{Copy, roots_of, with_copies, bound_to, and_copy, own_list}
use Rattle.query_meaning.specs.Copies as copies
use Rattle.query_meaning.specs.Environment.{Environment, Bound}
use Rattle.query_meaning.specs.Running.{Run, M, trees_of, each}
use Rattle.query_meaning.specs.Sequences.{Meaning}
use Rattle.update_meaning.specs.Brought.{new_trees}
use Rattle.update_meaning.specs.Changed.{chosen, rooted_at, with_changed}
use Rattle.meaning_laws.specs.Given.{AllStand}
use Rattle.meaning_laws.proofs.Changing.{IsRoot, AreOthers, root_there, root_before, root_after, root_stays, others_of, none_chosen, chosen_counted, chosen_few, same_chosen, with_changed_few, others_stand, first_stay}
use Rattle.meaning_laws.proofs.Copying.{with_work, with_copy, with_changes, then_from, makes_copy, has_own_list, copies_of}
use Rattle.meaning_laws.proofs.Fresh.{copy_new, stands_sound}
use Rattle.meaning_laws.proofs.Giving.{Good, GoodBinding, Knows, knows_up}
use Rattle.meaning_laws.proofs.Keeps.{Each}
use Rattle.meaning_laws.proofs.Sound.{IsSound, IsAbove, Ends, Holds, Any, Given, same_run, up, hold, same_value, both_counted, one_item}
use Rattle.meaning_laws.proofs.Steady.{none_beside}

-- what was made since the run r: these are roots of new trees, in which nothing is that stood then
pub record AreCopies (r b : Run) (cs : List Copy) : Type 0 where
  pub roots : Each (λ k. IsRoot k b.shelf.own.trees) (roots_of cs)
  pub new : (i : ℕ) → 0 < count i (trees_of r) → is_among (roots_of cs) i ≡ false
  pub apart : (i : ℕ) → 0 < count i (trees_of r) → count i (chosen (rooted_at (roots_of cs)) b.shelf.own.trees) ≡ 0

no_copies : (r : Run) → AreCopies r r []
no_copies r = record {
  roots = tt;
  new = λ i there. refl;
  apart = λ i there. ap (count i) (none_chosen [] r.shelf.own.trees (others_of [] r.shelf.own.trees (λ k root. refl)));
}

-- a new tree's root stands
stands_new : (k : ℕ) (run : Run) → IsRoot k run.shelf.own.trees → 0 < count k (trees_of run)
stands_new k run root = omega (arith, both_counted k run.shelf.lent.trees run.shelf.own.trees, root_there k run.shelf.own.trees root)

among_roots : (ks : List ℕ) (ts : Trees) → Each (λ k. IsRoot k ts) ks → (j : ℕ) → is_among ks j ≡ true → 0 < count j ts
among_roots [] ts roots j e = absurd (let f : ⊥ = cc in f)
among_roots (k ∷ ks) ts roots j e =
    ⊎_elim (λ t. subst (λ i. 0 < count i ts) (sym t.1) (root_there k ts roots.0))
    (λ t. among_roots ks ts roots.1 j (sym (ap (λ b. b || is_among ks j) t.0) ∙ e)) (eqb_tells j k)

roots_before : (ts us : Trees) (ks : List ℕ) → Each (λ k. IsRoot k ts) ks → Each (λ k. IsRoot k (append ts us)) ks
roots_before ts us [] h = tt
roots_before ts us (k ∷ ks) h = (root_before k ts us h.0, roots_before ts us ks h.1)

-- They stay what they are when more trees are made: a root that is among them stands once.
more_copies : (aside : ℕ → ℕ) (r a b : Run) (cs : List Copy) → AreCopies r a cs → IsAbove a b → IsSound aside b → AreCopies r b cs
more_copies aside r a b cs h k s = record {
  roots = subst (λ vs. Each (λ j. IsRoot j vs) is) (sym k.more.1) (roots_before ts us is h.roots);
  new = h.new;
  apart = λ i there. omega (arith, ap (λ vs. count i (chosen (rooted_at is) vs)) k.more.1, chosen_counted (rooted_at is) i ts us, h.apart i there, ap (count i) (none_chosen is us others));
}
  where
    is : List ℕ
    is = roots_of cs

    ts : Trees
    ts = a.shelf.own.trees

    us : Trees
    us = k.more.0

    whole : (j : ℕ) → count j (trees_of b) ≡ count j b.shelf.lent.trees + count j ts + count j us
    whole j = omega (arith, both_counted j b.shelf.lent.trees b.shelf.own.trees, ap (count j) k.more.1, both_counted j ts us)

    other : (j : ℕ) → IsRoot j us → (t : Bool) → is_among is j ≡ t → is_among is j ≡ false
    other j root false e = e
    other j root true e = absurd (omega (arith, among_roots is ts h.roots j e, root_there j us root, whole j, s.once j))

    others : AreOthers is us
    others = others_of is us (λ j root. other j root (is_among is j) refl)

-- One copy more.

copy_root : (n i : ℕ) (ts : Trees) → 0 < count i ts → IsRoot n (renumbered n (pick i ts))
copy_root n i ts there = of (pick i ts) (omega (arith, weigh-pick (λ j. cond (eqb i j) 1 0) i ts, count-without i ts, there))
  where
    of : (us : Trees) → 0 < count i us → IsRoot n (renumbered n us)
    of no_trees h = absurd (omega (arith, h))
    of (tree c bs cs rest) h = inl refl

not_there : (x : ℕ) → (0 < x → ⊥) → x ≡ 0
not_there zero h = refl
not_there (suc x) h = absurd (h (omega arith))

one_copy : (aside : ℕ → ℕ) (r a : Run) (cs : List Copy) (variable : List ℕ) (i : ℕ) → AreCopies r a cs → IsAbove r a → IsSound aside a → 0 < count i (trees_of a)
    → AreCopies r (with_copy i a) (record { variable = variable; root = a.shelf.own.next } ∷ cs)
one_copy aside r a cs variable i h k s there = record {
  roots = (root_after n ts us (copy_root n i (trees_of a) there), roots_before ts us is h.roots);
  new = λ j stood. ⊎_elim (λ t. absurd (let low = before j stood in let same = t.1 in omega (arith, low, same)))
      (λ t. ap (λ b. b || is_among is j) t.0 ∙ h.new j stood) (eqb_tells j n);
  apart = λ j stood. omega (
    arith,
    chosen_counted (rooted_at (n ∷ is)) j ts us,
    ap (count j) (same_chosen n is ts none),
    h.apart j stood,
    chosen_few (rooted_at (n ∷ is)) j us,
    below-renumbered n j (pick i (trees_of a)) (before j stood),
  );
}
  where
    n : ℕ
    n = a.shelf.own.next

    is : List ℕ
    is = roots_of cs

    ts : Trees
    ts = a.shelf.own.trees

    us : Trees
    us = renumbered n (pick i (trees_of a))

    before : (j : ℕ) → 0 < count j (trees_of r) → j < n
    before j stood = s.below j (let above = k.stand j stood in omega (arith, above))

    none : count n ts ≡ 0
    none = not_there (count n ts) (λ t. (let low = s.below n (omega (arith, both_counted n a.shelf.lent.trees ts, t)) in omega (arith, low)))

copy_stands : (aside : ℕ → ℕ) (run : Run) (i : ℕ) → IsSound aside run → 0 < count i (trees_of run)
    → Ends (List Item) Given (λ _. aside) run (item.Node run.shelf.own.next ∷ [], with_copy i run)
copy_stands aside run i s there =
    let n = run.shelf.own.next in
    let us = pick i (trees_of run) in
    stands_sound aside run (record (with_work i run) { shelf = record run.shelf { own = record run.shelf.own { next = n + size us } } }) (renumbered n us) n _ s
    (record { lent = refl; own = refl; primitives = refl; next = omega arith; made = copy_new n us }) (root_there n (renumbered n us) (copy_root n i (trees_of run) there)) refl

-- sound, above r and with copies made since then
abbrev Copied : (ℕ → ℕ) → Run → List Copy × Run → Type 0
Copied aside r = Ends (List Copy) (AreCopies r) (λ _. aside) r

and_copy_sound : (aside : ℕ → ℕ) (r : Run) (env : Environment) (b : Binding Meaning) (a : Run) (cs : List Copy) → Knows r env → Good b.source → Copied aside r (cs, a)
    → (q : List Copy × Run) → and_copy env cs b a ≡ Ok q → Copied aside r q
and_copy_sound aside r env b a cs h g z q e =
    then_from _ q _ (b.source env a) (λ p is k.
    (let one = ((g r env h).holds aside).passes a z.sound z.above p is in
    let m = makes_copy b.variable cs p.0 p.1 q k in
    let there = (subst (AllStand (trees_of p.1)) m.one one.value.stand).0 in
    let here = up z.above one.above in
    let stands = copy_stands aside p.1 m.node one.sound there in
    subst (Copied aside r) m.is (record {
      sound = stands.sound;
      above = up here stands.above;
      value = one_copy aside r p.1 cs b.variable m.node (more_copies aside r a p.1 cs z.value one.above one.sound) here one.sound there;
    }))) e

copies_sound : (aside : ℕ → ℕ) (r : Run) (env : Environment) (n : ℕ) (bs : List (Binding Meaning)) (a : Run) (cs : List Copy) → Knows r env → Each GoodBinding bs
    → Copied aside r (cs, a) → (q : List Copy × Run) → each (λ _. and_copy env) n bs cs a ≡ Ok q → Copied aside r q
copies_sound aside r env n [] a cs h gs z q e = subst (Copied aside r) (same_value (cs, a) q e) z
copies_sound aside r env n (b ∷ bs) a cs h gs z q e =
    then_from _ q _ (and_copy env cs b a) (λ p is k.
    copies_sound aside r env (suc n) bs p.1 p.0 h gs.1 (and_copy_sound aside r env b a cs h gs.0 z p is) q k) e

-- A list of its own: what the list before it brings is aside meanwhile, and what it brings itself is so afterwards.

abbrev With : (ℕ → ℕ) → List PrimitiveTerm → ℕ → ℕ
With aside ps i = aside i + count i (new_trees ps)

without_list : (aside : ℕ → ℕ) (run : Run) → IsSound aside run → IsSound (With aside run.primitives) (record run { primitives = [] })
without_list aside run s = record {
  once = λ i. omega (arith, s.once i);
  below = λ i there. s.below i (omega (arith, there));
  fresh = λ i there. s.fresh i (omega (arith, there));
  started = s.started;
  documents = s.documents;
}

with_list : (aside : ℕ → ℕ) (run : Run) (ps : List PrimitiveTerm) → IsSound (With aside ps) run → IsSound (With aside run.primitives) (record run { primitives = ps })
with_list aside run ps s = record {
  once = λ i. omega (arith, s.once i);
  below = λ i there. s.below i (omega (arith, there));
  fresh = λ i there. s.fresh i (omega (arith, there));
  started = s.started;
  documents = s.documents;
}

own_list_sound : (aside : ℕ → ℕ) (run : Run) (m : M (List Item)) → Holds run (List Item) Given m → IsSound aside run
    → (q : List PrimitiveTerm × Run) → own_list m run ≡ Ok q → Ends (List PrimitiveTerm) Any (With aside) run q
own_list_sound aside run m h s q e =
    let z = has_own_list m run q e in
    let same : IsAbove run (record run { primitives = [] }) = record { stand = λ i there. there; more = none_beside run.shelf.own.trees } in
    let ends = (h.holds (With aside run.primitives)).passes (record run { primitives = [] }) (without_list aside run s) same z.ended z.from in
    subst (Ends (List PrimitiveTerm) Any (With aside) run) z.is (record {
      sound = with_list aside z.ended.1 run.primitives ends.sound;
      above = record { stand = ends.above.stand; more = ends.above.more };
      value = tt;
    })

-- Copies are changed.

changed_sound : (aside : ℕ → ℕ) (is : List ℕ) (ps : List PrimitiveTerm) (run : Run) → IsSound (With aside ps) run → IsSound aside (with_changes is ps run)
changed_sound aside is ps run s = record {
  once = λ i. omega (arith, few i, before i, after i, s.once i);
  below = λ i there. s.below i (omega (arith, few i, before i, after i, there));
  fresh = λ i there. s.fresh i (omega (arith, few i, there));
  started = s.started;
  documents = s.documents;
}
  where
    before : (i : ℕ) → count i (trees_of run) ≡ count i run.shelf.lent.trees + count i run.shelf.own.trees
    before i = both_counted i run.shelf.lent.trees run.shelf.own.trees

    after : (i : ℕ) → count i (trees_of (with_changes is ps run)) ≡ count i run.shelf.lent.trees + count i (with_changed (rooted_at is) ps run.shelf.own.trees)
    after i = both_counted i run.shelf.lent.trees (with_changed (rooted_at is) ps run.shelf.own.trees)

    few : (i : ℕ) → count i (with_changed (rooted_at is) ps run.shelf.own.trees) ≤ count i run.shelf.own.trees + count i (new_trees ps)
    few = with_changed_few is ps run.shelf.own.trees (λ j. omega (arith, before j, s.once j))

-- what stood before is in none of them, and stands still
changed_above : (r b : Run) (cs : List Copy) (ps : List PrimitiveTerm) → AreCopies r b cs → IsAbove r b → IsAbove r (with_changes (roots_of cs) ps b)
changed_above r b cs ps h k = record {
  stand = λ i there. (let stood = k.stand i there in
      omega (
        arith,
        stood,
        both_counted i b.shelf.lent.trees b.shelf.own.trees,
        both_counted i b.shelf.lent.trees (with_changed (rooted_at (roots_of cs)) ps b.shelf.own.trees),
        others_stand (roots_of cs) ps b.shelf.own.trees i (h.apart i there),
      ));
  more = (
    with_changed (rooted_at (roots_of cs)) ps k.more.0,
    ap (with_changed (rooted_at (roots_of cs)) ps) k.more.1 ∙ first_stay (roots_of cs) ps r.shelf.own.trees k.more.0 others,
  );
}
  where
    others : AreOthers (roots_of cs) r.shelf.own.trees
    others = others_of (roots_of cs) r.shelf.own.trees (λ j root. h.new j (stands_new j r root))

roots_stay : (is : List ℕ) (ps : List PrimitiveTerm) (run : Run) (ks : List ℕ) → Each (λ k. IsRoot k run.shelf.own.trees) ks
    → Each (λ k. IsRoot k (with_changes is ps run).shelf.own.trees) ks
roots_stay is ps run [] h = tt
roots_stay is ps run (k ∷ ks) h = (root_stays is ps k run.shelf.own.trees h.0, roots_stay is ps run ks h.1)

-- The whole.

-- the variables of the copies are known
knows_copies : (run : Run) (env : Environment) (cs : List Copy) → Each (λ k. IsRoot k run.shelf.own.trees) (roots_of cs) → Knows run env → Knows run (with_copies cs env)
knows_copies run env cs roots h = record { focus = h.focus; variables = variables cs roots }
  where
    variables : (cs : List Copy) → Each (λ k. IsRoot k run.shelf.own.trees) (roots_of cs) → Each (λ (b : Bound). Given run b.items) (map bound_to cs ++ env.variables)
    variables [] roots = h.variables
    variables (c ∷ cs) roots = (one_item (item.Node c.root) (stands_new c.root run roots.0), variables cs roots.1)

-- after the copies are made: they are changed by a list of its own, and the result is evaluated
asked : (aside : ℕ → ℕ) (changes result : Meaning) (env : Environment) (run : Run) (made : List Copy × Run) (listed : List PrimitiveTerm × Run) (p : List Item × Run)
    → Good changes → Good result → Knows run env → Copied aside run made → own_list (changes (with_copies made.0 env)) made.1 ≡ Ok listed
    → result (with_copies made.0 env) (with_changes (roots_of made.0) listed.0 listed.1) ≡ Ok p → Ends (List Item) Given (λ _. aside) run p
asked aside changes result env run made listed p gc gr h z lists gives =
    let inner = with_copies made.0 env in
    let is = roots_of made.0 in
    let known = knows_copies made.1 env made.0 z.value.roots (knows_up run made.1 env z.above h) in
    let ends = own_list_sound aside made.1 (changes inner) (gc made.1 inner known) z.sound listed lists in
    let here = more_copies (With aside listed.0) run made.1 listed.1 made.0 z.value ends.above ends.sound in
    let after = with_changes is listed.0 listed.1 in
    let above = changed_above run listed.1 made.0 listed.0 here (up z.above ends.above) in
    let known_after = knows_copies after env made.0 (roots_stay is listed.0 listed.1 is here.roots) (knows_up run after env above h) in
    let last = ((gr after inner known_after).holds aside).passes after (changed_sound aside is listed.0 listed.1 ends.sound) same_run p gives in
    record { sound = last.sound; above = up above last.above; value = last.value }

pub copy : (bs : List (Binding Meaning)) (changes result : Meaning) → Each GoodBinding bs → Good changes → Good result → Good (copies.copy bs changes result)
copy bs changes result gs gc gr r env h = hold (λ aside run s k p e.
    (let z = copies_of bs changes result env run p e in
    let known = knows_up r run env k h in
    let start : Copied aside run ([], run) = record { sound = s; above = same_run; value = no_copies run } in
    let made = copies_sound aside run env 0 bs run [] known gs start z.made z.makes in
    asked aside changes result env run z.made z.listed p gc gr known made z.lists z.gives))
