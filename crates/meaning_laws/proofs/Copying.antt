-- Copies are made, changed and asked: step by step, and what that keeps.
use Rattle.std.proofs.Common.{◌≡◌, ℕ, suc, ◌+◌, ◌-◌, ◌/◌, ◌≤◌, Bool, true, false, nat_le, if◌then◌else◌, List, [], ◌∷◌, Option, Some, None, Result, Ok, Err, refl, ap, subst, sym}
use Rattle.data_model.specs.Changes.{pick, renumbered}
use Rattle.data_model.specs.Trees.{Trees, append, bytes_in, size}
use Rattle.pending.specs.Compatible.{conflict}
use Rattle.pending.specs.Primitives.{PrimitiveTerm}
use Rattle.fault_codes.specs.declared.code.Code.{Code}
use Rattle.fault_codes.specs.declared.code.Code.TheVariants.{PXQ0002, PXQ0003, XUTY0013, XUDY0014}
use Rattle.values.specs.declared.atom.Item.{Item}
use Rattle.values.specs.declared.atom.Item.TheVariants as item
use Rattle.query_grammar.specs.declared.ast.Binding.{Binding}
use Rattle.query_meaning.specs.Copies.{Copy, roots_of, with_copies, one_node, copy_of, and_copy, copies, own_list, target_these, becoming, compatible, modified, copy}
use Rattle.query_meaning.specs.Environment.{Environment}
use Rattle.query_meaning.specs.Running.{Run, M, trees_of, pure, and_then, ◌>>=◌, seen, each, new_nodes, standing, most_nodes}
use Rattle.query_meaning.specs.Sequences.{Meaning}
use Rattle.query_meaning.specs.Updates.{must}
use Rattle.update_meaning.specs.Changed.{chosen, rooted_at, updated_chosen, with_changed, or_code, applied_to_copies}
use Rattle.update_meaning.specs.Results.{with_trees}
use Rattle.meaning_laws.proofs.Forms as form
use Rattle.meaning_laws.proofs.Keeps.{Keeps, Each, AreFrom, IsQuiet, IsSteady, no_value}
use Rattle.meaning_laws.proofs.Sound.{same_value}
use Rattle.meaning_laws.proofs.Steady.{Whichever}

-- where two steps come to a value, the first does
pub then_from : {A B : Type 0} (f : A → M B) (p : B × Run) (Goal : Type 0) (r : Result (A × Run) Code)
    → ((q : A × Run) → r ≡ Ok q → f q.0 q.1 ≡ Ok p → Goal) → and_then r f ≡ Ok p → Goal
then_from f p Goal (Ok q) rest h = rest q refl h
then_from f p Goal (Err code) rest h = absurd (no_value code p h)

-- A copy that is made.

-- the run in which the work of the copy of a node is taken
abbrev pub with_work : ℕ → Run → Run
with_work i run = record run { work = run.work - bytes_in (pick i (trees_of run)) / 16 }

-- the run in which the copy of a node stands, with the next identities
abbrev pub with_copy : ℕ → Run → Run
with_copy i run = record (with_work i run) {
  shelf = record run.shelf {
    own = record run.shelf.own {
      trees = append run.shelf.own.trees (renumbered run.shelf.own.next (pick i (trees_of run)));
      next = run.shelf.own.next + size (pick i (trees_of run));
    };
  };
}

-- one node is copied, and there is room for the copy
pub record MakesCopy (variable : List ℕ) (cs : List Copy) (items : List Item) (run : Run) (q : List Copy × Run) : Type 0 where
  pub node : ℕ
  pub one : items ≡ item.Node node ∷ []
  pub room : nat_le (run.shelf.own.next + size (pick node (trees_of run))) (run.shelf.lent.next + most_nodes) ≡ true
  pub is : (record { variable = variable; root = run.shelf.own.next } ∷ cs, with_copy node run) ≡ q

pub makes_copy : (variable : List ℕ) (cs : List Copy) (items : List Item) (run : Run) (q : List Copy × Run)
    → and_then (one_node items run) (λ i. copy_of i >>= (λ k. pure (record { variable = variable; root = k } ∷ cs))) ≡ Ok q
    → MakesCopy variable cs items run q
makes_copy variable cs [] run q h = absurd (no_value XUTY0013 q h)
makes_copy variable cs (item.Atomic a ∷ items) run q h = absurd (no_value XUTY0013 q h)
makes_copy variable cs (item.Node i ∷ x ∷ items) run q h = absurd (no_value XUTY0013 q h)
makes_copy variable cs (item.Node i ∷ []) run q h = worked (nat_le (bytes_in us / 16) run.work) h
  where
    us : Trees
    us = pick i (trees_of run)

    of : (b : Bool) → nat_le (run.shelf.own.next + size us) (run.shelf.lent.next + most_nodes) ≡ b
        → and_then
        (and_then
        (if b
        then Ok (run.shelf.own.next, record (with_work i run) { shelf = record run.shelf { own = record run.shelf.own { next = run.shelf.own.next + size us } } })
        else Err PXQ0003)
        (λ n. standing (renumbered n us) >>= (λ _. pure n)))
        (λ k. pure (record { variable = variable; root = k } ∷ cs)) ≡ Ok q → MakesCopy variable cs (item.Node i ∷ []) run q
    of true e h = record { node = i; one = refl; room = e; is = same_value (record { variable = variable; root = run.shelf.own.next } ∷ cs, with_copy i run) q h }
    of false e h = absurd (no_value PXQ0003 q h)

    worked : (b : Bool)
        → and_then
        (and_then
        (if b then Ok (tt, with_work i run) else Err PXQ0002)
        (λ (_ : Unit {0}). seen (pick i) >>= (λ vs. new_nodes (size vs) >>= (λ n. standing (renumbered n vs) >>= (λ _. pure n)))))
        (λ k. pure (record { variable = variable; root = k } ∷ cs)) ≡ Ok q → MakesCopy variable cs (item.Node i ∷ []) run q
    worked true h = of (nat_le (run.shelf.own.next + size us) (run.shelf.lent.next + most_nodes)) refl h
    worked false h = absurd (no_value PXQ0002 q h)

-- A list of primitives of its own.

-- the list before it is there again after it
pub record HasOwnList (m : M (List Item)) (run : Run) (q : List PrimitiveTerm × Run) : Type 0 where
  pub ended : List Item × Run
  pub from : m (record run { primitives = [] }) ≡ Ok ended
  pub is : (ended.1.primitives, record ended.1 { primitives = run.primitives }) ≡ q

pub has_own_list : (m : M (List Item)) (run : Run) (q : List PrimitiveTerm × Run) → own_list m run ≡ Ok q → HasOwnList m run q
has_own_list m run q h =
    then_from _ q _ (m (record run { primitives = [] }))
    (λ p e k. record { ended = p; from = e; is = same_value (p.1.primitives, record p.1 { primitives = run.primitives }) q k }) h

pub own_list_keeps : (R : Run → Run → Type 0) → IsSteady R → (m : M (List Item)) → Keeps R (List Item) m → Keeps R (List PrimitiveTerm) (own_list m)
own_list_keeps R s m k = record { kept = kept }
  where
    kept : (run : Run) (q : List PrimitiveTerm × Run) → own_list m run ≡ Ok q → R run q.1
    kept run q h =
        let z = has_own_list m run q h in
        subst (λ (p : List PrimitiveTerm × Run). R run p.1) z.is (s.owned run z.ended.1 (k.kept (record run { primitives = [] }) z.ended z.from))

-- whatever the list is, what does not ask for it is kept
pub own_list_quiet : (R : Run → Run → Type 0) (m : M (List Item)) → Keeps (Whichever R) (List Item) m → Keeps R (List PrimitiveTerm) (own_list m)
own_list_quiet R m k = record { kept = kept }
  where
    kept : (run : Run) (q : List PrimitiveTerm × Run) → own_list m run ≡ Ok q → R run q.1
    kept run q h =
        let z = has_own_list m run q h in
        subst (λ (p : List PrimitiveTerm × Run). R run p.1) z.is (k.kept (record run { primitives = [] }) z.ended z.from run.primitives)

-- Copies that are changed.

-- the run in which they are
abbrev pub with_changes : List ℕ → List PrimitiveTerm → Run → Run
with_changes is ps run = record run {
  shelf = record run.shelf { own = record run.shelf.own { trees = with_changed (rooted_at is) ps run.shelf.own.trees } };
}

pub modifies : (is : List ℕ) (ps : List PrimitiveTerm) (run : Run) (p : Unit {0} × Run) → modified is ps run ≡ Ok p → with_changes is ps run ≡ p.1
modifies is ps run p h = of_targets (target_these (chosen (rooted_at is) run.shelf.own.trees) ps) h
  where
    of_result : (r : Result Trees Code)
        → becoming (with_trees run.shelf.own run.shelf.own.next (or_code r (with_changed (rooted_at is) ps run.shelf.own.trees))) run ≡ Ok p
        → with_changes is ps run ≡ p.1
    of_result (Ok us) h = ap (λ (q : Unit {0} × Run). q.1) (same_value (tt, with_changes is ps run) p h)
    of_result (Err code) h = absurd (no_value code p h)

    of_conflict : (o : Option Code) → and_then (compatible o run) (λ _. becoming (applied_to_copies is ps run.shelf.own.next run.shelf.own)) ≡ Ok p
        → with_changes is ps run ≡ p.1
    of_conflict None h = of_result (updated_chosen (rooted_at is) ps run.shelf.own.trees) h
    of_conflict (Some code) h = absurd (no_value code p h)

    of_targets : (b : Bool)
        → and_then (must b XUDY0014 run) (λ _. compatible (conflict ps) >>= (λ _. becoming (applied_to_copies is ps run.shelf.own.next run.shelf.own))) ≡ Ok p
        → with_changes is ps run ≡ p.1
    of_targets true h = of_conflict (conflict ps) h
    of_targets false h = absurd (no_value XUDY0014 p h)

-- The whole.

-- copies are made, a list of its own is given, and with the changes that it says the result is evaluated
pub record Copies (bs : List (Binding Meaning)) (changes result : Meaning) (env : Environment) (run : Run) (p : List Item × Run) : Type 0 where
  pub made : List Copy × Run
  pub listed : List PrimitiveTerm × Run
  pub makes : copies bs env run ≡ Ok made
  pub lists : own_list (changes (with_copies made.0 env)) made.1 ≡ Ok listed
  pub gives : result (with_copies made.0 env) (with_changes (roots_of made.0) listed.0 listed.1) ≡ Ok p

pub copies_of : (bs : List (Binding Meaning)) (changes result : Meaning) (env : Environment) (run : Run) (p : List Item × Run)
    → copy bs changes result env run ≡ Ok p → Copies bs changes result env run p
copies_of bs changes result env run p h =
    then_from _ p _ (copies bs env run) (λ made makes g.
    then_from _ p _ (own_list (changes (with_copies made.0 env)) made.1) (λ listed lists k.
    then_from _ p _ (modified (roots_of made.0) listed.0 listed.1) (λ after e gives. record {
      made = made;
      listed = listed;
      makes = makes;
      lists = lists;
      gives = subst (λ (r : Run). result (with_copies made.0 env) r ≡ Ok p) (sym (modifies (roots_of made.0) listed.0 listed.1 after e)) gives;
    }) k) g) h

-- What is kept, where the next identity is.
module _ (R : Run → Run → Type 0) (s : IsQuiet R) (later : (a b : Run) → R a b → a.shelf.own.next ≤ b.shelf.own.next) where
  -- from the run first on, and the roots of the copies have later identities
  abbrev Later : Run → List Copy × Run → Type 0
  Later first q = R first q.1 × AreFrom first.shelf.own.next (roots_of q.0)

  copy_made : (b : Binding Meaning) → form.Good R s b.source → (env : Environment) (first : Run) (cs : List Copy) (run : Run) → Later first (cs, run)
      → (q : List Copy × Run) → and_copy env cs b run ≡ Ok q → Later first q
  copy_made b g env first cs run from q h =
      then_from _ q _ (b.source env run) (λ p e k.
      (let m = makes_copy b.variable cs p.0 p.1 q k in
      let here = s.chained first run p.1 from.0 ((g env).kept run p e) in
      let us = pick m.node (trees_of p.1) in
      let n = p.1.shelf.own.next in
      let begun = with_work m.node p.1 in
      let worked = s.worked p.1 begun.work in
      let numbered = s.numbered begun (size us) m.room in
      let between = record begun { shelf = record p.1.shelf { own = record p.1.shelf.own { next = n + size us } } } in
      let stood = s.stood between (renumbered n us) in
      let copied = s.chained begun between (with_copy m.node p.1) numbered stood in
      subst (Later first) m.is
      (s.chained first p.1 (with_copy m.node p.1) here (s.chained p.1 begun (with_copy m.node p.1) worked copied), (later first p.1 here, from.1)))) h

  copies_made : (n : ℕ) (bs : List (Binding Meaning)) → Each (form.GoodBinding R s) bs → (env : Environment) (first : Run) (cs : List Copy) (run : Run)
      → Later first (cs, run) → (q : List Copy × Run) → each (λ _. and_copy env) n bs cs run ≡ Ok q → Later first q
  copies_made n [] g env first cs run from q h = subst (Later first) (same_value (cs, run) q h) from
  copies_made n (b ∷ bs) g env first cs run from q h =
      then_from _ q _ (and_copy env cs b run) (λ p e k.
      copies_made (suc n) bs g.1 env first p.0 p.1 (copy_made b g.0 env first cs run from p e) q k) h

  -- what the changes say is in a list of its own
  pub copy_keeps : (bs : List (Binding Meaning)) (changes result : Meaning) → Each (form.GoodBinding R s) bs
      → ((env : Environment) → Keeps R (List PrimitiveTerm) (own_list (changes env))) → form.Good R s result → form.Good R s (copy bs changes result)
  copy_keeps bs changes result gs gc gr env = record { kept = kept }
    where
      kept : (run : Run) (p : List Item × Run) → copy bs changes result env run ≡ Ok p → R run p.1
      kept run p h =
          let z = copies_of bs changes result env run p h in
          let inner = with_copies z.made.0 env in
          let made = copies_made 0 bs gs env run [] run (s.same run, tt) z.made z.makes in
          let listed = s.chained run z.made.1 z.listed.1 made.0 ((gc inner).kept z.made.1 z.listed z.lists) in
          let after = with_changes (roots_of z.made.0) z.listed.0 z.listed.1 in
          let changed = s.changed run z.listed.1 (roots_of z.made.0) z.listed.0 listed made.1 in
          s.chained run after p.1 changed ((gr inner).kept after p z.gives)
