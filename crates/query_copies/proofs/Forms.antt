-- Steps of the form, one after the other.
use Rattle.std.proofs.Common.{◌≡◌, ℕ, true, false, List, ◌∷◌, Option, Some, None, Result, Ok, Err, Bool, refl, ap, ◌∙◌, subst}
use Rattle.std.specs.Prelude.{IfOk, IsSome, OnOk}
use Rattle.data_model.specs.Trees.{find}
use Rattle.shelves.specs.Shelf.{IsShelf}
use Rattle.trees.specs.Forest.{ForestTerm}
use Rattle.pending.specs.Compatible.{conflict}
use Rattle.pending.specs.Primitives.{PrimitiveTerm}
use Rattle.fault_codes.specs.declared.code.Code.{Code}
use Rattle.fault_codes.specs.declared.code.Code.TheVariants.{XUDY0014}
use Rattle.values.specs.declared.atom.Item.{Item}
use Rattle.values.specs.declared.fault.ValueFault.{ValueFault}
use Rattle.values.specs.declared.fault.ValueFault.TheVariants as fault
use Rattle.query_grammar.specs.declared.ast.Binding.{Binding}
use Rattle.update_meaning.specs.Changed.{applied_to_copies, chosen, rooted_at}
use Rattle.query_meaning.specs.Copies.{Copy, becoming, compatible, copies, copy, copy_of, modified, own_list, roots_of, target_these, with_copies}
use Rattle.query_meaning.specs.Environment.{Environment}
use Rattle.query_meaning.specs.Running.{M, Run, and_then, trees_of, ◌>>=◌}
use Rattle.query_meaning.specs.Sequences.{Meaning}
use Rattle.query_meaning.specs.Updates.{must}
use Rattle.evaluation.specs.Gives.{Any, Fails, Gives, GivesIn, Grows}
use Rattle.evaluation.proofs.Each.{grows_then}
use Rattle.query_copies.specs.Kept.{Adds, AreCopies, Comes, IsCopy, Survive}
use Rattle.query_copies.specs.Steps.{changed_by, updated}
use Rattle.query_copies.proofs.Adding.{copies_still, one_more}
use Rattle.query_copies.proofs.Changed.{survive}
use Rattle.query_copies.proofs.Copied.{copy_stands}

-- what is so of every value that comes
pub on_given : (m : M (List Item)) (old new : Run) (r : Result (List Item) ValueFault) → ((items : List Item) → m old ≡ Ok (items, new) → Adds old new) → Gives m old r new → OnOk r (Adds old new)
on_given m old new (Ok items) f g = f items g.0
on_given m old new (Err e) f g = tt

-- what comes to the same
pub comes_same : {A : Type 0} (m n : M A) (old new : Run) (r : Result A ValueFault) → m old ≡ n old → Comes n old r new → Comes m old r new
comes_same m n old new (Ok a) e h = e ∙ h
comes_same m n old new (Err fault.Memory) e h = tt
comes_same m n old new (Err (fault.Code code)) e h = e ∙ h

-- ---- targets, then the rules of one list, then the update
module _ (is : List ℕ) (ps : List PrimitiveTerm) (run : Run) where
  abbrev rest : M (Unit {0})
  rest = compatible (conflict ps) >>= (λ _. becoming (applied_to_copies is ps run.shelf.own.next run.shelf.own))

  inside : target_these (chosen (rooted_at is) run.shelf.own.trees) ps ≡ true → modified is ps run ≡ rest run
  inside e = ap (λ b. and_then (must b XUDY0014 run) (λ _. rest)) e

  pub conflicting : (found : ValueFault) → target_these (chosen (rooted_at is) run.shelf.own.trees) ps ≡ true → Fails (compatible (conflict ps) run) found → Fails (modified is ps run) found
  conflicting fault.Memory e h = tt
  conflicting (fault.Code code) e h = inside e ∙ ap (λ o. and_then o (λ _. becoming (applied_to_copies is ps run.shelf.own.next run.shelf.own))) h

  pub at_last : target_these (chosen (rooted_at is) run.shelf.own.trees) ps ≡ true → compatible (conflict ps) run ≡ Ok (tt, run) → modified is ps run ≡ updated is ps run
  at_last e c = inside e ∙ ap (λ o. and_then o (λ _. becoming (applied_to_copies is ps run.shelf.own.next run.shelf.own))) c

-- the copies survive it
module _ (is : List ℕ) (ps : List PrimitiveTerm) (start now new : Run) (h : AreCopies start is now) where
  abbrev run_or : Run → Result (Unit {0} × Run) Code → Run
  run_or r (Ok p) = p.1
  run_or r (Err code) = r

  pub survives : modified is ps now ≡ Ok (tt, new) → Survive start is new
  survives e = judged (target_these (chosen (rooted_at is) now.shelf.own.trees) ps) e
    where
      become : (r : Result ForestTerm Code) → applied_to_copies is ps now.shelf.own.next now.shelf.own ≡ r → becoming r now ≡ Ok (tt, new) → Survive start is new
      become (Ok g) a z = subst (Survive start is) (ap (run_or new) z) (survive is ps start now h g a)
      become (Err code) a z = cc

      checked : (o : Option Code) → and_then (compatible o now) (λ _. becoming (applied_to_copies is ps now.shelf.own.next now.shelf.own)) ≡ Ok (tt, new) → Survive start is new
      checked None z = become (applied_to_copies is ps now.shelf.own.next now.shelf.own) refl z
      checked (Some code) z = cc

      judged : (b : Bool) → and_then (must b XUDY0014 now) (λ _. compatible (conflict ps) >>= (λ _. becoming (applied_to_copies is ps now.shelf.own.next now.shelf.own))) ≡ Ok (tt, new) → Survive start is new
      judged true z = checked (conflict ps) z
      judged false z = cc

-- ---- the whole
module _ (bs : List (Binding Meaning)) (changes result : Meaning) (env : Environment) where
  abbrev after : List Copy → M (List Item)
  after cs = own_list (changes (with_copies cs env)) >>= (λ ps. modified (roots_of cs) ps >>= (λ _. result (with_copies cs env)))

  abbrev change : List Copy → M (Unit {0})
  change cs = changed_by (changes (with_copies cs env)) (roots_of cs)

  together : (cs : List Copy) (mid : Run) → after cs mid ≡ (change cs >>= (λ _. result (with_copies cs env))) mid
  together cs mid = by (own_list (changes (with_copies cs env)) mid)
    where
      by : (o : Result (List PrimitiveTerm × Run) Code)
          → and_then o (λ ps. modified (roots_of cs) ps >>= (λ _. result (with_copies cs env))) ≡ and_then (and_then o (modified (roots_of cs))) (λ _. result (with_copies cs env))
      by (Ok p) = refl
      by (Err code) = refl

  module _ (start mid : Run) (cs : List Copy) (e : copies bs env start ≡ Ok (cs, mid)) where
    copied_first : copy bs changes result env start ≡ after cs mid
    copied_first = ap (λ o. and_then o after) e

    pub change_fails : (found : ValueFault) → Fails (change cs mid) found → Fails (copy bs changes result env start) found
    change_fails fault.Memory h = tt
    change_fails (fault.Code code) h = copied_first ∙ together cs mid ∙ ap (λ o. and_then o (λ _. result (with_copies cs env))) h

    pub returned : (late new : Run) (r : Result (List Item) ValueFault) → change cs mid ≡ Ok (tt, late) → Grows start late → Gives (result (with_copies cs env)) late r new → Gives (copy bs changes result env) start r new
    returned late new r c grown g = by r g
      where
        same : copy bs changes result env start ≡ result (with_copies cs env) late
        same = copied_first ∙ together cs mid ∙ ap (λ o. and_then o (λ _. result (with_copies cs env))) c

        by : (r : Result (List Item) ValueFault) → Gives (result (with_copies cs env)) late r new → Gives (copy bs changes result env) start r new
        by (Ok items) g = (same ∙ g.0, (grows_then start late new grown g.1.0, g.1.1))
        by (Err fault.Memory) g = tt
        by (Err (fault.Code code)) g = same ∙ g

-- where copies were made, they still are, and one more
pub one_copied : (old mid new : Run) (m : M ℕ) (r : Result ℕ ValueFault) → Adds old mid → GivesIn (IsCopy mid) m mid r new
    → IfOk r (λ k. (start : Run) (is : List ℕ) → AreCopies start is old → AreCopies start (k ∷ is) new)
one_copied old mid new m (Ok k) a g = λ start is h. one_more start mid new is k (copies_still start old mid is h a) g.1.1
one_copied old mid new m (Err found) a g = tt

pub is_copied : (i : ℕ) (old new : Run) (r : Result ℕ ValueFault) → IsShelf old.shelf → IsSome (find i (trees_of old)) → GivesIn Any (copy_of i) old r new → GivesIn (IsCopy old) (copy_of i) old r new
is_copied i old new (Ok k) shelf there g = (g.0, (g.1.0, copy_stands i old new k shelf there g.0))
is_copied i old new (Err found) shelf there g = g

pub all_survive : (is : List ℕ) (ps : List PrimitiveTerm) (old now new : Run) (r : Result (Unit {0}) ValueFault) → Adds old now → Comes (modified is ps) now r new
    → OnOk r ((start : Run) → AreCopies start is old → Survive start is new)
all_survive is ps old now new (Ok u) a e = λ start h. survives is ps start now new (copies_still start old now is h a) e
all_survive is ps old now new (Err found) a e = tt
