-- Targets, by what is read of them.
use Rattle.std.proofs.Common.{◌≡◌, ℕ, Bool, true, false, cond, List, [], ◌∷◌, Option, Some, None, refl, sym, ap, ◌∙◌, Result, Ok, Err, ⊎_elim}
use Rattle.std.proofs.lemmas.Bool.Decides.{eqb_tells}
use Rattle.data_model.specs.Trees.{Trees, no_trees, tree, Place, find, find_below, first}
use Rattle.data_model.specs.Views.{Views}
use Rattle.data_model.specs.declared.node.NodeView.{NodeView}
use Rattle.fault_codes.specs.declared.code.Code.{Code}
use Rattle.values.specs.declared.fault.ValueFault.{ValueFault}
use Rattle.values.specs.declared.atom.Item.{Item}
use Rattle.values.specs.declared.atom.Item.TheVariants as item
use Rattle.query_meaning.specs.Environment.{Environment}
use Rattle.query_meaning.specs.Running.{M, Run, and_then, come_to, pure, trees_of, ◌>>=◌}
use Rattle.query_meaning.specs.Sequences.{Meaning}
use Rattle.query_meaning.specs.Updates as meaning
use Rattle.evaluation.specs.Gives.{Any, Gives, GivesIn, Stand}
use Rattle.evaluation.proofs.Each.{then_gives}
use Rattle.query_updates.specs.declared.targets.Role.{Role}
use Rattle.query_updates.specs.declared.targets.Role.TheVariants.{Replaced, Renamed}
use Rattle.query_updates.specs.declared.targets.Target.{Target}
use Rattle.query_updates.specs.Parts.{node_replaced, renamed, value_replaced}
use Rattle.query_updates.proofs.Steps.{gives_same}
use Rattle.query_updates.specs.Targets.{allows, refusal, read, read_in, target_at, target_in, target}

-- the node that is found has the identity that is looked for
abbrev pub HasIdentity : ℕ → Option Place → Type 0
HasIdentity i None = Unit {0}
HasIdentity i (Some x) = x.content.identity ≡ i

either_has : (i : ℕ) (a b : Option Place) → HasIdentity i a → HasIdentity i b → HasIdentity i (first a b)
either_has i None b h k = k
either_has i (Some x) b h k = h

pub found_has : (p : Option ℕ) (i : ℕ) (ts : Trees) → HasIdentity i (find_below p i ts)
found_has p i no_trees = tt
found_has p i (tree c bs cs rest) =
    ⊎_elim (λ t. rw t.0 (sym t.1))
    (λ t. rw t.0 (either_has i _ _ (found_has (Some c.identity) i bs) (either_has i _ _ (found_has (Some c.identity) i cs) (found_has p i rest)))) (eqb_tells i c.identity)

-- what a view says of a target
judged : (r : Role) (x : Place) (b : Bool) → allows r x.content.kind ≡ b → target_at r (Some x) ≡ cond b (Ok (read x)) (Err (refusal r))
judged r x true e = rw e refl
judged r x false e = rw e refl

pub seen_at : (r : Role) (o : Option Place) (i : ℕ) (v : NodeView) (b : Bool) → HasIdentity i o → Views (Some v) o → b ≡ allows r v.kind
    → target_at r o ≡ cond b (Ok (record { identity = i; kind = v.kind; parent = v.parent })) (Err (refusal r))
seen_at r None i v b here seen is = absurd seen
seen_at r (Some x) i v b here seen is =
    judged r x b (ap (allows r) (sym seen.kind) ∙ sym is) ∙ (λ j. cond b (Ok (record { identity = here j; kind = sym seen.kind j; parent = sym seen.parent j })) (Err (refusal r)))

-- a target that is a node
come_then : (o : Result Place Code) (run : Run) → and_then (come_to o run) (λ x. pure (read x)) ≡ come_to (read_in o) run
come_then (Ok x) run = refl
come_then (Err code) run = refl

pub one_target : (r : Role) (i : ℕ) (run : Run) → target_in r (item.Node i ∷ []) run ≡ come_to (target_at r (find i (trees_of run))) run
one_target r i run = come_then (meaning.of_kinds (allows r) (refusal r) (find i (trees_of run))) run

-- what comes after a target needs only what is read of it
module _ {B : Type 0} (r : Role) (k : Target → M B) where
  read_then : (o : Result (Place × Run) Code) → and_then o (λ x. k (read x)) ≡ and_then (and_then o (λ x. pure (read x))) k
  read_then (Ok p) = refl
  read_then (Err code) = refl

  pub target_then : (items : List Item) (run : Run) → (meaning.target_of (allows r) (refusal r) items >>= (λ x. k (read x))) run ≡ (target_in r items >>= k) run
  target_then items run = read_then (meaning.target_of (allows r) (refusal r) items run)

  first_then : (o : Result (List Item × Run) Code)
      → and_then o (λ found. meaning.target_of (allows r) (refusal r) found >>= (λ x. k (read x))) ≡ and_then (and_then o (target_in r)) k
  first_then (Ok p) = target_then p.0 p.1
  first_then (Err code) = refl

  pub target_first : (m : Meaning) (env : Environment) (run : Run)
      → (m env >>= (λ found. meaning.target_of (allows r) (refusal r) found >>= (λ x. k (read x)))) run ≡ (target r m env >>= k) run
  target_first m env run = first_then (m env run)

-- a form whose first operand gives its target
pub given_first : (form : M (List Item)) (r : Role) (m : Meaning) (env : Environment) (k : Target → M (List Item)) (old mid new : Run) (t : Target) (found : Result (List Item) ValueFault)
    → form old ≡ (target r m env >>= k) old → GivesIn Any (target r m env) old (Ok t) mid → Gives (k t) mid found new → Gives form old found new
given_first form r m env k old mid new t found same g h = gives_same Stand form (target r m env >>= k) old new found same (then_gives Any Stand (target r m env) k old mid new t found g h)

pub of_rename : (m name : Meaning) (env : Environment) (run : Run) → meaning.rename m name env run ≡ (target Renamed m env >>= renamed name env) run
of_rename m name env run = target_first Renamed (renamed name env) m env run

pub of_replace_node : (m source : Meaning) (env : Environment) (run : Run) → meaning.replace_node m source env run ≡ (target Replaced m env >>= node_replaced source env) run
of_replace_node m source env run = target_first Replaced (node_replaced source env) m env run

pub of_replace_value : (m source : Meaning) (env : Environment) (run : Run) → meaning.replace_value m source env run ≡ (target Replaced m env >>= value_replaced source env) run
of_replace_value m source env run = target_first Replaced (value_replaced source env) m env run
