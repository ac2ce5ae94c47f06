-- A comparison of two variables comes to what its expression means.
use Rattle.std.proofs.Common.{◌≡◌, ◌∙◌, ℕ, zero, suc, ◌+◌, Bool, true, false, cond, List, [], ◌∷◌, Some, Result, Ok, Err, refl, ap, sym, subst, arith, add-one}
use Rattle.std.specs.List.{All}
use Rattle.std.specs.Str.{bytes_eq}
use Rattle.std.proofs.lemmas.Slice.Eq.{bytes_eq-Decides}
use Rattle.fault_codes.specs.declared.code.Code.{Code}
use Rattle.fault_codes.specs.declared.code.Code.TheVariants.{XPST0008}
use Rattle.values.specs.Atoms.{or_fault}
use Rattle.values.specs.Items.{IsThere}
use Rattle.values.specs.declared.atom.Atom.TheVariants as atom
use Rattle.values.specs.declared.atom.Item.{Item}
use Rattle.values.specs.declared.compare.Comparison.{Comparison}
use Rattle.values.specs.declared.fault.ValueFault.{ValueFault}
use Rattle.values.specs.declared.fault.ValueFault.TheVariants as fault
use Rattle.query_grammar.specs.declared.ast.Binary.TheVariants as binary
use Rattle.query_grammar.specs.declared.ast.Expr.TheVariants as e
use Rattle.query_meaning.specs.Environment.{Bound, Environment, looked_at, value_in}
use Rattle.query_meaning.specs.Meaning.{mean}
use Rattle.query_meaning.specs.Operators.{between_atoms, compared_by_pairs}
use Rattle.query_meaning.specs.Running.{M, Run, and_then, ◌>>=◌, come_to, pure, trees_of, work}
use Rattle.query_meaning.specs.Sequences.{one}
use Rattle.evaluation.specs.Gives.{Any, Gives, GivesIn, Stand}
use Rattle.read_items.specs.Pairs.{items_compared}
use Rattle.evaluation.proofs.Looking.{of_value}
use Rattle.evaluation.proofs.Unfolded.{of_variable}
use Rattle.item_expressions.specs.Compared.{said}
use Rattle.item_expressions.specs.Joined.{IsOther, both_hold, joined_expression, variables_expression}
use Rattle.item_expressions.proofs.Comparing.{counted_twice, item_compared, of_chain}
use Rattle.item_expressions.proofs.Standing.{and_count, same_name}

-- ---- what two variables stand for
looked_then : (x : Item) (r : Result (Unit {0} × Run) Code) → and_then (and_then r (λ _. pure (x ∷ []))) and_count ≡ and_then r (λ _. work 2 >>= (λ _. pure (x ∷ [])))
looked_then x (Ok p) = refl
looked_then x (Err code) = refl

one_means : (name : List ℕ) (x : Item) (k : ℕ) (env : Environment) (run : Run) → value_in name env.variables ≡ Some (x ∷ []) → looked_at name env.variables ≡ k
    → mean (e.Variable name) env run ≡ and_then (work k run) (λ _. work 2 >>= (λ _. pure (x ∷ [])))
one_means name x k env run found looked =
    ap (λ m. m env run) (of_variable name)
    ∙ ap (λ n. and_then (and_then (work n run) (λ _. come_to (or_fault XPST0008 (value_in name env.variables)))) and_count) looked
    ∙ ap (λ o. and_then (and_then (work k run) (λ _. come_to (or_fault XPST0008 o))) and_count) found
    ∙ looked_then x (work k run)

module _ (v : List ℕ) (x : Item) (bs : List Bound) where
  abbrev with_last : List Bound
  with_last = record { variable = v; items = x ∷ [] } ∷ bs

  last_found : value_in v with_last ≡ Some (x ∷ [])
  last_found = ap (λ t. cond t (Some (x ∷ [])) (value_in v bs)) (same_name v v refl)

  last_looked : looked_at v with_last ≡ 1
  last_looked = ap (λ t. cond t 1 (suc (looked_at v bs))) (same_name v v refl)

  module _ (o : List ℕ) (other : IsOther o v) where
    other_found : (y : Item) → value_in o bs ≡ Some (y ∷ []) → value_in o with_last ≡ Some (y ∷ [])
    other_found y found = ap (λ t. cond t (Some (x ∷ [])) (value_in o bs)) other ∙ found

    other_looked : (k : ℕ) → k ≡ looked_at o bs → looked_at o with_last ≡ k + 1
    other_looked k looked = ap (λ t. cond t 1 (suc (looked_at o bs))) other ∙ ap (λ n. suc n) (sym looked) ∙ sym (add-one k)

-- ---- the comparison
module _ (op : Comparison) (l r : List ℕ) (x y : Item) (k m : ℕ) (env : Environment)
    (left_found : value_in l env.variables ≡ Some (x ∷ [])) (left_looked : looked_at l env.variables ≡ k) (right_found : value_in r env.variables ≡ Some (y ∷ [])) (right_looked : looked_at r env.variables ≡ m) where
  abbrev boolean : Bool → M (List Item)
  boolean b = pure (one (atom.Boolean b))

  abbrev pairs : List Item → M (List Item)
  pairs items = between_atoms (compared_by_pairs op) (x ∷ []) items

  abbrev operated : List Item → M (List Item)
  operated items = (mean (e.Variable r) env >>= between_atoms (compared_by_pairs op) items) >>= and_count >>= (λ items. pure items)

  abbrev last : M Bool
  last = items_compared op x y >>= (λ b. work 2 >>= (λ _. work 2 >>= (λ _. pure b)))

  abbrev right : M Bool
  right = work m >>= (λ _. work 2 >>= (λ _. last))

  four : (q : Result (Unit {0} × Run) Code) → counted_twice op (and_then (and_then q (λ _. pure (y ∷ []))) pairs) ≡ and_then (and_then q (λ _. last)) boolean
  four (Ok p) = item_compared op x y p.1
  four (Err code) = refl

  three : (q : Result (Unit {0} × Run) Code) → counted_twice op (and_then (and_then q (λ _. work 2 >>= (λ _. pure (y ∷ [])))) pairs) ≡ and_then (and_then q (λ _. work 2 >>= (λ _. last))) boolean
  three (Ok p) = four (work 2 p.1)
  three (Err code) = refl

  two : (q : Result (Unit {0} × Run) Code) → and_then (and_then (and_then q (λ _. pure (x ∷ []))) operated) and_count ≡ and_then (and_then q (λ _. right)) boolean
  two (Ok p) = ap (λ q. counted_twice op (and_then q pairs)) (one_means r y m env p.1 right_found right_looked) ∙ three (work m p.1)
  two (Err code) = refl

  first : (q : Result (Unit {0} × Run) Code)
      → and_then (and_then (and_then q (λ _. work 2 >>= (λ _. pure (x ∷ [])))) operated) and_count ≡ and_then (and_then q (λ _. work 2 >>= (λ _. right))) boolean
  first (Ok p) = two (work 2 p.1)
  first (Err code) = refl

  whole : (run : Run) → mean (variables_expression op l r) env run ≡ and_then (both_hold op x k y m run) boolean
  whole run =
      ap (λ m. m env run) (of_chain (e.Variable l) (e.Variable r) (binary.General op))
      ∙ ap (λ q. and_then (and_then q operated) and_count) (one_means l x k env run left_found left_looked)
      ∙ first (work k run)

  variables_gives : (old new : Run) (q : Result Bool ValueFault) → GivesIn Any (both_hold op x k y m) old q new → Gives (mean (variables_expression op l r) env) old (said q) new
  variables_gives old new (Ok b) given = (whole old ∙ ap (λ q. and_then q boolean) given.0, (given.1.0, atomic_stands))
    where
      atomic_stands : Stand (one (atom.Boolean b)) new
      atomic_stands zero d h = tt
      atomic_stands (suc k) d h = absurd (omega (arith, h))
  variables_gives old new (Err fault.Memory) given = tt
  variables_gives old new (Err (fault.Code code)) given = whole old ∙ ap (λ q. and_then q boolean) given

-- where the one was bound last, and the other one has that item
module _ (op : Comparison) (v o : List ℕ) (x y : Item) (k : ℕ) (bs : List Bound) (other : IsOther o v) (found : value_in o bs ≡ Some (y ∷ [])) (looked : k ≡ looked_at o bs)
    (old new : Run) (q : Result Bool ValueFault) (env : Environment) (is : env.variables ≡ record { variable = v; items = x ∷ [] } ∷ bs) where
  abbrev P : Bool → List Bound → Type 0
  P b cs = Gives (mean (joined_expression op v o b) (record env { variables = cs })) old (said q) new

  pub left_gives : (b : Bool) → b ≡ true → GivesIn Any (both_hold op x 1 y (k + 1)) old q new → Gives (mean (joined_expression op v o b) env) old (said q) new
  left_gives b left g =
      let bound = variables_gives op v o x y 1 (k + 1) (record env { variables = with_last v x bs }) (last_found v x bs) (last_looked v x bs) (other_found v x bs o other y found) (other_looked v x bs o other k looked) old new q g in
      subst (λ b. P b env.variables) (sym left) (subst (P true) (sym is) bound)

  pub right_gives : (b : Bool) → b ≡ false → GivesIn Any (both_hold op y (k + 1) x 1) old q new → Gives (mean (joined_expression op v o b) env) old (said q) new
  right_gives b right g =
      let bound = variables_gives op o v y x (k + 1) 1 (record env { variables = with_last v x bs }) (other_found v x bs o other y found) (other_looked v x bs o other k looked) (last_found v x bs) (last_looked v x bs) old new q g in
      subst (λ b. P b env.variables) (sym right) (subst (P false) (sym is) bound)

-- the item of the other one stands
pub item_there : (o : List ℕ) (y : Item) (bs : List Bound) (run : Run) → All (λ b. Stand b.items run) bs → value_in o bs ≡ Some (y ∷ []) → IsThere (trees_of run) y
item_there o y bs run all found = of_value o bs run (y ∷ []) all found zero y (omega arith)

-- names that are the same
pub names_same : (a b : List ℕ) → bytes_eq a b ≡ true → a ≡ b
names_same a b is = (bytes_eq-Decides a b).0 is
