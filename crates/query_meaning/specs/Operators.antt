-- Operators (XQuery 1.0, sections 3.3 to 3.6), between the items on their left and an expression on their right. But for `and` and `or` both
-- sides are evaluated before either is judged (our own choice).
use Rattle.std.specs.Prelude.{ℕ, ◌+◌, ◌-◌, ◌*◌, ℤ, pos, ◌+ℤ◌, ◌-ℤ◌, neg_ℤ, nat_abs, int_lt, nat_lt, Bool, true, false, ◌&&◌, ◌||◌, not, ◌==◌, if◌then◌else◌, List, [], ◌∷◌, length, map, filter, reverse, Option, Some, None, Result, Ok, Err}
use Rattle.std.specs.List.{range_with_len}
use Rattle.data_model.specs.Trees.{Trees}
use Rattle.data_model.specs.Axes.{is_in}
use Rattle.data_model.specs.Order.{identities, precedes}
use Rattle.fault_codes.specs.declared.code.Code.{Code}
use Rattle.fault_codes.specs.declared.code.Code.TheVariants.{XPTY0004, PXQ0002}
use Rattle.values.specs.declared.compare.Comparison.{Comparison}
use Rattle.values.specs.declared.operators.Operator.{Operator}
use Rattle.values.specs.declared.atom.Atom.{Atom}
use Rattle.values.specs.declared.atom.Atom.TheVariants as atom
use Rattle.values.specs.declared.atom.Item.{Item}
use Rattle.values.specs.declared.atom.Item.TheVariants as item
use Rattle.values.specs.Arithmetic.{arithmetic, operand, operands, in_range}
use Rattle.values.specs.Atoms.{truth}
use Rattle.values.specs.Comparisons.{value_compared, general_compared, pairs_compared, tried, tried_work}
use Rattle.query_grammar.specs.declared.ast.Binary.{Binary}
use Rattle.query_grammar.specs.declared.ast.Binary.TheVariants as binary
use Rattle.query_grammar.specs.declared.ast.Operation.{Operation}
use Rattle.query_grammar.specs.declared.ast.Sign.{Sign}
use Rattle.query_grammar.specs.declared.ast.Sign.TheVariants.{Plus, Minus}
use Rattle.query_meaning.specs.Running.{M, pure, ◌>>=◌, come_to, seen, turns, work, counted, within, each, atoms, most_items}
use Rattle.query_meaning.specs.Sequences.{Meaning, one}

-- no item, or one
abbrev pub integers : Option ℤ → List Item
integers None = []
integers (Some z) = one (atom.Integer z)

abbrev pub booleans : Option Bool → List Item
booleans None = []
booleans (Some b) = one (atom.Boolean b)

-- between the typed values on both sides
abbrev pub between_atoms : (List Atom → List Atom → M (List Item)) → List Item → List Item → M (List Item)
between_atoms f left right = do
  xs ← atoms left
  ys ← atoms right
  f xs ys

-- `+ - * idiv mod` (section 3.4)
abbrev pub calculated : Operator → List Atom → List Atom → M (List Item)
calculated op xs ys = come_to (arithmetic op xs ys) >>= (λ o. pure (integers o))

-- `to` (section 3.3.1): the integers from the one to the other
abbrev pub many_from : ℤ → ℕ → Result (List Item) Code
many_from x n = if nat_lt most_items n then Err PXQ0002 else Ok (map (λ k. item.Atomic (atom.Integer (x +ℤ pos k))) (range_with_len 0 n))

abbrev pub integers_to : Option (ℤ × ℤ) → Result (List Item) Code
integers_to None = Ok []
integers_to (Some p) = if int_lt p.1 p.0 then Ok [] else many_from p.0 (nat_abs (p.1 -ℤ p.0) + 1)

abbrev pub ranged : List Atom → List Atom → M (List Item)
ranged xs ys = do
  o ← come_to (operands xs ys)
  come_to (integers_to o)

-- `eq ne lt le gt ge` (section 3.5.1)
abbrev pub compared_by_value : Comparison → List Atom → List Atom → M (List Item)
compared_by_value op xs ys = come_to (value_compared op xs ys) >>= (λ o. pure (booleans o))

-- `= != < <= > >=` (section 3.5.2): each pair that is tried takes a turn, and its work
abbrev pub compared_by_pairs : Comparison → List Atom → List Atom → M (List Item)
compared_by_pairs op xs ys = λ run. (do
  b ← come_to (general_compared op xs ys run.turns run.work)
  _ ← turns (tried (pairs_compared op xs ys))
  _ ← work (tried_work op xs ys)
  pure (one (atom.Boolean b))) run

-- To put nodes in document order takes 32 units of work for each but one; so does a comparison of two nodes.
abbrev pub ordering : ℕ → M (Unit {0})
ordering n = work (32 * (n - 1))

-- `is << >>` (section 3.5.3): one node a side, or none, else XPTY0004, which is judged before an empty side gives nothing (our own choice)
abbrev pub one_node : List Item → Result (Option ℕ) Code
one_node [] = Ok None
one_node (item.Node i ∷ []) = Ok (Some i)
one_node _ = Err XPTY0004

abbrev pub of_both : (ℕ → ℕ → Trees → Bool) → Option ℕ → Option ℕ → Trees → Option Bool
of_both holds (Some a) (Some b) ts = Some (holds a b ts)
of_both holds _ _ ts = None

abbrev pub between_nodes : (ℕ → ℕ → Trees → Bool) → List Item → List Item → M (List Item)
between_nodes holds left right = do
  a ← come_to (one_node left)
  b ← come_to (one_node right)
  _ ← ordering (length left + length right)
  seen (λ ts. booleans (of_both holds a b ts))

abbrev pub is_same : ℕ → ℕ → Trees → Bool
is_same a b ts = a == b

abbrev pub follows : ℕ → ℕ → Trees → Bool
follows a b ts = precedes b a ts

-- items that are all nodes
abbrev pub all_nodes : Code → List Item → Result (List ℕ) Code
all_nodes code [] = Ok []
all_nodes code (item.Atomic a ∷ xs) = Err code
all_nodes code (item.Node i ∷ xs) = and_node (all_nodes code xs)
  where
    and_node : Result (List ℕ) Code → Result (List ℕ) Code
    and_node (Ok is) = Ok (i ∷ is)
    and_node (Err fault) = Err fault

abbrev pub nodes : List ℕ → List Item
nodes is = map (λ i. item.Node i) is

-- `union`, `intersect`, `except` (section 3.3.3): sets of nodes, in document order
abbrev pub set_of : (Bool → Bool → Bool) → List Item → List Item → M (List Item)
set_of belongs left right = do
  xs ← come_to (all_nodes XPTY0004 left)
  ys ← come_to (all_nodes XPTY0004 right)
  _ ← ordering (length xs + length ys)
  is ← seen (λ ts. filter (λ i. belongs (is_in i xs) (is_in i ys)) (identities ts))
  come_to (within (nodes is))

-- `and`, `or` (section 3.6): the right side is evaluated only where the left one doesn't decide
abbrev pub truth_of : M (List Item) → M (List Item)
truth_of m = do
  items ← m
  b ← come_to (truth items)
  pure (one (atom.Boolean b))

abbrev pub unless : (deciding : Bool) → Bool → M (List Item) → M (List Item)
unless true true m = pure (one (atom.Boolean true))
unless false false m = pure (one (atom.Boolean false))
unless _ _ m = truth_of m

abbrev pub either_side : (deciding : Bool) → List Item → M (List Item) → M (List Item)
either_side deciding left right = do
  b ← come_to (truth left)
  unless deciding b right

-- an operator
abbrev pub operated : Binary → List Item → M (List Item) → M (List Item)
operated binary.Or left right = either_side true left right
operated binary.And left right = either_side false left right
operated (binary.General op) left right = right >>= between_atoms (compared_by_pairs op) left
operated (binary.Value op) left right = right >>= between_atoms (compared_by_value op) left
operated binary.Is left right = right >>= between_nodes is_same left
operated binary.Precedes left right = right >>= between_nodes precedes left
operated binary.Follows left right = right >>= between_nodes follows left
operated binary.To left right = right >>= between_atoms ranged left
operated (binary.Arithmetic op) left right = right >>= between_atoms (calculated op) left
operated binary.Union left right = right >>= set_of ◌||◌ left
operated binary.Intersect left right = right >>= set_of ◌&&◌ left
operated binary.Except left right = right >>= set_of (λ a b. a && not b) left

-- `a + b - ..`: to the left; the work of each operator is counted
abbrev pub chain : Meaning → List (Operation Meaning) → Meaning
chain m os = λ env. m env >>= each (λ _ given (o : Operation Meaning). counted (operated o.operator given (o.operand env))) 0 os

-- signs (section 3.4): the innermost first
abbrev pub with_sign : ℕ → ℤ → Sign → M ℤ
with_sign n z Plus = pure z
with_sign n z Minus = come_to (in_range (neg_ℤ z))

abbrev pub with_signs : List Sign → List Atom → M (List Item)
with_signs signs [] = pure []
with_signs signs (a ∷ []) = do
  z ← come_to (operand a)
  signed ← each with_sign 0 (reverse signs) z
  pure (one (atom.Integer signed))
with_signs signs (a ∷ b ∷ rest) = come_to (Err XPTY0004)

abbrev pub signed : List Sign → Meaning → Meaning
signed signs m = λ env. m env >>= atoms >>= with_signs signs
