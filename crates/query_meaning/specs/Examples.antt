-- The data of the worked examples: expressions by what they mean, and two small stores.
use Rattle.std.specs.Prelude.{ℕ, ◌+◌, ◌-◌, List, [], ◌∷◌, length, map, codes, None, Result, Ok, Err}
use Rattle.trees.specs.Forest.{ForestTerm, opening_forest}
use Rattle.data_model.specs.Trees.{Trees, no_trees, tree, leaf, append}
use Rattle.data_model.specs.declared.axis.Axis.{Axis}
use Rattle.data_model.specs.declared.axis.Axis.TheVariants as axis
use Rattle.data_model.specs.declared.node.Kind.{Kind}
use Rattle.data_model.specs.declared.node.Kind.TheVariants as kind
use Rattle.pending.specs.Primitives.{PrimitiveTerm}
use Rattle.values.specs.Printing.{item_text}
use Rattle.fault_codes.specs.declared.code.Code.{Code}
use Rattle.query_grammar.specs.declared.ast.Expr.TheOpen.{Expr-F}
use Rattle.query_grammar.specs.declared.ast.Binary.{Binary}
use Rattle.query_grammar.specs.declared.ast.Binding.{Binding}
use Rattle.query_grammar.specs.declared.ast.Clause.TheVariants as clause
use Rattle.query_grammar.specs.declared.ast.KindTest.{KindTest}
use Rattle.query_grammar.specs.declared.ast.KindTest.TheVariants.{AnyNode}
use Rattle.query_grammar.specs.declared.ast.Name.TheVariants.{Written, Computed}
use Rattle.query_grammar.specs.declared.ast.NodeTest.TheVariants as test
use Rattle.query_grammar.specs.declared.ast.Place.{Place}
use Rattle.query_grammar.specs.Functions.{function_of}
use Rattle.update_meaning.specs.Results.{applied}
use Rattle.query_meaning.specs.Copies.{copy}
use Rattle.query_meaning.specs.Environment.{no_environment}
use Rattle.query_meaning.specs.Meaning.{Outcome, meaning_of, outcome, start}
use Rattle.query_meaning.specs.Running.{Run, most_nodes}
use Rattle.query_meaning.specs.Sequences.{Meaning}

-- `1`, `"t"`, `$x`, `a, b`, `f(a, b)`
abbrev pub int : ℕ → Meaning
int n = meaning_of (Expr-F.Integer n)

abbrev pub str : List ℕ → Meaning
str text = meaning_of (Expr-F.String text)

abbrev pub var : List ℕ → Meaning
var x = meaning_of (Expr-F.Variable x)

abbrev pub list : List Meaning → Meaning
list ms = meaning_of (Expr-F.Sequence ms)

abbrev pub call : (name : List ℕ) → List Meaning → Meaning
call name ms = meaning_of (Expr-F.Call (function_of name (length ms)) ms)

-- `a op b`
abbrev pub binary : Binary → Meaning → Meaning → Meaning
binary op x y = meaning_of (Expr-F.Chain x (record { operator = op; operand = y } ∷ []))

-- `element n {a}`, `attribute n {a}`, `text {a}`
abbrev pub elem : (name : List ℕ) → Meaning → Meaning
elem name m = meaning_of (Expr-F.Element (Written name) m)

abbrev pub attr : (name : List ℕ) → Meaning → Meaning
attr name m = meaning_of (Expr-F.Attribute (Written name) m)

abbrev pub txt : Meaning → Meaning
txt m = meaning_of (Expr-F.Text m)

abbrev pub elem_named : Meaning → Meaning → Meaning
elem_named n m = meaning_of (Expr-F.Element (Computed n) m)

abbrev pub comment : Meaning → Meaning
comment m = meaning_of (Expr-F.Comment m)

abbrev pub instr : (name : List ℕ) → Meaning → Meaning
instr name m = meaning_of (Expr-F.Instruction (Written name) m)

abbrev pub instr_named : Meaning → Meaning → Meaning
instr_named n m = meaning_of (Expr-F.Instruction (Computed n) m)

abbrev pub doc_node : Meaning → Meaning
doc_node m = meaning_of (Expr-F.Document m)

-- `insert node a into b` and the others, `delete node a`, `replace node a with b`, `replace value of node a with b`, `rename node a as b`
abbrev pub inserting : Place → Meaning → Meaning → Meaning
inserting place source target = meaning_of (Expr-F.Insert source place target)

abbrev pub deleting : Meaning → Meaning
deleting m = meaning_of (Expr-F.Delete m)

abbrev pub replacing : Meaning → Meaning → Meaning
replacing m source = meaning_of (Expr-F.ReplaceNode m source)

abbrev pub replacing_value : Meaning → Meaning → Meaning
replacing_value m source = meaning_of (Expr-F.ReplaceValue m source)

abbrev pub renaming : Meaning → Meaning → Meaning
renaming m name = meaning_of (Expr-F.Rename m name)

-- `axis::n[a]`, `axis::*[a]`, `a/b`, `a//b`
abbrev pub named : Axis → (name : List ℕ) → List Meaning → Meaning
named a name ms = meaning_of (Expr-F.Step a (test.Name name) ms)

abbrev pub any : Axis → List Meaning → Meaning
any a ms = meaning_of (Expr-F.Step a test.AnyName ms)

abbrev pub child : (name : List ℕ) → Meaning
child name = named axis.Child name []

-- `a[b]`
abbrev pub filtered_by : Meaning → Meaning → Meaning
filtered_by m p = meaning_of (Expr-F.Filter m (p ∷ []))

abbrev pub path : Meaning → List Meaning → Meaning
path m ms = meaning_of (Expr-F.Path m ms)

abbrev pub every_node : Meaning
every_node = meaning_of (Expr-F.Step axis.DescendantOrSelf (test.Kind AnyNode) [])

-- `let $x := a return b`
abbrev pub let_in : List ℕ → Meaning → Meaning → Meaning
let_in x m k = meaning_of (Expr-F.Flwor (clause.Let (record { variable = x; source = m }) ∷ []) None [] k)

-- `doc("db")`, and its element `a`
abbrev pub db : Meaning
db = call (codes "doc") (str (codes "db") ∷ [])

abbrev pub db_a : Meaning
db_a = path db (child (codes "a") ∷ [])

-- what stands below that element on an axis, by a kind test
abbrev pub below_a : Axis → KindTest → Meaning
below_a a k = path db_a (meaning_of (Expr-F.Step a (test.Kind k) []) ∷ [])

abbrev pub attribute_k : Meaning
attribute_k = path db_a (named axis.Attribute (codes "k") [] ∷ [])

-- the store of one empty document, `db`
abbrev pub opening : ForestTerm
opening = opening_forest (codes "db" ∷ [])

-- the document `db` whose element `a` (2) has the attribute `k` (3), the text `x` (4), a comment (5) and an instruction `p` (6)
abbrev pub filled : ForestTerm
filled = record {
  trees = tree (record { identity = 1; kind = kind.Document; name = []; text = [] }) no_trees
      (tree (record { identity = 2; kind = kind.Element; name = codes "a"; text = [] }) (leaf (record { identity = 3; kind = kind.Attribute; name = codes "k"; text = codes "1" }))
      (tree (record { identity = 4; kind = kind.Text; name = []; text = codes "x" }) no_trees no_trees
      (tree (record { identity = 5; kind = kind.Comment; name = []; text = codes "c" }) no_trees no_trees
      (leaf (record { identity = 6; kind = kind.Instruction; name = codes "p"; text = [] })))) no_trees) no_trees;
  documents = (codes "db", 1) ∷ [];
  next = 7;
}

abbrev pub outcome_in : ForestTerm → Meaning → Result Outcome Code
outcome_in lent m = outcome (m no_environment (start lent))

-- the texts of an outcome's items
abbrev pub texts_of : ForestTerm → Result Outcome Code → Result (List (List ℕ)) Code
texts_of lent (Ok o) = Ok (map (item_text (append lent.trees o.trees)) o.items)
texts_of lent (Err code) = Err code

-- its primitives, and the next identity
abbrev pub changes_of : Result Outcome Code → Result (List PrimitiveTerm × ℕ) Code
changes_of (Ok o) = Ok (o.primitives, o.next)
changes_of (Err code) = Err code

-- what an expression answers in the store of the empty document, and in the other one
abbrev pub said : Meaning → Result (List (List ℕ)) Code
said m = texts_of opening (outcome_in opening m)

abbrev pub said_of_filled : Meaning → Result (List (List ℕ)) Code
said_of_filled m = texts_of filled (outcome_in filled m)

-- what it would change in them
abbrev pub asked : Meaning → Result (List PrimitiveTerm × ℕ) Code
asked m = changes_of (outcome_in opening m)

abbrev pub asked_of_filled : Meaning → Result (List PrimitiveTerm × ℕ) Code
asked_of_filled m = changes_of (outcome_in filled m)

-- what it answers where so many turns are left, and where so many nodes may still be made
abbrev pub with_turns : ℕ → Run → Run
with_turns n run = record run { turns = n }

abbrev pub with_nodes : ℕ → Run → Run
with_nodes n run = record run { shelf = record run.shelf { own = record run.shelf.own { next = run.shelf.own.next + (most_nodes - n) } } }

abbrev pub said_after : (Run → Run) → Meaning → Result (List (List ℕ)) Code
said_after f m = texts_of opening (outcome (m no_environment (f (start opening))))

-- what it answers there, and in the other store, where so much work is left
abbrev pub with_work : ℕ → Run → Run
with_work n run = record run { work = n }

abbrev pub said_by : ℕ → Meaning → Result (List (List ℕ)) Code
said_by n = said_after (with_work n)

abbrev pub said_of_filled_by : ℕ → Meaning → Result (List (List ℕ)) Code
said_of_filled_by n m = texts_of filled (outcome (m no_environment (with_work n (start filled))))

-- a text of just as many bytes as take one unit of work
abbrev pub sixteen : List ℕ
sixteen = codes "sixteen bytes in"

-- a node alone
abbrev pub alone : Kind → (identity : ℕ) → (name text : List ℕ) → Trees
alone k i name text = leaf (record { identity = i; kind = k; name = name; text = text })

abbrev pub one : List ℕ → Result (List (List ℕ)) Code
one text = Ok (text ∷ [])

-- with `$r` bound to `element r {element a {"1"}, element b {"2"}, element a {"3"}}`
abbrev pub with_r : Meaning → Meaning
with_r m = let_in (codes "r") (elem (codes "r") (list (elem (codes "a") (str (codes "1")) ∷ elem (codes "b") (str (codes "2")) ∷ elem (codes "a") (str (codes "3")) ∷ []))) m

abbrev pub below_r : List Meaning → Result (List (List ℕ)) Code
below_r ms = said (with_r (path (var (codes "r")) ms))

-- `$x := a`
abbrev pub set : List ℕ → Meaning → Binding Meaning
set x m = record { variable = x; source = m }

-- `copy $c := a modify b return d`
abbrev pub copy_c : Meaning → Meaning → Meaning → Meaning
copy_c a b d = copy (set (codes "c") a ∷ []) b d

abbrev pub c : Meaning
c = var (codes "c")

-- `$c/n`, and what stands there by a kind test
abbrev pub below : List ℕ → Meaning → Meaning
below name m = path m (child name ∷ [])

abbrev pub children_of : KindTest → Meaning → Meaning
children_of k m = path m (meaning_of (Expr-F.Step axis.Child (test.Kind k) []) ∷ [])

-- the store of the document `db` with an element `a` (3)
abbrev pub with_a : ForestTerm
with_a = record {
  trees = tree (record { identity = 1; kind = kind.Document; name = []; text = [] }) no_trees (leaf (record { identity = 3; kind = kind.Element; name = codes "a"; text = [] })) no_trees;
  documents = (codes "db", 1) ∷ [];
  next = 4;
}

-- the store that a request leaves there, or its code
abbrev pub left : Result Outcome Code → Result ForestTerm Code
left (Ok o) = applied o.primitives o.next with_a
left (Err code) = Err code

abbrev pub submitted : Meaning → Result ForestTerm Code
submitted m = left (outcome_in with_a m)
