-- What expressions mean (XQuery 1.0; XQuery Update Facility 1.0).
use Rattle.std.specs.Prelude.{ℕ, [], List, Result, Ok, Err}
use Rattle.data_model.specs.Trees.{Trees, no_trees}
use Rattle.trees.specs.Forest.{ForestTerm}
use Rattle.pending.specs.Primitives.{PrimitiveTerm}
use Rattle.fault_codes.specs.declared.code.Code.{Code}
use Rattle.values.specs.declared.atom.Item.{Item}
use Rattle.query_grammar.specs.declared.ast.Expr.{Expr, fold-Expr}
use Rattle.query_grammar.specs.declared.ast.Expr.TheOpen.{Expr-F}
use Rattle.query_meaning.specs.Running.{Run, counted, most_turns, most_work}
use Rattle.query_meaning.specs.Environment.{no_environment}
use Rattle.query_meaning.specs.Sequences.{Meaning, number, string, variable, context_item, sequence, conditional, quantified, flwor}
use Rattle.query_meaning.specs.Operators.{chain, signed}
use Rattle.query_meaning.specs.Paths.{step, filter_of, path}
use Rattle.query_meaning.specs.Functions.{call}
use Rattle.query_meaning.specs.Constructors.{document, element, attribute, text, comment, instruction}
use Rattle.query_meaning.specs.Updates.{insert, delete, replace_node, replace_value, rename}
use Rattle.query_meaning.specs.Copies.{copy}

-- a form of expressions, by what its parts mean
abbrev pub form_of : Expr-F Meaning → Meaning
form_of (Expr-F.Integer n) = number n
form_of (Expr-F.String s) = string s
form_of (Expr-F.Variable x) = variable x
form_of Expr-F.Context = context_item
form_of (Expr-F.Sequence ms) = sequence ms
form_of (Expr-F.Call f ms) = call f ms
form_of (Expr-F.Document m) = document m
form_of (Expr-F.Element n m) = element n m
form_of (Expr-F.Attribute n m) = attribute n m
form_of (Expr-F.Text m) = text m
form_of (Expr-F.Comment m) = comment m
form_of (Expr-F.Instruction n m) = instruction n m
form_of (Expr-F.Step axis test ms) = step axis test ms
form_of (Expr-F.Filter m ms) = filter_of m ms
form_of (Expr-F.Path m ms) = path m ms
form_of (Expr-F.Signed signs m) = signed signs m
form_of (Expr-F.Chain m os) = chain m os
form_of (Expr-F.If c x y) = conditional c x y
form_of (Expr-F.Quantified q bs m) = quantified q bs m
form_of (Expr-F.Flwor cs test keys m) = flwor cs test keys m
form_of (Expr-F.Insert source place target) = insert source place target
form_of (Expr-F.Delete target) = delete target
form_of (Expr-F.ReplaceNode target source) = replace_node target source
form_of (Expr-F.ReplaceValue target source) = replace_value target source
form_of (Expr-F.Rename target name) = rename target name
form_of (Expr-F.Copy bs changes m) = copy bs changes m

-- an expression, whose work is counted
abbrev pub meaning_of : Expr-F Meaning → Meaning
meaning_of f = λ env. counted (form_of f env)

unfoldable pub mean : Expr → Meaning
mean = fold-Expr Meaning meaning_of

-- what an evaluation gives: items, update primitives, the trees that were made, and the next identity
pub record Outcome : Type 0 where
  pub items : List Item
  pub primitives : List PrimitiveTerm
  pub trees : Trees
  pub next : ℕ

-- before anything is evaluated: a lent forest, and no tree beside it
abbrev pub start : ForestTerm → Run
start lent = record {
  shelf = record { lent = lent; own = record { trees = no_trees; documents = []; next = lent.next } };
  turns = most_turns;
  work = most_work;
  primitives = [];
}

abbrev pub outcome : Result (List Item × Run) Code → Result Outcome Code
outcome (Ok p) = Ok (record { items = p.0; primitives = p.1.primitives; trees = p.1.shelf.own.trees; next = p.1.shelf.own.next })
outcome (Err code) = Err code

-- the meaning of a whole text's expression over a forest
unfoldable pub evaluated : Expr → ForestTerm → Result Outcome Code
evaluated x lent = outcome (mean x no_environment (start lent))
