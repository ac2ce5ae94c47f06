-- Forms, from one expression that they wait for to the next: what stands between, and what the whole form is.
use Rattle.std.specs.Prelude.{◌≡◌, ℕ, suc, ◌+◌, ◌-◌, ◌<◌, ◌≤◌, length, reverse, Result, Ok, Err, Bool, true, false, if◌then◌else◌, nat_le, List, [], ◌∷◌, ◌++◌, Option, Some, None}
use Rattle.query_tokens.specs.declared.kind.Kind.{Kind}
use Rattle.query_tokens.specs.declared.kind.Kind.TheVariants as k
use Rattle.query_tokens.specs.Cursor.{kind_at}
use Rattle.query_grammar.specs.declared.ast.Expr.{Expr}
use Rattle.query_grammar.specs.declared.ast.Expr.TheVariants as e
use Rattle.query_grammar.specs.declared.ast.Binding.{Binding}
use Rattle.query_grammar.specs.declared.ast.Clause.{Clause}
use Rattle.query_grammar.specs.declared.ast.Clause.TheVariants as clause
use Rattle.query_grammar.specs.declared.ast.Place.{Place}
use Rattle.query_grammar.specs.declared.ast.Quantifier.{Quantifier}
use Rattle.query_grammar.specs.declared.ast.SortKey.{SortKey}
use Rattle.query_tokens.specs.declared.token.Token.{Token}
use Rattle.query_grammar.specs.Reader as r
use Rattle.query_grammar.specs.Reading.{Reader, pure, refuse, ◌>>=◌, ◌>>◌, choose, sees, at_level, eat}
use Rattle.query_tokens.specs.declared.fault.ParseFault.{ParseFault}
use Rattle.query_parts.specs.Gives.{Fails}
use Rattle.query_rules.specs.Parts as part
use Rattle.query_rules.specs.declared.pending.Last.{Last}
use Rattle.query_rules.specs.declared.pending.Last.TheVariants as last
use Rattle.query_rules.specs.declared.pending.Pending.{Pending}
use Rattle.query_rules.specs.declared.pending.Pending.TheVariants as form
use Rattle.query_rules.specs.declared.pending.Progress.{Progress}
use Rattle.query_rules.specs.declared.pending.Progress.TheVariants.{Read, Waits}

abbrev pub bound : List ℕ → Expr → Binding Expr
bound name x = record { variable = name; source = x }

-- the form, once it has its last expression
abbrev pub ended : Last → Expr → Expr
ended (last.Return found test sorted) x = e.Flwor found test sorted x
ended (last.Satisfies quantifier found) x = e.Quantified quantifier found x
ended (last.Else test x) y = e.If test x y
ended (last.Insert source place) x = e.Insert source place x
ended last.Delete x = e.Delete x
ended (last.ReplaceNode target) x = e.ReplaceNode target x
ended (last.ReplaceValue target) x = e.ReplaceValue target x
ended (last.Rename target) x = e.Rename target x
ended (last.Copy found changes) x = e.Copy found changes x

-- What follows the expression that a form waits for, by the reader of such expressions.
module _ (single : Reader Expr) where
  -- the keys, and what was read before them
  abbrev pub after_keys : List (Clause Expr) → Option Expr → List (SortKey Expr) → Reader Expr
  after_keys found test sorted = do
    eat k.Return
    x ← single
    pure (e.Flwor found test sorted x)

  abbrev pub after_condition : List (Clause Expr) → Option Expr → Reader Expr
  after_condition found test = do
    sorted ← r.keys single
    after_keys found test sorted

  abbrev pub after_clauses : List (Clause Expr) → Reader Expr
  after_clauses found = do
    test ← r.condition single
    after_condition found test

  abbrev pub after_clause : List (Clause Expr) → Reader Expr
  after_clause found = do
    others ← part.more_clauses single
    after_clauses (found ++ others)

  -- a binding of a `for`, or else of a `let`
  abbrev pub after_binding : (iterates : Bool) → List (Clause Expr) → Reader Expr
  after_binding iterates found = do
    others ← part.more (part.clause_of single iterates)
    after_clause (found ++ others)

  abbrev pub after_key : List (Clause Expr) → Option Expr → List (SortKey Expr) → Reader Expr
  after_key found test sorted = do
    others ← part.more (r.key single)
    after_keys found test (sorted ++ others)

  -- a binding of a quantified expression
  abbrev pub after_in : Quantifier → List (Binding Expr) → Reader Expr
  after_in which found = do
    others ← part.more (r.in_binding single)
    eat k.Satisfies
    x ← single
    pure (e.Quantified which (found ++ others) x)

  -- a binding of a transform expression
  abbrev pub after_copy : List (Binding Expr) → Reader Expr
  after_copy found = do
    others ← part.more (r.set_binding single)
    eat k.Modify
    changes ← single
    eat k.Return
    x ← single
    pure (e.Copy (found ++ others) changes x)

  -- the form, once it has this expression
  unfoldable pub completed : Pending → Expr → Reader Expr
  completed (form.For found name) x = after_binding true (found ++ clause.For (bound name x) ∷ [])
  completed (form.ForAt found name at) x = after_binding true (found ++ clause.ForAt (bound name x) at ∷ [])
  completed (form.Let found name) x = after_binding false (found ++ clause.Let (bound name x) ∷ [])
  completed (form.Where found) x = after_condition found (Some x)
  completed (form.Key found test sorted) x = r.direction single >>= (λ descending. after_key found test (sorted ++ record { key = x; is_descending = descending } ∷ []))
  completed (form.In which found name) x = after_in which (found ++ bound name x ∷ [])
  completed (form.Then test) x = eat k.Else >> (single >>= (λ y. pure (e.If test x y)))
  completed form.Insert x = r.place_of single >>= (λ place. single >>= (λ target. pure (e.Insert x place target)))
  completed form.ReplaceNode x = eat k.With >> (single >>= (λ source. pure (e.ReplaceNode x source)))
  completed form.ReplaceValue x = eat k.With >> (single >>= (λ source. pure (e.ReplaceValue x source)))
  completed form.Rename x = eat k.As >> (single >>= (λ found. pure (e.Rename x found)))
  completed (form.Copy found name) x = after_copy (found ++ bound name x ∷ [])
  completed (form.Last final) x = pure (ended final x)
  completed (form.Modify found) x = eat k.Return >> (single >>= (λ y. pure (e.Copy found x y)))

-- What stands between the expressions that forms wait for.

abbrev pub wait : Pending → Reader Progress
wait pending = pure (Waits pending)

abbrev pub read : Expr → Reader Progress
read x = pure (Read x)

-- this word, and then this form waits
abbrev pub word : Kind → Pending → Reader Progress
word kind pending = eat kind >> wait pending

-- Readers of words, which read no expression.
abbrev pub direction : Reader Bool
direction = r.direction refuse

abbrev pub which : Reader Quantifier
which = r.which refuse

abbrev pub node_or_nodes : Reader Token
node_or_nodes = r.node_or_nodes refuse

abbrev pub place_of : Reader Place
place_of = r.place_of refuse

-- FLWOR expressions.
abbrev pub to_return : List (Clause Expr) → Option Expr → List (SortKey Expr) → Reader Progress
to_return found test sorted = word k.Return (form.Last (last.Return found test sorted))

abbrev pub to_key : List (Clause Expr) → Option Expr → Reader Progress
to_key found test = do
  eat k.Order
  eat k.By
  wait (form.Key found test [])

abbrev pub to_keys : List (Clause Expr) → Option Expr → Reader Progress
to_keys found test = choose (at_level 15) (to_key found test) (to_return found test [])

abbrev pub to_condition : List (Clause Expr) → Reader Progress
to_condition found = choose (at_level 14) (word k.Where (form.Where found)) (to_keys found None)

abbrev pub to_for_at : List (Clause Expr) → Reader Progress
to_for_at found = do
  name ← r.variable
  eat k.At
  at ← r.variable
  eat k.In
  wait (form.ForAt found name at)

abbrev pub to_for_in : List (Clause Expr) → Reader Progress
to_for_in found = do
  name ← r.variable
  eat k.In
  wait (form.For found name)

abbrev pub to_let : List (Clause Expr) → Reader Progress
to_let found = do
  name ← r.variable
  eat k.Assign
  wait (form.Let found name)

-- a binding of a `for`, or else of a `let`
abbrev pub to_binding : (iterates : Bool) → List (Clause Expr) → Reader Progress
to_binding true found = choose (sees 2 k.At) (to_for_at found) (to_for_in found)
to_binding false found = to_let found

abbrev pub to_clause : List (Clause Expr) → Reader Progress
to_clause found = choose (sees 0 k.For) (eat k.For >> to_binding true found) (eat k.Let >> to_binding false found)

abbrev pub to_clauses : List (Clause Expr) → Reader Progress
to_clauses found = choose (at_level 13) (to_clause found) (to_condition found)

abbrev pub past_binding : (iterates : Bool) → List (Clause Expr) → Reader Progress
past_binding iterates found = choose (at_level 12) (eat k.Comma >> to_binding iterates found) (to_clauses found)

abbrev pub past_key : List (Clause Expr) → Option Expr → List (SortKey Expr) → Reader Progress
past_key found test sorted = choose (at_level 12) (word k.Comma (form.Key found test sorted)) (to_return found test sorted)

abbrev pub past_direction : List (Clause Expr) → Option Expr → List (SortKey Expr) → Expr → Reader Progress
past_direction found test sorted x = do
  descending ← direction
  past_key found test (sorted ++ record { key = x; is_descending = descending } ∷ [])

-- Quantified expressions.
abbrev pub to_in : Quantifier → List (Binding Expr) → Reader Progress
to_in quantifier found = do
  name ← r.variable
  eat k.In
  wait (form.In quantifier found name)

abbrev pub past_in : Quantifier → List (Binding Expr) → Reader Progress
past_in quantifier found = choose (at_level 12) (eat k.Comma >> to_in quantifier found) (word k.Satisfies (form.Last (last.Satisfies quantifier found)))

abbrev pub to_quantified : Reader Progress
to_quantified = which >>= (λ quantifier. to_in quantifier [])

-- Transform expressions.
abbrev pub to_copy : List (Binding Expr) → Reader Progress
to_copy found = do
  name ← r.variable
  eat k.Assign
  wait (form.Copy found name)

abbrev pub past_copy : List (Binding Expr) → Reader Progress
past_copy found = choose (at_level 12) (eat k.Comma >> to_copy found) (word k.Modify (form.Modify found))

-- refused below level 2
abbrev pub to_copying : (level : ℕ) → Reader Progress
to_copying level = λ ts. if nat_le 2 level then (eat k.Copy >> to_copy []) ts else None

-- Updating expressions.
abbrev pub to_insertion : Reader Progress
to_insertion = do
  eat k.Insert
  node_or_nodes
  wait form.Insert

abbrev pub to_deletion : Reader Progress
to_deletion = do
  eat k.Delete
  node_or_nodes
  wait (form.Last last.Delete)

abbrev pub to_replace_node : Reader Progress
to_replace_node = do
  eat k.Replace
  eat k.Node
  wait form.ReplaceNode

abbrev pub to_replace_value : Reader Progress
to_replace_value = do
  eat k.Replace
  eat k.Value
  eat k.Of
  eat k.Node
  wait form.ReplaceValue

abbrev pub to_replacement : Reader Progress
to_replacement = choose (sees 1 k.Node) to_replace_node to_replace_value

abbrev pub to_renaming : Reader Progress
to_renaming = do
  eat k.Rename
  eat k.Node
  wait form.Rename

abbrev pub past_source : Expr → Reader Progress
past_source source = place_of >>= (λ place. wait (form.Last (last.Insert source place)))

-- up to the next expression that is waited for
unfoldable pub resume : Pending → Expr → Reader Progress
resume (form.For found name) x = past_binding true (found ++ clause.For (bound name x) ∷ [])
resume (form.ForAt found name at) x = past_binding true (found ++ clause.ForAt (bound name x) at ∷ [])
resume (form.Let found name) x = past_binding false (found ++ clause.Let (bound name x) ∷ [])
resume (form.Where found) x = to_keys found (Some x)
resume (form.Key found test sorted) x = past_direction found test sorted x
resume (form.In quantifier found name) x = past_in quantifier (found ++ bound name x ∷ [])
resume (form.Then test) x = word k.Else (form.Last (last.Else test x))
resume form.Insert x = past_source x
resume form.ReplaceNode x = word k.With (form.Last (last.ReplaceNode x))
resume form.ReplaceValue x = word k.With (form.Last (last.ReplaceValue x))
resume form.Rename x = word k.As (form.Last (last.Rename x))
resume (form.Copy found name) x = past_copy (found ++ bound name x ∷ [])
resume (form.Last final) x = read (ended final x)
resume (form.Modify found) x = word k.Return (form.Last (last.Copy found x))

-- The front of a form, by the reader of the expressions in its brackets.
module _ (single : Reader Expr) where
  abbrev pub to_conditional : Reader Progress
  to_conditional = do
    eat k.If
    eat k.OpenParen
    test ← r.exprs single
    eat k.CloseParen
    eat k.Then
    wait (form.Then test)

  abbrev pub operators : Reader Progress
  operators = r.disjunction single >>= (λ x. read x)

  abbrev pub begin_form : (level : ℕ) → r.Form → Reader Progress
  begin_form level r.FlworForm = to_clause []
  begin_form level r.QuantifiedForm = to_quantified
  begin_form level r.IfForm = to_conditional
  begin_form level r.InsertForm = to_insertion
  begin_form level r.DeleteForm = to_deletion
  begin_form level r.ReplaceForm = to_replacement
  begin_form level r.RenameForm = to_renaming
  begin_form level r.CopyForm = to_copying level
  begin_form level r.OrForm = operators

  unfoldable pub begin : (level : ℕ) → Reader Progress
  begin level = λ ts. begin_form level (r.form_of (kind_at 0 ts) (kind_at 1 ts)) ts

-- Forms that wait within one another, the innermost first: what the outermost is, once the innermost has this expression. Those
-- within the innermost may nest at most so deep, those within the next one deeper.
unfoldable pub unwound : (level : ℕ) → (depth : ℕ) → List Pending → Expr → Reader Expr
unwound level depth [] x = pure x
unwound level depth (pending ∷ outer) x = completed (r.single level depth) pending x >>= unwound level (suc depth) outer

-- the same, before the expression that the innermost waits for
abbrev pub awaited : (level : ℕ) → (depth : ℕ) → List Pending → Reader Expr
awaited level depth pending = r.single level depth >>= unwound level depth pending

-- the same, where within the forms this was come to
abbrev pub proceeds : (level : ℕ) → (depth : ℕ) → List Pending → Progress → Reader Expr
proceeds level depth outer (Read x) = unwound level (suc depth) outer x
proceeds level depth outer (Waits pending) = awaited level depth (pending ∷ outer)

-- what is left, of so many tokens: fewer before a form that waits
abbrev pub Within : Progress → (left : ℕ) → ℕ → Type 0
Within (Read x) left all = left ≤ all
Within (Waits pending) left all = left < all

-- what is left of the tokens, up to the next place where a form waits: fewer, unless this is one
abbrev pub Taken : Progress → (left : ℕ) → ℕ → Type 0
Taken (Read x) left all = left < all
Taken (Waits pending) left all = left ≤ all

-- the same, where it ends before such a form
abbrev pub Nearer : Progress → Result (Option Expr) ParseFault → (left : ℕ) → ℕ → Type 0
Nearer progress (Ok None) left all = Taken progress left all
Nearer progress (Ok (Some x)) left all = Unit {0}
Nearer progress (Err fault) left all = Unit {0}

-- What forms that wait within one another, the innermost last, go on to where this was come to. They nest at most so deep. They end
-- with an expression, or the last of them waits for one.
abbrev pub Settles : (level : ℕ) → (depth : ℕ) → List Pending → Progress → List Token → Result (Option Expr) ParseFault → List Pending → List Token → Type 0
Settles level depth forms progress ts (Ok (Some x)) after left = proceeds level (depth - (length forms + 1)) (reverse forms) progress ts ≡ Some (x, left)
Settles level depth forms progress ts (Ok None) after left =
    (length after ≤ depth) × (proceeds level (depth - (length forms + 1)) (reverse forms) progress ts ≡ awaited level (depth - length after) (reverse after) left)
Settles level depth forms progress ts (Err fault) after left = Fails (proceeds level (depth - (length forms + 1)) (reverse forms) progress ts) fault
