-- No copy is made in what is spelt at level 1: production by production.
use Rattle.std.proofs.Common.{◌≡◌, ℕ, zero, suc, true, false, Bool, List, [], ◌∷◌, ◌++◌, map, Option, Some, None}
use Rattle.std.proofs.lemmas.List.Elements.{All-nil, All-cons, All-head, All-tail, All-append, All-map}
use Rattle.std.specs.List.{All, flat_map}
use Rattle.query_tokens.specs.declared.kind.Kind.{Kind}
use Rattle.query_tokens.specs.declared.kind.Kind.TheVariants as k
use Rattle.query_tokens.specs.declared.token.Token.{Token}
use Rattle.query_grammar.specs.declared.ast.Binary.{Binary}
use Rattle.query_grammar.specs.declared.ast.Binding.{Binding}
use Rattle.query_grammar.specs.declared.ast.Clause.TheVariants as clause
use Rattle.query_grammar.specs.declared.ast.Expr.{Expr}
use Rattle.query_grammar.specs.declared.ast.Expr.TheVariants as e
use Rattle.query_grammar.specs.declared.ast.Name.{Name}
use Rattle.query_grammar.specs.declared.ast.Operation.{Operation}
use Rattle.query_grammar.specs.declared.ast.Sign.{Sign}
use Rattle.query_grammar.specs.Grammar as g
use Rattle.query_grammar.specs.Grammar.{IsQuery}
use Rattle.query_grammar.specs.Lang.{Lang, pure, ◌>>=◌, ◌>>◌, Many, tok}
use Rattle.query_grammar.specs.Words.{union_operator, intersect_operator, multiply_operator, add_operator, range_operator, comparison_operator, and_operator, or_operator}
use Rattle.static_checks.specs.Static.{IsExpression}
use Rattle.level_laws.specs.Copied.{has_copy}
use Rattle.level_laws.proofs.Forms as form
use Rattle.level_laws.proofs.Forms.{Plain, PlainName, PlainOperation, PlainBinding, PlainClause, PlainTest, PlainKey, plain_and, one}
use Rattle.level_laws.proofs.Giving.{Gives, gives_pure, gives_bind, gives_then, gives_made, gives_either, gives_many, gives_list1, gives_list0, after}

-- Operators.

of_list : (xs : List Expr) → All Plain xs → Plain (g.of_list xs)
of_list [] h = form.sequence [] h
of_list (x ∷ []) h = All-head Plain x [] h
of_list (x ∷ y ∷ ys) h = form.sequence (x ∷ y ∷ ys) h

chain_of : (x : Expr) (os : List (Operation Expr)) → Plain x → All PlainOperation os → Plain (g.chain_of x os)
chain_of x [] h all = h
chain_of x (o ∷ os) h all = form.chain x (o ∷ os) h all

module _ (operator : Kind → Option Binary) {P : Lang Expr} (s : Gives Plain P) where
  operation : Gives PlainOperation (g.OperationOf operator P)
  operation = gives_then (λ op. gives_made PlainOperation _ s (λ x h. h))

  chain : Gives Plain (g.Chain operator P)
  chain = gives_bind s (λ x h. gives_made Plain _ (gives_many operation) (λ os all. chain_of x os h all))

  once : Gives Plain (g.AtMostOnce operator P)
  once = gives_either s (gives_bind s (λ x h. gives_made Plain _ operation (λ o i. form.chain x (o ∷ []) h (All-cons PlainOperation o [] i (All-nil PlainOperation)))))

-- Paths.

filter_of : (x : Expr) (xs : List Expr) → Plain x → All Plain xs → Plain (g.filter_of x xs)
filter_of x [] h all = h
filter_of x (y ∷ ys) h all = form.filter x (y ∷ ys) h all

abbrev PlainStep : g.StepOf → Type 0
PlainStep (g.OfAxis s xs) = All Plain xs
PlainStep (g.OfPrimary x xs) = Plain x × All Plain xs

step_of : (s : g.StepOf) → PlainStep s → Plain (g.step_of s)
step_of (g.OfAxis s xs) h = form.step s.axis s.test xs h
step_of (g.OfPrimary x xs) h = filter_of x xs h.0 h.1

deep : (x : Expr) → Plain x → All Plain (g.deep x)
deep x h = plain_and _ (x ∷ []) (form.step _ _ [] (All-nil Plain)) (one x h)

deep_axis_step : (s : g.AxisStep) (is_bare : Bool) (xs : List Expr) → All Plain xs → All Plain (g.deep_axis_step s is_bare xs)
deep_axis_step s true [] all = one _ (form.step _ s.test [] all)
deep_axis_step s true (x ∷ xs) all = deep _ (form.step s.axis s.test (x ∷ xs) all)
deep_axis_step s false xs all = deep _ (form.step s.axis s.test xs all)

deep_step : (s : g.StepOf) → PlainStep s → All Plain (g.deep_step s)
deep_step (g.OfAxis s xs) h = deep_axis_step s s.is_bare xs h
deep_step (g.OfPrimary x xs) h = deep (g.filter_of x xs) (filter_of x xs h.0 h.1)

steps_of : (is_deep : Bool) (s : g.StepOf) → PlainStep s → All Plain (g.steps_of is_deep s)
steps_of true s h = deep_step s h
steps_of false s h = one (g.step_of s) (step_of s h)

path_of : (x : Expr) (xs : List Expr) → Plain x → All Plain xs → Plain (g.path_of x xs)
path_of x [] h all = h
path_of x (y ∷ ys) h all = form.path x (y ∷ ys) h all

signed_of : (signs : List Sign) (x : Expr) → Plain x → Plain (g.signed_of signs x)
signed_of [] x h = h
signed_of (s ∷ ss) x h = form.signed (s ∷ ss) x h

-- lists one after the other
joined : {A : Type 0} (P : A → Type 0) (lists : List (List A)) → All (All P) lists → All P (flat_map (λ xs. xs) lists)
joined P [] all = All-nil P
joined P (xs ∷ lists) all = All-append P xs (flat_map (λ xs. xs) lists) (All-head (All P) xs lists all) (joined P lists (All-tail (All P) xs lists all))

-- Rules over those of Single.
module _ {S : Lang Expr} (s : Gives Plain S) where
  exprs : Gives Plain (g.Exprs S)
  exprs = gives_made Plain g.of_list (gives_list1 s) of_list

  content : Gives Plain (g.Content S)
  content = gives_either (gives_pure Plain _ (form.sequence [] (All-nil Plain))) exprs

  -- an expression between two tokens
  between : (opening closing : Kind) {L : Lang Expr} → Gives Plain L → Gives Plain (tok opening >> (L >>= (λ x. tok closing >> pure x)))
  between opening closing l = after opening (gives_bind l (λ x h. after closing (gives_pure Plain x h)))

  braces : Gives Plain (g.Braces S)
  braces = between k.OpenBrace k.CloseBrace exprs

  call : Gives Plain (g.Call S)
  call = gives_then (λ t. after k.OpenParen (gives_bind (gives_list0 s) (λ xs all. after k.CloseParen (gives_pure Plain _ (form.call _ xs all)))))

  name_or_braces : Gives PlainName (g.NameOrBraces S)
  name_or_braces = gives_either (gives_then (λ name. gives_pure PlainName _ tt)) (gives_made PlainName _ braces (λ x h. h))

  named : (kind : Kind) (make : Name Expr → Expr → Expr) → ((n : Name Expr) (x : Expr) → PlainName n → Plain x → Plain (make n x)) → Gives Plain (g.Named S kind make)
  named kind make plain = after kind (gives_bind name_or_braces (λ n h. gives_made Plain (make n) (between k.OpenBrace k.CloseBrace content) (λ x i. plain n x h i)))

  make : Gives Plain (g.Make S)
  make =
      gives_either (gives_made Plain e.Document (after k.Document braces) form.document)
      (gives_either (gives_made Plain e.Text (after k.Text braces) form.text)
      (gives_either (gives_made Plain e.Comment (after k.Comment braces) form.comment)
      (gives_either (named k.Element e.Element form.element)
      (gives_either (named k.Attribute e.Attribute form.attribute)
      (named k.ProcessingInstruction e.Instruction form.instruction)))))

  primary : Gives Plain (g.Primary S)
  primary =
      gives_either (gives_then (λ t. gives_pure Plain _ (form.integer t.number)))
      (gives_either (gives_then (λ t. gives_pure Plain _ (form.string t.text)))
      (gives_either (gives_then (λ name. gives_pure Plain _ (form.variable name)))
      (gives_either (between k.OpenParen k.CloseParen content)
      (gives_either (after k.Dot (gives_pure Plain e.Context form.context))
      (gives_either call make)))))

  predicates : Gives (All Plain) (Many (g.Predicate S))
  predicates = gives_many (between k.OpenBracket k.CloseBracket exprs)

  step : Gives PlainStep (g.Step S)
  step =
      gives_either (gives_bind primary (λ x h. gives_made PlainStep (λ xs. g.OfPrimary x xs) predicates (λ xs all. (h, all))))
      (gives_then (λ a. gives_made PlainStep (λ xs. g.OfAxis a xs) predicates (λ xs all. all)))

  segment : Gives (All Plain) (g.Segment S)
  segment = gives_then (λ is_deep. gives_made (All Plain) (g.steps_of is_deep) step (steps_of is_deep))

  path : Gives Plain (g.Path S)
  path = gives_bind step (λ first h. gives_made Plain _ (gives_many segment)
      (λ others all. path_of (g.step_of first) (flat_map (λ steps. steps) others) (step_of first h) (joined Plain others all)))

  unary : Gives Plain (g.Unary S)
  unary = gives_then (λ signs. gives_made Plain (g.signed_of signs) path (signed_of signs))

  add : Gives Plain (g.Add S)
  add = chain add_operator (chain multiply_operator (chain union_operator (chain intersect_operator unary)))

  or : Gives Plain (g.Or S)
  or = chain or_operator (chain and_operator (once comparison_operator (once range_operator add)))

  if_ : Gives Plain (g.If S)
  if_ = after k.If (after k.OpenParen (gives_bind exprs (λ c h. after k.CloseParen (after k.Then
      (gives_bind s (λ x i. after k.Else (gives_made Plain (e.If c x) s (λ y j. form.if_ c x y h i j))))))))

  -- Variables that are bound.

  bound_by : (separator : Kind) → Gives PlainBinding (g.Var >>= (λ name. tok separator >> (S >>= (λ x. pure (record { variable = name; source = x })))))
  bound_by separator = gives_then (λ name. after separator (gives_made PlainBinding _ s (λ x h. h)))

  bind_clause : Gives PlainClause (g.Bind S)
  bind_clause =
      gives_either (gives_made PlainClause clause.For (bound_by k.In) (λ b h. h))
      (gives_then (λ name. after k.At (gives_then (λ at. after k.In (gives_made PlainClause _ s (λ x h. h))))))

  lets : (bs : List (Binding Expr)) → All PlainBinding bs → All PlainClause (map clause.Let bs)
  lets bs all = All-map PlainClause clause.Let bs all

  clauses : Gives (All PlainClause) (g.Clauses S)
  clauses = gives_either (after k.For (gives_list1 bind_clause)) (gives_made (All PlainClause) (map clause.Let) (after k.Let (gives_list1 (bound_by k.Assign))) lets)

  where_ : Gives PlainTest (g.Where S)
  where_ = gives_either (gives_pure PlainTest None tt) (gives_made PlainTest Some (after k.Where s) (λ x h. h))

  key : Gives PlainKey (g.Key S)
  key = gives_bind s (λ x h. gives_then (λ descending. gives_pure PlainKey _ h))

  order_by : Gives (All PlainKey) (g.OrderBy S)
  order_by = gives_either (gives_pure (All PlainKey) [] (All-nil PlainKey)) (gives_then (λ t. gives_list1 key))

  flwor : Gives Plain (g.Flwor S)
  flwor = gives_bind clauses (λ first h. gives_bind (gives_many clauses) (λ others i. gives_bind where_ (λ o j. gives_bind order_by (λ ks l.
      after k.Return (gives_made Plain _ s (λ x m. form.flwor (first ++ flat_map (λ clauses. clauses) others) o ks x
      (All-append PlainClause first (flat_map (λ clauses. clauses) others) h (joined PlainClause others i)) j l m))))))

  quant : Gives Plain (g.Quant S)
  quant = gives_then (λ which. gives_bind (gives_list1 (bound_by k.In)) (λ bs all. after k.Satisfies (gives_made Plain _ s (λ x h. form.quantified which bs x all h))))

  -- Updates.

  insert : Gives Plain (g.Insert S)
  insert = after k.Insert (gives_then (λ t. gives_bind s (λ x h. gives_then (λ place. gives_made Plain (e.Insert x place) s (λ y i. form.insert x place y h i)))))

  delete : Gives Plain (g.Delete S)
  delete = after k.Delete (gives_then (λ t. gives_made Plain e.Delete s form.delete))

  -- two expressions with a token between them
  two_of : (separator : Kind) (make : Expr → Expr → Expr) → ((x y : Expr) → Plain x → Plain y → Plain (make x y)) → Gives Plain (S >>= (λ x. tok separator >> (S >>= (λ y. pure (make x y)))))
  two_of separator make plain = gives_bind s (λ x h. after separator (gives_made Plain (make x) s (λ y i. plain x y h i)))

  replace : Gives Plain (g.Replace S)
  replace = gives_either (after k.Replace (after k.Node (two_of k.With e.ReplaceNode form.replace_node)))
      (after k.Replace (after k.Value (after k.Of (after k.Node (two_of k.With e.ReplaceValue form.replace_value)))))

  rename : Gives Plain (g.Rename S)
  rename = after k.Rename (after k.Node (two_of k.As e.Rename form.rename))

  -- the rule of a copy is not there
  copy : Gives Plain (g.Copy S 1)
  copy = record { given = λ ts x rest h. absurd (let f : ⊥ = cc in f) }

-- nested at most so deep
single : (n : ℕ) → Gives Plain (g.SingleOf 1 n)
single zero = record { given = λ ts x rest h. absurd h }
single (suc n) =
    let s = single n in
    gives_either (flwor s) (gives_either (quant s) (gives_either (if_ s) (gives_either (insert s) (gives_either (delete s)
    (gives_either (replace s) (gives_either (rename s) (gives_either (copy s) (or s))))))))

pub in_tokens : (ts : List Token) (x : Expr) → IsQuery 1 ts x → has_copy x ≡ false
in_tokens ts x h = (exprs (single h.0)).given ts x [] h.1

pub in_text : (text : List ℕ) (x : Expr) → IsExpression 1 text x → has_copy x ≡ false
in_text text x h = in_tokens h.spelling x h.spelt
