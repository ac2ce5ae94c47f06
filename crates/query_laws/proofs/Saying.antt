-- What is spelt from tokens that say well says well throughout: production by production.
use Rattle.std.proofs.Common.{◌≡◌, ℕ, zero, suc, true, false, Bool, List, [], ◌∷◌, ◌++◌, length, map, Option, Some, None, refl}
use Rattle.std.proofs.lemmas.List.Elements.{All-nil, All-cons, All-head, All-tail, All-append, All-map}
use Rattle.std.specs.List.{All, flat_map}
use Rattle.document_names.specs.Characters.{is_name}
use Rattle.query_tokens.specs.Words.{is_name_kind}
use Rattle.query_tokens.specs.declared.kind.Kind.{Kind}
use Rattle.query_tokens.specs.declared.kind.Kind.TheVariants as k
use Rattle.query_grammar.specs.declared.ast.Binary.{Binary}
use Rattle.query_grammar.specs.declared.ast.Binding.{Binding}
use Rattle.query_grammar.specs.declared.ast.Clause.TheVariants as clause
use Rattle.query_grammar.specs.declared.ast.Expr.{Expr, out-Expr}
use Rattle.query_grammar.specs.declared.ast.Expr.TheVariants as e
use Rattle.query_grammar.specs.declared.ast.Name.{Name}
use Rattle.query_grammar.specs.declared.ast.Operation.{Operation}
use Rattle.query_grammar.specs.declared.ast.Sign.{Sign}
use Rattle.query_grammar.specs.declared.functions.Function.{Function}
use Rattle.query_grammar.specs.Functions.{function_of}
use Rattle.query_grammar.proofs.Naming.{called}
use Rattle.query_grammar.specs.Grammar as g
use Rattle.query_grammar.specs.Lang.{Lang, pure, ◌>>=◌, ◌>>◌, Many, tok}
use Rattle.query_grammar.specs.Words.{is_function, kind_test_of, axis_of, sign_of, intersect_operator, union_operator, multiply_operator, add_operator, range_operator, comparison_operator, and_operator, or_operator}
use Rattle.static_checks.specs.Static.{IsExpression}
use Rattle.query_laws.specs.Saying.{TakesSoMany, TestSaysName, SaysWell}
use Rattle.query_laws.specs.Standing.{StandsIn}
use Rattle.query_laws.proofs.Forms as form
use Rattle.query_laws.proofs.Forms.{Well, WellNamed, WellOperated, WellBound, WellClause, WellTested, WellSorted, well_and, one}
use Rattle.query_laws.proofs.Keeps.{SaysAll, Keeps, Anything, anything, keeps_pure, keeps_bind, keeps_made, keeps_after, keeps_either, keeps_such, keeps_tok, keeps_stands, keeps_many, keeps_list1, keeps_list0, after, token_for}
use Rattle.query_laws.proofs.Names as names
use Rattle.query_laws.proofs.Written as written

abbrev IsName : List ℕ → Type 0
IsName name = is_name name ≡ true

keeps_name : Keeps IsName g.Name
keeps_name = keeps_made IsName (λ t. t.text) (keeps_such is_name_kind) (λ t h. h.says_all.says.name h.passes)

takes_so_many : (name : List ℕ) (n : ℕ) → TakesSoMany (function_of name n) n
takes_so_many name n = of (function_of name n) refl
  where
    of : (found : Option Function) → function_of name n ≡ found → TakesSoMany found n
    of None h = tt
    of (Some f) h = (called name n f h).1

keeps_var : Keeps IsName g.Var
keeps_var = after k.Dollar keeps_name

-- Operators.

of_list : (xs : List Expr) → All Well xs → Well (g.of_list xs)
of_list [] h = form.sequence [] h
of_list (x ∷ []) h = All-head Well x [] h
of_list (x ∷ y ∷ ys) h = form.sequence (x ∷ y ∷ ys) h

chain_of : (x : Expr) (os : List (Operation Expr)) → Well x → All WellOperated os → Well (g.chain_of x os)
chain_of x [] h all = h
chain_of x (o ∷ os) h all = form.chain x (o ∷ os) h all

module _ (operator : Kind → Option Binary) {P : Lang Expr} (s : Keeps Well P) where
  keeps_operation : Keeps WellOperated (g.OperationOf operator P)
  keeps_operation = keeps_bind (keeps_stands operator) (λ op _. keeps_made WellOperated _ s (λ x h. h))

  keeps_chain : Keeps Well (g.Chain operator P)
  keeps_chain = keeps_bind s (λ x h. keeps_made Well _ (keeps_many keeps_operation) (λ os all. chain_of x os h all))

  keeps_once : Keeps Well (g.AtMostOnce operator P)
  keeps_once = keeps_either s (keeps_bind s (λ x h. keeps_made Well _ keeps_operation
      (λ o i. form.chain x (o ∷ []) h (All-cons WellOperated o [] i (All-nil WellOperated)))))

-- Paths.

keeps_test : Keeps TestSaysName g.Test
keeps_test = keeps_either (keeps_made TestSaysName _ keeps_name (λ name h. h))
    (keeps_either (after k.Star (keeps_pure TestSaysName _ tt))
    (keeps_bind (keeps_stands kind_test_of) (λ kind _. after k.OpenParen (after k.CloseParen (keeps_pure TestSaysName _ tt)))))

abbrev WellAxis : g.AxisStep → Type 0
WellAxis s = TestSaysName s.test

keeps_axis : Keeps WellAxis g.AxisOf
keeps_axis =
    keeps_either (keeps_bind (keeps_stands axis_of) (λ axis _. after k.ColonColon (keeps_made WellAxis _ keeps_test (λ t h. h))))
    (keeps_either (after k.AtSign (keeps_made WellAxis _ keeps_test (λ t h. h)))
    (keeps_either (keeps_made WellAxis _ keeps_test (λ t h. h)) (after k.DotDot (keeps_pure WellAxis _ tt))))

filter_of : (x : Expr) (xs : List Expr) → Well x → All Well xs → Well (g.filter_of x xs)
filter_of x [] h all = h
filter_of x (y ∷ ys) h all = form.filter x (y ∷ ys) h all

abbrev WellStep : g.StepOf → Type 0
WellStep (g.OfAxis s xs) = WellAxis s × All Well xs
WellStep (g.OfPrimary x xs) = Well x × All Well xs

step_of : (s : g.StepOf) → WellStep s → Well (g.step_of s)
step_of (g.OfAxis s xs) h = form.step s.axis s.test xs h.0 h.1
step_of (g.OfPrimary x xs) h = filter_of x xs h.0 h.1

deep : (x : Expr) → Well x → All Well (g.deep x)
deep x h = well_and _ (x ∷ []) (form.step _ _ [] tt (All-nil Well)) (one x h)

deep_axis_step : (s : g.AxisStep) (is_bare : Bool) (xs : List Expr) → WellAxis s → All Well xs → All Well (g.deep_axis_step s is_bare xs)
deep_axis_step s true [] h all = one _ (form.step _ s.test [] h all)
deep_axis_step s true (x ∷ xs) h all = deep _ (form.step s.axis s.test (x ∷ xs) h all)
deep_axis_step s false xs h all = deep _ (form.step s.axis s.test xs h all)

deep_step : (s : g.StepOf) → WellStep s → All Well (g.deep_step s)
deep_step (g.OfAxis s xs) h = deep_axis_step s s.is_bare xs h.0 h.1
deep_step (g.OfPrimary x xs) h = deep (g.filter_of x xs) (filter_of x xs h.0 h.1)

steps_of : (is_deep : Bool) (s : g.StepOf) → WellStep s → All Well (g.steps_of is_deep s)
steps_of true s h = deep_step s h
steps_of false s h = one (g.step_of s) (step_of s h)

path_of : (x : Expr) (xs : List Expr) → Well x → All Well xs → Well (g.path_of x xs)
path_of x [] h all = h
path_of x (y ∷ ys) h all = form.path x (y ∷ ys) h all

signed_of : (signs : List Sign) (x : Expr) → Well x → Well (g.signed_of signs x)
signed_of [] x h = h
signed_of (s ∷ ss) x h = form.signed (s ∷ ss) x h

-- lists one after the other
joined : {A : Type 0} (P : A → Type 0) (lists : List (List A)) → All (All P) lists → All P (flat_map (λ xs. xs) lists)
joined P [] all = All-nil P
joined P (xs ∷ lists) all = All-append P xs (flat_map (λ xs. xs) lists) (All-head (All P) xs lists all) (joined P lists (All-tail (All P) xs lists all))

keeps_slash : Keeps Anything g.Slash
keeps_slash = keeps_either (token_for k.Slash false) (token_for k.SlashSlash true)

-- Rules over those of Single.
module _ {S : Lang Expr} (s : Keeps Well S) where
  keeps_exprs : Keeps Well (g.Exprs S)
  keeps_exprs = keeps_made Well g.of_list (keeps_list1 s) of_list

  keeps_content : Keeps Well (g.Content S)
  keeps_content = keeps_either (keeps_pure Well _ (form.sequence [] (All-nil Well))) keeps_exprs

  -- an expression between two tokens
  between : (opening closing : Kind) {L : Lang Expr} → Keeps Well L → Keeps Well (tok opening >> (L >>= (λ x. tok closing >> pure x)))
  between opening closing l = after opening (keeps_bind l (λ x h. after closing (keeps_pure Well x h)))

  keeps_parens : Keeps Well (g.Parens S)
  keeps_parens = between k.OpenParen k.CloseParen keeps_content

  keeps_braces : Keeps Well (g.Braces S)
  keeps_braces = between k.OpenBrace k.CloseBrace keeps_exprs

  keeps_body : Keeps Well (g.Body S)
  keeps_body = between k.OpenBrace k.CloseBrace keeps_content

  keeps_call : Keeps Well (g.Call S)
  keeps_call = keeps_bind (keeps_such is_function) (λ t h. after k.OpenParen (keeps_bind (keeps_list0 s)
      (λ xs all. after k.CloseParen (keeps_pure Well _ (form.call _ xs (takes_so_many t.text (length xs)) all)))))

  keeps_name_or_braces : Keeps WellNamed (g.NameOrBraces S)
  keeps_name_or_braces = keeps_either (keeps_made WellNamed _ keeps_name (λ name h. h)) (keeps_made WellNamed _ keeps_braces (λ x h. h))

  keeps_named : (kind : Kind) (make : Name Expr → Expr → Expr) → ((n : Name Expr) (x : Expr) → WellNamed n → Well x → Well (make n x)) → Keeps Well (g.Named S kind make)
  keeps_named kind make well = after kind (keeps_bind keeps_name_or_braces (λ n h. keeps_made Well (make n) keeps_body (λ x i. well n x h i)))

  keeps_make : Keeps Well (g.Make S)
  keeps_make =
      keeps_either (keeps_made Well e.Document (after k.Document keeps_braces) form.document)
      (keeps_either (keeps_made Well e.Text (after k.Text keeps_braces) form.text)
      (keeps_either (keeps_made Well e.Comment (after k.Comment keeps_braces) form.comment)
      (keeps_either (keeps_named k.Element e.Element form.element_of)
      (keeps_either (keeps_named k.Attribute e.Attribute form.attribute)
      (keeps_named k.ProcessingInstruction e.Instruction form.instruction)))))

  keeps_primary : Keeps Well (g.Primary S)
  keeps_primary =
      keeps_either (keeps_made Well _ (keeps_tok k.Number) (λ t h. form.integer t.number h.says_all.says.number))
      (keeps_either (keeps_made Well _ (keeps_tok k.String) (λ t h. form.string t.text (h.says_all.string h.passes)))
      (keeps_either (keeps_made Well e.Variable keeps_var form.variable)
      (keeps_either keeps_parens
      (keeps_either (after k.Dot (keeps_pure Well e.Context form.context))
      (keeps_either keeps_call keeps_make)))))

  keeps_predicates : Keeps (All Well) (Many (g.Predicate S))
  keeps_predicates = keeps_many (between k.OpenBracket k.CloseBracket keeps_exprs)

  keeps_step : Keeps WellStep (g.Step S)
  keeps_step =
      keeps_either (keeps_bind keeps_primary (λ x h. keeps_made WellStep (λ xs. g.OfPrimary x xs) keeps_predicates (λ xs all. (h, all))))
      (keeps_bind keeps_axis (λ a h. keeps_made WellStep (λ xs. g.OfAxis a xs) keeps_predicates (λ xs all. (h, all))))

  keeps_segment : Keeps (All Well) (g.Segment S)
  keeps_segment = keeps_bind keeps_slash (λ is_deep _. keeps_made (All Well) (g.steps_of is_deep) keeps_step (steps_of is_deep))

  keeps_path : Keeps Well (g.Path S)
  keeps_path = keeps_bind keeps_step (λ first h. keeps_made Well _ (keeps_many keeps_segment)
      (λ others all. path_of (g.step_of first) (flat_map (λ steps. steps) others) (step_of first h) (joined Well others all)))

  keeps_unary : Keeps Well (g.Unary S)
  keeps_unary = keeps_bind (keeps_many (keeps_stands sign_of)) (λ signs _. keeps_made Well (g.signed_of signs) keeps_path (signed_of signs))

  keeps_add : Keeps Well (g.Add S)
  keeps_add = keeps_chain add_operator (keeps_chain multiply_operator (keeps_chain union_operator (keeps_chain intersect_operator keeps_unary)))

  keeps_or : Keeps Well (g.Or S)
  keeps_or = keeps_chain or_operator (keeps_chain and_operator (keeps_once comparison_operator (keeps_once range_operator keeps_add)))

  keeps_if : Keeps Well (g.If S)
  keeps_if = after k.If (after k.OpenParen (keeps_bind keeps_exprs (λ c h. after k.CloseParen (after k.Then
      (keeps_bind s (λ x i. after k.Else (keeps_made Well (e.If c x) s (λ y j. form.if_ c x y h i j))))))))

  -- Variables that are bound.

  bound_by : (separator : Kind) → Keeps WellBound (g.Var >>= (λ name. tok separator >> (S >>= (λ x. pure (record { variable = name; source = x })))))
  bound_by separator = keeps_bind keeps_var (λ name h. after separator (keeps_made WellBound _ s (λ x i. record { binds = h; source = i })))

  keeps_bind_clause : Keeps WellClause (g.Bind S)
  keeps_bind_clause =
      keeps_either (keeps_made WellClause clause.For (bound_by k.In) (λ b h. record { binds = h.binds; source = h.source }))
      (keeps_bind keeps_var (λ name h. after k.At (keeps_bind keeps_var (λ at i. after k.In (keeps_made WellClause _ s (λ x j. record { binds = (h, i); source = j }))))))

  lets : (bs : List (Binding Expr)) → All WellBound bs → All WellClause (map clause.Let bs)
  lets bs all = All-map WellClause clause.Let bs (λ i b within. record { binds = (all i b within).binds; source = (all i b within).source })

  keeps_clauses : Keeps (All WellClause) (g.Clauses S)
  keeps_clauses = keeps_either (after k.For (keeps_list1 keeps_bind_clause)) (keeps_made (All WellClause) (map clause.Let) (after k.Let (keeps_list1 (bound_by k.Assign))) lets)

  keeps_where : Keeps WellTested (g.Where S)
  keeps_where = keeps_either (keeps_pure WellTested None tt) (keeps_made WellTested Some (after k.Where s) (λ x h. h))

  keeps_direction : Keeps Anything (g.Direction S)
  keeps_direction = keeps_either (keeps_pure Anything false tt) (keeps_either (token_for k.Ascending false) (token_for k.Descending true))

  keeps_key : Keeps WellSorted (g.Key S)
  keeps_key = keeps_bind s (λ x h. keeps_made WellSorted _ keeps_direction (λ descending _. h))

  keeps_keys : Keeps (All WellSorted) (g.OrderBy S)
  keeps_keys = keeps_either (keeps_pure (All WellSorted) [] (All-nil WellSorted)) (keeps_after (after k.Order (keeps_tok k.By)) (keeps_list1 keeps_key))

  keeps_flwor : Keeps Well (g.Flwor S)
  keeps_flwor = keeps_bind keeps_clauses (λ first h. keeps_bind (keeps_many keeps_clauses) (λ others i. keeps_bind keeps_where (λ o j. keeps_bind keeps_keys (λ ks l.
      after k.Return (keeps_made Well _ s (λ x m. form.flwor (first ++ flat_map (λ clauses. clauses) others) o ks x
      (All-append WellClause first (flat_map (λ clauses. clauses) others) h (joined WellClause others i)) j l m))))))

  keeps_quant : Keeps Well (g.Quant S)
  keeps_quant = keeps_bind (keeps_either (token_for k.Some _) (token_for k.Every _)) (λ which _. keeps_bind (keeps_list1 (bound_by k.In))
      (λ bs all. after k.Satisfies (keeps_made Well _ s (λ x h. form.quantified which bs x all h))))

  -- Updates.

  keeps_nodes : Keeps Anything (g.NodeOrNodes S)
  keeps_nodes = keeps_either (anything (keeps_tok k.Node)) (anything (keeps_tok k.Nodes))

  keeps_place : Keeps Anything (g.PlaceOf S)
  keeps_place =
      keeps_either (token_for k.Into _)
      (keeps_either (keeps_after (keeps_after (after k.As (keeps_tok k.First)) (keeps_tok k.Into)) (keeps_pure Anything _ tt))
      (keeps_either (keeps_after (keeps_after (after k.As (keeps_tok k.Last)) (keeps_tok k.Into)) (keeps_pure Anything _ tt))
      (keeps_either (token_for k.After _) (token_for k.Before _))))

  keeps_insert : Keeps Well (g.Insert S)
  keeps_insert = after k.Insert (keeps_after keeps_nodes (keeps_bind s (λ x h. keeps_bind keeps_place (λ place _. keeps_made Well (e.Insert x place) s (λ y i. form.insert x place y h i)))))

  keeps_delete : Keeps Well (g.Delete S)
  keeps_delete = after k.Delete (keeps_after keeps_nodes (keeps_made Well e.Delete s form.delete))

  -- two expressions with a token between them
  two_of : (separator : Kind) (make : Expr → Expr → Expr) → ((x y : Expr) → Well x → Well y → Well (make x y)) → Keeps Well (S >>= (λ x. tok separator >> (S >>= (λ y. pure (make x y)))))
  two_of separator make well = keeps_bind s (λ x h. after separator (keeps_made Well (make x) s (λ y i. well x y h i)))

  keeps_replace : Keeps Well (g.Replace S)
  keeps_replace = keeps_either (after k.Replace (after k.Node (two_of k.With e.ReplaceNode form.replace_node)))
      (after k.Replace (after k.Value (after k.Of (after k.Node (two_of k.With e.ReplaceValue form.replace_value)))))

  keeps_rename : Keeps Well (g.Rename S)
  keeps_rename = after k.Rename (after k.Node (two_of k.As e.Rename form.rename))

  copied : Keeps Well (tok k.Copy >> (g.List1 (g.Set S) >>= (λ bs. tok k.Modify >> (S >>= (λ x. tok k.Return >> (S >>= (λ y. pure (e.Copy bs x y))))))))
  copied = after k.Copy (keeps_bind (keeps_list1 (bound_by k.Assign)) (λ bs all. after k.Modify (two_of k.Return (e.Copy bs) (λ x y h i. form.copy bs x y all h i))))

  keeps_copy : (level : ℕ) → Keeps Well (g.Copy S level)
  keeps_copy level = record { kept = λ ts x rest h all. copied.kept ts x rest h.1 all }

-- nested at most so deep
keeps_single : (level n : ℕ) → Keeps Well (g.SingleOf level n)
keeps_single level zero = record { kept = λ ts x rest h all. absurd h }
keeps_single level (suc n) =
    let s = keeps_single level n in
    keeps_either (keeps_flwor s) (keeps_either (keeps_quant s) (keeps_either (keeps_if s) (keeps_either (keeps_insert s) (keeps_either (keeps_delete s)
    (keeps_either (keeps_replace s) (keeps_either (keeps_rename s) (keeps_either (keeps_copy s level) (keeps_or s))))))))

tokens_say : (level : ℕ) (text : List ℕ) (x : Expr) (h : IsExpression level text x) → All SaysAll h.spelling
tokens_say level text x h = λ i t within. record { says = names.said text h.spelling [] h.read i t within; string = written.strings text h.spelling [] h.read i t within }

pub words : (level : ℕ) (text : List ℕ) (x inner : Expr) → IsExpression level text x → StandsIn inner x → SaysWell (out-Expr inner)
words level text x inner h within = ((keeps_exprs (keeps_single level h.spelt.0)).kept h.spelling x [] h.spelt.1 (tokens_say level text x h)).0 inner within
