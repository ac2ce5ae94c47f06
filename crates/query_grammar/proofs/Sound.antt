-- What is read is spelt so: each reader against its production.
use Rattle.std.proofs.Common.{◌≡◌, ℕ, zero, suc, Bool, true, false, cond, nat_le, List, [], ◌∷◌, length, Option, Some, None, refl, ap, subst, inl, inr}
use Rattle.query_tokens.specs.declared.kind.Kind.{Kind}
use Rattle.query_tokens.specs.declared.kind.Kind.TheVariants as k
use Rattle.query_tokens.specs.declared.token.Token.{Token}
use Rattle.query_tokens.specs.Cursor.{kind_at}
use Rattle.query_tokens.specs.Words.{is_name_kind}
use Rattle.query_grammar.specs.declared.ast.Expr.{Expr}
use Rattle.query_grammar.specs.declared.ast.Expr.TheVariants as e
use Rattle.query_grammar.specs.declared.ast.Binary.{Binary}
use Rattle.query_grammar.specs.declared.ast.Name.{Name as NameOf}
use Rattle.query_grammar.specs.Lang.{Lang, pure as empty, ◌>>=◌ as ◌▹◌, ◌∪◌, Many, tok}
use Rattle.query_grammar.specs.Grammar as g
use Rattle.query_grammar.specs.Words.{axis_of, kind_test_of, is_function, sign_of, intersect_operator, union_operator, multiply_operator, add_operator, range_operator, comparison_operator, and_operator, or_operator}
use Rattle.query_grammar.specs.Reading.{Reader, pure, ◌>>=◌ as ◌▸◌, sees, at_level, eat}
use Rattle.query_grammar.specs.Reader as r
use Rattle.query_grammar.proofs.Steps.{Sound, sound_pure, sound_refuse, sound_bind, sound_such, sound_eat, sound_stands, sound_choose, sound_left, sound_right, sound_many, and_then_some, some_one}

-- a token, and then what follows it
after : {B : Type 0} (kind : Kind) {p : Reader B} {P : Lang B} → Sound p P → Sound (eat kind ▸ (λ _. p)) (tok kind ▹ (λ _. P))
after kind s = sound_bind (sound_eat kind) (λ _. s)

-- a value made of what was read
made : {A B : Type 0} {p : Reader A} {P : Lang A} (f : A → B) → Sound p P → Sound (p ▸ (λ x. pure (f x))) (P ▹ (λ x. empty (f x)))
made f s = sound_bind s (λ x. sound_pure (f x))

sound_list1 : {A : Type 0} {p : Reader A} {P : Lang A} → Sound p P → Sound (r.list1 p) (g.List1 P)
unfolding r.list1
sound_list1 s = sound_bind s (λ x. sound_bind (sound_many (at_level 12) (after k.Comma s)) (λ xs. sound_pure (x ∷ xs)))

sound_name : Sound r.name g.Name
unfolding r.name
sound_name = made (λ t. t.text) (sound_such is_name_kind)

sound_variable : Sound r.variable g.Var
unfolding r.variable
sound_variable = after k.Dollar sound_name

module _ (operator : Kind → Option Binary) {p : Reader Expr} {P : Lang Expr} (s : Sound p P) where
  sound_operation : Sound (r.operation operator p) (g.OperationOf operator P)
  unfolding r.operation
  sound_operation = sound_bind (sound_stands operator) (λ op. sound_bind s (λ x. sound_pure _))

  sound_chain : (level : ℕ) → Sound (r.chain level operator p) (g.Chain operator P)
  unfolding r.chain
  sound_chain level = sound_bind s (λ x. sound_bind (sound_many (at_level level) sound_operation) (λ xs. sound_pure (g.chain_of x xs)))

  once_spells : (x : Expr) (ts0 ts : List Token) (a : Expr) (rest : List Token) → P ts0 x ts → (b : Bool)
      → cond b ((r.operation operator p ▸ (λ o. pure (e.Chain x (o ∷ [])))) ts) (Some (x, ts)) ≡ Some (a, rest) → g.AtMostOnce operator P ts0 a rest
  once_spells x ts0 ts a rest h true e = inr (x, ts, h, (sound_bind sound_operation (λ o. sound_pure _)).spells ts a rest e)
  once_spells x ts0 ts a rest h false e =
      let w = (sound_pure x).spells ts a rest e in inl (subst (λ y. P ts0 y rest) w.0 (subst (P ts0 x) w.1 h))

  sound_once : (level : ℕ) → Sound (r.at_most_once level operator p) (g.AtMostOnce operator P)
  unfolding r.at_most_once
  sound_once level = record {
    spells = λ ts a rest e.
        let h = and_then_some (p ts) _ (a, rest) e in
        once_spells h.0 ts h.1 a rest (s.spells ts h.0 h.1 h.2) (at_level level h.1) h.3;
  }

sound_test : Sound r.node_test g.Test
unfolding r.node_test r.kind_test
sound_test =
    sound_choose (sees 0 k.Star) (sound_right (sound_left (after k.Star (sound_pure _))))
    (sound_choose r.sees_kind_test
    (sound_right (sound_right (sound_bind (sound_stands kind_test_of) (λ kind. after k.OpenParen (after k.CloseParen (sound_pure _))))))
    (sound_left (sound_bind sound_name (λ x. sound_pure _))))

sound_axis : Sound r.axis_step g.AxisOf
unfolding r.axis_step r.named_axis r.attribute_step
sound_axis =
    sound_choose (sees 0 k.AtSign) (sound_right (sound_left (after k.AtSign (sound_bind sound_test (λ x. sound_pure _)))))
    (sound_choose (sees 0 k.DotDot) (sound_right (sound_right (sound_right (after k.DotDot (sound_pure _)))))
    (sound_choose (sees 1 k.ColonColon)
    (sound_left (sound_bind (sound_stands axis_of) (λ a. after k.ColonColon (sound_bind sound_test (λ x. sound_pure _)))))
    (sound_right (sound_right (sound_left (sound_bind sound_test (λ x. sound_pure _)))))))

sound_slash : Sound r.slash g.Slash
unfolding r.slash
sound_slash = sound_choose (sees 0 k.Slash) (sound_left (after k.Slash (sound_pure false))) (sound_right (after k.SlashSlash (sound_pure true)))

module _ {p : Reader Expr} {S : Lang Expr} (s : Sound p S) where
  sound_exprs : Sound (r.exprs p) (g.Exprs S)
  unfolding r.exprs
  sound_exprs = made g.of_list (sound_list1 s)

  sound_content : (closing : Kind) → Sound (r.content p closing) (g.Content S)
  unfolding r.content
  sound_content closing = sound_choose (sees 0 closing) (sound_left (sound_pure _)) (sound_right sound_exprs)

  sound_parens : Sound (r.parens p) (g.Parens S)
  unfolding r.parens
  sound_parens = after k.OpenParen (sound_bind (sound_content k.CloseParen) (λ x. after k.CloseParen (sound_pure x)))

  sound_braces : Sound (r.braces p) (g.Braces S)
  unfolding r.braces
  sound_braces = after k.OpenBrace (sound_bind sound_exprs (λ x. after k.CloseBrace (sound_pure x)))

  sound_body : Sound (r.body p) (g.Body S)
  unfolding r.body
  sound_body = after k.OpenBrace (sound_bind (sound_content k.CloseBrace) (λ x. after k.CloseBrace (sound_pure x)))

  sound_call : Sound (r.call p) (g.Call S)
  unfolding r.call r.arguments
  sound_call = sound_bind (sound_such is_function) (λ name. after k.OpenParen (sound_bind
      (sound_choose (sees 0 k.CloseParen) (sound_left (sound_pure _)) (sound_right (sound_list1 s)))
      (λ xs. after k.CloseParen (sound_pure _))))

  sound_name_or_braces : Sound (r.name_or_braces p) (g.NameOrBraces S)
  unfolding r.name_or_braces
  sound_name_or_braces = sound_choose (sees 0 k.OpenBrace) (sound_right (sound_bind sound_braces (λ x. sound_pure _))) (sound_left (sound_bind sound_name (λ x. sound_pure _)))

  sound_named : (kind : Kind) (make : NameOf Expr → Expr → Expr) → Sound (r.named p kind make) (g.Named S kind make)
  unfolding r.named
  sound_named kind make = after kind (sound_bind sound_name_or_braces (λ x. sound_bind sound_body (λ y. sound_pure (make x y))))

  sound_make_by : (kind : Kind) → Sound (r.make_by p kind) (g.Make S)
  sound_make_by k.Document = sound_left (sound_bind (after k.Document sound_braces) (λ x. sound_pure _))
  sound_make_by k.Text = sound_right (sound_left (sound_bind (after k.Text sound_braces) (λ x. sound_pure _)))
  sound_make_by k.Comment = sound_right (sound_right (sound_left (sound_bind (after k.Comment sound_braces) (λ x. sound_pure _))))
  sound_make_by k.Element = sound_right (sound_right (sound_right (sound_left (sound_named k.Element _))))
  sound_make_by k.Attribute = sound_right (sound_right (sound_right (sound_right (sound_left (sound_named k.Attribute _)))))
  sound_make_by k.ProcessingInstruction = sound_right (sound_right (sound_right (sound_right (sound_right (sound_named k.ProcessingInstruction _)))))
  sound_make_by _ = sound_refuse _

  sound_make : Sound (r.make p) (g.Make S)
  unfolding r.make
  sound_make = record { spells = λ ts a rest e. (sound_make_by (kind_at 0 ts)).spells ts a rest e }

  call_or_make : Sound (λ ts. cond (sees 1 k.OpenParen ts) (r.call p ts) (r.make p ts)) (g.Primary S)
  call_or_make = sound_right (sound_right (sound_right (sound_right (sound_right
      (sound_choose (sees 1 k.OpenParen) (sound_left sound_call) (sound_right sound_make))))))

  sound_primary_by : (kind : Kind) → Sound (r.primary_by p kind) (g.Primary S)
  sound_primary_by k.Number = sound_left (sound_bind (sound_eat k.Number) (λ t. sound_pure _))
  sound_primary_by k.String = sound_right (sound_left (sound_bind (sound_eat k.String) (λ t. sound_pure _)))
  sound_primary_by k.Dollar = sound_right (sound_right (sound_left (sound_bind sound_variable (λ x. sound_pure _))))
  sound_primary_by k.OpenParen = sound_right (sound_right (sound_right (sound_left sound_parens)))
  sound_primary_by k.Dot = sound_right (sound_right (sound_right (sound_right (sound_left (after k.Dot (sound_pure _))))))
  sound_primary_by _ = call_or_make

  sound_primary : Sound (r.primary p) (g.Primary S)
  unfolding r.primary
  sound_primary = record { spells = λ ts a rest e. (sound_primary_by (kind_at 0 ts)).spells ts a rest e }

  sound_predicates : Sound (r.predicates p) (Many (g.Predicate S))
  unfolding r.predicates r.predicate
  sound_predicates = sound_many (at_level 1) (after k.OpenBracket (sound_bind sound_exprs (λ x. after k.CloseBracket (sound_pure x))))

  sound_step : Sound (r.step p) (g.Step S)
  unfolding r.step
  sound_step = sound_choose r.sees_primary
      (sound_left (sound_bind sound_primary (λ x. sound_bind sound_predicates (λ xs. sound_pure _))))
      (sound_right (sound_bind sound_axis (λ x. sound_bind sound_predicates (λ xs. sound_pure _))))

  sound_path : Sound (r.path p) (g.Path S)
  unfolding r.path r.segment
  sound_path = sound_bind sound_step (λ x. sound_bind
      (sound_many (at_level 2) (sound_bind sound_slash (λ deep. sound_bind sound_step (λ y. sound_pure _)))) (λ xs. sound_pure _))

  sound_unary : Sound (r.unary p) (g.Unary S)
  unfolding r.unary
  sound_unary = sound_bind (sound_many r.sees_sign (sound_stands sign_of)) (λ signs. sound_bind sound_path (λ x. sound_pure _))

  sound_addition : Sound (r.addition p) (g.Add S)
  unfolding r.addition r.multiplication r.union r.inter
  sound_addition = sound_chain add_operator (sound_chain multiply_operator (sound_chain union_operator (sound_chain intersect_operator sound_unary 3) 4) 5) 6

  sound_disjunction : Sound (r.disjunction p) (g.Or S)
  unfolding r.disjunction r.conjunction r.comparison r.range
  sound_disjunction = sound_chain or_operator (sound_chain and_operator (sound_once comparison_operator (sound_once range_operator sound_addition 7) 8) 9) 10

  sound_conditional : Sound (r.conditional p) (g.If S)
  unfolding r.conditional
  sound_conditional = after k.If (after k.OpenParen (sound_bind sound_exprs (λ c. after k.CloseParen (after k.Then
      (sound_bind s (λ x. after k.Else (sound_bind s (λ y. sound_pure _))))))))

  sound_in : Sound (r.in_binding p) (g.In S)
  unfolding r.in_binding
  sound_in = sound_bind sound_variable (λ name. after k.In (sound_bind s (λ x. sound_pure _)))

  sound_set : Sound (r.set_binding p) (g.Set S)
  unfolding r.set_binding
  sound_set = sound_bind sound_variable (λ name. after k.Assign (sound_bind s (λ x. sound_pure _)))

  sound_for : Sound (r.for_binding p) (g.Bind S)
  unfolding r.for_binding r.at_binding
  sound_for = sound_choose (sees 2 k.At)
      (sound_right (sound_bind sound_variable (λ name. after k.At (sound_bind sound_variable (λ at. after k.In (sound_bind s (λ x. sound_pure _)))))))
      (sound_left (sound_bind sound_in (λ b. sound_pure _)))

  sound_clauses : Sound (r.clauses p) (g.Clauses S)
  unfolding r.clauses
  sound_clauses = sound_choose (sees 0 k.For) (sound_left (after k.For (sound_list1 sound_for)))
      (sound_right (sound_bind (after k.Let (sound_list1 sound_set)) (λ sets. sound_pure _)))

  sound_condition : Sound (r.condition p) (g.Where S)
  unfolding r.condition
  sound_condition = sound_choose (at_level 14) (sound_right (sound_bind (after k.Where s) (λ x. sound_pure _))) (sound_left (sound_pure _))

  sound_direction : Sound (r.direction p) (g.Direction S)
  unfolding r.direction
  sound_direction = sound_choose (sees 0 k.Ascending) (sound_right (sound_left (after k.Ascending (sound_pure _))))
      (sound_choose (sees 0 k.Descending) (sound_right (sound_right (after k.Descending (sound_pure _)))) (sound_left (sound_pure _)))

  sound_keys : Sound (r.keys p) (g.OrderBy S)
  unfolding r.keys r.key
  sound_keys = sound_choose (at_level 15)
      (sound_right (sound_bind (after k.Order (sound_eat k.By)) (λ _. sound_list1 (sound_bind s (λ x. sound_bind sound_direction (λ d. sound_pure _))))))
      (sound_left (sound_pure _))

  sound_flwor : Sound (r.flwor p) (g.Flwor S)
  unfolding r.flwor
  sound_flwor = sound_bind sound_clauses (λ first. sound_bind (sound_many (at_level 13) sound_clauses) (λ others.
      sound_bind sound_condition (λ test. sound_bind sound_keys (λ keys. after k.Return (sound_bind s (λ x. sound_pure _))))))

  sound_quantified : Sound (r.quantified p) (g.Quant S)
  unfolding r.quantified r.which
  sound_quantified = sound_bind
      (sound_choose (sees 0 k.Some) (sound_left (after k.Some (sound_pure _))) (sound_right (after k.Every (sound_pure _))))
      (λ which. sound_bind (sound_list1 sound_in) (λ bindings. after k.Satisfies (sound_bind s (λ x. sound_pure _))))

  sound_nodes : Sound (r.node_or_nodes p) (g.NodeOrNodes S)
  unfolding r.node_or_nodes
  sound_nodes = sound_choose (sees 0 k.Node) (sound_left (sound_eat k.Node)) (sound_right (sound_eat k.Nodes))

  sound_place : Sound (r.place_of p) (g.PlaceOf S)
  unfolding r.place_of
  sound_place =
      sound_choose (sees 0 k.Into) (sound_left (after k.Into (sound_pure _)))
      (sound_choose (sees 0 k.After) (sound_right (sound_right (sound_right (sound_left (after k.After (sound_pure _))))))
      (sound_choose (sees 0 k.Before) (sound_right (sound_right (sound_right (sound_right (after k.Before (sound_pure _))))))
      (sound_choose (sees 1 k.First)
      (sound_right (sound_left (sound_bind (sound_bind (after k.As (sound_eat k.First)) (λ _. sound_eat k.Into)) (λ _. sound_pure _))))
      (sound_right (sound_right (sound_left (sound_bind (sound_bind (after k.As (sound_eat k.Last)) (λ _. sound_eat k.Into)) (λ _. sound_pure _))))))))

  sound_insertion : Sound (r.insertion p) (g.Insert S)
  unfolding r.insertion
  sound_insertion = after k.Insert (sound_bind sound_nodes (λ _. sound_bind s (λ x. sound_bind sound_place (λ place. sound_bind s (λ y. sound_pure _)))))

  sound_deletion : Sound (r.deletion p) (g.Delete S)
  unfolding r.deletion
  sound_deletion = after k.Delete (sound_bind sound_nodes (λ _. sound_bind s (λ x. sound_pure _)))

  sound_replacement : Sound (r.replacement p) (g.Replace S)
  unfolding r.replacement r.replace_node r.replace_value
  sound_replacement = sound_choose (sees 1 k.Node)
      (sound_left (after k.Replace (after k.Node (sound_bind s (λ x. after k.With (sound_bind s (λ y. sound_pure _)))))))
      (sound_right (after k.Replace (after k.Value (after k.Of (after k.Node (sound_bind s (λ x. after k.With (sound_bind s (λ y. sound_pure _)))))))))

  sound_renaming : Sound (r.renaming p) (g.Rename S)
  unfolding r.renaming
  sound_renaming = after k.Rename (after k.Node (sound_bind s (λ x. after k.As (sound_bind s (λ y. sound_pure _)))))

  copy_spells : (level : ℕ) (ts : List Token) (a : Expr) (rest : List Token) (b : Bool) → nat_le 2 level ≡ b
      → cond b (r.copying p ts) None ≡ Some (a, rest) → g.Copy S level ts a rest
  unfolding r.copying
  copy_spells level ts a rest true known e = (
    known,
    (after k.Copy (sound_bind (sound_list1 sound_set) (λ bindings. after k.Modify
        (sound_bind s (λ x. after k.Return (sound_bind s (λ y. sound_pure _))))))).spells ts a rest e,
  )
  copy_spells level ts a rest false known e = absurd (let w : ⊥ = cc in w)

  sound_copy : (level : ℕ) → Sound (r.copy p level) (g.Copy S level)
  unfolding r.copy
  sound_copy level = record { spells = λ ts a rest e. copy_spells level ts a rest (nat_le 2 level) refl e }

  sound_form : (level : ℕ) (form : r.Form) → Sound (r.read_form p level form)
      (g.Flwor S ∪ (g.Quant S ∪ (g.If S ∪ (g.Insert S ∪ (g.Delete S ∪ (g.Replace S ∪ (g.Rename S ∪ (g.Copy S level ∪ g.Or S))))))))
  sound_form level r.FlworForm = sound_left sound_flwor
  sound_form level r.QuantifiedForm = sound_right (sound_left sound_quantified)
  sound_form level r.IfForm = sound_right (sound_right (sound_left sound_conditional))
  sound_form level r.InsertForm = sound_right (sound_right (sound_right (sound_left sound_insertion)))
  sound_form level r.DeleteForm = sound_right (sound_right (sound_right (sound_right (sound_left sound_deletion))))
  sound_form level r.ReplaceForm = sound_right (sound_right (sound_right (sound_right (sound_right (sound_left sound_replacement)))))
  sound_form level r.RenameForm = sound_right (sound_right (sound_right (sound_right (sound_right (sound_right (sound_left sound_renaming))))))
  sound_form level r.CopyForm = sound_right (sound_right (sound_right (sound_right (sound_right (sound_right (sound_right (sound_left (sound_copy level))))))))
  sound_form level r.OrForm = sound_right (sound_right (sound_right (sound_right (sound_right (sound_right (sound_right (sound_right sound_disjunction)))))))

-- nested at most so deep
sound_single : (level n : ℕ) → Sound (r.single level n) (g.SingleOf level n)
unfolding r.single r.single_of
sound_single level zero = sound_refuse _
sound_single level (suc n) = record { spells = λ ts a rest e. (sound_form (sound_single level n) level (r.form_of (kind_at 0 ts) (kind_at 1 ts))).spells ts a rest e }

whole_some : (o : Option (Expr × List Token)) (x : Expr) → r.whole o ≡ Some x → o ≡ Some (x, [])
whole_some None x h = absurd (let w : ⊥ = cc in w)
whole_some (Some (y, [])) x h = ap (λ z. Some (z, [])) (some_one h)
whole_some (Some (y, t ∷ ts)) x h = absurd (let w : ⊥ = cc in w)

pub sound_query : (level : ℕ) (ts : List Token) (x : Expr) → r.query level ts ≡ Some x → g.IsQuery level ts x
unfolding r.query
sound_query level ts x h = (suc (length ts), (sound_exprs (sound_single level (suc (length ts)))).spells ts x [] (whole_some _ x h))
