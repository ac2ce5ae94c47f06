-- Readers take tokens off, and put none back.
use Rattle.std.proofs.Common.{◌≡◌, ℕ, zero, suc, ◌<◌, ◌≤◌, Bool, true, false, cond, nat_le, List, [], ◌∷◌, ◌++◌, length, Option, Some, ap, arith}
use Rattle.query_tokens.specs.declared.kind.Kind.{Kind}
use Rattle.query_tokens.specs.declared.kind.Kind.TheVariants as k
use Rattle.query_tokens.specs.declared.token.Token.{Token}
use Rattle.query_tokens.specs.Cursor.{kind_at}
use Rattle.query_tokens.specs.Words.{is_name_kind}
use Rattle.query_grammar.specs.declared.ast.Expr.{Expr}
use Rattle.query_grammar.specs.declared.ast.Binary.{Binary}
use Rattle.query_grammar.specs.declared.ast.Name.{Name as NameOf}
use Rattle.query_grammar.specs.Reading.{Reader, and_then, pure, refuse, ◌>>=◌, ◌>>◌, choose, sees, at_level, take_if, eat, take_as, rounds, many}
use Rattle.query_grammar.specs.Words.{axis_of, kind_test_of, is_function, sign_of, intersect_operator, union_operator, multiply_operator, add_operator, range_operator, comparison_operator, and_operator, or_operator}
use Rattle.query_grammar.specs.Reader as r
use Rattle.query_grammar.proofs.Steps.{some_one, and_then_some, sound_such, sound_stands}

-- no more tokens are left than there were
pub record Keeps {A : Type 0} (p : Reader A) : Type 0 where
  pub no_longer : (ts : List Token) (a : A) (rest : List Token) → p ts ≡ Some (a, rest) → length rest ≤ length ts

-- fewer tokens are left
pub record Shrinks {A : Type 0} (p : Reader A) : Type 0 where
  pub shorter : (ts : List Token) (a : A) (rest : List Token) → p ts ≡ Some (a, rest) → length rest < length ts

pub kept : {A : Type 0} {p : Reader A} → Shrinks p → Keeps p
kept s = record { no_longer = λ ts a rest h. omega (arith, s.shorter ts a rest h) }

pub keeps_pure : {A : Type 0} (a : A) → Keeps (pure a)
keeps_pure a = record { no_longer = λ ts b rest h. let e : ts ≡ rest = ap (λ p. p.1) (some_one h) in omega (arith, ap length e) }

pub keeps_refuse : {A : Type 0} → Keeps (refuse {A = A})
keeps_refuse = record { no_longer = λ ts b rest h. absurd (let e : ⊥ = cc in e) }

pub keeps_bind : {A B : Type 0} {p : Reader A} {f : A → Reader B} → Keeps p → ((a : A) → Keeps (f a)) → Keeps (p >>= f)
keeps_bind {p = p} {f = f} s t = record {
  no_longer = λ ts b rest e.
      let h = and_then_some (p ts) f (b, rest) e in omega (arith, s.no_longer ts h.0 h.1 h.2, (t h.0).no_longer h.1 b rest h.3);
}

pub shrinks_bind : {A B : Type 0} {p : Reader A} {f : A → Reader B} → Shrinks p → ((a : A) → Keeps (f a)) → Shrinks (p >>= f)
shrinks_bind {p = p} {f = f} s t = record {
  shorter = λ ts b rest e.
      let h = and_then_some (p ts) f (b, rest) e in omega (arith, s.shorter ts h.0 h.1 h.2, (t h.0).no_longer h.1 b rest h.3);
}

pub keeps_choose : {A : Type 0} {p q : Reader A} (test : List Token → Bool) → Keeps p → Keeps q → Keeps (choose test p q)
keeps_choose {p = p} {q = q} test s t = record { no_longer = λ ts a rest. go ts a rest (test ts) }
  where
    go : (ts : List Token) (a : _) (rest : List Token) (b : Bool) → cond b (p ts) (q ts) ≡ Some (a, rest) → length rest ≤ length ts
    go ts a rest true e = s.no_longer ts a rest e
    go ts a rest false e = t.no_longer ts a rest e

pub shrinks_choose : {A : Type 0} {p q : Reader A} (test : List Token → Bool) → Shrinks p → Shrinks q → Shrinks (choose test p q)
shrinks_choose {p = p} {q = q} test s t = record { shorter = λ ts a rest. go ts a rest (test ts) }
  where
    go : (ts : List Token) (a : _) (rest : List Token) (b : Bool) → cond b (p ts) (q ts) ≡ Some (a, rest) → length rest < length ts
    go ts a rest true e = s.shorter ts a rest e
    go ts a rest false e = t.shorter ts a rest e

pub shrinks_such : (p : Kind → Bool) → Shrinks (take_if p)
shrinks_such p = record { shorter = λ ts t rest h. omega (arith, ap length ((sound_such p).spells ts t rest h).0) }

pub shrinks_as : {A : Type 0} (f : Kind → Option A) → Shrinks (take_as f)
shrinks_as f = record {
  shorter = λ ts a rest h. let w = (sound_stands f).spells ts a rest h in omega (arith, ap length w.1);
}

pub shrinks_eat : (kind : Kind) → Shrinks (eat kind)
shrinks_eat kind = shrinks_such _

-- a token, and then what puts none back
pub after : {B : Type 0} (kind : Kind) {q : Reader B} → Keeps q → Shrinks (eat kind >> q)
after kind s = shrinks_bind (shrinks_eat kind) (λ _. s)

pub past : {B : Type 0} (kind : Kind) {q : Reader B} → Keeps q → Keeps (eat kind >> q)
past kind s = kept (after kind s)

module _ {A : Type 0} (goes_on : List Token → Bool) {item : Reader A} (s : Keeps item) where
  turn_keeps : (xs : List A) (ts : List Token) (ys : List A) (rest : List Token) (next : List A → Reader (List A))
      → ((x : A) (mid : List Token) → next (xs ++ x ∷ []) mid ≡ Some (ys, rest) → length rest ≤ length mid)
      → (b : Bool) → cond b (and_then (item ts) (λ x. next (xs ++ x ∷ []))) (Some (xs, ts)) ≡ Some (ys, rest) → length rest ≤ length ts
  turn_keeps xs ts ys rest next ih true e =
      let h = and_then_some (item ts) (λ x. next (xs ++ x ∷ [])) (ys, rest) e in omega (arith, s.no_longer ts h.0 h.1 h.2, ih h.0 h.1 h.3)
  turn_keeps xs ts ys rest next ih false e = (keeps_pure xs).no_longer ts ys rest e

  rounds_keeps : (n : ℕ) (xs : List A) (ts : List Token) (ys : List A) (rest : List Token) → rounds goes_on item n xs ts ≡ Some (ys, rest) → length rest ≤ length ts
  unfolding rounds
  rounds_keeps zero xs ts ys rest e = (keeps_pure xs).no_longer ts ys rest e
  rounds_keeps (suc n) xs ts ys rest e = turn_keeps xs ts ys rest (rounds goes_on item n) (λ x mid. rounds_keeps n (xs ++ x ∷ []) mid ys rest) (goes_on ts) e

  pub keeps_many : Keeps (many goes_on item)
  keeps_many = record { no_longer = λ ts. rounds_keeps (length ts) [] ts }

pub keeps_list1 : {A : Type 0} {p : Reader A} → Keeps p → Keeps (r.list1 p)
unfolding r.list1
keeps_list1 s = keeps_bind s (λ x. keeps_bind (keeps_many (at_level 12) (past k.Comma s)) (λ xs. keeps_pure _))

keeps_name : Keeps r.name
unfolding r.name
keeps_name = kept (shrinks_bind (shrinks_such is_name_kind) (λ t. keeps_pure _))

pub shrinks_variable : Shrinks r.variable
unfolding r.variable
shrinks_variable = after k.Dollar keeps_name

keeps_test : Keeps r.node_test
unfolding r.node_test r.kind_test
keeps_test =
    keeps_choose (sees 0 k.Star) (past k.Star (keeps_pure _))
    (keeps_choose r.sees_kind_test
    (keeps_bind (kept (shrinks_as kind_test_of)) (λ kind. past k.OpenParen (past k.CloseParen (keeps_pure _))))
    (keeps_bind keeps_name (λ x. keeps_pure _)))

keeps_axis : Keeps r.axis_step
unfolding r.axis_step r.named_axis r.attribute_step
keeps_axis =
    keeps_choose (sees 0 k.AtSign) (past k.AtSign (keeps_bind keeps_test (λ x. keeps_pure _)))
    (keeps_choose (sees 0 k.DotDot) (past k.DotDot (keeps_pure _))
    (keeps_choose (sees 1 k.ColonColon)
    (keeps_bind (kept (shrinks_as axis_of)) (λ a. past k.ColonColon (keeps_bind keeps_test (λ x. keeps_pure _))))
    (keeps_bind keeps_test (λ x. keeps_pure _))))

keeps_slash : Keeps r.slash
unfolding r.slash
keeps_slash = keeps_choose (sees 0 k.Slash) (past k.Slash (keeps_pure false)) (past k.SlashSlash (keeps_pure true))

module _ (operator : Kind → Option Binary) {p : Reader Expr} (s : Keeps p) where
  keeps_operation : Keeps (r.operation operator p)
  unfolding r.operation
  keeps_operation = keeps_bind (kept (shrinks_as operator)) (λ op. keeps_bind s (λ x. keeps_pure _))

  keeps_chain : (level : ℕ) → Keeps (r.chain level operator p)
  unfolding r.chain
  keeps_chain level = keeps_bind s (λ x. keeps_bind (keeps_many (at_level level) keeps_operation) (λ xs. keeps_pure _))

  keeps_once : (level : ℕ) → Keeps (r.at_most_once level operator p)
  unfolding r.at_most_once
  keeps_once level = keeps_bind s (λ x. keeps_choose (at_level level) (keeps_bind keeps_operation (λ y. keeps_pure _)) (keeps_pure _))

pub keeps_direction : (p : Reader Expr) → Keeps (r.direction p)
unfolding r.direction
keeps_direction p = keeps_choose (sees 0 k.Ascending) (past k.Ascending (keeps_pure _)) (keeps_choose (sees 0 k.Descending) (past k.Descending (keeps_pure _)) (keeps_pure _))

pub shrinks_which : (p : Reader Expr) → Shrinks (r.which p)
unfolding r.which
shrinks_which p = shrinks_choose (sees 0 k.Some) (after k.Some (keeps_pure _)) (after k.Every (keeps_pure _))

pub shrinks_nodes : (p : Reader Expr) → Shrinks (r.node_or_nodes p)
unfolding r.node_or_nodes
shrinks_nodes p = shrinks_choose (sees 0 k.Node) (shrinks_eat k.Node) (shrinks_eat k.Nodes)

-- three tokens
three : {A : Type 0} (a b c : Kind) (x : A) → Shrinks (eat a >> eat b >> eat c >> pure x)
three a b c x = shrinks_bind (shrinks_bind (shrinks_bind (shrinks_eat a) (λ _. kept (shrinks_eat b))) (λ _. kept (shrinks_eat c))) (λ _. keeps_pure x)

pub shrinks_place : (p : Reader Expr) → Shrinks (r.place_of p)
unfolding r.place_of
shrinks_place p =
    shrinks_choose (sees 0 k.Into) (after k.Into (keeps_pure _))
    (shrinks_choose (sees 0 k.After) (after k.After (keeps_pure _))
    (shrinks_choose (sees 0 k.Before) (after k.Before (keeps_pure _))
    (shrinks_choose (sees 1 k.First) (three k.As k.First k.Into _) (three k.As k.Last k.Into _))))

module _ {p : Reader Expr} (s : Keeps p) where
  pub keeps_exprs : Keeps (r.exprs p)
  unfolding r.exprs
  keeps_exprs = keeps_bind (keeps_list1 s) (λ xs. keeps_pure _)

  keeps_content : (closing : Kind) → Keeps (r.content p closing)
  unfolding r.content
  keeps_content closing = keeps_choose (sees 0 closing) (keeps_pure _) keeps_exprs

  keeps_parens : Keeps (r.parens p)
  unfolding r.parens
  keeps_parens = past k.OpenParen (keeps_bind (keeps_content k.CloseParen) (λ x. past k.CloseParen (keeps_pure x)))

  keeps_braces : Keeps (r.braces p)
  unfolding r.braces
  keeps_braces = past k.OpenBrace (keeps_bind keeps_exprs (λ x. past k.CloseBrace (keeps_pure x)))

  keeps_body : Keeps (r.body p)
  unfolding r.body
  keeps_body = past k.OpenBrace (keeps_bind (keeps_content k.CloseBrace) (λ x. past k.CloseBrace (keeps_pure x)))

  keeps_call : Keeps (r.call p)
  unfolding r.call r.arguments
  keeps_call = keeps_bind (kept (shrinks_such is_function)) (λ name. past k.OpenParen (keeps_bind
      (keeps_choose (sees 0 k.CloseParen) (keeps_pure _) (keeps_list1 s))
      (λ xs. past k.CloseParen (keeps_pure _))))

  keeps_name_or_braces : Keeps (r.name_or_braces p)
  unfolding r.name_or_braces
  keeps_name_or_braces = keeps_choose (sees 0 k.OpenBrace) (keeps_bind keeps_braces (λ x. keeps_pure _)) (keeps_bind keeps_name (λ x. keeps_pure _))

  keeps_named : (kind : Kind) (make : NameOf Expr → Expr → Expr) → Keeps (r.named p kind make)
  unfolding r.named
  keeps_named kind make = past kind (keeps_bind keeps_name_or_braces (λ x. keeps_bind keeps_body (λ y. keeps_pure (make x y))))

  keeps_plain : (kind : Kind) (make : Expr → Expr) → Keeps ((eat kind >> r.braces p) >>= (λ x. pure (make x)))
  keeps_plain kind make = keeps_bind (past kind keeps_braces) (λ x. keeps_pure (make x))

  keeps_make_by : (kind : Kind) → Keeps (r.make_by p kind)
  keeps_make_by k.Document = keeps_plain k.Document _
  keeps_make_by k.Text = keeps_plain k.Text _
  keeps_make_by k.Comment = keeps_plain k.Comment _
  keeps_make_by k.Element = keeps_named k.Element _
  keeps_make_by k.Attribute = keeps_named k.Attribute _
  keeps_make_by k.ProcessingInstruction = keeps_named k.ProcessingInstruction _
  keeps_make_by _ = keeps_refuse

  keeps_make : Keeps (r.make p)
  unfolding r.make
  keeps_make = record { no_longer = λ ts. (keeps_make_by (kind_at 0 ts)).no_longer ts }

  call_or_make : Keeps (choose (sees 1 k.OpenParen) (r.call p) (r.make p))
  call_or_make = keeps_choose (sees 1 k.OpenParen) keeps_call keeps_make

  keeps_primary_by : (kind : Kind) → Keeps (r.primary_by p kind)
  keeps_primary_by k.Number = keeps_bind (kept (shrinks_eat k.Number)) (λ t. keeps_pure _)
  keeps_primary_by k.String = keeps_bind (kept (shrinks_eat k.String)) (λ t. keeps_pure _)
  keeps_primary_by k.Dollar = keeps_bind (kept shrinks_variable) (λ x. keeps_pure _)
  keeps_primary_by k.OpenParen = keeps_parens
  keeps_primary_by k.Dot = past k.Dot (keeps_pure _)
  keeps_primary_by _ = call_or_make

  keeps_primary : Keeps (r.primary p)
  unfolding r.primary
  keeps_primary = record { no_longer = λ ts. (keeps_primary_by (kind_at 0 ts)).no_longer ts }

  keeps_predicates : Keeps (r.predicates p)
  unfolding r.predicates r.predicate
  keeps_predicates = keeps_many (at_level 1) (past k.OpenBracket (keeps_bind keeps_exprs (λ x. past k.CloseBracket (keeps_pure x))))

  keeps_step : Keeps (r.step p)
  unfolding r.step
  keeps_step = keeps_choose r.sees_primary
      (keeps_bind keeps_primary (λ x. keeps_bind keeps_predicates (λ xs. keeps_pure _)))
      (keeps_bind keeps_axis (λ x. keeps_bind keeps_predicates (λ xs. keeps_pure _)))

  keeps_path : Keeps (r.path p)
  unfolding r.path r.segment
  keeps_path = keeps_bind keeps_step (λ x. keeps_bind
      (keeps_many (at_level 2) (keeps_bind keeps_slash (λ deep. keeps_bind keeps_step (λ y. keeps_pure _)))) (λ xs. keeps_pure _))

  keeps_unary : Keeps (r.unary p)
  unfolding r.unary
  keeps_unary = keeps_bind (keeps_many r.sees_sign (kept (shrinks_as sign_of))) (λ signs. keeps_bind keeps_path (λ x. keeps_pure _))

  keeps_addition : Keeps (r.addition p)
  unfolding r.addition r.multiplication r.union r.inter
  keeps_addition = keeps_chain add_operator (keeps_chain multiply_operator (keeps_chain union_operator (keeps_chain intersect_operator keeps_unary 3) 4) 5) 6

  pub keeps_disjunction : Keeps (r.disjunction p)
  unfolding r.disjunction r.conjunction r.comparison r.range
  keeps_disjunction = keeps_chain or_operator (keeps_chain and_operator (keeps_once comparison_operator (keeps_once range_operator keeps_addition 7) 8) 9) 10

  keeps_conditional : Keeps (r.conditional p)
  unfolding r.conditional
  keeps_conditional = past k.If (past k.OpenParen (keeps_bind keeps_exprs (λ c. past k.CloseParen (past k.Then
      (keeps_bind s (λ x. past k.Else (keeps_bind s (λ y. keeps_pure _))))))))

  pub keeps_in : Keeps (r.in_binding p)
  unfolding r.in_binding
  keeps_in = keeps_bind (kept shrinks_variable) (λ name. past k.In (keeps_bind s (λ x. keeps_pure _)))

  pub keeps_set : Keeps (r.set_binding p)
  unfolding r.set_binding
  keeps_set = keeps_bind (kept shrinks_variable) (λ name. past k.Assign (keeps_bind s (λ x. keeps_pure _)))

  pub keeps_for : Keeps (r.for_binding p)
  unfolding r.for_binding r.at_binding
  keeps_for = keeps_choose (sees 2 k.At)
      (keeps_bind (kept shrinks_variable) (λ name. past k.At (keeps_bind (kept shrinks_variable) (λ at. past k.In (keeps_bind s (λ x. keeps_pure _))))))
      (keeps_bind keeps_in (λ b. keeps_pure _))

  pub shrinks_clauses : Shrinks (r.clauses p)
  unfolding r.clauses
  shrinks_clauses = shrinks_choose (sees 0 k.For) (after k.For (keeps_list1 keeps_for))
      (shrinks_bind (after k.Let (keeps_list1 keeps_set)) (λ sets. keeps_pure _))

  keeps_condition : Keeps (r.condition p)
  unfolding r.condition
  keeps_condition = keeps_choose (at_level 14) (keeps_bind (past k.Where s) (λ x. keeps_pure _)) (keeps_pure _)

  pub keeps_key : Keeps (r.key p)
  unfolding r.key
  keeps_key = keeps_bind s (λ x. keeps_bind (keeps_direction p) (λ d. keeps_pure _))

  keeps_keys : Keeps (r.keys p)
  unfolding r.keys
  keeps_keys = keeps_choose (at_level 15) (keeps_bind (past k.Order (kept (shrinks_eat k.By))) (λ _. keeps_list1 keeps_key)) (keeps_pure _)

  keeps_flwor : Keeps (r.flwor p)
  unfolding r.flwor
  keeps_flwor = keeps_bind (kept shrinks_clauses) (λ first. keeps_bind (keeps_many (at_level 13) (kept shrinks_clauses)) (λ others.
      keeps_bind keeps_condition (λ test. keeps_bind keeps_keys (λ keys. past k.Return (keeps_bind s (λ x. keeps_pure _))))))

  keeps_quantified : Keeps (r.quantified p)
  unfolding r.quantified
  keeps_quantified = keeps_bind (kept (shrinks_which p)) (λ which. keeps_bind (keeps_list1 keeps_in) (λ bindings. past k.Satisfies (keeps_bind s (λ x. keeps_pure _))))

  keeps_insertion : Keeps (r.insertion p)
  unfolding r.insertion
  keeps_insertion = past k.Insert (keeps_bind (kept (shrinks_nodes p)) (λ _. keeps_bind s (λ x. keeps_bind (kept (shrinks_place p)) (λ place. keeps_bind s (λ y. keeps_pure _)))))

  keeps_deletion : Keeps (r.deletion p)
  unfolding r.deletion
  keeps_deletion = past k.Delete (keeps_bind (kept (shrinks_nodes p)) (λ _. keeps_bind s (λ x. keeps_pure _)))

  keeps_replacement : Keeps (r.replacement p)
  unfolding r.replacement r.replace_node r.replace_value
  keeps_replacement = keeps_choose (sees 1 k.Node)
      (past k.Replace (past k.Node (keeps_bind s (λ x. past k.With (keeps_bind s (λ y. keeps_pure _))))))
      (past k.Replace (past k.Value (past k.Of (past k.Node (keeps_bind s (λ x. past k.With (keeps_bind s (λ y. keeps_pure _))))))))

  keeps_renaming : Keeps (r.renaming p)
  unfolding r.renaming
  keeps_renaming = past k.Rename (past k.Node (keeps_bind s (λ x. past k.As (keeps_bind s (λ y. keeps_pure _)))))

  keeps_copying : Keeps (r.copying p)
  unfolding r.copying
  keeps_copying = past k.Copy (keeps_bind (keeps_list1 keeps_set) (λ bindings. past k.Modify
      (keeps_bind s (λ x. past k.Return (keeps_bind s (λ y. keeps_pure _))))))

  keeps_copy : (level : ℕ) → Keeps (r.copy p level)
  unfolding r.copy
  keeps_copy level = keeps_choose (λ _. nat_le 2 level) keeps_copying keeps_refuse

  keeps_form : (level : ℕ) (form : r.Form) → Keeps (r.read_form p level form)
  keeps_form level r.FlworForm = keeps_flwor
  keeps_form level r.QuantifiedForm = keeps_quantified
  keeps_form level r.IfForm = keeps_conditional
  keeps_form level r.InsertForm = keeps_insertion
  keeps_form level r.DeleteForm = keeps_deletion
  keeps_form level r.ReplaceForm = keeps_replacement
  keeps_form level r.RenameForm = keeps_renaming
  keeps_form level r.CopyForm = keeps_copy level
  keeps_form level r.OrForm = keeps_disjunction

pub keeps_single : (level n : ℕ) → Keeps (r.single level n)
unfolding r.single r.single_of
keeps_single level zero = keeps_refuse
keeps_single level (suc n) = record { no_longer = λ ts. (keeps_form (keeps_single level n) level (r.form_of (kind_at 0 ts) (kind_at 1 ts))).no_longer ts }
