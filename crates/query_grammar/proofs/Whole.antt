-- What is spelt so is read: each production against its reader.
use Rattle.std.proofs.Common.{◌≡◌, ℕ, suc, ◌<◌, ◌≤◌, Bool, true, false, cond, ◌&&◌, List, [], ◌∷◌, length, Option, Some, refl, sym, ap, ◌∙◌, ⊎_elim, arith, eq-eqb, ◌≢◌}
use Rattle.std.proofs.lemmas.Bool.Decides.{nat_tests}
use denote.Enum.Bare.{true_same}
use Rattle.query_tokens.specs.contracts.kind.Kind.{the_type}
use Rattle.query_tokens.specs.declared.kind.Kind.{Kind}
use Rattle.query_tokens.specs.declared.kind.Kind.TheVariants as k
use Rattle.query_tokens.specs.declared.token.Token.{Token}
use Rattle.query_tokens.specs.Cursor.{kind_at}
use Rattle.query_tokens.specs.Words.{is_name_kind}
use Rattle.query_grammar.specs.declared.ast.Expr.{Expr}
use Rattle.query_grammar.specs.declared.ast.Expr.TheVariants as e
use Rattle.query_grammar.specs.declared.ast.Binary.{Binary}
use Rattle.query_grammar.specs.declared.ast.Name.{Name as NameOf}
use Rattle.query_grammar.specs.declared.ast.Name.TheVariants.{Written, Computed}
use Rattle.query_grammar.specs.declared.ast.NodeTest.TheVariants as test
use Rattle.data_model.specs.declared.axis.Axis.{Axis}
use Rattle.query_grammar.specs.declared.ast.Sign.{Sign}
use Rattle.query_grammar.specs.Lang.{Lang, pure as empty, ◌>>=◌ as ◌▹◌, ◌∪◌, Many, tok, stands}
use Rattle.query_grammar.specs.Functions.{function_of}
use Rattle.query_grammar.specs.Grammar as g
use Rattle.query_grammar.specs.Words.{axis_of, kind_test_of, is_function, sign_of, intersect_operator, union_operator, multiply_operator, add_operator, range_operator, comparison_operator, and_operator, or_operator}
use Rattle.query_grammar.specs.Loose.{looseness, looseness_of}
use Rattle.query_grammar.specs.Reading.{Reader, and_then, pure, ◌>>=◌ as ◌▸◌, choose, same_kind, sees, at_level, eat, take_as, many}
use Rattle.query_grammar.specs.Reader as r
use Rattle.query_grammar.specs.Reader.{OrForm}
use Rattle.query_grammar.proofs.Follows.{loose, loose_level, mark_loose, Leads, leads_pure, leads_bind, leads_at, leads_mark, leads_many, and_false}
use Rattle.query_grammar.proofs.Steps.{Shrinks, keeps, shrinks_such, shrinks_tok, shrinks_stands, keeps_many, Complete, complete_pure, complete_bind, complete_made, such_reads, tok_reads, stands_reads, complete_eat, complete_after, complete_then, complete_next, taken, passed, first_tok, then_tok, complete_choose, rounds_reads, complete_many}
use Rattle.query_grammar.proofs.Starts.{shrinks_comma, shrinks_axis, shrinks_slash, shrinks_operation, shrinks_chain, shrinks_once, shrinks_exprs, keeps_name_or_braces, shrinks_primary, shrinks_predicate, shrinks_step, shrinks_segment, shrinks_unary, Begins, begins_make, begins_such, begins_stands, begins_bind, begins_either, starts, starts_path, begins_path, begins_unary, function_name, axis_name, kind_test_name}
use Rattle.query_grammar.proofs.Ahead.{differ, Tells, May, tells_bind, tells_either, axis_no_primary, primary_begins, form_ahead, predicate_loose, segment_loose, comma_loose, operation_loose, unary_no_form, test_tells, name_tells, stands_two, such_two, makes_tell, follows_not}

-- the next token is of this kind
pub tok_sees : (kind : Kind) (ts : List Token) (t : Token) (rest : List Token) → tok kind ts t rest → sees 0 kind ts ≡ true
unfolding sees
tok_sees kind ts t rest h = ap (λ us. same_kind (kind_at 0 us) kind) h.0 ∙ true_same the_type _ _ h.1

-- it isn't, where a test tells them apart
begins_not : {A : Type 0} {test : Kind → Bool} {P : Lang A} (kind : Kind) → Begins test P → test kind ≡ false → (ts : List Token) (a : A) (rest : List Token) → P ts a rest → sees 0 kind ts ≡ false
unfolding sees
begins_not {test = test} kind s e ts a rest h = differ test _ kind (s.first ts a rest h) e

pub tok_not : (found kind : Kind) → same_kind found kind ≡ false → (ts : List Token) (t : Token) (rest : List Token) → tok found ts t rest → sees 0 kind ts ≡ false
unfolding sees
tok_not found kind e ts t rest h = ap (λ us. same_kind (kind_at 0 us) kind) h.0 ∙ ap (λ x. same_kind x kind) h.1 ∙ e

-- P { "," P }
pub complete_list1 : {A : Type 0} {m j : ℕ} {p : Reader A} {P : Lang A} → j < 12 → Complete m j p P → Shrinks P → Complete m 12 (r.list1 p) (g.List1 P)
unfolding r.list1
complete_list1 {m = m} {P = P} below s l = complete_bind s (keeps l)
    (λ x. complete_made (λ xs. x ∷ xs) (complete_many below (then_tok k.Comma s) (shrinks_comma l) (comma_loose P)))
    (λ x. leads_bind 12 (leads_many 12 below (omega (arith, below)) (comma_loose P)) (λ xs. leads_pure _ (omega arith)))

name_reads : (ts : List Token) (a : List ℕ) (rest : List Token) → g.Name ts a rest → r.name ts ≡ Some (a, rest)
unfolding r.name
name_reads ts a rest h = ap (λ o. and_then o (λ t. pure t.text)) (such_reads is_name_kind ts h.0 h.1 h.2) ∙ ap (λ x. Some (x, h.1)) h.3.0 ∙ ap (λ us. Some (a, us)) h.3.1

pub variable_reads : (ts : List Token) (a : List ℕ) (rest : List Token) → g.Var ts a rest → r.variable ts ≡ Some (a, rest)
unfolding r.variable
variable_reads ts a rest h = ap (λ o. and_then o (λ _. r.name)) (tok_reads k.Dollar ts h.0 h.1 h.2) ∙ name_reads h.1 a rest h.3

pub eat_reads : {B : Type 0} (kind : Kind) (y : B) (ts : List Token) (a : B) (rest : List Token) → (tok kind ▹ (λ _. empty y)) ts a rest → (eat kind ▸ (λ _. pure y)) ts ≡ Some (a, rest)
eat_reads kind y ts a rest h = ap (λ o. and_then o (λ _. pure y)) (tok_reads kind ts h.0 h.1 h.2) ∙ ap (λ us. Some (y, us)) h.3.1 ∙ ap (λ x. Some (x, rest)) h.3.0

-- An operand: it is read, takes a token, begins as operands do, and begins no other form.
pub record Operand (m k : ℕ) (p : Reader Expr) (P : Lang Expr) : Type 0 where
  pub complete : Complete m k p P
  pub shrinks : Shrinks P
  pub begins : Begins starts P
  pub no_form : Tells form_ahead OrForm P

module _ (operator : Kind → Option Binary) (n : ℕ) (level : (kind : Kind) (op : Binary) → operator kind ≡ Some op → looseness kind ≡ n) {m j : ℕ} {p : Reader Expr} {P : Lang Expr} (below : j < n) (s : Operand m j p P) where
  complete_operation : Complete m j (r.operation operator p) (g.OperationOf operator P)
  unfolding r.operation
  complete_operation = complete_then (stands_reads operator) (shrinks_stands operator) (λ op. complete_made (λ x. record { operator = op; operand = x }) s.complete)

  begins_loose : (ts : List Token) (x : _) (rest : List Token) → g.OperationOf operator P ts x rest → loose ts ≡ n
  begins_loose = operation_loose operator n level s.begins

  operand_chain : Operand m n (r.chain n operator p) (g.Chain operator P)
  unfolding r.chain
  operand_chain = record {
    complete = complete_bind s.complete (keeps s.shrinks)
        (λ x. complete_made (g.chain_of x) (complete_many below complete_operation (shrinks_operation operator s.shrinks) begins_loose))
        (λ x. leads_bind n (leads_many n below (omega (arith, below)) begins_loose) (λ xs. leads_pure _ (omega arith)));
    shrinks = shrinks_chain operator s.shrinks;
    begins = record { first = λ ts x rest h. s.begins.first ts h.0 h.1 h.2 };
    no_form = tells_bind form_ahead OrForm s.no_form (λ x. leads_bind 0 (leads_many n (omega (arith, below)) (omega arith) begins_loose) (λ xs. leads_pure _ (omega arith)));
  }

-- where the loop or the part of a level goes on, and where not
pub at_loose : (n : ℕ) → 0 < n → (ts : List Token) → loose ts ≡ n → at_level n ts ≡ true
unfolding at_level
at_loose n some ts h = let f = loose_level ts (omega (arith, h, some)) in eq-eqb (looseness_of ts) n (sym f ∙ h)

pub past_level : (n : ℕ) (ts : List Token) → n < loose ts → at_level n ts ≡ false
unfolding at_level
past_level n ts h = let f = loose_level ts (omega (arith, h)) in let ne : looseness_of ts ≢ n = omega (arith, f, h) in grind (arith, nat_tests)

module _ (operator : Kind → Option Binary) (n : ℕ) (level : (kind : Kind) (op : Binary) → operator kind ≡ Some op → looseness kind ≡ n) {m j : ℕ} {p : Reader Expr} {P : Lang Expr} (below : j < n) (s : Operand m j p P) where
  once_loose : (ts : List Token) (x : _) (rest : List Token) → g.OperationOf operator P ts x rest → loose ts ≡ n
  once_loose = operation_loose operator n level s.begins

  once_next : Expr → Reader Expr
  once_next x = choose (at_level n) (r.operation operator p ▸ (λ o. pure (e.Chain x (o ∷ [])))) (pure x)

  complete_once : Complete m n (r.at_most_once n operator p) (g.AtMostOnce operator P)
  unfolding r.at_most_once once_next
  complete_once = record {
    reads = λ ts a rest le h past. ⊎_elim
        (λ q. ap (λ o. and_then o once_next) (s.complete.reads ts a rest le q (omega (arith, below, past))) ∙ passed _ _ (past_level n rest past) refl)
        (λ q. let i = q.3 in let at = once_loose q.1 i.0 i.1 i.2 in
        ap (λ o. and_then o once_next) (s.complete.reads ts q.0 q.1 le q.2 (omega (arith, below, at)))
        ∙ taken _ _ (at_loose n (omega (arith, below)) q.1 at)
        ((complete_made (λ o. e.Chain q.0 (o ∷ [])) (complete_operation operator n level below s)).reads q.1 a rest
        (omega (arith, le, s.shrinks.shorter ts q.0 q.1 q.2)) i (omega (arith, below, past))))
        h;
  }

  operand_once : Operand m n (r.at_most_once n operator p) (g.AtMostOnce operator P)
  operand_once = record {
    complete = complete_once;
    shrinks = shrinks_once operator s.shrinks;
    begins = begins_either s.begins (begins_bind s.begins);
    no_form = tells_either form_ahead OrForm s.no_form (tells_bind form_ahead OrForm s.no_form
        (λ x. leads_bind 0 (leads_at n (omega (arith, below)) once_loose) (λ xs. leads_pure _ (omega arith))));
  }

-- Operators stand as loosely as their levels say.

intersect_level : (kind : Kind) (op : Binary) → intersect_operator kind ≡ Some op → looseness kind ≡ 3
intersect_level k.Intersect op h = refl
intersect_level k.Except op h = refl
intersect_level _ op h = absurd (let e : ⊥ = cc in e)

union_level : (kind : Kind) (op : Binary) → union_operator kind ≡ Some op → looseness kind ≡ 4
union_level k.Union op h = refl
union_level k.Bar op h = refl
union_level _ op h = absurd (let e : ⊥ = cc in e)

multiply_level : (kind : Kind) (op : Binary) → multiply_operator kind ≡ Some op → looseness kind ≡ 5
multiply_level k.Star op h = refl
multiply_level k.Idiv op h = refl
multiply_level k.Mod op h = refl
multiply_level _ op h = absurd (let e : ⊥ = cc in e)

add_level : (kind : Kind) (op : Binary) → add_operator kind ≡ Some op → looseness kind ≡ 6
add_level k.Plus op h = refl
add_level k.Minus op h = refl
add_level _ op h = absurd (let e : ⊥ = cc in e)

range_level : (kind : Kind) (op : Binary) → range_operator kind ≡ Some op → looseness kind ≡ 7
range_level k.To op h = refl
range_level _ op h = absurd (let e : ⊥ = cc in e)

comparison_level : (kind : Kind) (op : Binary) → comparison_operator kind ≡ Some op → looseness kind ≡ 8
comparison_level k.Equal op h = refl
comparison_level k.NotEqual op h = refl
comparison_level k.Less op h = refl
comparison_level k.LessOrEqual op h = refl
comparison_level k.Greater op h = refl
comparison_level k.GreaterOrEqual op h = refl
comparison_level k.Eq op h = refl
comparison_level k.Ne op h = refl
comparison_level k.Lt op h = refl
comparison_level k.Le op h = refl
comparison_level k.Gt op h = refl
comparison_level k.Ge op h = refl
comparison_level k.Is op h = refl
comparison_level k.Precedes op h = refl
comparison_level k.Follows op h = refl
comparison_level _ op h = absurd (let e : ⊥ = cc in e)

and_level : (kind : Kind) (op : Binary) → and_operator kind ≡ Some op → looseness kind ≡ 9
and_level k.And op h = refl
and_level _ op h = absurd (let e : ⊥ = cc in e)

or_level : (kind : Kind) (op : Binary) → or_operator kind ≡ Some op → looseness kind ≡ 10
or_level k.Or op h = refl
or_level _ op h = absurd (let e : ⊥ = cc in e)

-- Paths.

name_not : (kind : Kind) → is_name_kind kind ≡ false → (ts : List Token) (a : List ℕ) (rest : List Token) → g.Name ts a rest → sees 0 kind ts ≡ false
name_not kind e = begins_not kind (begins_bind (begins_such is_name_kind is_name_kind (λ found h. h))) e

sees_test : Kind → Kind → Kind → Bool
sees_test first second third = r.is_some (kind_test_of first) && same_kind second k.OpenParen

name_no_test : Tells sees_test false g.Name
unfolding sees_test May
name_no_test = name_tells sees_test false (λ kind n second third h. ap (λ b. r.is_some (kind_test_of kind) && b) (follows_not k.OpenParen second refl h.0) ∙ and_false _)

kind_test_seen : Tells sees_test true (stands kind_test_of ▹ (λ x. tok k.OpenParen ▹ (λ _. tok k.CloseParen ▹ (λ _. empty (test.Kind x)))))
unfolding sees_test
kind_test_seen = stands_two sees_test true kind_test_of k.OpenParen (λ kind x f third. ap (λ o. r.is_some o && true) f)

complete_test : (m : ℕ) → Complete m 0 r.node_test g.Test
unfolding r.node_test r.kind_test r.sees_kind_test sees_test sees
complete_test m = record {
  reads = λ ts a rest le h past. ⊎_elim
      (λ q. let past_name : 0 < loose q.1 = let e = ap loose q.3.1 in omega (arith, e, past) in
      passed _ _ (name_not k.Star refl ts q.0 q.1 q.2) (passed _ _ (name_no_test.tells ts q.0 q.1 q.2 past_name)
      (ap (λ o. and_then o (λ x. pure (test.Name x))) (name_reads ts q.0 q.1 q.2) ∙ ap (λ x. Some (x, q.1)) q.3.0 ∙ ap (λ us. Some (a, us)) q.3.1)))
      (⊎_elim
      (λ q. taken _ _ (tok_sees k.Star ts q.0 q.1 q.2) ((then_tok k.Star (complete_pure m 0 _)).reads ts a rest le q past))
      (λ q. passed _ _ (begins_not k.Star (begins_stands is_name_kind kind_test_of kind_test_name) refl ts q.0 q.1 q.2)
      (taken _ _ (kind_test_seen.tells ts a rest q past)
      ((complete_then (stands_reads kind_test_of) (shrinks_stands kind_test_of) (λ x. then_tok k.OpenParen (then_tok k.CloseParen (complete_pure m 0 _)))).reads ts a rest le q past))))
      h;
}

-- which mark the next token isn't
marks_not : Kind → Kind → Kind → Kind → Bool
marks_not mark first _ _ = same_kind first mark

colon : Kind → Kind → Kind → Bool
colon _ second third = same_kind second k.ColonColon

test_no_colon : Tells colon false g.Test
unfolding colon May
test_no_colon = test_tells colon false (λ kind n second third h. follows_not k.ColonColon second refl h.0) (λ second third h. follows_not k.ColonColon second refl h.0) (λ kind x e third. refl)

test_not : (mark : Kind) → is_name_kind mark ≡ false → same_kind k.Star mark ≡ false → Tells (marks_not mark) false g.Test
unfolding marks_not
test_not mark m e = test_tells (marks_not mark) false (λ kind n second third h. differ is_name_kind kind mark n m) (λ second third h. e)
    (λ kind x f third. differ is_name_kind kind mark (kind_test_name kind x f) m)

NamedAxis : Lang g.AxisStep
NamedAxis = stands axis_of ▹ (λ axis. tok k.ColonColon ▹ (λ _. g.Test ▹ (λ t. empty (record { axis = axis; test = t; is_bare = false }))))

named_colon : Tells colon true NamedAxis
unfolding colon NamedAxis
named_colon = stands_two colon true axis_of k.ColonColon (λ kind a e third. refl)

complete_axis : (m : ℕ) → Complete m 0 r.axis_step g.AxisOf
unfolding r.axis_step r.named_axis r.attribute_step marks_not colon sees NamedAxis
complete_axis m = record {
  reads = λ ts a rest le h past. ⊎_elim
      (λ q. passed _ _ (axis_not k.AtSign refl ts q.0 q.1 q.2) (passed _ _ (axis_not k.DotDot refl ts q.0 q.1 q.2) (taken _ _ (named_colon.tells ts a rest q past)
      ((complete_then (stands_reads axis_of) (shrinks_stands axis_of) (λ axis. then_tok k.ColonColon (complete_made (λ t. record { axis = axis; test = t; is_bare = false }) (complete_test m)))).reads ts a rest le q past))))
      (⊎_elim
      (λ q. taken _ _ (tok_sees k.AtSign ts q.0 q.1 q.2) ((then_tok k.AtSign (complete_made _ (complete_test m))).reads ts a rest le q past))
      (⊎_elim
      (λ q. let past_test : 0 < loose q.1 = let e = ap loose q.3.1 in omega (arith, e, past) in
      passed _ _ ((test_not k.AtSign refl refl).tells ts q.0 q.1 q.2 past_test) (passed _ _ ((test_not k.DotDot refl refl).tells ts q.0 q.1 q.2 past_test)
      (passed _ _ (test_no_colon.tells ts q.0 q.1 q.2 past_test) ((complete_made _ (complete_test m)).reads ts a rest le q past))))
      (λ q. passed _ _ (tok_not k.DotDot k.AtSign refl ts q.0 q.1 q.2) (taken _ _ (tok_sees k.DotDot ts q.0 q.1 q.2) ((then_tok k.DotDot (complete_pure m 0 _)).reads ts a rest le q past)))))
      h;
}
  where
    axis_not : (mark : Kind) → is_name_kind mark ≡ false → (ts : List Token) (a : Axis) (rest : List Token) → stands axis_of ts a rest → sees 0 mark ts ≡ false
    axis_not mark e = begins_not mark (begins_stands is_name_kind axis_of axis_name) e

slash_reads : (ts : List Token) (a : Bool) (rest : List Token) → g.Slash ts a rest → r.slash ts ≡ Some (a, rest)
unfolding r.slash
slash_reads ts a rest h = ⊎_elim
    (λ q. taken _ _ (tok_sees k.Slash ts q.0 q.1 q.2) (eat_reads k.Slash false ts a rest q))
    (λ q. passed _ _ (tok_not k.SlashSlash k.Slash refl ts q.0 q.1 q.2) (eat_reads k.SlashSlash true ts a rest q))
    h

sign_reads : (ts : List Token) (xs : List Sign) (rest : List Token) → Many (stands sign_of) ts xs rest → r.sees_sign rest ≡ false → many r.sees_sign (take_as sign_of) ts ≡ Some (xs, rest)
unfolding r.sees_sign
sign_reads ts xs rest h ends = rounds_reads (length ts) (λ us. r.sees_sign us ≡ false) (λ us. Unit {0}) r.sees_sign (take_as sign_of) (stands sign_of)
    (λ us x mid _ q _. stands_reads sign_of us x mid q) (shrinks_stands sign_of)
    (λ us x mid q. (let t = q.0 in ap (λ vs. r.is_some (sign_of (kind_at 0 vs))) q.1 ∙ ap r.is_some q.2, tt)) (λ us q. (q, tt))
    (length ts) [] ts xs rest (omega arith) (omega arith) h ends

path_unsigned : (kind : Kind) → starts_path kind ≡ true → r.is_some (sign_of kind) ≡ false
unfolding starts_path
path_unsigned k.Plus h = absurd (let e : ⊥ = cc in e)
path_unsigned k.Minus h = absurd (let e : ⊥ = cc in e)
path_unsigned _ h = refl

-- an expression before a closing mark, or nothing
complete_closed : {A B : Type 0} {m : ℕ} {p : Reader A} {P : Lang A} (k : ℕ) (closing : Kind) (none : A) (f : A → B) → is_name_kind closing ≡ false → 12 < looseness closing → starts closing ≡ false
    → Complete m 12 p P → Begins starts P → Complete m k (choose (sees 0 closing) (pure none) p ▸ (λ x. eat closing ▸ (λ _. pure (f x)))) ((empty none ∪ P) ▹ (λ x. tok closing ▹ (λ _. empty (f x))))
complete_closed {p = p} {P = P} k closing none f mark past_list starting s b = record {
  reads = λ ts y rest le h past.
      let i = h.3 in
      ap (λ o. and_then o (λ x. eat closing ▸ (λ _. pure (f x)))) (⊎_elim {C = cond (sees 0 closing ts) (Some (none, ts)) (p ts) ≡ Some (h.0, h.1)}
      (λ q. taken _ _ (ap (sees 0 closing) q.1 ∙ tok_sees closing h.1 i.0 i.1 i.2) (ap (λ x. Some (x, ts)) q.0 ∙ ap (λ us. Some (h.0, us)) q.1))
      (λ q. passed _ _ (begins_not closing b starting ts h.0 h.1 q) (s.reads ts h.0 h.1 le q (let e = mark_loose closing mark h.1 i.0 i.1 i.2 in omega (arith, e, past_list))))
      h.2)
      ∙ (then_tok closing (complete_pure (length h.1) k (f h.0))).reads h.1 y rest (omega arith) i past;
}

tok_kind : (kind : Kind) (ts : List Token) (t : Token) (rest : List Token) → tok kind ts t rest → kind_at 0 ts ≡ kind
tok_kind kind ts t rest h = ap (kind_at 0) h.0 ∙ h.1

-- a reader that the next token's kind picks
complete_by : {A : Type 0} {m k : ℕ} {P : Lang A} (p : Kind → Reader A) (kind : Kind) → ((ts : List Token) (a : A) (rest : List Token) → P ts a rest → kind_at 0 ts ≡ kind)
    → Complete m k (p kind) P → Complete m k (λ ts. p (kind_at 0 ts) ts) P
complete_by p kind first s = record { reads = λ ts a rest le h past. ap (λ x. p x ts) (first ts a rest h) ∙ s.reads ts a rest le h past }

pub complete_either : {A : Type 0} {m k : ℕ} {p : Reader A} {P Q : Lang A} → Complete m k p P → Complete m k p Q → Complete m k p (P ∪ Q)
complete_either s t = record { reads = λ ts a rest le h past. ⊎_elim (λ x. s.reads ts a rest le x past) (λ x. t.reads ts a rest le x past) h }

-- whether "(" stands second
paren : Kind → Kind → Kind → Bool
paren _ second third = same_kind second k.OpenParen

call_paren : (S : Lang Expr) → Tells paren true (g.Call S)
unfolding paren
call_paren S = such_two paren true is_function k.OpenParen (λ kind h third. refl)

make_paren : (S : Lang Expr) → Tells paren false (g.Make S)
unfolding paren
make_paren S = makes_tell paren false (λ kind h third. refl) (λ kind h second n. differ is_name_kind second k.OpenParen n refl) S

primary_name : (p : Reader Expr) (kind : Kind) → is_name_kind kind ≡ true → r.primary_by p kind ≡ choose (sees 1 k.OpenParen) (r.call p) (r.make p)
primary_name p k.Number h = absurd (let e : ⊥ = cc in e)
primary_name p k.String h = absurd (let e : ⊥ = cc in e)
primary_name p k.Dollar h = absurd (let e : ⊥ = cc in e)
primary_name p k.OpenParen h = absurd (let e : ⊥ = cc in e)
primary_name p k.Dot h = absurd (let e : ⊥ = cc in e)
primary_name p _ h = refl

module _ {m : ℕ} {p : Reader Expr} {S : Lang Expr} (s : Complete m 10 p S) (l : Shrinks S) (b : Begins starts S) where
  complete_list : Complete m 12 (r.list1 p) (g.List1 S)
  complete_list = complete_list1 (omega arith) s l

  pub complete_exprs : Complete m 12 (r.exprs p) (g.Exprs S)
  unfolding r.exprs
  complete_exprs = complete_made g.of_list complete_list

  begins_list : Begins starts (g.List1 S)
  begins_list = begins_bind b

  begins_exprs : Begins starts (g.Exprs S)
  begins_exprs = begins_bind begins_list

  complete_parens : Complete (suc m) 0 (r.parens p) (g.Parens S)
  unfolding r.parens r.content starts starts_path
  complete_parens = first_tok k.OpenParen (complete_closed 0 k.CloseParen (e.Sequence []) (λ x. x) refl (omega arith) refl complete_exprs begins_exprs)

  complete_body : (j : ℕ) → Complete m j (r.body p) (g.Body S)
  unfolding r.body r.content starts starts_path
  complete_body j = then_tok k.OpenBrace (complete_closed j k.CloseBrace (e.Sequence []) (λ x. x) refl (omega arith) refl complete_exprs begins_exprs)

  complete_call : Complete (suc m) 0 (r.call p) (g.Call S)
  unfolding r.call r.arguments starts starts_path
  complete_call = complete_after (such_reads is_function) (shrinks_such is_function) (λ name. then_tok k.OpenParen
      (complete_closed 0 k.CloseParen [] (λ xs. e.Call (function_of name.text (length xs)) xs) refl (omega arith) refl complete_list begins_list))

  braces_reads : (ts : List Token) (a : Expr) (rest : List Token) → length ts ≤ m → g.Braces S ts a rest → r.braces p ts ≡ Some (a, rest)
  unfolding r.braces
  braces_reads ts a rest le h = let i = h.3 in let j = i.3 in
      ap (λ o. and_then o (λ _. r.exprs p ▸ (λ x. eat k.CloseBrace ▸ (λ _. pure x)))) (tok_reads k.OpenBrace ts h.0 h.1 h.2)
      ∙ ap (λ o. and_then o (λ x. eat k.CloseBrace ▸ (λ _. pure x))) (complete_exprs.reads h.1 i.0 i.1 (omega (arith, le, (shrinks_tok k.OpenBrace).shorter ts h.0 h.1 h.2)) i.2
      (let e = mark_loose k.CloseBrace refl i.1 j.0 j.1 j.2 in omega (arith, e)))
      ∙ eat_reads k.CloseBrace i.0 i.1 a rest j

  name_or_braces_reads : (ts : List Token) (a : NameOf Expr) (rest : List Token) → length ts ≤ m → g.NameOrBraces S ts a rest → r.name_or_braces p ts ≡ Some (a, rest)
  unfolding r.name_or_braces
  name_or_braces_reads ts a rest le h = ⊎_elim
      (λ q. passed _ _ (name_not k.OpenBrace refl ts q.0 q.1 q.2)
      (ap (λ o. and_then o (λ x. pure (Written x))) (name_reads ts q.0 q.1 q.2) ∙ ap (λ x. Some (x, q.1)) q.3.0 ∙ ap (λ us. Some (a, us)) q.3.1))
      (λ q. let i = q.2 in taken _ _ (tok_sees k.OpenBrace ts i.0 i.1 i.2)
      (ap (λ o. and_then o (λ x. pure (Computed x))) (braces_reads ts q.0 q.1 le q.2) ∙ ap (λ x. Some (x, q.1)) q.3.0 ∙ ap (λ us. Some (a, us)) q.3.1))
      h

  complete_named : (kind : Kind) (make : NameOf Expr → Expr → Expr) → Complete (suc m) 0 (r.named p kind make) (g.Named S kind make)
  unfolding r.named
  complete_named kind make = first_tok kind (complete_next name_or_braces_reads (keeps_name_or_braces l) (λ x. complete_made (make x) (complete_body 0)))

  complete_braces : Complete m 0 (r.braces p) (g.Braces S)
  complete_braces = record { reads = λ ts a rest le h _. braces_reads ts a rest le h }

  complete_make : Complete (suc m) 0 (r.make p) (g.Make S)
  unfolding r.make
  complete_make =
      complete_either (complete_by (r.make_by p) k.Document (λ ts a rest h. let i = h.2 in tok_kind k.Document ts i.0 i.1 i.2) (complete_made e.Document (first_tok k.Document complete_braces)))
      (complete_either (complete_by (r.make_by p) k.Text (λ ts a rest h. let i = h.2 in tok_kind k.Text ts i.0 i.1 i.2) (complete_made e.Text (first_tok k.Text complete_braces)))
      (complete_either (complete_by (r.make_by p) k.Comment (λ ts a rest h. let i = h.2 in tok_kind k.Comment ts i.0 i.1 i.2) (complete_made e.Comment (first_tok k.Comment complete_braces)))
      (complete_either (complete_by (r.make_by p) k.Element (λ ts a rest h. tok_kind k.Element ts h.0 h.1 h.2) (complete_named k.Element e.Element))
      (complete_either (complete_by (r.make_by p) k.Attribute (λ ts a rest h. tok_kind k.Attribute ts h.0 h.1 h.2) (complete_named k.Attribute e.Attribute))
      (complete_by (r.make_by p) k.ProcessingInstruction (λ ts a rest h. tok_kind k.ProcessingInstruction ts h.0 h.1 h.2) (complete_named k.ProcessingInstruction e.Instruction))))))

  complete_primary : Complete (suc m) 0 (r.primary p) (g.Primary S)
  unfolding r.primary sees paren
  complete_primary =
      complete_either (complete_by (r.primary_by p) k.Number (λ ts a rest h. tok_kind k.Number ts h.0 h.1 h.2) (complete_made _ (complete_eat (suc m) 0 k.Number)))
      (complete_either (complete_by (r.primary_by p) k.String (λ ts a rest h. tok_kind k.String ts h.0 h.1 h.2) (complete_made _ (complete_eat (suc m) 0 k.String)))
      (complete_either (complete_by (r.primary_by p) k.Dollar (λ ts a rest h. let i = h.2 in tok_kind k.Dollar ts i.0 i.1 i.2)
      (complete_made _ (record { reads = λ ts a rest _ h _. variable_reads ts a rest h })))
      (complete_either (complete_by (r.primary_by p) k.OpenParen (λ ts a rest h. tok_kind k.OpenParen ts h.0 h.1 h.2) complete_parens)
      (complete_either (complete_by (r.primary_by p) k.Dot (λ ts a rest h. tok_kind k.Dot ts h.0 h.1 h.2) (then_tok k.Dot (complete_pure (suc m) 0 e.Context)))
      (complete_either
      (record {
        reads = λ ts a rest le h past. ap (λ q. q ts) (primary_name p _ (begins_call.first ts a rest h))
            ∙ taken _ _ ((call_paren S).tells ts a rest h past) (complete_call.reads ts a rest le h past);
      })
      (record {
        reads = λ ts a rest le h past. ap (λ q. q ts) (primary_name p _ ((begins_make S).first ts a rest h))
            ∙ passed _ _ ((make_paren S).tells ts a rest h past) (complete_make.reads ts a rest le h past);
      }))))))
    where
      begins_call : Begins is_name_kind (g.Call S)
      begins_call = begins_bind (begins_such is_name_kind is_function function_name)

  complete_predicate : Complete (suc m) 0 (r.predicate p) (g.Predicate S)
  unfolding r.predicate
  complete_predicate = first_tok k.OpenBracket (complete_bind complete_exprs (keeps (shrinks_exprs l)) (λ x. then_tok k.CloseBracket (complete_pure m 0 x)) (λ x. leads_mark k.CloseBracket refl (omega arith)))

  complete_predicates : Complete (suc m) 1 (r.predicates p) (Many (g.Predicate S))
  unfolding r.predicates
  complete_predicates = complete_many (omega arith) complete_predicate (shrinks_predicate l) (predicate_loose S)

  predicates_lead : {A : Type 0} {j : ℕ} (f : List Expr → A) → Leads 0 j (Many (g.Predicate S) ▹ (λ xs. empty (f xs)))
  predicates_lead f = leads_bind 0 (leads_many 1 (omega arith) (omega arith) (predicate_loose S)) (λ xs. leads_pure _ (omega arith))

  complete_step : Complete (suc m) 1 (r.step p) (g.Step S)
  unfolding r.step r.sees_primary
  complete_step = complete_choose r.sees_primary
      (λ ts a rest h past. (primary_begins S).tells ts h.0 h.1 h.2 ((predicates_lead (λ xs. g.OfPrimary h.0 xs)).leads h.1 a rest h.3 past))
      (complete_bind complete_primary (keeps (shrinks_primary l)) (λ x. complete_made (λ xs. g.OfPrimary x xs) complete_predicates) (λ x. predicates_lead _))
      (λ ts a rest h past. axis_no_primary.tells ts h.0 h.1 h.2 ((predicates_lead (λ xs. g.OfAxis h.0 xs)).leads h.1 a rest h.3 past))
      (complete_bind (complete_axis (suc m)) (keeps shrinks_axis) (λ x. complete_made (λ xs. g.OfAxis x xs) complete_predicates) (λ x. predicates_lead _))

  complete_segment : Complete (suc m) 1 (r.segment p) (g.Segment S)
  unfolding r.segment
  complete_segment = complete_then slash_reads shrinks_slash (λ deep. complete_made (g.steps_of deep) complete_step)

  complete_path : Complete (suc m) 2 (r.path p) (g.Path S)
  unfolding r.path
  complete_path = complete_bind complete_step (keeps (shrinks_step l))
      (λ x. complete_made _ (complete_many (omega arith) complete_segment (shrinks_segment l) (segment_loose S)))
      (λ x. leads_bind 2 (leads_many 2 (omega arith) (omega arith) (segment_loose S)) (λ xs. leads_pure _ (omega arith)))

  complete_unary : Complete (suc m) 2 (r.unary p) (g.Unary S)
  unfolding r.unary r.sees_sign
  complete_unary = record {
    reads = λ ts x rest le h past. let i = h.3 in
        ap (λ o. and_then o (λ signs. r.path p ▸ (λ y. pure (g.signed_of signs y)))) (sign_reads ts h.0 h.1 h.2 (path_unsigned _ ((begins_path S).first h.1 i.0 i.1 i.2)))
        ∙ (complete_made (g.signed_of h.0) complete_path).reads h.1 x rest (let n = (keeps_many (keeps (shrinks_stands sign_of))).no_longer ts h.0 h.1 h.2 in omega (arith, le, n)) i past;
  }

  operand_unary : Operand (suc m) 2 (r.unary p) (g.Unary S)
  operand_unary = record { complete = complete_unary; shrinks = shrinks_unary l; begins = begins_unary S; no_form = unary_no_form S }

  operand_addition : Operand (suc m) 6 (r.addition p) (g.Add S)
  unfolding r.addition r.multiplication r.union r.inter
  operand_addition = operand_chain add_operator 6 add_level (omega arith) (operand_chain multiply_operator 5 multiply_level (omega arith)
      (operand_chain union_operator 4 union_level (omega arith) (operand_chain intersect_operator 3 intersect_level (omega arith) operand_unary)))

  pub operand_or : Operand (suc m) 10 (r.disjunction p) (g.Or S)
  unfolding r.disjunction r.conjunction r.comparison r.range
  operand_or = operand_chain or_operator 10 or_level (omega arith) (operand_chain and_operator 9 and_level (omega arith)
      (operand_once comparison_operator 8 comparison_level (omega arith) (operand_once range_operator 7 range_level (omega arith) operand_addition)))
