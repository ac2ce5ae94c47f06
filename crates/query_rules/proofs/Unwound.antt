-- What forms that wait within one another come to, and how many tokens are left.
use Rattle.std.proofs.Common.{◌≡◌, ℕ, suc, ◌<◌, Bool, true, false, nat_le, List, [], ◌∷◌, length, Option, Some, None, refl, sym, ap, ◌∙◌, subst, arith}
use Rattle.query_tokens.specs.declared.kind.Kind.{Kind}
use Rattle.query_tokens.specs.declared.kind.Kind.TheVariants as k
use Rattle.query_tokens.specs.declared.token.Token.{Token}
use Rattle.query_tokens.specs.Cursor.{kind_at}
use Rattle.query_grammar.specs.declared.ast.Expr.{Expr}
use Rattle.query_grammar.specs.declared.ast.Binding.{Binding}
use Rattle.query_grammar.specs.declared.ast.Clause.{Clause}
use Rattle.query_grammar.specs.declared.ast.Quantifier.{Quantifier}
use Rattle.query_grammar.specs.declared.ast.SortKey.{SortKey}
use Rattle.query_grammar.specs.Reader as r
use Rattle.query_grammar.specs.Reading.{Reader, and_then, refuse, ◌>>=◌, ◌>>◌, sees, at_level, eat}
use Rattle.query_grammar.proofs.Steps.{some_one, and_then_some}
use Rattle.query_rules.specs.Stages as stage
use Rattle.query_rules.specs.Stages.{Within}
use Rattle.query_rules.specs.declared.pending.Pending.{Pending}
use Rattle.query_rules.specs.declared.pending.Pending.TheVariants as form
use Rattle.query_rules.specs.declared.pending.Progress.{Progress}
use Rattle.query_rules.specs.declared.pending.Progress.TheVariants.{Read, Waits}
use Rattle.query_rules.proofs.Completed.{finish, begin_is, resume_is}
use Rattle.query_rules.proofs.Lengths.{Keeps, Shrinks, kept, after, past, keeps_pure, keeps_bind, shrinks_bind, shrinks_choose, shrinks_variable, keeps_direction, shrinks_which, shrinks_nodes, shrinks_place, keeps_exprs, keeps_disjunction, keeps_single}
use Rattle.query_rules.proofs.Turns.{in_turn}
use Rattle.query_rules.proofs.Unrolled.{then_same}

proceeds_as : (level n : ℕ) (outer : List Pending) (progress : Progress) (ts : List Token)
    → and_then (finish (r.single level n) progress ts) (stage.unwound level (suc n) outer) ≡ stage.proceeds level n outer progress ts
unfolding finish stage.unwound
proceeds_as level n outer (Read x) ts = refl
proceeds_as level n outer (Waits pending) ts = in_turn (r.single level n ts) _ _

settled : (level n : ℕ) (outer : List Pending) (o : Option (Progress × List Token))
    → and_then (and_then o (finish (r.single level n))) (stage.unwound level (suc n) outer) ≡ and_then o (stage.proceeds level n outer)
settled level n outer o = then_same o (finish (r.single level n)) _ _ (proceeds_as level n outer)

-- an expression is its front, and what the forms then come to
pub begin_proceeds : (level n : ℕ) (outer : List Pending) (ts : List Token)
    → stage.awaited level (suc n) outer ts ≡ and_then (stage.begin (r.single level n) level ts) (stage.proceeds level n outer)
unfolding r.single
begin_proceeds level n outer ts =
    ap (λ o. and_then o (stage.unwound level (suc n) outer)) (sym (begin_is (keeps_single level n) level ts)) ∙ settled level n outer (stage.begin (r.single level n) level ts)

-- a form that has what it waits for goes on to the next place where it waits, or to its end
pub resume_proceeds : (level n : ℕ) (pending : Pending) (outer : List Pending) (x : Expr) (ts : List Token)
    → stage.unwound level n (pending ∷ outer) x ts ≡ and_then (stage.resume pending x ts) (stage.proceeds level n outer)
unfolding stage.unwound
resume_proceeds level n pending outer x ts =
    ap (λ o. and_then o (stage.unwound level (suc n) outer)) (sym (resume_is (keeps_single level n) pending x ts)) ∙ settled level n outer (stage.resume pending x ts)

-- Each place where a form waits stands after a token.
pub record Advances (p : Reader Progress) : Type 0 where
  pub within : (ts : List Token) (progress : Progress) (rest : List Token) → p ts ≡ Some (progress, rest) → Within progress (length rest) (length ts)

within_less : (progress : Progress) (m n : ℕ) → m < n → Within progress m n
within_less (Read x) m n h = omega (arith, h)
within_less (Waits pending) m n h = h

advanced : {p : Reader Progress} → Shrinks p → Advances p
advanced s = record { within = λ ts progress rest e. within_less progress _ _ (s.shorter ts progress rest e) }

advances_read : (x : Expr) → Advances (stage.read x)
advances_read x = record {
  within = λ ts progress rest e.
      let w = some_one e in let u : Read x ≡ progress = ap (λ p. p.0) w in let v : ts ≡ rest = ap (λ p. p.1) w in
      let h : Within (Read x) (length rest) (length ts) = omega (arith, ap length v) in subst (λ (p : Progress). Within p (length rest) (length ts)) u h;
}

shrinks_refuse : {A : Type 0} → Shrinks (refuse {A = A})
shrinks_refuse = record { shorter = λ ts b rest h. absurd (let e : ⊥ = cc in e) }

shrinks_wait : (kind : Kind) (pending : Pending) → Shrinks (eat kind >> stage.wait pending)
shrinks_wait kind pending = after kind (keeps_pure _)

shrinks_return : (found : List (Clause Expr)) (test : Option Expr) (sorted : List (SortKey Expr)) → Shrinks (stage.to_return found test sorted)
shrinks_return found test sorted = shrinks_wait k.Return _

shrinks_keys : (found : List (Clause Expr)) (test : Option Expr) → Shrinks (stage.to_keys found test)
shrinks_keys found test = shrinks_choose (at_level 15) (after k.Order (kept (shrinks_wait k.By _))) (shrinks_return found test [])

shrinks_bound : (kind : Kind) (waiting : List ℕ → Pending) → Shrinks (r.variable >>= (λ name. eat kind >> stage.wait (waiting name)))
shrinks_bound kind waiting = shrinks_bind shrinks_variable (λ name. kept (shrinks_wait kind (waiting name)))

shrinks_binding : (iterates : Bool) (found : List (Clause Expr)) → Shrinks (stage.to_binding iterates found)
shrinks_binding true found = shrinks_choose (sees 2 k.At)
    (shrinks_bind shrinks_variable (λ name. past k.At (kept (shrinks_bound k.In (form.ForAt found name))))) (shrinks_bound k.In (form.For found))
shrinks_binding false found = shrinks_bound k.Assign (form.Let found)

shrinks_clause : (found : List (Clause Expr)) → Shrinks (stage.to_clause found)
shrinks_clause found = shrinks_choose (sees 0 k.For) (after k.For (kept (shrinks_binding true found))) (after k.Let (kept (shrinks_binding false found)))

shrinks_clauses : (found : List (Clause Expr)) → Shrinks (stage.to_clauses found)
shrinks_clauses found = shrinks_choose (at_level 13) (shrinks_clause found) (shrinks_choose (at_level 14) (shrinks_wait k.Where _) (shrinks_keys found None))

past_clause : (iterates : Bool) (found : List (Clause Expr)) → Shrinks (stage.past_binding iterates found)
past_clause iterates found = shrinks_choose (at_level 12) (after k.Comma (kept (shrinks_binding iterates found))) (shrinks_clauses found)

past_key : (found : List (Clause Expr)) (test : Option Expr) (sorted : List (SortKey Expr)) → Shrinks (stage.past_key found test sorted)
past_key found test sorted = shrinks_choose (at_level 12) (after k.Comma (keeps_pure _)) (shrinks_return found test sorted)

late_bind : {A B : Type 0} {p : Reader A} {f : A → Reader B} → Keeps p → ((a : A) → Shrinks (f a)) → Shrinks (p >>= f)
late_bind {p = p} {f = f} s t = record {
  shorter = λ ts b rest e.
      let h = and_then_some (p ts) f (b, rest) e in omega (arith, s.no_longer ts h.0 h.1 h.2, (t h.0).shorter h.1 b rest h.3);
}

shrinks_in : (quantifier : Quantifier) (found : List (Binding Expr)) → Shrinks (stage.past_in quantifier found)
shrinks_in quantifier found = shrinks_choose (at_level 12) (after k.Comma (kept (shrinks_bound k.In (form.In quantifier found)))) (shrinks_wait k.Satisfies _)

shrinks_copy : (found : List (Binding Expr)) → Shrinks (stage.past_copy found)
shrinks_copy found = shrinks_choose (at_level 12) (after k.Comma (kept (shrinks_bound k.Assign (form.Copy found)))) (shrinks_wait k.Modify _)

pub resume_advances : (pending : Pending) (x : Expr) → Advances (stage.resume pending x)
unfolding stage.resume
resume_advances (form.For found name) x = advanced (past_clause true _)
resume_advances (form.ForAt found name at) x = advanced (past_clause true _)
resume_advances (form.Let found name) x = advanced (past_clause false _)
resume_advances (form.Where found) x = advanced (shrinks_keys found (Some x))
resume_advances (form.Key found test sorted) x = advanced (late_bind (keeps_direction refuse) (λ descending. past_key found test _))
resume_advances (form.In quantifier found name) x = advanced (shrinks_in quantifier _)
resume_advances (form.Then test) x = advanced (shrinks_wait k.Else _)
resume_advances form.Insert x = advanced (shrinks_bind (shrinks_place refuse) (λ place. keeps_pure _))
resume_advances form.ReplaceNode x = advanced (shrinks_wait k.With _)
resume_advances form.ReplaceValue x = advanced (shrinks_wait k.With _)
resume_advances form.Rename x = advanced (shrinks_wait k.As _)
resume_advances (form.Copy found name) x = advanced (shrinks_copy _)
resume_advances (form.Last final) x = advances_read _
resume_advances (form.Modify found) x = advanced (shrinks_wait k.Return _)

operators_advance : {single : Reader Expr} → Keeps single → Advances (stage.operators single)
operators_advance {single = single} s = record {
  within = λ ts progress rest e.
      let h = and_then_some (r.disjunction single ts) (λ x. stage.read x) (progress, rest) e in
      let w = (keeps_disjunction s).no_longer ts h.0 h.1 h.2 in
      let u : Read h.0 ≡ progress = ap (λ p. p.0) (some_one h.3) in let v : h.1 ≡ rest = ap (λ p. p.1) (some_one h.3) in
      let q : Within (Read h.0) (length rest) (length ts) = omega (arith, w, ap length v) in subst (λ (p : Progress). Within p (length rest) (length ts)) u q;
}

module _ {single : Reader Expr} (s : Keeps single) (level : ℕ) where
  form_advances : (f : r.Form) → Advances (stage.begin_form single level f)
  form_advances r.FlworForm = advanced (shrinks_clause [])
  form_advances r.QuantifiedForm = advanced (shrinks_bind (shrinks_which refuse) (λ quantifier. kept (shrinks_bound k.In (form.In quantifier []))))
  form_advances r.IfForm = advanced (after k.If (past k.OpenParen (keeps_bind (keeps_exprs s) (λ test. past k.CloseParen (past k.Then (keeps_pure _))))))
  form_advances r.InsertForm = advanced (after k.Insert (keeps_bind (kept (shrinks_nodes refuse)) (λ _. keeps_pure _)))
  form_advances r.DeleteForm = advanced (after k.Delete (keeps_bind (kept (shrinks_nodes refuse)) (λ _. keeps_pure _)))
  form_advances r.ReplaceForm = advanced (shrinks_choose (sees 1 k.Node) (after k.Replace (past k.Node (keeps_pure _)))
      (after k.Replace (past k.Value (past k.Of (past k.Node (keeps_pure _))))))
  form_advances r.RenameForm = advanced (after k.Rename (past k.Node (keeps_pure _)))
  form_advances r.CopyForm = advanced (shrinks_choose (λ _. nat_le 2 level) (after k.Copy (kept (shrinks_bound k.Assign (form.Copy [])))) shrinks_refuse)
  form_advances r.OrForm = operators_advance s

  pub begin_advances : Advances (stage.begin single level)
  unfolding stage.begin
  begin_advances = record { within = λ ts. (form_advances (r.form_of (kind_at 0 ts) (kind_at 1 ts))).within ts }
