-- A form is read as its front, the expressions that it waits for, and what stands between them.
use Rattle.std.proofs.Common.{◌≡◌, ℕ, Bool, true, false, cond, nat_le, List, [], ◌∷◌, ◌++◌, Option, Some, None, refl, sym, ap, ◌∙◌, append_assoc, append-nil}
use Rattle.query_tokens.specs.declared.kind.Kind.{Kind}
use Rattle.query_tokens.specs.declared.kind.Kind.TheVariants as k
use Rattle.query_tokens.specs.declared.token.Token.{Token}
use Rattle.query_tokens.specs.Cursor.{kind_at}
use Rattle.query_grammar.specs.declared.ast.Expr.{Expr}
use Rattle.query_grammar.specs.declared.ast.Expr.TheVariants as e
use Rattle.query_grammar.specs.declared.ast.Binding.{Binding}
use Rattle.query_grammar.specs.declared.ast.Clause.{Clause}
use Rattle.query_grammar.specs.declared.ast.Clause.TheVariants as clause
use Rattle.query_grammar.specs.declared.ast.Quantifier.{Quantifier}
use Rattle.query_grammar.specs.declared.ast.SortKey.{SortKey}
use Rattle.query_grammar.specs.Reader as r
use Rattle.query_grammar.specs.Reading.{Reader, and_then, pure, ◌>>=◌, ◌>>◌, sees, at_level, eat, many}
use Rattle.query_rules.specs.Parts as part
use Rattle.query_rules.specs.Stages as stage
use Rattle.query_rules.specs.declared.pending.Pending.{Pending}
use Rattle.query_rules.specs.declared.pending.Pending.TheVariants as form
use Rattle.query_rules.specs.declared.pending.Progress.{Progress}
use Rattle.query_rules.specs.declared.pending.Progress.TheVariants.{Read, Waits}
use Rattle.query_rules.proofs.Lengths.{Keeps, after, keeps_bind, keeps_pure, keeps_in, keeps_set, keeps_for, keeps_key, shrinks_clauses}
use Rattle.query_rules.proofs.Turns.{made, in_turn, same_after, clauses_is}
use Rattle.query_rules.proofs.Unrolled.{then_same, either_same, once_more}

no_comma : at_level 12 [] ≡ false
unfolding at_level
no_comma = refl

no_clause : at_level 13 [] ≡ false
unfolding at_level
no_clause = refl

-- a list, and what is made of it
list_then : {A C : Type 0} (p : Reader A) (G : List A → Reader C) (ts : List Token)
    → and_then (r.list1 p ts) G ≡ and_then (p ts) (λ first mid. and_then (part.more p mid) (λ others. G (first ∷ others)))
unfolding r.list1
list_then p G ts = then_same (p ts) _ G _ (λ first mid. sym (made (part.more p mid) (λ others. first ∷ others) G))

-- the same token or value first, on either side
both : {A B C D : Type 0} (o : Option (A × List Token)) (f : A → Reader B) (h : B → Reader D) (g : A → Reader C) (i : C → Reader D)
    → ((a : A) (mid : List Token) → and_then (f a mid) h ≡ and_then (g a mid) i) → and_then (and_then o f) h ≡ and_then (and_then o g) i
both o f h g i same = then_same o f h _ same ∙ sym (in_turn o g i)

pub given_back : {A : Type 0} (o : Option (A × List Token)) → and_then o (λ x. pure x) ≡ o
given_back None = refl
given_back (Some p) = refl

-- what came of it, then the rest of the form
unfoldable pub finish : Reader Expr → Progress → Reader Expr
finish single (Read x) = pure x
finish single (Waits pending) = single >>= stage.completed single pending

module _ {single : Reader Expr} (s : Keeps single) where
  -- one more item, or else what follows the list
  more_then : {A C : Type 0} {p : Reader A} (keeps : Keeps p) (G : List A → Reader C) (xs : List A) (ts : List Token)
      → and_then (part.more p ts) (λ others. G (xs ++ others))
      ≡ cond (at_level 12 ts) (and_then (part.after_comma p ts) (λ x mid. and_then (part.more p mid) (λ others. G ((xs ++ x ∷ []) ++ others)))) (G xs ts)
  more_then keeps G xs ts = once_more (at_level 12) (after k.Comma keeps) no_comma G xs ts

  flat_then : {C : Type 0} (G : List (Clause Expr) → Reader C) (xs : List (Clause Expr)) (ts : List Token)
      → and_then (part.more_clauses single ts) (λ others. G (xs ++ others))
      ≡ cond (at_level 13 ts) (and_then (r.clauses single ts) (λ found mid. and_then (part.more_clauses single mid) (λ others. G ((xs ++ found) ++ others)))) (G xs ts)
  flat_then G xs ts =
      sym (made (many (at_level 13) (r.clauses single) ts) part.flat (λ others. G (xs ++ others)))
      ∙ once_more (at_level 13) (shrinks_clauses s) no_clause (λ lists. G (xs ++ part.flat lists)) [] ts
      ∙ ap (λ o. cond (at_level 13 ts) o (G (xs ++ []) ts)) (same_after (r.clauses single ts) _ _ (λ found mid.
      same_after (many (at_level 13) (r.clauses single) mid) _ (λ lists. G ((xs ++ found) ++ part.flat lists)) (λ lists end. ap (λ ys. G ys end) (sym (append_assoc xs found (part.flat lists))))
      ∙ made (many (at_level 13) (r.clauses single) mid) part.flat (λ others. G ((xs ++ found) ++ others))))
      ∙ ap (λ ys. cond (at_level 13 ts) (and_then (r.clauses single ts) (λ found mid. and_then (part.more_clauses single mid) (λ others. G ((xs ++ found) ++ others)))) (G ys ts)) (append-nil xs)

  clause_keeps : (iterates : Bool) → Keeps (part.clause_of single iterates)
  clause_keeps true = keeps_for s
  clause_keeps false = keeps_bind (keeps_set s) (λ b. keeps_pure _)

  return_is : (found : List (Clause Expr)) (test : Option Expr) (sorted : List (SortKey Expr)) (ts : List Token)
      → and_then (stage.to_return found test sorted ts) (finish single) ≡ stage.after_keys single found test sorted ts
  unfolding finish stage.completed
  return_is found test sorted ts = in_turn (eat k.Return ts) _ _

  key_then : {C : Type 0} (H : SortKey Expr → Reader C) (ts : List Token)
      → and_then (r.key single ts) H ≡ and_then (single ts) (λ x mid. and_then (r.direction single mid) (λ descending. H (record { key = x; is_descending = descending })))
  unfolding r.key
  key_then H ts = then_same (single ts) _ H _ (λ x mid. in_turn (r.direction single mid) _ H)

  key_list : (found : List (Clause Expr)) (test : Option Expr) (ts : List Token)
      → and_then (r.list1 (r.key single) ts) (stage.after_keys single found test) ≡ and_then (single ts) (stage.completed single (form.Key found test []))
  unfolding stage.completed
  key_list found test ts = list_then (r.key single) (stage.after_keys single found test) ts ∙ key_then (λ x. stage.after_key single found test (x ∷ [])) ts

  keys_are : (found : List (Clause Expr)) (test : Option Expr) (ts : List Token)
      → and_then (stage.to_key found test ts) (finish single) ≡ and_then ((eat k.Order >> eat k.By >> r.list1 (r.key single)) ts) (stage.after_keys single found test)
  unfolding finish
  keys_are found test ts =
      both (eat k.Order ts) _ _ (λ _. eat k.By >> r.list1 (r.key single)) _ (λ _ mid. both (eat k.By mid) _ _ _ _ (λ _ end. sym (key_list found test end)))
      ∙ ap (λ o. and_then o (stage.after_keys single found test)) (sym (in_turn (eat k.Order ts) _ _))

  to_keys_is : (found : List (Clause Expr)) (test : Option Expr) (ts : List Token)
      → and_then (stage.to_keys found test ts) (finish single) ≡ stage.after_condition single found test ts
  unfolding r.keys
  to_keys_is found test ts =
      either_same (at_level 15 ts) _ _ (finish single) _ _ (keys_are found test ts) (return_is found test [] ts)
      ∙ sym (either_same (at_level 15 ts) _ _ (stage.after_keys single found test) _ _ refl refl)

  condition_is : (found : List (Clause Expr)) (ts : List Token)
      → and_then (stage.to_condition found ts) (finish single) ≡ stage.after_clauses single found ts
  unfolding r.condition finish stage.completed
  condition_is found ts =
      either_same (at_level 14 ts) _ _ (finish single) _ _ (in_turn (eat k.Where ts) _ _) (to_keys_is found None ts)
      ∙ sym (either_same (at_level 14 ts) _ _ (stage.after_condition single found) _ _
      (in_turn ((eat k.Where >> single) ts) _ _ ∙ in_turn (eat k.Where ts) _ _) refl)

  -- a variable, this mark and an expression
  bound_is : (mark : Kind) (waiting : List ℕ → Pending) (H : Binding Expr → Reader Expr)
      → ((name : List ℕ) (x : Expr) (ts : List Token) → stage.completed single (waiting name) x ts ≡ H (stage.bound name x) ts) → (ts : List Token)
      → and_then ((r.variable >>= (λ name. eat mark >> stage.wait (waiting name))) ts) (finish single) ≡ and_then (part.binding single mark ts) H
  unfolding finish
  bound_is mark waiting H same ts = both (r.variable ts) _ _ _ _ (λ name mid. both (eat mark mid) _ _ _ _ (λ _ end.
      same_after (single end) _ (λ x. H (stage.bound name x)) (same name) ∙ sym (in_turn (single end) _ H)))

  at_is : (found : List (Clause Expr)) (ts : List Token)
      → and_then (stage.to_for_at found ts) (finish single) ≡ and_then (r.at_binding single ts) (λ c. stage.after_binding single true (found ++ c ∷ []))
  unfolding finish stage.completed r.at_binding
  at_is found ts = both (r.variable ts) _ _ _ _ (λ name m1. both (eat k.At m1) _ _ _ _ (λ _ m2. both (r.variable m2) _ _ _ _ (λ at m3.
      both (eat k.In m3) _ _ _ _ (λ _ m4. sym (in_turn (single m4) _ _)))))

  binding_is : (iterates : Bool) (found : List (Clause Expr)) (ts : List Token)
      → and_then (stage.to_binding iterates found ts) (finish single) ≡ and_then (part.clause_of single iterates ts) (λ c. stage.after_binding single iterates (found ++ c ∷ []))
  unfolding stage.completed r.for_binding r.in_binding r.set_binding
  binding_is true found ts =
      either_same (sees 2 k.At ts) _ _ (finish single) _ _ (at_is found ts)
      (bound_is k.In (form.For found) (λ b. stage.after_binding single true (found ++ clause.For b ∷ [])) (λ name x mid. refl) ts ∙ sym (in_turn (r.in_binding single ts) _ _))
      ∙ sym (either_same (sees 2 k.At ts) _ _ (λ c. stage.after_binding single true (found ++ c ∷ [])) _ _ refl refl)
  binding_is false found ts =
      bound_is k.Assign (form.Let found) (λ b. stage.after_binding single false (found ++ clause.Let b ∷ [])) (λ name x mid. refl) ts ∙ sym (in_turn (r.set_binding single ts) _ _)

  clause_list : (iterates : Bool) (found : List (Clause Expr)) (ts : List Token)
      → and_then (stage.to_binding iterates found ts) (finish single) ≡ and_then (r.list1 (part.clause_of single iterates) ts) (λ more. stage.after_clause single (found ++ more))
  clause_list iterates found ts =
      binding_is iterates found ts
      ∙ same_after (part.clause_of single iterates ts) _ _ (λ c mid. same_after (part.more (part.clause_of single iterates) mid) _ _ (λ others end.
      ap (λ cs. stage.after_clause single cs end) (append_assoc found (c ∷ []) others)))
      ∙ sym (list_then (part.clause_of single iterates) (λ more. stage.after_clause single (found ++ more)) ts)

  clause_is : (found : List (Clause Expr)) (ts : List Token)
      → and_then (stage.to_clause found ts) (finish single) ≡ and_then (r.clauses single ts) (λ more. stage.after_clause single (found ++ more))
  clause_is found ts =
      either_same (sees 0 k.For ts) _ _ (finish single) _ _
      (both (eat k.For ts) _ _ (λ _. r.list1 (part.clause_of single true)) _ (λ _ mid. clause_list true found mid))
      (both (eat k.Let ts) _ _ (λ _. r.list1 (part.clause_of single false)) _ (λ _ mid. clause_list false found mid))
      ∙ sym (either_same (sees 0 k.For ts) _ _ (λ more. stage.after_clause single (found ++ more)) _ _ refl refl)
      ∙ ap (λ o. and_then o (λ more. stage.after_clause single (found ++ more))) (sym (clauses_is single ts))

  clauses_are : (found : List (Clause Expr)) (ts : List Token) → and_then (stage.to_clauses found ts) (finish single) ≡ stage.after_clause single found ts
  clauses_are found ts =
      either_same (at_level 13 ts) _ _ (finish single) _ _ (clause_is found ts) (condition_is found ts) ∙ sym (flat_then (stage.after_clauses single) found ts)

  past_binding_is : (iterates : Bool) (found : List (Clause Expr)) (ts : List Token)
      → and_then (stage.past_binding iterates found ts) (finish single) ≡ stage.after_binding single iterates found ts
  past_binding_is iterates found ts =
      either_same (at_level 12 ts) _ _ (finish single) _ _ (both (eat k.Comma ts) _ _ (λ _. part.clause_of single iterates) _ (λ _ mid. binding_is iterates found mid)) (clauses_are found ts)
      ∙ sym (more_then (clause_keeps iterates) (stage.after_clause single) found ts)

  past_key_is : (found : List (Clause Expr)) (test : Option Expr) (sorted : List (SortKey Expr)) (ts : List Token)
      → and_then (stage.past_key found test sorted ts) (finish single) ≡ stage.after_key single found test sorted ts
  unfolding finish stage.completed
  past_key_is found test sorted ts =
      either_same (at_level 12 ts) _ _ (finish single) _ _
      (both (eat k.Comma ts) _ _ (λ _. r.key single) _ (λ _ mid. sym (key_then (λ x. stage.after_key single found test (sorted ++ x ∷ [])) mid))) (return_is found test sorted ts)
      ∙ sym (more_then (keeps_key s) (stage.after_keys single found test) sorted ts)

  satisfied : Quantifier → List (Binding Expr) → Reader Expr
  satisfied quantifier found = eat k.Satisfies >> (single >>= (λ x. pure (e.Quantified quantifier found x)))

  in_is : (quantifier : Quantifier) (found : List (Binding Expr)) (ts : List Token)
      → and_then (stage.to_in quantifier found ts) (finish single) ≡ and_then (r.in_binding single ts) (λ b. stage.after_in single quantifier (found ++ b ∷ []))
  unfolding stage.completed r.in_binding
  in_is quantifier found ts = bound_is k.In (form.In quantifier found) (λ b. stage.after_in single quantifier (found ++ b ∷ [])) (λ name x mid. refl) ts

  past_in_is : (quantifier : Quantifier) (found : List (Binding Expr)) (ts : List Token)
      → and_then (stage.past_in quantifier found ts) (finish single) ≡ stage.after_in single quantifier found ts
  unfolding finish stage.completed satisfied
  past_in_is quantifier found ts =
      either_same (at_level 12 ts) _ _ (finish single) _ _
      (both (eat k.Comma ts) _ _ (λ _. r.in_binding single) _ (λ _ mid. in_is quantifier found mid)) (in_turn (eat k.Satisfies ts) _ _)
      ∙ sym (more_then (keeps_in s) (satisfied quantifier) found ts)

  modified : List (Binding Expr) → Reader Expr
  modified found = eat k.Modify >> (single >>= (λ changes. eat k.Return >> (single >>= (λ x. pure (e.Copy found changes x)))))

  copy_is : (found : List (Binding Expr)) (ts : List Token)
      → and_then (stage.to_copy found ts) (finish single) ≡ and_then (r.set_binding single ts) (λ b. stage.after_copy single (found ++ b ∷ []))
  unfolding stage.completed r.set_binding
  copy_is found ts = bound_is k.Assign (form.Copy found) (λ b. stage.after_copy single (found ++ b ∷ [])) (λ name x mid. refl) ts

  past_copy_is : (found : List (Binding Expr)) (ts : List Token)
      → and_then (stage.past_copy found ts) (finish single) ≡ stage.after_copy single found ts
  unfolding finish stage.completed modified
  past_copy_is found ts =
      either_same (at_level 12 ts) _ _ (finish single) _ _
      (both (eat k.Comma ts) _ _ (λ _. r.set_binding single) _ (λ _ mid. copy_is found mid)) (in_turn (eat k.Modify ts) _ _)
      ∙ sym (more_then (keeps_set s) modified found ts)

  pub resume_is : (pending : Pending) (x : Expr) (ts : List Token) → and_then (stage.resume pending x ts) (finish single) ≡ stage.completed single pending x ts
  unfolding finish stage.completed stage.resume r.direction r.place_of
  resume_is (form.For found name) x ts = past_binding_is true (found ++ clause.For (stage.bound name x) ∷ []) ts
  resume_is (form.ForAt found name at) x ts = past_binding_is true (found ++ clause.ForAt (stage.bound name x) at ∷ []) ts
  resume_is (form.Let found name) x ts = past_binding_is false (found ++ clause.Let (stage.bound name x) ∷ []) ts
  resume_is (form.Where found) x ts = to_keys_is found (Some x) ts
  resume_is (form.Key found test sorted) x ts =
      then_same (r.direction single ts) _ (finish single) _ (λ descending mid. past_key_is found test (sorted ++ record { key = x; is_descending = descending } ∷ []) mid)
  resume_is (form.In quantifier found name) x ts = past_in_is quantifier (found ++ stage.bound name x ∷ []) ts
  resume_is (form.Then test) x ts = in_turn (eat k.Else ts) _ _
  resume_is form.Insert x ts = in_turn (r.place_of single ts) _ _
  resume_is form.ReplaceNode x ts = in_turn (eat k.With ts) _ _
  resume_is form.ReplaceValue x ts = in_turn (eat k.With ts) _ _
  resume_is form.Rename x ts = in_turn (eat k.As ts) _ _
  resume_is (form.Copy found name) x ts = past_copy_is (found ++ stage.bound name x ∷ []) ts
  resume_is (form.Last final) x ts = refl
  resume_is (form.Modify found) x ts = in_turn (eat k.Return ts) _ _

  flwor_is : (ts : List Token) → and_then (stage.to_clause [] ts) (finish single) ≡ r.flwor single ts
  unfolding r.flwor
  flwor_is ts = clause_is [] ts ∙ sym (same_after (r.clauses single ts) _ _ (λ first mid.
      made (many (at_level 13) (r.clauses single) mid) part.flat (λ others. stage.after_clauses single (first ++ others))))

  quantified_is : (ts : List Token) → and_then (stage.to_quantified ts) (finish single) ≡ r.quantified single ts
  unfolding r.quantified r.which satisfied
  quantified_is ts = then_same (r.which single ts) _ (finish single) _ (λ quantifier mid. in_is quantifier [] mid ∙ sym (list_then (r.in_binding single) (satisfied quantifier) mid))

  conditional_is : (ts : List Token) → and_then (stage.to_conditional single ts) (finish single) ≡ r.conditional single ts
  unfolding finish stage.completed r.conditional
  conditional_is ts = then_same (eat k.If ts) _ (finish single) _ (λ _ m1. then_same (eat k.OpenParen m1) _ (finish single) _ (λ _ m2.
      then_same (r.exprs single m2) _ (finish single) _ (λ test m3. then_same (eat k.CloseParen m3) _ (finish single) _ (λ _ m4. in_turn (eat k.Then m4) _ (finish single)))))

  insertion_is : (ts : List Token) → and_then (stage.to_insertion ts) (finish single) ≡ r.insertion single ts
  unfolding finish stage.completed r.insertion r.node_or_nodes
  insertion_is ts = then_same (eat k.Insert ts) _ (finish single) _ (λ _ mid. in_turn (r.node_or_nodes single mid) _ (finish single))

  deletion_is : (ts : List Token) → and_then (stage.to_deletion ts) (finish single) ≡ r.deletion single ts
  unfolding finish stage.completed r.deletion r.node_or_nodes
  deletion_is ts = then_same (eat k.Delete ts) _ (finish single) _ (λ _ mid. in_turn (r.node_or_nodes single mid) _ (finish single))

  replacement_is : (ts : List Token) → and_then (stage.to_replacement ts) (finish single) ≡ r.replacement single ts
  unfolding finish stage.completed r.replacement r.replace_node r.replace_value
  replacement_is ts = either_same (sees 1 k.Node ts) _ _ (finish single) _ _
      (then_same (eat k.Replace ts) _ (finish single) _ (λ _ mid. in_turn (eat k.Node mid) _ (finish single)))
      (then_same (eat k.Replace ts) _ (finish single) _ (λ _ m1. then_same (eat k.Value m1) _ (finish single) _ (λ _ m2.
      then_same (eat k.Of m2) _ (finish single) _ (λ _ m3. in_turn (eat k.Node m3) _ (finish single)))))

  renaming_is : (ts : List Token) → and_then (stage.to_renaming ts) (finish single) ≡ r.renaming single ts
  unfolding finish stage.completed r.renaming
  renaming_is ts = then_same (eat k.Rename ts) _ (finish single) _ (λ _ mid. in_turn (eat k.Node mid) _ (finish single))

  copying_is : (level : ℕ) (ts : List Token) → and_then (stage.to_copying level ts) (finish single) ≡ r.copy single level ts
  unfolding r.copy r.copying modified
  copying_is level ts = either_same (nat_le 2 level) _ None (finish single) _ _
      (then_same (eat k.Copy ts) _ (finish single) _ (λ _ mid. copy_is [] mid ∙ sym (list_then (r.set_binding single) modified mid))) refl

  operators_are : (ts : List Token) → and_then (stage.operators single ts) (finish single) ≡ r.disjunction single ts
  unfolding finish
  operators_are ts = in_turn (r.disjunction single ts) _ _ ∙ given_back (r.disjunction single ts)

  form_is : (level : ℕ) (f : r.Form) (ts : List Token) → and_then (stage.begin_form single level f ts) (finish single) ≡ r.read_form single level f ts
  form_is level r.FlworForm ts = flwor_is ts
  form_is level r.QuantifiedForm ts = quantified_is ts
  form_is level r.IfForm ts = conditional_is ts
  form_is level r.InsertForm ts = insertion_is ts
  form_is level r.DeleteForm ts = deletion_is ts
  form_is level r.ReplaceForm ts = replacement_is ts
  form_is level r.RenameForm ts = renaming_is ts
  form_is level r.CopyForm ts = copying_is level ts
  form_is level r.OrForm ts = operators_are ts

  pub begin_is : (level : ℕ) (ts : List Token) → and_then (stage.begin single level ts) (finish single) ≡ r.single_of single level ts
  unfolding stage.begin r.single_of
  begin_is level ts = form_is level (r.form_of (kind_at 0 ts) (kind_at 1 ts)) ts
