-- What is spelt so is read: the forms that no comma parts, and whole queries.
use Rattle.std.proofs.Common.{◌≡◌, ℕ, zero, suc, ◌<◌, Bool, true, false, List, [], length, Option, Some, None, refl, sym, ap, ◌∙◌, ⊎_elim, arith}
use denote.Enum.Bare.{same_true}
use Rattle.query_tokens.specs.contracts.kind.Kind.{the_type}
use Rattle.query_tokens.specs.declared.kind.Kind.{Kind}
use Rattle.query_tokens.specs.declared.kind.Kind.TheVariants as k
use Rattle.query_tokens.specs.declared.token.Token.{Token}
use Rattle.query_tokens.specs.Cursor.{kind_at}
use Rattle.query_grammar.specs.declared.ast.Expr.{Expr}
use Rattle.query_grammar.specs.declared.ast.Clause.{Clause}
use Rattle.query_grammar.specs.declared.ast.Clause.TheVariants as clause
use Rattle.query_grammar.specs.declared.ast.Place.{Place}
use Rattle.query_grammar.specs.declared.ast.Quantifier.{Quantifier}
use Rattle.query_grammar.specs.declared.ast.SortKey.{SortKey}
use Rattle.query_grammar.specs.Lang.{Lang, pure as empty, ◌>>=◌ as ◌▹◌, ◌∪◌, tok}
use Rattle.query_grammar.specs.Grammar as g
use Rattle.query_grammar.specs.Loose.{looseness}
use Rattle.query_grammar.specs.Reading.{Reader, and_then, pure, ◌>>=◌ as ◌▸◌, same_kind, sees, at_level, eat}
use Rattle.query_grammar.specs.Reader as r
use Rattle.query_grammar.specs.Reader.{Form, OrForm, form_of}
use Rattle.query_grammar.proofs.Follows.{loose, loose_level, word_loose, Leads, leads_pure, leads_bind, leads_at, leads_mark, leads_either, leads_many}
use Rattle.query_grammar.proofs.Steps.{some_one, Shrinks, keeps, keeps_many, shrinks_tok, shrinks_bind, Complete, complete_looser, complete_pure, complete_bind, complete_made, tok_reads, complete_after, complete_then, first_tok, then_tok, taken, passed, complete_choose, complete_swap, complete_many}
use Rattle.query_grammar.proofs.Starts.{shrinks_list1, shrinks_var, shrinks_exprs, shrinks_in, shrinks_set, shrinks_for, shrinks_clauses, keeps_condition, shrinks_key, keeps_keys, shrinks_which, shrinks_nodes, shrinks_place, shrinks_single, Begins, begins_tok, begins_bind, begins_either, starts, begins_single}
use Rattle.query_grammar.proofs.Ahead.{differ, form_ahead, follows_not, starts_no_brace}
use Rattle.query_grammar.proofs.Whole.{Operand, tok_sees, tok_not, variable_reads, eat_reads, at_loose, past_level, complete_either, complete_list1, complete_exprs, operand_or}

-- a word, and then an expression
leads_word : {A B : Type 0} {F : A → Lang B} {P : Lang A} {j i : ℕ} (kind : Kind) → j < looseness kind → Begins starts P → Leads j i (tok kind ▹ (λ _. P ▹ F))
leads_word kind below b = record {
  leads = λ ts x rest h past. let i = h.3 in
      let e = word_loose kind ts h.0 h.1 h.2 (starts_no_brace _ (b.first h.1 i.0 i.1 i.2)) in omega (arith, e, below);
}

no_brace : (ts : List Token) → 0 < loose ts → same_kind (kind_at 0 ts) k.OpenBrace ≡ false
no_brace ts h = follows_not k.OpenBrace (kind_at 0 ts) refl (let e = loose_level ts h in omega (arith, e, h))

-- a word that ends what it stands in
leads_last : {A : Type 0} {j i : ℕ} (kind : Kind) (a : A) → j < looseness kind → Leads j i (tok kind ▹ (λ _. empty a))
leads_last kind a below = record {
  leads = λ ts x rest h past. let i = h.3 in let f = ap loose i.1 in
      let e = word_loose kind ts h.0 h.1 h.2 (no_brace h.1 (omega (arith, f, past))) in omega (arith, e, below);
}

is_dollar : Kind → Bool
is_dollar kind = same_kind kind k.Dollar

dollar_variable : Begins is_dollar g.Var
unfolding is_dollar
dollar_variable = begins_bind (begins_tok is_dollar k.Dollar refl)

dollar_brace : (kind : Kind) → is_dollar kind ≡ true → same_kind kind k.OpenBrace ≡ false
unfolding is_dollar
dollar_brace kind h = differ is_dollar kind k.OpenBrace h refl

form_first : (kind : Kind) (ts : List Token) (t : Token) (mid : List Token) → tok kind ts t mid → form_of (kind_at 0 ts) (kind_at 1 ts) ≡ form_of kind (kind_at 0 mid)
form_first kind ts t mid h = ap (λ us. form_of (kind_at 0 us) (kind_at 1 us)) h.0 ∙ ap (λ x. form_of x (kind_at 0 mid)) h.1

form_two : (first second : Kind) (ts : List Token) (t : Token) (mid : List Token) (u : Token) (rest : List Token) → tok first ts t mid → tok second mid u rest
    → form_of (kind_at 0 ts) (kind_at 1 ts) ≡ form_of first second
form_two first second ts t mid u rest h i = form_first first ts t mid h ∙ ap (λ us. form_of first (kind_at 0 us)) i.0 ∙ ap (λ x. form_of first x) i.1

form_dollar : (first : Kind) (ts : List Token) (t : Token) (mid : List Token) → tok first ts t mid → is_dollar (kind_at 0 mid) ≡ true → form_of (kind_at 0 ts) (kind_at 1 ts) ≡ form_of first k.Dollar
unfolding is_dollar
form_dollar first ts t mid h e = let same : kind_at 0 mid ≡ k.Dollar = same_true the_type tt (kind_at 0 mid) k.Dollar e in form_first first ts t mid h ∙ ap (λ x. form_of first x) same

-- two tokens
two_reads : (a b : Kind) (ts : List Token) (t : Token) (rest : List Token) → (tok a ▹ (λ _. tok b)) ts t rest → (eat a ▸ (λ _. eat b)) ts ≡ Some (t, rest)
two_reads a b ts t rest h = ap (λ o. and_then o (λ _. eat b)) (tok_reads a ts h.0 h.1 h.2) ∙ tok_reads b h.1 t rest h.3

-- three, and then nothing
three_reads : {A : Type 0} (a b c : Kind) (x : A) (ts : List Token) (y : A) (rest : List Token) → (((tok a ▹ (λ _. tok b)) ▹ (λ _. tok c)) ▹ (λ _. empty x)) ts y rest
    → (((eat a ▸ (λ _. eat b)) ▸ (λ _. eat c)) ▸ (λ _. pure x)) ts ≡ Some (y, rest)
three_reads a b c x ts y rest h = let i = h.2 in
    ap (λ o. and_then (and_then o (λ _. eat c)) (λ _. pure x)) (two_reads a b ts i.0 i.1 i.2)
    ∙ ap (λ o. and_then o (λ _. pure x)) (tok_reads c i.1 h.0 h.1 i.3) ∙ ap (λ us. Some (x, us)) h.3.1 ∙ ap (λ z. Some (z, rest)) h.3.0

shrinks_two : (a b : Kind) → Shrinks (tok a ▹ (λ _. tok b))
shrinks_two a b = shrinks_bind (shrinks_tok a) (λ _. keeps (shrinks_tok b))

module _ {m : ℕ} {p : Reader Expr} {S : Lang Expr} (s : Complete m 10 p S) (l : Shrinks S) (b : Begins starts S) where
  complete_conditional : Complete (suc m) 10 (r.conditional p) (g.If S)
  unfolding r.conditional
  complete_conditional = first_tok k.If (then_tok k.OpenParen (complete_bind (complete_exprs s l b) (keeps (shrinks_exprs l))
      (λ c. then_tok k.CloseParen (then_tok k.Then (complete_bind s (keeps l) (λ x. then_tok k.Else (complete_made _ s)) (λ x. leads_word k.Else (omega arith) b))))
      (λ c. leads_mark k.CloseParen refl (omega arith))))

  complete_in : Complete m 10 (r.in_binding p) (g.In S)
  unfolding r.in_binding
  complete_in = complete_then variable_reads shrinks_var (λ name. then_tok k.In (complete_made _ s))

  complete_set : Complete m 10 (r.set_binding p) (g.Set S)
  unfolding r.set_binding
  complete_set = complete_then variable_reads shrinks_var (λ name. then_tok k.Assign (complete_made _ s))

  third : (kind : Kind) (ts : List Token) (name : List ℕ) (mid : List Token) (t : Token) (rest : List Token) → g.Var ts name mid → tok kind mid t rest → kind_at 2 ts ≡ kind
  third kind ts name mid t rest h i = let n = h.3 in
      ap (kind_at 2) h.2.0 ∙ ap (kind_at 1) n.2.0 ∙ ap (kind_at 0) (n.3.1 ∙ i.0) ∙ i.1

  complete_for : Complete m 10 (r.for_binding p) (g.Bind S)
  unfolding r.for_binding r.at_binding sees
  complete_for = complete_swap (complete_choose (sees 2 k.At)
      (λ ts a rest h _. let i = h.3 in ap (λ x. same_kind x k.At) (third k.At ts h.0 h.1 i.0 i.1 h.2 i.2))
      (complete_then variable_reads shrinks_var (λ name. then_tok k.At (complete_then variable_reads shrinks_var (λ at. then_tok k.In (complete_made _ s)))))
      (λ ts a rest h _. let q = h.2 in let i = q.3 in ap (λ x. same_kind x k.At) (third k.In ts q.0 q.1 i.0 i.1 q.2 i.2))
      (complete_made clause.For complete_in))

  complete_clauses : Complete (suc m) 12 (r.clauses p) (g.Clauses S)
  unfolding r.clauses
  complete_clauses = complete_choose (sees 0 k.For)
      (λ ts a rest h _. tok_sees k.For ts h.0 h.1 h.2)
      (first_tok k.For (complete_list1 (omega arith) complete_for (shrinks_for l)))
      (λ ts a rest h _. let q = h.2 in tok_not k.Let k.For refl ts q.0 q.1 q.2)
      (complete_made _ (first_tok k.Let (complete_list1 (omega arith) complete_set (shrinks_set l))))

  dollar_for : Begins is_dollar (g.List1 (g.Bind S))
  dollar_for = begins_bind (begins_either (begins_bind (begins_bind dollar_variable)) (begins_bind dollar_variable))

  dollar_set : Begins is_dollar (g.List1 (g.Set S))
  dollar_set = begins_bind (begins_bind dollar_variable)

  clauses_loose : (ts : List Token) (x : List (Clause Expr)) (rest : List Token) → g.Clauses S ts x rest → loose ts ≡ 13
  clauses_loose ts x rest h = ⊎_elim
      (λ q. word_loose k.For ts q.0 q.1 q.2 (dollar_brace _ (dollar_for.first q.1 x rest q.3)))
      (λ q. let i = q.2 in word_loose k.Let ts i.0 i.1 i.2 (dollar_brace _ (dollar_set.first i.1 q.0 q.1 i.3)))
      h

  where_loose : (ts : List Token) (x : Option Expr) (rest : List Token) → ((tok k.Where ▹ (λ _. S)) ▹ (λ x. empty (Some x))) ts x rest → loose ts ≡ 14
  where_loose ts x rest h = let i = h.2 in word_loose k.Where ts i.0 i.1 i.2 (starts_no_brace _ (b.first i.1 h.0 h.1 i.3))

  complete_condition : Complete (suc m) 14 (r.condition p) (g.Where S)
  unfolding r.condition
  complete_condition = complete_swap (complete_choose (at_level 14)
      (λ ts a rest h _. at_loose 14 (omega arith) ts (where_loose ts a rest h))
      (complete_looser {j = 10} (omega arith) (complete_made Some (first_tok k.Where s)))
      (λ ts a rest h past. ap (at_level 14) h.1 ∙ past_level 14 rest past)
      (complete_pure (suc m) 14 None))

  not_last : (kind : Kind) → looseness kind ≡ 11 → (ts : List Token) (x : Bool) (rest : List Token) → empty false ts x rest → 11 < loose rest → sees 0 kind ts ≡ false
  unfolding sees
  not_last kind e ts x rest h past = ap (λ us. same_kind (kind_at 0 us) kind) h.1 ∙ go (same_kind (kind_at 0 rest) kind) refl
    where
      go : (found : Bool) → same_kind (kind_at 0 rest) kind ≡ found → found ≡ false
      go true same = absurd (let f = loose_level rest (omega (arith, past)) in let u : kind_at 0 rest ≡ kind = same_true the_type tt (kind_at 0 rest) kind same in let w = ap looseness u in omega (arith, f, w, e, past))
      go false same = refl

  complete_direction : Complete m 11 (r.direction p) (g.Direction S)
  unfolding r.direction
  complete_direction = record {
    reads = λ ts a rest le h past. ⊎_elim
        (λ q. passed _ _ (not_last k.Ascending refl ts a rest q past) (passed _ _ (not_last k.Descending refl ts a rest q past) ((complete_pure m 11 false).reads ts a rest le q past)))
        (⊎_elim
        (λ q. taken _ _ (tok_sees k.Ascending ts q.0 q.1 q.2) (eat_reads k.Ascending false ts a rest q))
        (λ q. passed _ _ (tok_not k.Descending k.Ascending refl ts q.0 q.1 q.2) (taken _ _ (tok_sees k.Descending ts q.0 q.1 q.2) (eat_reads k.Descending true ts a rest q))))
        h;
  }

  complete_key : Complete m 11 (r.key p) (g.Key S)
  unfolding r.key
  complete_key = complete_bind s (keeps l) (λ x. complete_made _ complete_direction)
      (λ x. leads_bind 11 (leads_either (leads_pure _ (omega arith)) (leads_either (leads_last k.Ascending false (omega arith)) (leads_last k.Descending true (omega arith)))) (λ d. leads_pure _ (omega arith)))

  keys_loose : (ts : List Token) (x : List (SortKey Expr)) (rest : List Token) → ((tok k.Order ▹ (λ _. tok k.By)) ▹ (λ _. g.List1 (g.Key S))) ts x rest → loose ts ≡ 15
  keys_loose ts x rest h = let i = h.2 in let j = i.3 in
      word_loose k.Order ts i.0 i.1 i.2 (ap (λ us. same_kind (kind_at 0 us) k.OpenBrace) j.0 ∙ ap (λ y. same_kind y k.OpenBrace) j.1)

  complete_keys : Complete (suc m) 15 (r.keys p) (g.OrderBy S)
  unfolding r.keys
  complete_keys = complete_swap (complete_choose (at_level 15)
      (λ ts a rest h _. at_loose 15 (omega arith) ts (keys_loose ts a rest h))
      (complete_looser {j = 12} (omega arith) (complete_after (two_reads k.Order k.By) (shrinks_two k.Order k.By) (λ _. complete_list1 (omega arith) complete_key (shrinks_key l))))
      (λ ts a rest h past. ap (at_level 15) h.1 ∙ past_level 15 rest past)
      (complete_pure (suc m) 15 []))

  keys_lead : {F : List (SortKey Expr) → Lang Expr} → ((keys : List (SortKey Expr)) → Leads 15 10 (F keys)) → Leads 14 10 (g.OrderBy S ▹ F)
  keys_lead f = leads_bind 15 (leads_either (leads_pure _ (omega arith)) (leads_at 15 (omega arith) keys_loose)) f

  condition_leads : {F : Option Expr → Lang Expr} → ((x : Option Expr) → Leads 14 10 (F x)) → Leads 13 10 (g.Where S ▹ F)
  condition_leads f = leads_bind 14 (leads_either (leads_pure _ (omega arith)) (leads_at 14 (omega arith) where_loose)) f

  complete_flwor : Complete (suc m) 10 (r.flwor p) (g.Flwor S)
  unfolding r.flwor
  complete_flwor = complete_bind complete_clauses (keeps (shrinks_clauses l))
      (λ first. complete_bind (complete_many (omega arith) complete_clauses (shrinks_clauses l) clauses_loose) (keeps_many (keeps (shrinks_clauses l)))
      (λ others. complete_bind complete_condition (keeps_condition l)
      (λ test. complete_bind complete_keys (keeps_keys l) (λ keys. first_tok k.Return (complete_made _ s)) (λ keys. leads_word k.Return (omega arith) b))
      (λ test. keys_lead (λ keys. leads_word k.Return (omega arith) b)))
      (λ others. condition_leads (λ test. keys_lead (λ keys. leads_word k.Return (omega arith) b))))
      (λ first. leads_bind 13 (leads_many 13 (omega arith) (omega arith) clauses_loose) (λ others. condition_leads (λ test. keys_lead (λ keys. leads_word k.Return (omega arith) b))))

  which_reads : (ts : List Token) (a : Quantifier) (rest : List Token) → g.WhichOf S ts a rest → r.which p ts ≡ Some (a, rest)
  unfolding r.which
  which_reads ts a rest h = ⊎_elim
      (λ q. taken _ _ (tok_sees k.Some ts q.0 q.1 q.2) (eat_reads k.Some _ ts a rest q))
      (λ q. passed _ _ (tok_not k.Every k.Some refl ts q.0 q.1 q.2) (eat_reads k.Every _ ts a rest q))
      h

  complete_quantified : Complete (suc m) 10 (r.quantified p) (g.Quant S)
  unfolding r.quantified
  complete_quantified = complete_after which_reads (shrinks_which l) (λ which. complete_bind (complete_list1 (omega arith) complete_in (shrinks_in l)) (keeps (shrinks_list1 (shrinks_in l)))
      (λ bindings. then_tok k.Satisfies (complete_made _ s)) (λ bindings. leads_word k.Satisfies (omega arith) b))

  nodes_read : (ts : List Token) (a : Token) (rest : List Token) → g.NodeOrNodes S ts a rest → r.node_or_nodes p ts ≡ Some (a, rest)
  unfolding r.node_or_nodes
  nodes_read ts a rest h = ⊎_elim
      (λ q. taken _ _ (tok_sees k.Node ts a rest q) (tok_reads k.Node ts a rest q))
      (λ q. passed _ _ (tok_not k.Nodes k.Node refl ts a rest q) (tok_reads k.Nodes ts a rest q))
      h

  second_first : (second : Kind) (ts : List Token) (t : Token) (rest : List Token) → (tok k.As ▹ (λ _. tok second)) ts t rest → kind_at 1 ts ≡ second
  second_first second ts t rest h = let i = h.3 in ap (kind_at 1) h.2.0 ∙ ap (kind_at 0) i.0 ∙ i.1

  place_reads : (ts : List Token) (a : Place) (rest : List Token) → g.PlaceOf S ts a rest → r.place_of p ts ≡ Some (a, rest)
  unfolding r.place_of sees
  place_reads ts a rest h = ⊎_elim
      (λ q. taken _ _ (tok_sees k.Into ts q.0 q.1 q.2) (eat_reads k.Into _ ts a rest q))
      (⊎_elim
      (λ q. let i = q.2 in let j = i.2 in passed _ _ (tok_not k.As k.Into refl ts j.0 j.1 j.2) (passed _ _ (tok_not k.As k.After refl ts j.0 j.1 j.2)
      (passed _ _ (tok_not k.As k.Before refl ts j.0 j.1 j.2)
      (taken _ _ (ap (λ x. same_kind x k.First) (second_first k.First ts i.0 i.1 j)) (three_reads k.As k.First k.Into _ ts a rest q)))))
      (⊎_elim
      (λ q. let i = q.2 in let j = i.2 in passed _ _ (tok_not k.As k.Into refl ts j.0 j.1 j.2) (passed _ _ (tok_not k.As k.After refl ts j.0 j.1 j.2)
      (passed _ _ (tok_not k.As k.Before refl ts j.0 j.1 j.2)
      (passed _ _ (ap (λ x. same_kind x k.First) (second_first k.Last ts i.0 i.1 j)) (three_reads k.As k.Last k.Into _ ts a rest q)))))
      (⊎_elim
      (λ q. passed _ _ (tok_not k.After k.Into refl ts q.0 q.1 q.2) (taken _ _ (tok_sees k.After ts q.0 q.1 q.2) (eat_reads k.After _ ts a rest q)))
      (λ q. passed _ _ (tok_not k.Before k.Into refl ts q.0 q.1 q.2) (passed _ _ (tok_not k.Before k.After refl ts q.0 q.1 q.2)
      (taken _ _ (tok_sees k.Before ts q.0 q.1 q.2) (eat_reads k.Before _ ts a rest q)))))))
      h

  -- a place stands at the level of closers, unless "{" comes after it
  last_loose : {A : Type 0} {x : A} (kind : Kind) → looseness kind ≡ 16 → (ts : List Token) (a : A) (rest : List Token) → (tok kind ▹ (λ _. empty x)) ts a rest
      → same_kind (kind_at 0 rest) k.OpenBrace ≡ false → loose ts ≡ 16
  last_loose kind e ts a rest h n = word_loose kind ts h.0 h.1 h.2 (ap (λ us. same_kind (kind_at 0 us) k.OpenBrace) h.3.1 ∙ n) ∙ e

  as_loose : (second : Kind) → same_kind second k.OpenBrace ≡ false → (ts : List Token) (t : Token) (rest : List Token) → (tok k.As ▹ (λ _. tok second)) ts t rest → loose ts ≡ 16
  as_loose second e ts t rest h = let i = h.3 in
      word_loose k.As ts h.0 h.1 h.2 (ap (λ us. same_kind (kind_at 0 us) k.OpenBrace) i.0 ∙ ap (λ x. same_kind x k.OpenBrace) i.1 ∙ e)

  place_loose : (ts : List Token) (a : Place) (rest : List Token) → g.PlaceOf S ts a rest → same_kind (kind_at 0 rest) k.OpenBrace ≡ false → loose ts ≡ 16
  place_loose ts a rest h n = ⊎_elim (λ q. last_loose k.Into refl ts a rest q n)
      (⊎_elim (λ q. let i = q.2 in as_loose k.First refl ts i.0 i.1 i.2)
      (⊎_elim (λ q. let i = q.2 in as_loose k.Last refl ts i.0 i.1 i.2)
      (⊎_elim (λ q. last_loose k.After refl ts a rest q n) (λ q. last_loose k.Before refl ts a rest q n)))) h

  complete_insertion : Complete (suc m) 10 (r.insertion p) (g.Insert S)
  unfolding r.insertion
  complete_insertion = first_tok k.Insert (complete_then nodes_read (shrinks_nodes l) (λ _. complete_bind s (keeps l)
      (λ x. complete_then place_reads (shrinks_place l) (λ place. complete_made _ s))
      (λ x. record { leads = λ ts a rest h past. let i = h.3 in let e = place_loose ts h.0 h.1 h.2 (starts_no_brace _ (b.first h.1 i.0 i.1 i.2)) in omega (arith, e) })))

  complete_deletion : Complete (suc m) 10 (r.deletion p) (g.Delete S)
  unfolding r.deletion
  complete_deletion = first_tok k.Delete (complete_then nodes_read (shrinks_nodes l) (λ _. complete_made _ s))

  after_replace : (second : Kind) (ts : List Token) (t : Token) (mid : List Token) (u : Token) (rest : List Token) → tok k.Replace ts t mid → tok second mid u rest → kind_at 1 ts ≡ second
  after_replace second ts t mid u rest h i = ap (kind_at 1) h.0 ∙ ap (kind_at 0) i.0 ∙ i.1

  complete_replacement : Complete (suc m) 10 (r.replacement p) (g.Replace S)
  unfolding r.replacement r.replace_node r.replace_value sees
  complete_replacement = complete_choose (sees 1 k.Node)
      (λ ts a rest h _. let i = h.3 in ap (λ x. same_kind x k.Node) (after_replace k.Node ts h.0 h.1 i.0 i.1 h.2 i.2))
      (first_tok k.Replace (then_tok k.Node (complete_bind s (keeps l) (λ x. then_tok k.With (complete_made _ s)) (λ x. leads_word k.With (omega arith) b))))
      (λ ts a rest h _. let i = h.3 in ap (λ x. same_kind x k.Node) (after_replace k.Value ts h.0 h.1 i.0 i.1 h.2 i.2))
      (first_tok k.Replace (then_tok k.Value (then_tok k.Of (then_tok k.Node (complete_bind s (keeps l) (λ x. then_tok k.With (complete_made _ s)) (λ x. leads_word k.With (omega arith) b))))))

  complete_renaming : Complete (suc m) 10 (r.renaming p) (g.Rename S)
  unfolding r.renaming
  complete_renaming = first_tok k.Rename (then_tok k.Node (complete_bind s (keeps l) (λ x. then_tok k.As (complete_made _ s)) (λ x. leads_word k.As (omega arith) b)))

  complete_copy : (level : ℕ) → Complete (suc m) 10 (r.copy p level) (g.Copy S level)
  unfolding r.copy r.copying
  complete_copy level = record {
    reads = λ ts a rest le h past. taken _ _ h.0
        ((first_tok k.Copy (complete_bind (complete_list1 (omega arith) complete_set (shrinks_set l)) (keeps (shrinks_list1 (shrinks_set l)))
        (λ bindings. then_tok k.Modify (complete_bind s (keeps l) (λ x. then_tok k.Return (complete_made _ s)) (λ x. leads_word k.Return (omega arith) b)))
        (λ bindings. leads_word k.Modify (omega arith) b))).reads ts a rest le h.1 past);
  }

  complete_form : {P : Lang Expr} (level : ℕ) (form : Form) → ((ts : List Token) (a : Expr) (rest : List Token) → P ts a rest → 10 < loose rest → form_of (kind_at 0 ts) (kind_at 1 ts) ≡ form)
      → Complete (suc m) 10 (r.read_form p level form) P → Complete (suc m) 10 (r.single_of p level) P
  unfolding r.single_of
  complete_form level form tells t = record { reads = λ ts a rest le h past. ap (λ x. r.read_form p level x ts) (tells ts a rest h past) ∙ t.reads ts a rest le h past }

  flwor_form : (ts : List Token) (a : Expr) (rest : List Token) → g.Flwor S ts a rest → form_of (kind_at 0 ts) (kind_at 1 ts) ≡ r.FlworForm
  flwor_form ts a rest h = ⊎_elim
      (λ q. form_dollar k.For ts q.0 q.1 q.2 (dollar_for.first q.1 h.0 h.1 q.3))
      (λ q. let i = q.2 in form_dollar k.Let ts i.0 i.1 i.2 (dollar_set.first i.1 q.0 q.1 i.3))
      h.2

  quantified_form : (ts : List Token) (a : Expr) (rest : List Token) → g.Quant S ts a rest → form_of (kind_at 0 ts) (kind_at 1 ts) ≡ r.QuantifiedForm
  quantified_form ts a rest h = let i = h.3 in let first : is_dollar (kind_at 0 h.1) ≡ true = dollar_in.first h.1 i.0 i.1 i.2 in ⊎_elim
      (λ q. form_dollar k.Some ts q.0 q.1 q.2 (ap (λ us. is_dollar (kind_at 0 us)) q.3.1 ∙ first))
      (λ q. form_dollar k.Every ts q.0 q.1 q.2 (ap (λ us. is_dollar (kind_at 0 us)) q.3.1 ∙ first))
      h.2
    where
      dollar_in : Begins is_dollar (g.List1 (g.In S))
      dollar_in = begins_bind (begins_bind dollar_variable)

  nodes_form : (first : Kind) (form : Form) → form_of first k.Node ≡ form → form_of first k.Nodes ≡ form → (ts : List Token) (t : Token) (mid : List Token) (u : Token) (rest : List Token)
      → tok first ts t mid → g.NodeOrNodes S mid u rest → form_of (kind_at 0 ts) (kind_at 1 ts) ≡ form
  nodes_form first form e f ts t mid u rest h i = ⊎_elim
      (λ q. form_two first k.Node ts t mid u rest h q ∙ e) (λ q. form_two first k.Nodes ts t mid u rest h q ∙ f) i

  replace_form : (ts : List Token) (a : Expr) (rest : List Token) → g.Replace S ts a rest → form_of (kind_at 0 ts) (kind_at 1 ts) ≡ r.ReplaceForm
  replace_form ts a rest h = ⊎_elim
      (λ q. let i = q.3 in form_two k.Replace k.Node ts q.0 q.1 i.0 i.1 q.2 i.2) (λ q. let i = q.3 in form_two k.Replace k.Value ts q.0 q.1 i.0 i.1 q.2 i.2) h

  pub complete_single_of : (level : ℕ) → Complete (suc m) 10 (r.single_of p level)
      (g.Flwor S ∪ (g.Quant S ∪ (g.If S ∪ (g.Insert S ∪ (g.Delete S ∪ (g.Replace S ∪ (g.Rename S ∪ (g.Copy S level ∪ g.Or S))))))))
  unfolding form_ahead
  complete_single_of level =
      complete_either (complete_form level r.FlworForm (λ ts a rest h _. flwor_form ts a rest h) complete_flwor)
      (complete_either (complete_form level r.QuantifiedForm (λ ts a rest h _. quantified_form ts a rest h) complete_quantified)
      (complete_either (complete_form level r.IfForm (λ ts a rest h _. let i = h.3 in form_two k.If k.OpenParen ts h.0 h.1 i.0 i.1 h.2 i.2) complete_conditional)
      (complete_either (complete_form level r.InsertForm (λ ts a rest h _. let i = h.3 in nodes_form k.Insert r.InsertForm refl refl ts h.0 h.1 i.0 i.1 h.2 i.2) complete_insertion)
      (complete_either (complete_form level r.DeleteForm (λ ts a rest h _. let i = h.3 in nodes_form k.Delete r.DeleteForm refl refl ts h.0 h.1 i.0 i.1 h.2 i.2) complete_deletion)
      (complete_either (complete_form level r.ReplaceForm (λ ts a rest h _. replace_form ts a rest h) complete_replacement)
      (complete_either (complete_form level r.RenameForm (λ ts a rest h _. let i = h.3 in form_two k.Rename k.Node ts h.0 h.1 i.0 i.1 h.2 i.2) complete_renaming)
      (complete_either (complete_form level r.CopyForm (λ ts a rest h _. let c = h.1 in let i = c.3 in form_dollar k.Copy ts c.0 c.1 c.2 (dollar_set.first c.1 i.0 i.1 i.2)) (complete_copy level))
      (complete_form level OrForm (λ ts a rest h past. operand.no_form.tells ts a rest h (omega (arith, past))) operand.complete))))))))
    where
      operand : Operand (suc m) 10 (r.disjunction p) (g.Or S)
      operand = operand_or s l b

-- nested at most so deep, from at most as many tokens as the reader goes deep
complete_single : (level n m : ℕ) → Complete m 10 (r.single level m) (g.SingleOf level n)
unfolding r.single
complete_single level zero m = record { reads = λ ts a rest le h past. absurd h }
complete_single level (suc n) zero = record { reads = λ ts a rest le h past. absurd (let e = (shrinks_single level (suc n)).shorter ts a rest h in omega (arith, le, e)) }
complete_single level (suc n) (suc m) = complete_single_of (complete_single level n m) (shrinks_single level n) (begins_single level n) level

pub complete_query : (level : ℕ) (ts : List Token) (x : Expr) → g.IsQuery level ts x → r.query level ts ≡ Some x
unfolding r.query loose
complete_query level ts x h =
    let n = h.0 in
    ap r.whole ((complete_exprs (complete_single level n (suc (length ts))) (shrinks_single level n) (begins_single level n)).reads ts x [] (omega arith) h.1 (omega arith))

pub one_query : (level : ℕ) (ts : List Token) (x y : Expr) → g.IsQuery level ts x → g.IsQuery level ts y → x ≡ y
one_query level ts x y h i = some_one (sym (complete_query level ts x h) ∙ complete_query level ts y i)
