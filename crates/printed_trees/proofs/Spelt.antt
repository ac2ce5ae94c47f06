-- Tokens that are spelt as an expression that no comma parts, whatever comes after them.
use Rattle.std.proofs.Common.{Bool, true, false, if◌then◌else◌, ◌≡◌, ℕ, ℤ, pos, negsuc, zero, suc, ◌≤◌, List, [], ◌∷◌, ◌++◌, refl, ap, sym, subst, inl, inr, arith, append_assoc, append-nil, Option, codes, Some}
use Rattle.std.specs.List.{AllZip}
use Rattle.data_model.specs.Trees.{Trees, no_trees, tree, height}
use Rattle.data_model.specs.declared.node.Kind.{Kind as NodeKind}
use Rattle.data_model.specs.declared.node.Kind.TheVariants as node
use Rattle.query_tokens.specs.declared.kind.Kind.{Kind}
use Rattle.query_tokens.specs.declared.kind.Kind.TheVariants as k
use Rattle.query_tokens.specs.declared.token.Token.{Token}
use Rattle.query_tokens.specs.Lexing.{mark_token}
use Rattle.query_tokens.specs.Words.{kind_of}
use Rattle.query_grammar.specs.declared.functions.Function.TheVariants as function
use Rattle.query_grammar.specs.Functions.{function_of}
use Rattle.query_grammar.specs.Grammar.{SingleOf, Primary, Path, OfPrimary, Unary, Inter, Union, Mul, Add, Range, Comp, And, Or, Chain, Exprs, Content, Body, Braces, Make, NameOrBraces, Named, IsQuery, of_list}
use Rattle.query_grammar.specs.Lang.{Lang, Many, tok, stands, ◌>>◌}
use Rattle.query_grammar.specs.Words.{is_function, sign_of}
use Rattle.query_grammar.specs.declared.ast.Binary.{Binary}
use Rattle.query_grammar.specs.declared.ast.Expr.{Expr}
use Rattle.query_grammar.specs.declared.ast.Expr.TheVariants as e
use Rattle.query_grammar.specs.declared.ast.Name.{Name as NameOf}
use Rattle.query_grammar.specs.declared.ast.Name.TheVariants.{Written}
use Rattle.query_grammar.specs.declared.ast.Sign.TheVariants.{Minus}
use Rattle.printed_trees.specs.Constructors.{constructor_of, tree_expressions, integer_expression}
use Rattle.printed_trees.proofs.Spelling.{word, string, number, braced, parens, others_listed, listed, document_content, constructor, tree_spellings, integer_spelling, is_name, document_word, element_word, attribute_word, text_word, comment_word, instruction_word, true_word, false_word}

-- an operand alone
alone : (op : Kind → Option Binary) (P : Lang Expr) (ts rest : List Token) (x : Expr) → P ts x rest → Chain op P ts x rest
alone op P ts rest x p = (x, rest, p, ([], rest, refl, (refl, refl)))

module _ (level n : ℕ) (ts rest : List Token) (x : Expr) where
  of_unary : Unary (SingleOf level n) ts x rest → SingleOf level (suc n) ts x rest
  of_unary p =
      let inter : Inter (SingleOf level n) ts x rest = alone _ _ ts rest x p in
      let union : Union (SingleOf level n) ts x rest = alone _ _ ts rest x inter in
      let product : Mul (SingleOf level n) ts x rest = alone _ _ ts rest x union in
      let sum : Add (SingleOf level n) ts x rest = alone _ _ ts rest x product in
      let range : Range (SingleOf level n) ts x rest = inl sum in
      let comparison : Comp (SingleOf level n) ts x rest = inl range in
      let conjunction : And (SingleOf level n) ts x rest = alone _ _ ts rest x comparison in
      let disjunction : Or (SingleOf level n) ts x rest = alone _ _ ts rest x conjunction in
      inr (inr (inr (inr (inr (inr (inr (inr disjunction)))))))

  of_path : Primary (SingleOf level n) ts x rest → Path (SingleOf level n) ts x rest
  of_path p = (OfPrimary x [], rest, inl (x, rest, p, ([], rest, refl, (refl, refl))), ([], rest, refl, (refl, refl)))

  of_primary : Primary (SingleOf level n) ts x rest → SingleOf level (suc n) ts x rest
  of_primary p = of_unary ([], ts, refl, (x, rest, of_path p, (refl, refl)))

-- the tokens are spelt so
abbrev pub AreSpelt : {A : Type 0} → Lang A → List Token → A → Type 0
AreSpelt P spelling x = (rest : List Token) → P (spelling ++ rest) x rest

module _ (S : Lang Expr) where
  many : (spellings : List (List Token)) (xs : List Expr) → AllZip (AreSpelt S) spellings xs → AreSpelt (Many (tok k.Comma >> S)) (others_listed spellings) xs
  many [] [] h rest = refl
  many [] (x ∷ xs) h rest = absurd h
  many (t ∷ ts) [] h rest = absurd h
  many (t ∷ ts) (x ∷ xs) h rest =
      let first : S ((t ++ others_listed ts) ++ rest) x (others_listed ts ++ rest) = subst (λ us. S us x (others_listed ts ++ rest)) (sym (append_assoc t (others_listed ts) rest)) (h.0 (others_listed ts ++ rest)) in
      (others_listed ts ++ rest, (mark_token k.Comma, (t ++ others_listed ts) ++ rest, (refl, refl), first), many ts xs h.1 rest)

  list : (t : List Token) (ts : List (List Token)) (x : Expr) (xs : List Expr) → AreSpelt S t x → AllZip (AreSpelt S) ts xs → AreSpelt (Exprs S) (listed (t ∷ ts)) (of_list (x ∷ xs))
  list t ts x xs p ps rest =
      let first : S ((t ++ others_listed ts) ++ rest) x (others_listed ts ++ rest) = subst (λ us. S us x (others_listed ts ++ rest)) (sym (append_assoc t (others_listed ts) rest)) (p (others_listed ts ++ rest)) in
      (x ∷ xs, rest, (x, others_listed ts ++ rest, first, (xs, rest, many ts xs ps rest, (refl, refl))), (refl, refl))

  pub content : (ts : List (List Token)) (xs : List Expr) → AllZip (AreSpelt S) ts xs → AreSpelt (Content S) (listed ts) (of_list xs)
  content [] [] h rest = inl (refl, refl)
  content [] (x ∷ xs) h rest = absurd h
  content (t ∷ ts) [] h rest = absurd h
  content (t ∷ ts) (x ∷ xs) h rest = inr (list t ts x xs h.0 h.1 rest)

  one : (t : List Token) (x : Expr) → AreSpelt S t x → AreSpelt (Exprs S) t x
  one t x p rest = (x ∷ [], rest, (x, rest, p rest, ([], rest, refl, (refl, refl))), (refl, refl))

  closed : (t rest : List Token) → (t ++ mark_token k.CloseBrace ∷ []) ++ rest ≡ t ++ mark_token k.CloseBrace ∷ rest
  closed t rest = append_assoc t (mark_token k.CloseBrace ∷ []) rest

  in_braces : (t : List Token) (x : Expr) → AreSpelt (Exprs S) t x → AreSpelt (Braces S) (braced t) x
  in_braces t x p rest =
      let within : Exprs S ((t ++ mark_token k.CloseBrace ∷ []) ++ rest) x (mark_token k.CloseBrace ∷ rest) = subst (λ us. Exprs S us x (mark_token k.CloseBrace ∷ rest)) (sym (closed t rest)) (p (mark_token k.CloseBrace ∷ rest)) in
      (mark_token k.OpenBrace, (t ++ mark_token k.CloseBrace ∷ []) ++ rest, (refl, refl), (x, mark_token k.CloseBrace ∷ rest, within, (mark_token k.CloseBrace, rest, (refl, refl), (refl, refl))))

  body : (t : List Token) (x : Expr) → AreSpelt (Content S) t x → AreSpelt (Body S) (braced t) x
  body t x p rest =
      let within : Content S ((t ++ mark_token k.CloseBrace ∷ []) ++ rest) x (mark_token k.CloseBrace ∷ rest) = subst (λ us. Content S us x (mark_token k.CloseBrace ∷ rest)) (sym (closed t rest)) (p (mark_token k.CloseBrace ∷ rest)) in
      (mark_token k.OpenBrace, (t ++ mark_token k.CloseBrace ∷ []) ++ rest, (refl, refl), (x, mark_token k.CloseBrace ∷ rest, within, (mark_token k.CloseBrace, rest, (refl, refl), (refl, refl))))

  -- a constructor without a name
  unnamed : (w : Token) (kind : Kind) (make : Expr → Expr) (t : List Token) (x : Expr) → w.kind ≡ kind → AreSpelt (Exprs S) t x
      → AreSpelt (λ ts y rest. (z : Expr) × (mid : List Token) × (tok kind >> Braces S) ts z mid × ((make z ≡ y) × (mid ≡ rest))) (w ∷ braced t) (make x)
  unnamed w kind make t x h p rest = (x, rest, (w, braced t ++ rest, (refl, h), in_braces t x p rest), (refl, refl))

  written : (name : List ℕ) (rest : List Token) → NameOrBraces S (word name ∷ rest) (Written name) rest
  written name rest = inl (name, rest, (word name, rest, (refl, is_name name), (refl, refl)), (refl, refl))

  named : (w : Token) (kind : Kind) (make : NameOf Expr → Expr → Expr) (name : List ℕ) (t : List Token) (x : Expr) → w.kind ≡ kind → AreSpelt (Content S) t x
      → AreSpelt (Named S kind make) (w ∷ word name ∷ braced t) (make (Written name) x)
  named w kind make name t x h p rest =
      (w, word name ∷ braced t ++ rest, (refl, h), (Written name, braced t ++ rest, written name (braced t ++ rest), (x, rest, body t x p rest, (refl, refl))))

  document : (t : List Token) (x : Expr) → AreSpelt (Exprs S) t x → AreSpelt (Make S) (word (codes "document") ∷ braced t) (e.Document x)
  document t x p rest = inl (unnamed (word (codes "document")) k.Document e.Document t x document_word p rest)

  of_text : (t : List Token) (x : Expr) → AreSpelt (Exprs S) t x → AreSpelt (Make S) (word (codes "text") ∷ braced t) (e.Text x)
  of_text t x p rest = inr (inl (unnamed (word (codes "text")) k.Text e.Text t x text_word p rest))

  comment : (t : List Token) (x : Expr) → AreSpelt (Exprs S) t x → AreSpelt (Make S) (word (codes "comment") ∷ braced t) (e.Comment x)
  comment t x p rest = inr (inr (inl (unnamed (word (codes "comment")) k.Comment e.Comment t x comment_word p rest)))

  element : (name : List ℕ) (t : List Token) (x : Expr) → AreSpelt (Content S) t x → AreSpelt (Make S) (word (codes "element") ∷ word name ∷ braced t) (e.Element (Written name) x)
  element name t x p rest = inr (inr (inr (inl (named (word (codes "element")) k.Element e.Element name t x element_word p rest))))

  attribute : (name : List ℕ) (t : List Token) (x : Expr) → AreSpelt (Content S) t x → AreSpelt (Make S) (word (codes "attribute") ∷ word name ∷ braced t) (e.Attribute (Written name) x)
  attribute name t x p rest = inr (inr (inr (inr (inl (named (word (codes "attribute")) k.Attribute e.Attribute name t x attribute_word p rest)))))

  instruction : (name : List ℕ) (t : List Token) (x : Expr) → AreSpelt (Content S) t x
      → AreSpelt (Make S) (word (codes "processing-instruction") ∷ word name ∷ braced t) (e.Instruction (Written name) x)
  instruction name t x p rest = inr (inr (inr (inr (inr (named (word (codes "processing-instruction")) k.ProcessingInstruction e.Instruction name t x instruction_word p rest)))))

module _ (level : ℕ) where
  -- nested at most so deep, no comma parts the expression
  abbrev pub IsSpelt : ℕ → List Token → Expr → Type 0
  IsSpelt n = AreSpelt (SingleOf level n)

  made : (n : ℕ) (t : List Token) (x : Expr) → AreSpelt (Make (SingleOf level n)) t x → IsSpelt (suc n) t x
  made n t x p rest = of_primary level n (t ++ rest) rest x (inr (inr (inr (inr (inr (inr (p rest)))))))

  pub string_spelt : (n : ℕ) (text : List ℕ) → IsSpelt (suc n) (string text ∷ []) (e.String text)
  string_spelt n text rest = of_primary level n (string text ∷ rest) rest (e.String text) (inr (inl (string text, rest, (refl, refl), (refl, refl))))

  parens_spelt : (n : ℕ) → IsSpelt (suc n) parens (e.Sequence [])
  parens_spelt n rest =
      of_primary level n (parens ++ rest) rest (e.Sequence [])
      (inr (inr (inr (inl (mark_token k.OpenParen, mark_token k.CloseParen ∷ rest, (refl, refl), (e.Sequence [], mark_token k.CloseParen ∷ rest, inl (refl, refl), (mark_token k.CloseParen, rest, (refl, refl), (refl, refl))))))))

  pub integer_spelt : (n : ℕ) (z : ℤ) → IsSpelt (suc n) (integer_spelling z) (integer_expression z)
  integer_spelt n (pos i) rest = of_primary level n (number i ∷ rest) rest (e.Integer i) (inl (number i, rest, (refl, refl), (refl, refl)))
  integer_spelt n (negsuc i) rest =
      let digits = of_path level n (number (suc i) ∷ rest) rest (e.Integer (suc i)) (inl (number (suc i), rest, (refl, refl), (refl, refl))) in
      let signs : Many (stands sign_of) (mark_token k.Minus ∷ number (suc i) ∷ rest) (Minus ∷ []) (number (suc i) ∷ rest) = (number (suc i) ∷ rest, (mark_token k.Minus, refl, refl), refl) in
      of_unary level n (mark_token k.Minus ∷ number (suc i) ∷ rest) rest (e.Signed (Minus ∷ []) (e.Integer (suc i)))
      (Minus ∷ [], number (suc i) ∷ rest, signs, (e.Integer (suc i), rest, digits, (refl, refl)))

  call_spelt : (n : ℕ) (name : List ℕ) → kind_of name ≡ k.Name → IsSpelt (suc n) (word name ∷ parens) (e.Call (function_of name 0) [])
  call_spelt n name h rest =
      of_primary level n (word name ∷ parens ++ rest) rest (e.Call (function_of name 0) [])
      (inr (inr (inr (inr (inr (inl (word name, parens ++ rest, (refl, ap is_function h), (mark_token k.OpenParen, mark_token k.CloseParen ∷ rest, (refl, refl), ([], mark_token k.CloseParen ∷ rest, inl (refl, refl), (mark_token k.CloseParen, rest, (refl, refl), (refl, refl)))))))))))

  pub boolean_spelt : (n : ℕ) (b : Bool) → IsSpelt (suc n) (word (if b then codes "true" else codes "false") ∷ parens) (e.Call (Some (if b then function.True else function.False)) [])
  boolean_spelt n true = call_spelt n (codes "true") true_word
  boolean_spelt n false = call_spelt n (codes "false") false_word

  document_spelt : (n : ℕ) (ts : List (List Token)) (xs : List Expr) → AllZip (IsSpelt (suc n)) ts xs → AreSpelt (Exprs (SingleOf level (suc n))) (document_content ts) (of_list xs)
  document_spelt n [] [] h = one (SingleOf level (suc n)) parens (e.Sequence []) (parens_spelt n)
  document_spelt n [] (x ∷ xs) h = absurd h
  document_spelt n (t ∷ ts) [] h = absurd h
  document_spelt n (t ∷ ts) (x ∷ xs) h = list (SingleOf level (suc n)) t ts x xs h.0 h.1

  -- a literal alone
  literal : (n : ℕ) (text : List ℕ) → AreSpelt (Exprs (SingleOf level (suc n))) (string text ∷ []) (e.String text)
  literal n text = one (SingleOf level (suc n)) (string text ∷ []) (e.String text) (string_spelt n text)

  pub constructor_spelt : (n : ℕ) (kind : NodeKind) (name text : List ℕ) (ts : List (List Token)) (xs : List Expr) → AllZip (IsSpelt (suc n)) ts xs → IsSpelt (suc (suc n)) (constructor kind name text ts) (constructor_of kind name text xs)
  constructor_spelt n node.Document name text ts xs h =
      made (suc n) (constructor node.Document name text ts) (e.Document (of_list xs)) (document (SingleOf level (suc n)) (document_content ts) (of_list xs) (document_spelt n ts xs h))
  constructor_spelt n node.Element name text ts xs h =
      made (suc n) (constructor node.Element name text ts) (e.Element (Written name) (of_list xs)) (element (SingleOf level (suc n)) name (listed ts) (of_list xs) (content (SingleOf level (suc n)) ts xs h))
  constructor_spelt n node.Attribute name text ts xs h =
      made (suc n) (constructor node.Attribute name text ts) (e.Attribute (Written name) (e.String text))
      (attribute (SingleOf level (suc n)) name (string text ∷ []) (e.String text) (λ rest. inr (literal n text rest)))
  constructor_spelt n node.Text name text ts xs h = made (suc n) (constructor node.Text name text ts) (e.Text (e.String text)) (of_text (SingleOf level (suc n)) (string text ∷ []) (e.String text) (literal n text))
  constructor_spelt n node.Comment name text ts xs h =
      made (suc n) (constructor node.Comment name text ts) (e.Comment (e.String text)) (comment (SingleOf level (suc n)) (string text ∷ []) (e.String text) (literal n text))
  constructor_spelt n node.Instruction name text ts xs h =
      made (suc n) (constructor node.Instruction name text ts) (e.Instruction (Written name) (e.String text))
      (instruction (SingleOf level (suc n)) name (string text ∷ []) (e.String text) (λ rest. inr (literal n text rest)))

  pub both : (n : ℕ) (ss ts : List (List Token)) (xs ys : List Expr) → AllZip (IsSpelt n) ss xs → AllZip (IsSpelt n) ts ys → AllZip (IsSpelt n) (ss ++ ts) (xs ++ ys)
  both n [] ts [] ys h g = g
  both n [] ts (x ∷ xs) ys h g = absurd h
  both n (s ∷ ss) ts [] ys h g = absurd h
  both n (s ∷ ss) ts (x ∷ xs) ys h g = (h.0, both n ss ts xs ys h.1 g)

  pub trees_spelt : (n : ℕ) (ts : Trees) → height ts ≤ n → AllZip (IsSpelt (suc n)) (tree_spellings ts) (tree_expressions ts)
  trees_spelt n no_trees h = tt
  trees_spelt zero (tree c bs cs rest) h = absurd (omega (arith, h))
  trees_spelt (suc n) (tree c bs cs rest) h =
      let attributes = trees_spelt n bs (omega (arith, h)) in
      let children = trees_spelt n cs (omega (arith, h)) in (
        constructor_spelt n c.kind c.name c.text (tree_spellings bs ++ tree_spellings cs) (tree_expressions bs ++ tree_expressions cs)
            (both (suc n) (tree_spellings bs) (tree_spellings cs) (tree_expressions bs) (tree_expressions cs) attributes children),
        trees_spelt (suc n) rest (omega (arith, h)),
      )

  -- all the tokens of a query
  pub query : (n : ℕ) (spelling : List Token) (x : Expr) → IsSpelt n spelling x → IsQuery level spelling x
  query n spelling x h =
      let single : SingleOf level n spelling x [] = subst (λ ts. SingleOf level n ts x []) (append-nil spelling) (h []) in
      (n, (x ∷ [], [], (x, [], single, ([], [], refl, (refl, refl))), (refl, refl)))
