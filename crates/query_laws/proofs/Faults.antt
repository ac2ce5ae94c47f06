-- The passes answer the first fault.
use Rattle.std.proofs.Common.{◌≡◌, ◌⊎◌, inl, inr, ⊎_elim, ℕ, Bool, true, false, if◌then◌else◌, List, [], Option, Some, None, Result, Err, refl, ap, subst, sym, ◌∙◌}
use Rattle.fault_codes.specs.declared.code.Code.{Code}
use Rattle.fault_codes.specs.declared.code.Code.TheVariants.{XPST0003, XPST0008, XPST0017, XQST0089, PXQ0001}
use Rattle.query_tokens.specs.declared.token.Token.{Token}
use Rattle.query_tokens.specs.Lexing.{tokens}
use Rattle.query_tokens.specs.Reading.{Read, Gives, Fails}
use Rattle.query_grammar.specs.declared.ast.Expr.{Expr}
use Rattle.query_grammar.specs.Grammar.{IsQuery}
use Rattle.query_grammar.specs.Reader.{query}
use Rattle.query_grammar.proofs.Forms.{complete_query}
use Rattle.query_grammar.proofs.Sound.{sound_query}
use Rattle.static_checks.specs.Brackets.{nests_too_deep}
use Rattle.static_checks.specs.Functions.{has_unknown_call}
use Rattle.static_checks.specs.Variables.{binds_a_name_twice, has_unbound}
use Rattle.static_checks.specs.Categories.{judged}
use Rattle.static_checks.specs.Static.{checked, of_grammar, of_read, parsed, unless_fault}
use Rattle.parser.proofs.Whole.{whole}
use Rattle.query_laws.specs.Faults.{IsReadAs, FaultOf, UnknownCall, NameBoundTwice, UnboundVariable, ByCategory, FirstFault, OfTokens, OfBrackets, OfGrammar, OfExpression}

-- a pass answers, or those after it do
answers : (b : Bool) (c code : Code) (r : Result Expr Code) → (if b then Err c else r) ≡ Err code → ((b ≡ true) × (c ≡ code)) ⊎ ((b ≡ false) × (r ≡ Err code))
answers true c code r h = inl (refl, cc)
answers false c code r h = inr (refl, h)

found : (b : Bool) (c : Code) (r : Result Expr Code) → b ≡ true → (if b then Err c else r) ≡ Err c
found b c r h = ap (λ t. if t then Err c else r) h

passed : (b : Bool) (c : Code) (r : Result Expr Code) → b ≡ false → (if b then Err c else r) ≡ r
passed b c r h = ap (λ t. if t then Err c else r) h

by_category : (f : Option Code) (x : Expr) (code : Code) → unless_fault f x ≡ Err code → f ≡ Some code
by_category (Some c) x code h = cc
by_category None x code h = absurd (let f : ⊥ = cc in f)

-- From the answer to the fault.

of_checked : (x : Expr) (code : Code) → checked x ≡ Err code → FaultOf x code
of_checked x code h = ⊎_elim (λ f. subst (FaultOf x) f.1 (UnknownCall f.0))
    (λ a. ⊎_elim (λ f. subst (FaultOf x) f.1 (NameBoundTwice a.0 f.0))
    (λ b. ⊎_elim (λ f. subst (FaultOf x) f.1 (UnboundVariable a.0 b.0 f.0))
    (λ c. ByCategory code a.0 b.0 c.0 (by_category (judged x).fault x code c.1))
    (answers (has_unbound x []) XPST0008 code _ b.1))
    (answers (binds_a_name_twice x) XQST0089 code _ a.1))
    (answers (has_unknown_call x) XPST0017 code _ h)

none_is_spelt : (level : ℕ) (ts : List Token) → query level ts ≡ None → (x : Expr) → ¬ IsQuery level ts x
none_is_spelt level ts h x s = let both : None ≡ Some x = sym h ∙ complete_query level ts x s in let f : ⊥ = cc in f

same_code : (c code : Code) → (let r : Result Expr Code = Err c in r) ≡ Err code → c ≡ code
same_code c code h = cc

of_grammar_fault : (level : ℕ) (text : List ℕ) (ts : List Token) (code : Code) → IsReadAs text ts → (o : Option Expr) → query level ts ≡ o → of_grammar o ≡ Err code → FirstFault level text code
of_grammar_fault level text ts code r None q h = subst (FirstFault level text) (same_code XPST0003 code h) (OfGrammar ts r (none_is_spelt level ts q))
of_grammar_fault level text ts code r (Some x) q h =
    OfExpression x code (record { spelling = ts; is_read = r; spelt = sound_query level ts x q }) (of_checked x code h)

of_text : (level : ℕ) (text : List ℕ) (code : Code) (r : Read (List Token)) → tokens text ≡ r → of_read level r ≡ Err code → FirstFault level text code
of_text level text code (Gives ts rest) is h =
    let read : tokens text ≡ Gives ts [] = is ∙ ap (Gives ts) (whole text ts rest is) in
    ⊎_elim (λ f. subst (FirstFault level text) f.1 (OfBrackets ts read f.0))
    (λ p. of_grammar_fault level text ts code (record { read = read; shallow = p.0 }) (query level ts) refl p.1)
    (answers (nests_too_deep 0 ts) PXQ0001 code _ h)
of_text level text code (Fails c) is h = OfTokens code (is ∙ ap Fails (same_code c code h))

pub refused : (level : ℕ) (text : List ℕ) (code : Code) → parsed level text ≡ Err code → FirstFault level text code
refused level text code h = of_text level text code (tokens text) refl h

-- And back.

checking : (x : Expr) (code : Code) → FaultOf x code → checked x ≡ Err code
checking x _ (UnknownCall a) = found (has_unknown_call x) XPST0017 _ a
checking x _ (NameBoundTwice a b) = passed (has_unknown_call x) XPST0017 _ a ∙ found (binds_a_name_twice x) XQST0089 _ b
checking x _ (UnboundVariable a b c) = passed (has_unknown_call x) XPST0017 _ a ∙ (passed (binds_a_name_twice x) XQST0089 _ b ∙ found (has_unbound x []) XPST0008 _ c)
checking x code (ByCategory _ a b c d) =
    passed (has_unknown_call x) XPST0017 _ a ∙ (passed (binds_a_name_twice x) XQST0089 _ b ∙ (passed (has_unbound x []) XPST0008 _ c ∙ ap (λ f. unless_fault f x) d))

read_as : (level : ℕ) (text : List ℕ) (ts : List Token) → IsReadAs text ts → parsed level text ≡ of_grammar (query level ts)
read_as level text ts r = ap (of_read level) r.read ∙ passed (nests_too_deep 0 ts) PXQ0001 _ r.shallow

no_query : (level : ℕ) (ts : List Token) → ((x : Expr) → ¬ IsQuery level ts x) → (o : Option Expr) → query level ts ≡ o → o ≡ None
no_query level ts none None q = refl
no_query level ts none (Some x) q = absurd (none x (sound_query level ts x q))

pub refusing : (level : ℕ) (text : List ℕ) (code : Code) → FirstFault level text code → parsed level text ≡ Err code
refusing level text _ (OfTokens code h) = ap (of_read level) h
refusing level text _ (OfBrackets ts h d) = ap (of_read level) h ∙ found (nests_too_deep 0 ts) PXQ0001 _ d
refusing level text _ (OfGrammar ts r none) = read_as level text ts r ∙ ap of_grammar (no_query level ts none (query level ts) refl)
refusing level text _ (OfExpression x code s f) = read_as level text s.spelling s.is_read ∙ (ap of_grammar (complete_query level s.spelling x s.spelt) ∙ checking x code f)
