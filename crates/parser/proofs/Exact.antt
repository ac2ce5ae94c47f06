-- What the passes give is the expression of a text.
use Rattle.std.proofs.Common.{◌≡◌, ℕ, Bool, true, false, ◌||◌, if◌then◌else◌, List, [], Option, Some, None, Result, Ok, Err, IfOk, refl, ap, subst, sym, ◌∙◌}
use Rattle.fault_codes.specs.declared.code.Code.{Code}
use Rattle.fault_codes.specs.declared.code.Code.TheVariants.{XPST0008, XPST0017, XQST0089, PXQ0001}
use Rattle.query_tokens.specs.declared.fault.ParseFault.{ParseFault}
use Rattle.query_tokens.specs.declared.token.Token.{Token}
use Rattle.query_tokens.specs.Lexing.{tokens}
use Rattle.query_tokens.specs.Reading.{Read, Gives, Fails}
use Rattle.query_grammar.specs.declared.ast.Expr.{Expr}
use Rattle.query_grammar.specs.Reader.{query}
use Rattle.query_grammar.proofs.Forms.{complete_query}
use Rattle.query_grammar.proofs.Sound.{sound_query}
use Rattle.static_checks.specs.Brackets.{nests_too_deep}
use Rattle.static_checks.specs.Functions.{has_unknown_call}
use Rattle.static_checks.specs.Variables.{binds_a_name_twice, has_unbound}
use Rattle.static_checks.specs.Categories.{is_faulty, judged}
use Rattle.static_checks.specs.Static.{HasNoFault, IsAnswer, IsExpression, checked, of_grammar, of_read, of_tokens, parsed, unless_fault}
use Rattle.static_checks.proofs.Faults.{none_is}
use Rattle.parser.proofs.Whole.{whole}

-- a test that finds nothing
passed : (b : Bool) (code : Code) (r : Result Expr Code) → b ≡ false → (if b then Err code else r) ≡ r
passed b code r h = ap (λ t. if t then Err code else r) h

found_nothing : (b : Bool) (code : Code) (r : Result Expr Code) (x : Expr) → (if b then Err code else r) ≡ Ok x → (b ≡ false) × (r ≡ Ok x)
found_nothing true code r x h = absurd (let f : ⊥ = cc in f)
found_nothing false code r x h = (refl, h)

no_fault_found : (f : Option Code) (x y : Expr) → unless_fault f x ≡ Ok y → (f ≡ None) × ((let r : Result Expr Code = Ok x in r) ≡ Ok y)
no_fault_found None x y h = (refl, h)
no_fault_found (Some code) x y h = absurd (let f : ⊥ = cc in f)

same_expression : (x y : Expr) → (let r : Result Expr Code = Ok x in r) ≡ Ok y → x ≡ y
same_expression x y h = cc

-- From an expression to what the passes give.

faultless : (x : Expr) → HasNoFault x → checked x ≡ Ok x
faultless x h =
    passed (has_unknown_call x) XPST0017 _ h.functions
    ∙ (passed (binds_a_name_twice x) XQST0089 _ h.names
    ∙ (passed (has_unbound x []) XPST0008 _ h.variables
    ∙ ap (λ f. unless_fault f x) h.categories))

none_of : (a b c m : Bool) → false ≡ a || (b || (c || m)) → (a ≡ false) × ((b ≡ false) × ((c ≡ false) × (m ≡ false)))
none_of true b c m h = absurd (let f : ⊥ = cc in f)
none_of false true c m h = absurd (let f : ⊥ = cc in f)
none_of false false true m h = absurd (let f : ⊥ = cc in f)
none_of false false false m h = (refl, (refl, (refl, sym h)))

-- where one walk finds no fault, no pass does
pub no_fault : (x : Expr) → false ≡ has_unknown_call x || (binds_a_name_twice x || (has_unbound x [] || is_faulty (judged x))) → checked x ≡ Ok x
no_fault x h =
    let none = none_of (has_unknown_call x) (binds_a_name_twice x) (has_unbound x []) (is_faulty (judged x)) h in
    faultless x (record { functions = none.0; names = none.1.0; variables = none.1.1.0; categories = none_is (judged x).fault none.1.1.1 })

pub complete : (level : ℕ) (text : List ℕ) (x : Expr) → IsExpression level text x → parsed level text ≡ Ok x
complete level text x h =
    ap (of_read level) h.read
    ∙ (passed (nests_too_deep 0 h.spelling) PXQ0001 _ h.shallow
    ∙ (ap of_grammar (complete_query level h.spelling x h.spelt)
    ∙ faultless x h.faultless))

-- And back.

in_checked : (x y : Expr) → checked x ≡ Ok y → (x ≡ y) × HasNoFault x
in_checked x y h =
    let functions = found_nothing (has_unknown_call x) XPST0017 _ y h in
    let names = found_nothing (binds_a_name_twice x) XQST0089 _ y functions.1 in
    let variables = found_nothing (has_unbound x []) XPST0008 _ y names.1 in
    let categories = no_fault_found (judged x).fault x y variables.1 in
    (same_expression x y categories.1, record { functions = functions.0; names = names.0; variables = variables.0; categories = categories.0 })

in_grammar : (o : Option Expr) (x : Expr) → of_grammar o ≡ Ok x → (o ≡ Some x) × HasNoFault x
in_grammar None x h = absurd (let f : ⊥ = cc in f)
in_grammar (Some y) x h = let r = in_checked y x h in (ap Some r.0, subst HasNoFault r.0 r.1)

in_tokens : (level : ℕ) (text : List ℕ) (ts : List Token) (x : Expr) → tokens text ≡ Gives ts [] → of_tokens level ts ≡ Ok x → IsExpression level text x
in_tokens level text ts x read h =
    let brackets = found_nothing (nests_too_deep 0 ts) PXQ0001 _ x h in
    let grammar = in_grammar (query level ts) x brackets.1 in
    record { spelling = ts; read = read; shallow = brackets.0; spelt = sound_query level ts x grammar.0; faultless = grammar.1 }

in_text : (level : ℕ) (text : List ℕ) (r : Read (List Token)) (x : Expr) → tokens text ≡ r → of_read level r ≡ Ok x → IsExpression level text x
in_text level text (Gives ts rest) x is h = in_tokens level text ts x (is ∙ ap (Gives ts) (whole text ts rest is)) h
in_text level text (Fails code) x is h = absurd (let f : ⊥ = cc in f)

pub sound : (level : ℕ) (text : List ℕ) (x : Expr) → parsed level text ≡ Ok x → IsExpression level text x
sound level text x h = in_text level text (tokens text) x refl h

pub one : (level : ℕ) (text : List ℕ) (x y : Expr) → IsExpression level text x → IsExpression level text y → x ≡ y
one level text x y g h = same_expression x y (sym (complete level text x g) ∙ complete level text y h)

pub not_both : (level : ℕ) (text : List ℕ) (x : Expr) (code : Code) → IsExpression level text x → ¬ (parsed level text ≡ Err code)
not_both level text x code g h = let both : Ok x ≡ Err code = sym (complete level text x g) ∙ h in let f : ⊥ = cc in f

-- what is answered where the tokens are read
pub answered : (level : ℕ) (text : List ℕ) (ts : List Token) (r : Result Expr ParseFault) → tokens text ≡ Gives ts [] → IsAnswer (of_tokens level ts) r → IfOk r (λ x. IsExpression level text x)
answered level text ts (Ok x) read h = in_tokens level text ts x read h
answered level text ts (Err fault) read h = tt
