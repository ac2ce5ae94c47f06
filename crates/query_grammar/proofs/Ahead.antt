-- What the next three tokens tell of a production.
use Rattle.std.proofs.Common.{◌≡◌, ℕ, ◌<◌, Bool, true, false, ◌&&◌, ◌||◌, List, [], ◌∷◌, Option, Some, refl, sym, ap, ◌∙◌, ⊎_elim, arith}
use denote.Enum.Bare.{same_true}
use Rattle.query_tokens.specs.contracts.kind.Kind.{the_type}
use Rattle.query_tokens.specs.declared.kind.Kind.{Kind}
use Rattle.query_tokens.specs.declared.kind.Kind.TheVariants as k
use Rattle.query_tokens.specs.declared.token.Token.{Token}
use Rattle.query_tokens.specs.Cursor.{kind_at}
use Rattle.query_tokens.specs.Words.{is_name_kind}
use Rattle.data_model.specs.declared.axis.Axis.{Axis}
use Rattle.query_grammar.specs.declared.ast.Expr.{Expr}
use Rattle.query_grammar.specs.declared.ast.Binary.{Binary}
use Rattle.query_grammar.specs.declared.ast.KindTest.{KindTest}
use Rattle.query_grammar.specs.declared.ast.Name.{Name as NameOf}
use Rattle.query_grammar.specs.declared.ast.NodeTest.TheVariants.{AnyName}
use Rattle.query_grammar.specs.declared.ast.Operation.{Operation}
use Rattle.query_grammar.specs.declared.ast.Sign.{Sign}
use Rattle.query_grammar.specs.Lang.{Lang, pure as empty, ◌>>=◌ as ◌▹◌, ◌∪◌, Many, tok, such, stands}
use Rattle.query_grammar.specs.Grammar as g
use Rattle.query_grammar.specs.Words.{axis_of, kind_test_of, is_function, sign_of}
use Rattle.query_grammar.specs.Loose.{looseness}
use Rattle.query_grammar.specs.Reading.{same_kind}
use Rattle.query_grammar.specs.Reader.{Form, OrForm, form_of, form_before_variable, form_before_paren, form_before_node, form_before_nodes, form_before_value, begins_primary, names_primary, marks_primary, is_constructor, is_named_constructor}
use Rattle.query_grammar.proofs.Follows.{loose, loose_level, no_braces, mark_loose, word_loose, Leads, leads_pure, leads_bind, leads_many, and_false}
use Rattle.query_grammar.proofs.Starts.{Begins, starts, starts_path, axis_name, kind_test_name}

pub or_true : (b : Bool) → (b || true) ≡ true
or_true true = refl
or_true false = refl

-- kinds that a test tells apart
pub differ : (test : Kind → Bool) (a b : Kind) → test a ≡ true → test b ≡ false → same_kind a b ≡ false
differ test a b h e = go (same_kind a b) refl
  where
    go : (found : Bool) → same_kind a b ≡ found → found ≡ false
    go true s = absurd (let w : true ≡ false = sym h ∙ ap test (same_true the_type tt a b s) ∙ e in cc)
    go false s = refl

-- what never follows an operand
pub follows_not : (kind second : Kind) → looseness kind ≡ 0 → 0 < looseness second → same_kind second kind ≡ false
follows_not kind second e h = go (same_kind second kind) refl
  where
    go : (found : Bool) → same_kind second kind ≡ found → found ≡ false
    go true s = absurd (let w = ap looseness (same_true the_type tt second kind s) in omega (arith, w, e, h))
    go false s = refl

-- The kinds of the next three tokens give this, where an operand may end before what follows.
pub record Tells {A C : Type 0} (f : Kind → Kind → Kind → C) (c : C) (P : Lang A) : Type 0 where
  pub tells : (ts : List Token) (a : A) (rest : List Token) → P ts a rest → 0 < loose rest → f (kind_at 0 ts) (kind_at 1 ts) (kind_at 2 ts) ≡ c

-- what may follow an operand, by its next two kinds
unfoldable pub May : Kind → Kind → Type 0
May second third = (0 < looseness second) × ((is_name_kind second && same_kind third k.OpenBrace) ≡ false)

may_follow : (ts : List Token) → 0 < loose ts → May (kind_at 0 ts) (kind_at 1 ts)
unfolding May
may_follow ts h = (let e = loose_level ts h in omega (arith, e, h), no_braces ts h)

module _ {C : Type 0} (f : Kind → Kind → Kind → C) (c : C) where
  pub tells_bind : {A B : Type 0} {P : Lang A} {F : A → Lang B} → Tells f c P → ((a : A) → Leads 0 0 (F a)) → Tells f c (P ▹ F)
  tells_bind s follows = record { tells = λ ts b rest h past. s.tells ts h.0 h.1 h.2 ((follows h.0).leads h.1 b rest h.3 past) }

  pub tells_either : {A : Type 0} {P Q : Lang A} → Tells f c P → Tells f c Q → Tells f c (P ∪ Q)
  tells_either s t = record { tells = λ ts a rest h past. ⊎_elim (λ x. s.tells ts a rest x past) (λ x. t.tells ts a rest x past) h }

  -- by the first token
  pub tells_first : {B : Type 0} {F : Token → Lang B} (kind : Kind) → ((second third : Kind) → f kind second third ≡ c) → Tells f c (tok kind ▹ F)
  tells_first kind e = record {
    tells = λ ts b rest h past. let t = h.0 in
        ap (λ us. f (kind_at 0 us) (kind_at 1 us) (kind_at 2 us)) h.2.0 ∙ ap (λ x. f x (kind_at 0 h.1) (kind_at 1 h.1)) h.2.1 ∙ e _ _;
  }

  -- by the first two
  pub tells_two : {B : Type 0} {P : Lang B} (first second : Kind) → ((third : Kind) → f first second third ≡ c) → Tells f c (tok first ▹ (λ _. tok second ▹ (λ _. P)))
  tells_two first second e = record {
    tells = λ ts b rest h past. let i = h.3 in
        ap (λ us. f (kind_at 0 us) (kind_at 1 us) (kind_at 2 us)) h.2.0 ∙ ap (λ x. f x (kind_at 0 h.1) (kind_at 1 h.1)) h.2.1
        ∙ ap (λ us. f first (kind_at 0 us) (kind_at 1 us)) i.2.0 ∙ ap (λ x. f first x (kind_at 0 i.1)) i.2.1 ∙ e _;
  }

  -- a name, and a token after it
  pub such_two : {B : Type 0} {F : Token → Lang B} (p : Kind → Bool) (second : Kind) → ((kind : Kind) → p kind ≡ true → (third : Kind) → f kind second third ≡ c)
      → Tells f c (such p ▹ (λ t. tok second ▹ (λ _. F t)))
  such_two p second e = record {
    tells = λ ts b rest h past. let t = h.0 in let i = h.3 in
        ap (λ us. f (kind_at 0 us) (kind_at 1 us) (kind_at 2 us)) h.2.0
        ∙ ap (λ us. f t.kind (kind_at 0 us) (kind_at 1 us)) i.2.0 ∙ ap (λ x. f t.kind x (kind_at 0 i.1)) i.2.1 ∙ e t.kind h.2.1 _;
  }

  pub stands_two : {A B : Type 0} {F : A → Lang B} (w : Kind → Option A) (second : Kind) → ((kind : Kind) (a : A) → w kind ≡ Some a → (third : Kind) → f kind second third ≡ c)
      → Tells f c (stands w ▹ (λ a. tok second ▹ (λ _. F a)))
  stands_two w second e = record {
    tells = λ ts b rest h past. let o = h.2 in let t = o.0 in let i = h.3 in
        ap (λ us. f (kind_at 0 us) (kind_at 1 us) (kind_at 2 us)) o.1
        ∙ ap (λ us. f t.kind (kind_at 0 us) (kind_at 1 us)) i.2.0 ∙ ap (λ x. f t.kind x (kind_at 0 i.1)) i.2.1 ∙ e t.kind h.0 o.2 _;
  }

  pub name_tells : ((kind : Kind) → is_name_kind kind ≡ true → (second third : Kind) → May second third → f kind second third ≡ c) → Tells f c g.Name
  name_tells e = record {
    tells = λ ts b rest h past. let t = h.0 in let same = h.3.1 in
        ap (λ us. f (kind_at 0 us) (kind_at 1 us) (kind_at 2 us)) (h.2.0 ∙ ap (λ us. t ∷ us) same) ∙ e t.kind h.2.1 _ _ (may_follow rest past);
  }

  pub star_tells : ((second third : Kind) → May second third → f k.Star second third ≡ c) → Tells f c (tok k.Star ▹ (λ _. empty AnyName))
  star_tells e = record {
    tells = λ ts b rest h past. let t = h.0 in let same = h.3.1 in
        ap (λ us. f (kind_at 0 us) (kind_at 1 us) (kind_at 2 us)) (h.2.0 ∙ ap (λ us. t ∷ us) same) ∙ ap (λ x. f x (kind_at 0 rest) (kind_at 1 rest)) h.2.1 ∙ e _ _ (may_follow rest past);
  }

  module _ (name : (kind : Kind) → is_name_kind kind ≡ true → (second third : Kind) → May second third → f kind second third ≡ c)
      (star : (second third : Kind) → May second third → f k.Star second third ≡ c)
      (kind_test : (kind : Kind) (x : KindTest) → kind_test_of kind ≡ Some x → (third : Kind) → f kind k.OpenParen third ≡ c) where
    pub test_tells : Tells f c g.Test
    test_tells = tells_either (tells_bind (name_tells name) (λ x. leads_pure _ (omega arith)))
        (tells_either (star_tells star) (stands_two kind_test_of k.OpenParen kind_test))

    pub axis_tells : ((kind : Kind) (a : Axis) → axis_of kind ≡ Some a → (third : Kind) → f kind k.ColonColon third ≡ c)
        → ((second third : Kind) → f k.AtSign second third ≡ c) → ((second third : Kind) → f k.DotDot second third ≡ c) → Tells f c g.AxisOf
    axis_tells axis at dots = tells_either (stands_two axis_of k.ColonColon axis)
        (tells_either (tells_first k.AtSign at) (tells_either (tells_bind test_tells (λ x. leads_pure _ (omega arith))) (tells_first k.DotDot dots)))

  module _ (made : (kind : Kind) → is_constructor kind ≡ true → (third : Kind) → f kind k.OpenBrace third ≡ c)
      (named : (kind : Kind) → is_named_constructor kind ≡ true → (second : Kind) → is_name_kind second ≡ true → f kind second k.OpenBrace ≡ c) (S : Lang Expr) where
    make_tells : {F : Expr → Lang Expr} (kind : Kind) → is_constructor kind ≡ true → ((x : Expr) → Leads 0 0 (F x)) → Tells f c ((tok kind ▹ (λ _. g.Braces S)) ▹ F)
    make_tells kind e follows = tells_bind (tells_two kind k.OpenBrace (made kind e)) follows

    named_by : (kind : Kind) → is_constructor kind ≡ true → is_named_constructor kind ≡ true → (mid : List Token) (name : NameOf Expr) (after : List Token) (x : Expr) (rest : List Token)
        → g.NameOrBraces S mid name after → g.Body S after x rest → f kind (kind_at 0 mid) (kind_at 1 mid) ≡ c
    named_by kind e n mid name after x rest h i = ⊎_elim
        (λ q. let p = q.2 in let t = p.0 in let same : mid ≡ t ∷ after = p.2.0 ∙ ap (λ us. t ∷ us) (p.3.1 ∙ q.3.1) in
        ap (λ us. f kind (kind_at 0 us) (kind_at 1 us)) same ∙ ap (λ us. f kind t.kind (kind_at 0 us)) i.2.0 ∙ ap (λ y. f kind t.kind y) i.2.1 ∙ named kind n t.kind p.2.1)
        (λ q. let p = q.2 in let same = p.2.0 in
        ap (λ us. f kind (kind_at 0 us) (kind_at 1 us)) same ∙ ap (λ y. f kind y (kind_at 0 p.1)) p.2.1 ∙ made kind e _)
        h

    named_tells : (kind : Kind) (make : NameOf Expr → Expr → Expr) → is_constructor kind ≡ true → is_named_constructor kind ≡ true → Tells f c (g.Named S kind make)
    named_tells kind make e n = record {
      tells = λ ts b rest h past. let i = h.3 in let j = i.3 in
          ap (λ us. f (kind_at 0 us) (kind_at 1 us) (kind_at 2 us)) h.2.0 ∙ ap (λ x. f x (kind_at 0 h.1) (kind_at 1 h.1)) h.2.1
          ∙ named_by kind e n h.1 i.0 i.1 j.0 j.1 i.2 j.2;
    }

    pub makes_tell : Tells f c (g.Make S)
    makes_tell = tells_either (make_tells k.Document refl (λ x. leads_pure _ (omega arith))) (tells_either (make_tells k.Text refl (λ x. leads_pure _ (omega arith)))
        (tells_either (make_tells k.Comment refl (λ x. leads_pure _ (omega arith)))
        (tells_either (named_tells k.Element _ refl refl) (tells_either (named_tells k.Attribute _ refl refl) (named_tells k.ProcessingInstruction _ refl refl)))))

    pub primary_tells : ((kind : Kind) → marks_primary kind ≡ true → (second third : Kind) → f kind second third ≡ c)
        → ((kind : Kind) → is_function kind ≡ true → (third : Kind) → f kind k.OpenParen third ≡ c) → Tells f c (g.Primary S)
    primary_tells marked called = tells_either (tells_first k.Number (marked k.Number refl)) (tells_either (tells_first k.String (marked k.String refl))
        (tells_either (tells_bind (tells_first k.Dollar (marked k.Dollar refl)) (λ x. leads_pure _ (omega arith)))
        (tells_either (tells_first k.OpenParen (marked k.OpenParen refl)) (tells_either (tells_first k.Dot (marked k.Dot refl))
        (tells_either (such_two is_function k.OpenParen called) makes_tell)))))

-- Which begin a primary expression.

name_unmarked : (kind : Kind) → is_name_kind kind ≡ true → marks_primary kind ≡ false
name_unmarked k.Number h = absurd (let e : ⊥ = cc in e)
name_unmarked k.String h = absurd (let e : ⊥ = cc in e)
name_unmarked k.Dollar h = absurd (let e : ⊥ = cc in e)
name_unmarked k.OpenParen h = absurd (let e : ⊥ = cc in e)
name_unmarked k.Dot h = absurd (let e : ⊥ = cc in e)
name_unmarked _ h = refl

names_follow : (kind second third : Kind) → May second third → names_primary kind second third ≡ false
unfolding May
names_follow kind k.OpenParen third h = absurd (let p = h.0 in omega (arith, p))
names_follow kind k.OpenBrace third h = absurd (let p = h.0 in omega (arith, p))
names_follow kind _ third h = ap (λ b. is_named_constructor kind && b) h.1 ∙ and_false _

kind_test_no_function : (kind : Kind) (x : KindTest) → kind_test_of kind ≡ Some x → is_function kind ≡ false
kind_test_no_function k.Node x h = refl
kind_test_no_function k.DocumentNode x h = refl
kind_test_no_function k.Element x h = refl
kind_test_no_function k.Text x h = refl
kind_test_no_function k.Comment x h = refl
kind_test_no_function k.ProcessingInstruction x h = refl
kind_test_no_function _ x h = absurd (let e : ⊥ = cc in e)

no_primary : (first second third : Kind) → marks_primary first ≡ false → names_primary first second third ≡ false → begins_primary first second third ≡ false
no_primary first second third h e = ap (λ b. b || names_primary first second third) h ∙ e

at_sign : (second third : Kind) → begins_primary k.AtSign second third ≡ false
at_sign k.OpenParen third = refl
at_sign k.OpenBrace third = refl
at_sign _ third = refl

dots : (second third : Kind) → begins_primary k.DotDot second third ≡ false
dots k.OpenParen third = refl
dots k.OpenBrace third = refl
dots _ third = refl

pub axis_no_primary : Tells begins_primary false g.AxisOf
axis_no_primary = axis_tells begins_primary false
    (λ kind n second third h. no_primary kind second third (name_unmarked kind n) (names_follow kind second third h))
    (λ second third h. names_follow k.Star second third h)
    (λ kind x e third. no_primary kind k.OpenParen third (name_unmarked kind (kind_test_name kind x e)) (kind_test_no_function kind x e))
    (λ kind a e third. no_primary kind k.ColonColon third (name_unmarked kind (axis_name kind a e)) (and_false _))
    at_sign dots

names_primary_by : (first second third : Kind) → names_primary first second third ≡ true → begins_primary first second third ≡ true
names_primary_by first second third h = ap (λ b. marks_primary first || b) h ∙ or_true _

named_primary : (kind : Kind) → is_named_constructor kind ≡ true → (second : Kind) → is_name_kind second ≡ true → names_primary kind second k.OpenBrace ≡ true
named_primary kind n k.OpenParen h = absurd (let e : ⊥ = cc in e)
named_primary kind n k.OpenBrace h = absurd (let e : ⊥ = cc in e)
named_primary kind n second h = ap (λ b. b && (is_name_kind second && true)) n ∙ ap (λ b. b && true) h

pub primary_begins : (S : Lang Expr) → Tells begins_primary true (g.Primary S)
primary_begins S = primary_tells begins_primary true
    (λ kind h third. names_primary_by kind k.OpenBrace third h)
    (λ kind h second n. names_primary_by kind second k.OpenBrace (named_primary kind h second n)) S
    (λ kind h second third. ap (λ b. b || names_primary kind second third) h)
    (λ kind h third. names_primary_by kind k.OpenParen third h)

-- Which begin no form but that of operators.

begins_form : Kind → Bool
begins_form k.For = true
begins_form k.Let = true
begins_form k.Some = true
begins_form k.Every = true
begins_form k.Copy = true
begins_form k.If = true
begins_form k.Insert = true
begins_form k.Delete = true
begins_form k.Replace = true
begins_form k.Rename = true
begins_form _ = false

no_variable : (kind : Kind) → begins_form kind ≡ false → form_before_variable kind ≡ OrForm
unfolding begins_form
no_variable k.For h = absurd (let e : ⊥ = cc in e)
no_variable k.Let h = absurd (let e : ⊥ = cc in e)
no_variable k.Some h = absurd (let e : ⊥ = cc in e)
no_variable k.Every h = absurd (let e : ⊥ = cc in e)
no_variable k.Copy h = absurd (let e : ⊥ = cc in e)
no_variable _ h = refl

no_paren : (kind : Kind) → begins_form kind ≡ false → form_before_paren kind ≡ OrForm
unfolding begins_form
no_paren k.If h = absurd (let e : ⊥ = cc in e)
no_paren _ h = refl

no_node : (kind : Kind) → begins_form kind ≡ false → form_before_node kind ≡ OrForm
unfolding begins_form
no_node k.Insert h = absurd (let e : ⊥ = cc in e)
no_node k.Delete h = absurd (let e : ⊥ = cc in e)
no_node k.Replace h = absurd (let e : ⊥ = cc in e)
no_node k.Rename h = absurd (let e : ⊥ = cc in e)
no_node _ h = refl

no_nodes : (kind : Kind) → begins_form kind ≡ false → form_before_nodes kind ≡ OrForm
unfolding begins_form
no_nodes k.Insert h = absurd (let e : ⊥ = cc in e)
no_nodes k.Delete h = absurd (let e : ⊥ = cc in e)
no_nodes _ h = refl

no_value : (kind : Kind) → begins_form kind ≡ false → form_before_value kind ≡ OrForm
unfolding begins_form
no_value k.Replace h = absurd (let e : ⊥ = cc in e)
no_value _ h = refl

-- by the first token
no_form : (kind : Kind) → begins_form kind ≡ false → (second : Kind) → form_of kind second ≡ OrForm
no_form kind h k.Dollar = no_variable kind h
no_form kind h k.OpenParen = no_paren kind h
no_form kind h k.Node = no_node kind h
no_form kind h k.Nodes = no_nodes kind h
no_form kind h k.Value = no_value kind h
no_form kind h _ = refl

-- by the second
form_follows : (kind second : Kind) → 0 < looseness second → form_of kind second ≡ OrForm
form_follows kind k.Dollar h = absurd (omega (arith, h))
form_follows kind k.OpenParen h = absurd (omega (arith, h))
form_follows kind k.Node h = absurd (omega (arith, h))
form_follows kind k.Nodes h = absurd (omega (arith, h))
form_follows kind k.Value h = absurd (omega (arith, h))
form_follows kind _ h = refl

kind_test_no_form : (kind : Kind) (x : KindTest) → kind_test_of kind ≡ Some x → form_before_paren kind ≡ OrForm
kind_test_no_form k.If x h = absurd (let e : ⊥ = cc in e)
kind_test_no_form _ x h = refl

function_no_form : (kind : Kind) → is_function kind ≡ true → form_before_paren kind ≡ OrForm
function_no_form k.If h = absurd (let e : ⊥ = cc in e)
function_no_form _ h = refl

marked_no_form : (kind : Kind) → marks_primary kind ≡ true → begins_form kind ≡ false
unfolding begins_form
marked_no_form k.Number h = refl
marked_no_form k.String h = refl
marked_no_form k.Dollar h = refl
marked_no_form k.OpenParen h = refl
marked_no_form k.Dot h = refl
marked_no_form _ h = absurd (let e : ⊥ = cc in e)

constructor_no_form : (kind : Kind) → is_named_constructor kind ≡ true → begins_form kind ≡ false
unfolding begins_form
constructor_no_form k.Element h = refl
constructor_no_form k.Attribute h = refl
constructor_no_form k.ProcessingInstruction h = refl
constructor_no_form _ h = absurd (let e : ⊥ = cc in e)

-- the form that the next two tokens tell
unfoldable pub form_ahead : Kind → Kind → Kind → Form
form_ahead first second third = form_of first second

primary_no_form : (S : Lang Expr) → Tells form_ahead OrForm (g.Primary S)
unfolding form_ahead
primary_no_form S = primary_tells form_ahead OrForm
    (λ kind h third. refl)
    (λ kind h second n. no_form kind (constructor_no_form kind h) second) S
    (λ kind h second third. no_form kind (marked_no_form kind h) second)
    (λ kind h third. function_no_form kind h)

axis_no_form : Tells form_ahead OrForm g.AxisOf
unfolding form_ahead begins_form May
axis_no_form = axis_tells form_ahead OrForm
    (λ kind n second third h. form_follows kind second h.0)
    (λ second third h. no_form k.Star refl second)
    (λ kind x e third. kind_test_no_form kind x e)
    (λ kind a e third. refl)
    (λ second third. no_form k.AtSign refl second)
    (λ second third. no_form k.DotDot refl second)

-- What goes on with an operand, and how loosely it stands.

pub predicate_loose : (S : Lang Expr) (ts : List Token) (x : Expr) (rest : List Token) → g.Predicate S ts x rest → loose ts ≡ 1
predicate_loose S ts x rest h = mark_loose k.OpenBracket refl ts h.0 h.1 h.2

pub slash_loose : (ts : List Token) (x : Bool) (rest : List Token) → g.Slash ts x rest → loose ts ≡ 2
slash_loose ts x rest h = ⊎_elim (λ q. mark_loose k.Slash refl ts q.0 q.1 q.2) (λ q. mark_loose k.SlashSlash refl ts q.0 q.1 q.2) h

pub segment_loose : (S : Lang Expr) (ts : List Token) (x : List Expr) (rest : List Token) → g.Segment S ts x rest → loose ts ≡ 2
segment_loose S ts x rest h = slash_loose ts h.0 h.1 h.2

pub comma_loose : {A : Type 0} (P : Lang A) (ts : List Token) (x : A) (rest : List Token) → (tok k.Comma ▹ (λ _. P)) ts x rest → loose ts ≡ 12
comma_loose P ts x rest h = mark_loose k.Comma refl ts h.0 h.1 h.2

-- no operand begins with "{"
pub starts_no_brace : (kind : Kind) → starts kind ≡ true → same_kind kind k.OpenBrace ≡ false
unfolding starts starts_path
starts_no_brace kind h = differ starts kind k.OpenBrace h refl

-- an operator of a level, and an operand
pub operation_loose : (operator : Kind → Option Binary) (n : ℕ) → ((kind : Kind) (op : Binary) → operator kind ≡ Some op → looseness kind ≡ n)
    → {P : Lang Expr} → Begins starts P → (ts : List Token) (x : Operation Expr) (rest : List Token) → g.OperationOf operator P ts x rest → loose ts ≡ n
operation_loose operator n level s ts x rest h = let o = h.2 in let t = o.0 in
    word_loose t.kind ts t h.1 (o.1, refl) (let i = h.3 in starts_no_brace _ (s.first h.1 i.0 i.1 i.2)) ∙ level t.kind h.0 o.2

pub step_no_form : (S : Lang Expr) → Tells form_ahead OrForm (g.Step S)
step_no_form S = tells_either form_ahead OrForm
    (tells_bind form_ahead OrForm (primary_no_form S) (λ x. leads_bind 0 (leads_many 1 (omega arith) (omega arith) (predicate_loose S)) (λ xs. leads_pure _ (omega arith))))
    (tells_bind form_ahead OrForm axis_no_form (λ x. leads_bind 0 (leads_many 1 (omega arith) (omega arith) (predicate_loose S)) (λ xs. leads_pure _ (omega arith))))

pub path_no_form : (S : Lang Expr) → Tells form_ahead OrForm (g.Path S)
path_no_form S = tells_bind form_ahead OrForm (step_no_form S) (λ x. leads_bind 0 (leads_many 2 (omega arith) (omega arith) (segment_loose S)) (λ xs. leads_pure _ (omega arith)))

sign_no_form : (kind : Kind) (x : Sign) → sign_of kind ≡ Some x → begins_form kind ≡ false
unfolding begins_form
sign_no_form k.Plus x h = refl
sign_no_form k.Minus x h = refl
sign_no_form _ x h = absurd (let e : ⊥ = cc in e)

pub unary_no_form : (S : Lang Expr) → Tells form_ahead OrForm (g.Unary S)
unfolding form_ahead
unary_no_form S = record { tells = λ ts b rest h past. let p = h.3 in go h.0 ts h.1 p.0 p.1 h.2 p.2 (let e = ap loose p.3.1 in omega (arith, e, past)) }
  where
    go : (xs : List Sign) (ts mid : List Token) (x : Expr) (rest : List Token) → Many (stands sign_of) ts xs mid → g.Path S mid x rest → 0 < loose rest → form_of (kind_at 0 ts) (kind_at 1 ts) ≡ OrForm
    go [] ts mid x rest h p past = ap (λ us. form_of (kind_at 0 us) (kind_at 1 us)) h ∙ (path_no_form S).tells mid x rest p past
    go (y ∷ ys) ts mid x rest h p past = let o = h.1 in let t = o.0 in ap (λ us. form_of (kind_at 0 us) (kind_at 1 us)) o.1 ∙ no_form t.kind (sign_no_form t.kind y o.2) _
