-- What follows an operand.
use Rattle.std.proofs.Common.{◌≡◌, ℕ, ◌<◌, ◌≤◌, Bool, true, false, ◌&&◌, List, [], ◌∷◌, refl, ap, ◌∙◌, ⊎_elim, arith}
use Rattle.query_tokens.specs.declared.kind.Kind.{Kind}
use Rattle.query_tokens.specs.declared.kind.Kind.TheVariants as k
use Rattle.query_tokens.specs.declared.token.Token.{Token}
use Rattle.query_tokens.specs.Cursor.{kind_at}
use Rattle.query_tokens.specs.Words.{is_name_kind}
use Rattle.query_grammar.specs.Lang.{Lang, pure as empty, ◌>>=◌ as ◌▹◌, ◌∪◌, Many, tok}
use Rattle.query_grammar.specs.Loose.{looseness, looseness_of}
use Rattle.query_grammar.specs.Reading.{same_kind}

abbrev pub loose_by : Bool → ℕ → ℕ
loose_by true n = 0
loose_by false n = n

-- a word before "{", that of a constructor after `element`
abbrev pub names_braces : List Token → Bool
names_braces ts = is_name_kind (kind_at 0 ts) && same_kind (kind_at 1 ts) k.OpenBrace

-- How loosely the next token stands. No operand begins with "{", so that a word before it never follows one.
unfoldable pub loose : List Token → ℕ
loose ts = loose_by (names_braces ts) (looseness_of ts)

level_by : (b : Bool) (n : ℕ) → 0 < loose_by b n → loose_by b n ≡ n
level_by true n h = absurd (omega (arith, h))
level_by false n h = refl

pub loose_level : (ts : List Token) → 0 < loose ts → loose ts ≡ looseness_of ts
unfolding loose
loose_level ts h = level_by (names_braces ts) (looseness_of ts) h

braces_by : (b : Bool) (n : ℕ) → 0 < loose_by b n → b ≡ false
braces_by true n h = absurd (omega (arith, h))
braces_by false n h = refl

pub no_braces : (ts : List Token) → 0 < loose ts → names_braces ts ≡ false
unfolding loose
no_braces ts h = braces_by (names_braces ts) (looseness_of ts) h

pub and_false : (b : Bool) → (b && false) ≡ false
and_false true = refl
and_false false = refl

-- a token that no "{" follows
pub word_loose : (kind : Kind) (ts : List Token) (t : Token) (mid : List Token) → tok kind ts t mid → same_kind (kind_at 0 mid) k.OpenBrace ≡ false → loose ts ≡ looseness kind
unfolding loose
word_loose kind ts t mid h e =
    ap loose h.0 ∙ ap (λ b. loose_by (is_name_kind t.kind && b) (looseness t.kind)) e
    ∙ ap (λ b. loose_by b (looseness t.kind)) (and_false (is_name_kind t.kind)) ∙ ap looseness h.1

-- a mark
pub mark_loose : (kind : Kind) → is_name_kind kind ≡ false → (ts : List Token) (t : Token) (mid : List Token) → tok kind ts t mid → loose ts ≡ looseness kind
unfolding loose
mark_loose kind mark ts t mid h =
    ap loose h.0 ∙ ap (λ found. loose_by (is_name_kind found && same_kind (kind_at 0 mid) k.OpenBrace) (looseness found)) h.1
    ∙ ap (λ b. loose_by (b && same_kind (kind_at 0 mid) k.OpenBrace) (looseness kind)) mark

-- It begins looser than `j` where what follows it is looser than `k`.
pub record Leads {A : Type 0} (j k : ℕ) (P : Lang A) : Type 0 where
  pub leads : (ts : List Token) (a : A) (rest : List Token) → P ts a rest → k < loose rest → j < loose ts

pub leads_pure : {A : Type 0} {j k : ℕ} (a : A) → j ≤ k → Leads j k (empty a)
leads_pure a below = record { leads = λ ts b rest h past. let e = ap loose h.1 in omega (arith, e, below, past) }

pub leads_bind : {A B : Type 0} {i k : ℕ} (j : ℕ) {P : Lang A} {F : A → Lang B} → Leads i j P → ((a : A) → Leads j k (F a)) → Leads i k (P ▹ F)
leads_bind j s t = record { leads = λ ts b rest h past. s.leads ts h.0 h.1 h.2 ((t h.0).leads h.1 b rest h.3 past) }

-- where it begins alike whatever follows
pub leads_at : {A : Type 0} {j k : ℕ} (n : ℕ) {P : Lang A} → j < n → ((ts : List Token) (a : A) (rest : List Token) → P ts a rest → loose ts ≡ n) → Leads j k P
leads_at n below begins = record { leads = λ ts a rest h past. let e = begins ts a rest h in omega (arith, e, below) }

pub leads_mark : {B : Type 0} {j k : ℕ} (kind : Kind) {P : Lang B} → is_name_kind kind ≡ false → j < looseness kind → Leads j k (tok kind ▹ (λ _. P))
leads_mark kind mark below = record { leads = λ ts b rest h past. let e = mark_loose kind mark ts h.0 h.1 h.2 in omega (arith, e, below) }

pub leads_either : {A : Type 0} {j k : ℕ} {P Q : Lang A} → Leads j k P → Leads j k Q → Leads j k (P ∪ Q)
leads_either s t = record { leads = λ ts a rest h past. ⊎_elim (λ x. s.leads ts a rest x past) (λ x. t.leads ts a rest x past) h }

many_leads : {A : Type 0} {j k : ℕ} {P : Lang A} (n : ℕ) → j < n → j ≤ k → ((ts : List Token) (a : A) (rest : List Token) → P ts a rest → loose ts ≡ n)
    → (ts : List Token) (xs : List A) (rest : List Token) → Many P ts xs rest → k < loose rest → j < loose ts
many_leads n below under begins ts [] rest h past = let e = ap loose h in omega (arith, e, under, past)
many_leads n below under begins ts (x ∷ xs) rest h past = let e = begins ts x h.0 h.1 in omega (arith, e, below)

pub leads_many : {A : Type 0} {j k : ℕ} {P : Lang A} (n : ℕ) → j < n → j ≤ k → ((ts : List Token) (a : A) (rest : List Token) → P ts a rest → loose ts ≡ n) → Leads j k (Many P)
leads_many n below under begins = record { leads = many_leads n below under begins }
