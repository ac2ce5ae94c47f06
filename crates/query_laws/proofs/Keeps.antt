-- Languages over tokens that say well: what each way of making one does to what is said of its values.
use Rattle.std.proofs.Common.{◌≡◌, ⊎_elim, Bool, true, List, [], ◌∷◌, Option, subst}
use Rattle.std.proofs.lemmas.List.Elements.{All-nil, All-cons, All-head, All-tail}
use Rattle.std.specs.List.{All}
use Rattle.query_tokens.specs.declared.kind.Kind.{Kind}
use Rattle.query_tokens.specs.declared.kind.Kind.TheVariants as k
use Rattle.query_tokens.specs.declared.token.Token.{Token}
use Rattle.query_grammar.specs.Grammar as g
use Rattle.query_grammar.specs.Lang.{Lang, pure, ◌>>=◌, ◌>>◌, ◌∪◌, Many, tok, such, stands}
use Rattle.query_laws.specs.Written.{HasXmlString}
use Rattle.query_laws.proofs.Names.{Says}

-- what a token says, a string too
pub record SaysAll (t : Token) : Type 0 where
  pub says : Says t
  pub string : HasXmlString t

-- From tokens that say so, what is spelt is such, and the tokens after it say so.
pub record Keeps {A : Type 0} (P : A → Type 0) (L : Lang A) : Type 0 where
  pub kept : (ts : List Token) (a : A) (rest : List Token) → L ts a rest → All SaysAll ts → P a × All SaysAll rest

-- nothing is asked of the value
abbrev pub Anything : {A : Type 0} → A → Type 0
Anything a = Unit {0}

pub keeps_pure : {A : Type 0} (P : A → Type 0) (a : A) → P a → Keeps P (pure a)
keeps_pure P a p = record { kept = λ ts b rest h all. (subst P h.0 p, subst (All SaysAll) h.1 all) }

pub keeps_bind : {A B : Type 0} {P : A → Type 0} {Q : B → Type 0} {L : Lang A} {F : A → Lang B} → Keeps P L → ((a : A) → P a → Keeps Q (F a)) → Keeps Q (L >>= F)
keeps_bind s t = record {
  kept = λ ts b rest h all. let first = s.kept ts h.0 h.1 h.2 all in (t h.0 first.0).kept h.1 b rest h.3 first.1;
}

-- a value made of what was spelt
pub keeps_made : {A B : Type 0} {P : A → Type 0} (Q : B → Type 0) {L : Lang A} (f : A → B) → Keeps P L → ((a : A) → P a → Q (f a)) → Keeps Q (L >>= (λ a. pure (f a)))
keeps_made Q f s t = keeps_bind s (λ a p. keeps_pure Q (f a) (t a p))

-- whatever was said of the value
pub anything : {A : Type 0} {P : A → Type 0} {L : Lang A} → Keeps P L → Keeps Anything L
anything s = record { kept = λ ts a rest h all. (tt, (s.kept ts a rest h all).1) }

pub keeps_after : {A B : Type 0} {P : A → Type 0} {Q : B → Type 0} {L : Lang A} {M : Lang B} → Keeps P L → Keeps Q M → Keeps Q (L >> M)
keeps_after s t = keeps_bind s (λ a p. t)

pub keeps_either : {A : Type 0} {P : A → Type 0} {L M : Lang A} → Keeps P L → Keeps P M → Keeps P (L ∪ M)
keeps_either s t = record { kept = λ ts a rest h all. ⊎_elim (λ l. s.kept ts a rest l all) (λ m. t.kept ts a rest m all) h }

-- Tokens.

one_token : (ts rest : List Token) (t : Token) → ts ≡ t ∷ rest → All SaysAll ts → SaysAll t × All SaysAll rest
one_token ts rest t is all = let here = subst (All SaysAll) is all in (All-head SaysAll t rest here, All-tail SaysAll t rest here)

-- a token that passes a test
pub record Such (Q : Kind → Type 0) (t : Token) : Type 0 where
  pub says_all : SaysAll t
  pub passes : Q t.kind

pub keeps_such : (p : Kind → Bool) → Keeps (Such (λ kind. p kind ≡ true)) (such p)
keeps_such p = record { kept = λ ts t rest h all. let one = one_token ts rest t h.0 all in (record { says_all = one.0; passes = h.1 }, one.1) }

pub keeps_tok : (kind : Kind) → Keeps (Such (λ found. found ≡ kind)) (tok kind)
keeps_tok kind = record { kept = λ ts t rest h all. let one = one_token ts rest t h.0 all in (record { says_all = one.0; passes = h.1 }, one.1) }

pub keeps_stands : {A : Type 0} (f : Kind → Option A) → Keeps Anything (stands f)
keeps_stands f = record { kept = λ ts a rest h all. (tt, (one_token ts rest h.0 h.1 all).1) }

-- a token, and then what follows it
pub after : {A : Type 0} (kind : Kind) {P : A → Type 0} {L : Lang A} → Keeps P L → Keeps P (tok kind >> L)
after kind s = keeps_after (keeps_tok kind) s

-- a token that stands for a value of which nothing is asked
pub token_for : {A : Type 0} (kind : Kind) (a : A) → Keeps Anything (tok kind >> pure a)
token_for kind a = after kind (keeps_pure Anything a tt)

-- Lists.

many_kept : {A : Type 0} {P : A → Type 0} {L : Lang A} → Keeps P L → (ts : List Token) (xs : List A) (rest : List Token) → Many L ts xs rest → All SaysAll ts → All P xs × All SaysAll rest
many_kept {P = P} s ts [] rest h all = (All-nil P, subst (All SaysAll) h all)
many_kept {P = P} s ts (x ∷ xs) rest h all =
    let first = s.kept ts x h.0 h.1 all in
    let others = many_kept s h.0 xs rest h.2 first.1 in
    (All-cons P x xs first.0 others.0, others.1)

pub keeps_many : {A : Type 0} {P : A → Type 0} {L : Lang A} → Keeps P L → Keeps (All P) (Many L)
keeps_many s = record { kept = many_kept s }

pub keeps_list1 : {A : Type 0} {P : A → Type 0} {L : Lang A} → Keeps P L → Keeps (All P) (g.List1 L)
keeps_list1 {P = P} s = keeps_bind s (λ x p. keeps_made (All P) (λ xs. x ∷ xs) (keeps_many (after k.Comma s)) (λ xs h. All-cons P x xs p h))

pub keeps_list0 : {A : Type 0} {P : A → Type 0} {L : Lang A} → Keeps P L → Keeps (All P) (g.List0 L)
keeps_list0 {P = P} s = keeps_either (keeps_pure (All P) [] (All-nil P)) (keeps_list1 s)
