-- Languages: what each way of making one does to what is said of its values.
use Rattle.std.proofs.Common.{⊎_elim, List, [], ◌∷◌, subst}
use Rattle.std.proofs.lemmas.List.Elements.{All-nil, All-cons}
use Rattle.std.specs.List.{All}
use Rattle.query_tokens.specs.declared.kind.Kind.{Kind}
use Rattle.query_tokens.specs.declared.kind.Kind.TheVariants as k
use Rattle.query_tokens.specs.declared.token.Token.{Token}
use Rattle.query_grammar.specs.Grammar as g
use Rattle.query_grammar.specs.Lang.{Lang, pure, ◌>>=◌, ◌>>◌, ◌∪◌, Many, tok}

-- what tokens are spelt as is such
pub record Gives {A : Type 0} (P : A → Type 0) (L : Lang A) : Type 0 where
  pub given : (ts : List Token) (a : A) (rest : List Token) → L ts a rest → P a

pub gives_pure : {A : Type 0} (P : A → Type 0) (a : A) → P a → Gives P (pure a)
gives_pure P a p = record { given = λ ts b rest h. subst P h.0 p }

pub gives_bind : {A B : Type 0} {P : A → Type 0} {Q : B → Type 0} {L : Lang A} {F : A → Lang B} → Gives P L → ((a : A) → P a → Gives Q (F a)) → Gives Q (L >>= F)
gives_bind s t = record { given = λ ts b rest h. (t h.0 (s.given ts h.0 h.1 h.2)).given h.1 b rest h.3 }

-- whatever comes first
pub gives_then : {A B : Type 0} {Q : B → Type 0} {L : Lang A} {F : A → Lang B} → ((a : A) → Gives Q (F a)) → Gives Q (L >>= F)
gives_then t = record { given = λ ts b rest h. (t h.0).given h.1 b rest h.3 }

-- a value made of what was spelt
pub gives_made : {A B : Type 0} {P : A → Type 0} (Q : B → Type 0) {L : Lang A} (f : A → B) → Gives P L → ((a : A) → P a → Q (f a)) → Gives Q (L >>= (λ a. pure (f a)))
gives_made Q f s t = gives_bind s (λ a p. gives_pure Q (f a) (t a p))

pub gives_either : {A : Type 0} {P : A → Type 0} {L M : Lang A} → Gives P L → Gives P M → Gives P (L ∪ M)
gives_either s t = record { given = λ ts a rest h. ⊎_elim (λ l. s.given ts a rest l) (λ m. t.given ts a rest m) h }

-- what comes after a token
pub after : {A : Type 0} (kind : Kind) {P : A → Type 0} {L : Lang A} → Gives P L → Gives P (tok kind >> L)
after kind s = gives_then (λ t. s)

-- Lists.

many_given : {A : Type 0} {P : A → Type 0} {L : Lang A} → Gives P L → (ts : List Token) (xs : List A) (rest : List Token) → Many L ts xs rest → All P xs
many_given {P = P} s ts [] rest h = All-nil P
many_given {P = P} s ts (x ∷ xs) rest h = All-cons P x xs (s.given ts x h.0 h.1) (many_given s h.0 xs rest h.2)

pub gives_many : {A : Type 0} {P : A → Type 0} {L : Lang A} → Gives P L → Gives (All P) (Many L)
gives_many s = record { given = many_given s }

pub gives_list1 : {A : Type 0} {P : A → Type 0} {L : Lang A} → Gives P L → Gives (All P) (g.List1 L)
gives_list1 {P = P} s = gives_bind s (λ x p. gives_made (All P) (λ xs. x ∷ xs) (gives_many (after k.Comma s)) (λ xs h. All-cons P x xs p h))

pub gives_list0 : {A : Type 0} {P : A → Type 0} {L : Lang A} → Gives P L → Gives (All P) (g.List0 L)
gives_list0 {P = P} s = gives_either (gives_pure (All P) [] (All-nil P)) (gives_list1 s)
