-- The tokens of a text are read to its end.
use Rattle.std.proofs.Common.{◌≡◌, ℕ, zero, suc, ◌≤◌, Bool, true, false, cond, List, [], length, refl, sym, ◌∙◌, arith}
use Rattle.query_tokens.specs.declared.token.Token.{Token}
use Rattle.query_tokens.specs.Lexing.{is_left, next_token, separators, tokens}
use Rattle.query_tokens.specs.Reading.{Read, Gives, Fails, Reader, on_read, repeat, rounds}
use Rattle.query_tokens.proofs.Shrinks.{next_token_takes, nothing_left, no_text}

read_on : {A B : Type 0} (r : Read A) (f : A → Reader B) (b : B) (rest : List ℕ) → on_read r f ≡ Gives b rest → (a : A) × (mid : List ℕ) × (r ≡ Gives a mid) × (f a mid ≡ Gives b rest)
read_on (Gives a mid) f b rest e = (a, mid, refl, e)
read_on (Fails code) f b rest e = absurd (let h : ⊥ = cc in h)

gives_rest : {A : Type 0} (a b : A) (r s : List ℕ) → Gives a r ≡ Gives b s → r ≡ s
gives_rest a b r s e = cc

to_end : (n : ℕ) (found ts : List Token) (text rest : List ℕ) → length text ≤ n → rounds (λ _ text. is_left text) next_token n found text ≡ Gives ts rest → rest ≡ []
unfolding rounds
to_end zero found ts text rest h e = sym (gives_rest found ts text rest e) ∙ no_text text h
to_end (suc n) found ts text rest h e = by (λ a mid. to_end n a ts mid rest) (is_left text) refl e
  where
    by : ((a : List Token) (mid : List ℕ) → length mid ≤ n → rounds (λ _ text. is_left text) next_token n a mid ≡ Gives ts rest → rest ≡ [])
        → (b : Bool) → is_left text ≡ b → cond b (on_read (next_token found text) (λ a mid. rounds (λ _ text. is_left text) next_token n a mid)) (Gives found text) ≡ Gives ts rest → rest ≡ []
    by more false l f = sym (gives_rest found ts text rest f) ∙ nothing_left text l
    by more true l f = let r = read_on (next_token found text) (λ a mid. rounds (λ _ text. is_left text) next_token n a mid) ts rest f in
        more r.0 r.1 (omega (arith, h, next_token_takes found text r.0 r.1 l r.2)) r.3

pub whole : (text : List ℕ) (ts : List Token) (rest : List ℕ) → tokens text ≡ Gives ts rest → rest ≡ []
unfolding tokens
whole text ts rest e =
    let r = read_on (separators text) (λ _. repeat (λ _ text. is_left text) next_token []) ts rest e in
    to_end (length r.1) [] ts r.1 rest (omega arith) r.3
