-- A text is read token by token.
use Rattle.std.proofs.Common.{◌≡◌, ℕ, suc, ◌+◌, ◌-◌, ◌≤◌, true, false, cond, List, [], ◌∷◌, ◌++◌, length, refl, ap, sym, ◌∙◌, arith, append_assoc, append-nil, length-append}
use Rattle.query_tokens.specs.Reading.{Read, Gives, on_read, ◌>>◌, pure, rounds}
use Rattle.query_tokens.specs.declared.token.Token.{Token}
use Rattle.query_tokens.specs.Lexing.{is_left, is_separated, separator, separators, token, next_token, tokens}
use Rattle.query_tokens.proofs.Rounds.{ends}
use Rattle.query_tokens.proofs.Shrinks.{next_token_takes}

-- so many turns of the loop over the tokens, after those that were found
abbrev pub turns : ℕ → List Token → List ℕ → Read (List Token)
turns n found text = rounds (λ _ text. is_left text) next_token n found text

-- the text begins with these tokens, one a turn, and the rest follows them
pub record Reads (text : List ℕ) (spelling : List Token) (rest : List ℕ) : Type 0 where
  pub fits : length spelling + length rest ≤ length text
  pub goes : (n : ℕ) (found : List Token) → turns (length spelling + n) found text ≡ turns n (found ++ spelling) rest

pub nothing : (text : List ℕ) → Reads text [] text
nothing text = record {
  fits = omega arith;
  goes = λ n found. let same : 0 + n ≡ n = omega arith in ap (λ k. turns k found text) same ∙ ap (λ f. turns n f text) (sym (append-nil found));
}

pub after : (text mid rest : List ℕ) (front back : List Token) → Reads text front mid → Reads mid back rest → Reads text (front ++ back) rest
after text mid rest front back r s = record {
  fits = omega (arith, length-append front back, r.fits, s.fits);
  goes = λ n found.
      let same : length (front ++ back) + n ≡ length front + (length back + n) = omega (arith, length-append front back) in
      ap (λ k. turns k found text) same ∙ r.goes (length back + n) found ∙ s.goes n (found ++ front) ∙ ap (λ f. turns n f rest) (append_assoc found front back);
}

one_turn : (n : ℕ) (found more : List Token) (text rest : List ℕ) → is_left text ≡ true → next_token found text ≡ Gives more rest → turns (suc n) found text ≡ turns n more rest
unfolding rounds
one_turn n found more text rest h e = ap (λ t. cond t (on_read (next_token found text) (λ b rest. turns n b rest)) (Gives found text)) h ∙ ap (λ r. on_read r (λ b rest. turns n b rest)) e

next_is : (found : List Token) (text mid rest : List ℕ) (t : Token) → token text ≡ Gives t mid → separators mid ≡ Gives tt rest → next_token found text ≡ Gives (found ++ t ∷ []) rest
next_is found text mid rest t e s =
    ap (λ r. on_read r (λ t. separators >> pure (found ++ t ∷ []))) e ∙ ap (λ r. on_read r (λ _. pure (found ++ t ∷ []))) s

-- a token, and what separates it from the next
pub one : (text mid rest : List ℕ) (t : Token) → is_left text ≡ true → token text ≡ Gives t mid → separators mid ≡ Gives tt rest → Reads text (t ∷ []) rest
one text mid rest t h e s = record {
  fits = let less = next_token_takes [] text (t ∷ []) rest h (next_is [] text mid rest t e s) in omega (arith, less);
  goes = λ n found. let same : 1 + n ≡ suc n = omega arith in ap (λ k. turns k found text) same ∙ one_turn n found (found ++ t ∷ []) text rest h (next_is found text mid rest t e s);
}

-- nothing separates the text from what was before it
pub not_separated : (text : List ℕ) → is_separated text ≡ false → separators text ≡ Gives tt text
not_separated text h = ends (λ _ text. is_separated text) (λ _. separator) (length text) tt text h

-- one space does
pub one_space : (text : List ℕ) → is_separated text ≡ false → separators (32 ∷ text) ≡ Gives tt text
unfolding rounds
one_space text h = ends (λ _ text. is_separated text) (λ _. separator) (length text) tt text h

-- the whole text
pub whole : (text : List ℕ) (spelling : List Token) → is_separated text ≡ false → Reads text spelling [] → tokens text ≡ Gives spelling []
unfolding tokens
whole text spelling h r =
    let n : ℕ = length text - length spelling in
    let same : length text ≡ length spelling + n = omega (arith, r.fits) in
    ap (λ s. on_read s (λ _ rest. turns (length rest) [] rest)) (not_separated text h) ∙ ap (λ k. turns k [] text) same ∙ r.goes n [] ∙ ends (λ _ text. is_left text) next_token n spelling [] refl
