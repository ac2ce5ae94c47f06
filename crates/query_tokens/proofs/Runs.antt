-- The longest run of characters is what `run_of` reads.
use Rattle.std.proofs.Common.{◌≡◌, ℕ, suc, Bool, true, false, cond, List, [], ◌∷◌, ◌++◌, length, All, ap, sym, ◌∙◌, append_assoc, append-nil}
use Rattle.std.proofs.lemmas.List.Elements.{All-head, All-tail}
use Rattle.fault_codes.specs.declared.code.Code.TheVariants.{XPST0003}
use Rattle.query_tokens.specs.Reading.{Gives, Fails, Reader, on_read, ◌>>=◌, pure, such, rounds}
use Rattle.query_tokens.specs.Lexing.{goes_on, run_of, IsRun}
use Rattle.query_tokens.proofs.Rounds.{ends}

module _ (p : ℕ → Bool) where
  pub one_more : (n : ℕ) (found rest : List ℕ) (c : ℕ) → p c ≡ true
      → rounds (λ _ text. goes_on p text) (λ found. such p >>= (λ c. pure (found ++ c ∷ []))) (suc n) found (c ∷ rest) ≡ rounds (λ _ text. goes_on p text) (λ found. such p >>= (λ c. pure (found ++ c ∷ []))) n (found ++ c ∷ []) rest
  unfolding rounds
  one_more n found rest c e =
      ap (λ t. cond t (on_read (on_read (cond t (Gives c rest) (Fails XPST0003)) (λ d after. Gives (found ++ d ∷ []) after)) (λ b after. rounds (λ _ text. goes_on p text) (λ found. such p >>= (λ c. pure (found ++ c ∷ []))) n b after)) (Gives found (c ∷ rest))) e

  collects : (found front rest : List ℕ) → All (λ c. p c ≡ true) front → goes_on p rest ≡ false
      → rounds (λ _ text. goes_on p text) (λ found. such p >>= (λ c. pure (found ++ c ∷ []))) (length (front ++ rest)) found (front ++ rest) ≡ Gives (found ++ front) rest
  collects found [] rest each last = ends (λ _ text. goes_on p text) (λ found. such p >>= (λ c. pure (found ++ c ∷ []))) (length rest) found rest last ∙ ap (λ f. Gives f rest) (sym (append-nil found))
  collects found (c ∷ front) rest each last =
      one_more (length (front ++ rest)) found (front ++ rest) c (All-head (λ c. p c ≡ true) c front each)
      ∙ collects (found ++ c ∷ []) front rest (All-tail (λ c. p c ≡ true) c front each) last
      ∙ ap (λ f. Gives f rest) (append_assoc found (c ∷ []) front)

  pub run_is_read : (text front rest : List ℕ) → IsRun p text front rest → run_of p text ≡ Gives front rest
  run_is_read text front rest h = ap (run_of p) h.joined ∙ collects [] front rest h.each h.longest

  -- what comes after the run
  pub run_then : {A : Type 0} (next : List ℕ → Reader A) (text front rest : List ℕ) → IsRun p text front rest → (run_of p >>= next) text ≡ next front rest
  run_then next text front rest h = ap (λ r. on_read r next) (run_is_read text front rest h)
