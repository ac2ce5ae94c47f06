-- A loop that counts its turns up, beside `rounds`, which counts them down.
use Rattle.std.proofs.Common.{◌≡◌, ℕ, zero, suc, ◌-◌, ◌+◌, ◌<◌, ◌≤◌, Bool, true, false, cond, List, refl, ap, subst, ◌∙◌, sym, arith}
use Rattle.std.specs.Prelude.{Result, Ok, Err}
use Rattle.std.specs.Result.{IsErrAnd}
use Rattle.fault_codes.specs.declared.code.Code.{Code}
use Rattle.query_tokens.specs.declared.fault.ParseFault.{ParseFault}
use Rattle.query_tokens.specs.declared.fault.ParseFault.TheVariants.{Memory, Static}
use Rattle.query_tokens.specs.Outcome.{IsFault, IsNext, IsRead}
use Rattle.query_tokens.specs.Reading.{Read, Gives, Fails, Reader, on_read, rounds}

module _ {A : Type 0} (goes : A → List ℕ → Bool) (step : A → Reader A) where
  one_round : (n : ℕ) (a : A) (text : List ℕ) → goes a text ≡ true → rounds goes step (suc n) a text ≡ on_read (step a text) (λ b rest. rounds goes step n b rest)
  unfolding rounds
  one_round n a text g = ap (λ t. cond t (on_read (step a text) (λ b rest. rounds goes step n b rest)) (Gives a text)) g

  -- a turn of the loop that reads
  pub goes_on : (n at : ℕ) (a b : A) (text rest : List ℕ) → at < n → goes a text ≡ true → step a text ≡ Gives b rest → rounds goes step (n - at) a text ≡ rounds goes step (n - (at + 1)) b rest
  goes_on n at a b text rest below g e =
      let turn : n - at ≡ suc (n - (at + 1)) = omega arith in
      ap (λ k. rounds goes step k a text) turn ∙ one_round (n - (at + 1)) a text g ∙ ap (λ r. on_read r (λ b rest. rounds goes step (n - (at + 1)) b rest)) e

  -- a turn of the loop with a fault
  pub fails_in : (n at : ℕ) (a : A) (text : List ℕ) (code : Code) → at < n → goes a text ≡ true → step a text ≡ Fails code → rounds goes step (n - at) a text ≡ Fails code
  fails_in n at a text code below g e =
      let turn : n - at ≡ suc (n - (at + 1)) = omega arith in
      ap (λ k. rounds goes step k a text) turn ∙ one_round (n - (at + 1)) a text g ∙ ap (λ r. on_read r (λ b rest. rounds goes step (n - (at + 1)) b rest)) e

  -- the test ends it
  pub ends : (n : ℕ) (a : A) (text : List ℕ) → goes a text ≡ false → rounds goes step n a text ≡ Gives a text
  unfolding rounds
  ends zero a text g = refl
  ends (suc n) a text g = ap (λ t. cond t (on_read (step a text) (λ b rest. rounds goes step n b rest)) (Gives a text)) g

  -- no turn is left
  pub runs_out : (n at : ℕ) (a : A) (text : List ℕ) → n ≤ at → rounds goes step (n - at) a text ≡ Gives a text
  unfolding rounds
  runs_out n at a text done = let none : n - at ≡ 0 = omega arith in ap (λ k. rounds goes step k a text) none

  -- before the first turn
  pub begins : (n : ℕ) (a : A) (text : List ℕ) → rounds goes step n a text ≡ rounds goes step (n - 0) a text
  begins n a text = let same : n ≡ n - 0 = omega arith in ap (λ k. rounds goes step k a text) same

  -- the same for a fault that want of memory may be
  pub is_fault_in : (n at : ℕ) (a : A) (text : List ℕ) (whole : Read A) (fault : ParseFault) → at < n → goes a text ≡ true → IsFault (step a text) fault → whole ≡ rounds goes step (n - at) a text → IsFault whole fault
  is_fault_in n at a text whole Memory below g e same = tt
  is_fault_in n at a text whole (Static code) below g e same = same ∙ fails_in n at a text code below g e

-- what a `?` passes on
pub passed_on : {A B : Type 0} (read : Read A) (value : B → A) (rest : B → List ℕ) (result : Result B ParseFault) (fault : ParseFault) → IsErrAnd result (λ e. e ≡ fault) → IsFault read fault → IsNext read value rest result
passed_on read value rest (Ok b) fault h e = absurd h
passed_on read value rest (Err f) fault h e = let P : ParseFault → Type 0 = λ x. IsFault read x in subst P (sym h) e

-- what reads the same answers the same
pub same_read : {A B : Type 0} (value : B → A) (rest : B → List ℕ) (read other : Read A) (result : Result B ParseFault) → read ≡ other → IsNext other value rest result → IsNext read value rest result
same_read value rest read other result e h = subst (λ r. IsNext r value rest result) (sym e) h

-- what a `?` passes on of a whole text
pub passed_whole : {A B : Type 0} (read : Read A) (value : B → A) (result : Result B ParseFault) (fault : ParseFault) → IsErrAnd result (λ e. e ≡ fault) → IsFault read fault → IsRead read value result
passed_whole read value (Ok b) fault h e = absurd h
passed_whole read value (Err f) fault h e = let P : ParseFault → Type 0 = λ x. IsFault read x in subst P (sym h) e
