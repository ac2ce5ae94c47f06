-- Questions in turn.
use Rattle.std.proofs.Common.{◌≡◌, ℕ, ◌+◌, ◌≤◌, ◌<◌, List, [], ◌∷◌, ◌++◌, length, take, arith, sym, ap, subst, ◌∙◌, length-append}
use Rattle.std.specs.Prelude.{get_or, string_bytes}
use Rattle.std.proofs.lemmas.List.{take_more}
use Rattle.std.specs.declared.string.String.{String}
use Rattle.sight.specs.Sights.{IsSight}
use Rattle.ballots.specs.declared.reply.Answer.{Answer}
use Rattle.ballots.specs.declared.value.Value.{Value}
use Rattle.paxos.specs.Application.{Application}
use Rattle.published.specs.Readers.{IsAnswer, Serves, next}

module _ {Z : Type 0} (app : Application) (seen : List Value) (asks : List (ℕ × String Z)) where
  -- so many of the questions are answered
  abbrev pub IsServed : List (Answer × ℕ) → List Value → Type 0
  IsServed answers now = Serves app seen (take (length answers) asks) answers now × (length answers ≤ length asks)

  -- one more
  pub served_more : (answers : List (Answer × ℕ)) (then now : List Value) (ask : ℕ × String Z) (answer : Answer × ℕ) → length answers < length asks → ask ≡ get_or asks (length answers) ask
      → IsServed answers then → IsSight then now → IsAnswer app ask.0 (string_bytes ask.1) answer.0 answer.1 now → IsServed (answers ++ answer ∷ []) now
  served_more answers then now ask answer less is h more one =
      let long : length (answers ++ answer ∷ []) ≡ length answers + 1 = length-append answers (answer ∷ []) in
      let taken : take (length (answers ++ answer ∷ [])) asks ≡ take (length answers) asks ++ ask ∷ [] = ap (λ n. take n asks) long ∙ take_more asks (length answers) ask less ∙ ap (λ a. take (length answers) asks ++ a ∷ []) (sym is) in
      (subst (λ xs. Serves app seen xs (answers ++ answer ∷ []) now) (sym taken) (next (take (length answers) asks) answers then ask answer now h.0 more one), omega (arith, long, less))
