-- Who sent a datagram.
use Rattle.std.proofs.Common.{◌≡◌, ℕ, zero, suc, Bool, true, false, List, refl, sym, subst, ◌∙◌, Some, None}
use Rattle.std.specs.Prelude.{MatchBool, slice_get}
use Rattle.server_steps.specs.Addressed.{address_of}
use Rattle.server_steps.specs.Moves.{IsFromElsewhere, IsFromSender}

pub some_same : {A : Type 0} {a b : A} → Some a ≡ Some b → a ≡ b
some_same q = cc

module _ {D : Type 0} (eq : D → D → Bool) (peers : List D) (bytes : List ℕ) (from : D) where
  abbrev pub IsTold : Bool → Type 0
  IsTold b = MatchBool b ((sender : ℕ) → slice_get bytes 8 ≡ Some sender → IsFromSender eq peers sender from) (IsFromElsewhere eq peers bytes from)

  -- the sender's number is told by its byte alone
  pub of_client : (b : ℕ) → Some b ≡ slice_get bytes 8 → b ≡ 0 → IsTold true
  of_client b at is sender found = subst (λ n. IsFromSender eq peers n from) (sym is ∙ some_same (at ∙ found)) tt

  pub of_none : None ≡ slice_get bytes 8 → IsTold true
  of_none none sender found = absurd (let e : None ≡ Some sender = none ∙ found in cc)

  pub of_member : (b : ℕ) → (b ≡ 0 → ⊥) → Some b ≡ slice_get bytes 8 → (peer : D) → Some peer ≡ address_of peers None b → (t : Bool) → t ≡ eq from peer → IsTold t
  of_member zero some at peer has t is = absurd (some refl)
  of_member (suc m) some at peer has true is = λ sender found. subst (λ n. IsFromSender eq peers n from) (some_same (at ∙ found)) (peer, sym has, sym is)
  of_member (suc m) some at peer has false is = (m, sym at, λ p found. subst (λ q. eq from q ≡ false) (some_same (has ∙ found)) (sym is))

  pub of_stranger : (b : ℕ) → (b ≡ 0 → ⊥) → Some b ≡ slice_get bytes 8 → None ≡ address_of peers None b → IsTold false
  of_stranger zero some at none = absurd (some refl)
  of_stranger (suc m) some at none = (m, sym at, λ p found. absurd (let e : None ≡ Some p = none ∙ found in cc))
