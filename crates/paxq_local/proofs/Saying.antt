-- What a datagram says that has come.
use Rattle.std.proofs.Common.{◌≡◌, ◌∙◌, ℕ, Bool, List, ◌++◌, Option, Some, None, Result, Ok, Err, IfOk, IfSome, refl, sym, ap, string_bytes}
use Rattle.std.specs.Option.{option_map}
use Rattle.ballots.specs.declared.request.RequestId.{RequestId}
use Rattle.clients.specs.Hearing.{HeardTerm, heard_in}
use Rattle.messages.specs.Reading.{datagram_read}
use Rattle.paxq_local.specs.Members.{IsAt, IsSaidBy, own_group}
use Rattle.paxq_local.specs.Told.{Brings, HasCome, HasComeFrom, IsSaid, position_in, told, told_at}
use Rattle.paxq_local.specs.declared.asked.Form.{Form}
use Rattle.paxq_local.specs.declared.asked.Said.{Said}
use Rattle.paxq_local.proofs.Brought.{brings-then, said-after, said-more}
use Rattle.wires.specs.Wires.{Carried}

-- a datagram of these bytes came, and they say this
pub said-by : {A X : Type 0} (xs : List (Carried A)) (bytes : List ℕ) (said : Option HeardTerm → Option X) (group : ℕ) (id : RequestId) (x : X) → HasCome xs bytes → said (heard_in group id (datagram_read bytes)) ≡ Some x → IsSaid xs said group id x
said-by xs bytes said group id x come says =
    record { datagram = come.0; came = come.1; to_client = come.2; says = ap (λ bs. said (heard_in group id (datagram_read bs))) come.3 ∙ says }

-- a datagram that says it came last
pub brings-said : {W A S X : Type 0} (H : W → List (Carried A) → Type 0) (a b c : W) (bytes : List ℕ) (said : Option HeardTerm → Option X) (group : ℕ) (id : RequestId) (o : Option S) (s : S) (view : S → X)
    → Brings H a b (λ _. Unit {0}) → Brings H b c (λ xs. HasCome xs bytes) → option_map view o ≡ said (heard_in group id (datagram_read bytes)) → o ≡ Some s → Brings H a c (λ xs. IsSaid xs said group id (view s))
brings-said {W} {A} {S} {X} H a b c bytes said group id o s view first came is some =
    brings-then H a b c (λ _. Unit {0}) (λ xs. HasCome xs bytes) (λ xs. IsSaid xs said group id (view s)) first came
    (λ xs ys _ come. said-after xs ys said group id (view s) (said-by ys bytes said group id (view s) come (sym is ∙ ap (option_map view) some)))

-- What members said stays said.
module _ {A X : Type 0} (eq : A → A → Bool) (peers : List A) (xs ys : List (Carried A)) (before : ℕ) (said : Option HeardTerm → Option X) (id : RequestId) (x : X) where
  pub by-more : IsSaidBy eq peers xs before said id x → IsSaidBy eq peers (xs ++ ys) before said id x
  unfolding said-more
  by-more s = (s.0, s.1, record { is_said = said-more xs ys said own_group id x s.2.is_said; came_from = s.2.came_from })

  pub by-after : IsSaidBy eq peers ys before said id x → IsSaidBy eq peers (xs ++ ys) before said id x
  unfolding said-after
  by-after s = (s.0, s.1, record { is_said = said-after xs ys said own_group id x s.2.is_said; came_from = s.2.came_from })

-- a datagram of these bytes came from the member's address, and they say this
pub by-come : {A X : Type 0} (eq : A → A → Bool) (peers : List A) (xs : List (Carried A)) (before : ℕ) (said : Option HeardTerm → Option X) (id : RequestId) (x : X) (from : A) (bytes : List ℕ)
    → HasComeFrom xs from bytes → IsAt eq peers before from → said (heard_in own_group id (datagram_read bytes)) ≡ Some x → IsSaidBy eq peers xs before said id x
by-come eq peers xs before said id x from bytes come is_at says = (
  is_at.0,
  is_at.1,
  record {
    is_said = record { datagram = record { end = 0; peer = from; bytes = bytes }; came = come; to_client = refl; says = says };
    came_from = is_at.2;
  },
)

-- what is said of what a call may have found
pub found-said : {E : Type 0} (r : Result (Option Said) E) (form : Form) (heard : Option HeardTerm) (P : List ℕ × ℕ → Type 0) → IfOk r (λ o. option_map (λ (s : Said). string_bytes s.text) o ≡ told form heard)
    → IfOk r (λ o. IfSome o (λ (s : Said). s.position ≡ position_in heard)) → ((x : List ℕ × ℕ) → told_at form heard ≡ Some x → P x) → IfOk r (λ o. IfSome o (λ (s : Said). P (string_bytes s.text, s.position)))
found-said (Ok (Some s)) form heard P text position then =
    then (string_bytes s.text, s.position) (ap (λ o. option_map (λ bs. (bs, position_in heard)) o) (sym text) ∙ ap (λ (n : ℕ). Some (string_bytes s.text, n)) (sym position))
found-said (Ok None) form heard P text position then = tt
found-said (Err error) form heard P text position then = tt
