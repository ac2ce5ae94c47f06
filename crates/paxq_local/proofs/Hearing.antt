-- What is heard while a client listens.
use Rattle.std.proofs.Common.{◌≡◌, ℕ, Bool, List, ◌++◌, take, Option, None, Some, Result, Ok, IfOk, IfSome, MatchOption, sym, subst, append_assoc}
use Rattle.ballots.specs.declared.request.RequestId.{RequestId}
use Rattle.paxos.proofs.Lists.{has_right}
use Rattle.paxq_local.specs.Members.{HoldsSaid, IsToldByAll}
use Rattle.paxq_local.specs.Told.{Brings, HasComeFrom}
use Rattle.paxq_local.specs.declared.answers.Answers.{Answers}
use Rattle.paxq_local.specs.declared.answers.Told.{Told}
use Rattle.paxq_local.proofs.Brought.{brings-kept, brings-last, brings-then}
use Rattle.paxq_local.proofs.Holding.{holds-more}
use Rattle.wires.specs.Wires.{Carried}
use Rattle.wires.specs.declared.wire.Arrival.{Arrival}

-- what came, if something did
abbrev pub HasArrived : {A : Type 0} → Option (Arrival A) → (buffer : List ℕ) → List (Carried A) → Type 0
HasArrived o buffer xs = IfSome o (λ a. HasComeFrom xs a.from (take a.length buffer))

arrived : {A : Type 0} (o : Option (Arrival A)) (arrival : Arrival A) (buffer bytes : List ℕ) (xs : List (Carried A)) → HasArrived o buffer xs → o ≡ Some arrival → bytes ≡ take arrival.length buffer → HasComeFrom xs arrival.from bytes
arrived {A} o arrival buffer bytes xs h is same =
    subst (λ (bs : List ℕ). HasComeFrom xs arrival.from bs) (sym same) (subst (λ (p : Option (Arrival A)). HasArrived p buffer xs) is h)

-- of one member
pub heard-last : {W A : Type 0} (H : W → List (Carried A) → Type 0) (a b c : W) (o : Option (Arrival A)) (arrival : Arrival A) (buffer bytes : List ℕ) (P : List (Carried A) → Type 0)
    → Brings H a b (λ _. Unit {0}) → Brings H b c (HasArrived o buffer) → o ≡ Some arrival → bytes ≡ take arrival.length buffer → ((xs : List (Carried A)) → HasComeFrom xs arrival.from bytes → P xs) → Brings H a c P
heard-last {W} {A} H a b c o arrival buffer bytes P first came is same says =
    brings-then H a b c (λ _. Unit {0}) (HasArrived o buffer) P first came
    (λ xs ys u h. says (xs ++ ys) (has_right xs ys (record { end = 0; peer = arrival.from; bytes = bytes }) (arrived o arrival buffer bytes ys h is same)))

-- of all of them: what holds of the answers that are held holds after what came before too
module _ {W A : Type 0} (H : W → List (Carried A) → Type 0) (eq : A → A → Bool) (peers : List A) (id : RequestId) (old now : Answers) (a b : W)
    (held : Brings H a b (λ xs. (members : ℕ) (before : List (Carried A)) → HoldsSaid eq peers before members id old → HoldsSaid eq peers (before ++ xs) members id now)) where
  pub held-on : (c : W) (P : List (Carried A) → Type 0) → Brings H b c P → Brings H a c (λ xs. (members : ℕ) (before : List (Carried A)) → HoldsSaid eq peers before members id old → HoldsSaid eq peers (before ++ xs) members id now)
  held-on c P came =
      brings-then H a b c (λ xs. (members : ℕ) (before : List (Carried A)) → HoldsSaid eq peers before members id old → HoldsSaid eq peers (before ++ xs) members id now) P
      (λ xs. (members : ℕ) (before : List (Carried A)) → HoldsSaid eq peers before members id old → HoldsSaid eq peers (before ++ xs) members id now) held came
      (λ xs ys keeps p members before h.
      subst (λ (zs : List (Carried A)). HoldsSaid eq peers zs members id now) (append_assoc before xs ys) (holds-more eq peers members id (before ++ xs) ys now (keeps members before h)))

  pub heard-all : (c : W) (o : Option (Arrival A)) (arrival : Arrival A) (buffer bytes : List ℕ) (P : ℕ → List (Carried A) → Type 0) → Brings H b c (HasArrived o buffer) → o ≡ Some arrival → bytes ≡ take arrival.length buffer
      → ((members : ℕ) (xs : List (Carried A)) → HasComeFrom xs arrival.from bytes → HoldsSaid eq peers xs members id now → P members xs)
      → Brings H a c (λ xs. (members : ℕ) (before : List (Carried A)) → HoldsSaid eq peers before members id old → P members (before ++ xs))
  heard-all c o arrival buffer bytes P came is same then =
      brings-then H a b c (λ xs. (members : ℕ) (before : List (Carried A)) → HoldsSaid eq peers before members id old → HoldsSaid eq peers (before ++ xs) members id now) (HasArrived o buffer)
      (λ xs. (members : ℕ) (before : List (Carried A)) → HoldsSaid eq peers before members id old → P members (before ++ xs)) held came
      (λ xs ys keeps h members before k.
      subst (P members) (append_assoc before xs ys)
      (then members ((before ++ xs) ++ ys) (has_right (before ++ xs) ys (record { end = 0; peer = arrival.from; bytes = bytes }) (arrived o arrival buffer bytes ys h is same))
      (holds-more eq peers members id (before ++ xs) ys now (keeps members before k))))

  pub heard-kept : (c d : W) (o : Option (Arrival A)) (arrival : Arrival A) (buffer bytes : List ℕ) (P : ℕ → List (Carried A) → Type 0) → Brings H b c (HasArrived o buffer) → o ≡ Some arrival → bytes ≡ take arrival.length buffer
      → ((members : ℕ) (xs : List (Carried A)) → HasComeFrom xs arrival.from bytes → HoldsSaid eq peers xs members id now → P members xs) → ((ds : List (Carried A)) → H c ds → H d ds)
      → Brings H a d (λ xs. (members : ℕ) (before : List (Carried A)) → HoldsSaid eq peers before members id old → P members (before ++ xs))
  heard-kept c d o arrival buffer bytes P came is same then keeps =
      brings-kept H a c d (λ xs. (members : ℕ) (before : List (Carried A)) → HoldsSaid eq peers before members id old → P members (before ++ xs)) (heard-all c o arrival buffer bytes P came is same then) keeps

-- what came of a question was heard last, after tries in which none did
pub told-last : {W A E : Type 0} (H : W → List (Carried A) → Type 0) (eq : A → A → Bool) (peers theirs : List A) (members : ℕ) (id : RequestId) (old new : Answers) (a b c d : W) (r : Result (Option Told) E) (told : Told)
    → Brings H a b (λ xs. HoldsSaid eq peers xs members id old) → ((ds : List (Carried A)) → H b ds → H c ds)
    → Brings H c d (λ ys. (n : ℕ) (before : List (Carried A)) → HoldsSaid eq theirs before n id old
    → IfOk r (λ o. MatchOption o (HoldsSaid eq theirs (before ++ ys) n id new) (IsToldByAll eq theirs (before ++ ys) n id)))
    → theirs ≡ peers → r ≡ Ok (Some told) → Brings H a d (λ zs. IsToldByAll eq peers zs members id told)
told-last {W} {A} {E} H eq peers theirs members id old new a b c d r told first keeps last same is =
    brings-last H a b c d (λ xs. HoldsSaid eq peers xs members id old)
    (λ ys. (n : ℕ) (before : List (Carried A)) → HoldsSaid eq theirs before n id old → IfOk r (λ o. MatchOption o (HoldsSaid eq theirs (before ++ ys) n id new) (IsToldByAll eq theirs (before ++ ys) n id)))
    (λ zs. IsToldByAll eq peers zs members id told) first keeps last
    (λ xs ys h q.
    subst (λ (ps : List A). IsToldByAll eq ps (xs ++ ys) members id told) same
    (subst (λ (x : Result (Option Told) E). IfOk x (λ o. MatchOption o (HoldsSaid eq theirs (xs ++ ys) members id new) (IsToldByAll eq theirs (xs ++ ys) members id))) is
    (q members xs (subst (λ (ps : List A). HoldsSaid eq ps xs members id old) (sym same) h))))

-- the same where nothing came of it yet: what holds of the answers holds on
pub holds-last : {W A E : Type 0} (H : W → List (Carried A) → Type 0) (eq : A → A → Bool) (peers theirs : List A) (members : ℕ) (id : RequestId) (old new : Answers) (a b c d : W) (r : Result (Option Told) E)
    → Brings H a b (λ xs. HoldsSaid eq peers xs members id old) → ((ds : List (Carried A)) → H b ds → H c ds)
    → Brings H c d (λ ys. (n : ℕ) (before : List (Carried A)) → HoldsSaid eq theirs before n id old
    → IfOk r (λ o. MatchOption o (HoldsSaid eq theirs (before ++ ys) n id new) (IsToldByAll eq theirs (before ++ ys) n id)))
    → theirs ≡ peers → r ≡ Ok None → Brings H a d (λ zs. HoldsSaid eq peers zs members id new)
holds-last {W} {A} {E} H eq peers theirs members id old new a b c d r first keeps last same is =
    brings-last H a b c d (λ xs. HoldsSaid eq peers xs members id old)
    (λ ys. (n : ℕ) (before : List (Carried A)) → HoldsSaid eq theirs before n id old → IfOk r (λ o. MatchOption o (HoldsSaid eq theirs (before ++ ys) n id new) (IsToldByAll eq theirs (before ++ ys) n id)))
    (λ zs. HoldsSaid eq peers zs members id new) first keeps last
    (λ xs ys h q.
    subst (λ (ps : List A). HoldsSaid eq ps (xs ++ ys) members id new) same
    (subst (λ (x : Result (Option Told) E). IfOk x (λ o. MatchOption o (HoldsSaid eq theirs (xs ++ ys) members id new) (IsToldByAll eq theirs (xs ++ ys) members id))) is
    (q members xs (subst (λ (ps : List A). HoldsSaid eq ps xs members id old) (sym same) h))))
