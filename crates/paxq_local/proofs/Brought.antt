-- What a wire has brought since some moment.
use Rattle.std.proofs.Common.{◌≡◌, ◌∙◌, ℕ, List, [], ◌∷◌, ◌++◌, take, refl, sym, ap, subst, append-nil, append_assoc, inl, Result, Ok, Some, IfOk, IfSome}
use Rattle.paxos.specs.Lists.{Has}
use Rattle.paxos.proofs.Lists.{has_left, has_right}
use Rattle.ballots.specs.declared.request.RequestId.{RequestId}
use Rattle.clients.specs.Hearing.{HeardTerm}
use Rattle.std.proofs.Common.{Option}
use Rattle.paxq_local.specs.Told.{Brings, HasCome, HasComeFrom, IsSaid}
use Rattle.wires.specs.Wires.{Carried, carried_in}
use Rattle.wires.specs.declared.wire.Arrival.{Arrival}
use Rattle.wires.specs.declared.wire.Unheard.{Unheard}

module _ {W A : Type 0} (H : W → List (Carried A) → Type 0) where
  -- nothing has come
  pub brings-none : (a : W) (P : List (Carried A) → Type 0) → P [] → Brings H a a P
  brings-none a P p = λ before h. ([], subst (H a) (sym (append-nil before)) h, p)

  -- what came first, and what came then
  pub brings-then : (a b c : W) (P Q R : List (Carried A) → Type 0) → Brings H a b P → Brings H b c Q → ((xs ys : List (Carried A)) → P xs → Q ys → R (xs ++ ys)) → Brings H a c R
  brings-then a b c P Q R first second both = λ before h.
      (let f = first before h in
      let s = second (before ++ f.0) f.1 in
      (f.0 ++ s.0, subst (H c) (append_assoc before f.0 s.0) s.1, both f.0 s.0 f.2 s.2))

  pub brings-as : (a b : W) (P Q : List (Carried A) → Type 0) → Brings H a b P → ((xs : List (Carried A)) → P xs → Q xs) → Brings H a b Q
  brings-as a b P Q first f = λ before h. (let x = first before h in (x.0, x.1, f x.0 x.2))

  -- nothing comes with a step that keeps what was brought
  pub brings-kept : (a b c : W) (P : List (Carried A) → Type 0) → Brings H a b P → ((ds : List (Carried A)) → H b ds → H c ds) → Brings H a c P
  brings-kept a b c P first keeps = λ before h. (let f = first before h in (f.0, keeps (before ++ f.0) f.1, f.2))

  -- something came, and then nothing
  pub brings-on : (a b c d : W) (P : List (Carried A) → Type 0) → Brings H a b (λ _. Unit {0}) → Brings H b c P → ((ds : List (Carried A)) → H c ds → H d ds) → Brings H a d (λ _. Unit {0})
  brings-on a b c d P first then keeps = brings-kept a c d (λ _. Unit {0}) (brings-then a b c (λ _. Unit {0}) P (λ _. Unit {0}) first then (λ xs ys u p. tt)) keeps

  -- these came, and then nothing
  pub brings-received : (a b c d : W) (xs : List (Carried A)) → Brings H a b (λ _. Unit {0}) → ((ds : List (Carried A)) → H b ds → H c (ds ++ xs)) → ((ds : List (Carried A)) → H c ds → H d ds) → Brings H a d (λ _. Unit {0})
  brings-received a b c d xs first then keeps = λ before h.
      (let f = first before h in (f.0 ++ xs, keeps (before ++ (f.0 ++ xs)) (subst (H c) (append_assoc before f.0 xs) (then (before ++ f.0) f.1)), tt))

  pub kept-brings : (a b c : W) (P : List (Carried A) → Type 0) → ((ds : List (Carried A)) → H a ds → H b ds) → Brings H b c P → Brings H a c P
  kept-brings a b c P keeps then = λ before h. then before (keeps before h)

unfoldable pub said-more : {A X : Type 0} (xs ys : List (Carried A)) (said : Option HeardTerm → Option X) (group : ℕ) (id : RequestId) (x : X) → IsSaid xs said group id x → IsSaid (xs ++ ys) said group id x
said-more xs ys said group id x s = record { datagram = s.datagram; came = has_left xs ys s.datagram s.came; to_client = s.to_client; says = s.says }

unfoldable pub said-after : {A X : Type 0} (xs ys : List (Carried A)) (said : Option HeardTerm → Option X) (group : ℕ) (id : RequestId) (x : X) → IsSaid ys said group id x → IsSaid (xs ++ ys) said group id x
said-after xs ys said group id x s = record { datagram = s.datagram; came = has_right xs ys s.datagram s.came; to_client = s.to_client; says = s.says }

-- a datagram to the client came last
module _ {W A : Type 0} (H : W → List (Carried A) → Type 0) (a b c : W) (result : Result (Option (Arrival A)) Unheard) (x : Option (Arrival A)) (buffer : List ℕ) (arrival : Arrival A) where
  pub came-from : Brings H a b (λ _. Unit {0}) → ((ds : List (Carried A)) → H b ds → H c (ds ++ carried_in result buffer)) → result ≡ Ok x → x ≡ Some arrival → arrival.end ≡ 0
      → Brings H a c (λ brought. HasComeFrom brought arrival.from (take arrival.length buffer))
  came-from first received is_ok is_some to_client =
      let d : Carried A = record { end = arrival.end; peer = arrival.from; bytes = take arrival.length buffer } in
      let came : carried_in result buffer ≡ d ∷ [] = ap (λ r. carried_in r buffer) (is_ok ∙ ap Ok is_some) in
      let one : Brings H b c (λ xs. xs ≡ d ∷ []) = λ before h. (d ∷ [], subst (λ (ys : List (Carried A)). H c (before ++ ys)) came (received before h), refl) in
      brings-then H a b c (λ _. Unit {0}) (λ xs. xs ≡ d ∷ []) (λ brought. HasComeFrom brought arrival.from (take arrival.length buffer)) first one
      (λ xs ys _ is.
      subst (λ (n : ℕ). Has (xs ++ ys) (record { end = n; peer = arrival.from; bytes = take arrival.length buffer })) to_client
      (has_right xs ys d (subst (λ (zs : List (Carried A)). Has zs d) (sym is) (inl refl))))

  pub came-to-client : Brings H a b (λ _. Unit {0}) → ((ds : List (Carried A)) → H b ds → H c (ds ++ carried_in result buffer)) → result ≡ Ok x → x ≡ Some arrival → arrival.end ≡ 0
      → Brings H a c (λ brought. HasCome brought (take arrival.length buffer))
  came-to-client first received is_ok is_some to_client =
      brings-as H a c (λ brought. HasComeFrom brought arrival.from (take arrival.length buffer)) (λ brought. HasCome brought (take arrival.length buffer)) (came-from first received is_ok is_some to_client)
      (λ xs has. (record { end = 0; peer = arrival.from; bytes = take arrival.length buffer }, has, refl, refl))

-- what came before, a step at which nothing comes, and what came last
module _ {W A : Type 0} (H : W → List (Carried A) → Type 0) (a b c d : W) where
  pub brings-last : (P Q R : List (Carried A) → Type 0) → Brings H a b P → ((ds : List (Carried A)) → H b ds → H c ds) → Brings H c d Q → ((xs ys : List (Carried A)) → P xs → Q ys → R (xs ++ ys)) → Brings H a d R
  brings-last P Q R first keeps last both = brings-then H a b d P Q R first (λ before h. last before (keeps before h)) both

  -- the answer came last
  pub brings-answer : {T E : Type 0} (r : Result (Option T) E) (t : T) (P : List (Carried A) → T → Type 0) → Brings H a b (λ _. Unit {0}) → ((ds : List (Carried A)) → H b ds → H c ds)
      → Brings H c d (λ xs. IfOk r (λ o. IfSome o (P xs))) → r ≡ Ok (Some t) → ((xs ys : List (Carried A)) → P ys t → P (xs ++ ys) t) → Brings H a d (λ xs. P xs t)
  brings-answer {T} {E} r t P first keeps last is more =
      brings-last (λ _. Unit {0}) (λ xs. IfOk r (λ o. IfSome o (P xs))) (λ xs. P xs t) first keeps last
      (λ xs ys _ q. more xs ys (subst (λ (x : Result (Option T) E). IfOk x (λ o. IfSome o (P ys))) is q))
