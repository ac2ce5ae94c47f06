-- What a wire is given, by one call or by several.
use Rattle.std.proofs.Common.{◌≡◌, ◌≤◌, ℕ, zero, suc, true, false, arith, List, [], ◌∷◌, ◌++◌, refl, ap, sym, subst, ◌∙◌, append-nil, append_assoc}
use Rattle.std.specs.Prelude.{◌==◌, replicate, slice_get, IfOk, MatchOption, IsErr, Option, None, Some, Result, Ok, Err}
use Rattle.std.proofs.lemmas.List.Elements.{filter-append}
use Rattle.paxq_local.specs.Asking.{Gives, GivesNothing, IsGiven, IsSent, IsTried, from_client, most_tries}
use Rattle.paxq_local.specs.Sent.{datagram_at, sent_to}
use Rattle.wires.specs.Wires.{Carried}

-- one more behind so many
pub one_more : {A : Type 0} (n : ℕ) (d : A) → replicate n d ++ d ∷ [] ≡ replicate (suc n) d
one_more zero d = refl
one_more (suc n) d = ap (λ ds. d ∷ ds) (one_more n d)

module _ {W A : Type 0} (G : W → List (Carried A) → Type 0) where
  pub given-none : (w : W) → IsGiven G w w []
  given-none w ds h = subst (G w) (sym (append-nil ds)) h

  pub given-still : (v w : W) → ((ds : List (Carried A)) → G v ds → G w ds) → IsGiven G v w []
  given-still v w keeps ds h = subst (G w) (sym (append-nil ds)) (keeps ds h)

  -- it was given these, and then those
  pub given-both : (a b c : W) (xs ys : List (Carried A)) → IsGiven G a b xs → IsGiven G b c ys → IsGiven G a c (xs ++ ys)
  given-both a b c xs ys first then ds h = subst (G c) (append_assoc ds xs ys) (then (ds ++ xs) (first ds h))

  -- it was given so many, then one more, and then nothing
  pub given-again : (a b c e : W) (n m : ℕ) (d : Carried A) → m ≡ suc n → IsGiven G a b (replicate n d) → IsGiven G b c (d ∷ []) → ((ds : List (Carried A)) → G c ds → G e ds) → IsGiven G a e (replicate m d)
  given-again a b c e n m d is first then keeps ds h =
      keeps (ds ++ replicate m d) (subst (λ l. G c (ds ++ l)) (one_more n d ∙ ap (λ k. replicate k d) (sym is)) (subst (G c) (append_assoc ds (replicate n d) (d ∷ [])) (then (ds ++ replicate n d) (first ds h))))

module _ {W A T E : Type 0} (G : W → List (Carried A) → Type 0) (v w : W) (d : Carried A) (r : Result (Option T) E) where
  pub sent-answered : (s : T) → r ≡ Ok (Some s) → IsTried G v w d r → IsSent G v w d 0
  sent-answered s is t = (t.0, t.1, t.2, λ _. subst (λ x. IfOk x (λ o. MatchOption o (t.0 ≡ most_tries) (λ _. 1 ≤ t.0))) is t.3, λ e. absurd (omega (arith, e)))

  pub sent-unanswered : r ≡ Ok None → IsTried G v w d r → IsSent G v w d 3
  sent-unanswered is t = (t.0, t.1, t.2, λ e. absurd (omega (arith, e)), λ _. subst (λ x. IfOk x (λ o. MatchOption o (t.0 ≡ most_tries) (λ _. 1 ≤ t.0))) is t.3)

  pub sent-refused : (status : ℕ) → status ≡ 4 → IsTried G v w d r → IsSent G v w d status
  sent-refused status four t = (t.0, t.1, t.2, λ e. absurd (omega (arith, e, four)), λ e. absurd (omega (arith, e, four)))

-- of what failed this holds
pub if_err : {T E : Type 0} (P : T → Type 0) (r : Result T E) → IsErr r → IfOk r P
if_err P (Ok x) is = absurd (let e : false ≡ true = is in cc)
if_err P (Err e) is = tt

pub from-client-both : {A : Type 0} (xs ys : List (Carried A)) → from_client (xs ++ ys) ≡ from_client xs ++ from_client ys
from-client-both {A} xs ys = filter-append (λ (d : Carried A). d.end == 0) xs ys

-- What the client of a group sent.
module _ {W A : Type 0} (G : W → List (Carried A) → Type 0) where
  pub gives-none : (a : W) (P : List (Carried A) → Type 0) → P [] → Gives G a a P
  gives-none a P p = ([], given-none G a, p)

  pub gives-still : (a b : W) (P : List (Carried A) → Type 0) → ((ds : List (Carried A)) → G a ds → G b ds) → P [] → Gives G a b P
  gives-still a b P keeps p = ([], given-still G a b keeps, p)

  pub nothing-still : (a b : W) → ((ds : List (Carried A)) → G a ds → G b ds) → GivesNothing G a b
  nothing-still a b keeps = gives-still a b (λ xs. xs ≡ []) keeps refl

  -- what it sent first, and what it sent then
  pub gives-then : (a b c : W) (P Q R : List (Carried A) → Type 0) → Gives G a b P → Gives G b c Q → ((xs ys : List (Carried A)) → P xs → Q ys → R (xs ++ ys)) → Gives G a c R
  gives-then a b c P Q R first then both = (
    first.0 ++ then.0,
    given-both G a b c first.0 then.0 first.1 then.1,
    subst R (sym (from-client-both first.0 then.0)) (both (from_client first.0) (from_client then.0) first.2 then.2),
  )

  pub gives-as : (a b : W) (P Q : List (Carried A) → Type 0) → Gives G a b P → ((xs : List (Carried A)) → P xs → Q xs) → Gives G a b Q
  gives-as a b P Q first f = (first.0, first.1, f (from_client first.0) first.2)

  -- and then it sent nothing
  pub gives-on : (a b c : W) (P : List (Carried A) → Type 0) → Gives G a b P → GivesNothing G b c → Gives G a c P
  gives-on a b c P first nothing =
      gives-then a b c P (λ ys. ys ≡ []) P first nothing (λ xs ys p none. subst P (sym (ap (λ l. xs ++ l) none ∙ append-nil xs)) p)

  -- it sent nothing first
  pub gives-after : (a b c : W) (P : List (Carried A) → Type 0) → GivesNothing G a b → Gives G b c P → Gives G a c P
  gives-after a b c P nothing then = gives-then a b c (λ xs. xs ≡ []) P P nothing then (λ xs ys none p. subst P (sym (ap (λ l. l ++ ys) none)) p)

  pub nothing-none : (a : W) → GivesNothing G a a
  nothing-none a = gives-none a (λ xs. xs ≡ []) refl

  -- nothing, and nothing again
  pub nothing-on : (a b c : W) → GivesNothing G a b → GivesNothing G b c → GivesNothing G a c
  nothing-on a b c first then = gives-on a b c (λ xs. xs ≡ []) first then

  -- and then the wire was given nothing at all
  pub nothing-over : (a b c d : W) → GivesNothing G a b → GivesNothing G b c → ((ds : List (Carried A)) → G c ds → G d ds) → GivesNothing G a d
  nothing-over a b c d first then keeps = nothing-on a c d (nothing-on a b c first then) (nothing-still c d keeps)

  -- it sent to one member
  pub sends-one : (v w : W) (peers : List A) (bytes : List ℕ) (before : ℕ) (o : Option A) → slice_get peers before ≡ o → IsGiven G v w (datagram_at bytes o) → Gives G v w (λ went. went ≡ sent_to peers bytes (before ∷ []))
  sends-one v w peers bytes before None is given = ([], given, sym (ap (λ o. datagram_at bytes o ++ []) is))
  sends-one v w peers bytes before (Some peer) is given = (record { end = 0; peer = peer; bytes = bytes } ∷ [], given, sym (ap (λ o. datagram_at bytes o ++ []) is))
