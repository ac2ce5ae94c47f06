-- What the client sent since some moment, together with what the wire has brought.
use Rattle.std.proofs.Common.{◌≡◌, List, [], ◌++◌, sym, subst}
use Rattle.paxq_local.specs.Asking.{Gives, GivesNothing}
use Rattle.paxq_local.specs.Told.{Brings}
use Rattle.paxq_local.proofs.Brought.{brings-as, brings-kept, brings-none, brings-then, kept-brings}
use Rattle.paxq_local.proofs.Giving.{gives-after, gives-as, gives-then, nothing-none}
use Rattle.wires.specs.Wires.{Carried}

module _ {W A : Type 0} (H G : W → List (Carried A) → Type 0) where
  abbrev pub Both : (a b : W) → (List (Carried A) → List (Carried A) → Type 0) → Type 0
  Both a b P = Gives G a b (λ went. Brings H a b (λ brought. P brought went))

  -- nothing came, and nothing was sent
  pub both-still : (a b : W) (P : List (Carried A) → List (Carried A) → Type 0) → ((ds : List (Carried A)) → H a ds → H b ds) → GivesNothing G a b → P [] [] → Both a b P
  both-still a b P keeps nothing p =
      gives-as G a b (λ us. us ≡ []) (λ us. Brings H a b (λ xs. P xs us)) nothing
      (λ us none. subst (λ (vs : List (Carried A)). Brings H a b (λ xs. P xs vs)) (sym none) (brings-kept H a a b (λ xs. P xs []) (brings-none H a (λ xs. P xs []) p) keeps))

  pub both-none : (a : W) (P : List (Carried A) → List (Carried A) → Type 0) → P [] [] → Both a a P
  both-none a P p = both-still a a P (λ ds h. h) (nothing-none G a) p

  -- nothing first
  pub both-after : (a b c : W) (P : List (Carried A) → List (Carried A) → Type 0) → ((ds : List (Carried A)) → H a ds → H b ds) → GivesNothing G a b → Both b c P → Both a c P
  both-after a b c P keeps nothing then =
      gives-after G a b c (λ us. Brings H a c (λ xs. P xs us)) nothing
      (gives-as G b c (λ us. Brings H b c (λ xs. P xs us)) (λ us. Brings H a c (λ xs. P xs us)) then (λ us p. kept-brings H a b c (λ xs. P xs us) keeps p))

  pub both-of : (a b : W) (P Q : List (Carried A) → Type 0) → Brings H a b P → Gives G a b Q → Both a b (λ xs us. P xs × Q us)
  both-of a b P Q came sent = gives-as G a b Q (λ us. Brings H a b (λ xs. P xs × Q us)) sent (λ us q. brings-as H a b P (λ xs. P xs × Q us) came (λ xs p. (p, q)))

  pub both-as : (a b : W) (P Q : List (Carried A) → List (Carried A) → Type 0) → Both a b P → ((xs us : List (Carried A)) → P xs us → Q xs us) → Both a b Q
  both-as a b P Q first f =
      gives-as G a b (λ us. Brings H a b (λ xs. P xs us)) (λ us. Brings H a b (λ xs. Q xs us)) first (λ us p. brings-as H a b (λ xs. P xs us) (λ xs. Q xs us) p (λ xs q. f xs us q))

  pub both-then : (a b c : W) (P Q R : List (Carried A) → List (Carried A) → Type 0) → Both a b P → Both b c Q → ((xs ys us vs : List (Carried A)) → P xs us → Q ys vs → R (xs ++ ys) (us ++ vs)) → Both a c R
  both-then a b c P Q R first then both =
      gives-then G a b c (λ us. Brings H a b (λ xs. P xs us)) (λ vs. Brings H b c (λ ys. Q ys vs)) (λ ws. Brings H a c (λ zs. R zs ws)) first then
      (λ us vs p q. brings-then H a b c (λ xs. P xs us) (λ ys. Q ys vs) (λ zs. R zs (us ++ vs)) p q (λ xs ys. both xs ys us vs))
