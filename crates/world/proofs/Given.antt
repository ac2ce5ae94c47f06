-- What holds of a result that may hold nothing.
use Rattle.std.proofs.Common.{◌≡◌, false, refl, sym, ap, is_some, Result, Ok, Err, Option, Some, None, IfOk, IfSome, IsSome, OnErr, OnOk}
use Rattle.std.proofs.lemmas.Bool.{false≢true}

-- what follows for each follows for the one that there may be
pub if_some : {A E : Type 0} (r : Result (Option A) E) (P Q : A → Type 0) → ((x : A) → P x → Q x) → IfOk r (λ o. IfSome o P) → IfOk r (λ o. IfSome o Q)
if_some (Ok (Some x)) P Q f h = f x h
if_some (Ok None) P Q f h = tt
if_some (Err e) P Q f h = tt

-- what is there
pub some_there : {A : Type 0} (o : Option A) → IsSome o → (x : A) × (o ≡ Some x)
some_there (Some x) h = (x, refl)
some_there None h = absurd (false≢true h)

-- what follows where there is none
pub if_none : {A E : Type 0} (r : Result (Option A) E) (P Q : Type 0) → (P → Q) → IfOk r (λ o. o ≡ None → P) → IfOk r (λ o. o ≡ None → Q)
if_none (Ok o) P Q f h = λ q. f (h q)
if_none (Err e) P Q f h = tt

-- what holds holds for a refusal
pub on_err : {A E : Type 0} (r : Result A E) (P : Type 0) → P → OnErr r P
on_err (Ok x) P h = tt
on_err (Err e) P h = h

-- what follows for a refusal, and for what is given
pub err_so : {A E : Type 0} (r : Result A E) (P Q : Type 0) → (P → Q) → OnErr r P → OnErr r Q
err_so (Ok x) P Q f h = tt
err_so (Err e) P Q f h = f h

pub ok_so : {A E : Type 0} (r : Result A E) (P Q : Type 0) → (P → Q) → OnOk r P → OnOk r Q
ok_so (Ok x) P Q f h = f h
ok_so (Err e) P Q f h = tt

-- nothing is there
pub none_there : {A : Type 0} (o : Option A) → is_some o ≡ false → o ≡ None
none_there (Some x) h = absurd (false≢true (sym h))
none_there None h = refl

-- what holds of what is given
pub on_at_ok : {A E : Type 0} (r : Result A E) {x : A} {P : Type 0} → r ≡ Ok x → OnOk r P → P
on_at_ok r q h = rw q at h

-- one error is one whatever might have been given
pub same_error : {A B E : Type 0} (e f : E) → ◌≡◌ {A = Result A E} (Err e) (Err f) → ◌≡◌ {A = Result B E} (Err e) (Err f)
same_error {A} {B} {E} e f q = ap error q
  where
    error : Result A E → Result B E
    error (Ok x) = Err f
    error (Err x) = Err x
