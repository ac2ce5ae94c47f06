-- What holds of a result, from what holds of it.
use Rattle.std.specs.Prelude.{Result, Ok, Err, IfOk, OnOk, OnErr}

module _ {T E : Type 0} {P Q : Type 0} where
  pub if_ok : (r : Result T E) → OnOk r P → (P → Q) → IfOk r (λ x. Q)
  if_ok (Ok x) p f = f p
  if_ok (Err e) p f = tt

  pub on_ok : (r : Result T E) → OnOk r P → (P → Q) → OnOk r Q
  on_ok (Ok x) p f = f p
  on_ok (Err e) p f = tt

  pub on_err : (r : Result T E) → OnErr r P → (P → Q) → OnErr r Q
  on_err (Ok x) p f = tt
  on_err (Err e) p f = f p

pub any_err : {T E P : Type 0} (r : Result T E) → P → OnErr r P
any_err (Ok x) p = tt
any_err (Err e) p = p
