-- What is so of a result.
use Rattle.std.proofs.Common.{Result, Ok, Err, OnOk, OnErr, IfOk}

pub by-result : {A E : Type 0} (r : Result A E) (P Q Z : Type 0) → OnOk r P → OnErr r Q → (P → Z) → (Q → Z) → Z
by-result (Ok x) P Q Z h k f g = f h
by-result (Err e) P Q Z h k f g = g k

pub on-ok : {A E : Type 0} (r : Result A E) (P Z : Type 0) → OnOk r P → (P → Z) → OnOk r Z
on-ok (Ok x) P Z h f = f h
on-ok (Err e) P Z h f = tt

pub on-err : {A E : Type 0} (r : Result A E) (P Z : Type 0) → OnErr r P → (P → Z) → OnErr r Z
on-err (Ok x) P Z h f = tt
on-err (Err e) P Z h f = f h

pub if-ok : {A E : Type 0} (r : Result A E) (P : Type 0) (Q Z : A → Type 0) → OnOk r P → IfOk r Q → ((x : A) → P → Q x → Z x) → IfOk r Z
if-ok (Ok x) P Q Z h k f = f x h k
if-ok (Err e) P Q Z h k f = tt

pub both-err : {A E : Type 0} (r : Result A E) (P Q : Type 0) → OnErr r P → OnErr r Q → OnErr r (P × Q)
both-err (Ok x) P Q h k = tt
both-err (Err e) P Q h k = (h, k)
