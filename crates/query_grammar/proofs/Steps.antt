-- Readers against languages: what each way of making one does to what is said of it.
use Rattle.std.proofs.Common.{◌≡◌, ℕ, zero, suc, ◌<◌, ◌≤◌, Bool, true, false, cond, List, [], ◌∷◌, ◌++◌, length, Option, Some, None, option_map, refl, sym, ap, ◌∙◌, subst, inl, inr, ⊎_elim, append_assoc, append-nil, eq-eqb, ◌≢◌, arith}
use Rattle.std.proofs.lemmas.Bool.Decides.{nat_tests}
use denote.Enum.Bare.{same_true, true_same}
use Rattle.query_tokens.specs.contracts.kind.Kind.{the_type}
use Rattle.query_tokens.specs.declared.kind.Kind.{Kind}
use Rattle.query_tokens.specs.declared.token.Token.{Token}
use Rattle.query_grammar.specs.Lang.{Lang, pure as empty, ◌>>=◌ as ◌▹◌, ◌∪◌, Many, tok, such, stands}
use Rattle.query_grammar.specs.Loose.{looseness_of}
use Rattle.query_grammar.specs.Reading.{Reader, and_then, pure, refuse, ◌>>=◌ as ◌▸◌, choose, same_kind, at_level, take_if, eat, take_as, rounds, many}
use Rattle.query_grammar.proofs.Follows.{loose, loose_level, Leads}

pub some_one : {A : Type 0} {x y : A} → Some x ≡ Some y → x ≡ y
some_one h = cc

-- what the first reader gave, where both gave something
pub and_then_some : {A B : Type 0} (r : Option (A × List Token)) (f : A → Reader B) (y : B × List Token) → and_then r f ≡ Some y
    → (a : A) × (mid : List Token) × (r ≡ Some (a, mid)) × (f a mid ≡ Some y)
and_then_some None f y h = absurd (let e : ⊥ = cc in e)
and_then_some (Some p) f y h = (p.0, p.1, refl, h)

if_some : {A : Type 0} (b : Bool) (x y : A) → cond b (Some x) None ≡ Some y → (b ≡ true) × (x ≡ y)
if_some true x y h = (refl, some_one h)
if_some false x y h = absurd (let e : ⊥ = cc in e)

-- What the reader reads is spelt so.
pub record Sound {A : Type 0} (p : Reader A) (P : Lang A) : Type 0 where
  pub spells : (ts : List Token) (a : A) (rest : List Token) → p ts ≡ Some (a, rest) → P ts a rest

pub sound_pure : {A : Type 0} (a : A) → Sound (pure a) (empty a)
sound_pure a = record { spells = λ ts b rest e. let h = some_one e in (ap (λ p. p.0) h, ap (λ p. p.1) h) }

pub sound_refuse : {A : Type 0} (P : Lang A) → Sound refuse P
sound_refuse P = record { spells = λ ts b rest e. absurd (let h : ⊥ = cc in h) }

pub sound_bind : {A B : Type 0} {p : Reader A} {P : Lang A} {f : A → Reader B} {F : A → Lang B} → Sound p P → ((a : A) → Sound (f a) (F a)) → Sound (p ▸ f) (P ▹ F)
sound_bind {p = p} {f = f} s t = record {
  spells = λ ts b rest e.
      let h = and_then_some (p ts) f (b, rest) e in (h.0, h.1, s.spells ts h.0 h.1 h.2, (t h.0).spells h.1 b rest h.3);
}

such_some : (p : Kind → Bool) (ts : List Token) (t : Token) (rest : List Token) → take_if p ts ≡ Some (t, rest) → such p ts t rest
unfolding take_if
such_some p [] t rest h = absurd (let e : ⊥ = cc in e)
such_some p (x ∷ ts) t rest h =
    let w = if_some (p x.kind) (x, ts) (t, rest) h in
    let e : x ≡ t = ap (λ q. q.0) w.1 in
    let es : ts ≡ rest = ap (λ q. q.1) w.1 in
    (cc, ap (λ (y : Token). p y.kind) (sym e) ∙ w.0)

pub sound_such : (p : Kind → Bool) → Sound (take_if p) (such p)
sound_such p = record { spells = such_some p }

pub sound_eat : (kind : Kind) → Sound (eat kind) (tok kind)
sound_eat kind = record { spells = λ ts t rest e. let h = such_some (λ found. same_kind found kind) ts t rest e in (h.0, same_true the_type tt _ _ h.1) }

stands_by : {A : Type 0} (f : Kind → Option A) (t : Token) (ts : List Token) (a : A) (rest : List Token) (o : Option A) → f t.kind ≡ o
    → option_map {U = A × List Token} (λ x. (x, ts)) o ≡ Some (a, rest) → stands f (t ∷ ts) a rest
stands_by f t ts a rest None e h = absurd (let w : ⊥ = cc in w)
stands_by f t ts a rest (Some found) e h =
    let v : found ≡ a = ap (λ p. p.0) (some_one h) in
    let us : ts ≡ rest = ap (λ p. p.1) (some_one h) in
    (t, ap (λ r. t ∷ r) us, e ∙ ap Some v)

stands_some : {A : Type 0} (f : Kind → Option A) (ts : List Token) (a : A) (rest : List Token) → take_as f ts ≡ Some (a, rest) → stands f ts a rest
unfolding take_as
stands_some f [] a rest h = absurd (let e : ⊥ = cc in e)
stands_some f (t ∷ ts) a rest h = stands_by f t ts a rest (f t.kind) refl h

pub sound_stands : {A : Type 0} (f : Kind → Option A) → Sound (take_as f) (stands f)
sound_stands f = record { spells = stands_some f }

-- whatever the test says
pub sound_choose : {A : Type 0} {p q : Reader A} {P : Lang A} (test : List Token → Bool) → Sound p P → Sound q P → Sound (choose test p q) P
sound_choose {p = p} {q = q} {P = P} test s t = record { spells = λ ts a rest. go ts a rest (test ts) }
  where
    go : (ts : List Token) (a : _) (rest : List Token) (b : Bool) → cond b (p ts) (q ts) ≡ Some (a, rest) → P ts a rest
    go ts a rest true e = s.spells ts a rest e
    go ts a rest false e = t.spells ts a rest e

pub sound_left : {A : Type 0} {p : Reader A} {P Q : Lang A} → Sound p P → Sound p (P ∪ Q)
sound_left s = record { spells = λ ts a rest e. inl (s.spells ts a rest e) }

pub sound_right : {A : Type 0} {p : Reader A} {P Q : Lang A} → Sound p Q → Sound p (P ∪ Q)
sound_right s = record { spells = λ ts a rest e. inr (s.spells ts a rest e) }

module _ {A : Type 0} (goes_on : List Token → Bool) {item : Reader A} {P : Lang A} (s : Sound item P) where
  turn_spells : (xs : List A) (ts : List Token) (ys : List A) (rest : List Token) (next : List A → Reader (List A))
      → ((x : A) (mid : List Token) → next (xs ++ x ∷ []) mid ≡ Some (ys, rest) → (Many P ▹ (λ more. empty ((xs ++ x ∷ []) ++ more))) mid ys rest)
      → (b : Bool) → cond b (and_then (item ts) (λ x. next (xs ++ x ∷ []))) (Some (xs, ts)) ≡ Some (ys, rest) → (Many P ▹ (λ more. empty (xs ++ more))) ts ys rest
  turn_spells xs ts ys rest next ih true e =
      let h = and_then_some (item ts) (λ x. next (xs ++ x ∷ [])) (ys, rest) e in
      let more = ih h.0 h.1 h.3 in
      (h.0 ∷ more.0, more.1, (h.1, s.spells ts h.0 h.1 h.2, more.2), (sym (append_assoc xs (h.0 ∷ []) more.0) ∙ more.3.0, more.3.1))
  turn_spells xs ts ys rest next ih false e = let h = some_one e in ([], ts, refl, (append-nil xs ∙ ap (λ p. p.0) h, ap (λ p. p.1) h))

  rounds_spells : (n : ℕ) (xs : List A) (ts : List Token) (ys : List A) (rest : List Token) → rounds goes_on item n xs ts ≡ Some (ys, rest) → (Many P ▹ (λ more. empty (xs ++ more))) ts ys rest
  unfolding rounds
  rounds_spells zero xs ts ys rest e = let h = some_one e in ([], ts, refl, (append-nil xs ∙ ap (λ p. p.0) h, ap (λ p. p.1) h))
  rounds_spells (suc n) xs ts ys rest e = turn_spells xs ts ys rest (rounds goes_on item n) (λ x mid. rounds_spells n (xs ++ x ∷ []) mid ys rest) (goes_on ts) e

  pub sound_many : Sound (many goes_on item) (Many P)
  sound_many = record {
    spells = λ ts ys rest e.
        let h = rounds_spells (length ts) [] ts ys rest e in
        subst (λ x. Many P ts x rest) h.3.0 (subst (Many P ts h.0) h.3.1 h.2);
  }

-- Fewer tokens are left.
pub record Shrinks {A : Type 0} (P : Lang A) : Type 0 where
  pub shorter : (ts : List Token) (a : A) (rest : List Token) → P ts a rest → length rest < length ts

-- No more tokens are left.
pub record Keeps {A : Type 0} (P : Lang A) : Type 0 where
  pub no_longer : (ts : List Token) (a : A) (rest : List Token) → P ts a rest → length rest ≤ length ts

pub keeps : {A : Type 0} {P : Lang A} → Shrinks P → Keeps P
keeps s = record { no_longer = λ ts a rest h. omega (arith, s.shorter ts a rest h) }

pub keeps_pure : {A : Type 0} (a : A) → Keeps (empty a)
keeps_pure a = record { no_longer = λ ts b rest h. omega (arith, ap length h.1) }

pub shrinks_such : (p : Kind → Bool) → Shrinks (such p)
shrinks_such p = record { shorter = λ ts t rest h. omega (arith, ap length h.0) }

pub shrinks_tok : (kind : Kind) → Shrinks (tok kind)
shrinks_tok kind = record { shorter = λ ts t rest h. omega (arith, ap length h.0) }

pub shrinks_stands : {A : Type 0} (f : Kind → Option A) → Shrinks (stands f)
shrinks_stands f = record { shorter = λ ts a rest h. omega (arith, ap length h.1) }

pub shrinks_bind : {A B : Type 0} {P : Lang A} {F : A → Lang B} → Shrinks P → ((a : A) → Keeps (F a)) → Shrinks (P ▹ F)
shrinks_bind s t = record { shorter = λ ts b rest h. omega (arith, s.shorter ts h.0 h.1 h.2, (t h.0).no_longer h.1 b rest h.3) }

pub keeps_bind : {A B : Type 0} {P : Lang A} {F : A → Lang B} → Keeps P → ((a : A) → Keeps (F a)) → Keeps (P ▹ F)
keeps_bind s t = record { no_longer = λ ts b rest h. omega (arith, s.no_longer ts h.0 h.1 h.2, (t h.0).no_longer h.1 b rest h.3) }

-- where only what follows is sure to take a token
pub late_bind : {A B : Type 0} {P : Lang A} {F : A → Lang B} → Keeps P → ((a : A) → Shrinks (F a)) → Shrinks (P ▹ F)
late_bind s t = record { shorter = λ ts b rest h. omega (arith, s.no_longer ts h.0 h.1 h.2, (t h.0).shorter h.1 b rest h.3) }

pub shrinks_either : {A : Type 0} {P Q : Lang A} → Shrinks P → Shrinks Q → Shrinks (P ∪ Q)
shrinks_either s t = record { shorter = λ ts a rest h. ⊎_elim (s.shorter ts a rest) (t.shorter ts a rest) h }

pub keeps_either : {A : Type 0} {P Q : Lang A} → Keeps P → Keeps Q → Keeps (P ∪ Q)
keeps_either s t = record { no_longer = λ ts a rest h. ⊎_elim (s.no_longer ts a rest) (t.no_longer ts a rest) h }

many_keeps : {A : Type 0} {P : Lang A} → Keeps P → (ts : List Token) (xs : List A) (rest : List Token) → Many P ts xs rest → length rest ≤ length ts
many_keeps s ts [] rest h = omega (arith, ap length h)
many_keeps s ts (x ∷ xs) rest h = omega (arith, s.no_longer ts x h.0 h.1, many_keeps s h.0 xs rest h.2)

pub keeps_many : {A : Type 0} {P : Lang A} → Keeps P → Keeps (Many P)
keeps_many s = record { no_longer = many_keeps s }

-- What is spelt so is read, from at most `m` tokens, where what follows is looser than `k`.
pub record Complete {A : Type 0} (m k : ℕ) (p : Reader A) (P : Lang A) : Type 0 where
  pub reads : (ts : List Token) (a : A) (rest : List Token) → length ts ≤ m → P ts a rest → k < loose rest → p ts ≡ Some (a, rest)

pub complete_looser : {A : Type 0} {m j k : ℕ} {p : Reader A} {P : Lang A} → j ≤ k → Complete m j p P → Complete m k p P
complete_looser below s = record { reads = λ ts a rest le h past. s.reads ts a rest le h (omega (arith, below, past)) }

pub complete_pure : {A : Type 0} (m k : ℕ) (a : A) → Complete m k (pure a) (empty a)
complete_pure m k a = record { reads = λ ts b rest _ h _. ap (λ x. Some (x, ts)) h.0 ∙ ap (λ x. Some (b, x)) h.1 }

pub complete_bind : {A B : Type 0} {m j k : ℕ} {p : Reader A} {P : Lang A} {f : A → Reader B} {F : A → Lang B}
    → Complete m j p P → Keeps P → ((a : A) → Complete m k (f a) (F a)) → ((a : A) → Leads j k (F a)) → Complete m k (p ▸ f) (P ▹ F)
complete_bind {f = f} s l t follows = record {
  reads = λ ts b rest le h past.
      ap (λ r. and_then r f) (s.reads ts h.0 h.1 le h.2 ((follows h.0).leads h.1 b rest h.3 past))
      ∙ (t h.0).reads h.1 b rest (omega (arith, l.no_longer ts h.0 h.1 h.2)) h.3 past;
}

pub complete_made : {A B : Type 0} {m k : ℕ} {p : Reader A} {P : Lang A} (f : A → B) → Complete m k p P → Complete m k (p ▸ (λ x. pure (f x))) (P ▹ (λ x. empty (f x)))
complete_made {m = m} {k = k} f s = record {
  reads = λ ts b rest le h past.
      ap (λ r. and_then r (λ x. pure (f x))) (s.reads ts h.0 h.1 le h.2 (let e = ap loose h.3.1 in omega (arith, e)))
      ∙ ap (λ x. Some (x, h.1)) h.3.0 ∙ ap (λ x. Some (b, x)) h.3.1;
}

pub such_reads : (p : Kind → Bool) (ts : List Token) (t : Token) (rest : List Token) → such p ts t rest → take_if p ts ≡ Some (t, rest)
unfolding take_if
such_reads p ts t rest h = ap (take_if p) h.0 ∙ ap (λ b. cond b (Some (t, rest)) None) h.1

pub tok_reads : (kind : Kind) (ts : List Token) (t : Token) (rest : List Token) → tok kind ts t rest → eat kind ts ≡ Some (t, rest)
tok_reads kind ts t rest h = such_reads (λ found. same_kind found kind) ts t rest (h.0, true_same the_type _ _ h.1)

pub stands_reads : {A : Type 0} (f : Kind → Option A) (ts : List Token) (a : A) (rest : List Token) → stands f ts a rest → take_as f ts ≡ Some (a, rest)
unfolding take_as
stands_reads f ts a rest h = ap (take_as f) h.1 ∙ ap (option_map (λ x. (x, rest))) h.2

pub complete_eat : (m k : ℕ) (kind : Kind) → Complete m k (eat kind) (tok kind)
complete_eat m k kind = record { reads = λ ts t rest _ h _. tok_reads kind ts t rest h }

-- what takes a token whatever follows, and then one less to read
pub complete_after : {A B : Type 0} {m k : ℕ} {p : Reader A} {P : Lang A} {f : A → Reader B} {F : A → Lang B}
    → ((ts : List Token) (a : A) (rest : List Token) → P ts a rest → p ts ≡ Some (a, rest)) → Shrinks P → ((a : A) → Complete m k (f a) (F a)) → Complete (suc m) k (p ▸ f) (P ▹ F)
complete_after {f = f} reads l t = record {
  reads = λ ts b rest le h past.
      ap (λ r. and_then r f) (reads ts h.0 h.1 h.2) ∙ (t h.0).reads h.1 b rest (omega (arith, le, l.shorter ts h.0 h.1 h.2)) h.3 past;
}

-- the same where nothing is counted
pub complete_then : {A B : Type 0} {m k : ℕ} {p : Reader A} {P : Lang A} {f : A → Reader B} {F : A → Lang B}
    → ((ts : List Token) (a : A) (rest : List Token) → P ts a rest → p ts ≡ Some (a, rest)) → Shrinks P → ((a : A) → Complete m k (f a) (F a)) → Complete m k (p ▸ f) (P ▹ F)
complete_then {f = f} reads l t = record {
  reads = λ ts b rest le h past.
      ap (λ r. and_then r f) (reads ts h.0 h.1 h.2) ∙ (t h.0).reads h.1 b rest (omega (arith, le, l.shorter ts h.0 h.1 h.2)) h.3 past;
}

-- the same for what is read whatever follows, from so many tokens
pub complete_next : {A B : Type 0} {m k : ℕ} {p : Reader A} {P : Lang A} {f : A → Reader B} {F : A → Lang B}
    → ((ts : List Token) (a : A) (rest : List Token) → length ts ≤ m → P ts a rest → p ts ≡ Some (a, rest)) → Keeps P → ((a : A) → Complete m k (f a) (F a)) → Complete m k (p ▸ f) (P ▹ F)
complete_next {f = f} reads l t = record {
  reads = λ ts b rest le h past.
      ap (λ r. and_then r f) (reads ts h.0 h.1 le h.2) ∙ (t h.0).reads h.1 b rest (omega (arith, le, l.no_longer ts h.0 h.1 h.2)) h.3 past;
}

pub first_tok : {B : Type 0} {m k : ℕ} (kind : Kind) {p : Reader B} {P : Lang B} → Complete m k p P → Complete (suc m) k (eat kind ▸ (λ _. p)) (tok kind ▹ (λ _. P))
first_tok kind s = complete_after (tok_reads kind) (shrinks_tok kind) (λ _. s)

pub then_tok : {B : Type 0} {m k : ℕ} (kind : Kind) {p : Reader B} {P : Lang B} → Complete m k p P → Complete m k (eat kind ▸ (λ _. p)) (tok kind ▹ (λ _. P))
then_tok kind s = complete_then (tok_reads kind) (shrinks_tok kind) (λ _. s)

-- the choice that a test makes
pub taken : {A : Type 0} {b : Bool} {z : A} (x y : A) → b ≡ true → x ≡ z → cond b x y ≡ z
taken x y h e = ap (λ c. cond c x y) h ∙ e

pub passed : {A : Type 0} {b : Bool} {z : A} (x y : A) → b ≡ false → y ≡ z → cond b x y ≡ z
passed x y h e = ap (λ c. cond c x y) h ∙ e

-- where a test sees which
pub complete_choose : {A : Type 0} {m k : ℕ} {p q : Reader A} {P Q : Lang A} (test : List Token → Bool)
    → ((ts : List Token) (a : A) (rest : List Token) → P ts a rest → k < loose rest → test ts ≡ true) → Complete m k p P
    → ((ts : List Token) (a : A) (rest : List Token) → Q ts a rest → k < loose rest → test ts ≡ false) → Complete m k q Q
    → Complete m k (choose test p q) (P ∪ Q)
complete_choose {p = p} {q = q} test passes s fails t = record {
  reads = λ ts a rest le h past. ⊎_elim
      (λ x. ap (λ b. cond b (p ts) (q ts)) (passes ts a rest x past) ∙ s.reads ts a rest le x past)
      (λ x. ap (λ b. cond b (p ts) (q ts)) (fails ts a rest x past) ∙ t.reads ts a rest le x past) h;
}

-- the alternatives the other way round
pub complete_swap : {A : Type 0} {m k : ℕ} {p : Reader A} {P Q : Lang A} → Complete m k p (P ∪ Q) → Complete m k p (Q ∪ P)
complete_swap s = record { reads = λ ts a rest le h past. s.reads ts a rest le (⊎_elim (λ x. inr x) (λ x. inl x) h) past }

module _ {A : Type 0} (m : ℕ) (Past Near : List Token → Type 0) (goes_on : List Token → Bool) (item : Reader A) (P : Lang A)
    (s : (ts : List Token) (x : A) (rest : List Token) → length ts ≤ m → P ts x rest → Near rest → item ts ≡ Some (x, rest)) (l : Shrinks P)
    (begins : (ts : List Token) (x : A) (rest : List Token) → P ts x rest → (goes_on ts ≡ true) × Near ts)
    (ends : (ts : List Token) → Past ts → (goes_on ts ≡ false) × Near ts) where
  many_near : (ts : List Token) (xs : List A) (rest : List Token) → Many P ts xs rest → Past rest → Near ts
  many_near ts [] rest h past = subst Near (sym h) (ends rest past).1
  many_near ts (x ∷ xs) rest h past = (begins ts x h.0 h.1).1

  pub rounds_reads : (n : ℕ) (acc : List A) (ts : List Token) (xs : List A) (rest : List Token) → length ts ≤ n → length ts ≤ m → Many P ts xs rest → Past rest
      → rounds goes_on item n acc ts ≡ Some (acc ++ xs, rest)
  unfolding rounds
  rounds_reads zero acc ts [] rest le lm h past = ap (λ r. Some (acc, r)) h ∙ ap (λ x. Some (x, rest)) (sym (append-nil acc))
  rounds_reads zero acc ts (x ∷ xs) rest le lm h past = absurd (omega (arith, l.shorter ts x h.0 h.1))
  rounds_reads (suc n) acc ts [] rest le lm h past =
      ap (λ b. cond b (and_then (item ts) (λ x. rounds goes_on item n (acc ++ x ∷ []))) (Some (acc, ts))) (ap goes_on h ∙ (ends rest past).0)
      ∙ ap (λ r. Some (acc, r)) h ∙ ap (λ x. Some (x, rest)) (sym (append-nil acc))
  rounds_reads (suc n) acc ts (x ∷ xs) rest le lm h past =
      ap (λ b. cond b (and_then (item ts) (λ x. rounds goes_on item n (acc ++ x ∷ []))) (Some (acc, ts))) (begins ts x h.0 h.1).0
      ∙ ap (λ r. and_then r (λ x. rounds goes_on item n (acc ++ x ∷ []))) (s ts x h.0 lm h.1 (many_near h.0 xs rest h.2 past))
      ∙ rounds_reads n (acc ++ x ∷ []) h.0 xs rest (omega (arith, l.shorter ts x h.0 h.1)) (omega (arith, l.shorter ts x h.0 h.1)) h.2 past
      ∙ ap (λ y. Some (y, rest)) (append_assoc acc (x ∷ []) xs)

-- a loop at a level
pub complete_many : {A : Type 0} {m n j : ℕ} {item : Reader A} {P : Lang A} → j < n → Complete m j item P → Shrinks P
    → ((ts : List Token) (x : A) (rest : List Token) → P ts x rest → loose ts ≡ n) → Complete m n (many (at_level n) item) (Many P)
unfolding at_level
complete_many {m = m} {n = n} {j = j} {item = item} {P = P} below s l begins = record {
  reads = λ ts xs rest le h past.
      rounds_reads m (λ us. n < loose us) (λ us. j < loose us) (at_level n) item P s.reads l
      (λ us x r q. (let e = begins us x r q in let f = loose_level us (omega (arith, e)) in eq-eqb (looseness_of us) n (sym f ∙ e), let e = begins us x r q in omega (arith, e)))
      (λ us p. (let f = loose_level us (omega (arith, p)) in let ne : looseness_of us ≢ n = omega (arith, f) in grind (arith, nat_tests), omega (arith, p)))
      (length ts) [] ts xs rest (omega arith) le h past;
}
