-- What the upsert of a vote makes of the rows.
use Rattle.std.proofs.Common.{◌≡◌, ◌≢◌, ◌⊎◌, inl, inr, ℕ, ◌+◌, ◌≤◌, ◌<◌, pos, List, [], ◌∷◌, map, not, Bool, true, false, cond, nat_lt, ◌==◌, refl, sym, ap, subst, ◌∙◌, arith, Some}
use Rattle.std.proofs.lemmas.Bool.{cases_Bool}
use Rattle.std.proofs.lemmas.Bool.Decides.{nat_tests}
use Rattle.std.specs.Ordering.{is_eq}
use Rattle.sqlite_value.proofs.OrderLemmas.{value_cmp-Int}
use Rattle.sqlite_value.specs.Order.{value_cmp}
use Rattle.sqlite_trees.specs.Tree.{put_row, without_rowid}
use Rattle.sqlite_rules.specs.Lists.{Has}
use Rattle.sqlite.specs.declared.types.Value.TheVariants.{Int}
use Rattle.sqlite_sql.specs.Ops.{is_true, from_truth, binary}
use Rattle.sqlite_sql.specs.declared.ops.BinaryOp.TheVariants.{Compare}
use Rattle.sqlite_sql.specs.declared.ops.CompareOp.TheVariants.{Eq}
use Rattle.sqlite.specs.Collation.TheVariants.{Binary}
use Rattle.ballots.specs.declared.value.Vote.{Vote}
use Rattle.ballots.specs.declared.value.Entry.{Entry}
use Rattle.paxos.specs.Records.{with_vote}
use Rattle.records.specs.Kept.{AreAbove}
use Rattle.record_writes.specs.Stored.{vote_row, times}

never_both : (a b : ℕ) → nat_lt a b ≡ true → nat_lt b a ≡ false
never_both a b h = grind (arith, nat_tests)

neither : (a b : ℕ) → nat_lt a b ≡ false → nat_lt b a ≡ false → a ≡ b
neither a b h k = grind (arith, nat_tests)

below : (a b : ℕ) → nat_lt a b ≡ true → a < b
below a b h = grind (arith, nat_tests)

apart : (a b : ℕ) → nat_lt b a ≡ true → (a == b) ≡ false
apart a b h = grind (arith, nat_tests)

pub equal : (a b : ℕ) → a ≡ b → (a == b) ≡ true
equal a b h = grind (arith, nat_tests)

pub same_number : (a b : ℕ) → (a == b) ≡ true → a ≡ b
same_number a b h = grind (arith, nat_tests)

pub other_number : (a b : ℕ) → (a == b) ≡ false → a ≢ b
other_number a b h = grind (arith, nat_tests)

pub unequal_number : (a b : ℕ) → a ≢ b → (a == b) ≡ false
unequal_number a b h = grind (arith, nat_tests)

unequal : (a b : ℕ) → nat_lt a b ≡ true → (a == b) ≡ false
unequal a b h = grind (arith, nat_tests)

-- SQL's comparison of two numbers, and that of rowids
pub id_test : (a b : ℕ) → is_eq (value_cmp (Int (pos a)) (Int (pos b))) ≡ (a == b)
id_test a b =
    rw (value_cmp-Int (pos a) (pos b)) (elim (cases_Bool (nat_lt a b)) [
      | inl less ↦ let no = unequal a b less in rw (less, no) refl
      | inr not_less ↦ elim (cases_Bool (nat_lt b a)) [
        | inl more ↦ let no = apart a b more in rw (not_less, more, no) refl
        | inr not_more ↦ let yes = equal a b (neither a b not_less not_more) in rw (not_less, not_more, yes) refl
      ]
    ])

truth_of : (b : Bool) → is_true (from_truth (Some b)) ≡ b
truth_of true = refl
truth_of false = refl

pub sql_test : (a b : ℕ) → is_true (binary (Compare Eq Binary) (Int (pos a)) (Int (pos b))) ≡ (a == b)
unfolding binary
sql_test a b = truth_of _ ∙ id_test a b

abbrev pub entry : ℕ → Vote → Entry
entry p v = record { position = p; vote = v }

-- the votes at other positions
abbrev pub without : ℕ → List Entry → List Entry
without p [] = []
without p (e ∷ es) = cond (e.position == p) (without p es) (e ∷ without p es)

-- a row of a vote goes where the list puts its vote
pub puts : (p : ℕ) (v : Vote) (es : List Entry) → put_row (vote_row (entry p v)) (map vote_row es) ≡ map vote_row (with_vote p v es)
puts p v [] = refl
puts p v (e ∷ es) =
    rw (value_cmp-Int (pos e.position) (pos p)) (elim (cases_Bool (nat_lt p e.position)) [
      | inl less ↦ let not_more = never_both p e.position less in rw (less, not_more) refl
      | inr not_less ↦ elim (cases_Bool (nat_lt e.position p)) [
        | inl more ↦ let differ = apart p e.position more in rw (not_less, more, differ) (ap (λ rs. vote_row e ∷ rs) (puts p v es))
        | inr not_more ↦ let same = neither p e.position not_less not_more in let is = equal p e.position same in rw (not_less, not_more, is) refl
      ]
    ])

-- the rows with another rowid
pub leaves : (p : ℕ) (es : List Entry) → without_rowid (pos p) (map vote_row es) ≡ map vote_row (without p es)
leaves p [] = refl
leaves p (e ∷ es) = rw (id_test e.position p) (by (leaves p es) (e.position == p))
  where
    by : without_rowid (pos p) (map vote_row es) ≡ map vote_row (without p es) → (b : Bool) → cond (not b) (vote_row e ∷ without_rowid (pos p) (map vote_row es)) (without_rowid (pos p) (map vote_row es)) ≡ map vote_row (cond b (without p es) (e ∷ without p es))
    by rest true = rest
    by rest false = ap (λ rs. vote_row e ∷ rs) rest

-- ---- what stands in a list that a vote is put into

pub has_new : (p : ℕ) (v : Vote) (es : List Entry) → Has (with_vote p v es) (entry p v)
has_new p v [] = inl refl
has_new p v (e ∷ es) = by (has_new p v es) (nat_lt p e.position) (p == e.position)
  where
    by : Has (with_vote p v es) (entry p v) → (a b : Bool) → Has (cond a (entry p v ∷ e ∷ es) (cond b (entry p v ∷ es) (e ∷ with_vote p v es))) (entry p v)
    by rest true b = inl refl
    by rest false true = inl refl
    by rest false false = inr rest

pub has_kept : (p : ℕ) (v : Vote) (es : List Entry) (x : Entry) → Has es x → x.position ≢ p → Has (with_vote p v es) x
has_kept p v [] x h other = absurd h
has_kept p v (e ∷ es) x h other = by (λ k. has_kept p v es x k other) (nat_lt p e.position) (p == e.position) refl h
  where
    by : (Has es x → Has (with_vote p v es) x) → (a b : Bool) → (p == e.position) ≡ b → Has (e ∷ es) x → Has (cond a (entry p v ∷ e ∷ es) (cond b (entry p v ∷ es) (e ∷ with_vote p v es))) x
    by rest true b eq k = inr k
    by rest false true eq (inl is) = absurd (other (ap (λ (y : Entry). y.position) is ∙ sym (same_number p e.position eq)))
    by rest false true eq (inr k) = inr k
    by rest false false eq (inl is) = inl is
    by rest false false eq (inr k) = inr (rest k)

pub has_from : (p : ℕ) (v : Vote) (es : List Entry) (x : Entry) → Has (with_vote p v es) x → (x ≡ entry p v) ⊎ Has es x
has_from p v [] x (inl is) = inl is
has_from p v [] x (inr none) = absurd none
has_from p v (e ∷ es) x h = by (has_from p v es x) (nat_lt p e.position) (p == e.position) h
  where
    by : (Has (with_vote p v es) x → (x ≡ entry p v) ⊎ Has es x) → (a b : Bool) → Has (cond a (entry p v ∷ e ∷ es) (cond b (entry p v ∷ es) (e ∷ with_vote p v es))) x → (x ≡ entry p v) ⊎ Has (e ∷ es) x
    by rest true b (inl is) = inl is
    by rest true b (inr k) = inr k
    by rest false true (inl is) = inl is
    by rest false true (inr k) = inr (inr k)
    by rest false false (inl is) = inr (inl is)
    by rest false false (inr k) = elim (rest k) [ inl is ↦ inl is | inr there ↦ inr (inr there) ]

above : (q : ℕ) (es : List Entry) (x : Entry) → AreAbove q es → Has es x → q < x.position
above q [] x h none = absurd none
above q (e ∷ es) x h (inl is) = subst (λ (y : Entry). q < y.position) (sym is) h.0
above q (e ∷ es) x h (inr k) = let far = above e.position es x h.1 k in let near = h.0 in omega arith

-- of votes by rising position, no other one is at the position
pub has_other : (q p : ℕ) (v : Vote) (es : List Entry) (x : Entry) → AreAbove q es → Has (with_vote p v es) x → (x ≡ entry p v) ⊎ (Has es x × (x.position ≢ p))
has_other q p v [] x rise (inl is) = inl is
has_other q p v [] x rise (inr none) = absurd none
has_other q p v (e ∷ es) x rise h = by (has_other e.position p v es x rise.1) (nat_lt p e.position) (p == e.position) refl refl h
  where
    by : (Has (with_vote p v es) x → (x ≡ entry p v) ⊎ (Has es x × (x.position ≢ p))) → (a b : Bool) → nat_lt p e.position ≡ a → (p == e.position) ≡ b → Has (cond a (entry p v ∷ e ∷ es) (cond b (entry p v ∷ es) (e ∷ with_vote p v es))) x → (x ≡ entry p v) ⊎ (Has (e ∷ es) x × (x.position ≢ p))
    by rest true b less eq (inl is) = inl is
    by rest true b less eq (inr (inl is)) = inr (inl is, λ same. absurd (let low = below p e.position less in let at = ap (λ (y : Entry). y.position) is in omega arith))
    by rest true b less eq (inr (inr k)) = inr (inr k, λ same. absurd (let low = below p e.position less in let far = above e.position es x rise.1 k in omega arith))
    by rest false true less eq (inl is) = inl is
    by rest false true less eq (inr k) = inr (inr k, λ same. absurd (let at = same_number p e.position eq in let far = above e.position es x rise.1 k in omega arith))
    by rest false false less eq (inl is) = inr (inl is, λ same. absurd (other_number p e.position eq (sym same ∙ ap (λ (y : Entry). y.position) is)))
    by rest false false less eq (inr k) = elim (rest k) [ inl is ↦ inl is | inr there ↦ inr (inr there.0, there.1) ]

pub rises : (q p : ℕ) (v : Vote) (es : List Entry) → q < p → AreAbove q es → AreAbove q (with_vote p v es)
rises q p v [] low h = (low, tt)
rises q p v (e ∷ es) low h = by (λ near. rises e.position p v es near h.1) (nat_lt p e.position) (p == e.position) refl refl
  where
    by : (e.position < p → AreAbove e.position (with_vote p v es)) → (a b : Bool) → nat_lt p e.position ≡ a → (p == e.position) ≡ b → AreAbove q (cond a (entry p v ∷ e ∷ es) (cond b (entry p v ∷ es) (e ∷ with_vote p v es)))
    by rest true b less eq = (low, (below p e.position less, h.1))
    by rest false true less eq = (low, subst (λ n. AreAbove n es) (sym (same_number p e.position eq)) h.1)
    by rest false false less eq = (h.0, rest (grind (arith, nat_tests)))

pub has_without : (p : ℕ) (es : List Entry) (x : Entry) → Has (without p es) x → Has es x × (x.position ≢ p)
has_without p [] x none = absurd none
has_without p (e ∷ es) x h = by (has_without p es x) (e.position == p) refl h
  where
    by : (Has (without p es) x → Has es x × (x.position ≢ p)) → (b : Bool) → (e.position == p) ≡ b → Has (cond b (without p es) (e ∷ without p es)) x → Has (e ∷ es) x × (x.position ≢ p)
    by rest true eq k = let it = rest k in (inr it.0, it.1)
    by rest false eq (inl is) = (inl is, λ same. other_number e.position p eq (sym (ap (λ (y : Entry). y.position) is) ∙ same))
    by rest false eq (inr k) = let it = rest k in (inr it.0, it.1)

pub stays_without : (p : ℕ) (es : List Entry) (x : Entry) → Has es x → x.position ≢ p → Has (without p es) x
stays_without p [] x none other = absurd none
stays_without p (e ∷ es) x h other = by (λ k. stays_without p es x k other) (e.position == p) refl h
  where
    by : (Has es x → Has (without p es) x) → (b : Bool) → (e.position == p) ≡ b → Has (e ∷ es) x → Has (cond b (without p es) (e ∷ without p es)) x
    by rest true eq (inl is) = absurd (other (ap (λ (y : Entry). y.position) is ∙ same_number e.position p eq))
    by rest true eq (inr k) = rest k
    by rest false eq (inl is) = inl is
    by rest false eq (inr k) = inr (rest k)

pub none_without : (p : ℕ) (es : List Entry) → times p (without p es) ≡ 0
none_without p [] = refl
none_without p (e ∷ es) = by (none_without p es) (e.position == p) refl
  where
    by : times p (without p es) ≡ 0 → (b : Bool) → (e.position == p) ≡ b → times p (cond b (without p es) (e ∷ without p es)) ≡ 0
    by rest true eq = rest
    by rest false eq = rw eq (omega (arith, rest))

pub fewer_without : (p q : ℕ) (es : List Entry) → times q (without p es) ≤ times q es
fewer_without p q [] = omega arith
fewer_without p q (e ∷ es) = by (fewer_without p q es) (e.position == p)
  where
    by : times q (without p es) ≤ times q es → (b : Bool) → times q (cond b (without p es) (e ∷ without p es)) ≤ cond (e.position == q) 1 0 + times q es
    by rest true = omega arith
    by rest false = omega arith

-- nothing is taken out where nothing is there
pub all_without : (p : ℕ) (es : List Entry) → times p es ≡ 0 → without p es ≡ es
all_without p [] h = refl
all_without p (e ∷ es) h = by (all_without p es) (e.position == p) h
  where
    by : (times p es ≡ 0 → without p es ≡ es) → (b : Bool) → cond b 1 0 + times p es ≡ 0 → cond b (without p es) (e ∷ without p es) ≡ e ∷ es
    by rest true k = absurd (omega arith)
    by rest false k = ap (λ (xs : List Entry). e ∷ xs) (rest (omega (arith, k)))

one_if : ℕ → ℕ → ℕ
one_if p q = cond (p == q) 1 0

-- where none was there, there is one more at the position
pub times_with : (p q : ℕ) (v : Vote) (es : List Entry) → times p es ≡ 0 → times q (with_vote p v es) ≡ cond (p == q) 1 0 + times q es
times_with p q v [] h = refl
times_with p q v (e ∷ es) h = by (times_with p q v es) (nat_lt p e.position) (p == e.position) refl h
  where
    by : (times p es ≡ 0 → times q (with_vote p v es) ≡ cond (p == q) 1 0 + times q es) → (a b : Bool) → (p == e.position) ≡ b → cond (e.position == p) 1 0 + times p es ≡ 0
        → times q (cond a (entry p v ∷ e ∷ es) (cond b (entry p v ∷ es) (e ∷ with_vote p v es))) ≡ cond (p == q) 1 0 + (cond (e.position == q) 1 0 + times q es)
    by rest true b eq k = refl
    by rest false true eq k = absurd (let yes = equal e.position p (sym (same_number p e.position eq)) in omega (arith, rw yes at k))
    by rest false false eq k = let more = rest (omega (arith, k)) in omega arith

pub none_at : (p : ℕ) (es : List Entry) → ((x : Entry) → Has es x → x.position ≢ p) → times p es ≡ 0
none_at p [] h = refl
none_at p (e ∷ es) h = let no = unequal_number e.position p (h e (inl refl)) in let rest = none_at p es (λ x k. h x (inr k)) in rw no (omega (arith, rest))
