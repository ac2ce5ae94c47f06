-- How many messages were sent and delivered in the straight run, as numbers.
use Rattle.std.proofs.Common.{◌≡◌, ℕ, zero, suc, ◌+◌, ◌*◌, ◌<◌, ◌≤◌, arith, subst, ap, ◌∙◌, ⊎_elim}
use Rattle.std.specs.Prelude.{min}
use Rattle.std.proofs.lemmas.Bool.{cases_lt}
use Rattle.straight_runs.specs.Straight.{opening_sent, closing_sent}

-- a number up to n rows of n is some rows and a part of one
pub record Place (n c : ℕ) : Type 0 where
  pub rows : ℕ
  pub part : ℕ
  pub fewer : rows < n
  pub most : part ≤ n
  pub is : c ≡ n * rows + part

pub place : (n c : ℕ) → 1 ≤ n → c ≤ n * n → Place n c
place n zero l h = record { rows = 0; part = 0; fewer = omega arith; most = omega arith; is = omega arith }
place n (suc c) l h = let p = place n c l (omega arith) in ⊎_elim
    (λ (o : p.part < n). record { rows = p.rows; part = suc p.part; fewer = p.fewer; most = o; is = omega (arith, p.is) })
    (λ (o : n ≤ p.part). ⊎_elim
    (λ (r : suc p.rows < n). record { rows = suc p.rows; part = 1; fewer = r; most = l; is = next p.rows p.part p.is (omega (arith, p.most)) })
    (λ (r : n ≤ suc p.rows). absurd (full p.rows p.part p.is (omega (arith, p.most)) (omega (arith, p.fewer))))
    (cases_lt (suc p.rows) n))
    (cases_lt p.part n)
  where
    next : (a k : ℕ) → c ≡ n * a + k → k ≡ n → suc c ≡ n * suc a + 1
    next a k e f = grind arith

    full : (a k : ℕ) → c ≡ n * a + k → k ≡ n → n ≡ suc a → ⊥
    full a k e f g = let square : n * n ≡ n * suc a = ap (λ x. n * x) g in let row : n * suc a ≡ n * a + n = grind arith in omega arith

-- A product with a number that isn't 0 is no less.
no_less : (n j : ℕ) → 1 ≤ n → j ≤ n * j
no_less n zero l = omega arith
no_less n (suc j) l = let more : n * suc j ≡ n * j + n = grind arith in omega (arith, no_less n j l)

-- before all is delivered there is a message left
pub opening_left : (n j : ℕ) → 1 ≤ n → j < 2 * n → j < opening_sent n j
opening_left n j l h = omega arith

pub closing_left : (n j : ℕ) → 1 ≤ n → j < n * n + n + 1 → 2 * n + j < closing_sent n j
closing_left n zero l h = omega arith
closing_left n (suc i) l h = ⊎_elim
    (λ (o : n < i). subst (λ (k : ℕ). 2 * n + suc i < 3 * n + 1 + n * k) (most o) (omega arith))
    (λ (o : i ≤ n). subst (λ (k : ℕ). 2 * n + suc i < 3 * n + 1 + n * k) (least o) (omega (arith, no_less n i l)))
    (cases_lt n i)
  where
    most : n < i → n ≡ min i n
    most o = omega arith

    least : i ≤ n → i ≡ min i n
    least o = omega arith

-- then there is none
pub opening_all : (n : ℕ) → opening_sent n (2 * n) ≡ 2 * n
opening_all n = omega arith

pub closing_all : (n : ℕ) → closing_sent n (n * n + n + 1) ≡ n * n + 3 * n + 1
closing_all n = ap (closing_sent n) next ∙ (ap (λ (k : ℕ). 3 * n + 1 + n * k) least ∙ omega arith)
  where
    next : n * n + n + 1 ≡ suc (n * n + n)
    next = omega arith

    least : min (n * n + n) n ≡ n
    least = omega arith
