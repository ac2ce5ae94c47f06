-- A value that stops at a bound while digits are read.
use Rattle.std.proofs.Common.{◌≡◌, ℕ, suc, ◌+◌, ◌*◌, ◌≤◌, ◌<◌, min, List, [], ◌∷◌, length, drop, get_or, fold, sym, ap, ◌∙◌, arith}
use Rattle.std.proofs.Math.Seq.{drop-cons}
use Rattle.std.proofs.lemmas.List.{drop_all}
use Rattle.query_tokens.specs.Lexing.{digit_value}

times : (base a : ℕ) → 0 < base → a ≤ base * a
times base a h = grind arith

-- two values that are one below the bound stay so
step : (base d a b : ℕ) → 0 < base → min a 4294967295 ≡ min b 4294967295 → min (base * a + d) 4294967295 ≡ min (base * b + d) 4294967295
step base d a b h e = one (base * a) (base * b) (times base a h) (times base b h) (λ same. ap (λ x. base * x) same)
  where
    one : (x y : ℕ) → a ≤ x → b ≤ y → (a ≡ b → x ≡ y) → min (x + d) 4294967295 ≡ min (y + d) 4294967295
    one x y p q r = grind arith

below : (base a b : ℕ) → 0 < base → min a 4294967295 ≡ min b 4294967295 → (ds : List ℕ) → min (fold (λ n d. base * n + digit_value d) a ds) 4294967295 ≡ min (fold (λ n d. base * n + digit_value d) b ds) 4294967295
below base a b h e [] = e
below base a b h e (d ∷ ds) = below base (base * a + digit_value d) (base * b + digit_value d) h (step base (digit_value d) a b h e) ds

-- one digit more
pub digit_more : (base value i : ℕ) (ds : List ℕ) (d next whole : ℕ) → 0 < base → i < length ds → d ≡ get_or ds i d → next ≡ min (min (value * base) 4294967295 + digit_value d) 4294967295
    → min (fold (λ n d. base * n + digit_value d) value (drop i ds)) 4294967295 ≡ whole → min (fold (λ n d. base * n + digit_value d) next (drop (i + 1) ds)) 4294967295 ≡ whole
digit_more base value i ds d next whole h within here e read =
    let split : drop i ds ≡ d ∷ drop (suc i) ds = drop-cons ds i d within ∙ ap (λ x. x ∷ drop (suc i) ds) (sym here) in
    let f : ℕ → ℕ → ℕ = λ n d. base * n + digit_value d in
    let capped : min next 4294967295 ≡ min (base * value + digit_value d) 4294967295 = grind arith in
    let next_at : i + 1 ≡ suc i = omega arith in
    ap (λ k. min (fold f next (drop k ds)) 4294967295) next_at ∙ below base next (base * value + digit_value d) h capped (drop (suc i) ds) ∙ (ap (λ l. min (fold f value l) 4294967295) (sym split) ∙ read)

-- no digit is left
pub all_read : (base value i : ℕ) (ds : List ℕ) (whole : ℕ) → length ds ≤ i → value ≤ 4294967295 → min (fold (λ n d. base * n + digit_value d) value (drop i ds)) 4294967295 ≡ whole → value ≡ whole
all_read base value i ds whole done small read =
    let f : ℕ → ℕ → ℕ = λ n d. base * n + digit_value d in
    let nothing : drop i ds ≡ [] = drop_all i ds done in
    let same : value ≡ min value 4294967295 = omega arith in
    same ∙ sym (ap (λ l. min (fold f value l) 4294967295) nothing) ∙ read
