-- Tokens as two queues.
use Rattle.std.proofs.Common.{◌≡◌, ℕ, zero, suc, ◌<◌, ◌≤◌, ◌==◌, Bool, true, false, cond, List, [], ◌∷◌, ◌++◌, length, drop, get_or, refl, ap, sym, ◌∙◌, arith}
use Rattle.std.proofs.lemmas.Bool.{eqb-true}
use Rattle.std.proofs.lemmas.List.{length-append}
use Rattle.query_tokens.specs.declared.kind.Kind.{Kind}
use Rattle.query_tokens.specs.declared.kind.Kind.TheVariants.{End}
use Rattle.query_tokens.specs.declared.tokens.Content.{Content}
use Rattle.query_tokens.specs.declared.tokens.Mark.{Mark}
use Rattle.query_tokens.specs.Cursor.{kind_at}
use Rattle.query_tokens.specs.Lexing.{mark_token}
use Rattle.query_tokens.specs.Queues.{with_content, saying, tokens_of, counted}

-- each mark is a token
pub as_many : (ms : List Mark) (cs : List Content) → length (tokens_of ms cs) ≡ length ms
as_many [] cs = refl
as_many (m ∷ ms) cs = ap suc (as_many ms (cond m.says_more (drop 1 cs) cs))

kind_of_either : (m : Mark) (cs : List Content) (b : Bool) → (cond b (saying m.kind cs) (mark_token m.kind)).kind ≡ m.kind
kind_of_either m [] true = refl
kind_of_either m (c ∷ cs) true = refl
kind_of_either m cs false = refl

pub none_there : (n : ℕ) (ms : List Mark) (cs : List Content) → length ms ≤ n → End ≡ kind_at n (tokens_of ms cs)
none_there n [] cs h = refl
none_there zero (m ∷ ms) cs h = absurd (omega arith)
none_there (suc n) (m ∷ ms) cs h = none_there n ms (cond m.says_more (drop 1 cs) cs) (omega arith)

pub one_there : (n : ℕ) (ms : List Mark) (cs : List Content) (m : Mark) → n < length ms → m ≡ get_or ms n m → m.kind ≡ kind_at n (tokens_of ms cs)
one_there n [] cs m h e = absurd (omega arith)
one_there zero (x ∷ ms) cs m h e = ap (λ (y : Mark). y.kind) e ∙ sym (kind_of_either x cs x.says_more)
one_there (suc n) (x ∷ ms) cs m h e = one_there n ms (cond x.says_more (drop 1 cs) cs) m (omega arith) e

-- a token that says no more, at the end
pub one_plain : (ms : List Mark) (cs : List Content) (m : Mark) → m.says_more ≡ false → tokens_of (ms ++ m ∷ []) cs ≡ tokens_of ms cs ++ mark_token m.kind ∷ []
one_plain [] cs m e = ap (λ b. cond b (saying m.kind cs) (mark_token m.kind) ∷ []) e
one_plain (x ∷ ms) cs m e = ap (λ ts. cond x.says_more (saying x.kind cs) (mark_token x.kind) ∷ ts) (one_plain ms (cond x.says_more (drop 1 cs) cs) m e)

pub counted_plain : (ms : List Mark) (m : Mark) → m.says_more ≡ false → counted (ms ++ m ∷ []) ≡ counted ms
counted_plain [] m e = ap (λ b. cond b 1 0) e
counted_plain (x ∷ ms) m e = ap (λ n. cond x.says_more (suc n) n) (counted_plain ms m e)

counted_saying : (ms : List Mark) (m : Mark) → m.says_more ≡ true → counted (ms ++ m ∷ []) ≡ suc (counted ms)
counted_saying [] m e = ap (λ b. cond b 1 0) e
counted_saying (x ∷ ms) m e = step x.says_more (counted_saying ms m e)
  where
    step : (b : Bool) → counted (ms ++ m ∷ []) ≡ suc (counted ms) → cond b (suc (counted (ms ++ m ∷ []))) (counted (ms ++ m ∷ [])) ≡ suc (cond b (suc (counted ms)) (counted ms))
    step true h = ap suc h
    step false h = h

pub as_counted : (ms : List Mark) (cs : List Content) (m : Mark) (c : Content) → counted ms ≡ length cs → m.says_more ≡ true → counted (ms ++ m ∷ []) ≡ length (cs ++ c ∷ [])
as_counted ms cs m c h e = counted_saying ms m e ∙ omega (arith, h, length-append cs (c ∷ []))

-- a token that says more, at the end
pub one_saying : (ms : List Mark) (cs : List Content) (m : Mark) (c : Content) → counted ms ≡ length cs → m.says_more ≡ true
    → tokens_of (ms ++ m ∷ []) (cs ++ c ∷ []) ≡ tokens_of ms cs ++ with_content m.kind c ∷ []
one_saying [] [] m c h e = ap (λ b. cond b (with_content m.kind c) (mark_token m.kind) ∷ []) e
one_saying [] (d ∷ cs) m c h e = absurd (omega arith)
one_saying (x ∷ ms) cs m c h e = step x.says_more cs h (λ ds k. one_saying ms ds m c k e)
  where
    step : (b : Bool) (ds : List Content) → cond b (suc (counted ms)) (counted ms) ≡ length ds
        → ((es : List Content) → counted ms ≡ length es → tokens_of (ms ++ m ∷ []) (es ++ c ∷ []) ≡ tokens_of ms es ++ with_content m.kind c ∷ [])
        → cond b (saying x.kind (ds ++ c ∷ [])) (mark_token x.kind) ∷ tokens_of (ms ++ m ∷ []) (cond b (drop 1 (ds ++ c ∷ [])) (ds ++ c ∷ []))
        ≡ cond b (saying x.kind ds) (mark_token x.kind) ∷ (tokens_of ms (cond b (drop 1 ds) ds) ++ with_content m.kind c ∷ [])
    step true [] k f = absurd (omega arith)
    step true (d ∷ ds) k f = ap (λ ts. with_content x.kind d ∷ ts) (f ds (omega arith))
    step false ds k f = ap (λ ts. mark_token x.kind ∷ ts) (f ds k)

-- a token without text and number
pub plain_is : (k : Kind) (text : List ℕ) (number : ℕ) → (length text == 0) ≡ true → (number == 0) ≡ true → mark_token k ≡ record { kind = k; text = text; number = number }
plain_is k [] number e f = ap (λ (n : ℕ). record { kind = k; text = []; number = n }) (sym (eqb-true number 0 f))
plain_is k (c ∷ text) number e f = absurd (omega (arith, eqb-true (length (c ∷ text)) 0 e))
