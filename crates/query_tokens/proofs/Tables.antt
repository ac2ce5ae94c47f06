-- The words that a name may be.
use Rattle.std.proofs.lemmas.Bool.Decides.{nat_tests}
use Rattle.std.proofs.Common.{◌≡◌, ◌≤◌, ◌<◌, arith, ◌++◌, length, take, drop, Option, Some, None, option_map, ℕ, Bool, true, false, cond, List, [], ◌∷◌, refl, sym, ap, ◌∙◌}
use Rattle.std.specs.List.{filter}
use Rattle.std.proofs.lemmas.List.{length-take}
use Rattle.std.specs.Str.{bytes_eq}
use Rattle.std.proofs.lemmas.Slice.Eq.{bytes_eq-Decides}
use Rattle.query_tokens.specs.declared.kind.Kind.{Kind}
use Rattle.query_tokens.specs.declared.kind.Kind.TheVariants.{Name}
use Rattle.query_tokens.specs.Words.{kind_in, begins_between, marks, pairs, singles, first_kind}
use Rattle.query_tokens.specs.Reading.{Gives, Fails, begins, first_of}
use Rattle.query_tokens.specs.Lexing.{marked, mark_token}
use Rattle.fault_codes.specs.declared.code.Code.TheVariants.{XPST0003}

-- the name is none of these
abbrev pub IsNone : List ℕ → List (List ℕ × Kind) → Type 0
IsNone name [] = Unit {0}
IsNone name (w ∷ ws) = (name ≡ w.0 → ⊥) × IsNone name ws

differs : (w name : List ℕ) → (name ≡ w → ⊥) → bytes_eq w name ≡ false
differs w name h = one (bytes_eq w name) refl
  where
    one : (t : Bool) → bytes_eq w name ≡ t → t ≡ false
    one true e = absurd (h (sym ((bytes_eq-Decides w name).0 e)))
    one false e = refl

pub among_none : (name : List ℕ) (ws : List (List ℕ × Kind)) → IsNone name ws → kind_in ws name ≡ Name
among_none name [] h = refl
among_none name (w ∷ ws) h = ap (λ t. cond t w.1 (kind_in ws name)) (differs w.0 name h.0) ∙ among_none name ws h.1

-- words that fail a test that the name passes don't count
pub of_test : (p : List ℕ → Bool) (name : List ℕ) → p name ≡ true → (ws : List (List ℕ × Kind)) → kind_in ws name ≡ kind_in (filter (λ w. p w.0) ws) name
of_test p name passes [] = refl
of_test p name passes (w ∷ ws) = one (p w.0) refl (of_test p name passes ws)
  where
    one : (t : Bool) → p w.0 ≡ t → kind_in ws name ≡ kind_in (filter (λ w. p w.0) ws) name → kind_in (w ∷ ws) name ≡ kind_in (cond t (w ∷ filter (λ w. p w.0) ws) (filter (λ w. p w.0) ws)) name
    one true e more = ap (λ k. cond (bytes_eq w.0 name) w.1 k) more
    one false e more = ap (λ t. cond t w.1 (kind_in ws name)) (differs w.0 name (λ same. absurd (let f : ⊥ = cc (e, passes, ap p same) in f))) ∙ more

-- the first character lies in a wider range
pub in_range : (c low high : ℕ) (name : List ℕ) → begins_between c c name ≡ true → low ≤ c → c ≤ high → begins_between low high name ≡ true
in_range c low high [] h l r = h
in_range c low high (x ∷ xs) h l r = grind (arith, nat_tests)

-- What a mark of a table tells.

shorter_fails : (m text : List ℕ) → length text < length m → begins m text ≡ false
shorter_fails m text h = one (begins m text) refl
  where
    one : (t : Bool) → begins m text ≡ t → t ≡ false
    one false e = refl
    one true e = absurd (let same : m ≡ take (length m) text = (bytes_eq-Decides m (take (length m) text)).0 e in omega (arith, ap length same, length-take (length m) text))

abbrev pub AllOf : ℕ → List (List ℕ × Kind) → Type 0
AllOf n [] = Unit {0}
AllOf n (m ∷ ms) = (length m.0 ≡ n) × AllOf n ms

none_of : (n : ℕ) (text : List ℕ) → length text < n → (ms : List (List ℕ × Kind)) → AllOf n ms → first_of ms text ≡ None
none_of n text h [] a = refl
none_of n text h (m ∷ ms) a = ap (λ t. cond t (Some m) (first_of ms text)) (shorter_fails m.0 text (omega (arith, a.0))) ∙ none_of n text h ms a.1

-- a text of one character begins with no mark of two
pub too_short : (text : List ℕ) → length text < 2 → first_kind pairs text ≡ None
unfolding pairs
too_short text h = ap (option_map (λ (m : List ℕ × Kind). m.1)) (none_of 2 text h pairs (refl, (refl, (refl, (refl, (refl, (refl, (refl, (refl, (refl, tt))))))))))

sized : (n : ℕ) (text : List ℕ) (k : Kind) (ms : List (List ℕ × Kind)) → AllOf n ms → first_kind ms text ≡ Some k → marked (first_of ms text) text ≡ Gives (mark_token k) (drop n text)
sized n text k [] a e = absurd (let f : ⊥ = cc in f)
sized n text k (m ∷ ms) a e = one (begins m.0 text) e (sized n text k ms a.1)
  where
    one : (t : Bool) → option_map (λ (m : List ℕ × Kind). m.1) (cond t (Some m) (first_of ms text)) ≡ Some k → (first_kind ms text ≡ Some k → marked (first_of ms text) text ≡ Gives (mark_token k) (drop n text))
        → marked (cond t (Some m) (first_of ms text)) text ≡ Gives (mark_token k) (drop n text)
    one true e more = let same : m.1 ≡ k = cc in ap (λ x. Gives (mark_token x) (drop (length m.0) text)) same ∙ ap (λ x. Gives (mark_token k) (drop x text)) a.0
    one false e more = more e

found_in : (k : Kind) (text : List ℕ) (ms ns : List (List ℕ × Kind)) → first_kind ms text ≡ Some k → first_of (ms ++ ns) text ≡ first_of ms text
found_in k text [] ns e = absurd (let f : ⊥ = cc in f)
found_in k text (m ∷ ms) ns e = one (begins m.0 text) e (found_in k text ms ns)
  where
    one : (t : Bool) → option_map (λ (m : List ℕ × Kind). m.1) (cond t (Some m) (first_of ms text)) ≡ Some k → (first_kind ms text ≡ Some k → first_of (ms ++ ns) text ≡ first_of ms text)
        → cond t (Some m) (first_of (ms ++ ns) text) ≡ cond t (Some m) (first_of ms text)
    one true e more = refl
    one false e more = more e

not_in : (text : List ℕ) (ms ns : List (List ℕ × Kind)) → first_kind ms text ≡ None → first_of (ms ++ ns) text ≡ first_of ns text
not_in text [] ns e = refl
not_in text (m ∷ ms) ns e = one (begins m.0 text) e (not_in text ms ns)
  where
    one : (t : Bool) → option_map (λ (m : List ℕ × Kind). m.1) (cond t (Some m) (first_of ms text)) ≡ None → (first_kind ms text ≡ None → first_of (ms ++ ns) text ≡ first_of ns text)
        → cond t (Some m) (first_of (ms ++ ns) text) ≡ first_of ns text
    one true e more = absurd (let f : ⊥ = cc in f)
    one false e more = more e

pub pair_found : (text : List ℕ) (k : Kind) → first_kind pairs text ≡ Some k → marked (first_of marks text) text ≡ Gives (mark_token k) (drop 2 text)
unfolding marks pairs
pair_found text k e = ap (λ o. marked o text) (found_in k text pairs singles e) ∙ sized 2 text k pairs (refl, (refl, (refl, (refl, (refl, (refl, (refl, (refl, (refl, tt))))))))) e

pub single_found : (text : List ℕ) (k : Kind) → first_kind pairs text ≡ None → first_kind singles text ≡ Some k → marked (first_of marks text) text ≡ Gives (mark_token k) (drop 1 text)
unfolding marks singles
single_found text k e f =
    ap (λ o. marked o text) (not_in text pairs singles e)
    ∙ sized 1 text k singles (refl, (refl, (refl, (refl, (refl, (refl, (refl, (refl, (refl, (refl, (refl, (refl, (refl, (refl, (refl, (refl, (refl, (refl, tt)))))))))))))))))) f

pub none_found : (text : List ℕ) → first_kind pairs text ≡ None → first_kind singles text ≡ None → marked (first_of marks text) text ≡ Fails XPST0003
unfolding marks
none_found text e f = ap (λ o. marked o text) (not_in text pairs singles e ∙ nothing singles f)
  where
    nothing : (ms : List (List ℕ × Kind)) → first_kind ms text ≡ None → first_of ms text ≡ None
    nothing ms h = one (first_of ms text) h
      where
        one : (o : Option (List ℕ × Kind)) → option_map (λ (m : List ℕ × Kind). m.1) o ≡ None → o ≡ None
        one None e = refl
        one (Some m) e = absurd (let f : ⊥ = cc in f)
