-- What is left of a text where spaces are cut off its front, or off its end.
use Rattle.std.proofs.Common.{◌≡◌, ℕ, ◌-◌, ◌<◌, Bool, true, false, List, [], ◌∷◌, ◌++◌, length, reverse, take, drop, refl, sym, ap, ◌∙◌, arith, Option, Some, None, true≢false, take-append-drop, IfSome, drop_of_length-le}
use Rattle.std.specs.Char.{encode_utf8, IsScalar, char_set_contains}
use Rattle.std.specs.Str.Pattern.{FindsPrefixBy, FindsSuffixBy, CutsPrefixes, CutsSuffixes, IsTrimStartMatches, IsTrimEndMatches}
use Rattle.std.proofs.lemmas.Str.{encode_ascii, len_utf8_bounds}
use Rattle.std.proofs.lemmas.Str.Pattern.{drop_at_char}
use Rattle.std.proofs.lemmas.List.{reverse-append, reverse-reverse}
use Rattle.std.proofs.lemmas.Bool.Decides.{nat_tests}
use Rattle.values.specs.Readings.{is_space, after_spaces}

-- a space is ASCII
space-small : (b : ℕ) → is_space b ≡ true → b < 128
space-small b h = grind (arith, nat_tests)

space-scalar : (b : ℕ) → b < 128 → IsScalar b
space-scalar b h = grind (arith, nat_tests)

skips : (b : ℕ) (bs : List ℕ) → is_space b ≡ true → after_spaces (b ∷ bs) ≡ after_spaces bs
skips b bs h = rw h refl

stops : (b : ℕ) (bs : List ℕ) → is_space b ≡ false → after_spaces (b ∷ bs) ≡ b ∷ bs
stops b bs h = rw h refl

-- a space at the front, and at the end
front : (s : List ℕ) (n : ℕ) → FindsPrefixBy is_space s (Some n) → after_spaces (drop n s) ≡ after_spaces s
front s n h =
    let e = drop_at_char h.0 s 0 n h.2 (space-small h.0 h.1) in
    sym (ap after_spaces e ∙ skips h.0 (drop n s) h.1)

back : (s : List ℕ) (n : ℕ) → FindsSuffixBy is_space s (Some n) → after_spaces (reverse (take (length s - n) s)) ≡ after_spaces (reverse s)
back s n h =
    let e = drop_at_char h.0 s (length s - n) (length s) h.2 (space-small h.0 h.1) in
    let z : drop (length s) s ≡ [] = drop_of_length-le s (omega arith) in
    let whole : s ≡ take (length s - n) s ++ (h.0 ∷ []) = sym (take-append-drop (length s - n) s) ∙ ap (λ l. take (length s - n) s ++ l) (e ∙ ap (λ l. h.0 ∷ l) z) in
    let r : reverse s ≡ h.0 ∷ reverse (take (length s - n) s) = ap reverse whole ∙ reverse-append (take (length s - n) s) (h.0 ∷ []) in
    sym (ap after_spaces r ∙ skips h.0 (reverse (take (length s - n) s)) h.1)

-- the first that is left, and the last, is no space
ends-front : (s : List ℕ) → ((c : ℕ) (rest : List ℕ) → IsScalar c → s ≡ encode_utf8 c ++ rest → is_space c ≡ false) → after_spaces s ≡ s
ends-front [] h = refl
ends-front (b ∷ bs) h =
    let P : Bool → Type 0 = λ v. is_space b ≡ v → after_spaces (b ∷ bs) ≡ b ∷ bs in
    let by : (v : Bool) → P v = λ v. elim v as P [ true ↦ λ e. (let small = space-small b e in absurd (true≢false (sym e ∙ h b bs (space-scalar b small) (sym (ap (λ l. l ++ bs) (encode_ascii b small)))))) | false ↦ λ e. stops b bs e ] in
    by (is_space b) refl

ends-back : (l s : List ℕ) → s ≡ reverse l → ((c : ℕ) (rest : List ℕ) → IsScalar c → s ≡ rest ++ encode_utf8 c → is_space c ≡ false) → after_spaces l ≡ l
ends-back [] s e h = refl
ends-back (b ∷ bs) s q h =
    let P : Bool → Type 0 = λ v. is_space b ≡ v → after_spaces (b ∷ bs) ≡ b ∷ bs in
    let by : (v : Bool) → P v = λ v. elim v as P [ true ↦ λ e. (let small = space-small b e in absurd (true≢false (sym e ∙ h b (reverse bs) (space-scalar b small) (q ∙ reverse-append (b ∷ []) bs ∙ sym (ap (λ l. reverse bs ++ l) (encode_ascii b small)))))) | false ↦ λ e. stops b bs e ] in
    by (is_space b) refl

module _ (R : List ℕ → Option ℕ → Type 0) where
  cuts-front : ((s : List ℕ) (o : Option ℕ) → R s o → FindsPrefixBy is_space s o) → (s ns r : List ℕ) → CutsPrefixes R s ns r → after_spaces r ≡ after_spaces s
  cuts-front f s [] r h = ap after_spaces h
  cuts-front f s (n ∷ ns) r h = ap after_spaces h.3 ∙ front h.0 n (f h.0 (Some n) h.2) ∙ cuts-front f s ns h.0 h.1

  cuts-back : ((s : List ℕ) (o : Option ℕ) → R s o → FindsSuffixBy is_space s o) → (s ns r : List ℕ) → CutsSuffixes R s ns r → after_spaces (reverse r) ≡ after_spaces (reverse s)
  cuts-back f s [] r h = ap (λ l. after_spaces (reverse l)) h
  cuts-back f s (n ∷ ns) r h = ap (λ l. after_spaces (reverse l)) h.3 ∙ back h.0 n (f h.0 (Some n) h.2) ∙ cuts-back f s ns h.0 h.1

-- no match of no bytes
whole-front : (s : List ℕ) (o : Option ℕ) → FindsPrefixBy is_space s o → IfSome o (λ n. n ≡ 0) → after_spaces s ≡ s
whole-front s None h z = ends-front s h
whole-front s (Some n) h z = absurd (omega (arith, h.2.ends, len_utf8_bounds h.0))

whole-back : (s : List ℕ) (o : Option ℕ) → FindsSuffixBy is_space s o → IfSome o (λ n. n ≡ 0) → after_spaces (reverse s) ≡ reverse s
whole-back s None h z = ends-back (reverse s) s (sym (reverse-reverse s)) h
whole-back s (Some n) h z = absurd (omega (arith, h.2.ends, len_utf8_bounds h.0))

-- what the characters of a list find at the front, and at the end
abbrev pub Starts : List ℕ → List ℕ → Option ℕ → Type 0
Starts cs t o = (k : ℕ → Bool) → ((c : ℕ) → char_set_contains cs c ≡ k c) → FindsPrefixBy k t o

abbrev pub Ends : List ℕ → List ℕ → Option ℕ → Type 0
Ends cs t o = (k : ℕ → Bool) → ((c : ℕ) → char_set_contains cs c ≡ k c) → FindsSuffixBy k t o

-- what is left where the characters of a list are cut off, which are the spaces
module _ (spaces : List ℕ) (same : (c : ℕ) → char_set_contains spaces c ≡ is_space c) where
  starts : (t : List ℕ) (o : Option ℕ) → Starts spaces t o → FindsPrefixBy is_space t o
  starts t o f = f is_space same

  ends : (t : List ℕ) (o : Option ℕ) → Ends spaces t o → FindsSuffixBy is_space t o
  ends t o f = f is_space same

  pub trimmed-front : (s r : List ℕ) → IsTrimStartMatches (Starts spaces) s r → r ≡ after_spaces s
  trimmed-front s r h = sym (whole-front r h.1.0 (starts r h.1.0 h.1.1) h.1.2) ∙ cuts-front (Starts spaces) starts s h.0.0 r h.0.1

  pub trimmed-back : (s r : List ℕ) → IsTrimEndMatches (Ends spaces) s r → r ≡ reverse (after_spaces (reverse s))
  trimmed-back s r h =
      sym (ap reverse (sym (cuts-back (Ends spaces) ends s h.0.0 r h.0.1) ∙ whole-back r h.1.0 (ends r h.1.0 h.1.1) h.1.2) ∙ reverse-reverse r)
