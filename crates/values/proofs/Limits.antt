-- What is added to a limited text, one piece after the other.
use Rattle.std.proofs.Common.{◌≡◌, ℕ, ◌+◌, ◌≤◌, ◌<◌, Bool, true, false, nat_lt, List, [], ◌++◌, length, Option, Some, None, refl, ap, sym, ◌∙◌, arith, append_assoc, append-nil, length-append, ⊎_elim, subst}
use Rattle.std.proofs.lemmas.Bool.{cases_lt}
use Rattle.std.proofs.lemmas.Bool.Decides.{nat_tests}
use Rattle.values.specs.Limited.{LimitedTerm, within, added, text_of}

-- the text of those bytes, which may have so many
abbrev pub limited_to : ℕ → Bool → List ℕ → LimitedTerm
limited_to m b t = record { most = m; text = text_of b t }

pub added-none : (l : LimitedTerm) (x : List ℕ) → l.text ≡ None → added l x ≡ l
unfolding added
added-none l x e = rw e refl

module _ (m : ℕ) (s x : List ℕ) where
  pub added-fits : length s + length x ≤ m → added (limited_to m false s) x ≡ limited_to m false (s ++ x)
  unfolding added
  added-fits h =
      let no : nat_lt m (length (s ++ x)) ≡ false = grind (arith, nat_tests, length-append) in
      rw no refl

  pub added-too-long : (t : List ℕ) → m < length s + length x → limited_to m true t ≡ added (limited_to m false s) x
  unfolding added
  added-too-long t h =
      let yes : nat_lt m (length (s ++ x)) ≡ true = grind (arith, nat_tests, length-append) in
      rw yes refl

pub added-nothing : (m : ℕ) (b : Bool) (s : List ℕ) → length s ≤ m → added (limited_to m b s) [] ≡ limited_to m b s
unfolding added
added-nothing m true s h = refl
added-nothing m false s h =
    let no : nat_lt m (length (s ++ [])) ≡ false = grind (arith, nat_tests, length-append) in
    rw no (ap (limited_to m false) (append-nil s))

-- two texts, one after the other, are the two at once
fits-twice : (m : ℕ) (s x y : List ℕ) → added (limited_to m false (s ++ x)) y ≡ added (limited_to m false s) (x ++ y)
unfolding added
fits-twice m s x y = ap (λ t. record { most = m; text = within m t }) (append_assoc s x y)

some-twice : (m : ℕ) (s x y : List ℕ) → added (added (limited_to m false s) x) y ≡ added (limited_to m false s) (x ++ y)
some-twice m s x y = ⊎_elim
    (λ h. ap (λ l. added l y) (sym (added-too-long m s x [] h)) ∙ added-none (limited_to m true []) y refl ∙ added-too-long m s (x ++ y) [] (omega (arith, length-append x y)))
    (λ h. ap (λ l. added l y) (added-fits m s x h) ∙ fits-twice m s x y)
    (cases_lt m (length s + length x))

pub added-twice : (l : LimitedTerm) (x y : List ℕ) → added (added l x) y ≡ added l (x ++ y)
added-twice l x y = cases l.text refl
  where
    cases : (o : Option (List ℕ)) → l.text ≡ o → added (added l x) y ≡ added l (x ++ y)
    cases None e = ap (λ k. added k y) (added-none l x e) ∙ added-none l y e ∙ sym (added-none l (x ++ y) e)
    cases (Some s) e = (let same : record { most = l.most; text = Some s } ≡ l = (λ j. record { most = l.most; text = sym e j }) in subst (λ k. added (added k x) y ≡ added k (x ++ y)) same (some-twice l.most s x y))

-- pieces at once
pub added-three : (l : LimitedTerm) (a b c : List ℕ) → added (added (added l a) b) c ≡ added l ((a ++ b) ++ c)
added-three l a b c = rw (added-twice l a b, added-twice l (a ++ b) c) refl

pub added-five : (l : LimitedTerm) (a b c d e : List ℕ) → added (added (added (added (added l a) b) c) d) e ≡ added l ((((a ++ b) ++ c) ++ d) ++ e)
added-five l a b c d e = rw (added-three l a b c, added-twice l ((a ++ b) ++ c) d, added-twice l (((a ++ b) ++ c) ++ d) e) refl
