-- The answers that are held were said.
use Rattle.std.proofs.Common.{◌≡◌, ◌∙◌, ℕ, ◌+◌, ◌<◌, ◌≤◌, Bool, true, false, List, [], ◌++◌, length, get_or, replicate, Option, Some, None, IfSome, MatchOption, refl, sym, ap, subst, inl, inr, ⊎_elim, arith, string_bytes}
use Rattle.std.specs.List.{list_all}
use Rattle.std.specs.declared.alloc.Global.{Global}
use Rattle.std.specs.declared.string.String.{String}
use Rattle.std.proofs.lemmas.Bool.{cases_lt, false≢true}
use Rattle.std.proofs.lemmas.Bool.Decides.{eqb_tells}
use Rattle.std.proofs.lemmas.List.{get_or-replicate, get_or-set_same, get_or-set_other, get_or_past, length-replicate, length-set}
use Rattle.std.proofs.lemmas.List.Folds.{list_all_at}
use Rattle.std.proofs.lemmas.Option.{none-some, same_Some}
use Rattle.ballots.specs.declared.request.RequestId.{RequestId}
use Rattle.paxq_local.specs.Answering.{AreNoted, AreSame, AreTold, Differs, IsAdded, IsAnother, has_answered}
use Rattle.paxq_local.specs.Members.{HaveDiffered, HoldsSaid, IsAnswerOf, IsToldByAll}
use Rattle.paxq_local.specs.Told.{answer_told}
use Rattle.paxq_local.specs.declared.answers.Answers.{Answers}
use Rattle.paxq_local.specs.declared.answers.Told.{Told}
use Rattle.paxq_local.specs.declared.answers.Told.TheVariants.{Said, Differ, NoAnswer}
use Rattle.paxq_local.proofs.Saying.{by-more}
use Rattle.wires.specs.Wires.{Carried}

-- one of many flags that are not set
pub none-set : (n k : ℕ) → get_or (replicate n false) k false ≡ false
none-set n k = ⊎_elim (λ below. get_or-replicate n k false false below) (λ past. get_or_past (replicate n false) k false (subst (λ (m : ℕ). m ≤ k) (sym (length-replicate n false)) past)) (cases_lt k n)

true-unless : (b : Bool) → (b ≡ false → ⊥) → b ≡ true
true-unless true h = refl
true-unless false h = absurd (h refl)

-- a flag of many that are all set
one-set : (xs : List Bool) (k : ℕ) → list_all (λ has. has) xs ≡ true → k < length xs → get_or xs k false ≡ true
one-set xs k all below = true-unless (get_or xs k false) (λ no. false≢true (sym (list_all_at (λ has. has) xs k false below no) ∙ all))

-- a flag that is set is one of them
set-below : (xs : List Bool) (k : ℕ) → get_or xs k false ≡ true → k < length xs
set-below xs k is = ⊎_elim (λ below. below) (λ past. absurd (false≢true (sym (get_or_past xs k false past) ∙ is))) (cases_lt k (length xs))

module _ {A : Type 0} (eq : A → A → Bool) (peers : List A) (members : ℕ) (id : RequestId) where
  -- none has answered
  pub holds-none : (a : Answers) → a.has.items ≡ replicate members false → a.text ≡ None → HoldsSaid eq peers [] members id a
  holds-none a none no_text =
      record {
        are_all = ap (λ (xs : List Bool). length xs) none ∙ length-replicate members false;
        by_some = subst (λ (o : Option (String Global)). IfSome o (λ _. (before : ℕ) × (has_answered a before ≡ true))) (sym no_text) tt;
        by_each = λ k is. absurd (false≢true (sym (none-set members k) ∙ ap (λ (xs : List Bool). get_or xs k false) (sym none) ∙ is));
      }

  module _ (xs : List (Carried A)) where
    pub holds-more : (ys : List (Carried A)) (a : Answers) → HoldsSaid eq peers xs members id a → HoldsSaid eq peers (xs ++ ys) members id a
    holds-more ys a h =
        record {
          are_all = h.are_all;
          by_some = h.by_some;
          by_each = λ k is. (let e = h.by_each k is in (e.0, e.1, by-more eq peers xs ys k answer_told id (k + 1, string_bytes e.0) e.2));
        }

    -- the text of a member that was held before, or has come now, is the one that is held
    held-text : (old new : Option (String Global)) (text : String Global) (k : ℕ) → AreSame old text new → IsAnswerOf eq peers xs k id (string_bytes text)
        → (t : String Global) × (new ≡ Some t) × IsAnswerOf eq peers xs k id (string_bytes t)
    held-text None new text k same said = (text, same, said)
    held-text (Some first) new text k same said = (first, same.0, subst (λ (bs : List ℕ). IsAnswerOf eq peers xs k id bs) (sym same.1) said)

    kept-text : (old new : Option (String Global)) (text : String Global) (k : ℕ) → AreSame old text new → (t : String Global) → old ≡ Some t → IsAnswerOf eq peers xs k id (string_bytes t)
        → (u : String Global) × (new ≡ Some u) × IsAnswerOf eq peers xs k id (string_bytes u)
    kept-text None new text k same t is said = absurd (none-some t is)
    kept-text (Some first) new text k same t is said = (t, same.0 ∙ is, said)

    some-held : (new : Option (String Global)) (a : Answers) (k : ℕ) → has_answered a k ≡ true → IfSome new (λ _. (before : ℕ) × (has_answered a before ≡ true))
    some-held None a k is = tt
    some-held (Some t) a k is = (k, is)

    -- one more has answered
    holds-added : (old new : Answers) (before : ℕ) (text : String Global) → HoldsSaid eq peers xs members id old → IsAnswerOf eq peers xs before id (string_bytes text)
        → before < length old.has.items → IsAdded old before text new → HoldsSaid eq peers xs members id new
    holds-added old new before text h said below added =
        record {
          are_all = ap (λ (bs : List Bool). length bs) added.has ∙ length-set old.has.items before true ∙ h.are_all;
          by_some = some-held new.text new before (ap (λ (bs : List Bool). get_or bs before false) added.has ∙ get_or-set_same old.has.items before true false below);
          by_each = λ k is.
              ⊎_elim (λ here. held-text old.text new.text text k added.same (subst (λ (j : ℕ). IsAnswerOf eq peers xs j id (string_bytes text)) (sym here.1) said))
              (λ other. (let e = h.by_each k (sym (ap (λ (bs : List Bool). get_or bs k false) added.has ∙ get_or-set_other old.has.items before k true false other.1) ∙ is) in
              kept-text old.text new.text text k added.same e.0 e.1 e.2))
              (eqb_tells k before);
        }

    pub holds-noted : (old new : Answers) (before : ℕ) (text : String Global) → HoldsSaid eq peers xs members id old → IsAnswerOf eq peers xs before id (string_bytes text)
        → AreNoted old before text new → HoldsSaid eq peers xs members id new
    holds-noted old new before text h said (inl same) = subst (λ (a : Answers). HoldsSaid eq peers xs members id a) (sym same) h
    holds-noted old new before text h said (inr added) = holds-added old new before text h said added.0 added.1

    -- all have, and the same
    all-said : (now : Answers) (all : String Global) → HoldsSaid eq peers xs members id now → list_all (λ has. has) now.has.items ≡ true → now.text ≡ Some all → IsToldByAll eq peers xs members id (Said all)
    all-said now all h are held =
        let s = subst (λ (o : Option (String Global)). IfSome o (λ _. (before : ℕ) × (has_answered now before ≡ true))) held h.by_some in
        let some : s.0 < length now.has.items = set-below now.has.items s.0 s.1 in (
          omega (arith, some, h.are_all),
          λ before below.
              (let e = h.by_each before (one-set now.has.items before are (subst (λ (n : ℕ). before < n) (sym h.are_all) below)) in
              subst (λ (t : String Global). IsAnswerOf eq peers xs before id (string_bytes t)) (same_Some e.0 all (sym e.1 ∙ held)) e.2),
        )

    -- two have, and not the same
    other-than : (old : Answers) (before : ℕ) (text : String Global) (held : Option (String Global)) → HoldsSaid eq peers xs members id old → IsAnswerOf eq peers xs before id (string_bytes text)
        → Differs old before text → old.text ≡ held → IsAnother held text → HaveDiffered eq peers xs members id
    other-than old before text None h said d is another = absurd another
    other-than old before text (Some first) h said d is another =
        let s = subst (λ (o : Option (String Global)). IfSome o (λ _. (k : ℕ) × (has_answered old k ≡ true))) is h.by_some in
        let e = h.by_each s.0 s.1 in
        record {
          one = s.0;
          other = before;
          text = string_bytes first;
          differing = string_bytes text;
          are_two = λ same. false≢true (sym d.is_new ∙ (ap (λ (k : ℕ). has_answered old k) (sym same) ∙ s.1));
          one_is_in = subst (λ (n : ℕ). s.0 < n) h.are_all (set-below old.has.items s.0 s.1);
          other_is_in = subst (λ (n : ℕ). before < n) h.are_all d.is_in;
          by_one = subst (λ (t : String Global). IsAnswerOf eq peers xs s.0 id (string_bytes t)) (same_Some e.0 first (sym e.1 ∙ is)) e.2;
          by_other = said;
          is_other_text = another;
        }

    two-differ : (old : Answers) (before : ℕ) (text : String Global) → HoldsSaid eq peers xs members id old → IsAnswerOf eq peers xs before id (string_bytes text) → Differs old before text → HaveDiffered eq peers xs members id
    two-differ old before text h said d = other-than old before text old.text h said d refl d.is_another

    pub holds-told : (old : Answers) (before : ℕ) (text : String Global) (came : Told) → HoldsSaid eq peers xs members id old → IsAnswerOf eq peers xs before id (string_bytes text)
        → AreTold old before text came → IsToldByAll eq peers xs members id came
    holds-told old before text (Said all) h said t = all-said t.0 all (holds-noted old t.0 before text h said t.1) t.2 t.3
    holds-told old before text Differ h said t = two-differ old before text h said t
    holds-told old before text NoAnswer h said t = tt

    pub holds-either : (old new : Answers) (before : ℕ) (text : String Global) (o : Option Told) → HoldsSaid eq peers xs members id old → IsAnswerOf eq peers xs before id (string_bytes text)
        → MatchOption o (AreNoted old before text new) (AreTold old before text) → MatchOption o (HoldsSaid eq peers xs members id new) (IsToldByAll eq peers xs members id)
    holds-either old new before text None h said t = holds-noted old new before text h said t
    holds-either old new before text (Some came) h said t = holds-told old before text came h said t
