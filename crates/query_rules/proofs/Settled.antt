-- Forms that wait within one another, from turn to turn.
use Rattle.std.proofs.Common.{◌≡◌, ℕ, zero, suc, ◌+◌, ◌-◌, ◌<◌, ◌≤◌, List, [], ◌∷◌, ◌++◌, length, reverse, Option, Some, None, Ok, refl, sym, ap, ◌∙◌, subst, arith}
use Rattle.std.proofs.lemmas.List.{length-append, reverse-append}
use Rattle.query_tokens.specs.declared.fault.ParseFault.{ParseFault}
use Rattle.query_tokens.specs.declared.fault.ParseFault.TheVariants.{Memory, Static}
use Rattle.query_tokens.specs.declared.token.Token.{Token}
use Rattle.query_grammar.specs.declared.ast.Expr.{Expr}
use Rattle.query_grammar.specs.Reader as r
use Rattle.query_grammar.specs.Reading.{Reader, and_then}
use Rattle.query_parts.specs.Gives.{Fails}
use Rattle.query_rules.specs.Stages as stage
use Rattle.query_rules.specs.Stages.{Within, Taken, Nearer, Settles, proceeds, awaited, unwound}
use Rattle.query_rules.specs.declared.pending.Pending.{Pending}
use Rattle.query_rules.specs.declared.pending.Progress.{Progress}
use Rattle.query_rules.specs.declared.pending.Progress.TheVariants.{Read, Waits}
use Rattle.query_rules.proofs.Lengths.{Keeps}
use Rattle.query_rules.proofs.Completed.{given_back}
use Rattle.query_rules.proofs.Unwound.{begin_proceeds, resume_proceeds, resume_advances, begin_advances}

-- what is refused, where what it is a part of is refused with it
pub fails_on : {A B : Type 0} (fault : ParseFault) (o : Option A) (u : Option B) → (o ≡ None → u ≡ None) → Fails o fault → Fails u fault
fails_on Memory o u h fails = tt
fails_on (Static code) o u h fails = (fails.0, h fails.1)

-- what is left of the tokens, from one place that was come to up to another
abbrev pub Since : Progress → Progress → (left : ℕ) → ℕ → Type 0
Since (Read x) (Waits pending) left all = left < all
Since (Read x) (Read y) left all = left ≤ all
Since (Waits pending) progress left all = left ≤ all

since_same : (progress : Progress) (n : ℕ) → Since progress progress n n
since_same (Read x) n = omega arith
since_same (Waits pending) n = omega arith

since_next : (first : Progress) (x : Expr) (next : Progress) (k m n : ℕ) → Since first (Read x) m n → Within next k m → Since first next k n
since_next (Read y) x (Read z) k m n s w = omega arith
since_next (Read y) x (Waits pending) k m n s w = omega arith
since_next (Waits pending) x (Read z) k m n s w = omega arith
since_next (Waits pending) x (Waits other) k m n s w = omega arith

pub since_waits : (first : Progress) (pending : Pending) (m n : ℕ) → Since first (Waits pending) m n → Taken first m n
since_waits (Read x) pending m n s = s
since_waits (Waits other) pending m n s = s

-- the next place where a form waits stands after a token
pub fewer : (progress : Progress) (k m n : ℕ) → Within progress m n → Taken progress k m → k < n
fewer (Read x) k m n w t = omega arith
fewer (Waits pending) k m n w t = omega arith

-- what the forms come to, where this was come to within them
abbrev pub comes_to : (level : ℕ) → (depth : ℕ) → List Pending → Progress → Reader Expr
comes_to level depth forms progress = proceeds level (depth - (length forms + 1)) (reverse forms) progress

-- what the turns keep, from where they began
pub record Reached (first : List Pending) (begun : Progress) (all : List Token) (forms : List Pending) (progress : Progress) (ts : List Token) : Type 0 where
  pub nests : (depth : ℕ) → length first < depth → length forms < depth
  pub same : (level depth : ℕ) → length first < depth → comes_to level depth first begun all ≡ comes_to level depth forms progress ts
  pub since : Since begun progress (length ts) (length all)

pub reached_here : (forms : List Pending) (progress : Progress) (ts : List Token) → Reached forms progress ts forms progress ts
reached_here forms progress ts = record {
  nests = λ depth h. h;
  same = λ level depth h. refl;
  since = since_same progress (length ts);
}

-- where the place is known
pub reached_as : {first : List Pending} {begun : Progress} {all : List Token} {forms : List Pending} {progress : Progress} {ts : List Token} (known : Progress)
    → Reached first begun all forms progress ts → progress ≡ known → Reached first begun all forms known ts
reached_as {first = first} {begun = begun} {all = all} {forms = forms} {ts = ts} known h e = subst (λ (p : Progress). Reached first begun all forms p ts) e h

one_more : (outer : List Pending) (pending : Pending) → length (outer ++ pending ∷ []) ≡ length outer + 1
one_more outer pending = length-append outer (pending ∷ [])

pub shrunk : (forms outer : List Pending) (pending : Pending) → forms ≡ outer ++ pending ∷ [] → length outer < length forms
shrunk forms outer pending e = let n = ap length e ∙ one_more outer pending in omega (arith, n)

innermost : (outer : List Pending) (pending : Pending) → reverse (outer ++ pending ∷ []) ≡ pending ∷ reverse outer
innermost outer pending = reverse-append outer (pending ∷ [])

-- before the innermost form goes on
resumed : (level depth : ℕ) (forms outer : List Pending) (pending : Pending) (x : Expr) (ts : List Token) → forms ≡ outer ++ pending ∷ [] → length forms < depth
    → comes_to level depth forms (Read x) ts ≡ and_then (stage.resume pending x ts) (comes_to level depth outer)
resumed level depth forms outer pending x ts e h =
    let n = ap length e ∙ one_more outer pending in
    let within : length forms < depth = h in
    let deeper : suc (depth - (length forms + 1)) ≡ depth - (length outer + 1) = omega (arith, n) in
    ap (λ fs. unwound level (suc (depth - (length forms + 1))) fs x ts) (ap reverse e ∙ innermost outer pending)
    ∙ ap (λ d. unwound level d (pending ∷ reverse outer) x ts) deeper
    ∙ resume_proceeds level (depth - (length outer + 1)) pending (reverse outer) x ts

pub reached_next : (first : List Pending) (begun : Progress) (all : List Token) (forms outer : List Pending) (pending : Pending) (x : Expr) (ts : List Token) (next : Progress) (left : List Token)
    → Reached first begun all forms (Read x) ts → forms ≡ outer ++ pending ∷ [] → stage.resume pending x ts ≡ Some (next, left) → Reached first begun all outer next left
reached_next first begun all forms outer pending x ts next left h e read =
    let n = ap length e ∙ one_more outer pending in
    record {
      nests = λ depth below. omega (arith, n, h.nests depth below);
      same = λ level depth below. h.same level depth below ∙ resumed level depth forms outer pending x ts e (h.nests depth below) ∙ ap (λ o. and_then o (comes_to level depth outer)) read;
      since = since_next begun x next _ _ _ h.since ((resume_advances pending x).within ts next left read);
    }

pub settles_read : (first : List Pending) (begun : Progress) (all : List Token) (forms : List Pending) (x : Expr) (ts : List Token)
    → Reached first begun all forms (Read x) ts → forms ≡ [] → (level depth : ℕ) → length first < depth → comes_to level depth first begun all ≡ Some (x, ts)
unfolding unwound
settles_read first begun all forms x ts h none level depth below =
    h.same level depth below ∙ ap (λ fs. unwound level (suc (depth - (length forms + 1))) (reverse fs) x ts) none

pub settles_waits : (first : List Pending) (begun : Progress) (all : List Token) (forms after : List Pending) (pending : Pending) (ts : List Token)
    → Reached first begun all forms (Waits pending) ts → after ≡ forms ++ pending ∷ [] → (level depth : ℕ) → length first < depth → Settles level depth first begun all (Ok None) after ts
settles_waits first begun all forms after pending ts h e level depth below =
    let n = ap length e ∙ one_more forms pending in
    let within = h.nests depth below in
    let same : depth - (length forms + 1) ≡ depth - length after = omega (arith, n) in (
      omega (arith, n, within),
      h.same level depth below
          ∙ ap (λ d. awaited level d (pending ∷ reverse forms) ts) same
          ∙ ap (λ fs. awaited level (depth - length after) fs ts) (sym (ap reverse e ∙ innermost forms pending)),
    )

pub settles_fault : (first : List Pending) (begun : Progress) (all : List Token) (forms outer : List Pending) (pending : Pending) (x : Expr) (ts : List Token) (fault : ParseFault)
    → Reached first begun all forms (Read x) ts → forms ≡ outer ++ pending ∷ [] → Fails (stage.resume pending x ts) fault
    → (level depth : ℕ) → length first < depth → Fails (comes_to level depth first begun all) fault
settles_fault first begun all forms outer pending x ts fault h e fails level depth below =
    fails_on fault (stage.resume pending x ts) _
    (λ none. h.same level depth below ∙ resumed level depth forms outer pending x ts e (h.nests depth below) ∙ ap (λ o. and_then o (comes_to level depth outer)) none)
    fails

-- Where an expression is wanted.

-- before any form waits
pub wanted_first : (level depth : ℕ) (ts : List Token) (forms : List Pending) → forms ≡ [] → r.single level depth ts ≡ awaited level (depth - length forms) (reverse forms) ts
unfolding unwound
wanted_first level depth ts forms none =
    let all : depth ≡ depth - length forms = omega (arith, ap length none) in
    sym (given_back (r.single level depth ts)) ∙ ap (λ d. awaited level d [] ts) all ∙ ap (λ fs. awaited level (depth - length forms) (reverse fs) ts) (sym none)

-- it begins, at the depth that is left
pub wanted : (level depth n : ℕ) (forms : List Pending) (ts : List Token) → length forms < depth → n ≡ depth - length forms - 1
    → awaited level (depth - length forms) (reverse forms) ts ≡ and_then (stage.begin (r.single level n) level ts) (comes_to level depth forms)
wanted level depth n forms ts below e =
    let one : depth - length forms ≡ suc n = omega (arith, e, below) in
    let same : n ≡ depth - (length forms + 1) = omega (arith, e) in
    ap (λ d. awaited level d (reverse forms) ts) one ∙ begin_proceeds level n (reverse forms) ts ∙ ap (λ d. and_then (stage.begin (r.single level n) level ts) (proceeds level d (reverse forms))) same

-- none may nest so deep
pub too_deep : (level depth : ℕ) (forms : List Pending) (ts : List Token) → depth ≤ length forms → awaited level (depth - length forms) (reverse forms) ts ≡ None
unfolding r.single
too_deep level depth forms ts h = let none : depth - length forms ≡ zero = omega arith in ap (λ d. awaited level d (reverse forms) ts) none

-- what the turns keep, where an expression is wanted
pub record Wanted (level depth : ℕ) (all : List Token) (forms : List Pending) (ts : List Token) : Type 0 where
  pub within : length forms ≤ depth
  pub same : r.single level depth all ≡ awaited level (depth - length forms) (reverse forms) ts

-- It begins one less deep than the forms that wait leave.
pub begun : (level depth : ℕ) (all : List Token) (forms : List Pending) (ts : List Token) (n : ℕ) (progress : Progress) (left : List Token)
    → Wanted level depth all forms ts → n ≡ length forms → n < depth → stage.begin (r.single level (depth - n - 1)) level ts ≡ Some (progress, left)
    → r.single level depth all ≡ comes_to level depth forms progress left
begun level depth all forms ts n progress left h e below read =
    h.same ∙ wanted level depth (depth - n - 1) forms ts (omega (arith, e)) (ap (λ m. depth - m - 1) e) ∙ ap (λ o. and_then o (comes_to level depth forms)) read

pub begin_fails : (level depth : ℕ) (all : List Token) (forms : List Pending) (ts : List Token) (n : ℕ) (fault : ParseFault)
    → Wanted level depth all forms ts → n ≡ length forms → n < depth → Fails (stage.begin (r.single level (depth - n - 1)) level ts) fault → Fails (r.single level depth all) fault
begin_fails level depth all forms ts n fault h e below fails =
    fails_on fault (stage.begin (r.single level (depth - n - 1)) level ts) _
    (λ none. h.same ∙ wanted level depth (depth - n - 1) forms ts (omega (arith, e)) (ap (λ m. depth - m - 1) e) ∙ ap (λ o. and_then o (comes_to level depth forms)) none)
    fails

pub settle_fails : (level depth : ℕ) (all : List Token) (forms : List Pending) (progress : Progress) (mid : List Token) (fault : ParseFault)
    → r.single level depth all ≡ comes_to level depth forms progress mid → Fails (comes_to level depth forms progress mid) fault → Fails (r.single level depth all) fault
settle_fails level depth all forms progress mid fault same fails = fails_on fault (comes_to level depth forms progress mid) _ (λ none. same ∙ none) fails

pub whole_read : (level depth : ℕ) (all : List Token) (forms : List Pending) (progress : Progress) (mid : List Token) (after : List Pending) (left : List Token) (o : Option Expr) (x : Expr)
    → r.single level depth all ≡ comes_to level depth forms progress mid → o ≡ Some x → Settles level depth forms progress mid (Ok o) after left → r.single level depth all ≡ Some (x, left)
whole_read level depth all forms progress mid after left o x same e h =
    let read : comes_to level depth forms progress mid ≡ Some (x, left) = subst (λ (u : Option Expr). Settles level depth forms progress mid (Ok u) after left) e h in same ∙ read

pub still_wanted : (level depth : ℕ) (all : List Token) (forms : List Pending) (progress : Progress) (mid : List Token) (after : List Pending) (left : List Token) (o : Option Expr)
    → r.single level depth all ≡ comes_to level depth forms progress mid → o ≡ None → Settles level depth forms progress mid (Ok o) after left → Wanted level depth all after left
still_wanted level depth all forms progress mid after left o same e h =
    let w : Settles level depth forms progress mid (Ok None) after left = subst (λ (u : Option Expr). Settles level depth forms progress mid (Ok u) after left) e h in
    record { within = w.0; same = same ∙ w.1 }

pub still_fewer : {single : Reader Expr} (s : Keeps single) (level : ℕ) (progress : Progress) (ts mid left : List Token) (o : Option Expr)
    → stage.begin single level ts ≡ Some (progress, mid) → o ≡ None → Nearer progress (Ok o) (length left) (length mid) → length left < length ts
still_fewer s level progress ts mid left o read e h =
    let w : Taken progress (length left) (length mid) = subst (λ (u : Option Expr). Nearer progress (Ok u) (length left) (length mid)) e h in
    fewer progress _ _ _ ((begin_advances s level).within ts progress mid read) w

pub refused : (level depth : ℕ) (all : List Token) (forms : List Pending) (ts : List Token) (n : ℕ) → Wanted level depth all forms ts → n ≡ length forms → depth ≤ n → r.single level depth all ≡ None
refused level depth all forms ts n h e deep = h.same ∙ too_deep level depth forms ts (omega (arith, e))
