-- Each command that a line is can be asked.
use Rattle.std.proofs.Common.{◌≡◌, ◌≤◌, ◌<◌, ℕ, suc, arith, Bool, true, false, ◌&&◌, nat_lt, nat_le, List, length, Option, Some, None, IfSome, refl, subst}
use Rattle.std.specs.Prelude.{◌==◌, if◌then◌else◌, codes}
use Rattle.std.specs.Option.{option_map, option_map_or}
use Rattle.std.specs.List.{list_all, list_any, before_first, after_first}
use Rattle.std.proofs.lemmas.Bool.Decides.{nat_tests}
use Rattle.ballots.specs.Terms.{Request, is_level, most_text}
use Rattle.ballots.specs.Values.{positions}
use Rattle.document_names.specs.Characters.{is_digit}
use Rattle.line_parts.specs.Parts.{digits_value, has_text_length, is_space, number_below, request_of, text_after, ◌>>=◌}
use Rattle.paxq_files.specs.Script.{Command, submit, ask, ask_at, submit_of, ask_of, ask_at_of, command_at_1, command_of, command_alone}
use Rattle.paxq_local.specs.Asking.{CanBeAsked}

both : (a b : Bool) → (a && b) ≡ true → (a ≡ true) × (b ≡ true)
both true b h = (refl, h)
both false b h = absurd cc

module _ {B : Type 0} (P : B → Type 0) where
  guarded : (is : Bool) (x : B) → (is ≡ true → P x) → IfSome (if is then Some x else None) P
  guarded true x f = f refl
  guarded false x f = tt

  or_else : {A : Type 0} (o : Option A) (f : A → Option B) (d : Option B) → ((x : A) → IfSome (f x) P) → IfSome d P → IfSome (option_map_or f o d) P
  or_else None f d each rest = rest
  or_else (Some x) f d each rest = each x

  chained : {A : Type 0} (Q : A → Type 0) (o : Option A) (f : A → Option B) → IfSome o Q → ((x : A) → Q x → IfSome (f x) P) → IfSome (o >>= f) P
  chained Q None f first each = tt
  chained Q (Some x) f first each = each x first

any : {A : Type 0} (o : Option A) → IfSome o (λ _. Unit {0})
any None = tt
any (Some x) = tt

below : (limit : ℕ) (bs : List ℕ) → IfSome (number_below limit bs) (λ n. n < limit)
below limit bs =
    guarded (λ n. n < limit) (nat_lt 0 (length bs) && list_all is_digit bs && nat_lt (digits_value bs) limit) (digits_value bs)
    (λ h. let less = (both (nat_lt 0 (length bs) && list_all is_digit bs) (nat_lt (digits_value bs) limit) h).1 in grind (arith, nat_tests))

short : (text : List ℕ) → has_text_length text ≡ true → length text ≤ most_text
short text h = let few = (both (nat_lt 0 (length text)) (nat_le (length text) most_text) h).1 in grind (arith, nat_tests)

requested : (o : Option Request) → IfSome (option_map submit o) (CanBeAsked 0)
requested None = tt
requested (Some r) = tt

asked : (level : ℕ) → is_level level ≡ true → (text : List ℕ) → IfSome (ask_of level text) (CanBeAsked 0)
asked level is text = guarded (CanBeAsked 0) (has_text_length text) (ask level text) (λ h. (is, short text h, omega arith))

asked_at : (level : ℕ) → is_level level ≡ true → (parts : List ℕ) → IfSome (ask_at_of level parts) (CanBeAsked 0)
asked_at level is parts =
    chained (CanBeAsked 0) (λ n. n < suc positions) (number_below (suc positions) (before_first is_space parts)) _ (below (suc positions) (before_first is_space parts))
    (λ floor few. guarded (CanBeAsked 0) (has_text_length (after_first is_space parts)) (ask_at level floor (after_first is_space parts)) (λ h. (is, short (after_first is_space parts) h, omega (arith, few))))

at_1 : (line : List ℕ) → IfSome (command_at_1 line) (CanBeAsked 0)
unfolding command_at_1
at_1 line =
    or_else (CanBeAsked 0) (text_after (codes "submit ") line) (submit_of 1) _ (λ parts. requested (request_of 1 parts))
    (or_else (CanBeAsked 0) (text_after (codes "askat ") line) (ask_at_of 1) _ (asked_at 1 refl) (chained (CanBeAsked 0) (λ _. Unit {0}) (text_after (codes "ask ") line) (ask_of 1) (any _) (λ text u. asked 1 refl text)))

of_line : (line : List ℕ) → IfSome (command_of line) (CanBeAsked 0)
unfolding command_of
of_line line =
    or_else (CanBeAsked 0) (text_after (codes "submit2 ") line) (submit_of 2) _ (λ parts. requested (request_of 2 parts))
    (or_else (CanBeAsked 0) (text_after (codes "askat2 ") line) (ask_at_of 2) _ (asked_at 2 refl) (or_else (CanBeAsked 0) (text_after (codes "ask2 ") line) (ask_of 2) _ (asked 2 refl) (at_1 line)))

alone : (is_more : Bool) (o : Option Command) → IfSome o (CanBeAsked 0) → IfSome (if is_more then None else o) (CanBeAsked 0)
alone true o h = tt
alone false o h = h

pub can_be_asked : (line : List ℕ) (command : Command) → command_alone line ≡ Some command → CanBeAsked 0 command
can_be_asked line command is = subst (λ o. IfSome o (CanBeAsked 0)) is (alone (list_any (λ b. b == 10) line) (command_of line) (of_line line))
