-- The characters of names are ASCII.
use Rattle.std.proofs.Common.{◌≡◌, ◌<◌, ℕ, true, List, [], ◌∷◌, ◌++◌, All, refl, ap, ◌∙◌, arith}
use Rattle.std.proofs.lemmas.Bool.Decides.{nat_tests}
use Rattle.std.proofs.lemmas.List.Elements.{All-head, All-tail}
use Rattle.std.proofs.lemmas.Str.{encode_ascii}
use Rattle.std.specs.Str.{encode_utf8_all}
use Rattle.document_names.specs.Characters.{is_name_character}

is_ascii : (c : ℕ) → is_name_character c ≡ true → c < 128
is_ascii c h = grind (arith, nat_tests)

pub name_is_ascii : (cs : List ℕ) → All (λ c. is_name_character c ≡ true) cs → encode_utf8_all cs ≡ cs
name_is_ascii [] h = refl
name_is_ascii (c ∷ cs) h =
    ap (λ b. b ++ encode_utf8_all cs) (encode_ascii c (is_ascii c (All-head (λ c. is_name_character c ≡ true) c cs h)))
    ∙ ap (λ bs. c ∷ bs) (name_is_ascii cs (All-tail (λ c. is_name_character c ≡ true) c cs h))
