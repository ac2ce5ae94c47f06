-- What requests, questions and setups are to contracts.
use Rattle.std.specs.Prelude.{ℕ, ◌≤◌, Bool, ◌&&◌, ◌==◌, nat_eq, nat_le, List, refl}
use Rattle.std.specs.Cmp.Lexicographic.{pointwise}
use Rattle.std.specs.Coded.{Coded, code_by, coded×, coded_ℕ, coded_list}
use Rattle.ballots.specs.Ballot.{most_members}

-- what a client asks for: its number, the number of the request, the language level and the bytes of the text
pub record Request : Type 0 where
  pub client : ℕ
  pub number : ℕ
  pub level : ℕ
  pub text : List ℕ

abbrev pub request_code : Coded Request
request_code =
    code_by (ℕ × (ℕ × (ℕ × List ℕ))) (coded× coded_ℕ (coded× coded_ℕ (coded× coded_ℕ (coded_list coded_ℕ)))) (λ r. (r.client, (r.number, (r.level, r.text)))) (λ p. record { client = p.0; number = p.1.0; level = p.1.1.0; text = p.1.1.1 }) (λ _. refl)

-- a client's question, to be answered where at least floor positions are applied
pub record Question : Type 0 where
  pub client : ℕ
  pub number : ℕ
  pub floor : ℕ
  pub level : ℕ
  pub text : List ℕ

abbrev pub question_code : Coded Question
question_code =
    code_by (ℕ × (ℕ × (ℕ × (ℕ × List ℕ)))) (coded× coded_ℕ (coded× coded_ℕ (coded× coded_ℕ (coded× coded_ℕ (coded_list coded_ℕ))))) (λ q. (q.client, (q.number, (q.floor, (q.level, q.text))))) (λ p. record { client = p.0; number = p.1.0; floor = p.1.1.0; level = p.1.1.1.0; text = p.1.1.1.1 }) (λ _. refl)

-- The levels of the language are 1 to this (our own choice): at 2 there is `copy .. modify .. return` beside all that there is at 1.
abbrev pub most_level : ℕ
most_level = 2

-- a level that there is
abbrev pub is_level : ℕ → Bool
is_level level = nat_le 1 level && nat_le level most_level

-- the bytes that a request's or a question's text has at most (our own choice)
abbrev pub most_text : ℕ
most_text = 4096

-- the bytes that an answer's text has at most (our own choice)
abbrev pub most_answer : ℕ
most_answer = 32768

-- the two agree in all four
abbrev pub same_request : Request → Request → Bool
same_request a b = (a.client == b.client && a.number == b.number) && (a.level == b.level && pointwise nat_eq a.text b.text)

-- of one client and number, whatever the level and the text
abbrev pub same_number : Request → Request → Bool
same_number a b = a.client == b.client && a.number == b.number

-- one member's place: the group, its number, how many members there are, and the names of the documents
pub record Setup : Type 0 where
  pub group : ℕ
  pub member : ℕ
  pub members : ℕ
  pub names : List (List ℕ)

abbrev pub setup_code : Coded Setup
setup_code =
    code_by (ℕ × (ℕ × (ℕ × List (List ℕ)))) (coded× coded_ℕ (coded× coded_ℕ (coded× coded_ℕ (coded_list (coded_list coded_ℕ))))) (λ s. (s.group, (s.member, (s.members, s.names)))) (λ p. record { group = p.0; member = p.1.0; members = p.1.1.0; names = p.1.1.1 }) (λ _. refl)

-- there are 1 to 63 members, and it is one of them
abbrev pub IsPlace : (member members : ℕ) → Type 0
IsPlace member members = (1 ≤ member) × (member ≤ members) × (members ≤ most_members)
