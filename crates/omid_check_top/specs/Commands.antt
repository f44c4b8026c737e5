-- What each command does, status by status. A source had `left` left and has `rest`; a sink held `held` and holds `now`. Where one
-- does not tell its content, what is said of content says nothing.
use Rattle.std.specs.Prelude.{◌≡◌, ℕ, ◌≤◌, List, ◌⊎◌, Option, IfSome, take}
use Rattle.port_io.specs.Ports.{Gains, IsAtEnd}
use Rattle.omid_check_top.specs.declared.words.Question.{Question}
use Rattle.omid_check_top.specs.Verdicts.{IsEnd, IsRight, IsVerdict}
use Rattle.omid_check_top.specs.Words.{usage_text}

-- the sink got a front of the text
abbrev pub GainsFront : Option (List ℕ) → Option (List ℕ) → List ℕ → Type 0
GainsFront held now text = (sent : ℕ) × Gains held now (take sent text)

-- what is right to say of the bytes went out whole, with its status
pub record Told (question : Question) (bytes : List ℕ) (code : ℕ) (held now : Option (List ℕ)) : Type 0 where
  pub text : List ℕ
  pub right : IsRight question bytes code text
  pub told : Gains held now text

-- a front of it went out
pub record ToldFront (question : Question) (bytes : List ℕ) (held now : Option (List ℕ)) : Type 0 where
  pub text : List ℕ
  pub code : ℕ
  pub right : IsRight question bytes code text
  pub told : GainsFront held now text

-- A trace was read and judged, and the verdict was written with why, or what is wanted of its bytes; or a front of either went out; or
-- nothing did.
pub record Checks (question : Question) (code : ℕ) (left rest held now : Option (List ℕ)) : Type 0 where
  pub read : IsEnd code → IsAtEnd rest
  pub told : IsVerdict code → IfSome left (λ bytes. Told question bytes code held now)
  pub cut : code ≡ 5 → IfSome left (λ bytes. ToldFront question bytes held now)
  pub codes : IsVerdict code ⊎ (4 ≤ code) × (code ≤ 6)

-- How the program is used was written, with this status, or a front of it.
pub record SaysUsage (status code : ℕ) (held now : Option (List ℕ)) : Type 0 where
  pub usage : code ≡ status → Gains held now usage_text
  pub cut : code ≡ 5 → GainsFront held now usage_text
  pub codes : (code ≡ status) ⊎ (code ≡ 5)
