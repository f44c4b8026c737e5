-- The record of what a check did, where nothing was written; and what a source that was read to its end, or too far, had left.
use Rattle.std.proofs.Common.{◌≡◌, ◌≢◌, ℕ, ◌<◌, ◌≤◌, List, ◌⊎◌, inl, inr, Option, None, Some, length, refl, sym, subst, arith}
use Rattle.std.specs.Prelude.{IfSome}
use Rattle.std.proofs.lemmas.List.{append-nil}
use Rattle.port_io.specs.Ports.{Gains, Gives, IsAtEnd}
use Rattle.omid_check_top.specs.declared.limit.TheConstants.{TRACE_LIMIT}
use Rattle.omid_check_top.specs.declared.words.Question.{Question}
use Rattle.omid_check_top.specs.Commands.{Checks, GainsFront, Told, ToldFront}
use Rattle.omid_check_top.specs.Verdicts.{IsEnd, IsRight, IsVerdict, too_long_text}

-- ---- statuses
pub check_codes : (code : ℕ) → IsVerdict code ⊎ (code ≡ 5) ⊎ (code ≡ 6) → IsVerdict code ⊎ (4 ≤ code) × (code ≤ 6)
check_codes code (inl told) = inl told
check_codes code (inr (inl e)) = inr (omega (arith, e), omega (arith, e))
check_codes code (inr (inr e)) = inr (omega (arith, e), omega (arith, e))

pub long_codes : (code : ℕ) → (code ≡ 3) ⊎ (code ≡ 5) ⊎ (code ≡ 6) → IsVerdict code ⊎ (4 ≤ code) × (code ≤ 6)
long_codes code (inl e) = inl (inr e)
long_codes code (inr (inl e)) = inr (omega (arith, e), omega (arith, e))
long_codes code (inr (inr e)) = inr (omega (arith, e), omega (arith, e))

not_end : (code : ℕ) → 2 < code → code < 7 → IsEnd code → ⊥
not_end code low high (inl e) = omega (arith, e, low)
not_end code low high (inr (inl e)) = omega (arith, e, high)
not_end code low high (inr (inr (inl e))) = omega (arith, e, high)
not_end code low high (inr (inr (inr e))) = omega (arith, e, high)

not_verdict : (code : ℕ) → 3 < code → code < 7 → IsVerdict code → ⊥
not_verdict code low high (inl end) = not_end code (omega (arith, low)) high end
not_verdict code low high (inr e) = omega (arith, e, low)

pub long_is_no_end : {P : Type 0} (code : ℕ) → (code ≡ 3) ⊎ (code ≡ 5) ⊎ (code ≡ 6) → IsEnd code → P
long_is_no_end code (inl e) end = absurd (not_end code (omega (arith, e)) (omega (arith, e)) end)
long_is_no_end code (inr (inl e)) end = absurd (not_end code (omega (arith, e)) (omega (arith, e)) end)
long_is_no_end code (inr (inr e)) end = absurd (not_end code (omega (arith, e)) (omega (arith, e)) end)

pub long_is_three : (code : ℕ) → (code ≡ 3) ⊎ (code ≡ 5) ⊎ (code ≡ 6) → IsVerdict code → code ≡ 3
long_is_three code (inl e) told = e
long_is_three code (inr (inl e)) told = absurd (not_verdict code (omega (arith, e)) (omega (arith, e)) told)
long_is_three code (inr (inr e)) told = absurd (not_verdict code (omega (arith, e)) (omega (arith, e)) told)

pub verdict_is_not_five : (code : ℕ) → IsVerdict code → code ≢ 5
verdict_is_not_five code told five = not_verdict code (omega (arith, five)) (omega (arith, five)) told

-- ---- what was made of bytes was written
pub told_of : (question : Question) (bytes : List ℕ) (code result : ℕ) (held now : Option (List ℕ)) (text : List ℕ) → IsRight question bytes code text → (result ≢ 5 → (result ≡ code) × Gains held now text) → IsVerdict result → Told question bytes result held now
told_of question bytes code result held now text right all told =
    let both = all (verdict_is_not_five result told) in
    record { text = text; right = subst (λ (n : ℕ). IsRight question bytes n text) (sym both.0) right; told = both.1 }

pub front_of : (question : Question) (bytes : List ℕ) (code : ℕ) (held now : Option (List ℕ)) (text : List ℕ) → IsRight question bytes code text → GainsFront held now text → ToldFront question bytes held now
front_of question bytes code held now text right told = record { text = text; code = code; right = right; told = told }

-- ---- nothing was written
pub checks_silently : (question : Question) (code : ℕ) (left rest held now : Option (List ℕ)) → 3 < code → code < 7 → code ≢ 5 → Checks question code left rest held now
checks_silently question code left rest held now low high whole = record {
  read = λ end. absurd (not_end code (omega (arith, low)) high end);
  told = λ told. absurd (not_verdict code low high told);
  cut = λ five. absurd (whole five);
  codes = inr (omega (arith, low), omega (arith, high));
}

-- ---- the source
-- what holds of all bytes that were given holds of what a source had left
pub of_all_left : (old new : Option (List ℕ)) (bytes : List ℕ) (P : List ℕ → Type 0) → Gives old new bytes → IsAtEnd new → P bytes → IfSome old P
of_all_left old None bytes P given ended holds = rw given tt
of_all_left old (Some rest) bytes P given ended holds = rw (given, ended, append-nil bytes) holds

-- bytes that were left are too many
pub of_too_many : (left : Option (List ℕ)) (P : List ℕ → Type 0) → ((bytes : List ℕ) → TRACE_LIMIT < length bytes → P bytes) → IfSome left (λ bytes. TRACE_LIMIT < length bytes) → IfSome left P
of_too_many None P holds long = tt
of_too_many (Some bytes) P holds long = holds bytes long

pub long_told : (question : Question) (bytes : List ℕ) (code : ℕ) (held now : Option (List ℕ)) → TRACE_LIMIT < length bytes → code ≡ 3 → Gains held now too_long_text → Told question bytes code held now
long_told question bytes code held now long three told = record { text = too_long_text; right = inr (inr (record { long = long; status = three; told = refl })); told = told }

pub long_front : (question : Question) (bytes : List ℕ) (held now : Option (List ℕ)) → TRACE_LIMIT < length bytes → GainsFront held now too_long_text → ToldFront question bytes held now
long_front question bytes held now long told = record { text = too_long_text; code = 3; right = inr (inr (record { long = long; status = refl; told = refl })); told = told }
