-- How the lines of some bytes follow from their front.
use Rattle.std.proofs.Common.{◌≡◌, ℕ, ◌+◌, ◌<◌, ◌≤◌, ◌==◌, Bool, true, false, List, [], ◌∷◌, Option, None, Some, length, take, drop, refl, sym, ap, ◌∙◌, subst, arith}
use Rattle.std.specs.Prelude.{slice_index}
use Rattle.std.specs.List.{slice_split, position_or_len}
use Rattle.std.specs.Option.{unwrap_or}
use Rattle.std.specs.Str.Lines.{lines, lines_of_parts, strip_carriage_return}
use Rattle.std.proofs.Math.Dec.{eqb-suc-zero}
use Rattle.std.proofs.Math.Seq.{drop-length}
use Rattle.std.proofs.lemmas.List.Sums.{position_or_len_is, fails_before_first}
use Rattle.std.proofs.lemmas.List.Splits.{slice_split_first, slice_split_none, length-slice_split}
use Rattle.memchr.specs.Find.{IsFirstByte, Nowhere, Passes, is_byte}

-- where a search for the first line feed ends
unmarked : (b : Bool) → (b ≡ true → ⊥) → b ≡ false
unmarked true no_mark = absurd (no_mark refl)
unmarked false no_mark = refl

none_below : (bytes : List ℕ) (n : ℕ) → Nowhere (Passes (is_byte 10) bytes) 0 n → (k : ℕ) → k < n → (slice_index bytes k == 10) ≡ false
none_below bytes n nowhere k below = unmarked (slice_index bytes k == 10) (nowhere k (omega arith) below)

pub first_feed : (bytes : List ℕ) (found : Option ℕ) → IsFirstByte (is_byte 10) bytes found → unwrap_or found (length bytes) ≡ position_or_len (λ b. b == 10) bytes
first_feed bytes None nowhere =
    sym (position_or_len_is (λ b. b == 10) bytes (length bytes) 0 (omega arith) (none_below bytes (length bytes) nowhere) (λ h. absurd (omega (arith, h))))
first_feed bytes (Some end) found =
    sym (position_or_len_is (λ b. b == 10) bytes end 0 (omega (arith, found.0.high)) (none_below bytes end found.0.before) (λ _. found.1))

-- a part that is not the last is a line
lines_of_parts-cons : (part : List ℕ) (parts : List (List ℕ)) → 0 < length parts → lines_of_parts (part ∷ parts) ≡ strip_carriage_return part ∷ lines_of_parts parts
lines_of_parts-cons part [] h = absurd (omega arith)
lines_of_parts-cons part (next ∷ more) h = refl

pub lines-front : (bytes : List ℕ) (n : ℕ) → n ≡ position_or_len (λ b. b == 10) bytes → n < length bytes → lines bytes ≡ strip_carriage_return (take n bytes) ∷ lines (drop (n + 1) bytes)
lines-front bytes n is within =
    subst (λ (m : ℕ). lines bytes ≡ strip_carriage_return (take m bytes) ∷ lines (drop (m + 1) bytes)) (sym is)
    (ap lines_of_parts (slice_split_first (λ b. b == 10) bytes 0 (omega arith))
    ∙ lines_of_parts-cons (take (position_or_len (λ b. b == 10) bytes) bytes) (slice_split (λ b. b == 10) (drop (position_or_len (λ b. b == 10) bytes + 1) bytes))
    (omega (arith, length-slice_split (λ b. b == 10) (drop (position_or_len (λ b. b == 10) bytes + 1) bytes))))

last_line : (bytes : List ℕ) → 0 < length bytes → lines_of_parts (bytes ∷ []) ≡ bytes ∷ []
last_line [] h = absurd (omega arith)
last_line (b ∷ bs) h = rw (eqb-suc-zero (length bs)) refl

pub lines-last : (bytes : List ℕ) (n : ℕ) → n ≡ position_or_len (λ b. b == 10) bytes → length bytes ≤ n → n ≤ length bytes → 0 < length bytes → lines bytes ≡ bytes ∷ lines (drop n bytes)
lines-last bytes n is past within some =
    let all : n ≡ length bytes = omega arith in
    let none : drop n bytes ≡ [] = rw all (drop-length bytes) in
    ap lines_of_parts (slice_split_none (λ b. b == 10) bytes (λ k d h. fails_before_first (λ b. b == 10) bytes k d (omega arith)))
    ∙ last_line bytes some ∙ rw none refl
