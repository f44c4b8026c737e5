-- A row of words and members in turn: behind its first member, and at its last words.
use Rattle.std.proofs.Common.{◌≡◌, ◌<◌, ◌≤◌, ℕ, Bor, length, drop, map, get_or, arith, List, [], ◌∷◌, inr, Option, None, Some, Result, Ok, Err, sym}
use Rattle.std.specs.Prelude.{IfOk, IfSome, MatchOption}
use Rattle.serde_json.specs.Data.{Data}
use Rattle.history_reading.specs.ReadWords.{after_text}
use Rattle.line_reasons.specs.declared.fault.LineFault.{LineFault}
use Rattle.line_reasons.specs.declared.fault.LineFault.TheVariants as fault
use Rattle.line_reasons.specs.TextLines.{BreaksOff, EndsWrong, behind_it, said_of}
use Rattle.line_reasons.specs.Objects.{IsWrongIn}

pub ok_on : {X E : Type 0} (r : Result X E) (P Q : X → Type 0) → ((x : X) → P x → Q x) → IfOk r P → IfOk r Q
ok_on (Ok x) P Q on is = on x is
ok_on (Err e) P Q on is = tt

some_on : {X : Type 0} (o : Option X) (P Q : X → Type 0) → ((x : X) → P x → Q x) → IfSome o P → IfSome o Q
some_on None P Q on is = tt
some_on (Some x) P Q on is = on x is

-- the bytes go on behind a member as they break off there
pub breaks_behind : (kind before : List ℕ) (row : List (Bor (List ℕ))) (d : Bor (List ℕ)) (bytes rest words name again said behind : List ℕ) → 2 ≤ length row
    → words ≡ (get_or row 0 d).now → name ≡ (get_or row 1 d).now → again ≡ (get_or row 1 d).now
    → Some rest ≡ after_text words bytes → said ≡ said_of name rest → behind ≡ behind_it again rest
    → (it : LineFault) → BreaksOff kind said (map (λ part. part.now) (drop 2 row)) behind it → BreaksOff kind before (map (λ part. part.now) row) bytes it
unfolding BreaksOff
breaks_behind kind before [] d bytes rest words name again said behind two w n m after s b it wrong = absurd (omega (arith, two))
breaks_behind kind before (x ∷ []) d bytes rest words name again said behind two w n m after s b it wrong = absurd (omega (arith, two))
breaks_behind kind before (x ∷ y ∷ more) d bytes rest words name again said behind two w n m after s b it wrong =
    let there : after_text x.now bytes ≡ Some rest = rw w at (sym after) in
    let one : said ≡ said_of y.now rest = rw n at s in
    let other : behind ≡ behind_it y.now rest = rw m at b in
    rw there (inr (rw (one, other) at wrong))

pub breaks_last : (kind before : List ℕ) (row : List (Bor (List ℕ))) (d : Bor (List ℕ)) (bytes words : List ℕ) (it : LineFault) → 1 ≤ length row → length row < 2
    → words ≡ (get_or row 0 d).now → MatchOption (after_text words bytes) (it ≡ fault.NoAnswer) (λ rest. EndsWrong rest it) → BreaksOff kind before (map (λ part. part.now) row) bytes it
unfolding BreaksOff
breaks_last kind before [] d bytes words it one few w last = absurd (omega (arith, one))
breaks_last kind before (x ∷ []) d bytes words it one few w last = rw w at last
breaks_last kind before (x ∷ y ∷ more) d bytes words it one few w last = absurd (omega (arith, few))

-- what is wrong behind a member is wrong
wrong_behind : (kind noted : List ℕ) (row : List (Bor (List ℕ))) (d : Data) → 2 ≤ length row → (it : LineFault)
    → IsWrongIn kind noted (map (λ part. part.now) (drop 2 row)) d it → IsWrongIn kind noted (map (λ part. part.now) row) d it
unfolding IsWrongIn
wrong_behind kind noted [] d two it wrong = absurd (omega (arith, two))
wrong_behind kind noted (x ∷ []) d two it wrong = absurd (omega (arith, two))
wrong_behind kind noted (x ∷ y ∷ more) d two it wrong = inr wrong

pub any_behind : (kind noted : List ℕ) (row : List (Bor (List ℕ))) (d : Data) → 2 ≤ length row → (found : Option LineFault)
    → IfSome found (IsWrongIn kind noted (map (λ part. part.now) (drop 2 row)) d) → IfSome found (IsWrongIn kind noted (map (λ part. part.now) row) d)
any_behind kind noted row d two found wrong = some_on found _ _ (wrong_behind kind noted row d two) wrong
