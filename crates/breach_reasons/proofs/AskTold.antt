-- The ask that is told is the last one.
use Rattle.std.proofs.Common.{◌≡◌, ◌≤◌, ◌||◌, ℕ, zero, suc, Bool, false, List, [], ◌∷◌, Option, Some, None, length, take, drop, refl, ap, ◌∙◌, arith}
use Rattle.std.specs.Prelude.{slice_get, MatchOption}
use Rattle.history_book.specs.Isolation.{asks, has_ask}
use Rattle.history_book.specs.declared.item.Item.{Item}
use Rattle.isolation_rules.specs.FreshPairs.{ask_place}
use Rattle.isolation_rules.proofs.AskLemmas.{before_no_ask, last_ask}
use Rattle.refusal_reasons.specs.declared.clue.Clue.TheVariants as clue
use Rattle.refusal_reasons.specs.Clues.{fits}
use Rattle.refusal_reasons.specs.Sought.{seek}
use Rattle.refusal_reasons.proofs.SeekLemmas.{Known, known}

-- ---- no ask from a place on
neither : (a b : Bool) → a ≡ false → b ≡ false → (a || b) ≡ false
neither a b ea eb = rw (ea, eb) refl

none_past : (s : ℕ) (xs : List Item) (n : ℕ) → ((later : ℕ) (x : Item) → n ≤ later → slice_get xs later ≡ Some x → asks s x ≡ false) → has_ask s (drop n xs) ≡ false
unfolding has_ask
none_past s [] zero none = refl
none_past s [] (suc n) none = refl
none_past s (x ∷ xs) zero none = neither (asks s x) (has_ask s xs) (none zero x (omega arith) refl) (none_past s xs zero (λ later y le e. none (suc later) y (omega arith) e))
none_past s (x ∷ xs) (suc n) none = none_past s xs n (λ later y le e. none (suc later) y (omega arith) e)

taken : (j : ℕ) (h : List Item) → j ≤ length h → length (take j h) ≡ j
taken zero h within = refl
taken (suc j) [] within = absurd (omega arith)
taken (suc j) (x ∷ h) within = ap suc (taken j h (omega arith))

told_by : (h : List Item) (session j : ℕ) (place : Option ℕ) → j ≤ length h → Known (fits (clue.AskedStart session)) (take j h) 0 place
    → MatchOption place (ask_place h session j ≡ j) (λ p. ask_place h session j ≡ p)
told_by h session j None within none =
    ap length (before_no_ask session (take j h) (none_past session (take j h) 0 (λ later x le e. none later x (omega arith) e))) ∙ taken j h within
told_by h session j (Some place) within last =
    (last_ask session (take j h) place last.item last.stands last.fits (none_past session (take j h) (suc place) (λ later x le e. last.last later x (omega arith) e))).1

pub ask_told : (h : List Item) (session j : ℕ) → j ≤ length h
    → MatchOption (seek (take j h) 0 (clue.AskedStart session)) (ask_place h session j ≡ j) (λ place. ask_place h session j ≡ place)
ask_told h session j within = told_by h session j (seek (take j h) 0 (clue.AskedStart session)) within (known (fits (clue.AskedStart session)) (take j h) 0)
