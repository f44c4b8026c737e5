-- A round that changes nothing is the last.
use Rattle.std.proofs.Common.{◌≡◌, ℕ, zero, suc, ◌+◌, ◌-◌, ◌<◌, ◌≤◌, Bool, List, refl, sym, ap, ◌∙◌, arith}
use Rattle.trace_rules.specs.declared.trace.Operation.{Operation}
use Rattle.trace_index.specs.declared.attempts.Attempt.{Attempt}
use Rattle.trace_index.specs.Open.{round, rounds}

pub rounds_end : (attempts : List Attempt) (operations : List Operation) (n : ℕ) (flags : List Bool) → round attempts operations flags ≡ flags → rounds attempts operations n flags ≡ flags
unfolding rounds
rounds_end attempts operations zero flags same = refl
rounds_end attempts operations (suc n) flags same = ap (rounds attempts operations n) same ∙ rounds_end attempts operations n flags same

pub rounds_next : (attempts : List Attempt) (operations : List Operation) (n : ℕ) (flags : List Bool) → rounds attempts operations (suc n) flags ≡ rounds attempts operations n (round attempts operations flags)
unfolding rounds
rounds_next attempts operations n flags = refl

one_less : (n i : ℕ) → i < n → n - i ≡ suc (n - (i + 1))
one_less n i within = omega (arith, within)

-- what is left behind a round
pub rounds_left : (attempts : List Attempt) (operations : List Operation) (n i : ℕ) (flags new : List Bool) → i < n → new ≡ round attempts operations flags
    → rounds attempts operations (n - (i + 1)) new ≡ rounds attempts operations (n - i) flags
rounds_left attempts operations n i flags new within made =
    ap (rounds attempts operations (n - (i + 1))) made ∙ sym (rounds_next attempts operations (n - (i + 1)) flags) ∙ ap (λ m. rounds attempts operations m flags) (sym (one_less n i within))

none_left : (n i : ℕ) → n ≤ i → n - i ≡ 0
none_left n i past = omega (arith, past)

-- all rounds were made
pub rounds_over : (attempts : List Attempt) (operations : List Operation) (n i : ℕ) (flags : List Bool) → n ≤ i → rounds attempts operations (n - i) flags ≡ flags
unfolding rounds
rounds_over attempts operations n i flags past = ap (λ m. rounds attempts operations m flags) (none_left n i past)
