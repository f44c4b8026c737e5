-- The flags after as many rounds as there are transactions are closed, and below each choice.
use Rattle.std.proofs.Common.{◌≡◌, ℕ, zero, suc, ◌+◌, ◌<◌, ◌≤◌, Bool, true, false, cond, ◌&&◌, List, [], ◌∷◌, None, Some, ◌⊎◌, inl, inr, length, slice_get, map, refl, sym, ap, ◌∙◌, subst, arith}
use Rattle.std.proofs.lemmas.Bool.{and_parts, false≢true}
use Rattle.std.proofs.lemmas.Option.{same_Some}
use Rattle.trace_rules.specs.declared.trace.Operation.{Operation}
use Rattle.trace_rules.specs.declared.trace.Operation.TheVariants.{Read, Write}
use Rattle.trace_rules.specs.declared.trace.Version.{Version}
use Rattle.trace_index.specs.declared.attempts.Attempt.{Attempt}
use Rattle.trace_index.specs.Open.{counts_at, flags_of, found_settles, is_committed, open_at, round, rounds, settles, with_flag}
use Rattle.trace_index.specs.Choices.{IsChoice}
use Rattle.trace_index.proofs.FlagLemmas.{missing, flag_counts, flag_keeps, flag_length, flag_missing, flag_there, missing_within}

module _ (attempts : List Attempt) where
  -- ---- one operation
  found_cases : (P : List Bool → Type 0) (flags : List Bool) (txn : ℕ) (found : Version) → P flags → (counts_at flags txn ≡ true → open_at (slice_get attempts found.from) ≡ true → P (with_flag flags found.from)) → P (found_settles attempts flags txn (Some found))
  found_cases P flags txn found same set =
      elim (counts_at flags txn && open_at (slice_get attempts found.from)) as (λ b. counts_at flags txn && open_at (slice_get attempts found.from) ≡ b → P (cond b (with_flag flags found.from) flags))
      [ true ↦ λ e. let both = and_parts _ _ e in set both.0 both.1 | false ↦ λ e. same ] refl

  step_cases : (P : List Bool → Type 0) (flags : List Bool) (operation : Operation) → P flags
      → ((txn key : ℕ) (found : Version) → operation ≡ Read txn key (Some found) → counts_at flags txn ≡ true → open_at (slice_get attempts found.from) ≡ true → P (with_flag flags found.from)) → P (settles attempts flags operation)
  step_cases P flags (Read txn key None) same set = same
  step_cases P flags (Read txn key (Some found)) same set = found_cases P flags txn found same (λ counted is_open. set txn key found refl counted is_open)
  step_cases P flags (Write txn key value) same set = same

  step_keeps : (flags : List Bool) (operation : Operation) (t : ℕ) → counts_at flags t ≡ true → counts_at (settles attempts flags operation) t ≡ true
  step_keeps flags operation t h = step_cases (λ fs. counts_at fs t ≡ true) flags operation h (λ txn key found is counted is_open. flag_keeps flags found.from t h)

  step_length : (flags : List Bool) (operation : Operation) → length (settles attempts flags operation) ≡ length flags
  step_length flags operation = step_cases (λ fs. length fs ≡ length flags) flags operation refl (λ txn key found is counted is_open. flag_length flags found.from)

  step_missing : (flags : List Bool) (operation : Operation) → (settles attempts flags operation ≡ flags) ⊎ (missing (settles attempts flags operation) < missing flags)
  step_missing flags operation = step_cases (λ fs. (fs ≡ flags) ⊎ (missing fs < missing flags)) flags operation (inl refl) (λ txn key found is counted is_open. flag_missing flags found.from)

  -- ---- a round
  round_keeps : (operations : List Operation) (flags : List Bool) (t : ℕ) → counts_at flags t ≡ true → counts_at (round attempts operations flags) t ≡ true
  round_keeps [] flags t h = h
  round_keeps (o ∷ os) flags t h = round_keeps os (settles attempts flags o) t (step_keeps flags o t h)

  round_length : (operations : List Operation) (flags : List Bool) → length (round attempts operations flags) ≡ length flags
  round_length [] flags = refl
  round_length (o ∷ os) flags = round_length os (settles attempts flags o) ∙ step_length flags o

  no_more : (one other more : ℕ) → (one < other) → (more ≤ one) → more < other
  no_more one other more less under = omega (arith, less, under)

  no_more_missing : (operations : List Operation) (flags : List Bool) → missing (round attempts operations flags) ≤ missing flags
  no_more_missing [] flags = omega arith
  no_more_missing (o ∷ os) flags =
      let rest = no_more_missing os (settles attempts flags o) in
      elim (step_missing flags o) [
        | inl same ↦ subst (λ (fs : List Bool). missing (round attempts os (settles attempts flags o)) ≤ missing fs) same rest
        | inr less ↦ omega (arith, less, rest)
      ]

  round_missing : (operations : List Operation) (flags : List Bool) → (round attempts operations flags ≡ flags) ⊎ (missing (round attempts operations flags) < missing flags)
  round_missing [] flags = inl refl
  round_missing (o ∷ os) flags = elim (step_missing flags o) [
    | inl same ↦ subst (λ (fs : List Bool). (round attempts os fs ≡ flags) ⊎ (missing (round attempts os fs) < missing flags)) (sym same) (round_missing os flags)
    | inr less ↦ inr (no_more _ _ _ less (no_more_missing os (settles attempts flags o)))
  ]

  -- where a round changes nothing, no operation does
  less_differs : (one other : List Bool) → missing one < missing other → one ≡ other → ⊥
  less_differs one other less same = let same_missing = ap missing same in omega (arith, less, same_missing)

  first_same : (o : Operation) (os : List Operation) (flags : List Bool) → round attempts (o ∷ os) flags ≡ flags → settles attempts flags o ≡ flags
  first_same o os flags same = elim (step_missing flags o) [ inl it ↦ it | inr less ↦ absurd (less_differs _ _ (no_more _ _ _ less (no_more_missing os (settles attempts flags o))) same) ]

  each_same : (operations : List Operation) (flags : List Bool) → round attempts operations flags ≡ flags → (place : ℕ) (o : Operation) → slice_get operations place ≡ Some o → settles attempts flags o ≡ flags
  each_same [] flags same place o at = absurd (cc)
  each_same (p ∷ ps) flags same zero o at = subst (λ (q : Operation). settles attempts flags q ≡ flags) (same_Some p o at) (first_same p ps flags same)
  each_same (p ∷ ps) flags same (suc place) o at = each_same ps flags (ap (round attempts ps) (sym (first_same p ps flags same)) ∙ same) place o at

  module _ (operations : List Operation) where
    -- ---- all rounds
    rounds_keep : (n : ℕ) (flags : List Bool) (t : ℕ) → counts_at flags t ≡ true → counts_at (rounds attempts operations n flags) t ≡ true
    unfolding rounds
    rounds_keep zero flags t h = h
    rounds_keep (suc n) flags t h = rounds_keep n (round attempts operations flags) t (round_keeps operations flags t h)

    rounds_length : (n : ℕ) (flags : List Bool) → length (rounds attempts operations n flags) ≡ length flags
    unfolding rounds
    rounds_length zero flags = refl
    rounds_length (suc n) flags = rounds_length n (round attempts operations flags) ∙ round_length operations flags

    rounds_stay : (n : ℕ) (flags : List Bool) → round attempts operations flags ≡ flags → rounds attempts operations n flags ≡ flags
    unfolding rounds
    rounds_stay zero flags same = refl
    rounds_stay (suc n) flags same = ap (rounds attempts operations n) same ∙ rounds_stay n flags same

    -- after so many rounds nothing changes any more, or so many less are missing
    Ended : ℕ → List Bool → Type 0
    Ended n flags = (round attempts operations (rounds attempts operations n flags) ≡ rounds attempts operations n flags) ⊎ (missing (rounds attempts operations n flags) + n ≤ missing flags)

    one_less : (left n now before : ℕ) → left + n ≤ now → now < before → left + suc n ≤ before
    one_less left n now before within less = omega (arith, within, less)

    rounds_end : (n : ℕ) (flags : List Bool) → Ended n flags
    unfolding rounds Ended
    rounds_end zero flags = inr (omega arith)
    rounds_end (suc n) flags = elim (round_missing operations flags) [
      | inl same ↦
          let stays = ap (rounds attempts operations n) same ∙ rounds_stay n flags same in
          inl (ap (round attempts operations) stays ∙ same ∙ sym stays)
      | inr less ↦ elim (rounds_end n (round attempts operations flags)) [ inl ended ↦ inl ended | inr within ↦ inr (one_less _ n _ _ within less) ]
    ]

    none_missing : (flags : List Bool) → missing flags ≡ 0 → round attempts operations flags ≡ flags
    none_missing flags none = elim (round_missing operations flags) [ inl same ↦ same | inr less ↦ absurd (omega (arith, less, none)) ]

    all_there : (left n before : ℕ) → left + n ≤ before → before ≤ n → left ≡ 0
    all_there left n before within all = omega (arith, within, all)

    few_missing : (n : ℕ) (flags : List Bool) → length flags ≡ n → missing flags ≤ n
    few_missing n flags all = omega (arith, all, missing_within flags)

    ended : (n : ℕ) (flags : List Bool) → length flags ≡ n → round attempts operations (rounds attempts operations n flags) ≡ rounds attempts operations n flags
    unfolding Ended
    ended n flags all = elim (rounds_end n flags) [
      | inl it ↦ it
      | inr within ↦ none_missing (rounds attempts operations n flags) (all_there _ n _ within (few_missing n flags all))
    ]

-- ---- at first
first_length : (attempts : List Attempt) → length (map (λ attempt. is_committed attempt.fate) attempts) ≡ length attempts
first_length [] = refl
first_length (a ∷ others) = grind (arith, first_length others)

first_counts : (attempts : List Attempt) (t : ℕ) (attempt : Attempt) → slice_get attempts t ≡ Some attempt → is_committed attempt.fate ≡ true → counts_at (map (λ attempt. is_committed attempt.fate) attempts) t ≡ true
first_counts [] t attempt at done = absurd (cc)
first_counts (a ∷ others) zero attempt at done = subst (λ (b : Attempt). is_committed b.fate ≡ true) (sym (same_Some a attempt at)) done
first_counts (a ∷ others) (suc t) attempt at done = first_counts others t attempt at done

-- what counts at first was committed
first_only : (attempts : List Attempt) (chosen : ℕ → Bool) → ((t : ℕ) (attempt : Attempt) → slice_get attempts t ≡ Some attempt → is_committed attempt.fate ≡ true → chosen t ≡ true)
    → (t : ℕ) → counts_at (map (λ attempt. is_committed attempt.fate) attempts) t ≡ true → chosen t ≡ true
first_only [] chosen committed t h = absurd (false≢true h)
first_only (a ∷ others) chosen committed zero h = committed 0 a refl h
first_only (a ∷ others) chosen committed (suc t) h = first_only others (λ u. chosen (suc u)) (λ u attempt at done. committed (suc u) attempt at done) t h

within_of_open : (attempts : List Attempt) (t : ℕ) → open_at (slice_get attempts t) ≡ true → t < length attempts
within_of_open [] t h = absurd (false≢true h)
within_of_open (a ∷ others) zero h = omega arith
within_of_open (a ∷ others) (suc t) h = omega (arith, within_of_open others t h)

-- ---- the two laws
read_settles : (attempts : List Attempt) (flags : List Bool) (txn : ℕ) (found : Version) → length flags ≡ length attempts → found_settles attempts flags txn (Some found) ≡ flags → counts_at flags txn ≡ true → open_at (slice_get attempts found.from) ≡ true
    → counts_at flags found.from ≡ true
read_settles attempts flags txn found all same counted is_open =
    let inside = within_of_open attempts found.from is_open in
    flag_there flags found.from (omega (arith, all, inside)) (rw (counted, is_open) at same)

pub closed : (attempts : List Attempt) (operations : List Operation) → IsChoice attempts operations (counts_at (flags_of attempts operations))
closed attempts operations =
    let at_first = map (λ (attempt : Attempt). is_committed attempt.fate) attempts in
    let all = first_length attempts in
    let same = ended attempts operations (length attempts) at_first all in
    record {
      committed = λ t attempt at done. rounds_keep attempts operations (length attempts) at_first t (first_counts attempts t attempt at done);
      read = λ place txn key found at counted is_open.
          read_settles attempts (flags_of attempts operations) txn found (rounds_length attempts operations (length attempts) at_first ∙ all) (each_same attempts operations (flags_of attempts operations) same place (Read txn key (Some found)) at) counted is_open;
    }

module _ (attempts : List Attempt) (chosen : ℕ → Bool) where
  abbrev Below : List Bool → Type 0
  Below flags = (t : ℕ) → counts_at flags t ≡ true → chosen t ≡ true

  flag_below : (flags : List Bool) (i : ℕ) → Below flags → chosen i ≡ true → Below (with_flag flags i)
  flag_below flags i below is t h = elim (flag_counts flags i t h) [ inl e ↦ subst (λ (u : ℕ). chosen u ≡ true) (sym e) is | inr counted ↦ below t counted ]

  abbrev Follows : Operation → Type 0
  Follows o = (txn key : ℕ) (found : Version) → o ≡ Read txn key (Some found) → chosen txn ≡ true → open_at (slice_get attempts found.from) ≡ true → chosen found.from ≡ true

  step_below : (flags : List Bool) (o : Operation) → Follows o → Below flags → Below (settles attempts flags o)
  step_below flags o follows below = step_cases attempts Below flags o below (λ txn key found is counted is_open. flag_below flags found.from below (follows txn key found is (below txn counted) is_open))

  abbrev AllFollow : List Operation → Type 0
  AllFollow os = (place : ℕ) (o : Operation) → slice_get os place ≡ Some o → Follows o

  round_below : (os : List Operation) (flags : List Bool) → AllFollow os → Below flags → Below (round attempts os flags)
  round_below [] flags follow below = below
  round_below (o ∷ os) flags follow below = round_below os (settles attempts flags o) (λ place p at. follow (suc place) p at) (step_below flags o (follow 0 o refl) below)

  rounds_below : (os : List Operation) (n : ℕ) (flags : List Bool) → AllFollow os → Below flags → Below (rounds attempts os n flags)
  unfolding rounds
  rounds_below os zero flags follow below = below
  rounds_below os (suc n) flags follow below = rounds_below os n (round attempts os flags) follow (round_below os flags follow below)

pub least : (attempts : List Attempt) (operations : List Operation) (chosen : ℕ → Bool) (t : ℕ) → IsChoice attempts operations chosen → counts_at (flags_of attempts operations) t ≡ true → chosen t ≡ true
least attempts operations chosen t choice h =
    rounds_below attempts chosen operations (length attempts) _
    (λ place o at txn key found is counted is_open. choice.read place txn key found (at ∙ ap Some is) counted is_open)
    (first_only attempts chosen choice.committed) t h
