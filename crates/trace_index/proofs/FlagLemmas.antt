-- Flags that are set: what counts, how many are left, and how many flags there are.
use Rattle.std.proofs.Common.{◌≡◌, ℕ, zero, suc, ◌+◌, ◌<◌, ◌≤◌, Bool, true, false, cond, nat_lt, List, [], ◌∷◌, ◌⊎◌, inl, inr, length, slice_set, refl, sym, ap, ◌∙◌, arith}
use Rattle.trace_index.specs.Open.{counts_at, with_flag}

-- how many do not count
abbrev pub missing : List Bool → ℕ
missing [] = 0
missing (true ∷ fs) = missing fs
missing (false ∷ fs) = missing fs + 1

-- ---- one flag that is set
set_counts : (flags : List Bool) (i t : ℕ) → counts_at (slice_set flags i true) t ≡ true → (t ≡ i) ⊎ (counts_at flags t ≡ true)
set_counts [] i t h = inr h
set_counts (f ∷ fs) zero zero h = inl refl
set_counts (f ∷ fs) zero (suc t) h = inr h
set_counts (f ∷ fs) (suc i) zero h = inr h
set_counts (f ∷ fs) (suc i) (suc t) h = elim (set_counts fs i t h) [ inl e ↦ inl (ap suc e) | inr k ↦ inr k ]

set_keeps : (flags : List Bool) (i t : ℕ) → counts_at flags t ≡ true → counts_at (slice_set flags i true) t ≡ true
set_keeps [] i t h = h
set_keeps (f ∷ fs) zero zero h = refl
set_keeps (f ∷ fs) zero (suc t) h = h
set_keeps (f ∷ fs) (suc i) zero h = h
set_keeps (f ∷ fs) (suc i) (suc t) h = set_keeps fs i t h

set_here : (flags : List Bool) (i : ℕ) → i < length flags → counts_at (slice_set flags i true) i ≡ true
set_here [] i within = absurd (omega (arith, within))
set_here (f ∷ fs) zero within = refl
set_here (f ∷ fs) (suc i) within = set_here fs i (omega (arith, within))

set_length : (flags : List Bool) (i : ℕ) → length (slice_set flags i true) ≡ length flags
set_length [] i = refl
set_length (f ∷ fs) zero = refl
set_length (f ∷ fs) (suc i) = grind (arith, set_length fs i)

-- it changes nothing, or one less is missing
set_missing : (flags : List Bool) (i : ℕ) → (slice_set flags i true ≡ flags) ⊎ (missing (slice_set flags i true) < missing flags)
set_missing [] i = inl refl
set_missing (true ∷ fs) zero = inl refl
set_missing (false ∷ fs) zero = inr (omega arith)
set_missing (true ∷ fs) (suc i) = elim (set_missing fs i) [ inl same ↦ inl (ap (λ rest. true ∷ rest) same) | inr less ↦ inr (omega (arith, less)) ]
set_missing (false ∷ fs) (suc i) = elim (set_missing fs i) [ inl same ↦ inl (ap (λ rest. false ∷ rest) same) | inr less ↦ inr (omega (arith, less)) ]

-- ---- the same where the place may lie behind the flags
pub flag_counts : (flags : List Bool) (i t : ℕ) → counts_at (with_flag flags i) t ≡ true → (t ≡ i) ⊎ (counts_at flags t ≡ true)
flag_counts flags i t = elim (nat_lt i (length flags)) as (λ b. counts_at (cond b (slice_set flags i true) flags) t ≡ true → (t ≡ i) ⊎ (counts_at flags t ≡ true)) [ true ↦ set_counts flags i t | false ↦ λ h. inr h ]

pub flag_keeps : (flags : List Bool) (i t : ℕ) → counts_at flags t ≡ true → counts_at (with_flag flags i) t ≡ true
flag_keeps flags i t h = elim (nat_lt i (length flags)) as (λ b. counts_at (cond b (slice_set flags i true) flags) t ≡ true) [ true ↦ set_keeps flags i t h | false ↦ h ]

pub flag_length : (flags : List Bool) (i : ℕ) → length (with_flag flags i) ≡ length flags
flag_length flags i = elim (nat_lt i (length flags)) as (λ b. length (cond b (slice_set flags i true) flags) ≡ length flags) [ true ↦ set_length flags i | false ↦ refl ]

pub flag_missing : (flags : List Bool) (i : ℕ) → (with_flag flags i ≡ flags) ⊎ (missing (with_flag flags i) < missing flags)
flag_missing flags i = elim (nat_lt i (length flags)) as (λ b. (cond b (slice_set flags i true) flags ≡ flags) ⊎ (missing (cond b (slice_set flags i true) flags) < missing flags)) [ true ↦ set_missing flags i | false ↦ inl refl ]

-- a flag that is set already counts
pub flag_there : (flags : List Bool) (i : ℕ) → i < length flags → with_flag flags i ≡ flags → counts_at flags i ≡ true
flag_there flags i within same =
    let open_case : (b : Bool) → nat_lt i (length flags) ≡ b → counts_at (cond b (slice_set flags i true) flags) i ≡ true =
    λ b. elim b as (λ b. nat_lt i (length flags) ≡ b → counts_at (cond b (slice_set flags i true) flags) i ≡ true) [ true ↦ λ e. set_here flags i within | false ↦ λ e. absurd (grind (arith, e, within)) ] in
    ap (λ (fs : List Bool). counts_at fs i) (sym same) ∙ open_case (nat_lt i (length flags)) refl

pub missing_within : (flags : List Bool) → missing flags ≤ length flags
missing_within [] = omega arith
missing_within (true ∷ fs) = omega (arith, missing_within fs)
missing_within (false ∷ fs) = omega (arith, missing_within fs)
