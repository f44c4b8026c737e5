-- The small traces, gone through.
use Rattle.std.proofs.Common.{◌≡◌, ◌≢◌, ◌==◌, if◌then◌else◌, ℕ, zero, suc, ◌<◌, ◌⊎◌, Bool, true, false, Option, Some, None, slice_get, take, inl, inr, refl, sym, ap, ◌∙◌, arith}
use Rattle.std.specs.Option.{option_or}
use Rattle.std.proofs.lemmas.Option.{same_Some}
use Rattle.trace_rules.specs.declared.trace.Version.{Version}
use Rattle.trace_rules.specs.declared.trace.Operation.TheVariants.{Read}
use Rattle.trace_rules.specs.Trace.{Done, Writer, ReadAt, OuterRead, last_of}
use Rattle.trace_rules.specs.declared.wanted.Level.TheVariants.{Snapshot, Serializable}
use Rattle.trace_rules.specs.Stamping.{Stamping, ShareKey, Numbered, RightAnswer, Start, Commit, Stampable}
use Rattle.trace_rules.specs.Below.{Below, MissesAll, Parts, Wanted, Then}
use Rattle.trace_rules.specs.Wants.{no_wants, sessions}
use Rattle.trace_rules.proofs.Forced.{cycles}
use Rattle.trace_rules.specs.WorkedTraces.{skew}

module _ (p q : ℕ) where
  zero_reads : OuterRead (skew p q) 0 1 None
  unfolding last_of
  zero_reads = record { place = 0; read = record { done = refl; stands = refl; before = refl } }

  one_reads : OuterRead (skew p q) 1 2 None
  unfolding last_of
  one_reads = record { place = 2; read = record { done = refl; stands = refl; before = refl } }

  zero_writes : Writer (skew p q) 0 2 7
  unfolding last_of
  zero_writes = record { done = refl; wrote = refl }

  one_writes : Writer (skew p q) 1 1 8
  unfolding last_of
  one_writes = record { done = refl; wrote = refl }

not_one : ◌≢◌ {A = ℕ} 0 1
not_one e = absurd (omega (arith, e))

pub skew_not_serial : Stampable Serializable no_wants (skew 5 6) → ⊥
skew_not_serial s =
    let first : Below Serializable no_wants (skew 5 6) (Commit 0) (Start 1) = Parts not_one (record { first = refl; second = refl }) (MissesAll 1 8 (zero_reads 5 6) (one_writes 5 6)) in
    let second : Below Serializable no_wants (skew 5 6) (Start 1) (Commit 0) = MissesAll 2 7 (one_reads 5 6) (zero_writes 5 6) in
    cycles Serializable no_wants (skew 5 6) (Commit 0) (Then first second) s

pub skew_not_in_session : Stampable Snapshot (sessions (skew 5 5)) (skew 5 5) → ⊥
skew_not_in_session s =
    let first : Below Snapshot (sessions (skew 5 5)) (skew 5 5) (Commit 0) (Start 1) = Wanted refl in
    let second : Below Snapshot (sessions (skew 5 5)) (skew 5 5) (Start 1) (Commit 0) = MissesAll 2 7 (one_reads 5 5) (zero_writes 5 5) in
    cycles Snapshot (sessions (skew 5 5)) (skew 5 5) (Commit 0) (Then first second) s

-- ---- stamps of snapshots: both start, and then both commit
both : Stamping
both = record { start = λ t. t; commit = λ t. suc (suc t) }

module _ where
  done_low : (t : ℕ) → Done (skew 5 6) t → t < 2
  done_low zero d = omega arith
  done_low (suc zero) d = omega arith
  done_low (suc (suc t)) d = absurd (cc)

  numbered : Numbered both (skew 5 6)
  unfolding both
  numbered = record {
    ordered = λ t d. omega arith;
    starts = λ t u dt du same. same;
    commits = λ t u dt du same. omega (arith, same);
    no_start_commits = λ t u dt du same. let low = done_low t dt in absurd (omega (arith, low, same));
  }

  not_eq : (a b : ℕ) → a ≢ b → (a == b) ≡ false
  not_eq a b other = grind (arith, other)

  zero_wrote : (k v : ℕ) → last_of (skew 5 6).operations 0 k ≡ Some v → 2 ≡ k
  unfolding last_of
  zero_wrote k v e = by (2 == k) refl e
    where
      by : (b : Bool) → (2 == k) ≡ b → option_or (if b then Some 7 else None) None ≡ Some v → 2 ≡ k
      by true is some = grind (arith, is)
      by false is some = absurd (cc)

  one_wrote : (k v : ℕ) → last_of (skew 5 6).operations 1 k ≡ Some v → 1 ≡ k
  unfolding last_of
  one_wrote k v e = by (1 == k) refl e
    where
      by : (b : Bool) → (1 == k) ≡ b → option_or (option_or (option_or (if b then Some 8 else None) None) None) None ≡ Some v → 1 ≡ k
      by true is some = grind (arith, is)
      by false is some = absurd (cc)

  apart : (t u : ℕ) → t ≢ u → ShareKey (skew 5 6) t u → (suc (suc t) < u) ⊎ (suc (suc u) < t)
  apart zero zero other c = absurd (other refl)
  apart zero (suc zero) other c = let a = zero_wrote c.key c.value c.first.wrote in let b = one_wrote c.key c.other c.second.wrote in absurd (omega (arith, a, b))
  apart zero (suc (suc u)) other c = let low = done_low (suc (suc u)) c.second.done in absurd (omega (arith, low))
  apart (suc zero) zero other c = let a = one_wrote c.key c.value c.first.wrote in let b = zero_wrote c.key c.other c.second.wrote in absurd (omega (arith, a, b))
  apart (suc zero) (suc zero) other c = absurd (other refl)
  apart (suc zero) (suc (suc u)) other c = let low = done_low (suc (suc u)) c.second.done in absurd (omega (arith, low))
  apart (suc (suc t)) u other c = let low = done_low (suc (suc t)) c.first.done in absurd (omega (arith, low))

  -- the two reads answer with nothing, and none is after a write of its own
  answers_none : (place t k : ℕ) (answer : Option Version) (own : Option ℕ) → slice_get (skew 5 6).operations place ≡ Some (Read t k answer) → last_of (take place (skew 5 6).operations) t k ≡ own → (answer ≡ None) × (own ≡ None) × ((t ≡ 0) ⊎ (t ≡ 1))
  unfolding last_of
  answers_none zero t k answer own stands before = let e : Read 0 1 None ≡ Read t k answer = same_Some _ _ stands in (cc, sym before, inl (cc))
  answers_none (suc zero) t k answer own stands before = absurd (cc)
  answers_none (suc (suc zero)) t k answer own stands before =
      let e : Read 1 2 None ≡ Read t k answer = same_Some _ _ stands in
      let t_is : t ≡ 1 = cc in
      let k_is : k ≡ 2 = cc in
      let none : last_of (take 2 (skew 5 6).operations) t k ≡ None = ap (λ (n : ℕ). last_of (take 2 (skew 5 6).operations) n k) t_is ∙ ap (λ (n : ℕ). last_of (take 2 (skew 5 6).operations) 1 n) k_is in
      (cc, sym before ∙ none, inr t_is)
  answers_none (suc (suc (suc zero))) t k answer own stands before = absurd (cc)
  answers_none (suc (suc (suc (suc n)))) t k answer own stands before = absurd (cc)

  reads : (place t k : ℕ) (answer : Option Version) (own : Option ℕ) → ReadAt (skew 5 6) place t k answer own → RightAnswer both (skew 5 6) t k answer own
  unfolding both
  reads place t k answer own r = by answer own (answers_none place t k answer own r.stands r.before)
    where
      by : (answer : Option Version) (own : Option ℕ) → (answer ≡ None) × (own ≡ None) × ((t ≡ 0) ⊎ (t ≡ 1)) → RightAnswer both (skew 5 6) t k answer own
      by None None e = λ u value w low. elim e.2 [ inl z ↦ absurd (omega (arith, z, low)) | inr o ↦ absurd (omega (arith, o, low)) ]
      by None (Some own) e = absurd (cc)
      by (Some found) own e = absurd (cc)

pub skew_isolated : Stampable Snapshot no_wants (skew 5 6)
unfolding both
skew_isolated = record { stamps = both; isolated = record { numbered = numbered; apart = apart; reads = reads }; keeps = λ x y wanted. absurd (cc) }
