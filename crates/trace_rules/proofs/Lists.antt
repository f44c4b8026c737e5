-- A list that was read says its writers' order.
use Rattle.std.proofs.Common.{◌≡◌, ◌≢◌, ℕ, suc, ◌<◌, List, Some, slice_get, inl, inr, ap, arith}
use Rattle.trace_rules.specs.Trace.{Trace, Writer}
use Rattle.trace_rules.specs.declared.wanted.Level.{Level}
use Rattle.trace_rules.specs.declared.wanted.Level.TheVariants.{Snapshot, Serializable}
use Rattle.trace_rules.specs.Stamping.{Stamping, Conflict, IsolatedBy}
use Rattle.trace_rules.specs.Lists.{SeesList}

pub neighbours : (level : Level) (st : Stamping) (trace : Trace) (s k place t u : ℕ) (writers : List ℕ) → IsolatedBy level st trace → SeesList st trace s k writers → slice_get writers place ≡ Some t → slice_get writers (suc place) ≡ Some u → st.commit t < st.start u
neighbours level st trace s k place t u writers is sees a b =
    let one = sees.each place t a in
    let two = sees.each (suc place) u b in
    let rise = sees.rises place t u a b in
    elim (is.apart t u (differ rise) (conflict level one.0 two.0 one.1 two.1)) [
      | inl less ↦ less
      | inr less ↦ let own = is.numbered.ordered t one.1.done in absurd (omega (arith, rise, less, own))
    ]
  where
    differ : st.commit t < st.commit u → t ≢ u
    differ rise same = let equal : st.commit t ≡ st.commit u = ap (λ (n : ℕ). st.commit n) same in absurd (omega (arith, rise, equal))

    conflict : (l : Level) (v w : ℕ) → Writer trace t k v → Writer trace u k w → Conflict l trace t u
    conflict Snapshot v w one two = record { key = k; value = v; other = w; first = one; second = two }
    conflict Serializable v w one two = record { first = one.done; second = two.done }
