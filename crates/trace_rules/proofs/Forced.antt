-- Edges hold in all stamps.
use Rattle.std.proofs.Common.{◌≡◌, ◌≢◌, ℕ, ◌<◌, ◌≤◌, ◌⊎◌, Option, None, Some, inl, inr, arith}
use Rattle.trace_rules.specs.declared.trace.Version.{Version}
use Rattle.trace_rules.specs.Trace.{Trace, Done, Writer, ReadAt, OuterRead}
use Rattle.trace_rules.specs.declared.wanted.Level.{Level}
use Rattle.trace_rules.specs.declared.wanted.Level.TheVariants.{Snapshot, Serializable}
use Rattle.trace_rules.specs.Stamping.{Stamping, Conflict, Newest, IsolatedBy, Point, stamp_of, Asked, Keeps, Stampable}
use Rattle.trace_rules.specs.Below.{Below, Own, ReadsFrom, Misses, MissesAll, Parts, Wanted, Then}

module _ (level : Level) (asked : Asked) (trace : Trace) (st : Stamping) (is : IsolatedBy level st trace) (keeps : Keeps asked st) where
  seen : (t k : ℕ) (found : Version) → OuterRead trace t k (Some found) → Newest st trace (st.start t) k found
  seen t k found r = is.reads r.place t k (Some found) None r.read

  -- not below and not the same is above
  above : (t u : ℕ) → Done trace t → Done trace u → (st.commit u < st.start t → ⊥) → st.start t < st.commit u
  above t u dt du none = elim (less_or_more (st.start t) (st.commit u)) [
    | inl less ↦ less
    | inr more ↦ elim more [ inl same ↦ absurd (is.numbered.no_start_commits t u dt du same) | inr over ↦ absurd (none over) ]
  ]
    where
      less_or_more : (a b : ℕ) → (a < b) ⊎ ((a ≡ b) ⊎ (b < a))
      less_or_more a b = grind arith

  conflict_done : (l : Level) (t u : ℕ) → Conflict l trace t u → (Done trace t) × (Done trace u)
  conflict_done Snapshot t u c = (c.first.done, c.second.done)
  conflict_done Serializable t u c = (c.first, c.second)

  forced : {x y : Point} → Below level asked trace x y → stamp_of st x < stamp_of st y
  forced (Own {t} done) = is.numbered.ordered t done
  forced (ReadsFrom {t} k found r) = (seen t k found r).below
  forced (Misses {t} {u} k value found r w path) =
      let over : st.commit found.from < st.start u = forced path in
      let own : st.start u < st.commit u = is.numbered.ordered u w.done in
      above t u r.read.done w.done (λ low. let most : st.commit u ≤ st.commit found.from = (seen t k found r).greatest u value w low in absurd (omega (arith, over, own, most)))
  forced (MissesAll {t} {u} k value r w) = above t u r.read.done w.done (λ low. is.reads r.place t k None None r.read u value w low)
  forced (Parts {t} {u} other conflict path) = elim (is.apart t u other conflict) [
    | inl first ↦ first
    | inr second ↦ let against : st.start t < st.commit u = forced path in absurd (omega (arith, second, against))
  ]
  forced (Wanted {x} {y} wanted) = keeps x y wanted
  forced (Then {x} {y} {z} p q) = let low = forced p in let high = forced q in omega (arith, low, high)

pub edges : (level : Level) (asked : Asked) (trace : Trace) (st : Stamping) (x y : Point) → Below level asked trace x y → IsolatedBy level st trace → Keeps asked st → stamp_of st x < stamp_of st y
edges level asked trace st x y path is keeps = forced level asked trace st is keeps path

pub cycles : (level : Level) (asked : Asked) (trace : Trace) (x : Point) → Below level asked trace x x → Stampable level asked trace → ⊥
cycles level asked trace x path s = let less = edges level asked trace s.stamps x x path s.isolated s.keeps in absurd (omega (arith, less))

pub wrong_outer : (level : Level) (asked : Asked) (trace : Trace) (t k : ℕ) (found : Version) → OuterRead trace t k (Some found) → (Writer trace found.from k found.value → ⊥) → Stampable level asked trace → ⊥
wrong_outer level asked trace t k found r none s = none (s.isolated.reads r.place t k (Some found) None r.read).writer

pub wrong_own : (level : Level) (asked : Asked) (trace : Trace) (place t k own : ℕ) (answer : Option Version) → ReadAt trace place t k answer (Some own) → answer ≢ Some (record { from = t; value = own }) → Stampable level asked trace → ⊥
wrong_own level asked trace place t k own answer r other s = other (s.isolated.reads place t k answer (Some own) r)
