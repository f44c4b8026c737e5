-- The rules that are kept, and isolation.
use Rattle.si_judge.proofs.Names.{◌≡◌, ◌<◌, ℕ, List, Option, IfSome, take, refl, subst, arith, slice_get_within, AtEach}
use Rattle.si_judge.proofs.Names.{RightRead, Isolated, Item, Rule, AnswersAt, BreaksRead, IsKept, IsEarlierKept}
use Rattle.si_judge.proofs.Names.{IsJudged, AllRight, turn, one_at, stamped_kept, kept_stamped, all_kept}
use Rattle.isolation_rules.specs.declared.verdict.Rule.TheVariants as rule
use Rattle.isolation_rules.specs.declared.verdict.Verdict.{Verdict}
use Rattle.isolation_rules.specs.declared.verdict.Verdict.TheVariants as verdict
use Rattle.isolation_rules.proofs.FreshLaw.{fresh_kept, kept_fresh}
use Rattle.si_judge.proofs.ApartLaw.{apart_kept, kept_apart}

pub before_apart : (h : List Item) → IsKept rule.Stamped h → IsEarlierKept rule.Apart h
before_apart h stamped = λ other less. go other less
  where
    go : (other : Rule) → turn other < 1 → IsKept other h
    go rule.Stamped less = stamped
    go rule.Apart less = absurd (omega (arith, less))
    go rule.Read less = absurd (omega (arith, less))
    go rule.Fresh less = absurd (omega (arith, less))

pub before_reads : (h : List Item) → IsKept rule.Stamped h → IsKept rule.Apart h → IsEarlierKept rule.Read h
before_reads h stamped apart = λ other less. go other less
  where
    go : (other : Rule) → turn other < 2 → IsKept other h
    go rule.Stamped less = stamped
    go rule.Apart less = apart
    go rule.Read less = absurd (omega (arith, less))
    go rule.Fresh less = absurd (omega (arith, less))

pub before_fresh : (h : List Item) → IsKept rule.Stamped h → IsKept rule.Apart h → AllRight h → IsEarlierKept rule.Fresh h
before_fresh h stamped apart reads = λ other less. go other less
  where
    go : (other : Rule) → turn other < 3 → IsKept other h
    go rule.Stamped less = stamped
    go rule.Apart less = apart
    go rule.Read less = all_kept rule.Read h reads
    go rule.Fresh less = absurd (omega (arith, less))

right_reads : (h : List Item) → AllRight h → AtEach (RightRead h) h
right_reads h right = record { at = λ p x e. subst (λ (o : Option Item). IfSome o (λ y. RightRead h (take p h) y)) e (right p (slice_get_within h p x e)) }

pub all_isolated : (h : List Item) → IsKept rule.Stamped h → IsKept rule.Apart h → AllRight h → IsKept rule.Fresh h → Isolated h
all_isolated h stamped apart reads fresh = record {
  apart = kept_apart h apart;
  stamped = kept_stamped h stamped;
  fresh = kept_fresh h fresh;
  reads = right_reads h reads;
}

reads_kept : (h : List Item) → AtEach (RightRead h) h → (i j : ℕ) → BreaksRead h i j → ⊥
reads_kept h reads i j broken = let found = one_at h i (λ x. (RightRead h (take i h) x → ⊥) × AnswersAt h i x j) broken in found.2.0 (reads.at i found.0 found.1)

-- an isolated history breaks no rule
isolated_kept : (h : List Item) → Isolated h → (r : Rule) → IsKept r h
isolated_kept h isolated rule.Stamped = stamped_kept h isolated.stamped
isolated_kept h isolated rule.Apart = apart_kept h isolated.apart
isolated_kept h isolated rule.Read = reads_kept h isolated.reads
isolated_kept h isolated rule.Fresh = fresh_kept h isolated.fresh

pub judged_isolated : (h : List Item) (v : Verdict) → IsJudged h v → Isolated h → v ≡ verdict.Isolated
judged_isolated h verdict.Isolated judged isolated = refl
judged_isolated h (verdict.Broken r first second) judged isolated = absurd (isolated_kept h isolated r _ _ judged.pair.broken)
