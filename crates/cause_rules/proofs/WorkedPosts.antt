-- The short histories of a node's epoch and lease, and of a later term.
use Rattle.std.proofs.Common.{◌≡◌, ℕ, ◌≤◌, ◌⊎◌, inl, inr, refl, sym, ◌∙◌, ap, subst, arith}
use Rattle.std.proofs.lemmas.Option.{same_Some}
use Rattle.stamp_base.specs.SetupNumbers.{default_numbers}
use Rattle.history_book.specs.Members.{◌∈◌}
use Rattle.history_book.specs.declared.cause.Cause.TheVariants as cause
use Rattle.history_book.specs.declared.item.Actor.TheVariants.{Session}
use Rattle.history_book.specs.declared.item.Item.{Item}
use Rattle.history_book.specs.declared.item.Item.TheVariants.{Renew}
use Rattle.cause_rules.specs.Posts.{Taken, since_take, TookLast, LeasedUntil}
use Rattle.cause_rules.specs.Commits.{ShownOldEpoch, ShownExpired}
use Rattle.cause_rules.specs.Explained.{Explained}
use Rattle.cause_rules.specs.WorkedTerms.{before_old, old_told, before_expired, expired_told}
use Rattle.cause_rules.proofs.WorkedRefusals.{of_each, shown_explains, explained_shows}

-- ---- epochs
old_at : (start : ℕ) → start ≤ 100 → Explained default_numbers (old_told start start 100)
old_at start old = shown_explains default_numbers (before_old start) (Session 0) (cause.OldEpoch start 100) refl (record {
  start_is = refl;
  node = 0;
  node_is = refl;
  term = 2;
  took = record { take = record { term = 2; epoch = 100; until = 22 }; last = refl; term_is = refl; epoch_is = refl };
  old = old;
})

pub below_the_epoch : Explained default_numbers (old_told 1 1 100)
below_the_epoch = old_at 1 (omega arith)

pub at_the_epoch : Explained default_numbers (old_told 100 100 100)
at_the_epoch = old_at 100 (omega arith)

record ToldOld (asked start epoch : ℕ) : Type 0 where
  own : asked ≡ start
  last : 100 ≡ epoch
  old : start ≤ epoch

old_of : (asked start epoch : ℕ) → Explained default_numbers (old_told asked start epoch) → ToldOld asked start epoch
old_of asked start epoch e =
    let shown : ShownOldEpoch (before_old asked) 0 start epoch = explained_shows default_numbers (before_old asked) (Session 0) (cause.OldEpoch start epoch) e in
    let node : shown.node ≡ 0 = sym (same_Some _ _ shown.node_is) in
    let took : TookLast (before_old asked) 0 shown.term epoch = subst (λ (n : ℕ). TookLast (before_old asked) n shown.term epoch) node shown.took in
    record {
      own = same_Some _ _ shown.start_is;
      last = ap (λ (t : Taken). t.epoch) (same_Some _ _ took.last) ∙ took.epoch_is;
      old = shown.old;
    }

pub above_the_epoch : Explained default_numbers (old_told 101 101 100) → ⊥
above_the_epoch e = let old : 101 ≤ 100 = (old_of 101 101 100 e).old in absurd (omega (arith, old))

pub epoch_of_an_earlier_take : Explained default_numbers (old_told 1 1 50) → ⊥
epoch_of_an_earlier_take e = let same : 100 ≡ 50 = (old_of 1 1 50 e).last in absurd (omega (arith, same))

pub epoch_of_another : Explained default_numbers (old_told 1 1 200) → ⊥
epoch_of_another e = let same : 100 ≡ 200 = (old_of 1 1 200 e).last in absurd (omega (arith, same))

pub start_of_another : Explained default_numbers (old_told 1 2 100) → ⊥
start_of_another e = let same : 1 ≡ 2 = (old_of 1 2 100 e).own in absurd (omega (arith, same))

-- ---- leases
abbrev last_taken : Taken
last_taken = record { term = 2; epoch = 100; until = 30 }

pub over_by_the_take : Explained default_numbers (expired_told 30 30)
over_by_the_take = shown_explains default_numbers before_expired (Session 0) (cause.Expired 30 30) refl (record {
  node = 0;
  node_is = refl;
  leased = record { take = last_taken; last = refl; by = inl refl };
  over = omega arith;
})

pub over_by_the_renewal : Explained default_numbers (expired_told 35 35)
unfolding ◌∈◌
over_by_the_renewal = shown_explains default_numbers before_expired (Session 0) (cause.Expired 35 35) refl (record {
  node = 0;
  node_is = refl;
  leased = record { take = last_taken; last = refl; by = inr (25, 2, inl refl) };
  over = omega arith;
})

-- of the node's renewals after its last take
abbrev OwnRenewal : Item → Type 0
OwnRenewal (Renew node reading term until) = node ≡ 0 → until ≡ 35
OwnRenewal _ = Unit {0}

renewed : (reading term until : ℕ) → Renew 0 reading term until ∈ since_take before_expired 0 → until ≡ 35
renewed reading term until m = of_each OwnRenewal (Renew 0 reading term until) (since_take before_expired 0) (λ own. refl, (tt, (λ own. absurd (omega (arith, own)), (tt, tt)))) m refl

record ToldExpired (reading until : ℕ) : Type 0 where
  over : until ≤ reading
  leased : (until ≡ 30) ⊎ (until ≡ 35)

expired_of : (reading until : ℕ) → Explained default_numbers (expired_told reading until) → ToldExpired reading until
expired_of reading until e =
    let shown : ShownExpired before_expired 0 reading until = explained_shows default_numbers before_expired (Session 0) (cause.Expired reading until) e in
    let leased : LeasedUntil before_expired 0 until = subst (λ (n : ℕ). LeasedUntil before_expired n until) (sym (same_Some _ _ shown.node_is)) shown.leased in
    record {
      over = shown.over;
      leased = elim leased.by [
        | inl by_take ↦ inl (sym (ap (λ (t : Taken). t.until) (same_Some _ _ leased.last) ∙ by_take))
        | inr by_renewal ↦ inr (renewed by_renewal.0 by_renewal.1 until by_renewal.2)
      ];
    }

not_leased : (until : ℕ) → (until ≡ 30 → ⊥) → (until ≡ 35 → ⊥) → Explained default_numbers (expired_told 60 until) → ⊥
not_leased until not_take not_renewal e = elim (expired_of 60 until e).leased [ inl same ↦ not_take same | inr same ↦ not_renewal same ]

pub before_the_end : Explained default_numbers (expired_told 34 35) → ⊥
before_the_end e = let over : 35 ≤ 34 = (expired_of 34 35 e).over in absurd (omega (arith, over))

pub lease_of_another : Explained default_numbers (expired_told 60 50) → ⊥
lease_of_another = not_leased 50 (λ same. absurd (omega (arith, same))) (λ same. absurd (omega (arith, same)))

pub renewal_of_another : Explained default_numbers (expired_told 60 55) → ⊥
renewal_of_another = not_leased 55 (λ same. absurd (omega (arith, same))) (λ same. absurd (omega (arith, same)))

pub lease_of_an_earlier_take : Explained default_numbers (expired_told 60 10) → ⊥
lease_of_an_earlier_take = not_leased 10 (λ same. absurd (omega (arith, same))) (λ same. absurd (omega (arith, same)))

pub renewal_before_the_take : Explained default_numbers (expired_told 60 15) → ⊥
renewal_before_the_take = not_leased 15 (λ same. absurd (omega (arith, same))) (λ same. absurd (omega (arith, same)))
