-- The short histories of a node's instance.
use Rattle.std.proofs.Common.{◌≡◌, ℕ, List, [], None, Some, inl, inr, refl, sym, ◌∙◌, ap, arith}
use Rattle.std.proofs.lemmas.Option.{same_Some}
use Rattle.stamp_base.specs.SetupNumbers.{default_numbers}
use Rattle.stamp_base.specs.declared.stores.Store.TheVariants.{Master}
use Rattle.history_book.specs.Members.{◌∈◌}
use Rattle.history_book.specs.declared.cause.Cause.TheVariants as cause
use Rattle.history_book.specs.declared.item.Actor.TheVariants.{Node, Session}
use Rattle.history_book.specs.declared.item.Item.{Item}
use Rattle.history_book.specs.declared.item.Item.TheVariants.{Crash}
use Rattle.cause_rules.specs.Posts.{Taken, last_take, HasNone, StandsSince}
use Rattle.cause_rules.specs.Refusals.{ShownHolding}
use Rattle.cause_rules.specs.Explained.{Explained}
use Rattle.cause_rules.specs.WorkedHistories.{crash_of, master_fault}
use Rattle.cause_rules.specs.WorkedNodes.{taken_then, taken_again, later_fault, no_oracle_told, holding_told}
use Rattle.cause_rules.proofs.WorkedRefusals.{of_each, shown_explains, explained_shows}

-- ---- nodes without an instance
pub never_taken : Explained default_numbers (no_oracle_told [])
never_taken = shown_explains default_numbers [] (Session 0) (cause.NoOracle 0) refl (inl refl)

pub crashed_since : Explained default_numbers (no_oracle_told (taken_then (crash_of 0)))
crashed_since = shown_explains default_numbers (taken_then (crash_of 0)) (Session 0) (cause.NoOracle 0) refl (inl refl)

pub take_failed : Explained default_numbers (no_oracle_told (taken_then (master_fault 0)))
take_failed = shown_explains default_numbers (taken_then (master_fault 0)) (Session 0) (cause.NoOracle 0) refl (inr (Master, [], refl))

none_shown : (later : List Item) → Explained default_numbers (no_oracle_told (taken_then later)) → HasNone (taken_then later) 0
none_shown later = explained_shows default_numbers (taken_then later) (Session 0) (cause.NoOracle 0)

pub taken : Explained default_numbers (no_oracle_told (taken_then [])) → ⊥
taken e = elim (none_shown [] e) [ inl none ↦ absurd (cc) | inr failed ↦ let at_once = failed.2 in absurd (cc) ]

pub taken_after_crash : Explained default_numbers (no_oracle_told (taken_then taken_again)) → ⊥
taken_after_crash e = elim (none_shown taken_again e) [ inl none ↦ absurd (cc) | inr failed ↦ let at_once = failed.2 in absurd (cc) ]

pub call_failed_later : Explained default_numbers (no_oracle_told (taken_then later_fault)) → ⊥
call_failed_later e = elim (none_shown later_fault e) [ inl none ↦ absurd (cc) | inr failed ↦ let at_once = failed.2 in absurd (cc) ]

pub another_crashed : Explained default_numbers (no_oracle_told (taken_then (crash_of 1))) → ⊥
another_crashed e = elim (none_shown (crash_of 1) e) [ inl none ↦ absurd (cc) | inr failed ↦ let at_once = failed.2 in absurd (cc) ]

pub another_failed : Explained default_numbers (no_oracle_told (taken_then (master_fault 1))) → ⊥
another_failed e = elim (none_shown (master_fault 1) e) [ inl none ↦ absurd (cc) | inr failed ↦ let at_once = failed.2 in absurd (cc) ]

-- ---- nodes with an instance
abbrev first_taken : Taken
first_taken = record { term = 1; epoch = 0; until = 10 }

abbrev second_taken : Taken
second_taken = record { term = 2; epoch = 100; until = 22 }

abbrev CrashOfAnother : Item → Type 0
CrashOfAnother (Crash node term) = node ≡ 1
CrashOfAnother _ = Unit {0}

not_crashed : (term : ℕ) → Crash 0 term ∈ crash_of 1 → ⊥
not_crashed term m = let same : 0 ≡ 1 = of_each CrashOfAnother (Crash 0 term) (crash_of 1) (refl, tt) m in absurd (omega (arith, same))

pub holds : Explained default_numbers (holding_told [] 0 1)
unfolding ◌∈◌
holds = shown_explains default_numbers (taken_then []) (Node 0) (cause.Holding 1) refl (record {
  epoch = 0;
  took = record { take = first_taken; last = refl; term_is = refl; epoch_is = refl };
  stands = λ term m. m;
})

pub holds_past_another_crash : Explained default_numbers (holding_told (crash_of 1) 0 1)
holds_past_another_crash = shown_explains default_numbers (taken_then (crash_of 1)) (Node 0) (cause.Holding 1) refl (record {
  epoch = 0;
  took = record { take = first_taken; last = refl; term_is = refl; epoch_is = refl };
  stands = not_crashed;
})

pub holds_the_later_term : Explained default_numbers (holding_told taken_again 0 2)
unfolding ◌∈◌
holds_the_later_term = shown_explains default_numbers (taken_then taken_again) (Node 0) (cause.Holding 2) refl (record {
  epoch = 100;
  took = record { take = second_taken; last = refl; term_is = refl; epoch_is = refl };
  stands = λ term m. m;
})

-- the last take of the node is this one, and it has not crashed since
record ToldHolding (h : List Item) (node term : ℕ) (last : Taken) : Type 0 where
  term_is : last.term ≡ term
  stands : StandsSince h node

holding_of : (later : List Item) (node term : ℕ) (last : Taken) → last_take (taken_then later) node ≡ Some last → Explained default_numbers (holding_told later node term) → ToldHolding (taken_then later) node term last
holding_of later node term last is e =
    let shown : ShownHolding (taken_then later) node term = explained_shows default_numbers (taken_then later) (Node node) (cause.Holding term) e in
    record {
      term_is = ap (λ (t : Taken). t.term) (same_Some _ _ (sym is ∙ shown.took.last)) ∙ shown.took.term_is;
      stands = shown.stands;
    }

pub lost_by_a_crash : Explained default_numbers (holding_told (crash_of 0) 0 1) → ⊥
unfolding ◌∈◌
lost_by_a_crash e = (holding_of (crash_of 0) 0 1 first_taken refl e).stands 1 (inl refl)

pub holds_another_term : Explained default_numbers (holding_told [] 0 2) → ⊥
holds_another_term e = let same : 1 ≡ 2 = (holding_of [] 0 2 first_taken refl e).term_is in absurd (omega (arith, same))

pub held_the_earlier_term : Explained default_numbers (holding_told taken_again 0 1) → ⊥
held_the_earlier_term e = let same : 2 ≡ 1 = (holding_of taken_again 0 1 second_taken refl e).term_is in absurd (omega (arith, same))

pub another_holds : Explained default_numbers (holding_told [] 1 1) → ⊥
another_holds e =
    let shown : ShownHolding (taken_then []) 1 1 = explained_shows default_numbers (taken_then []) (Node 1) (cause.Holding 1) e in
    let last : None ≡ Some shown.took.take = shown.took.last in
    absurd (cc)
