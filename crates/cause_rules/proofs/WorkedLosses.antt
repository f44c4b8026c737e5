-- The short histories of marks, of open outcomes and of begins that are lost.
use Rattle.std.proofs.Common.{◌≡◌, ℕ, ◌==◌, not, Bool, true, false, List, [], ◌∷◌, Some, inl, inr, refl, sym, ◌∙◌, subst, arith}
use Rattle.std.specs.List.{list_all}
use Rattle.std.proofs.lemmas.Option.{same_Some}
use Rattle.stamp_base.specs.SetupNumbers.{SetupNumbers, default_numbers}
use Rattle.stamp_base.specs.declared.stores.Store.TheVariants.{Table}
use Rattle.history_book.specs.Members.{◌∈◌}
use Rattle.history_book.specs.declared.cause.Cause.TheVariants as cause
use Rattle.history_book.specs.declared.item.Actor.TheVariants.{Node, Session}
use Rattle.history_book.specs.declared.item.Item.{Item}
use Rattle.history_book.specs.declared.item.Item.TheVariants.{AskCommit, Mark, Fault, Crash}
use Rattle.cause_rules.specs.Asks.{its_node, since_ask, since_draw}
use Rattle.cause_rules.specs.Commits.{placer, ShownInvalid, ShownOpen, ShownCrashed}
use Rattle.cause_rules.specs.Explained.{Explained}
use Rattle.cause_rules.specs.WorkedHistories.{crash_of, table_fault, master_fault, session_fault}
use Rattle.cause_rules.specs.WorkedCommits.{before_invalid, invalid_told, invalid_told_first, before_open, open_told}
use Rattle.cause_rules.specs.WorkedRequests.{before_crashed, crashed_told}
use Rattle.cause_rules.proofs.WorkedRefusals.{of_each, passes, shown_explains, explained_shows, explained_between}

-- ---- marks
pub marked : Explained default_numbers (invalid_told 1 1 1)
unfolding ◌∈◌
marked = shown_explains default_numbers (before_invalid 1 1) (Session 0) (cause.Invalid 1) refl (record {
  node = 0;
  node_is = refl;
  start_is = refl;
  actor = Session 1;
  marked = inr (inl refl);
})

abbrev OnlyMark : ℕ → Item → Type 0
OnlyMark t (Mark actor start) = start ≡ t
OnlyMark t _ = Unit {0}

-- the transaction that asked is the one that is told of, and it is the one that is marked
invalid_of : (asked marked start : ℕ) → Explained default_numbers (invalid_told asked marked start) → (asked ≡ start) × (start ≡ marked)
invalid_of asked marked start e =
    let shown : ShownInvalid (before_invalid asked marked) 0 start = explained_shows default_numbers (before_invalid asked marked) (Session 0) (cause.Invalid start) e in
    (same_Some _ _ shown.start_is, of_each (OnlyMark marked) (Mark shown.actor start) (before_invalid asked marked) (tt, (refl, tt)) shown.marked)

pub other_marked : Explained default_numbers (invalid_told 1 2 1) → ⊥
other_marked e = let same : 1 ≡ 2 = (invalid_of 1 2 1 e).1 in absurd (omega (arith, same))

pub other_invalid : Explained default_numbers (invalid_told 1 2 2) → ⊥
other_invalid e = let same : 1 ≡ 2 = (invalid_of 1 2 2 e).0 in absurd (omega (arith, same))

abbrev NoMark : Item → Type 0
NoMark (Mark actor start) = ⊥
NoMark _ = Unit {0}

pub marked_later : Explained default_numbers invalid_told_first → ⊥
marked_later e =
    let shown : ShownInvalid (AskCommit 0 0 1 ∷ []) 0 1 = explained_between default_numbers (AskCommit 0 0 1 ∷ []) (Session 0) (cause.Invalid 1) (Mark (Session 1) 1 ∷ []) e in
    of_each NoMark (Mark shown.actor 1) (AskCommit 0 0 1 ∷ []) (tt, tt) shown.marked

-- ---- open outcomes
pub faulted : Explained default_numbers (open_told [] [] (table_fault 0) 1)
unfolding ◌∈◌
faulted = shown_explains default_numbers (before_open [] [] (table_fault 0)) (Session 0) (cause.Open 1) refl (record {
  start_is = refl;
  node = 0;
  node_is = refl;
  lost = inl (2, refl, inl refl);
})

pub crashed_after_the_draw : Explained default_numbers (open_told [] [] (crash_of 0) 1)
unfolding ◌∈◌
crashed_after_the_draw = shown_explains default_numbers (before_open [] [] (crash_of 0)) (Session 0) (cause.Open 1) refl (record {
  start_is = refl;
  node = 0;
  node_is = refl;
  lost = inr (1, inr (inl refl));
})

pub crashed_before_the_draw : Explained default_numbers (open_told [] (crash_of 0) [] 1)
unfolding ◌∈◌
crashed_before_the_draw = shown_explains default_numbers (before_open [] (crash_of 0) []) (Session 0) (cause.Open 1) refl (record {
  start_is = refl;
  node = 0;
  node_is = refl;
  lost = inr (1, inl refl);
})

abbrev no_table_fault : Item → Bool
no_table_fault (Fault (Node node) Table) = not (node == 0)
no_table_fault _ = true

abbrev pub no_crash : Item → Bool
no_crash (Crash node term) = not (node == 0)
no_crash _ = true

-- neither stands where it would have to; who places the commit has no fault that passes the test
pub not_lost : (setup : SetupNumbers) (test : Item → Bool) (first between last : List Item) → test (Fault (placer setup.direct 0 0) Table) ≡ false → its_node (before_open first between last) 0 ≡ Some 0 → list_all test (since_draw (before_open first between last) 0) ≡ true → list_all no_crash (since_ask (before_open first between last) 0) ≡ true → Explained setup (open_told first between last 1) → ⊥
not_lost setup test first between last fails own no_fault none e =
    let h : List Item = before_open first between last in
    let shown : ShownOpen setup h 0 1 = explained_shows setup h (Session 0) (cause.Open 1) e in
    let node : shown.node ≡ 0 = same_Some _ _ (sym shown.node_is ∙ own) in
    elim shown.lost [
      | inl fault ↦
          let passed = passes test (Fault (placer setup.direct 0 0) Table) (since_draw h 0) no_fault (subst (λ (n : ℕ). Fault (placer setup.direct n 0) Table ∈ since_draw h 0) node fault.2) in
          absurd (let same = sym fails ∙ passed in cc)
      | inr crash ↦
          let passed : false ≡ true = passes no_crash (Crash 0 crash.0) (since_ask h 0) none (subst (λ (n : ℕ). Crash n crash.0 ∈ since_ask h 0) node crash.1) in
          absurd (cc)
    ]

none_lost : (first between last : List Item) → its_node (before_open first between last) 0 ≡ Some 0 → list_all no_table_fault (since_draw (before_open first between last) 0) ≡ true → list_all no_crash (since_ask (before_open first between last) 0) ≡ true → Explained default_numbers (open_told first between last 1) → ⊥
none_lost first between last = not_lost default_numbers no_table_fault first between last refl

pub neither : Explained default_numbers (open_told [] [] [] 1) → ⊥
neither = none_lost [] [] [] refl refl refl

pub faulted_before_the_draw : Explained default_numbers (open_told [] (table_fault 0) [] 1) → ⊥
faulted_before_the_draw = none_lost [] (table_fault 0) [] refl refl refl

pub fault_of_another : Explained default_numbers (open_told [] [] (table_fault 1) 1) → ⊥
fault_of_another = none_lost [] [] (table_fault 1) refl refl refl

pub fault_of_the_record : Explained default_numbers (open_told [] [] (master_fault 0) 1) → ⊥
fault_of_the_record = none_lost [] [] (master_fault 0) refl refl refl

pub fault_of_the_session : Explained default_numbers (open_told [] [] (session_fault 0) 1) → ⊥
fault_of_the_session = none_lost [] [] (session_fault 0) refl refl refl

pub crashed_before_the_ask : Explained default_numbers (open_told (crash_of 0) [] [] 1) → ⊥
crashed_before_the_ask = none_lost (crash_of 0) [] [] refl refl refl

pub crash_of_another : Explained default_numbers (open_told [] [] (crash_of 1) 1) → ⊥
crash_of_another = none_lost [] [] (crash_of 1) refl refl refl

pub other_open : Explained default_numbers (open_told [] [] (table_fault 0) 2) → ⊥
other_open e =
    let shown : ShownOpen default_numbers (before_open [] [] (table_fault 0)) 0 2 = explained_shows default_numbers (before_open [] [] (table_fault 0)) (Session 0) (cause.Open 2) e in
    let same : 1 ≡ 2 = same_Some _ _ shown.start_is in
    absurd (omega (arith, same))

-- ---- begins that are lost
pub crashed : Explained default_numbers (crashed_told [] (crash_of 0) 0 1)
unfolding ◌∈◌
crashed = shown_explains default_numbers (before_crashed [] (crash_of 0)) (Session 0) (cause.Crashed 0 1) refl (record { node_is = refl; crashed = inl refl })

abbrev OnlyCrash : ℕ → Item → Type 0
OnlyCrash n (Crash node term) = (node ≡ n) × (term ≡ 1)
OnlyCrash n _ = Unit {0}

-- the node that is told of was asked, and it crashed after that in the term
crashed_of : (first last : List Item) (node term : ℕ) → Explained default_numbers (crashed_told first last node term) → ShownCrashed (before_crashed first last) 0 node term
crashed_of first last node term = explained_shows default_numbers (before_crashed first last) (Session 0) (cause.Crashed node term)

pub not_crashed : Explained default_numbers (crashed_told [] [] 0 1) → ⊥
unfolding ◌∈◌
not_crashed e = (crashed_of [] [] 0 1 e).crashed

pub crashed_earlier : Explained default_numbers (crashed_told (crash_of 0) [] 0 1) → ⊥
unfolding ◌∈◌
crashed_earlier e = (crashed_of (crash_of 0) [] 0 1 e).crashed

pub another_crashed : Explained default_numbers (crashed_told [] (crash_of 1) 0 1) → ⊥
another_crashed e =
    let only : (0 ≡ 1) × (1 ≡ 1) = of_each (OnlyCrash 1) (Crash 0 1) (crash_of 1) ((refl, refl), tt) (crashed_of [] (crash_of 1) 0 1 e).crashed in
    let same : 0 ≡ 1 = only.0 in
    absurd (omega (arith, same))

pub another_told : Explained default_numbers (crashed_told [] (crash_of 1) 1 1) → ⊥
another_told e = let same : 0 ≡ 1 = same_Some _ _ (crashed_of [] (crash_of 1) 1 1 e).node_is in absurd (omega (arith, same))

pub other_term : Explained default_numbers (crashed_told [] (crash_of 0) 0 2) → ⊥
other_term e =
    let only : (0 ≡ 0) × (2 ≡ 1) = of_each (OnlyCrash 0) (Crash 0 2) (crash_of 0) ((refl, refl), tt) (crashed_of [] (crash_of 0) 0 2 e).crashed in
    let same : 2 ≡ 1 = only.1 in
    absurd (omega (arith, same))
