-- Joining two passes keeps the rule of a batch ring, whichever of them is the sender's.
use Rattle.std.proofs.Common.{◌≡◌, ◌≢◌, ℕ, ◌+◌, ◌<◌, true, true≢false, List, ◌∷◌, ◌++◌, set, inl, inr, refl, sym, ap, ◌∙◌, arith}
use Rattle.std.specs.Prelude.{sum_by, flat_map}
use Rattle.std.proofs.lemmas.Bool.{cases_Bool}
use Rattle.std.proofs.lemmas.List.Sums.{sum_by-append}
use Rattle.std.proofs.lemmas.List.Concat.{flat_map-append}
use Rattle.std.proofs.lemmas.List.Elements.{All-append, All-cons}
use mathlib.Core.Option.{some}
use lib.ListN.{get_elem?}
use Rattle.crossbeam_queue.specs.Fifo.{Merges}
use Rattle.persist_batches.specs.declared.numbered.Numbered.{Numbered}
use Rattle.queue_passes.proofs.TotalLemmas.{each_join, other_stands, total_join}
use Rattle.batch_rule.specs.declared.account.BatchAccount.{BatchAccount}
use Rattle.batch_rule.specs.Numbers.{rises_from}
use Rattle.batch_rule.specs.Accounts.{spent_account, joined}
use Rattle.batch_rule.specs.Rule.{FitsSender, AreInOrder}
use Rattle.batch_rule.proofs.Steps.{Fits, parts_of, taken_of, fresh}

abbrev Rises : List Numbered → Type 0
Rises row = rises_from 0 row ≡ true

abbrev flat : List (List Numbered) → List Numbered
flat rows = flat_map (λ row. row) rows

shared : (f : Numbered → ℕ) (a b : BatchAccount) → taken_of f (joined a b) ≡ taken_of f a + taken_of f b
shared f a b =
    let whole_row = sum_by-append f a.taken (flat (a.others ++ b.taken ∷ b.others)) in
    let rows : sum_by f (flat (a.others ++ b.taken ∷ b.others)) ≡ sum_by f (flat a.others ++ (b.taken ++ flat b.others)) = ap (sum_by f) (flat_map-append (λ row. row) a.others (b.taken ∷ b.others)) in
    let apart = sum_by-append f (flat a.others) (b.taken ++ flat b.others) in
    let mine = sum_by-append f a.taken (flat a.others) in
    omega (arith, whole_row, rows, apart, mine)

-- the sender's seat goes to the number named
seated : (pass : ℕ) (a : BatchAccount) (other : ℕ) (b : BatchAccount) → 0 < a.parts
    → (items : List Numbered) (accounts : List BatchAccount) (h : AreInOrder items accounts) → get_elem? accounts pass ≡ some a → other ≢ pass → get_elem? accounts other ≡ some b
    → (sender : ℕ) → FitsSender sender (h.gone ++ items) pass (joined a b) → ((j : ℕ) (u : BatchAccount) → j ≢ pass → j ≢ other → get_elem? accounts j ≡ some u → u.sends ≡ true → j ≡ sender)
    → AreInOrder items (set (set accounts pass (joined a b)) other spent_account)
seated pass a other b some_part items accounts h at apart there sender fits rest =
    let both = joined a b in
    let mine = (h.each pass a at).1 in
    let theirs = (h.each other b there).1 in record {
      sender = sender;
      gone = h.gone;
      rise = h.rise;
      parts = (let t = total_join parts_of accounts pass other a b both spent_account at apart there in let p = h.parts in omega arith);
      weights = λ f. (let t = total_join (taken_of f) accounts pass other a b both spent_account at apart there in let p = h.weights f in omega (arith, shared f a b));
      each = each_join (Fits sender (h.gone ++ items) h.gone) accounts pass other both spent_account
          (fits, record { own = mine.own; ends = mine.ends; others = All-append Rises a.others (b.taken ∷ b.others) mine.others (All-cons Rises b.taken b.others theirs.own theirs.others); idle = λ none. absurd (omega arith) })
          ((λ p. absurd (true≢false (sym p))), fresh h.gone spent_account refl refl)
          (λ j u away away' e. ((λ p. (rest j u away away' e p, ((h.each j u e).0 p).1)), (h.each j u e).1));
    }

pub joins : (pass : ℕ) (a : BatchAccount) (other : ℕ) (b : BatchAccount) → 0 < a.parts → Merges AreInOrder pass a other b (joined a b) spent_account
joins pass a other b some_part items accounts h at apart there_after =
    let there = other_stands accounts pass other (joined a b) b apart there_after in
    let sits = seated pass a other b some_part items accounts h at apart there in
    elim (cases_Bool a.sends) [
      | inl q ↦ let mine = (h.each pass a at).0 q in
          sits pass (λ _. (refl, rw q mine.1)) (λ j u away away' e p. absurd (away (((h.each j u e).0 p).0 ∙ sym mine.0)))
      | inr q ↦ elim (cases_Bool b.sends) [
        | inl r ↦ let theirs = (h.each other b there).0 r in
            sits pass (λ _. (refl, rw q theirs.1)) (λ j u away away' e p. absurd (away' (((h.each j u e).0 p).0 ∙ sym theirs.0)))
        | inr r ↦ sits h.sender (λ p. absurd (true≢false (sym p ∙ rw q r))) (λ j u away away' e p. ((h.each j u e).0 p).0)
      ]
    ]
