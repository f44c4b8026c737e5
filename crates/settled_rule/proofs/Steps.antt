-- Each step of a settled ring keeps its rule.
use Rattle.std.proofs.Common.{◌≡◌, ℕ, ◌<◌, [], ◌∷◌, refl, sym, ap, ◌∙◌, arith, List, length, ◌+◌}
use Rattle.std.specs.Prelude.{sum_by}
use Rattle.std.proofs.lemmas.List.Sums.{sum_by-append, sum_by_push, sum_by-cons}
use Rattle.crossbeam_queue.specs.Fifo.{Pushes, Pops, Forks, Merges, Learns}
use Rattle.persist_batches.specs.declared.numbered.Numbered.{Numbered}
use Rattle.queue_passes.proofs.TotalLemmas.{each_alone, each_set, each_split, each_join, other_stands, total_set, total_split, total_join, sole_total, counted}
use Rattle.queue_passes.specs.Holds.{whole}
use mathlib.Core.Option.{some}
use lib.ListN.{get_elem?}
use Rattle.settled_rule.specs.declared.account.SettledAccount.{SettledAccount}
use Rattle.settled_rule.specs.Accounts.{first_account, new_account, spent_account, parted, with_put, with_taken, joined}
use Rattle.settled_rule.specs.Rule.{IsBalanced, IsFair, HasLeft}

abbrev Idle : ℕ → SettledAccount → Type 0
Idle pass a = a.parts ≡ 0 → (a.put ≡ []) × (a.taken ≡ [])

abbrev parts_of : SettledAccount → ℕ
parts_of a = a.parts

abbrev put_of : (Numbered → ℕ) → SettledAccount → ℕ
put_of weight a = sum_by weight a.put

abbrev taken_of : (Numbered → ℕ) → SettledAccount → ℕ
taken_of weight a = sum_by weight a.taken

pub begins : IsBalanced [] (first_account ∷ [])
begins = record { parts = refl; weights = λ f. refl; idle = each_alone Idle first_account (λ _. (refl, refl)) }

pub puts : (n pass : ℕ) (a : SettledAccount) (batch : Numbered) → 0 < a.parts → Pushes IsBalanced n pass a batch (λ new. new ≡ with_put a batch)
puts n pass a batch some_part items accounts _ h at =
    let new = with_put a batch in (
      new,
      record {
        parts = (let t = total_set parts_of accounts pass a new at in let p = h.parts in omega arith);
        weights = λ f.
            let t = total_set (put_of f) accounts pass a new at in
            let s = total_set (taken_of f) accounts pass a new at in
            let p = h.weights f in
            omega (arith, sum_by_push f a.put batch, sum_by_push f items batch);
        idle = each_set Idle accounts pass new (λ none. absurd (omega arith)) (λ j u away e. h.idle j u e);
      },
      refl,
    )

pub takes : (pass : ℕ) (a : SettledAccount) → 0 < a.parts → Pops IsBalanced pass a (λ batch new. new ≡ with_taken a batch)
takes pass a some_part batch items accounts h at =
    let new = with_taken a batch in (
      new,
      record {
        parts = (let t = total_set parts_of accounts pass a new at in let p = h.parts in omega arith);
        weights = λ f.
            let t = total_set (put_of f) accounts pass a new at in
            let s = total_set (taken_of f) accounts pass a new at in
            let p = h.weights f in
            omega (arith, sum_by_push f a.taken batch, sum_by-cons f batch items);
        idle = each_set Idle accounts pass new (λ none. absurd (omega arith)) (λ j u away e. h.idle j u e);
      },
      refl,
    )

pub splits : (pass : ℕ) (a : SettledAccount) → 1 < a.parts → Forks IsBalanced pass a (parted a) new_account
splits pass a two_parts items accounts h at = record {
  parts = (let t = total_split parts_of accounts pass a (parted a) new_account at in let p = h.parts in omega arith);
  weights = λ f.
      let t = total_split (put_of f) accounts pass a (parted a) new_account at in
      let s = total_split (taken_of f) accounts pass a (parted a) new_account at in
      let p = h.weights f in
      omega arith;
  idle = each_split Idle accounts pass (parted a) new_account (λ none. absurd (omega arith)) (λ j none. (refl, refl)) (λ j u away e. h.idle j u e);
}

pub joins : (pass : ℕ) (a : SettledAccount) (other : ℕ) (b : SettledAccount) → 0 < a.parts → Merges IsBalanced pass a other b (joined a b) spent_account
joins pass a other b some_part items accounts h at apart there_after =
    let both = joined a b in
    let there = other_stands accounts pass other both b apart there_after in
    record {
      parts = (let t = total_join parts_of accounts pass other a b both spent_account at apart there in let p = h.parts in omega arith);
      weights = λ f.
          let t = total_join (put_of f) accounts pass other a b both spent_account at apart there in
          let s = total_join (taken_of f) accounts pass other a b both spent_account at apart there in
          let p = h.weights f in
          omega (arith, sum_by-append f a.put b.put, sum_by-append f a.taken b.taken);
      idle = each_join Idle accounts pass other both spent_account (λ none. absurd (omega arith)) (λ none. (refl, refl)) (λ j u away apart' e. h.idle j u e);
    }

-- with every part, the pass knows what the ring holds
knows : (pass : ℕ) (a : SettledAccount) (items : List Numbered) (accounts : List SettledAccount) → IsBalanced items accounts → get_elem? accounts pass ≡ some a → a.parts ≡ whole
    → (f : Numbered → ℕ) → sum_by f a.put ≡ sum_by f a.taken + sum_by f items
knows pass a items accounts h at every f =
    let p = h.weights f in
    let put = sole_total parts_of (put_of f) accounts pass a at (h.parts ∙ sym every) (λ j u e none. ap (sum_by f) (h.idle j u e none).0) in
    let taken = sole_total parts_of (taken_of f) accounts pass a at (h.parts ∙ sym every) (λ j u e none. ap (sum_by f) (h.idle j u e none).1) in
    omega arith

pub tells : (pass : ℕ) (a : SettledAccount) → Learns IsBalanced pass a (λ items. IsFair a)
tells pass a items accounts h at = λ every f. (let k = knows pass a items accounts h at every f in omega arith)

pub tells_left : (pass : ℕ) (a : SettledAccount) → Learns IsBalanced pass a (λ items. HasLeft (length items) a)
tells_left pass a items accounts h at = λ every.
    let k = knows pass a items accounts h at every (λ x. 1) in
    omega (arith, k, counted a.put, counted a.taken, counted items)
