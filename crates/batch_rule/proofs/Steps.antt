-- A step that puts, takes or splits keeps the rule of a batch ring, and what the rule tells.
use Rattle.std.proofs.Common.{◌≡◌, ℕ, ◌<◌, ◌≤◌, true, true≢false, List, [], ◌∷◌, ◌++◌, length, take, refl, sym, ap, ◌∙◌, subst, append_assoc, take_at, arith, ◌+◌, length-append}
use Rattle.std.specs.Prelude.{sum_by, flat_map}
use Rattle.std.proofs.lemmas.List.Sums.{sum_by-append, sum_by_push}
use Rattle.std.proofs.lemmas.List.Elements.{All-nil}
use Rattle.crossbeam_queue.specs.Fifo.{Pushes, Pops, Forks, Learns}
use Rattle.persist_batches.specs.declared.numbered.Numbered.{Numbered}
use Rattle.queue_passes.specs.Holds.{whole}
use Rattle.queue_passes.proofs.TotalLemmas.{each_alone, each_set, each_split, total_set, total_split, part_of_total, sole_total, counted}
use mathlib.Core.Option.{some}
use lib.ListN.{get_elem?}
use Rattle.batch_rule.specs.declared.account.BatchAccount.{BatchAccount}
use Rattle.batch_rule.specs.Numbers.{rises_from, next_after, AllRise}
use Rattle.batch_rule.specs.Accounts.{first_account, worker_account, parted, with_put, with_taken, all_taken}
use Rattle.batch_rule.specs.Rule.{FitsSender, FitsWorker, AreInOrder, Tells, HasLeft}
use Rattle.batch_rule.proofs.NumberLemmas.{next_after-push, rises-push, rises-front, next_above, at_most_once, is_of}

abbrev pub Fits : ℕ → List Numbered → List Numbered → ℕ → BatchAccount → Type 0
Fits sender sent gone pass a = FitsSender sender sent pass a × FitsWorker gone a

abbrev pub parts_of : BatchAccount → ℕ
parts_of a = a.parts

abbrev pub taken_of : (Numbered → ℕ) → BatchAccount → ℕ
taken_of weight a = sum_by weight (all_taken a)

-- of a pass that took nothing
pub fresh : (gone : List Numbered) (a : BatchAccount) → a.taken ≡ [] → a.others ≡ [] → FitsWorker gone a
fresh gone a own others = record {
  own = ap (rises_from 0) own;
  ends = (let e = ap (next_after 0) own in omega arith);
  others = subst AllRise (sym others) (All-nil (λ row. rises_from 0 row ≡ true));
  idle = λ _. (λ i. own i ++ flat_map (λ row. row) (others i));
}

pub begins : AreInOrder [] (first_account ∷ [])
begins = record {
  sender = 0;
  gone = [];
  rise = refl;
  parts = refl;
  weights = λ f. refl;
  each = each_alone (Fits 0 [] []) first_account ((λ _. (refl, refl)), fresh [] first_account refl refl);
}

pub puts : (n pass : ℕ) (a : BatchAccount) (batch : Numbered) → a.sends ≡ true → next_after 0 a.put ≤ batch.number → Pushes AreInOrder n pass a batch (λ new. new ≡ with_put a batch)
puts n pass a batch may above items accounts _ h at =
    let new = with_put a batch in
    let mine = h.each pass a at in
    let sender = (mine.0 may).0 in
    let sent = h.gone ++ items in
    let longer : sent ++ batch ∷ [] ≡ h.gone ++ (items ++ batch ∷ []) = append_assoc h.gone items (batch ∷ []) in
    let le : next_after 0 sent ≤ batch.number = subst (λ l. next_after 0 l ≤ batch.number) (mine.0 may).1 above in (
      new,
      record {
        sender = h.sender;
        gone = h.gone;
        rise = ap (rises_from 0) (sym longer) ∙ rises-push 0 sent batch h.rise le;
        parts = (let t = total_set parts_of accounts pass a new at in let p = h.parts in omega arith);
        weights = λ f. (let t = total_set (taken_of f) accounts pass a new at in let p = h.weights f in omega arith);
        each = each_set (Fits h.sender (h.gone ++ (items ++ batch ∷ [])) h.gone) accounts pass new
            ((λ _. (sender, ap (λ l. l ++ batch ∷ []) (mine.0 may).1 ∙ longer)), record { own = mine.1.own; ends = mine.1.ends; others = mine.1.others; idle = mine.1.idle })
            (λ j u away e. ((λ p. absurd (away (((h.each j u e).0 p).0 ∙ sym sender))), (h.each j u e).1));
      },
      refl,
    )

pub takes : (pass : ℕ) (a : BatchAccount) → 0 < a.parts → Pops AreInOrder pass a (λ batch new. new ≡ with_taken a batch)
takes pass a some_part batch items accounts h at =
    let new = with_taken a batch in
    let mine = h.each pass a at in
    let own = mine.1 in
    let gone = h.gone ++ batch ∷ [] in
    let same : h.gone ++ batch ∷ items ≡ gone ++ items = sym (append_assoc h.gone (batch ∷ []) items) in
    let above = next_above 0 h.gone batch items h.rise in
    let pushed = next_after-push 0 h.gone batch in
    let le : next_after 0 a.taken ≤ batch.number = (let e = own.ends in omega arith) in (
      new,
      record {
        sender = h.sender;
        gone = gone;
        rise = ap (rises_from 0) (sym same) ∙ h.rise;
        parts = (let t = total_set parts_of accounts pass a new at in let p = h.parts in omega arith);
        weights = λ f.
            let t = total_set (taken_of f) accounts pass a new at in
            let p = h.weights f in
            let after = sum_by-append f (a.taken ++ batch ∷ []) (flat_map (λ row. row) a.others) in
            let before = sum_by-append f a.taken (flat_map (λ row. row) a.others) in
            omega (arith, after, before, sum_by_push f a.taken batch, sum_by_push f h.gone batch);
        each = each_set (Fits h.sender (gone ++ items) gone) accounts pass new (
          (λ p. ((mine.0 p).0, (mine.0 p).1 ∙ same)),
          record {
            own = rises-push 0 a.taken batch own.own le;
            ends = (let e = next_after-push 0 a.taken batch in omega (arith, e, pushed));
            others = own.others;
            idle = λ none. absurd (omega arith);
          },
        )
            (λ j u away e.
            let theirs = (h.each j u e).1 in (
              (λ p. (((h.each j u e).0 p).0, ((h.each j u e).0 p).1 ∙ same)),
              record { own = theirs.own; ends = (let up = theirs.ends in omega (arith, up, above, pushed)); others = theirs.others; idle = theirs.idle },
            ));
      },
      refl,
    )

pub splits : (pass : ℕ) (a : BatchAccount) → 1 < a.parts → Forks AreInOrder pass a (parted a) worker_account
splits pass a two_parts items accounts h at =
    let mine = h.each pass a at in record {
      sender = h.sender;
      gone = h.gone;
      rise = h.rise;
      parts = (let t = total_split parts_of accounts pass a (parted a) worker_account at in let p = h.parts in omega arith);
      weights = λ f. (let t = total_split (taken_of f) accounts pass a (parted a) worker_account at in let p = h.weights f in omega arith);
      each = each_split (Fits h.sender (h.gone ++ items) h.gone) accounts pass (parted a) worker_account
          (mine.0, record { own = mine.1.own; ends = mine.1.ends; others = mine.1.others; idle = λ none. absurd (omega arith) })
          (λ j. ((λ p. absurd (true≢false (sym p))), fresh h.gone worker_account refl refl)) (λ j u away e. h.each j u e);
    }

-- with every part, all that is gone was taken through the pass and those joined to it
took_all_gone : (pass : ℕ) (a : BatchAccount) (items : List Numbered) (accounts : List BatchAccount) (h : AreInOrder items accounts) → get_elem? accounts pass ≡ some a → a.parts ≡ whole
    → (f : Numbered → ℕ) → sum_by f (all_taken a) ≡ sum_by f h.gone
took_all_gone pass a items accounts h at every f = sym (sole_total parts_of (taken_of f) accounts pass a at (h.parts ∙ sym every) (λ j u e none. ap (sum_by f) ((h.each j u e).1.idle none))) ∙ h.weights f

pub tells : (pass : ℕ) (a : BatchAccount) → Learns AreInOrder pass a (λ items. Tells a)
tells pass a items accounts h at =
    let mine = h.each pass a at in
    let gone_rise : rises_from 0 h.gone ≡ true = rises-front 0 h.gone items h.rise in record {
      sent_rise = λ p. subst (λ l. rises_from 0 l ≡ true) (sym (mine.0 p).1) h.rise;
      own_rise = mine.1.own;
      others_rise = mine.1.others;
      once = λ number. (let part = part_of_total (taken_of (is_of number)) accounts pass a at in let w = h.weights (is_of number) in let most = at_most_once number 0 h.gone gone_rise in omega arith);
      first = λ p every f.
          let all = took_all_gone pass a items accounts h at every in
          let same_length : length (all_taken a) ≡ length h.gone = sym (counted (all_taken a)) ∙ all (λ x. 1) ∙ counted h.gone in
          let front : take (length (all_taken a)) a.put ≡ h.gone = (λ i. take (same_length i) ((mine.0 p).1 i)) ∙ take_at h.gone items (length h.gone) refl in
          all f ∙ ap (sum_by f) (sym front);
    }

pub tells_left : (pass : ℕ) (a : BatchAccount) → Learns AreInOrder pass a (λ items. HasLeft (length items) a)
tells_left pass a items accounts h at = λ p.
    let put : length a.put ≡ length h.gone + length items = ap length ((h.each pass a at).0 p).1 ∙ length-append h.gone items in
    let part = part_of_total (taken_of (λ x. 1)) accounts pass a at in
    let w = h.weights (λ x. 1) in
    let taken = counted (all_taken a) in
    let gone = counted h.gone in (
      omega arith,
      λ every. (let all = took_all_gone pass a items accounts h at every (λ x. 1) in omega arith),
    )
