-- The ask that stands at a place of a completion.
use Rattle.std.proofs.Common.{◌≡◌, ℕ, zero, suc, ◌+◌, ◌<◌, List, [], ◌∷◌, Some, length, drop, get_or, sym, ap, ◌∙◌, arith}
use Rattle.std.proofs.lemmas.List.{drop-drop}
use Rattle.system_parts.specs.declared.asks.Ask.{Ask}
use Rattle.system_parts.specs.declared.asks.Ask.TheVariants.{Shadow, Erase}
use Rattle.system_parts.specs.Completion.{finish_asks, undo_asks, first_ask}

pub finish_at : (txn commit : ℕ) (keys : List ℕ) (n key : ℕ) → n < length keys → key ≡ get_or keys n key → Some (Shadow key txn commit) ≡ first_ask (drop n (finish_asks txn commit keys))
finish_at txn commit [] n key h e = absurd (omega arith)
finish_at txn commit (k ∷ keys) zero key h e = ap (λ at. Some (Shadow at txn commit)) e
finish_at txn commit (k ∷ keys) (suc n) key h e = finish_at txn commit keys n key (omega arith) e

pub undo_at : (txn : ℕ) (keys : List ℕ) (n key : ℕ) → n < length keys → key ≡ get_or keys n key → Some (Erase key txn) ≡ first_ask (drop n (undo_asks txn keys))
undo_at txn [] n key h e = absurd (omega arith)
undo_at txn (k ∷ keys) zero key h e = ap (λ at. Some (Erase at txn)) e
undo_at txn (k ∷ keys) (suc n) key h e = undo_at txn keys n key (omega arith) e

pub drop_more : (asks : List Ask) (n : ℕ) → drop (n + 1) asks ≡ drop 1 (drop n asks)
drop_more asks n = ap (λ k. drop k asks) (omega arith) ∙ sym (drop-drop 1 n asks)
