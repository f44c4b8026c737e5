-- For this crate's own proofs.
-- Public laws, for the proofs of crates above: what a completion asks, in which order, and for which keys.
use Rattle.std.proofs.Common.{◌≡◌, ℕ, zero, suc, ◌↔◌, List, [], ◌∷◌, None, Some, length, drop, refl, ap, inl, inr}
use Rattle.history_book.specs.Members.{◌∈◌}
use Rattle.system_parts.specs.declared.asks.Ask.{Ask}
use Rattle.system_parts.specs.declared.asks.Ask.TheVariants.{Shadow, Remove, Erase}
use Rattle.system_parts.specs.Completion.{finish_asks, undo_asks, first_ask, IsFinishAsk, IsUndoAsk, CompletionsAskForTheirKeys}
use Rattle.std.proofs.Math.Seq.{drop-nil}

last_only : (txn commit : ℕ) (keys : List ℕ) (n : ℕ) → first_ask (drop n (finish_asks txn commit keys)) ≡ Some (Remove txn) → n ≡ length keys
last_only txn commit [] zero h = refl
last_only txn commit [] (suc n) h = absurd (let e : first_ask (drop n (let none : List Ask = [] in none)) ≡ None = rw drop-nil refl in cc)
last_only txn commit (key ∷ keys) zero h = absurd cc
last_only txn commit (key ∷ keys) (suc n) h = ap suc (last_only txn commit keys n h)

last_there : (txn commit : ℕ) (keys : List ℕ) → first_ask (drop (length keys) (finish_asks txn commit keys)) ≡ Some (Remove txn)
last_there txn commit [] = refl
last_there txn commit (key ∷ keys) = last_there txn commit keys

pub removal_last : (txn commit : ℕ) (keys : List ℕ) (n : ℕ) → (first_ask (drop n (finish_asks txn commit keys)) ≡ Some (Remove txn)) ↔ (n ≡ length keys)
removal_last txn commit keys n = (last_only txn commit keys n, λ e. rw e (last_there txn commit keys))

finish_wider : (txn commit key : ℕ) (keys : List ℕ) (ask : Ask) → IsFinishAsk txn commit keys ask → IsFinishAsk txn commit (key ∷ keys) ask
unfolding ◌∈◌
finish_wider txn commit key keys (Shadow k version shadow) h = (inr h.0, h.1, h.2)
finish_wider txn commit key keys _ h = h

finish_asks_for : (txn commit : ℕ) (keys : List ℕ) (ask : Ask) → ask ∈ finish_asks txn commit keys → IsFinishAsk txn commit keys ask
unfolding ◌∈◌
finish_asks_for txn commit [] ask m = elim m [ inl e ↦ rw e refl | inr none ↦ absurd none ]
finish_asks_for txn commit (key ∷ keys) ask m = elim m [
  | inl e ↦ rw e (inl refl, refl, refl)
  | inr deeper ↦ finish_wider txn commit key keys ask (finish_asks_for txn commit keys ask deeper)
]

shadow_asked : (txn commit : ℕ) (keys : List ℕ) (key : ℕ) → key ∈ keys → Shadow key txn commit ∈ finish_asks txn commit keys
unfolding ◌∈◌
shadow_asked txn commit [] key m = absurd m
shadow_asked txn commit (k ∷ keys) key m = elim m [ inl e ↦ inl (rw e refl) | inr deeper ↦ inr (shadow_asked txn commit keys key deeper) ]

removal_asked : (txn commit : ℕ) (keys : List ℕ) → Remove txn ∈ finish_asks txn commit keys
unfolding ◌∈◌
removal_asked txn commit [] = inl refl
removal_asked txn commit (key ∷ keys) = inr (removal_asked txn commit keys)

finish_asked : (txn commit : ℕ) (keys : List ℕ) (ask : Ask) → IsFinishAsk txn commit keys ask → ask ∈ finish_asks txn commit keys
finish_asked txn commit keys (Shadow key version shadow) h = rw (h.1, h.2) (shadow_asked txn commit keys key h.0)
finish_asked txn commit keys (Remove removed) h = rw h (removal_asked txn commit keys)
finish_asked txn commit keys _ h = absurd h

undo_wider : (txn key : ℕ) (keys : List ℕ) (ask : Ask) → IsUndoAsk txn keys ask → IsUndoAsk txn (key ∷ keys) ask
unfolding ◌∈◌
undo_wider txn key keys (Erase k version) h = (inr h.0, h.1)
undo_wider txn key keys _ h = h

undo_asks_for : (txn : ℕ) (keys : List ℕ) (ask : Ask) → ask ∈ undo_asks txn keys → IsUndoAsk txn keys ask
unfolding ◌∈◌
undo_asks_for txn [] ask m = absurd m
undo_asks_for txn (key ∷ keys) ask m = elim m [ inl e ↦ rw e (inl refl, refl) | inr deeper ↦ undo_wider txn key keys ask (undo_asks_for txn keys ask deeper) ]

erase_asked : (txn : ℕ) (keys : List ℕ) (key : ℕ) → key ∈ keys → Erase key txn ∈ undo_asks txn keys
unfolding ◌∈◌
erase_asked txn [] key m = absurd m
erase_asked txn (k ∷ keys) key m = elim m [ inl e ↦ inl (rw e refl) | inr deeper ↦ inr (erase_asked txn keys key deeper) ]

undo_asked : (txn : ℕ) (keys : List ℕ) (ask : Ask) → IsUndoAsk txn keys ask → ask ∈ undo_asks txn keys
undo_asked txn keys (Erase key version) h = rw h.1 (erase_asked txn keys key h.0)
undo_asked txn keys _ h = absurd h

pub asks_for_their_keys : CompletionsAskForTheirKeys
asks_for_their_keys txn commit keys ask = ((finish_asks_for txn commit keys ask, finish_asked txn commit keys ask), (undo_asks_for txn keys ask, undo_asked txn keys ask))
