-- What a completion asks, in order.
use Rattle.std.specs.Prelude.{◌≡◌, ℕ, ◌+◌, ◌↔◌, List, [], ◌∷◌, ◌++◌, Option, None, Some, map, length, drop}
use Rattle.history_book.specs.Members.{◌∈◌}
use Rattle.system_parts.specs.declared.asks.Ask.{Ask}
use Rattle.system_parts.specs.declared.asks.Ask.TheVariants.{Shadow, Remove, Erase}

-- the commit is set as the shadow of each cell, and then removed from the table
abbrev pub finish_asks : ℕ → ℕ → List ℕ → List Ask
finish_asks txn commit keys = map (λ key. Shadow key txn commit) keys ++ Remove txn ∷ []

-- each cell is erased
abbrev pub undo_asks : ℕ → List ℕ → List Ask
undo_asks txn keys = map (λ key. Erase key txn) keys

-- the first of the asks that are left
abbrev pub first_ask : List Ask → Option Ask
first_ask [] = None
first_ask (ask ∷ asks) = Some ask

-- after n steps the removal is next exactly where these were all shadows
abbrev pub RemovalComesLast : Type 0
RemovalComesLast =
    (txn commit : ℕ) (keys : List ℕ) (n : ℕ) → (first_ask (drop n (finish_asks txn commit keys)) ≡ Some (Remove txn)) ↔ (n ≡ length keys)

-- as many asks as keys, and one more for the removal
abbrev pub CompletionsEnd : Type 0
CompletionsEnd =
    (txn commit : ℕ) (keys : List ℕ) → (length (finish_asks txn commit keys) ≡ length keys + 1) × (length (undo_asks txn keys) ≡ length keys)

-- one key after another
pub record GoKeyByKey (txn commit key : ℕ) (keys : List ℕ) : Type 0 where
  pub finish_first : first_ask (finish_asks txn commit (key ∷ keys)) ≡ Some (Shadow key txn commit)
  pub finish_rest : drop 1 (finish_asks txn commit (key ∷ keys)) ≡ finish_asks txn commit keys
  pub undo_first : first_ask (undo_asks txn (key ∷ keys)) ≡ Some (Erase key txn)
  pub undo_rest : drop 1 (undo_asks txn (key ∷ keys)) ≡ undo_asks txn keys

-- where no key is left, the removal is
pub record GoToTheEnd (txn commit : ℕ) : Type 0 where
  pub finish_last : first_ask (finish_asks txn commit []) ≡ Some (Remove txn)
  pub finish_ends : drop 1 (finish_asks txn commit []) ≡ []
  pub undo_ends : undo_asks txn [] ≡ []

abbrev pub CompletionsGoKeyByKey : Type 0
CompletionsGoKeyByKey = (txn commit : ℕ) → ((key : ℕ) (keys : List ℕ) → GoKeyByKey txn commit key keys) × GoToTheEnd txn commit

-- the shadow of one of the keys, or the removal
abbrev pub IsFinishAsk : ℕ → ℕ → List ℕ → Ask → Type 0
IsFinishAsk txn commit keys (Shadow key version shadow) = (key ∈ keys) × (version ≡ txn) × (shadow ≡ commit)
IsFinishAsk txn commit keys (Remove removed) = removed ≡ txn
IsFinishAsk txn commit keys _ = ⊥

-- the cell of one of the keys is erased
abbrev pub IsUndoAsk : ℕ → List ℕ → Ask → Type 0
IsUndoAsk txn keys (Erase key version) = (key ∈ keys) × (version ≡ txn)
IsUndoAsk txn keys _ = ⊥

-- exactly these are asked
abbrev pub CompletionsAskForTheirKeys : Type 0
CompletionsAskForTheirKeys =
    (txn commit : ℕ) (keys : List ℕ) (ask : Ask) → ((ask ∈ finish_asks txn commit keys) ↔ IsFinishAsk txn commit keys ask) × ((ask ∈ undo_asks txn keys) ↔ IsUndoAsk txn keys ask)
