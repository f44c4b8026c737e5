-- For isolation_laws, read_sets, si_judge and trace_items too.
-- The last write of a transaction, and the part before an ask, after one more item.
use Rattle.std.proofs.Common.{◌≡◌, ℕ, Bool, true, false, ◌||◌, not, if◌then◌else◌, List, [], ◌∷◌, ◌++◌, Option, Some, None, inl, inr, refl, ap, ◌∙◌}
use Rattle.std.specs.Option.{option_or}
use Rattle.history_book.specs.Isolation.{last_write, written_by, before_ask, has_ask, asks}
use Rattle.history_book.specs.Members.{◌∈◌}
use Rattle.history_book.specs.declared.item.Item.{Item}

option_or-None : (a : Option (List ℕ)) → a ≡ option_or a None
option_or-None None = refl
option_or-None (Some x) = refl

option_or-assoc : (a b c : Option (List ℕ)) → option_or (option_or a b) c ≡ option_or a (option_or b c)
option_or-assoc None b c = refl
option_or-assoc (Some x) b c = refl

pub last_write-push : (h : List Item) (x : Item) (t k : ℕ) → last_write (h ++ x ∷ []) t k ≡ option_or (written_by t k x) (last_write h t k)
unfolding last_write
last_write-push [] x t k = option_or-None (written_by t k x)
last_write-push (y ∷ h) x t k = ap (λ o. option_or o (written_by t k y)) (last_write-push h x t k) ∙ option_or-assoc (written_by t k x) (last_write h t k) (written_by t k y)

in_chosen : (s : ℕ) (y : Item) (h : List Item) (x : Item) → (x ∈ before_ask s h → x ∈ h) → (b : Bool) → x ∈ (if b then y ∷ before_ask s h else []) → x ∈ (y ∷ h)
unfolding ◌∈◌
in_chosen s y h x deeper true m = elim m [ inl e ↦ inl e | inr n ↦ inr (deeper n) ]
in_chosen s y h x deeper false m = absurd m

-- what stands before the ask stands in the history
pub before_ask-in : (s : ℕ) (h : List Item) (x : Item) → x ∈ before_ask s h → x ∈ h
unfolding before_ask ◌∈◌
before_ask-in s [] x m = m
before_ask-in s (y ∷ h) x m = in_chosen s y h x (before_ask-in s h x) (has_ask s h || not (asks s y)) m
