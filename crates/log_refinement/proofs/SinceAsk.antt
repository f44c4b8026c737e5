-- A history since the ask of a session, in which the session opens no further line.
use Rattle.log_refinement.proofs.Names.{◌≡◌, ℕ, ◌==◌, Bool, false, ◌&&◌, if◌then◌else◌, List, [], ◌∷◌, ◌++◌, None, Some}
use Rattle.log_refinement.proofs.Names.{inl, inr, refl, sym, ◌∙◌, ap, subst, append_assoc, All, cases_Bool, eqb-true}
use Rattle.log_refinement.proofs.Names.{All-nil, All-cons, ◌∈◌, Session, Item, Ask, ask_by, asks_for, its_ask}
use Rattle.log_refinement.proofs.Names.{since_ask, last_told-same, since-more, Opens, AllNot, not_append, NoAsk}
use Rattle.log_refinement.proofs.Names.{NoneAsks}
use Rattle.history_book.specs.declared.item.Item.TheVariants as item

-- ---- items with which the session opens no line
pub in_not : (s : ℕ) (xs : List Item) (x : Item) → AllNot (Session s) xs → x ∈ xs → Opens (Session s) x → ⊥
unfolding AllNot ◌∈◌
in_not s [] x none m opens = absurd m
in_not s (y ∷ ys) x none (inl same) opens = none.0 (subst (λ (z : Item). Opens (Session s) z) same opens)
in_not s (y ∷ ys) x none (inr m) opens = in_not s ys x none.1 m opens

pub not_front : (s : ℕ) (xs ys : List Item) → AllNot (Session s) (xs ++ ys) → AllNot (Session s) xs
unfolding AllNot
not_front s [] ys none = tt
not_front s (x ∷ xs) ys none = (none.0, not_front s xs ys none.1)

other_session : (s session : ℕ) → (Opens (Session s) (item.Vanish session) → ⊥) → (session == s) ≡ false
other_session s session not = elim (cases_Bool (session == s)) [
  | inl same ↦ absurd (not (ap (λ (q : ℕ). Some (Session q)) (eqb-true session s same)))
  | inr other ↦ other
]

no_ask_by : (s : ℕ) (x : Item) → (Opens (Session s) x → ⊥) → ask_by s x ≡ None
no_ask_by s (item.AskBegin session node) not = ap (λ (b : Bool). if b then Some (record { node = node; start = None }) else None) (other_session s session not)
no_ask_by s (item.AskCommit session node start) not = ap (λ (b : Bool). if b then Some (record { node = node; start = Some start }) else None) (other_session s session not)
no_ask_by s _ not = refl

asks_not : (s : ℕ) (x : Item) → (Opens (Session s) x → ⊥) → asks_for s x ≡ false
asks_not s (item.AskBegin session node) not = other_session s session not
asks_not s (item.AskCommit session node start) not = other_session s session not
asks_not s _ not = refl

no_ask : (n s : ℕ) (x : Item) → (Opens (Session s) x → ⊥) → NoAsk n s x
no_ask n s (item.AskBegin session node) not = ap (λ (b : Bool). b && (node == n)) (other_session s session not)
no_ask n s (item.AskCommit session node start) not = ap (λ (b : Bool). b && (node == n)) (other_session s session not)
no_ask n s _ not = refl

none_ask_by : (s : ℕ) (xs : List Item) → AllNot (Session s) xs → All (λ x. ask_by s x ≡ None) xs
unfolding AllNot
none_ask_by s [] none = All-nil (λ (x : Item). ask_by s x ≡ None)
none_ask_by s (x ∷ xs) none = All-cons (λ (y : Item). ask_by s y ≡ None) x xs (no_ask_by s x none.0) (none_ask_by s xs none.1)

none_asks_for : (s : ℕ) (xs : List Item) → AllNot (Session s) xs → All (λ x. asks_for s x ≡ false) xs
unfolding AllNot
none_asks_for s [] none = All-nil (λ (x : Item). asks_for s x ≡ false)
none_asks_for s (x ∷ xs) none = All-cons (λ (y : Item). asks_for s y ≡ false) x xs (asks_not s x none.0) (none_asks_for s xs none.1)

pub none_asks : (n s : ℕ) (xs : List Item) → AllNot (Session s) xs → NoneAsks n s xs
unfolding AllNot
none_asks n s [] none = All-nil (NoAsk n s)
none_asks n s (x ∷ xs) none = All-cons (NoAsk n s) x xs (no_ask n s x none.0) (none_asks n s xs none.1)

-- ---- the history since the ask
-- the history is that up to the ask, and what stands since
pub record IsSince (s : ℕ) (ask : Ask) (h upto since : List Item) : Type 0 where
  pub is : h ≡ upto ++ since
  pub asked : its_ask upto s ≡ Some ask
  pub begins : since_ask upto s ≡ []
  pub none : AllNot (Session s) since

-- after more items
pub since_more : (s : ℕ) (ask : Ask) (h upto since items : List Item) → IsSince s ask h upto since → AllNot (Session s) items → IsSince s ask (h ++ items) upto (since ++ items)
since_more s ask h upto since items k none = record {
  is = ap (λ (xs : List Item). xs ++ items) k.is ∙ append_assoc upto since items;
  asked = k.asked;
  begins = k.begins;
  none = not_append (Session s) since items k.none none;
}

-- at any place of it the ask is the last
pub asked_at : (s : ℕ) (ask : Ask) (h upto since front : List Item) → IsSince s ask h upto since → AllNot (Session s) front → its_ask (upto ++ front) s ≡ Some ask
asked_at s ask h upto since front k none = last_told-same (ask_by s) upto front (none_ask_by s front none) ∙ k.asked

pub asked_now : (s : ℕ) (ask : Ask) (h upto since : List Item) → IsSince s ask h upto since → its_ask h s ≡ Some ask
asked_now s ask h upto since k = ap (λ (xs : List Item). its_ask xs s) k.is ∙ asked_at s ask h upto since since k k.none

pub since_now : (s : ℕ) (ask : Ask) (h upto since : List Item) → IsSince s ask h upto since → since_ask h s ≡ since
since_now s ask h upto since k =
    ap (λ (xs : List Item). since_ask xs s) k.is
    ∙ (since-more (asks_for s) upto since (none_asks_for s since k.none) ∙ ap (λ (xs : List Item). xs ++ since) k.begins)

-- an item since the ask, as one of the whole history
pub place_in : (s : ℕ) (ask : Ask) (h upto since before behind : List Item) (x : Item) → IsSince s ask h upto since → since ≡ before ++ x ∷ behind → h ≡ (upto ++ before) ++ x ∷ behind
place_in s ask h upto since before behind x k is = k.is ∙ (ap (λ (xs : List Item). upto ++ xs) is ∙ sym (append_assoc upto before (x ∷ behind)))

pub none_before : (s : ℕ) (ask : Ask) (h upto since before behind : List Item) (x : Item) → IsSince s ask h upto since → since ≡ before ++ x ∷ behind → AllNot (Session s) before
none_before s ask h upto since before behind x k is = not_front s before (x ∷ behind) (subst (λ (xs : List Item). AllNot (Session s) xs) is k.none)

-- the session has not vanished since
pub stays_there : (s : ℕ) (ask : Ask) (h upto since : List Item) → IsSince s ask h upto since → item.Vanish s ∈ since_ask h s → ⊥
stays_there s ask h upto since k m = in_not s since (item.Vanish s) k.none (subst (λ (xs : List Item). item.Vanish s ∈ xs) (since_now s ask h upto since k) m) refl
