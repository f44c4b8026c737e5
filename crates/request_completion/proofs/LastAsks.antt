-- The last ask of a session, where it was for a commit, stands in the history.
use Rattle.request_completion.proofs.Names.{◌≡◌, ℕ, Bool, if◌then◌else◌, List, [], ◌∷◌, ◌++◌, Option, None, Some, ◌⊎◌}
use Rattle.request_completion.proofs.Names.{inl, inr, refl, sym, ◌∙◌, ap, subst, fold, option_or, cases_eq, eq-eqb}
use Rattle.request_completion.proofs.Names.{ne_eqb, none-some, same_Some, All-nil, All-cons, All-head, All-tail, ◌∈◌}
use Rattle.request_completion.proofs.Names.{Item, ask_by, its_ask}
use Rattle.history_book.specs.declared.item.Item.TheVariants as item
use Rattle.cause_rules.specs.Asks.{Ask}
use Rattle.cause_rules.specs.Since.{told_then}
use Rattle.request_completion.proofs.AskItems.{NotAsked, NoneAsked}

-- ---- what was told last was told by an item
told_by_one : {A : Type 0} (told : Item → Option A) (x : Item) (last : Option A) (a : A) → option_or (told x) last ≡ Some a → (last ≡ Some a) ⊎ (told x ≡ Some a)
told_by_one {A} told x last a is = by (told x) is refl
  where
    by : (found : Option A) → option_or found last ≡ Some a → told x ≡ found → (last ≡ Some a) ⊎ (told x ≡ Some a)
    by None is same = inl is
    by (Some b) is same = inr (same ∙ is)

told_from : {A : Type 0} (told : Item → Option A) (last : Option A) (h : List Item) (a : A) → fold (told_then told) last h ≡ Some a → (last ≡ Some a) ⊎ ((x : Item) × (x ∈ h) × (told x ≡ Some a))
unfolding ◌∈◌
told_from told last [] a is = inl is
told_from told last (x ∷ h) a is = elim (told_from told (option_or (told x) last) h a is) [
  | inl first ↦ elim (told_by_one told x last a first) [ inl before ↦ inl before | inr here ↦ inr (x, inl refl, here) ]
  | inr later ↦ inr (later.0, inr later.1, later.2)
]

-- ---- an ask for a commit
abbrev pub begin_at : ℕ → Ask
begin_at node = record { node = node; start = None }

abbrev pub commit_at : ℕ → ℕ → Ask
commit_at node start = record { node = node; start = Some start }

pub same_ask : (node n start t : ℕ) → Some (commit_at node start) ≡ Some (commit_at n t) → (node ≡ n) × (start ≡ t)
same_ask node n start t same =
    let one : commit_at node start ≡ commit_at n t = same_Some (commit_at node start) (commit_at n t) same in
    (ap (λ (asked : Ask). asked.node) one, same_Some start t (ap (λ (asked : Ask). asked.start) one))

pub no_begin : (node n t : ℕ) → Some (begin_at node) ≡ Some (commit_at n t) → ⊥
no_begin node n t same = none-some t (ap (λ (asked : Ask). asked.start) (same_Some (begin_at node) (commit_at n t) same))

asked_by : (s n t : ℕ) (x : Item) → ask_by s x ≡ Some (commit_at n t) → x ≡ item.AskCommit s n t
asked_by s n t (item.AskBegin session node) is = elim (cases_eq session s) [
  | inl same ↦ absurd (no_begin node n t (sym (ap (λ (b : Bool). if b then Some (begin_at node) else None) (eq-eqb session s same)) ∙ is))
  | inr other ↦ absurd (none-some _ (sym (ap (λ (b : Bool). if b then Some (begin_at node) else None) (ne_eqb session s other)) ∙ is))
]
asked_by s n t (item.AskCommit session node start) is = elim (cases_eq session s) [
  | inl same ↦
      let asked : (node ≡ n) × (start ≡ t) = same_ask node n start t (sym (ap (λ (b : Bool). if b then Some (commit_at node start) else None) (eq-eqb session s same)) ∙ is) in
      ap (λ (q : ℕ). item.AskCommit q node start) same ∙ (ap (λ (q : ℕ). item.AskCommit s q start) asked.0 ∙ ap (λ (q : ℕ). item.AskCommit s n q) asked.1)
  | inr other ↦ absurd (none-some _ (sym (ap (λ (b : Bool). if b then Some (commit_at node start) else None) (ne_eqb session s other)) ∙ is))
]
asked_by s n t _ is = absurd (none-some _ is)

pub asked_in : (h : List Item) (s n t : ℕ) → its_ask h s ≡ Some (commit_at n t) → item.AskCommit s n t ∈ h
asked_in h s n t is = elim (told_from (ask_by s) None h (commit_at n t) is) [
  | inl none ↦ absurd (none-some _ none)
  | inr one ↦ subst (λ (x : Item). x ∈ h) (asked_by s n t one.0 one.2) one.1
]

-- ---- the front of items that ask nothing
pub front_unasked : (s : ℕ) (front behind : List Item) → NoneAsked s (front ++ behind) → NoneAsked s front
front_unasked s [] behind none = All-nil (NotAsked s)
front_unasked s (x ∷ front) behind none = All-cons (NotAsked s) x front (All-head (NotAsked s) x (front ++ behind) none) (front_unasked s front behind (All-tail (NotAsked s) x (front ++ behind) none))
