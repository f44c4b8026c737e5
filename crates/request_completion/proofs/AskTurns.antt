-- Who asks was free, or had its transaction open, and the ask is told alone.
use Rattle.std.proofs.Common.{arith}
use Rattle.request_completion.proofs.Names.{◌≡◌, ℕ, true, false, List, [], ◌∷◌, inl, inr, refl, sym, ◌∙◌}
use Rattle.request_completion.proofs.Names.{subst, slice_set, eq-eqb, All-head, All-tail, ◌∈◌, Item}
use Rattle.request_completion.proofs.Names.{Client, State, ClientAt, each_outcome, client_set, one_client}
use Rattle.request_completion.proofs.Names.{AskedBegin, asked_begin_state, asked_begin_items, AskedCommit}
use Rattle.request_completion.proofs.Names.{asked_commit_state, Outcome, OfAskedBegin, OfAskedCommit, left_by}
use Rattle.request_completion.proofs.Names.{told_by_outcome, TakesAsks, AsksAreTurns}
use Rattle.history_book.specs.declared.item.Item.TheVariants as item
use Rattle.request_completion.proofs.OwingItems.{only_is}
use Rattle.request_completion.proofs.OwingOutcomes.{among}
use Rattle.request_completion.proofs.AskItems.{NotAsked, NoneAsked, plain_asks}

-- ---- an item that asks
pub asks_not : (s : ℕ) (x : Item) (items : List Item) → NoneAsked s items → x ∈ items → NotAsked s x
unfolding ◌∈◌
asks_not s x [] none m = absurd m
asks_not s x (y ∷ items) none m = elim m [
  | inl same ↦ subst (λ (z : Item). NotAsked s z) (sym same) (All-head (NotAsked s) y items none)
  | inr deeper ↦ asks_not s x items (All-tail (NotAsked s) y items none) deeper
]

pub begin_not : (s node : ℕ) (items : List Item) → NoneAsked s items → item.AskBegin s node ∈ items → ⊥
begin_not s node items none m = let clash : true ≡ false = sym (eq-eqb s s refl) ∙ asks_not s (item.AskBegin s node) items none m in cc

pub commit_not : (s node start : ℕ) (items : List Item) → NoneAsked s items → item.AskCommit s node start ∈ items → ⊥
commit_not s node start items none m = let clash : true ≡ false = sym (eq-eqb s s refl) ∙ asks_not s (item.AskCommit s node start) items none m in cc

-- ---- the client that is set
pub set_is : (w : State) (r s : ℕ) (old new c d : Client) → r ≡ s → ClientAt w.clients r old → ClientAt w.clients s c → ClientAt (slice_set w.clients r new) s d → (old ≡ c) × (d ≡ new)
set_is w r s old new c d same was at there = (
  one_client w.clients s old c (subst (λ (q : ℕ). ClientAt w.clients q old) same was) at,
  elim (client_set w.clients r s new d there) [ inl here ↦ here.1 | inr other ↦ absurd (other.0 (sym same)) ],
)

-- ---- a begin
pub commit_same : (s n t r m u : ℕ) → item.AskCommit s n t ≡ item.AskCommit r m u → (r ≡ s) × (m ≡ n) × (u ≡ t)
commit_same s n t r m u same = (cc, cc, cc)

pub begin_commits_not : (s n t r m : ℕ) → item.AskCommit s n t ≡ item.AskBegin r m → ⊥
begin_commits_not s n t r m same = cc

begin_taken : (w : State) (k : AskedBegin w) (s : ℕ) (c d : Client) → ClientAt w.clients s c → ClientAt (asked_begin_state w k).clients s d → TakesAsks s c (asked_begin_items w k) d
begin_taken w k s c d at there = grind (arith, only_is, set_is, begin_commits_not)

-- ---- a commit
commit_taken : (w : State) (k : AskedCommit w) (s : ℕ) (c d : Client) → ClientAt w.clients s c → ClientAt (asked_commit_state w k).clients s d → TakesAsks s c k.items d
commit_taken w k s c d at there = grind (arith, only_is, among, commit_same, set_is)

-- ---- every outcome
none_taken : (s : ℕ) (c d : Client) (items : List Item) → NoneAsked s items → TakesAsks s c items d
none_taken s c d items none = record {
  begins = λ node m. absurd (begin_not s node items none m);
  commits = λ node start m. absurd (commit_not s node start items none m);
}

taken_by : (w : State) (o : Outcome w) (s : ℕ) (c d : Client) → ClientAt w.clients s c → ClientAt (left_by w o).clients s d → TakesAsks s c (told_by_outcome w o) d
taken_by w (OfAskedBegin k) s c d at there = begin_taken w k s c d at there
taken_by w (OfAskedCommit k) s c d at there = commit_taken w k s c d at there
taken_by w o s c d at there = none_taken s c d (told_by_outcome w o) (plain_asks w o s refl)

pub asks_are_turns : AsksAreTurns
asks_are_turns w h e fate s c d tells at there = each_outcome (λ v items. ClientAt v.clients s d → TakesAsks s c items d) w h e fate tells.stands (λ o now. taken_by w o s c d at now) there
