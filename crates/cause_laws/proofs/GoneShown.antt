-- The history goes on to show the sessions that have vanished.
use Rattle.cause_laws.proofs.Names.{ℕ, List, ◌++◌, ◌⊎◌, inl, inr, sym, subst, slice_set, Fate, ◌∈◌, Item, in_front}
use Rattle.cause_laws.proofs.Names.{in_back, Event, Client, State, stepped, ClientAt, ReachedInvariant, client_set}
use Rattle.cause_laws.proofs.Names.{left_by, told_by_outcome, each_outcome, AreGone}
use Rattle.history_book.specs.declared.item.Item.TheVariants as item
use Rattle.cause_laws.proofs.AsBefore.{IsGone}
use Rattle.cause_laws.proofs.ClientsMoved.{ClientsMoved, Moves, PutBack, moved}

-- the session is gone among these
abbrev GoneIn : List Client → ℕ → Type 0
GoneIn clients s = (c : Client) × ClientAt clients s c × IsGone c

-- each session that is gone was so before, or its vanishing is told
abbrev GoneTold : List Client → List Client → List Item → Type 0
GoneTold old new items = (s : ℕ) (c : Client) → ClientAt new s c → IsGone c → GoneIn old s ⊎ (item.Vanish s ∈ items)

gone_on : (old new : List Client) (h items : List Item) → GoneTold old new items → AreGone old h → AreGone new (h ++ items)
gone_on old new h items told are = record {
  vanished = λ s c at gone. elim (told s c at gone) [
    | inl was ↦ in_front (item.Vanish s) h items (are.vanished s was.0 was.1 was.2)
    | inr m ↦ in_back (item.Vanish s) h items m
  ];
}

-- one client was put back
put_told : (clients : List Client) (session : ℕ) (c new : Client) (items : List Item) → ClientAt clients session c → (IsGone new → IsGone c ⊎ (item.Vanish session ∈ items)) → GoneTold clients (slice_set clients session new) items
put_told clients session c new items at told s d there gone = elim (client_set clients session s new d there) [
  | inr other ↦ inl (d, other.1, gone)
  | inl here ↦ elim (told (subst (λ (x : Client). IsGone x) here.1 gone)) [
    | inl was ↦ inl (c, subst (λ (q : ℕ). ClientAt clients q c) (sym here.0) at, was)
    | inr m ↦ inr (subst (λ (q : ℕ). item.Vanish q ∈ items) (sym here.0) m)
  ]
]

-- ---- one event
moved_told : (w : State) (left : List Client) (items : List Item) → ClientsMoved w left items → GoneTold w.clients left items
moved_told w left items (Moves move) = λ s c at gone. let was = move s c at in inl (was.0, was.1, was.2.gone gone)
moved_told w left items (PutBack session c new at same gone placing) = subst (λ (clients : List Client). GoneTold w.clients clients items) (sym same) (put_told w.clients session c new items at gone)

pub gone_kept : (w : State) (h : List Item) (e : Event) (fate : Fate) → ReachedInvariant w h → AreGone w.clients h → AreGone (stepped w e fate).state.clients (h ++ (stepped w e fate).items)
gone_kept w h e fate stands are = each_outcome (λ v items. AreGone v.clients (h ++ items)) w h e fate stands
    (λ o. gone_on w.clients (left_by w o).clients h (told_by_outcome w o) (moved_told w (left_by w o).clients (told_by_outcome w o) (moved w h o stands.holds)) are)
