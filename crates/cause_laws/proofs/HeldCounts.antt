-- How many requests of a session are held at a node after a node transition, by what its items do to the asks that are open there.
use Rattle.cause_laws.proofs.Names.{◌≡◌, ◌≢◌, ℕ, ◌<◌, ◌==◌, Bool, true, false, if◌then◌else◌, is_some, length, List}
use Rattle.cause_laws.proofs.Names.{◌++◌, Option, None, Some, ◌⊎◌, inl, inr, refl, sym, ◌∙◌, ap, subst, slice_get}
use Rattle.cause_laws.proofs.Names.{slice_set, All, fold, cases_lt, eqb-true, eqb-false, get_or_past, length-set}
use Rattle.cause_laws.proofs.Names.{none-some, SetupNumbers, Item, Held, Progress, Request, InstanceEntry, held_of}
use Rattle.cause_laws.proofs.Names.{with_request, held_of-with_request_same, held_of-with_request_other, open_then}
use Rattle.cause_laws.proofs.Names.{InstanceAt, HeldBy, set_cases, instance_changed, instance_ended, held_by}
use Rattle.cause_laws.proofs.Names.{held_count, AreOpenAsks}
use Rattle.cause_laws.proofs.OpenWords.{open_more, open_kept, Calm, all_calm_keep}

-- ---- one session or another
pub same_or_other : (a b : ℕ) → (a ≡ b) ⊎ (a ≢ b)
same_or_other a b = by_test (a == b) refl
  where
    by_test : (t : Bool) → (a == b) ≡ t → (a ≡ b) ⊎ (a ≢ b)
    by_test true is = inl (eqb-true a b is)
    by_test false is = inr (eqb-false a b is)

-- ---- the count at an instance
abbrev pub count_of : Option Held → ℕ
count_of held = if is_some held then 1 else 0

pub held_within : (i : InstanceEntry) (s : ℕ) (held : Held) → held_of i s ≡ Some held → s < length i.requests
held_within i s held has = elim (cases_lt s (length i.requests)) [
  | inl within ↦ within
  | inr past ↦ absurd (none-some held (sym (get_or_past i.requests s None past) ∙ has))
]

pub count_other : (i : InstanceEntry) (s r : ℕ) (now : Option Held) → r ≢ s → held_count (Some (with_request i s now)) r ≡ held_count (Some i) r
count_other i s r now other = ap count_of (held_of-with_request_other i s r now other)

pub count_now : (i : InstanceEntry) (s : ℕ) (now : Option Held) → s < length i.requests → held_count (Some (with_request i s now)) s ≡ count_of now
count_now i s now within = ap count_of (held_of-with_request_same i s now within)

-- a request in the place of another leaves the count
pub count_same : (i : InstanceEntry) (s : ℕ) (held now : Held) → held_of i s ≡ Some held → (r : ℕ) → held_count (Some (with_request i s (Some now))) r ≡ held_count (Some i) r
count_same i s held now has r = elim (same_or_other r s) [
  | inl same ↦ subst (λ (x : ℕ). held_count (Some (with_request i s (Some now))) x ≡ held_count (Some i) x) (sym same)
      (count_now i s (Some now) (held_within i s held has) ∙ sym (ap count_of has))
  | inr other ↦ count_other i s r (Some now) other
]

-- no request, no count
none_or_held : (i : InstanceEntry) (s : ℕ) (held : Option Held) → held_of i s ≡ held → ((h : Held) → held_of i s ≡ Some h → ⊥) → count_of (held_of i s) ≡ 0
none_or_held i s None is not = ap count_of is
none_or_held i s (Some held) is not = absurd (not held is)

pub no_count : (nodes : List (Option InstanceEntry)) (m s : ℕ) (post : Option InstanceEntry) → slice_get nodes m ≡ Some post → ((j : InstanceEntry) (request : Request) (p : Progress) → InstanceAt nodes m j → HeldBy j s request p → ⊥) → held_count post s ≡ 0
no_count nodes m s None at not = refl
no_count nodes m s (Some i) at not = none_or_held i s (held_of i s) refl (λ held has. not i held.request held.progress at (held_by i s held has))

-- ---- the counts after items
-- the items lead from what was held at the node to what is held there now
pub record Came (nodes : List (Option InstanceEntry)) (items : List Item) (m s : ℕ) (now : Option InstanceEntry) : Type 0 where
  pub post : Option InstanceEntry
  pub at : slice_get nodes m ≡ Some post
  pub leads : fold (open_then m s) (held_count post s) items ≡ held_count now s

abbrev pub AllCame : List (Option InstanceEntry) → List Item → List (Option InstanceEntry) → Type 0
AllCame nodes items new = (m s : ℕ) (now : Option InstanceEntry) → slice_get new m ≡ Some now → Came nodes items m s now

-- nothing is changed there
abbrev pub Stays : List (Option InstanceEntry) → List Item → ℕ → Type 0
Stays nodes items m = (s : ℕ) (post : Option InstanceEntry) → slice_get nodes m ≡ Some post → fold (open_then m s) (held_count post s) items ≡ held_count post s

pub came_all : (nodes : List (Option InstanceEntry)) (items : List Item) → ((m : ℕ) → Stays nodes items m) → AllCame nodes items nodes
came_all nodes items stays m s now at = record { post = now; at = at; leads = stays m s now at }

pub calm_stays : (nodes : List (Option InstanceEntry)) (items : List Item) (m : ℕ) → ((s : ℕ) → All (Calm m s) items) → Stays nodes items m
calm_stays nodes items m calm s post at = open_kept m s (held_count post s) items (all_calm_keep m s (held_count post s) items (calm s))

-- one node was changed
pub came_at : (nodes : List (Option InstanceEntry)) (items : List Item) (n : ℕ) (old now : Option InstanceEntry) → slice_get nodes n ≡ Some old → ((s : ℕ) → fold (open_then n s) (held_count old s) items ≡ held_count now s) → ((m : ℕ) → m ≢ n → Stays nodes items m) → AllCame nodes items (slice_set nodes n now)
came_at nodes items n old now at here stays m s post there = elim (set_cases nodes n m now post there) [
  | inl same ↦ record {
    post = old;
    at = subst (λ (k : ℕ). slice_get nodes k ≡ Some old) (sym same.0) at;
    leads = subst (λ (k : ℕ). fold (open_then k s) (held_count old s) items ≡ held_count post s) (sym same.0) (here s ∙ ap (λ (x : Option InstanceEntry). held_count x s) (sym same.1));
  }
  | inr other ↦ record { post = post; at = other.1; leads = stays m other.0 s post other.1 }
]

-- one instance was changed, and the items say nothing
pub came_calm : (nodes : List (Option InstanceEntry)) (items : List Item) (n : ℕ) (old now : Option InstanceEntry) → slice_get nodes n ≡ Some old → ((m s : ℕ) → All (Calm m s) items) → ((s : ℕ) → held_count now s ≡ held_count old s) → AllCame nodes items (slice_set nodes n now)
came_calm nodes items n old now at calm same = came_at nodes items n old now at (λ s. calm_stays nodes items n (calm n) s old at ∙ sym (same s)) (λ m other. calm_stays nodes items m (calm m))

-- ---- slots and places
abbrev pub Shape : SetupNumbers → InstanceEntry → Type 0
Shape setup i = (i.slots ≡ setup.slots) × (length i.requests ≡ 16)

abbrev pub AllShaped : SetupNumbers → List (Option InstanceEntry) → Type 0
AllShaped setup nodes = (n : ℕ) (i : InstanceEntry) → InstanceAt nodes n i → Shape setup i

pub shaped_put : (setup : SetupNumbers) (nodes : List (Option InstanceEntry)) (n : ℕ) (new : InstanceEntry) → AllShaped setup nodes → Shape setup new → AllShaped setup (slice_set nodes n (Some new))
shaped_put setup nodes n new all shape m j there = elim (instance_changed nodes n m new j there) [
  | inl here ↦ subst (λ (i : InstanceEntry). Shape setup i) (sym here.1) shape
  | inr other ↦ all m j other.1
]

pub shaped_ended : (setup : SetupNumbers) (nodes : List (Option InstanceEntry)) (n : ℕ) → AllShaped setup nodes → AllShaped setup (slice_set nodes n None)
shaped_ended setup nodes n all m j there = all m j (instance_ended nodes n m j there).1

pub shape_request : (setup : SetupNumbers) (i : InstanceEntry) (s : ℕ) (now : Option Held) → Shape setup i → Shape setup (with_request i s now)
shape_request setup i s now shape = (shape.0, length-set i.requests s now ∙ shape.1)

-- ---- the facts
pub shaped_of : (setup : SetupNumbers) (nodes : List (Option InstanceEntry)) (h : List Item) → AreOpenAsks setup nodes h → AllShaped setup nodes
shaped_of setup nodes h asks n i at = (asks.slots n i at, asks.sixteen n i at)

pub open_asks_by : (setup : SetupNumbers) (nodes new : List (Option InstanceEntry)) (h items : List Item) → AreOpenAsks setup nodes h → AllCame nodes items new → AllShaped setup new → AreOpenAsks setup new (h ++ items)
open_asks_by setup nodes new h items asks came shaped = record {
  each = λ m s now at. let from : Came nodes items m s now = came m s now at in
      open_more h items m s ∙ (ap (λ count. fold (open_then m s) count items) (asks.each m s from.post from.at) ∙ from.leads);
  slots = λ m i at. (shaped m i at).0;
  sixteen = λ m i at. (shaped m i at).1;
}
