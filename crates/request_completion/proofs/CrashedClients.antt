-- What a crash makes of the clients and tells them, one by one.
use Rattle.request_completion.proofs.Names.{◌≡◌, ℕ, zero, suc, List, [], ◌∷◌, Option, None, Some, inl, inr, refl, sym}
use Rattle.request_completion.proofs.Names.{◌∙◌, ap, subst, slice_index_or, same_Some, none-some, ◌∈◌, Item, in_front}
use Rattle.request_completion.proofs.Names.{in_back, Held, Client, loss_heard, loss_items, crashed_client}
use Rattle.request_completion.proofs.Names.{crashed_items, crashed_clients, all_crashed_items, ClientAt, in_append}
use Rattle.system_parts.specs.declared.session.State as state
use Rattle.system_parts.specs.declared.session.State.TheVariants as phase

-- the client of a session, by the request that was held of it
pub crashed_is : (requests : List (Option Held)) (clients : List Client) (s : ℕ) (c d : Client) → ClientAt clients s c → ClientAt (crashed_clients requests clients) s d → d ≡ crashed_client (slice_index_or requests s None) c
unfolding crashed_clients
crashed_is [] clients s c d at there = same_Some d c (sym there ∙ at)
crashed_is (held ∷ others) [] s c d at there = absurd (cc)
crashed_is (held ∷ others) (x ∷ xs) zero c d at there = sym (same_Some (crashed_client held x) d there) ∙ ap (crashed_client held) (same_Some x c at)
crashed_is (held ∷ others) (x ∷ xs) (suc s) c d at there = crashed_is others xs s c d at there

-- what is told to a session whose request was held
pub loss_in : (node term : ℕ) (requests : List (Option Held)) (clients : List Client) (s : ℕ) (held : Held) (c : Client) (x : Item) → slice_index_or requests s None ≡ Some held → ClientAt clients s c → x ∈ loss_items node term held.request c → x ∈ all_crashed_items node term requests clients
unfolding all_crashed_items
loss_in node term [] clients s held c x is at m = absurd (none-some held is)
loss_in node term (first ∷ others) [] s held c x is at m = absurd (cc)
loss_in node term (first ∷ others) (d ∷ ds) zero held c x is at m =
    let told : x ∈ crashed_items node term first d = subst (λ (f : Option Held). x ∈ crashed_items node term f d) (sym is) (subst (λ (b : Client). x ∈ loss_items node term held.request b) (sym (same_Some d c at)) m) in
    in_front x (crashed_items node term first d) (all_crashed_items node term others ds) told
loss_in node term (first ∷ others) (d ∷ ds) (suc s) held c x is at m = in_back x (crashed_items node term first d) (all_crashed_items node term others ds) (loss_in node term others ds s held c x is at m)

pub heard_in : (heard : state.State) (x : Item) (items : List Item) → (heard ≡ phase.Gone → ⊥) → x ∈ items → x ∈ loss_heard heard items
heard_in phase.Gone x items alive m = absurd (alive refl)
heard_in _ x items alive m = m

-- whoever is told something had a request there
pub record LossOf (node term : ℕ) (requests : List (Option Held)) (x : Item) : Type 0 where
  pub session : ℕ
  pub held : Held
  pub has : slice_index_or requests session None ≡ Some held
  pub client : Client
  pub told : x ∈ loss_items node term held.request client

of_one : (node term : ℕ) (first : Option Held) (others : List (Option Held)) (d : Client) (x : Item) → x ∈ crashed_items node term first d → LossOf node term (first ∷ others) x
unfolding ◌∈◌
of_one node term None others d x m = absurd m
of_one node term (Some held) others d x m = record { session = zero; held = held; has = refl; client = d; told = m }

pub loss_of : (node term : ℕ) (requests : List (Option Held)) (clients : List Client) (x : Item) → x ∈ all_crashed_items node term requests clients → LossOf node term requests x
unfolding all_crashed_items ◌∈◌
loss_of node term [] clients x m = absurd m
loss_of node term (first ∷ others) [] x m = absurd m
loss_of node term (first ∷ others) (d ∷ ds) x m = elim (in_append x (crashed_items node term first d) (all_crashed_items node term others ds) m) [
  | inl here ↦ of_one node term first others d x here
  | inr there ↦
      let later : LossOf node term others x = loss_of node term others ds x there in
      record { session = suc later.session; held = later.held; has = later.has; client = later.client; told = later.told }
]
