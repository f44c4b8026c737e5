-- The transition of each session where an instance crashes.
use Rattle.request_completion.proofs.Names.{◌≡◌, ℕ, List, ◌∷◌, Option, None, Some, inl, inr, refl, sym, ◌∙◌, ap, subst}
use Rattle.request_completion.proofs.Names.{none-some, ◌∈◌, Session, Item, Held, Request, Begin, Commit, held_of}
use Rattle.request_completion.proofs.Names.{session_of, Client, State, client_freed, client_opened, after_loss}
use Rattle.request_completion.proofs.Names.{crashed_client, loss_items, all_crashed_items, ClientAt, held_by, one_held}
use Rattle.request_completion.proofs.Names.{Crashed, crashed_state, OfCrashed, ExplainedInvariant, EndsCommit, NoCommit}
use Rattle.request_completion.proofs.Names.{SessionTransition, Rests, LosesBegin, LeavesOpen}
use Rattle.history_book.specs.declared.cause.Cause.TheVariants as cause
use Rattle.history_book.specs.declared.item.Item.TheVariants as item
use Rattle.system_parts.specs.declared.session.State.TheVariants as phase
use Rattle.request_completion.proofs.OwingItems.{only_is}
use Rattle.request_completion.proofs.OwingOutcomes.{among, owing_none}
use Rattle.request_completion.proofs.EndingItems.{heard_is, loss_told}
use Rattle.request_completion.proofs.CrashedClients.{crashed_is, loss_in, heard_in, LossOf, loss_of}
use Rattle.request_completion.proofs.SessionTurns.{heard_turn, asked_of, asking_of, committing_of}

own_request : (w : State) (h : List Item) (k : Crashed w) (s : ℕ) (held : Held) → ExplainedInvariant w h → held_of k.i s ≡ Some held → session_of held.request ≡ s
own_request w h k s held tells has = tells.stands.holds.requests.requests.own k.node s k.i held.request held.progress k.at (held_by k.i s held has)

-- what it tells
loss_item : (w : State) (k : Crashed w) (x : Item) → x ∈ all_crashed_items k.node k.i.term k.i.requests w.clients → x ∈ k.items
unfolding ◌∈◌
loss_item w k x m = subst (λ (xs : List Item). x ∈ xs) (sym k.tells) (inr m)

-- a request that was held there of the session
loss_held : (w : State) (h : List Item) (k : Crashed w) (s : ℕ) (x : Item) → ExplainedInvariant w h → x ∈ k.items → EndsCommit s x → (held : Held) × (held_of k.i s ≡ Some held) × (c : Client) × (x ∈ loss_items k.node k.i.term held.request c)
unfolding ◌∈◌
loss_held w h k s x tells m ends = elim (among x k.items (item.Crash k.node k.i.term ∷ all_crashed_items k.node k.i.term k.i.requests w.clients) k.tells m) [
  | inl same ↦ absurd (subst (λ (z : Item). EndsCommit s z) same ends)
  | inr lost ↦
      let of : LossOf k.node k.i.term k.i.requests x = loss_of k.node k.i.term k.i.requests w.clients x lost in
      let own : of.session ≡ s = sym (own_request w h k of.session of.held tells of.has) ∙ loss_told s x k.node k.i.term of.held.request of.client of.told ends in
      (of.held, subst (λ (r : ℕ). held_of k.i r ≡ Some of.held) own of.has, of.client, of.told)
]

begin_not : (s start node term asker : ℕ) (c : Client) → item.Refused (Session s) (cause.Open start) ∈ loss_items node term (Begin asker) c → ⊥
begin_not s start node term asker c m =
    let same : item.Refused (Session s) (cause.Open start) ≡ item.Refused (Session asker) (cause.Crashed node term) = only_is _ _ (heard_is _ c.entry.state _ m) in
    cc

begin_lost : (w : State) (h : List Item) (k : Crashed w) (s asker : ℕ) (held : Held) → ExplainedInvariant w h → held_of k.i s ≡ Some held → held.request ≡ Begin asker → NoCommit s k.items
begin_lost w h k s asker held tells has is = record {
  none = λ start commit m. owing_none w (OfCrashed k) s refl (item.Committed s start commit) m refl;
  open_none = λ start m.
      let of = loss_held w h k s (item.Refused (Session s) (cause.Open start)) tells m (refl, refl) in
      let request : of.0.request ≡ Begin asker = ap (λ (x : Held). x.request) (one_held k.i s of.0 held of.1 has) ∙ is in
      begin_not s start k.node k.i.term asker of.2 (subst (λ (r : Request). item.Refused (Session s) (cause.Open start) ∈ loss_items k.node k.i.term r of.2) request of.3);
}

-- what it is told of a commit
commit_lost : (w : State) (h : List Item) (k : Crashed w) (s asker start : ℕ) (keys : List ℕ) (held : Held) (c : Client) → ExplainedInvariant w h → held_of k.i s ≡ Some held → ClientAt w.clients s c → held.request ≡ Commit asker start keys → (c.entry.state ≡ phase.Gone → ⊥) → item.Refused (Session s) (cause.Open start) ∈ k.items
unfolding ◌∈◌
commit_lost w h k s asker start keys held c tells has at is alive =
    let x : Item = item.Refused (Session s) (cause.Open start) in
    let own : asker ≡ s = ap session_of (sym is) ∙ own_request w h k s held tells has in
    let told : item.Refused (Session asker) (cause.Open start) ∈ loss_items k.node k.i.term (Commit asker start keys) c = heard_in c.entry.state _ _ alive (inl refl) in
    let mine : x ∈ loss_items k.node k.i.term held.request c = subst (λ (r : Request). x ∈ loss_items k.node k.i.term r c) (sym is) (subst (λ (r : ℕ). item.Refused (Session r) (cause.Open start) ∈ loss_items k.node k.i.term (Commit asker start keys) c) own told) in
    loss_item w k x (loss_in k.node k.i.term k.i.requests w.clients s held c x has at mine)

lost_by : (w : State) (h : List Item) (k : Crashed w) (s : ℕ) (held : Held) (c : Client) (request : Request) → ExplainedInvariant w h → held_of k.i s ≡ Some held → ClientAt w.clients s c → held.request ≡ request → SessionTransition h s c k.items (after_loss request c)
lost_by w h k s held c (Begin asker) tells has at is = heard_turn h s c (client_freed c) k.items (λ alive.
    LosesBegin (asking_of w h k.node s asker k.i held c tells k.at has at is alive) refl (asked_of w h k.node s k.i held (Begin asker) tells k.at has is) (begin_lost w h k s asker held tells has is))
lost_by w h k s held c (Commit asker start keys) tells has at is = heard_turn h s c (client_opened c) k.items (λ alive.
    LeavesOpen start (committing_of w h k.node s asker start keys k.i held c tells k.at has at is alive) (commit_lost w h k s asker start keys held c tells has at is alive) (owing_none w (OfCrashed k) s refl) refl)

-- by the request that was held of the session
crash_by : (w : State) (h : List Item) (k : Crashed w) (s : ℕ) (c : Client) (found : Option Held) → ExplainedInvariant w h → ClientAt w.clients s c → held_of k.i s ≡ found → SessionTransition h s c k.items (crashed_client found c)
crash_by w h k s c None tells at none = Rests refl (λ x m ends. let of = loss_held w h k s x tells m ends in none-some of.0 (sym none ∙ of.1))
crash_by w h k s c (Some held) tells at has = lost_by w h k s held c held.request tells has at refl

pub crash_turn : (w : State) (h : List Item) (k : Crashed w) (s : ℕ) (c d : Client) → ExplainedInvariant w h → ClientAt w.clients s c → ClientAt (crashed_state w k).clients s d → SessionTransition h s c k.items d
crash_turn w h k s c d tells at there = subst (λ (x : Client). SessionTransition h s c k.items x) (sym (crashed_is k.i.requests w.clients s c d at there)) (crash_by w h k s c (held_of k.i s) tells at refl)
