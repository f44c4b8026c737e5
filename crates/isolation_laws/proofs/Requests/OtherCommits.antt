-- A commit in flight elsewhere is of another transaction.
use Rattle.isolation_laws.proofs.Names.{◌≢◌, ℕ, List, Option, inl, inr, refl, sym, ◌∙◌, ap, subst, slice_set, Stamped}
use Rattle.isolation_laws.proofs.Names.{Item, Progress, Request, Commit, InstanceEntry, Client, InstanceAt, HeldBy}
use Rattle.isolation_laws.proofs.Names.{Begun, InFlight, HeldPending, is_placing, PlacingAt, Pending, AreRequests}
use Rattle.isolation_laws.proofs.Names.{ArePending, client_set}
use Rattle.isolation_laws.proofs.OnceEach.{begun_once}
use Rattle.isolation_laws.proofs.Requests.ClientsOpen.{FewerPlacing, IsAtRest}
use Rattle.isolation_laws.proofs.Requests.PendingAfter.{fewer_pending}
use Rattle.isolation_laws.proofs.Requests.PendingFewer.{same_served, StaysPut, stays_pending}
use Rattle.isolation_laws.proofs.Requests.RequestsAfter.{placing_waits, none_held}

-- no request is held of a session that is placing its commit
pub placing_holds_none : (clients : List Client) (nodes : List (Option InstanceEntry)) (q : InFlight) → AreRequests nodes clients → PlacingAt clients q → (n : ℕ) (i : InstanceEntry) (request : Request) (p : Progress) → InstanceAt nodes n i → HeldBy i q.session request p → ⊥
placing_holds_none clients nodes q requests at = none_held nodes clients q.session at.client at.client.entry.state requests at.at refl (placing_waits at.client.entry.state at.state_is)

-- of a commit that a node holds, against one that is held elsewhere or placed by its session
pub other_commit : (clients : List Client) (nodes : List (Option InstanceEntry)) (h : List Item) (q r : InFlight) → Stamped h → AreRequests nodes clients → ArePending clients nodes h → (m : HeldPending nodes r) → StaysPut clients nodes m.node r.session q → q.start ≢ r.start
other_commit clients nodes h q r stamped requests pending m stays start =
    let session = begun_once h q.session r.session r.start stamped (subst (Begun h q.session) start (pending.begun q (stays_pending clients nodes m.node r.session q stays))) (pending.begun r (inl m)) in
    elim stays [
      | inl held ↦ held.1 (requests.one held.0.node m.node r.session held.0.instance_of m.instance_of (Commit q.session q.start q.keys) (Commit r.session r.start r.keys) held.0.progress_of m.progress_of held.0.at m.at (subst (λ s. HeldBy held.0.instance_of s (Commit q.session q.start q.keys) held.0.progress_of) session held.0.held) m.held, session)
      | inr placing ↦ placing_holds_none clients nodes q requests placing m.node m.instance_of (Commit r.session r.start r.keys) m.progress_of m.at (subst (λ s. HeldBy m.instance_of s (Commit r.session r.start r.keys) m.progress_of) (sym session) m.held)
    ]

-- what is in flight now was so before, and is of another transaction than this
abbrev pub PendingBut : List Client → List (Option InstanceEntry) → List Client → List (Option InstanceEntry) → ℕ → Type 0
PendingBut clients nodes new_clients new_nodes t = (q : InFlight) → Pending new_clients new_nodes q → Pending clients nodes q × (q.start ≢ t)

-- of a commit that its session placed, once the session is placing no more
pub none_of_placed : (clients : List Client) (nodes : List (Option InstanceEntry)) (h : List Item) (r : InFlight) (new : Client) → Stamped h → AreRequests nodes clients → ArePending clients nodes h → PlacingAt clients r → IsAtRest new.entry.state → FewerPlacing clients (slice_set clients r.session new) → PendingBut clients nodes (slice_set clients r.session new) nodes r.start
none_of_placed clients nodes h r new stamped requests pending placing rests fewer q p =
    let was : Pending clients nodes q = fewer_pending clients (slice_set clients r.session new) nodes nodes fewer (same_served nodes) q p in (
      was,
      λ start.
          let session = begun_once h q.session r.session r.start stamped (subst (Begun h q.session) start (pending.begun q was)) (pending.begun r (inr placing)) in
          elim p [
            | inl held ↦ placing_holds_none clients nodes r requests placing held.node held.instance_of (Commit q.session q.start q.keys) held.progress_of held.at (subst (λ s. HeldBy held.instance_of s (Commit q.session q.start q.keys) held.progress_of) session held.held)
            | inr now ↦ elim (client_set clients r.session q.session new now.client now.at) [
              | inl here ↦ rests.not_placing (ap (λ c. is_placing c.entry.state) (sym here.1) ∙ now.state_is)
              | inr there ↦ there.0 session
            ]
          ],
    )
