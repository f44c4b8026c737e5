-- Where the requests come from that are held after a node transition: they were held before, or the node transition changed one of them.
use Rattle.cause_laws.proofs.Names.{◌≡◌, ◌≢◌, ℕ, Bool, List, Option, None, Some, ◌⊎◌, inl, inr, refl, sym, ◌∙◌, ap}
use Rattle.cause_laws.proofs.Names.{subst, slice_set, Item, Held, Progress, Request, Begin, Commit, InstanceEntry}
use Rattle.cause_laws.proofs.Names.{with_request, session_of, Client, State, InstanceAt, HeldBy, ClientAt, WaitsFor}
use Rattle.cause_laws.proofs.Names.{ReachedInvariant, instance_changed, instance_ended, held_by, one_client}
use Rattle.cause_laws.proofs.Names.{heldby_changed}
use Rattle.system_parts.specs.declared.session.State.TheVariants as phase
use Rattle.cause_laws.proofs.NodeTransitions.{Serving, Asked, Learned}
use Rattle.cause_laws.proofs.RequestsTold.{Told, AllTold}

-- ---- requests that were held before
pub record Was (nodes : List (Option InstanceEntry)) (n s term : ℕ) (request : Request) (p : Progress) : Type 0 where
  pub i : InstanceEntry
  pub at : InstanceAt nodes n i
  pub term_is : i.term ≡ term
  pub holds : HeldBy i s request p

abbrev pub AllWere : List (Option InstanceEntry) → List (Option InstanceEntry) → Type 0
AllWere nodes new = (n s : ℕ) (i : InstanceEntry) (request : Request) (p : Progress) → InstanceAt new n i → HeldBy i s request p → Was nodes n s i.term request p

pub were_same : (nodes : List (Option InstanceEntry)) → AllWere nodes nodes
were_same nodes n s i request p at holds = record { i = i; at = at; term_is = refl; holds = holds }

-- an instance of the same term was put in the place of another, and holds no other request
pub were_put : (nodes : List (Option InstanceEntry)) (n : ℕ) (i new : InstanceEntry) → InstanceAt nodes n i → i.term ≡ new.term → ((s : ℕ) (request : Request) (p : Progress) → HeldBy new s request p → HeldBy i s request p) → AllWere nodes (slice_set nodes n (Some new))
were_put nodes n i new at term fewer m s j request p there holds = elim (instance_changed nodes n m new j there) [
  | inl here ↦ record {
    i = i;
    at = subst (λ (k : ℕ). InstanceAt nodes k i) (sym here.0) at;
    term_is = term ∙ ap (λ (k : InstanceEntry). k.term) (sym here.1);
    holds = fewer s request p (subst (λ (k : InstanceEntry). HeldBy k s request p) here.1 holds);
  }
  | inr other ↦ record { i = j; at = other.1; term_is = refl; holds = holds }
]

pub were_ended : (nodes : List (Option InstanceEntry)) (n : ℕ) → AllWere nodes (slice_set nodes n None)
were_ended nodes n m s j request p there holds = record { i = j; at = (instance_ended nodes n m j there).1; term_is = refl; holds = holds }

-- what is told of a request that was held before
pub was_told : (direct : Bool) (nodes : List (Option InstanceEntry)) (h : List Item) (n s term : ℕ) (request : Request) (p : Progress) → AllTold direct nodes h → Was nodes n s term request p → Told direct h n s term request p
was_told direct nodes h n s term request p all was = subst (λ (t : ℕ). Told direct h n s t request p) was.term_is (all n s was.i request p was.at was.holds)

-- ---- a node alone has a request of the session
pub record Alone (nodes : List (Option InstanceEntry)) (n s : ℕ) : Type 0 where
  pub one : (m : ℕ) (j : InstanceEntry) (request : Request) (p : Progress) → InstanceAt nodes m j → HeldBy j s request p → m ≡ n

pub serving_alone : (w : State) (h : List Item) (k : Serving w) → ReachedInvariant w h → Alone w.nodes k.node k.session
serving_alone w h k stands = record {
  one = λ m j request p at holds. stands.holds.requests.requests.one m k.node k.session j k.i request k.held.request p k.held.progress at k.at holds (held_by k.i k.session k.held k.has);
}

-- the request is held under its own session
pub serving_own : (w : State) (h : List Item) (k : Serving w) → ReachedInvariant w h → session_of k.held.request ≡ k.session
serving_own w h k stands = stands.holds.requests.requests.own k.node k.session k.i k.held.request k.held.progress k.at (held_by k.i k.session k.held k.has)

-- ---- a session that waits for nothing has no request
waits_not : (request : Request) (c : Client) → WaitsFor request c → (c.entry.state ≢ phase.Gone) → (c.entry.state ≢ phase.Asking) → (c.entry.state ≢ phase.Committing) → ⊥
waits_not (Begin s) c waits gone asking committing = elim waits [ inl a ↦ gone a | inr b ↦ asking b ]
waits_not (Commit s start keys) c waits gone asking committing = elim waits [ inl a ↦ gone a | inr b ↦ committing b.0 ]

idle_waits_not : (request : Request) (c : Client) → (c.entry.state ≡ phase.Free) ⊎ (c.entry.state ≡ phase.Open) → WaitsFor request c → ⊥
idle_waits_not request c idle waits = elim idle [
  | inl free ↦ waits_not request c waits (λ is. cc) (λ is. cc) (λ is. cc)
  | inr opened ↦ waits_not request c waits (λ is. cc) (λ is. cc) (λ is. cc)
]

abbrev pub Unheld : List (Option InstanceEntry) → ℕ → Type 0
Unheld nodes s = (m : ℕ) (j : InstanceEntry) (request : Request) (p : Progress) → InstanceAt nodes m j → HeldBy j s request p → ⊥

unheld_by : (w : State) (h : List Item) (s : ℕ) (c : Client) → ReachedInvariant w h → ClientAt w.clients s c → ((request : Request) → WaitsFor request c → ⊥) → Unheld w.nodes s
unheld_by w h s c stands client_at not m j request p at holds =
    let waits : (d : Client) × ClientAt w.clients s d × WaitsFor request d = stands.holds.requests.requests.waits m s j request p at holds in
    not request (subst (λ (d : Client). WaitsFor request d) (one_client w.clients s waits.0 c waits.1 client_at) waits.2)

pub asked_unheld : (w : State) (h : List Item) (k : Asked w) → ReachedInvariant w h → Unheld w.nodes (session_of k.request)
asked_unheld w h k stands = unheld_by w h (session_of k.request) k.c stands k.client_at (λ request waits. idle_waits_not request k.c k.idle waits)

-- nor one that learns by itself how its commit stands
abbrev pub IsAlone : Client → Type 0
IsAlone c = (c.entry.state ≡ phase.OpenOutcome) ⊎ (c.entry.state ≡ phase.Placing)

alone_waits_not : (request : Request) (c : Client) → IsAlone c → WaitsFor request c → ⊥
alone_waits_not request c alone waits = elim alone [
  | inl outcome ↦ waits_not request c waits (λ is. cc) (λ is. cc) (λ is. cc)
  | inr placing ↦ waits_not request c waits (λ is. cc) (λ is. cc) (λ is. cc)
]

pub alone_unheld : (w : State) (h : List Item) (s : ℕ) (c : Client) → ReachedInvariant w h → ClientAt w.clients s c → IsAlone c → Unheld w.nodes s
alone_unheld w h s c stands at alone = unheld_by w h s c stands at (λ request waits. alone_waits_not request c alone waits)

pub learned_unheld : (w : State) (h : List Item) (k : Learned w) → ReachedInvariant w h → Unheld w.nodes k.session
learned_unheld w h k stands = alone_unheld w h k.session k.c stands k.at k.alone

pub unheld_alone : (nodes : List (Option InstanceEntry)) (n s : ℕ) → Unheld nodes s → Alone nodes n s
unheld_alone nodes n s unheld = record { one = λ m j request p at holds. absurd (unheld m j request p at holds) }

-- ---- one request has changed
pub record IsNow (n s term : ℕ) (now : Held) (m r other : ℕ) (request : Request) (p : Progress) : Type 0 where
  pub node : m ≡ n
  pub session : r ≡ s
  pub term_is : other ≡ term
  pub asks : now.request ≡ request
  pub stands : now.progress ≡ p

-- the request of the session is now this one; the others were held before, of other sessions
pub now_or_was : (nodes : List (Option InstanceEntry)) (n s : ℕ) (i new : InstanceEntry) (now : Held) → Alone nodes n s → new.term ≡ i.term → ((r : ℕ) (request : Request) (p : Progress) → HeldBy new r request p → HeldBy (with_request i s (Some now)) r request p)
    → (m r : ℕ) (j : InstanceEntry) (request : Request) (p : Progress) → InstanceAt (slice_set nodes n (Some new)) m j → HeldBy j r request p → InstanceAt nodes n i
    → IsNow n s i.term now m r j.term request p ⊎ ((r ≢ s) × Was nodes m r j.term request p)
now_or_was nodes n s i new now alone term fewer m r j request p there holds at = elim (instance_changed nodes n m new j there) [
  | inl here ↦
      let term_is : j.term ≡ i.term = ap (λ (k : InstanceEntry). k.term) here.1 ∙ term in
      elim (heldby_changed i s r now request p (fewer r request p (subst (λ (k : InstanceEntry). HeldBy k r request p) here.1 holds))) [
        | inl changed ↦ inl (record { node = here.0; session = changed.0; term_is = term_is; asks = changed.1; stands = changed.2 })
        | inr same ↦ inr (same.0, record { i = i; at = subst (λ (k : ℕ). InstanceAt nodes k i) (sym here.0) at; term_is = sym term_is; holds = same.1 })
      ]
  | inr other ↦ inr (λ same. other.0 (alone.one m j request p other.1 (subst (λ (k : ℕ). HeldBy j k request p) same holds)), record { i = j; at = other.1; term_is = refl; holds = holds })
]
