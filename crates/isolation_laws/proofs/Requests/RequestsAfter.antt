-- Requests and the sessions that wait for them, where an instance or a client changes.
use Rattle.isolation_laws.proofs.Names.{◌≡◌, ◌≢◌, ℕ, zero, suc, Bool, true, List, [], ◌∷◌, Option, Some, None, ◌⊎◌, inl}
use Rattle.isolation_laws.proofs.Names.{inr, refl, sym, ◌∙◌, ap, subst, slice_set, slice_index_or, cases_eq, same_Some}
use Rattle.isolation_laws.proofs.Names.{none-some, SessionState, Held, Progress, Request, Commit, InstanceEntry}
use Rattle.isolation_laws.proofs.Names.{held_of, with_request, session_of, Client, crashed_clients, InstanceAt, HeldBy}
use Rattle.isolation_laws.proofs.Names.{ClientAt, is_placing, WaitsFor, AreRequests, instance_changed, instance_ended}
use Rattle.isolation_laws.proofs.Names.{one_client, held_set, set_found, set_other}
use Rattle.system_parts.specs.declared.session.State.TheVariants as phase
use Rattle.system_parts.specs.declared.instance.Request.TheVariants.{Begin}
use Rattle.isolation_laws.proofs.Requests.ClientsOpen.{asking_rests, committing_rests, gone_rests}

-- ---- instances with the same requests or fewer
-- each request that is held was held, by the same node and session
pub record FewerHeld (old new : List (Option InstanceEntry)) : Type 0 where
  pub each : (n s : ℕ) (j : InstanceEntry) (request : Request) (p : Progress) → InstanceAt new n j → HeldBy j s request p → (i : InstanceEntry) × (q : Progress) × InstanceAt old n i × HeldBy i s request q

pub requests_fewer : (old new : List (Option InstanceEntry)) (clients : List Client) → FewerHeld old new → AreRequests old clients → AreRequests new clients
requests_fewer old new clients fewer requests = record {
  own = λ n s i request p at held. let was = fewer.each n s i request p at held in requests.own n s was.0 request was.1 was.2 was.3;
  waits = λ n s i request p at held. let was = fewer.each n s i request p at held in requests.waits n s was.0 request was.1 was.2 was.3;
  one = λ n m s i j request other p q at there held too.
      let a = fewer.each n s i request p at held in
      let b = fewer.each m s j other q there too in
      requests.one n m s a.0 b.0 request other a.1 b.1 a.2 b.2 a.3 b.3;
}

-- an instance took the place of another, with none but its requests
pub held_changed : (nodes : List (Option InstanceEntry)) (n : ℕ) (i j : InstanceEntry) → InstanceAt nodes n i → ((s : ℕ) (request : Request) (p : Progress) → HeldBy j s request p → (q : Progress) × HeldBy i s request q) → FewerHeld nodes (slice_set nodes n (Some j))
held_changed nodes n i j at kept = record {
  each = λ m s x request p there held. elim (instance_changed nodes n m j x there) [
    | inl here ↦
        let was = kept s request p (subst (λ (y : InstanceEntry). HeldBy y s request p) here.1 held) in
        (i, was.0, subst (λ q. InstanceAt nodes q i) (sym here.0) at, was.1)
    | inr other ↦ (x, p, other.1, held)
  ];
}

pub held_ended_at : (nodes : List (Option InstanceEntry)) (n : ℕ) → FewerHeld nodes (slice_set nodes n None)
held_ended_at nodes n = record { each = λ m s x request p there held. (x, p, (instance_ended nodes n m x there).1, held) }

-- a request that moved on is the same request
pub held_moved : (i : InstanceEntry) (s : ℕ) (held now : Held) → held_of i s ≡ Some held → now.request ≡ held.request → (r : ℕ) (request : Request) (p : Progress) → HeldBy (with_request i s (Some now)) r request p → (q : Progress) × HeldBy i r request q
held_moved i s held now has same r request p h = elim (held_set i s r (Some now) h.held h.has) [
  | inl here ↦ (held.progress, record { held = held; has = ap (held_of i) here.0 ∙ has; asks = sym same ∙ (ap (λ x. x.request) (same_Some now h.held here.1) ∙ h.asks); stands = refl })
  | inr there ↦ (p, record { held = h.held; has = there.1; asks = h.asks; stands = h.stands })
]

pub held_over : (i : InstanceEntry) (s r : ℕ) (request : Request) (p : Progress) → HeldBy (with_request i s None) r request p → (q : Progress) × HeldBy i r request q
held_over i s r request p h = elim (held_set i s r None h.held h.has) [
  | inl here ↦ absurd (none-some h.held here.1)
  | inr there ↦ (p, record { held = h.held; has = there.1; asks = h.asks; stands = h.stands })
]

-- ---- clients
-- what a waiting session's client is
waits_states : (request : Request) (c : Client) → WaitsFor request c → (c.entry.state ≡ phase.Gone) ⊎ ((c.entry.state ≡ phase.Asking) ⊎ (c.entry.state ≡ phase.Committing))
waits_states (Begin s) c (inl gone) = inl gone
waits_states (Begin s) c (inr asking) = inr (inl asking)
waits_states (Commit s t keys) c (inl gone) = inl gone
waits_states (Commit s t keys) c (inr asked) = inr (inr asked.0)

-- a state in which no request is waited for
pub record WaitsForNone (state : SessionState) : Type 0 where
  pub gone : state ≡ phase.Gone → ⊥
  pub asking : state ≡ phase.Asking → ⊥
  pub committing : state ≡ phase.Committing → ⊥

pub free_waits : WaitsForNone phase.Free
free_waits = record { gone = λ is. cc; asking = λ is. cc; committing = λ is. cc }

pub open_waits : WaitsForNone phase.Open
open_waits = record { gone = λ is. cc; asking = λ is. cc; committing = λ is. cc }

pub outcome_waits : WaitsForNone phase.OpenOutcome
outcome_waits = record { gone = λ is. cc; asking = λ is. cc; committing = λ is. cc }

pub completing_waits : (undo : Bool) → WaitsForNone (phase.Completing undo)
completing_waits undo = record { gone = λ is. cc; asking = λ is. cc; committing = λ is. cc }

pub placing_waits : (state : SessionState) → is_placing state ≡ true → WaitsForNone state
placing_waits state placing = record {
  gone = λ is. gone_rests.not_placing (ap is_placing (sym is) ∙ placing);
  asking = λ is. asking_rests.not_placing (ap is_placing (sym is) ∙ placing);
  committing = λ is. committing_rests.not_placing (ap is_placing (sym is) ∙ placing);
}

-- no request is held of a session that waits for none
pub none_held : (nodes : List (Option InstanceEntry)) (clients : List Client) (s : ℕ) (c : Client) (state : SessionState) → AreRequests nodes clients → ClientAt clients s c → c.entry.state ≡ state → WaitsForNone state → (n : ℕ) (i : InstanceEntry) (request : Request) (p : Progress) → InstanceAt nodes n i → HeldBy i s request p → ⊥
none_held nodes clients s c state requests at is none n i request p there held =
    let waiting = requests.waits n s i request p there held in
    let same : waiting.0 ≡ c = one_client clients s waiting.0 c waiting.1 at in
    let now : c.entry.state ≡ state = is in
    elim (waits_states request waiting.0 waiting.2) [
      | inl gone ↦ none.gone (sym now ∙ (ap (λ d. d.entry.state) (sym same) ∙ gone))
      | inr (inl asking) ↦ none.asking (sym now ∙ (ap (λ d. d.entry.state) (sym same) ∙ asking))
      | inr (inr committing) ↦ none.committing (sym now ∙ (ap (λ d. d.entry.state) (sym same) ∙ committing))
    ]

-- one client changed: the others wait as before, and this one waits for what is held of it
pub requests_client : (nodes : List (Option InstanceEntry)) (clients : List Client) (s : ℕ) (old new : Client) → ClientAt clients s old → ((n : ℕ) (i : InstanceEntry) (request : Request) (p : Progress) → InstanceAt nodes n i → HeldBy i s request p → WaitsFor request new) → AreRequests nodes clients → AreRequests nodes (slice_set clients s new)
requests_client nodes clients s old new at waits requests = record {
  own = requests.own;
  waits = λ n r i request p there held. elim (cases_eq r s) [
    | inl is ↦ (new, subst (λ q. ClientAt (slice_set clients s new) q new) (sym is) (set_found clients s new old at), waits n i request p there (subst (λ q. HeldBy i q request p) is held))
    | inr other ↦ let was = requests.waits n r i request p there held in (was.0, set_other clients s r new other ∙ was.1, was.2)
  ];
  one = requests.one;
}

-- a client that waits for none may become anything
pub requests_idle : (nodes : List (Option InstanceEntry)) (clients : List Client) (s : ℕ) (old new : Client) (state : SessionState) → ClientAt clients s old → old.entry.state ≡ state → WaitsForNone state → AreRequests nodes clients → AreRequests nodes (slice_set clients s new)
requests_idle nodes clients s old new state at is none requests =
    requests_client nodes clients s old new at (λ n i request p there held. absurd (none_held nodes clients s old state requests at is none n i request p there held)) requests

over_now : (i : InstanceEntry) (s : ℕ) (request : Request) (p : Progress) → HeldBy (with_request i s None) s request p → ⊥
over_now i s request p h = elim (held_set i s s None h.held h.has) [
  | inl here ↦ none-some h.held here.1
  | inr there ↦ there.0 refl
]

-- a session's request that is over is held nowhere
none_left : (nodes : List (Option InstanceEntry)) (clients : List Client) (n m s : ℕ) (i j : InstanceEntry) (request other : Request) (p q : Progress) → AreRequests nodes clients → InstanceAt nodes n i → HeldBy i s request p → InstanceAt (slice_set nodes n (Some (with_request i s None))) m j → HeldBy j s other q → ⊥
none_left nodes clients n m s i j request other p q requests at held there too = elim (instance_changed nodes n m (with_request i s None) j there) [
  | inl here ↦ over_now i s other q (subst (λ (y : InstanceEntry). HeldBy y s other q) here.1 too)
  | inr else ↦ else.0 (sym (requests.one n m s i j request other p q at else.1 held too))
]

-- a client whose request is over may become anything
pub requests_over : (nodes new : List (Option InstanceEntry)) (clients : List Client) (n s : ℕ) (i : InstanceEntry) (request : Request) (p : Progress) (old c : Client) → new ≡ slice_set nodes n (Some (with_request i s None)) → InstanceAt nodes n i → HeldBy i s request p → ClientAt clients s old → AreRequests nodes clients → AreRequests new (slice_set clients s c)
requests_over nodes new clients n s i request p old c is at held client requests =
    let fewer : FewerHeld nodes (slice_set nodes n (Some (with_request i s None))) = held_changed nodes n i (with_request i s None) at (held_over i s) in
    let less : AreRequests (slice_set nodes n (Some (with_request i s None))) clients = requests_fewer nodes (slice_set nodes n (Some (with_request i s None))) clients fewer requests in
    subst (λ (all : List (Option InstanceEntry)). AreRequests all (slice_set clients s c)) (sym is)
    (requests_client (slice_set nodes n (Some (with_request i s None))) clients s old c client (λ m j other q there too. absurd (none_left nodes clients n m s i j request other p q requests at held there too)) less)

-- ---- a crash: each client hears of the loss of its request, and no request of another node is one of these
crashed_other : (requests : List (Option Held)) (clients : List Client) (s : ℕ) (c : Client) → ((held : Held) → slice_index_or requests s None ≡ Some held → ⊥) → ClientAt clients s c → ClientAt (crashed_clients requests clients) s c
unfolding crashed_clients
crashed_other [] clients s c none at = at
crashed_other (held ∷ others) [] s c none at = absurd (cc)
crashed_other (None ∷ others) (d ∷ clients) zero c none at = at
crashed_other (Some held ∷ others) (d ∷ clients) zero c none at = absurd (none held refl)
crashed_other (held ∷ others) (d ∷ clients) (suc s) c none at = crashed_other others clients s c none at

loss_waits : (nodes : List (Option InstanceEntry)) (clients : List Client) (n m s : ℕ) (i j : InstanceEntry) (request : Request) (p : Progress) (c : Client) → AreRequests nodes clients → InstanceAt nodes n i → m ≢ n → InstanceAt nodes m j → HeldBy j s request p → ClientAt clients s c → WaitsFor request c → ClientAt (crashed_clients i.requests clients) s c
loss_waits nodes clients n m s i j request p c requests at other there held client waits = crashed_other i.requests clients s c (λ held_there is. other (requests.one m n s j i request held_there.request p held_there.progress there at held (record { held = held_there; has = is; asks = refl; stands = refl }))) client

pub requests_crashed : (nodes : List (Option InstanceEntry)) (clients : List Client) (n : ℕ) (i : InstanceEntry) → InstanceAt nodes n i → AreRequests nodes clients → AreRequests (slice_set nodes n None) (crashed_clients i.requests clients)
requests_crashed nodes clients n i at requests = record {
  own = λ m s j request p there held. requests.own m s j request p (instance_ended nodes n m j there).1 held;
  waits = λ m s j request p there held.
      let old = instance_ended nodes n m j there in
      let was = requests.waits m s j request p old.1 held in
      (was.0, loss_waits nodes clients n m s i j request p was.0 requests at old.0 old.1 held was.1 was.2, was.2);
  one = λ m o s j g request other p q there too held also. requests.one m o s j g request other p q (instance_ended nodes n m j there).1 (instance_ended nodes n o g too).1 held also;
}

-- ---- a new request of a session that waited for none
pub record HoldsNew (nodes new : List (Option InstanceEntry)) (s n : ℕ) (request : Request) : Type 0 where
  pub each : (m r : ℕ) (j : InstanceEntry) (asked : Request) (p : Progress) → InstanceAt new m j → HeldBy j r asked p → ((r ≡ s) × (m ≡ n) × (asked ≡ request)) ⊎ ((i : InstanceEntry) × InstanceAt nodes m i × HeldBy i r asked p)

pub new_held : (nodes : List (Option InstanceEntry)) (s n : ℕ) (i : InstanceEntry) (now : Held) → InstanceAt nodes n i → HoldsNew nodes (slice_set nodes n (Some (with_request i s (Some now)))) s n now.request
new_held nodes s n i now at = record {
  each = λ m r j asked p there held. elim (instance_changed nodes n m (with_request i s (Some now)) j there) [
    | inl here ↦ elim (held_set i s r (Some now) held.held (ap (λ (y : InstanceEntry). held_of y r) (sym here.1) ∙ held.has)) [
      | inl mine ↦ inl (mine.0, here.0, sym (ap (λ x. x.request) (same_Some now held.held mine.1) ∙ held.asks))
      | inr old ↦ inr (i, subst (λ q. InstanceAt nodes q i) (sym here.0) at, record { held = held.held; has = old.1; asks = held.asks; stands = held.stands })
    ]
    | inr other ↦ inr (j, other.1, held)
  ];
}

pub requests_new : (nodes new : List (Option InstanceEntry)) (clients : List Client) (n s : ℕ) (request : Request) (old c : Client) (state : SessionState) → HoldsNew nodes new s n request → session_of request ≡ s → ClientAt clients s old → old.entry.state ≡ state → WaitsForNone state → WaitsFor request c → AreRequests nodes clients → AreRequests new (slice_set clients s c)
requests_new nodes new clients n s request old c state holds own at is none waits requests = record {
  own = λ m r j asked p there held. elim (holds.each m r j asked p there held) [
    | inl now ↦ ap session_of now.2 ∙ (own ∙ sym now.0)
    | inr was ↦ requests.own m r was.0 asked p was.1 was.2
  ];
  waits = λ m r j asked p there held. elim (holds.each m r j asked p there held) [
    | inl now ↦ (c, subst (λ q. ClientAt (slice_set clients s c) q c) (sym now.0) (set_found clients s c old at), subst (λ (x : Request). WaitsFor x c) (sym now.2) waits)
    | inr was ↦ elim (cases_eq r s) [
      | inl mine ↦ absurd (none_held nodes clients s old state requests at is none m was.0 asked p was.1 (subst (λ q. HeldBy was.0 q asked p) mine was.2))
      | inr other ↦ let before = requests.waits m r was.0 asked p was.1 was.2 in (before.0, set_other clients s r c other ∙ before.1, before.2)
    ]
  ];
  one = λ m o r j g asked other p q there too held also. elim (holds.each m r j asked p there held) [
    | inl now ↦ elim (holds.each o r g other q too also) [
      | inl same ↦ now.1 ∙ sym same.1
      | inr was ↦ absurd (none_held nodes clients s old state requests at is none o was.0 other q was.1 (subst (λ y. HeldBy was.0 y other q) now.0 was.2))
    ]
    | inr was ↦ elim (holds.each o r g other q too also) [
      | inl now ↦ absurd (none_held nodes clients s old state requests at is none m was.0 asked p was.1 (subst (λ y. HeldBy was.0 y asked p) now.0 was.2))
      | inr before ↦ requests.one m o r was.0 before.0 asked other p q was.1 before.1 was.2 before.2
    ]
  ];
}
