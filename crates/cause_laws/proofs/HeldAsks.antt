-- Whose requests a node holds: those that a crash tells of, and none of a session that may ask.
use Rattle.cause_laws.proofs.Names.{◌≡◌, ℕ, suc, List, [], ◌∷◌, Option, Some, None, ◌⊎◌, inl, inr, refl, sym, ◌∙◌, ap}
use Rattle.cause_laws.proofs.Names.{subst, slice_index_or, All, All-nil, All-cons, All-append, Cause, Session, Item}
use Rattle.cause_laws.proofs.Names.{SessionState, Held, Request, Begin, Commit, InstanceEntry, held_of, session_of}
use Rattle.cause_laws.proofs.Names.{Client, State, loss_heard, loss_items, crashed_items, all_crashed_items, InstanceAt}
use Rattle.cause_laws.proofs.Names.{ClientAt, WaitsFor, AreRequests, held_by, one_client}
use Rattle.history_book.specs.declared.cause.Cause.TheVariants as cause
use Rattle.history_book.specs.declared.item.Item.TheVariants as item
use Rattle.system_parts.specs.declared.session.State.TheVariants as phase
use Rattle.cause_laws.proofs.NodeTransitions.{IsLossOf}

-- ---- crash: each session that is told something has its request there
abbrev pub AllLosses : InstanceEntry → List Item → Type 0
AllLosses i items = All (IsLossOf i) items

heard_losses : (i : InstanceEntry) (state : SessionState) (items : List Item) → AllLosses i items → AllLosses i (loss_heard state items)
heard_losses i phase.Gone items losses = All-nil (IsLossOf i)
heard_losses i _ items losses = losses

one_loss : (i : InstanceEntry) (session : ℕ) (why : Cause) (held : Held) → held_of i session ≡ Some held → AllLosses i (item.Refused (Session session) why ∷ [])
one_loss i session why held has = All-cons (IsLossOf i) (item.Refused (Session session) why) [] (held, has) (All-nil (IsLossOf i))

loss_losses : (i : InstanceEntry) (node : ℕ) (held : Held) (request : Request) (c : Client) → held_of i (session_of request) ≡ Some held → AllLosses i (loss_items node i.term request c)
loss_losses i node held (Begin session) c has = heard_losses i c.entry.state _ (one_loss i session (cause.Crashed node i.term) held has)
loss_losses i node held (Commit session start keys) c has = heard_losses i c.entry.state _ (one_loss i session (cause.Open start) held has)

-- each of these requests is held under its own session
abbrev pub AreOwn : InstanceEntry → List (Option Held) → Type 0
AreOwn i requests = (q : ℕ) (held : Held) → slice_index_or requests q None ≡ Some held → held_of i (session_of held.request) ≡ Some held

crashed_losses : (i : InstanceEntry) (node : ℕ) (found : Option Held) (c : Client) → ((held : Held) → found ≡ Some held → held_of i (session_of held.request) ≡ Some held) → AllLosses i (crashed_items node i.term found c)
crashed_losses i node None c own = All-nil (IsLossOf i)
crashed_losses i node (Some held) c own = loss_losses i node held held.request c (own held refl)

pub all_losses : (i : InstanceEntry) (node : ℕ) (requests : List (Option Held)) (clients : List Client) → AreOwn i requests → AllLosses i (all_crashed_items node i.term requests clients)
unfolding all_crashed_items
all_losses i node [] clients own = All-nil (IsLossOf i)
all_losses i node (found ∷ others) [] own = All-nil (IsLossOf i)
all_losses i node (found ∷ others) (c ∷ clients) own =
    All-append (IsLossOf i) (crashed_items node i.term found c) (all_crashed_items node i.term others clients) (crashed_losses i node found c (λ held is. own 0 held is)) (all_losses i node others clients (λ q held is. own (suc q) held is))

pub own_requests : (w : State) (node : ℕ) (i : InstanceEntry) → InstanceAt w.nodes node i → AreRequests w.nodes w.clients → AreOwn i i.requests
own_requests w node i at requests q held has = subst (λ s. held_of i s ≡ Some held) (sym (requests.own node q i held.request held.progress at (held_by i q held has))) has

-- ---- a session that may ask has no request
-- it does not wait for an answer
abbrev pub MayAsk : SessionState → Type 0
MayAsk state = (state ≡ phase.Free) ⊎ (state ≡ phase.Open)

may_not_wait : (state : SessionState) → MayAsk state → (state ≡ phase.Gone) ⊎ (state ≡ phase.Asking) ⊎ (state ≡ phase.Committing) → ⊥
may_not_wait state (inl free) (inl gone) = let clash : phase.Free ≡ phase.Gone = sym free ∙ gone in cc
may_not_wait state (inl free) (inr (inl asking)) = let clash : phase.Free ≡ phase.Asking = sym free ∙ asking in cc
may_not_wait state (inl free) (inr (inr committing)) = let clash : phase.Free ≡ phase.Committing = sym free ∙ committing in cc
may_not_wait state (inr opened) (inl gone) = let clash : phase.Open ≡ phase.Gone = sym opened ∙ gone in cc
may_not_wait state (inr opened) (inr (inl asking)) = let clash : phase.Open ≡ phase.Asking = sym opened ∙ asking in cc
may_not_wait state (inr opened) (inr (inr committing)) = let clash : phase.Open ≡ phase.Committing = sym opened ∙ committing in cc

waits_in : (request : Request) (c : Client) → WaitsFor request c → (c.entry.state ≡ phase.Gone) ⊎ (c.entry.state ≡ phase.Asking) ⊎ (c.entry.state ≡ phase.Committing)
waits_in (Begin session) c (inl gone) = inl gone
waits_in (Begin session) c (inr asking) = inr (inl asking)
waits_in (Commit session start keys) c (inl gone) = inl gone
waits_in (Commit session start keys) c (inr committing) = inr (inr committing.0)

pub holds_none : (w : State) (session node : ℕ) (c : Client) (i : InstanceEntry) → InstanceAt w.nodes node i → ClientAt w.clients session c → MayAsk c.entry.state → AreRequests w.nodes w.clients → (found : Option Held) → held_of i session ≡ found → found ≡ None
holds_none w session node c i at client_at may requests None has = refl
holds_none w session node c i at client_at may requests (Some held) has =
    let waits = requests.waits node session i held.request held.progress at (held_by i session held has) in
    let state : waits.0.entry.state ≡ c.entry.state = ap (λ (x : Client). x.entry.state) (one_client w.clients session waits.0 c waits.1 client_at) in
    absurd (may_not_wait waits.0.entry.state (subst MayAsk (sym state) may) (waits_in held.request waits.0 waits.2))
