-- What an outcome makes of the clients: they move as the frame says, or one is put back.
use Rattle.cause_laws.proofs.Names.{ClientsMove, clients_move, ◌≡◌, ℕ, List, [], ◌∷◌, Some, ◌⊎◌, inl, inr, refl, sym}
use Rattle.cause_laws.proofs.Names.{◌∙◌, ap, subst, slice_set, ◌∈◌, Session, HandedStep, Item, in_last, Phase}
use Rattle.cause_laws.proofs.Names.{SessionEntry, Commit, InstanceEntry, Client, State, client_begun, client_handed}
use Rattle.cause_laws.proofs.Names.{unless_gone, unless_gone_by, InstanceAt, HeldBy, ClientAt, WaitsFor}
use Rattle.cause_laws.proofs.Names.{IsolationInvariant, one_client, gone_cases, HandedOver, fetched_turn}
use Rattle.cause_laws.proofs.Names.{fetched_client, read_turn, read_client, Outcome, OfAnsweredBegin, OfHanded, OfWrote}
use Rattle.cause_laws.proofs.Names.{OfVanished, OfFetched, OfReadDropped, OfReadStepped, left_by, told_by_outcome}
use Rattle.history_book.specs.declared.item.Item.TheVariants as item
use Rattle.system_parts.specs.declared.session.State.TheVariants as phase
use Rattle.system_parts.specs.declared.instance.Progress.TheVariants as progress
use Rattle.machine.specs.Events.Write.{client_wrote}
use Rattle.cause_laws.proofs.AsBefore.{IsGone, IsPlacing, AsBefore, same_before, begun_before, heard, read_before}

-- a commit that was drawn is handed to the session, which is to place it
pub record Handed (w : State) (session : ℕ) (entry : SessionEntry) (items : List Item) : Type 0 where
  pub node : ℕ
  pub i : InstanceEntry
  pub asker : ℕ
  pub start : ℕ
  pub commit : ℕ
  pub keys : List ℕ
  pub at : InstanceAt w.nodes node i
  pub holds : HeldBy i session (Commit asker start keys) (progress.Handed commit)
  pub start_is : entry.start ≡ Some start
  pub commit_is : entry.commit ≡ Some commit
  pub tells : items ≡ item.Step (Session session) (HandedStep start commit) ∷ []

-- a client that is put back is gone only where it was before, or its vanishing is told; and it places a commit only where it
-- did before, or where one is handed to it
pub data ClientsMoved (w : State) (left : List Client) (items : List Item) : Type 0 where
  Moves : ClientsMove w.clients left → ClientsMoved w left items
  PutBack : (session : ℕ) (c new : Client) → ClientAt w.clients session c → left ≡ slice_set w.clients session new
      → (IsGone new → IsGone c ⊎ (item.Vanish session ∈ items)) → (IsPlacing new → (c.entry ≡ new.entry) ⊎ Handed w session new.entry items) → ClientsMoved w left items

put_back : (w : State) (items : List Item) (session : ℕ) (c new : Client) → ClientAt w.clients session c → AsBefore c.entry new.entry → ClientsMoved w (slice_set w.clients session new) items
put_back w items session c new at before = PutBack session c new at refl (λ gone. inl (before.gone gone)) (λ placing. inl (before.placing placing))

-- ---- a hand-over
waits_start : (w : State) (asker start : ℕ) (keys : List ℕ) (c : Client) → WaitsFor (Commit asker start keys) c → (IsGone c → ⊥) → c.entry.start ≡ Some start
waits_start w asker start keys c waits alive = elim waits [ inl gone ↦ absurd (alive gone) | inr committing ↦ committing.1 ]

held_start : (w : State) (h : List Item) (k : HandedOver w) → IsolationInvariant w h → HeldBy k.i k.session (Commit k.asker k.start k.keys) (progress.Handed k.commit) → (IsGone k.c → ⊥) → k.c.entry.start ≡ Some k.start
held_start w h k holds held alive =
    let waits = holds.requests.requests.waits k.node k.session k.i (Commit k.asker k.start k.keys) (progress.Handed k.commit) k.at held in
    waits_start w k.asker k.start k.keys k.c (subst (λ (d : Client). WaitsFor (Commit k.asker k.start k.keys) d) (one_client w.clients k.session waits.0 k.c waits.1 k.client_at) waits.2) alive

gone_stays : (c : Client) (commit : ℕ) (state : Phase) → state ≡ phase.Gone → (unless_gone_by state c (client_handed c commit)).entry.state ≡ phase.Placing → c.entry.state ≡ phase.Placing
gone_stays c commit state gone placing = subst (λ (s : Phase). (unless_gone_by s c (client_handed c commit)).entry.state ≡ phase.Placing) gone placing

handed_now : (w : State) (h : List Item) (k : HandedOver w) → IsolationInvariant w h → IsPlacing (unless_gone k.c (client_handed k.c k.commit)) → (k.c.entry ≡ (unless_gone k.c (client_handed k.c k.commit)).entry) ⊎ Handed w k.session (unless_gone k.c (client_handed k.c k.commit)).entry k.items
handed_now w h k holds placing = elim (gone_cases k.c (client_handed k.c k.commit)) [
  | inl stays ↦ inl (ap (λ (c : Client). c.entry) (sym stays.0))
  | inr moves ↦
      let held : HeldBy k.i k.session (Commit k.asker k.start k.keys) (progress.Handed k.commit) = record { held = k.held; has = k.has; asks = k.request_is; stands = k.drawn } in
      let alive : IsGone k.c → ⊥ = λ gone. let clash : phase.Gone ≡ phase.Placing = sym gone ∙ gone_stays k.c k.commit k.c.entry.state gone placing in absurd (cc) in
      inr (record {
        node = k.node;
        i = k.i;
        asker = k.asker;
        start = k.start;
        commit = k.commit;
        keys = k.keys;
        at = k.at;
        holds = held;
        start_is = ap (λ (c : Client). c.entry.start) moves ∙ held_start w h k holds held alive;
        commit_is = ap (λ (c : Client). c.entry.commit) moves;
        tells = k.tells;
      })
]

handed_gone : (w : State) (k : HandedOver w) → IsGone (unless_gone k.c (client_handed k.c k.commit)) → IsGone k.c
handed_gone w k gone = elim (gone_cases k.c (client_handed k.c k.commit)) [
  | inl stays ↦ stays.1
  | inr moves ↦ absurd (let clash : phase.Placing ≡ phase.Gone = ap (λ (c : Client). c.entry.state) (sym moves) ∙ gone in cc)
]

-- ---- every outcome
-- an open client wrote
wrote_before : (c : Client) (key : ℕ) → c.entry.state ≡ phase.Open → AsBefore c.entry (client_wrote c key).entry
wrote_before c key opened = record { gone = λ gone. gone; placing = λ placing. absurd (let clash : phase.Open ≡ phase.Placing = sym opened ∙ placing in cc) }

pub moved : (w : State) (h : List Item) (o : Outcome w) → IsolationInvariant w h → ClientsMoved w (left_by w o).clients (told_by_outcome w o)
moved w h (OfAnsweredBegin k) holds = put_back w _ k.session k.c _ k.client_at (heard k.c (client_begun k.c k.start k.i.epoch) (begun_before k.c.entry k.c k.start k.i.epoch))
moved w h (OfHanded k) holds = PutBack k.session k.c _ k.client_at refl (λ gone. inl (handed_gone w k gone)) (handed_now w h k holds)
moved w h (OfWrote k) holds = put_back w _ k.it.session k.it.c _ k.it.client_at (wrote_before k.it.c k.key k.it.is_open)
moved w h (OfVanished k) holds = PutBack k.session k.c _ k.client_at refl (λ gone. inr (subst (λ (items : List Item). item.Vanish k.session ∈ items) (sym k.tells) (in_last (item.Vanish k.session) []))) (λ placing. absurd (cc))
moved w h (OfFetched k) holds = put_back w _ k.it.session k.it.c _ k.it.client_at (read_before (fetched_client w k) (fetched_turn w k))
moved w h (OfReadDropped k) holds = put_back w _ k.session k.c _ k.client_at (same_before k.c.entry)
moved w h (OfReadStepped k) holds = put_back w _ k.session k.c _ k.client_at (read_before (read_client w k) (read_turn w k))
moved w h o holds = Moves (clients_move w o refl)
