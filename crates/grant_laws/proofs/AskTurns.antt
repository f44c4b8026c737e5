-- Own turns that ask: the node's instance holds the request.
use Rattle.grant_laws.proofs.Names.{◌≡◌, ◌≢◌, ℕ, ◌<◌, [], ◌∷◌, length, Option, Some, refl, sym, ◌∙◌, ap, subst}
use Rattle.grant_laws.proofs.Names.{slice_get, Session, Item, Request, Begin, Commit, InstanceEntry, held_of, in_flight}
use Rattle.grant_laws.proofs.Names.{just_asked, held_of-with_request_same, Client, State, client_asked, Effect, done}
use Rattle.grant_laws.proofs.Names.{Event, Step, step_by, with_post, with_client, at_both, on_ask, ask_begin_on}
use Rattle.grant_laws.proofs.Names.{ask_commit_on, ScriptData, InstanceAt, ClientAt, set_found, Played, step_of, played}
use Rattle.grant_laws.proofs.Names.{Makes, Carried, own_ahead, made_by, carried, IsAtWork, IsServed, Serves, AtNode}
use Rattle.grant_laws.proofs.Names.{AsksAreCarried}
use Rattle.history_book.specs.declared.item.Item.TheVariants as item
use Rattle.system_parts.specs.declared.session.State.TheVariants as phase
use Rattle.system_parts.specs.declared.instance.Progress.TheVariants as progress
use Rattle.machine.specs.declared.event.Event.TheVariants as event
use Rattle.turn_rules.specs.declared.turn.Turn.TheVariants as turn
use Rattle.grant_laws.proofs.Effects.{asked_of, begin_taken, commit_taken}
use Rattle.grant_laws.proofs.Facts.{has_place}
use Rattle.grant_laws.proofs.KnownTurns.{KnownTurns, as_known, known_carried}
use Rattle.grant_laws.proofs.OwnCarried.{turn_adds, own_plays}
use Rattle.grant_laws.proofs.ServedTurns.{served_so}

-- an ask that the instance takes in
ask_serves : (script : ScriptData) (c : Carried) (aim : ℕ) (s node : ℕ) (e : Event) (x : Item) (request : Request) (i now : InstanceEntry) (client : Client) (f : Client → Option InstanceEntry → Effect (Client × Option InstanceEntry)) → own_ahead script c (Session s) aim ≡ Makes e → InstanceAt c.played.state.nodes node i → ClientAt c.played.state.clients s client → step_of script c.played e ≡ on_ask c.played.state s node f → f client (Some i) ≡ done (client_asked client, Some now) (x ∷ []) → held_of now s ≡ Some (just_asked request) →
    Serves script c (turn.Own (Session s) aim) x node s request progress.Asked
ask_serves script c aim s node e x request i now client f ahead node_has session_is is effect has =
    let w : State = c.played.state in
    let puts : Effect (Client × Option InstanceEntry) → Step = λ (it : Effect (Client × Option InstanceEntry)). step_by it (λ (q : Client × Option InstanceEntry). with_client (with_post w node q.1) s q.0) in
    let g : Option InstanceEntry → Client → Step = λ post d. puts (f d post) in
    let made : step_of script c.played e ≡ puts (done (client_asked client, Some now) (x ∷ [])) =
    is
    ∙ ap (λ (found : Option (Option InstanceEntry)). at_both w found (slice_get w.clients s) g) node_has
    ∙ ap (λ (found : Option Client). at_both w (Some (Some i)) found g) session_is
    ∙ ap puts effect in
    let there : InstanceAt (played script c.played e).state.nodes node now = subst (λ (step : Step). InstanceAt step.state.nodes node now) (sym made) (set_found w.nodes node (Some now) (Some i) node_has) in
    record {
      adds = turn_adds script c (turn.Own (Session s) aim) e x (ap made_by ahead) (ap (λ (step : Step). step.items) made);
      comes = subst (λ (q : Played). IsServed q node s request progress.Asked) (sym (own_plays script c aim s e ahead)) (served_so (played script c.played e) node s request progress.Asked now (just_asked request) there has refl refl);
    }

pub begin_asks : (script : ScriptData) (c : Carried) (aim : ℕ) (s node : ℕ) (client : Client) → KnownTurns script c → own_ahead script c (Session s) aim ≡ Makes (event.AskBegin s node) → ClientAt c.played.state.clients s client → client.entry.state ≡ phase.Free → AtNode c.played node (λ i. in_flight i < i.slots) → Serves script c (turn.Own (Session s) aim) (item.AskBegin s node) node s (Begin s) progress.Asked
begin_asks script c aim s node client known ahead session_is is_free slot =
    let i : InstanceEntry = slot.oracle in
    let within : s < length i.requests = has_place script node s c.played i client (as_known script c known) slot.node_has session_is in
    ask_serves script c aim s node (event.AskBegin s node) (item.AskBegin s node) (Begin s) i (asked_of i (Begin s)) client (ask_begin_on s node) ahead slot.node_has session_is refl (begin_taken s node client i is_free slot.so) (held_of-with_request_same i s (Some (just_asked (Begin s))) within)

pub commit_asks : (script : ScriptData) (c : Carried) (aim : ℕ) (s node : ℕ) → KnownTurns script c → own_ahead script c (Session s) aim ≡ Makes (event.AskCommit s node) → (work : IsAtWork c.played s) → work.client.entry.keys ≢ [] → AtNode c.played node (λ i. in_flight i < i.slots) → Serves script c (turn.Own (Session s) aim) (item.AskCommit s node work.start) node s (Commit s work.start work.client.entry.keys) progress.Asked
commit_asks script c aim s node known ahead work wrote slot =
    let i : InstanceEntry = slot.oracle in
    let client : Client = work.client in
    let request : Request = Commit s work.start client.entry.keys in
    let within : s < length i.requests = has_place script node s c.played i client (as_known script c known) slot.node_has work.session_is in
    ask_serves script c aim s node (event.AskCommit s node) (item.AskCommit s node work.start) request i (asked_of i request) client (ask_commit_on s node) ahead slot.node_has work.session_is refl (commit_taken s node work.start client i work.in_work work.at_rest work.begun wrote slot.so) (held_of-with_request_same i s (Some (just_asked request)) within)

pub asks_are_carried : AsksAreCarried
asks_are_carried = record {
  begins = λ script turns aim s node client in_range playable ahead session_is is_free slot. begin_asks script (carried script turns) aim s node client (known_carried script turns in_range playable) ahead session_is is_free slot;
  commits = λ script turns aim s node in_range playable ahead work wrote slot. commit_asks script (carried script turns) aim s node (known_carried script turns in_range playable) ahead work wrote slot;
}
