-- A session that has vanished stays so, over each event.
use Rattle.machine.proofs.Names.{◌≡◌, ℕ, false, List, Option, Some, refl, sym, subst, slice_get, slice_set, Fate}
use Rattle.machine.proofs.Names.{InstanceEntry, Event, Client, State, Step, with_reading, at_client, at_both, stepped}
use Rattle.machine.proofs.Names.{ask_begin_on, ask_commit_on, accept_on, decide_on, answer_on, write_on, fetch_on}
use Rattle.machine.proofs.Names.{step_on, heal_on, abort_on, vanish_on, touches_clients, IsGoneAt, GoneStaysGone}
use Rattle.machine.specs.declared.event.Event.TheVariants as event
use Rattle.machine.proofs.LookedUp.{of_post, of_client, of_both}
use Rattle.machine.proofs.PartsKept.{leaves_parts}
use Rattle.machine.proofs.GoneClients.{IsGone, StaysGone, GoneIn, gone_here, gone_set, crash_gone, begin_gone, commit_gone, write_gone, fetch_gone, step_gone, heal_gone, abort_gone, vanish_gone, accept_gone, decide_gone, answer_gone}

-- ---- the parts put back
on_one : (w : State) (at session : ℕ) (c : Client) (f : Client → Step) (new : Client → Client) → ((d : Client) → (f d).state.clients ≡ slice_set w.clients at (new d)) → ((d : Client) → StaysGone d (new d)) → slice_get w.clients session ≡ Some c → IsGone c → IsGoneAt (at_client w (slice_get w.clients at) f).state session
on_one w at session c f new sets stays is gone =
    of_client (λ step. IsGoneAt step.state session) w f (slice_get w.clients at) (gone_here w.clients session c is gone) (λ d was. subst (λ (cs : List Client). GoneIn cs session) (sym (sets d)) (gone_set w.clients at session d (new d) c was (stays d) is gone))

on_both : (w : State) (node at session : ℕ) (c : Client) (f : Option InstanceEntry → Client → Step) (new : Option InstanceEntry → Client → Client) → ((p : Option InstanceEntry) (d : Client) → (f p d).state.clients ≡ slice_set w.clients at (new p d)) → ((p : Option InstanceEntry) (d : Client) → StaysGone d (new p d)) → slice_get w.clients session ≡ Some c → IsGone c → IsGoneAt (at_both w (slice_get w.nodes node) (slice_get w.clients at) f).state session
on_both w node at session c f new sets stays is gone =
    of_both (λ step. IsGoneAt step.state session) w f (slice_get w.nodes node) (slice_get w.clients at) (gone_here w.clients session c is gone) (λ p d there was. subst (λ (cs : List Client). GoneIn cs session) (sym (sets p d)) (gone_set w.clients at session d (new p d) c was (stays p d) is gone))

-- an event that touches no client
untouched : (w : State) (e : Event) (fate : Fate) (session : ℕ) (c : Client) → touches_clients e ≡ false → slice_get w.clients session ≡ Some c → IsGone c → IsGoneAt (stepped w e fate).state session
untouched w e fate session c not is gone =
    subst (λ (cs : List Client). GoneIn cs session) (sym ((leaves_parts w e fate).clients not)) (gone_here w.clients session c is gone)

-- ---- the law
pub gone_stays : GoneStaysGone
gone_stays w (event.Crash node) fate session c is gone = of_post (λ step. IsGoneAt step.state session) w _ (slice_get w.nodes node) (gone_here w.clients session c is gone) (λ post was. crash_gone node post w.clients session c is gone)
gone_stays w (event.AskBegin s node) fate session c is gone =
    on_both w node s session c _ (λ p d. (ask_begin_on s node d p).parts.0) (λ p d. refl) (begin_gone s node) is gone
gone_stays w (event.AskCommit s node) fate session c is gone =
    on_both w node s session c _ (λ p d. (ask_commit_on s node d p).parts.0) (λ p d. refl) (commit_gone s node) is gone
gone_stays w (event.Accept node s reading) fate session c is gone =
    on_both (with_reading w reading) node s session c _ (λ p d. (accept_on node s reading p d).parts.1) (λ p d. refl) (accept_gone node s reading) is gone
gone_stays w (event.Decide node s) fate session c is gone =
    on_both w node s session c _ (λ p d. (decide_on node s p d).parts.1) (λ p d. refl) (decide_gone node s) is gone
gone_stays w (event.Answer node s) fate session c is gone =
    on_both w node s session c _ (λ p d. (answer_on node s p d).parts.1) (λ p d. refl) (answer_gone node s) is gone
gone_stays w (event.Write s key value) fate session c is gone =
    on_one w s session c _ (λ d. (write_on s key value fate d w.rows).parts.0) (λ d. refl) (write_gone s key value fate w.rows) is gone
gone_stays w (event.Fetch s key) fate session c is gone =
    on_one w s session c _ (λ d. (fetch_on w.setup s key fate d w.rows).parts) (λ d. refl) (fetch_gone w.setup s key fate w.rows) is gone
gone_stays w (event.Step s) fate session c is gone =
    on_one w s session c _ (λ d. (step_on s fate d w.rows w.pairs).parts.0) (λ d. refl) (step_gone s fate w.rows w.pairs) is gone
gone_stays w (event.Heal s) fate session c is gone =
    on_one w s session c _ (λ d. (heal_on s fate d w.rows w.pairs).parts.0) (λ d. refl) (heal_gone s fate w.rows w.pairs) is gone
gone_stays w (event.Abort s) fate session c is gone = on_one w s session c _ (λ d. (abort_on s d).parts) (λ d. refl) (abort_gone s) is gone
gone_stays w (event.Vanish s) fate session c is gone = on_one w s session c _ (λ d. (vanish_on s d).parts) (λ d. refl) (vanish_gone s) is gone
gone_stays w e fate session c is gone = untouched w e fate session c refl is gone
