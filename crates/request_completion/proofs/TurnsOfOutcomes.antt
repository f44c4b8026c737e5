-- The transition of each session, by the outcome of an event.
use Rattle.request_completion.proofs.Names.{ℕ, List, [], ◌∷◌, inl, refl, sym, ap, subst, Item, asked_state, Client}
use Rattle.request_completion.proofs.Names.{State, client_wrote, AreDue, ClientAt, comes_by, none_silent, one_silent}
use Rattle.request_completion.proofs.Names.{answered_item, fetched_turn, fetched_client, read_turn, read_client}
use Rattle.request_completion.proofs.Names.{Outcome, OfCrashed, OfAskedBegin, OfAskedCommit, OfEnded, OfAnsweredBegin}
use Rattle.request_completion.proofs.Names.{OfAnsweredCommit, OfHanded, OfOwnPlaced, OfOwnNotPlaced, OfEndedReadOnly}
use Rattle.request_completion.proofs.Names.{OfWrote, OfWriteFailed, OfAborted, OfVanished, OfHealed, OfFetched}
use Rattle.request_completion.proofs.Names.{OfReadDropped, OfReadStepped, OfOutcome, OfOutcomeFailed, OfCompleted}
use Rattle.request_completion.proofs.Names.{left_by, told_by_outcome, ExplainedInvariant, SessionTransition, Rests}
use Rattle.request_completion.proofs.Names.{AsksBegin, AsksCommit, Writes, Frees, Undoes, Vanishes, SessionsTakeTurns}
use Rattle.history_book.specs.declared.item.Item.TheVariants as item
use Rattle.isolation_laws.proofs.Requests.ClientsOpen.{read_keeps_entry}
use Rattle.request_completion.proofs.EndedCauses.{ended_leaves}
use Rattle.request_completion.proofs.EndingItems.{last_none, answered_told, ends_none}
use Rattle.request_completion.proofs.SessionTurns.{aborted_undone, one_turn, still_turn}
use Rattle.request_completion.proofs.TurnsOfRequests.{ended_by, ended_other, begun_turn, answer_turn, handed_turn}
use Rattle.request_completion.proofs.TurnsOfWork.{placing_turn, placing_other, resolve_turn, resolve_other, completed_turn}
use Rattle.request_completion.proofs.TurnsOfCrashes.{crash_turn}

turn_of : (w : State) (h : List Item) (o : Outcome w) (s : ℕ) (c d : Client) → ExplainedInvariant w h → AreDue w (told_by_outcome w o) → ClientAt w.clients s c → ClientAt (left_by w o).clients s d → SessionTransition h s c (told_by_outcome w o) d
turn_of w h (OfCrashed k) s c d tells due at there = crash_turn w h k s c d tells at there
turn_of w h (OfAskedBegin k) s c d tells due at there =
    one_turn w h _ k.session k.c _ s c d k.client_at (AsksBegin k.node k.free (ap asked_state k.free) refl) (λ other. ends_none w (OfAskedBegin k) s refl) at there
turn_of w h (OfAskedCommit k) s c d tells due at there =
    one_turn w h _ k.session k.c _ s c d k.client_at (AsksCommit k.node k.start k.is_open (ap asked_state k.is_open) k.start_is k.start_is k.tells) (λ other. ends_none w (OfAskedCommit k) s refl) at there
turn_of w h (OfEnded k) s c d tells due at there = one_turn w h _ k.session k.c _ s c d k.client_at (ended_by w h k k.held.request tells (ended_leaves w h k tells.stands.holds due) refl) (ended_other w k s) at there
turn_of w h (OfAnsweredBegin k) s c d tells due at there = one_turn w h _ k.session k.c _ s c d k.client_at (begun_turn w h k tells) (λ other. ends_none w (OfAnsweredBegin k) s refl) at there
turn_of w h (OfAnsweredCommit k) s c d tells due at there =
    one_turn w h _ k.session k.c _ s c d k.client_at (answer_turn w h k tells)
    (λ other. last_none s k.session [] (answered_item k.by k.session k.start k.commit) k.items k.tells none_silent (λ ends. answered_told s k.by k.session k.start k.commit ends) other) at there
turn_of w h (OfHanded k) s c d tells due at there = one_turn w h _ k.session k.c _ s c d k.client_at (handed_turn w h k tells) (λ other. ends_none w (OfHanded k) s refl) at there
turn_of w h (OfOwnPlaced k) s c d tells due at there =
    let x : Item = item.Placed k.it.start k.it.commit in
    one_turn w h _ k.it.session k.it.c _ s c d k.it.client_at (placing_turn w h k.it (x ∷ []) k.items k.by tells (one_silent x refl) k.tells) (λ other. placing_other w k.it (x ∷ []) k.items k.by s (one_silent x refl) k.tells other) at there
turn_of w h (OfOwnNotPlaced k) s c d tells due at there =
    one_turn w h _ k.it.session k.it.c _ s c d k.it.client_at (placing_turn w h k.it [] k.items k.by tells none_silent k.tells) (λ other. placing_other w k.it [] k.items k.by s none_silent k.tells other) at there
turn_of w h (OfEndedReadOnly k) s c d tells due at there = one_turn w h _ k.it.session k.it.c _ s c d k.it.client_at (Frees (inl k.it.is_open) refl (ends_none w (OfEndedReadOnly k) k.it.session refl)) (λ other. ends_none w (OfEndedReadOnly k) s refl) at there
turn_of w h (OfWrote k) s c d tells due at there = one_turn w h _ k.it.session k.it.c _ s c d k.it.client_at (Writes k.start k.key k.value k.it.is_open refl k.start_is refl) (λ other. ends_none w (OfWrote k) s refl) at there
turn_of w h (OfWriteFailed k) s c d tells due at there =
    one_turn w h _ k.it.session k.it.c _ s c d k.it.client_at (Undoes (inl k.it.is_open) (aborted_undone (client_wrote k.it.c k.key)) (ends_none w (OfWriteFailed k) k.it.session refl)) (λ other. ends_none w (OfWriteFailed k) s refl) at there
turn_of w h (OfAborted k) s c d tells due at there = one_turn w h _ k.it.session k.it.c _ s c d k.it.client_at (Undoes (inl k.it.is_open) (aborted_undone k.it.c) (ends_none w (OfAborted k) k.it.session refl)) (λ other. ends_none w (OfAborted k) s refl) at there
turn_of w h (OfVanished k) s c d tells due at there = one_turn w h _ k.session k.c _ s c d k.client_at (Vanishes refl k.tells) (λ other. ends_none w (OfVanished k) s refl) at there
turn_of w h (OfHealed k) s c d tells due at there = one_turn w h _ k.it.session k.it.c _ s c d k.it.client_at (Rests refl (ends_none w (OfHealed k) k.it.session refl)) (λ other. ends_none w (OfHealed k) s refl) at there
turn_of w h (OfFetched k) s c d tells due at there =
    one_turn w h _ k.it.session k.it.c _ s c d k.it.client_at (Rests (read_keeps_entry (fetched_client w k) (fetched_turn w k)) (ends_none w (OfFetched k) k.it.session refl)) (λ other. ends_none w (OfFetched k) s refl) at there
turn_of w h (OfReadDropped k) s c d tells due at there = one_turn w h _ k.session k.c _ s c d k.client_at (Rests refl (ends_none w (OfReadDropped k) k.session refl)) (λ other. ends_none w (OfReadDropped k) s refl) at there
turn_of w h (OfReadStepped k) s c d tells due at there =
    one_turn w h _ k.session k.c _ s c d k.client_at (Rests (read_keeps_entry (read_client w k) (read_turn w k)) (ends_none w (OfReadStepped k) k.session refl)) (λ other. ends_none w (OfReadStepped k) s refl) at there
turn_of w h (OfOutcome k) s c d tells due at there = one_turn w h _ k.it.session k.it.c _ s c d k.it.client_at (resolve_turn w h k tells) (resolve_other w k s) at there
turn_of w h (OfOutcomeFailed k) s c d tells due at there = one_turn w h _ k.it.session k.it.c _ s c d k.it.client_at (Rests refl (ends_none w (OfOutcomeFailed k) k.it.session refl)) (λ other. ends_none w (OfOutcomeFailed k) s refl) at there
turn_of w h (OfCompleted k) s c d tells due at there = one_turn w h _ k.session k.c k.left s c d k.client_at (completed_turn w h k) (λ other. ends_none w (OfCompleted k) s refl) at there
turn_of w h o s c d tells due at there = still_turn w h (told_by_outcome w o) s c d (ends_none w o s refl) at there

pub session_turns : SessionsTakeTurns
session_turns w h e fate s c d tells at there =
    let (o, state, items, accepts, due) = comes_by w h e fate tells.stands in
    subst (λ (xs : List Item). SessionTransition h s c xs d) (sym items) (turn_of w h o s c d tells (subst (AreDue w) items due) at (subst (λ (v : State). ClientAt v.clients s d) state there))
