-- What is due is shown by the history, cause by cause.
use Rattle.cause_laws.proofs.Names.{ℕ, List, ◌++◌, inl, inr, sym, subst, append-nil, Cause, Actor, Session, Node}
use Rattle.cause_laws.proofs.Names.{Janitor, Clock, Item, Refused, State, ShownToSession, ShownToNode, ShownToJanitor}
use Rattle.cause_laws.proofs.Names.{ShownCause, Shown, ReachedInvariant, ShownInvariant, DueToSession, DueToNode}
use Rattle.cause_laws.proofs.Names.{DueToJanitor, DueNow, Due}
use Rattle.history_book.specs.declared.cause.Cause.TheVariants as cause
use Rattle.system_parts.specs.declared.instance.Progress.TheVariants as progress
use Rattle.cause_laws.proofs.ShownOfRequests.{node_of, conflict_shown, hidden_shown, old_epoch_shown, expired_shown}
use Rattle.cause_laws.proofs.ShownOfDecisions.{replaced_shown, spent_shown, no_stamp_shown, invalid_shown, open_shown, not_yet_shown}
use Rattle.cause_laws.proofs.ShownOfNodes.{early_shown, spent_record_shown, overtaken_shown, holding_shown, none_shown, gone_shown, full_shown}
use Rattle.cause_laws.proofs.ShownOfLosses.{loss_shown}
use Rattle.cause_laws.proofs.ShownOfPlacings.{placing_shown}

to_session : (w : State) (h : List Item) (s : ℕ) (why : Cause) → ReachedInvariant w h → ShownInvariant w h → DueToSession w s why → ShownToSession w.setup h s why
to_session w h s (cause.Conflict key by) stands shows due = conflict_shown w h s key by stands shows due
to_session w h s (cause.Hidden key water) stands shows due = hidden_shown w h s key water stands shows due
to_session w h s (cause.OldEpoch start epoch) stands shows due = old_epoch_shown w h s start epoch shows due
to_session w h s (cause.Expired reading until) stands shows due = expired_shown w h s reading until shows due
to_session w h s (cause.Replaced found) stands shows due = replaced_shown w h s found shows due
to_session w h s (cause.Spent ceiling) stands shows due = ((due.serves.node, node_of w h s due.i due.request progress.Accepted shows due.serves), spent_shown w h s ceiling shows due)
to_session w h s (cause.NoStamp last) stands shows due = no_stamp_shown w h s last shows due
to_session w h s (cause.Invalid start) stands shows due = invalid_shown w h s start shows due
to_session w h s (cause.Open start) stands shows due = open_shown w h s start shows due
to_session w h s (cause.NotYet commit) stands shows due = not_yet_shown w h s commit stands shows due
to_session w h s (cause.Full count) stands shows due = full_shown w h count shows due
to_session w h s (cause.NoOracle node) stands shows due = none_shown w h node shows due
to_session w h s cause.Gone stands shows due = gone_shown w h s shows due
to_session w h s _ stands shows due = absurd due

to_node : (w : State) (h : List Item) (n : ℕ) (why : Cause) → ReachedInvariant w h → ShownInvariant w h → DueToNode w n why → ShownToNode w.setup h n why
to_node w h n (cause.Early reading until) stands shows due = early_shown w h reading until shows due
to_node w h n (cause.Spent ceiling) stands shows due = spent_record_shown w h ceiling stands shows due
to_node w h n (cause.Replaced found) stands shows due = overtaken_shown w h n found stands shows due
to_node w h n (cause.Holding term) stands shows due = holding_shown w h n term shows due
to_node w h n (cause.NoOracle node) stands shows due = (due.0, none_shown w h node shows due.1)
to_node w h n _ stands shows due = absurd due

to_janitor : (w : State) (h : List Item) (why : Cause) → ShownInvariant w h → DueToJanitor w why → ShownToJanitor h why
to_janitor w h (cause.NoOracle node) shows due = none_shown w h node shows due
to_janitor w h _ shows due = absurd due

now_shown : (w : State) (h : List Item) (actor : Actor) (why : Cause) → ReachedInvariant w h → ShownInvariant w h → DueNow w actor why → ShownCause w.setup h actor why
now_shown w h (Session s) why stands shows due = to_session w h s why stands shows due
now_shown w h (Node n) why stands shows due = to_node w h n why stands shows due
now_shown w h Janitor why stands shows due = to_janitor w h why shows due
now_shown w h Clock why stands shows due = absurd due

pub due_is_shown : (w : State) (h told : List Item) (x : Item) → ReachedInvariant w h → ShownInvariant w h → Due w told x → Shown w.setup (h ++ told) x
due_is_shown w h told (Refused actor why) stands shows (inl any) = any w.setup (h ++ told)
due_is_shown w h told (Refused actor why) stands shows (inr (inl (first, due))) =
    subst (λ items. ShownCause w.setup (h ++ items) actor why) (sym first) (subst (λ items. ShownCause w.setup items actor why) (sym (append-nil h)) (now_shown w h actor why stands shows due))
due_is_shown w h told (Refused actor why) stands shows (inr (inr (inl loss))) = loss_shown w h told actor why shows loss
due_is_shown w h told (Refused actor why) stands shows (inr (inr (inr placing))) = placing_shown w h told actor why stands shows placing
due_is_shown w h told _ stands shows due = tt
