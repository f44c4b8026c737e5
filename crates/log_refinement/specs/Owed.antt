-- What a line still owes, by the items that its actor's own events appended since it opened.
use Rattle.std.specs.Prelude.{ℕ, ◌==◌, Bool, true, false, ◌&&◌, not, if◌then◌else◌, List, [], ◌∷◌, ◌++◌, filter, None, Some}
use Rattle.std.specs.List.{list_any}
use Rattle.stamp_base.specs.declared.stores.Store.{Store}
use Rattle.stamp_base.specs.declared.stores.Store.TheVariants.{Master}
use Rattle.history_book.specs.declared.cause.Cause.{Cause}
use Rattle.history_book.specs.declared.cause.Cause.TheVariants as cause
use Rattle.history_book.specs.declared.item.Actor.{Actor}
use Rattle.history_book.specs.declared.item.Actor.TheVariants.{Node, Session}
use Rattle.history_book.specs.declared.item.StoreStep.TheVariants as step
use Rattle.history_book.specs.declared.item.Item.{Item}
use Rattle.history_book.specs.declared.item.Item.TheVariants as item
use Rattle.script_data.specs.declared.line.Verb.{Verb}
use Rattle.script_data.specs.declared.line.Verb.TheVariants as verb
use Rattle.command_semantics.specs.Answers.{same_actor}
pub use Rattle.request_completion.specs.Closings.{leaves_cells}
use Rattle.split_parts.specs.declared.event.Event.{Event}
use Rattle.split_parts.specs.declared.event.Event.TheVariants as event
use Rattle.split_stores.specs.declared.seat.Entry.{Entry}
use Rattle.log_refinement.specs.declared.owed.Due.{Due}
use Rattle.log_refinement.specs.declared.owed.Due.TheVariants as due
use Rattle.log_refinement.specs.declared.owed.Owed.{Owed}
use Rattle.log_refinement.specs.declared.owed.Owed.TheVariants.{Nothing, Read, Answer, Denied, Removal, Erasure, Quiet}

-- ---- reads
abbrev pub ends_read : Actor → ℕ → Item → Bool
ends_read actor key (item.Read session start read found) = same_actor (Session session) actor && (read == key)
ends_read actor key (item.Fault who store) = same_actor who actor
ends_read actor key _ = false

-- ---- asks
-- the refusal of the session's request leaves nothing to be done: a begin waits for an earlier commit, or a commit is open
abbrev pub leaves_nothing : Cause → Bool
leaves_nothing (cause.NotYet commit) = true
leaves_nothing (cause.Open start) = true
leaves_nothing (cause.Crashed node term) = true
leaves_nothing _ = false

abbrev pub after_own_refusal : ℕ → Due → Cause → Owed
after_own_refusal node d why = if leaves_cells why then Erasure else if leaves_nothing why then Nothing else Answer node d

-- the node that was asked has no instance any more
abbrev pub is_lost : ℕ → Cause → Bool
is_lost asked (cause.NoOracle node) = node == asked
is_lost asked _ = false

abbrev pub after_refusal : Actor → ℕ → Due → Actor → Cause → Owed
after_refusal actor node d who why =
    if is_lost node why then Quiet
    else if same_actor who actor then after_own_refusal node d why
    else Answer node d

-- the call by which the node asks for more stamps, or looks at its record, failed
abbrev pub fails_record : ℕ → Actor → Store → Bool
fails_record node who Master = same_actor who (Node node)
fails_record node who _ = false

abbrev pub after_asking : Actor → ℕ → Due → Item → Owed
after_asking actor node d (item.Begin session start) = if same_actor (Session session) actor then Nothing else Answer node d
after_asking actor node d (item.Committed session start commit) = if same_actor (Session session) actor then Removal start else Answer node d
after_asking actor node d (item.Refused who why) = after_refusal actor node d who why
after_asking actor node d (item.Fault who store) = if fails_record node who store then Nothing else Answer node d
after_asking actor node d _ = Answer node d

-- ---- completions
-- a fault of the session ends its completion
abbrev pub ends_completion : Actor → Item → Bool
ends_completion actor (item.Fault who store) = same_actor who actor
ends_completion actor _ = false

abbrev pub removes : Actor → ℕ → Item → Bool
removes actor start (item.Step who (step.Remove txn)) = same_actor who actor && (txn == start)
removes actor start x = ends_completion actor x

-- nothing is under way
abbrev pub is_idle : Actor → Item → Bool
is_idle actor (item.Refused who cause.Idle) = same_actor who actor
is_idle actor (item.Step who (step.Remove txn)) = same_actor who actor
is_idle actor x = ends_completion actor x

-- ---- one item more
-- A completion goes on by steps alone: a heal, too, is refused as idle or fails, and says nothing of it.
abbrev pub owed_after : Actor → Bool → Owed → Item → Owed
owed_after actor steps Nothing x = Nothing
owed_after actor steps (Read key) x = if ends_read actor key x then Nothing else Read key
owed_after actor steps (Answer node d) x = after_asking actor node d x
owed_after actor steps Denied x = Denied
owed_after actor steps (Removal start) x = if steps && removes actor start x then Nothing else Removal start
owed_after actor steps Erasure x = if steps && ends_completion actor x then Nothing else Erasure
owed_after actor steps Quiet x = if steps && is_idle actor x then Nothing else Quiet

-- the keys that the transaction wrote: none once the session asks for a begin
abbrev pub with_key : List ℕ → ℕ → List ℕ
with_key keys key = if list_any (λ k. k == key) keys then keys else keys ++ key ∷ []

abbrev pub written_after : Actor → List ℕ → Item → List ℕ
written_after actor keys (item.AskBegin session node) = if same_actor (Session session) actor then [] else keys
written_after actor keys (item.Write session start key value) = if same_actor (Session session) actor then with_key keys key else keys
written_after actor keys _ = keys

-- of these keys the cells are not erased yet: all that were written once a commit is refused
abbrev pub without_key : List ℕ → ℕ → List ℕ
without_key keys key = filter (λ k. not (k == key)) keys

abbrev pub unerased_after : Actor → Bool → List ℕ → List ℕ → Item → List ℕ
unerased_after actor steps written keys (item.Refused who why) = if same_actor who actor && leaves_cells why then written else keys
unerased_after actor steps written keys (item.Step who (step.Erase key txn)) = if steps && same_actor who actor then without_key keys key else keys
unerased_after actor steps written keys _ = keys

-- how a session stands with its lines
pub record Standing : Type 0 where
  pub owed : Owed
  pub written : List ℕ
  pub unerased : List ℕ

abbrev pub first_standing : Standing
first_standing = record { owed = Nothing; written = []; unerased = [] }

-- with another thing owed, and the keys as one item more leaves them
abbrev pub standing_with : Actor → Bool → Standing → Item → Owed → Standing
standing_with actor steps st x owed = record { owed = owed; written = written_after actor st.written x; unerased = unerased_after actor steps st.written st.unerased x }

abbrev pub with_item : Actor → Bool → Standing → Item → Standing
with_item actor steps st x = standing_with actor steps st x (owed_after actor steps st.owed x)

-- with the items of an event, which is a step or not
unfoldable pub with_items : Actor → Bool → Standing → List Item → Standing
with_items actor steps st [] = st
with_items actor steps st (x ∷ xs) = with_items actor steps (with_item actor steps st x) xs

-- nothing is owed: no cell is left of a commit that was refused
abbrev pub is_nil : List ℕ → Bool
is_nil [] = true
is_nil _ = false

abbrev pub is_settled : Owed → List ℕ → Bool
is_settled Nothing keys = true
is_settled Denied keys = true
is_settled Erasure keys = is_nil keys
is_settled _ keys = false

abbrev pub is_paid : Standing → Bool
is_paid st = is_settled st.owed st.unerased

-- ---- one entry more
-- the event is due, of the session and at the node that it asked
abbrev pub is_due : Actor → ℕ → Due → Event → Bool
is_due actor asked due.Accept (event.Accept node session) = same_actor (Session session) actor && (node == asked)
is_due actor asked due.Decide (event.Decide node session) = same_actor (Session session) actor && (node == asked)
is_due actor asked due.Put (event.Put node session) = same_actor (Session session) actor && (node == asked)
is_due actor asked due.Answer (event.Answer node session) = same_actor (Session session) actor && (node == asked)
is_due actor asked d e = false

-- what is due behind the first item of the event that was due: a put has ended also where it finds a mark, or fails
abbrev pub due_after : Due → Item → Due
due_after due.Accept (item.Accept session node term reading) = due.Decide
due_after due.Decide (item.Draw session node term start None) = due.Answer
due_after due.Decide (item.Draw session node term start (Some commit)) = due.Put
due_after due.Put (item.Placed start commit) = due.Answer
due_after due.Put (item.Step who what) = due.Answer
due_after due.Put (item.Fault who store) = due.Answer
due_after d x = d

-- the node has no request of the session
abbrev pub denies_request : Actor → Item → Bool
denies_request actor (item.Refused who (cause.NoRequest session)) = same_actor (Session session) actor
denies_request actor _ = false

abbrev pub when_due : Actor → ℕ → Due → List Item → Owed
when_due actor node d [] = Answer node d
when_due actor node d (x ∷ xs) = if denies_request actor x then Denied else Answer node (due_after d x)

-- the log shows how far the request has come by the events that were due; that it is not there, by such an event alone
abbrev pub after_due : Actor → Event → List Item → Owed → Owed
after_due actor e items (Answer node d) = if is_due actor node d e then when_due actor node d items else Answer node d
after_due actor e items owed = owed

-- an answer that says nothing repeats one that was told before: a begin still waits, and nothing more is owed of its ask
abbrev pub repeats : Actor → ℕ → Event → List Item → Bool
repeats actor asked (event.Answer node session) [] = same_actor (Session session) actor && (node == asked)
repeats actor asked _ items = false

abbrev pub after_repeat : Actor → Event → List Item → Owed → Owed
after_repeat actor e items (Answer asked d) = if repeats actor asked e items then Nothing else Answer asked d
after_repeat actor e items owed = owed

abbrev pub after_entry : Actor → Entry → Standing → Standing
after_entry actor e st = record st { owed = after_repeat actor e.event e.kept.items (after_due actor e.event e.kept.items st.owed) }

abbrev pub is_step : Event → Bool
is_step (event.Step session) = true
is_step _ = false

-- an event that goes on with the line
abbrev pub gone_on : Actor → Standing → Entry → Standing
gone_on actor st e = after_entry actor e (with_items actor (is_step e.event) st e.kept.items)

-- what a line owes by the item with which it opens
abbrev pub owed_first : Verb → Item → Owed
owed_first (verb.Read key) (item.Step actor (step.Fetch fetched cells)) = Read key
owed_first (verb.Begin to) (item.AskBegin session node) = Answer node due.Accept
owed_first (verb.Commit to) (item.AskCommit session node start) = Answer node due.Accept
owed_first verb x = Nothing

-- the first event of a line
abbrev pub opened : Actor → Verb → Standing → List Item → Standing
opened actor verb st [] = record st { owed = Nothing }
opened actor verb st (x ∷ xs) = with_items actor false (standing_with actor false st x (owed_first verb x)) xs
