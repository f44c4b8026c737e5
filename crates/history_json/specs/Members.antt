-- The members of each kind of item's object, in byte order of their names.
use Rattle.std.specs.Prelude.{ℕ, List, Option, None, Some, codes}
use Rattle.serde_json.specs.Data.{Members, no_members, member, string, number, unsigned}
use Rattle.history_text.specs.Words.{node_text, session_text, key_text, actor_text, stage_text, store_text}
use Rattle.history_text.specs.CauseText.{cause_text}
use Rattle.history_text.specs.StepText.{step_text}
use Rattle.history_text.specs.Text.{ending_text}
use Rattle.history_book.specs.declared.item.Note.{Note}
use Rattle.history_book.specs.declared.item.Note.TheVariants.{Post, Await, Hold, Free}
use Rattle.history_book.specs.declared.item.Found.{Found}
use Rattle.history_book.specs.declared.item.Item.{Item}
use Rattle.history_book.specs.declared.item.Item.TheVariants as item

-- a member that is a whole number, before more members
abbrev pub whole : List ℕ → ℕ → Members → Members
whole name n more = member name (number (unsigned n)) more

-- a member that is a text, before more members
abbrev pub text : List ℕ → List ℕ → Members → Members
text name words more = member name (string words) more

-- the first word of the item's line, before more members
abbrev pub kind : List ℕ → Members → Members
kind word more = text (codes "kind") word more

-- what is noted, and the name or the stage that it is noted of
abbrev pub note_members : Note → List ℕ × List ℕ
note_members (Post name) = (codes "post", name)
note_members (Await name) = (codes "await", name)
note_members (Hold stage) = (codes "hold", stage_text stage)
note_members (Free stage) = (codes "free", stage_text stage)

-- a begin draws no commit
abbrev pub commit_before : Option ℕ → Members → Members
commit_before None more = more
commit_before (Some commit) more = whole (codes "commit") commit more

abbrev pub from_before : Option Found → Members → Members
from_before None more = more
from_before (Some found) more = whole (codes "from") found.from more

abbrev pub value_last : Option Found → Members
value_last None = no_members
value_last (Some found) = text (codes "value") found.value no_members

abbrev pub members_of : Item → Members
members_of (item.Tick to) = kind (codes "tick") (whole (codes "to") to no_members)
members_of (item.Note actor note) =
    text (codes "actor") (actor_text actor) (kind (codes "note")
    (text (codes "name") (note_members note).1 (text (codes "note") (note_members note).0 no_members)))
members_of (item.Take node reading term epoch until ceiling) =
    whole (codes "ceiling") ceiling (whole (codes "epoch") epoch (kind (codes "take")
    (text (codes "node") (node_text node) (whole (codes "reading") reading
    (whole (codes "term") term (whole (codes "until") until no_members))))))
members_of (item.Renew node reading term until) =
    kind (codes "renew") (text (codes "node") (node_text node) (whole (codes "reading") reading
    (whole (codes "term") term (whole (codes "until") until no_members))))
members_of (item.Extend node term ceiling) =
    whole (codes "ceiling") ceiling (kind (codes "extend") (text (codes "node") (node_text node)
    (whole (codes "term") term no_members)))
members_of (item.AskBegin session node) =
    kind (codes "ask-begin") (text (codes "node") (node_text node)
    (text (codes "session") (session_text session) no_members))
members_of (item.AskCommit session node start) =
    kind (codes "ask-commit") (text (codes "node") (node_text node)
    (text (codes "session") (session_text session) (whole (codes "start") start no_members)))
members_of (item.Accept session node term reading) =
    kind (codes "accept") (text (codes "node") (node_text node) (whole (codes "reading") reading
    (text (codes "session") (session_text session) (whole (codes "term") term no_members))))
members_of (item.Draw session node term start commit) =
    commit_before commit (kind (codes "draw") (text (codes "node") (node_text node)
    (text (codes "session") (session_text session) (whole (codes "start") start
    (whole (codes "term") term no_members)))))
members_of (item.Begin session start) =
    kind (codes "begin") (text (codes "session") (session_text session)
    (whole (codes "start") start no_members))
members_of (item.Write session start key value) =
    text (codes "key") (key_text key) (kind (codes "write")
    (text (codes "session") (session_text session) (whole (codes "start") start
    (text (codes "value") value no_members))))
members_of (item.Read session start key answer) =
    from_before answer (text (codes "key") (key_text key) (kind (codes "read")
    (text (codes "session") (session_text session) (whole (codes "start") start (value_last answer)))))
members_of (item.Placed start commit) =
    whole (codes "commit") commit (kind (codes "placed") (whole (codes "start") start no_members))
members_of (item.Committed session start commit) =
    whole (codes "commit") commit (kind (codes "committed")
    (text (codes "session") (session_text session) (whole (codes "start") start no_members)))
members_of (item.Mark actor start) =
    text (codes "actor") (actor_text actor) (kind (codes "mark") (whole (codes "start") start no_members))
members_of (item.Step actor what) =
    text (codes "actor") (actor_text actor) (kind (codes "step") (text (codes "text") (step_text what) no_members))
members_of (item.End session start how) =
    text (codes "how") (ending_text how) (kind (codes "end") (text (codes "session") (session_text session)
    (whole (codes "start") start no_members)))
members_of (item.Refused actor cause) =
    text (codes "actor") (actor_text actor) (kind (codes "refused")
    (text (codes "text") (cause_text cause) no_members))
members_of (item.Fault actor store) =
    text (codes "actor") (actor_text actor) (kind (codes "fault")
    (text (codes "store") (store_text store) no_members))
members_of (item.Crash node term) =
    kind (codes "crash") (text (codes "node") (node_text node) (whole (codes "term") term no_members))
members_of (item.Vanish session) =
    kind (codes "vanish") (text (codes "session") (session_text session) no_members)
