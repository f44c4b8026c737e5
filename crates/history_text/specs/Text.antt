-- The text of an item, by its kind, and the text of a history.
use Rattle.std.specs.Prelude.{ℕ, List, [], ◌∷◌, ◌++◌, Option, None, Some, codes, decimal}
use Rattle.std.specs.List.{flat_map}
use Rattle.history_text.specs.Words.{node_text, session_text, key_text, actor_text, stage_text, store_text}
use Rattle.history_text.specs.CauseText.{cause_text}
use Rattle.history_text.specs.StepText.{step_text}
use Rattle.history_book.specs.declared.item.Note.{Note}
use Rattle.history_book.specs.declared.item.Note.TheVariants.{Post, Await, Hold, Free}
use Rattle.history_book.specs.declared.item.Found.{Found}
use Rattle.history_book.specs.declared.item.Ending.{Ending}
use Rattle.history_book.specs.declared.item.Ending.TheVariants.{ReadOnly, Aborted, Dead}
use Rattle.history_book.specs.declared.item.Item.{Item}
use Rattle.history_book.specs.declared.item.Item.TheVariants as item

abbrev pub note_text : Note → List ℕ
note_text (Post name) = codes "post " ++ name
note_text (Await name) = codes "await " ++ name
note_text (Hold stage) = codes "hold " ++ stage_text stage
note_text (Free stage) = codes "free " ++ stage_text stage

abbrev pub answer_text : Option Found → List ℕ
answer_text None = codes "none"
answer_text (Some found) = codes "from=" ++ decimal found.from ++ codes " " ++ found.value

-- a begin draws no commit
abbrev pub commit_text : Option ℕ → List ℕ
commit_text None = []
commit_text (Some commit) = codes " commit=" ++ decimal commit

abbrev pub ending_text : Ending → List ℕ
ending_text ReadOnly = codes "read-only"
ending_text Aborted = codes "aborted"
ending_text Dead = codes "dead"

-- the words of the item
abbrev pub body_of : Item → List ℕ
body_of (item.Tick to) = codes "tick " ++ decimal to
body_of (item.Note actor note) = codes "note " ++ actor_text actor ++ codes " " ++ note_text note
body_of (item.Take node reading term epoch until ceiling) =
    codes "take " ++ node_text node ++ codes " reading=" ++ decimal reading
    ++ codes " term=" ++ decimal term ++ codes " epoch=" ++ decimal epoch
    ++ codes " until=" ++ decimal until ++ codes " ceiling=" ++ decimal ceiling
body_of (item.Renew node reading term until) =
    codes "renew " ++ node_text node ++ codes " reading=" ++ decimal reading
    ++ codes " term=" ++ decimal term ++ codes " until=" ++ decimal until
body_of (item.Extend node term ceiling) =
    codes "extend " ++ node_text node ++ codes " term=" ++ decimal term
    ++ codes " ceiling=" ++ decimal ceiling
body_of (item.AskBegin session node) =
    codes "ask-begin " ++ session_text session ++ codes " " ++ node_text node
body_of (item.AskCommit session node start) =
    codes "ask-commit " ++ session_text session ++ codes " " ++ node_text node
    ++ codes " start=" ++ decimal start
body_of (item.Accept session node term reading) =
    codes "accept " ++ session_text session ++ codes " " ++ node_text node
    ++ codes " term=" ++ decimal term ++ codes " reading=" ++ decimal reading
body_of (item.Draw session node term start commit) =
    codes "draw " ++ session_text session ++ codes " " ++ node_text node
    ++ codes " term=" ++ decimal term ++ codes " start=" ++ decimal start ++ commit_text commit
body_of (item.Begin session start) =
    codes "begin " ++ session_text session ++ codes " start=" ++ decimal start
body_of (item.Write session start key value) =
    codes "write " ++ session_text session ++ codes " start=" ++ decimal start
    ++ codes " " ++ key_text key ++ codes " " ++ value
body_of (item.Read session start key answer) =
    codes "read " ++ session_text session ++ codes " start=" ++ decimal start
    ++ codes " " ++ key_text key ++ codes " " ++ answer_text answer
body_of (item.Placed start commit) =
    codes "placed start=" ++ decimal start ++ codes " commit=" ++ decimal commit
body_of (item.Committed session start commit) =
    codes "committed " ++ session_text session ++ codes " start=" ++ decimal start
    ++ codes " commit=" ++ decimal commit
body_of (item.Mark actor start) =
    codes "mark " ++ actor_text actor ++ codes " start=" ++ decimal start
body_of (item.Step actor what) = codes "step " ++ actor_text actor ++ codes " " ++ step_text what
body_of (item.End session start how) =
    codes "end " ++ session_text session ++ codes " start=" ++ decimal start
    ++ codes " " ++ ending_text how
body_of (item.Refused actor cause) =
    codes "refused " ++ actor_text actor ++ codes " " ++ cause_text cause
body_of (item.Fault actor store) =
    codes "fault " ++ actor_text actor ++ codes " " ++ store_text store
body_of (item.Crash node term) = codes "crash " ++ node_text node ++ codes " term=" ++ decimal term
body_of (item.Vanish session) = codes "vanish " ++ session_text session

-- the item's line: its words, and a line feed
abbrev pub text_of : Item → List ℕ
text_of item = body_of item ++ 10 ∷ []

-- what is printed of a history: its lines, in order
abbrev pub printed : List Item → List ℕ
printed history = flat_map text_of history
