-- A session asks a node to commit its transaction. One without writes ends at once, and no node is looked at.
use Rattle.std.specs.Prelude.{ℕ, List, [], ◌∷◌, Option, None, Some}
use Rattle.history_book.specs.declared.cause.Cause.{Cause}
use Rattle.history_book.specs.declared.cause.Cause.TheVariants as cause
use Rattle.history_book.specs.declared.item.Actor.TheVariants.{Session}
use Rattle.history_book.specs.declared.item.Ending.TheVariants.{ReadOnly}
use Rattle.history_book.specs.declared.item.Item.TheVariants.{AskCommit, End}
use Rattle.system_parts.specs.SessionSteps.{work_refusal}
use Rattle.system_parts.specs.declared.instance.Request.TheVariants.{Commit}
use Rattle.system_parts.specs.Instance.{InstanceEntry}
use Rattle.system_parts.specs.InstanceSteps.{instance_ask}
use Rattle.machine.specs.State.{Client}
use Rattle.machine.specs.Effect.{Effect, done, refused}
use Rattle.machine.specs.Clients.{is_reading, client_freed}
use Rattle.machine.specs.Events.AskBegin.{asked_by}

abbrev pub commit_asked : ℕ → ℕ → Client → ℕ → Option InstanceEntry → Effect (Client × Option InstanceEntry)
commit_asked session node c start None = refused (c, None) (Session session) (cause.NoOracle node)
commit_asked session node c start (Some i) =
    asked_by session c (AskCommit session node start) (instance_ask i (Commit session start c.entry.keys)) (instance_ask i (Commit session start c.entry.keys)).answer

-- by the keys that were written
abbrev pub commit_of : ℕ → ℕ → Client → ℕ → List ℕ → Option InstanceEntry → Effect (Client × Option InstanceEntry)
commit_of session node c start [] post = done (client_freed c, post) (End session start ReadOnly ∷ [])
commit_of session node c start (key ∷ keys) post = commit_asked session node c start post

abbrev pub ask_commit_by : ℕ → ℕ → Client → Option InstanceEntry → Option Cause → Option ℕ → Effect (Client × Option InstanceEntry)
ask_commit_by session node c post (Some why) start = refused (c, post) (Session session) why
ask_commit_by session node c post None None = done (c, post) []
ask_commit_by session node c post None (Some start) = commit_of session node c start c.entry.keys post

abbrev pub ask_commit_on : ℕ → ℕ → Client → Option InstanceEntry → Effect (Client × Option InstanceEntry)
ask_commit_on session node c post = ask_commit_by session node c post (work_refusal c.entry.state (is_reading c)) c.entry.start
