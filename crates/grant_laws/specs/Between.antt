-- The turns by which a session asks, an answer that comes too early, and turns of others while a read is under way or a commit is
-- to be placed.
use Rattle.std.specs.Prelude.{◌≡◌, ◌≢◌, ℕ, ◌<◌, if◌then◌else◌, false, List, [], ◌∷◌, ◌++◌, Some}
use Rattle.stamp_base.specs.SetupNumbers.{AreInRange}
use Rattle.history_book.specs.declared.cause.Cause.TheVariants as cause
use Rattle.history_book.specs.declared.item.Actor.TheVariants.{Session}
use Rattle.history_book.specs.declared.item.Item.TheVariants as item
use Rattle.system_parts.specs.declared.session.State.TheVariants as phase
use Rattle.system_parts.specs.KeyRead.{Reading}
use Rattle.system_parts.specs.declared.instance.Progress.TheVariants as progress
use Rattle.system_parts.specs.declared.instance.Request.TheVariants.{Begin, Commit}
use Rattle.system_parts.specs.Instance.{in_flight, was_told_not_yet, least_unsettled}
use Rattle.machine.specs.State.{Client}
use Rattle.machine.specs.declared.event.Event.TheVariants as event
use Rattle.script_data.specs.Data.{ScriptData}
use Rattle.isolation_laws.specs.Words.{ClientAt}
use Rattle.command_semantics.specs.Laws.{IsPlayable}
use Rattle.turn_rules.specs.declared.ahead.NextAction.TheVariants.{Makes}
use Rattle.turn_rules.specs.declared.turn.Turn.{Turn}
use Rattle.turn_rules.specs.declared.turn.Turn.TheVariants as turn
use Rattle.turn_rules.specs.Carried.{Carried, own_ahead, turned, carried}
use Rattle.grant_laws.specs.Premises.{IsAtWork}
use Rattle.grant_laws.specs.Turns.{IsServed, Serves, IsPlacing, ReadsKey}
use Rattle.grant_laws.specs.Lines.{AtNode, is_own}

-- ---- asks
-- a session's own turn that asks is told as asked, and the node's instance holds the request, where a slot is free there: a begin
-- of a session that is free, and a commit of one that has written and reads nothing
pub record AsksAreCarried : Type 0 where
  pub begins : (script : ScriptData) (turns : List Turn) (aim session node : ℕ) (client : Client) → let c = carried script turns in AreInRange script.setup → IsPlayable script 0 script.lines → own_ahead script c (Session session) aim ≡ Makes (event.AskBegin session node) → ClientAt c.played.state.clients session client → client.entry.state ≡ phase.Free → AtNode c.played node (λ i. in_flight i < i.slots) →
      Serves script c (turn.Own (Session session) aim) (item.AskBegin session node) node session (Begin session) progress.Asked
  pub commits : (script : ScriptData) (turns : List Turn) (aim session node : ℕ) → let c = carried script turns in AreInRange script.setup → IsPlayable script 0 script.lines → own_ahead script c (Session session) aim ≡ Makes (event.AskCommit session node) → (work : IsAtWork c.played session) → work.client.entry.keys ≢ [] → AtNode c.played node (λ i. in_flight i < i.slots) →
      Serves script c (turn.Own (Session session) aim) (item.AskCommit session node work.start) node session (Commit session work.start work.client.entry.keys) progress.Asked

-- ---- an answer that comes too early
-- the session is told to wait for the commit, once, and its begin stays as far as it has come
pub record ToldToWait (script : ScriptData) (c : Carried) (node session start commit : ℕ) (k : IsServed c.played node session (Begin session) (progress.Drawn start)) : Type 0 where
  pub tells : (turned script c (turn.Answer node session)).played.items ≡ c.played.items ++ (if was_told_not_yet k.oracle session then [] else item.Refused (Session session) (cause.NotYet commit) ∷ [])
  pub stays : IsServed (turned script c (turn.Answer node session)).played node session (Begin session) (progress.Drawn start)

-- a begin whose instance has drawn a commit below its start that is not settled waits for it, the least of these
abbrev pub EarlyAnswersWait : Type 0
EarlyAnswersWait =
    (script : ScriptData) (turns : List Turn) (node session start commit : ℕ) → let c = carried script turns in AreInRange script.setup → IsPlayable script 0 script.lines → (k : IsServed c.played node session (Begin session) (progress.Drawn start)) → least_unsettled k.oracle.requests start ≡ Some commit →
    ToldToWait script c node session start commit k

-- ---- turns of others while a read is under way
-- a turn that is not the session's own leaves its read as it is
abbrev pub ReadsStay : Type 0
ReadsStay =
    (script : ScriptData) (turns : List Turn) (t : Turn) (session start key : ℕ) (r : Reading) → let c = carried script turns in AreInRange script.setup → IsPlayable script 0 script.lines → is_own session t ≡ false → ReadsKey c.played session start key r →
    ReadsKey (turned script c t).played session start key r

-- and a commit that the session is to place
abbrev pub PlacingsStay : Type 0
PlacingsStay =
    (script : ScriptData) (turns : List Turn) (t : Turn) (session start commit : ℕ) → let c = carried script turns in AreInRange script.setup → IsPlayable script 0 script.lines → is_own session t ≡ false → IsPlacing c.played session start commit →
    IsPlacing (turned script c t).played session start commit
