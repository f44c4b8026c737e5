-- The actors of a script over split stores, and what comes of their logs.
use Rattle.std.specs.Prelude.{◌≡◌, ℕ, ◌⊎◌, true, List, slice_get, Some, Result, Ok, Err, IfErr, OnOk, MatchResult}
use Rattle.atomic_table.specs.Seated.{TableId}
use Rattle.history_book.specs.declared.item.Actor.{Actor}
use Rattle.script_data.specs.declared.line.Line.{Line}
use Rattle.script_data.specs.Data.{ScriptData}
use Rattle.cluster_core.specs.ClusterModel.{ClusterModel}
use Rattle.split_stores.specs.declared.seat.Entry.{Entry}
use Rattle.split_stores.specs.declared.settling.SettleStop.{SettleStop}
use Rattle.split_stores.specs.declared.settling.SettleStop.TheVariants as settle
use Rattle.split_stores.specs.Logs.{IsNew, ticks_of, rises_above}
use Rattle.split_stores.specs.Merged.{Settled, IsTornInOrder}
use Rattle.log_refinement.specs.Follows.{FollowsLines, FollowsSome}
use Rattle.split_driver.specs.Runs.{TellsDrawn}
use Rattle.split_driver.specs.declared.play_stop.PlayStop.{PlayStop}
use Rattle.split_driver.specs.declared.play_stop.PlayStop.TheVariants as play
use Rattle.split_driver.specs.declared.ending.End.{End}
use Rattle.split_driver.specs.declared.ending.End.TheVariants as end
use Rattle.split_driver.specs.declared.jobs.Job.{Job}
use Rattle.split_driver.specs.declared.stop.SplitStop.{SplitStop}
use Rattle.split_driver.specs.declared.stop.SplitStop.TheVariants as stop

-- the actor's log, which draws from the word, and is empty
pub record IsJobOf (word : TableId) (actor : Actor) (job : Job) : Type 0 where
  pub actor_is : job.actor ≡ actor
  pub new : IsNew word job.seat

-- the log draws from this word, in rising ticks, and is of a front of the actor's lines, and of them all where it came to their
-- end; where it has drawn all ticks, that is told
pub record IsPlayedOf (word : TableId) (lines : List Line) (actor : Actor) (played : Job) : Type 0 where
  pub word_is : played.seat.word ≡ word
  pub rise : rises_above 0 (ticks_of played.seat.entries) ≡ true
  pub front : FollowsSome lines actor played.seat.entries
  pub follows : OnOk played.answer (FollowsLines lines actor played.seat.entries)
  pub spent : IfErr played.answer (TellsDrawn played.seat.entries)

-- so it is with the log of the job
abbrev pub IsPlayedBy : List Line → Job → Job → Type 0
IsPlayedBy lines job played = IsPlayedOf job.seat.word lines job.actor played

-- ---- their threads
-- what a thread is given: the job, and the lines of the script
pub record Task : Type 0 where
  pub job : Job
  pub lines : List Line

abbrev pub task : List Line → Job → Task
task lines job = record { job = job; lines = lines }

-- what it gives back is the job, with what these lines made of it
abbrev pub GivesBack : Task → Job → Type 0
GivesBack given back = IsPlayedBy given.lines given.job back

-- ---- how they ended
abbrev pub IsThrough : Result (Unit {0}) PlayStop → Type 0
IsThrough (Ok done) = Unit {0}
IsThrough (Err stop) = ⊥

-- where ticks are spent in the end, they were so before, or this actor has told it
abbrev pub IsSpentFrom : End → Result (Unit {0}) PlayStop → End → Type 0
IsSpentFrom before answer (end.Spent drawn) = (before ≡ end.Spent drawn) ⊎ (answer ≡ Err (play.Spent drawn))
IsSpentFrom before answer _ = Unit {0}

-- one of these actors has told that it drew so many ticks, which are all
pub record HasTold (played : List Job) (drawn : ℕ) : Type 0 where
  pub place : ℕ
  pub one : Job
  pub there : slice_get played place ≡ Some one
  pub told : one.answer ≡ Err (play.Spent drawn)

abbrev pub IsSpentBy : List Job → End → Type 0
IsSpentBy played (end.Spent drawn) = HasTold played drawn
IsSpentBy played _ = Unit {0}

-- ---- settling
-- it did not stop since a seat was missing
abbrev pub IsOfAll : SettleStop → Type 0
IsOfAll (settle.Missing made given) = ⊥
IsOfAll stop = Unit {0}

-- some logs are torn so by the plan, or memory was refused
abbrev pub TearsBy : ScriptData → List Entry → SplitStop → Type 0
TearsBy plan logs (stop.Torn tick kept replayed) = IsTornInOrder plan logs tick kept replayed
TearsBy plan logs (stop.Spent drawn) = ⊥
TearsBy plan logs stop.NoMemory = Unit {0}

abbrev pub SettlesBy : ScriptData → List Entry → Result ClusterModel SplitStop → Type 0
SettlesBy plan logs r = MatchResult r (Settled plan logs) (TearsBy plan logs)
