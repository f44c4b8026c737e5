-- What the board says to a stage of requests, and how far a stage is with a batch.
use Rattle.std.specs.Prelude.{◌≡◌, ℕ, Bool, true, false, ◌||◌, Option, None, Some, is_none, length}
use Rattle.history_book.specs.declared.cause.Cause.{Cause}
use Rattle.history_book.specs.declared.cause.Cause.TheVariants.{NotYet}
use Rattle.stamp_base.specs.declared.stage.Stage.{Stage}
use Rattle.batch_pool.specs.declared.batch.Entry.{Entry}
use Rattle.persist_batches.specs.declared.numbered.Numbered.{Numbered}
use Rattle.request_rule.specs.declared.account.Ticket.{Ticket}
use Rattle.thread_steps.specs.declared.stages.StageStep.{StageStep}
use Rattle.thread_steps.specs.declared.stages.StageStep.TheVariants.{Held, Did, Refused, NoMemory}
use Rattle.reply_pipeline.specs.declared.said.Said.{Said}
use Rattle.reply_pipeline.specs.declared.told.Told.{Told}
use Rattle.reply_pipeline.specs.declared.request.Served.{Served}
use Rattle.reply_pipeline.specs.declared.request.Served.TheVariants as served
use Rattle.reply_pipeline.specs.Requesting.{entry_of}

-- a commit below the request's start is not settled
abbrev pub waits_for_earlier : Cause → Bool
waits_for_earlier (NotYet commit) = true
waits_for_earlier cause = false

-- the stage is through with the request
abbrev pub is_over : StageStep → Bool
is_over Held = false
is_over NoMemory = false
is_over (Refused (NotYet commit)) = false
is_over step = true

-- memory was refused
abbrev pub is_short : StageStep → Bool
is_short NoMemory = true
is_short step = false

-- the board said it of the ticket's request
pub record IsSaidFor (stage : Stage) (ticket : Ticket) (said : Said) : Type 0 where
  pub by : said.stage ≡ stage
  pub session : said.session ≡ ticket.session
  pub term : said.term ≡ ticket.term

-- the board said of the entry's request that the stage's step is made, or that there is none to make
pub record IsSaidOf (stage : Stage) (entry : Entry) (said : Said) : Type 0 where
  pub by : said.stage ≡ stage
  pub session : said.session ≡ entry.session
  pub term : said.term ≡ entry.term
  pub over : is_over said.step ≡ true

-- nothing is to be put of the entry: it is no commit, or sessions place their commits
abbrev pub puts_nothing : Bool → Entry → Bool
puts_nothing direct entry = is_none entry.commit || direct

-- so many entries of the batch of this number, from the first on
abbrev pub counted : Stage → ℕ → ℕ → Told
counted stage number count = record { stage = stage; number = number; count = count }

-- all entries of the batch
abbrev pub IsTold : Stage → Numbered → Told → Type 0
IsTold stage batch told = told ≡ counted stage batch.number (length batch.batch.entries)

-- the entry that a step makes loose, and the one with which a ticket was served
abbrev pub drawn_by : Ticket → StageStep → Option Entry
drawn_by ticket (Did start commit) = Some (entry_of ticket start commit)
drawn_by ticket step = None

abbrev pub drawn_in : Served → Option Entry
drawn_in (served.Drawn entry) = Some entry
drawn_in other = None
