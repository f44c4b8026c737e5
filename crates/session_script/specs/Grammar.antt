-- The tables of the grammar: which words name a form, how many words each form has, and what words stand for.
use Rattle.std.specs.Prelude.{ℕ, Bool, true, false, if◌then◌else◌, List, [], ◌∷◌, Option, Some, None, codes}
use Rattle.std.specs.Str.{bytes_eq}
use Rattle.stamp_base.specs.declared.setup_number.SetupFlag.{SetupFlag}
use Rattle.stamp_base.specs.declared.setup_number.SetupFlag.TheVariants.{Direct, Strict}
use Rattle.stamp_base.specs.declared.setup_number.SetupNumber.TheVariants as numbers
use Rattle.stamp_base.specs.declared.stage.Stage.{Stage}
use Rattle.stamp_base.specs.declared.stage.Stage.TheVariants.{Request, Persist, Reply}
use Rattle.stamp_base.specs.declared.stores.Store.{Store}
use Rattle.stamp_base.specs.declared.stores.Store.TheVariants.{Cells, Table, Master}
use Rattle.port_io.specs.declared.weather.Fate.{Fate}
use Rattle.port_io.specs.declared.weather.Fate.TheVariants.{FailsUnchanged, FailsApplied}
use Rattle.history_book.specs.declared.item.Actor.{Actor}
use Rattle.history_book.specs.declared.item.Actor.TheVariants.{Clock, Node, Session, Janitor}
use Rattle.session_script.specs.declared.form.SetupForm.{SetupForm}
use Rattle.session_script.specs.declared.form.SetupForm.TheVariants.{Number, Flag, Buckets, Lead, Fault}
use Rattle.session_script.specs.declared.form.VerbForm.{VerbForm}
use Rattle.session_script.specs.declared.form.VerbForm.TheVariants.{Tick, Take, Renew, Crash, Extend, Hold, Free, Accept, Decide, Put, Answer, Begin, Commit, Submit, AskBegin, AskCommit, Write, Read, Fetch, Collect, Abort, Heal, Vanish, Step, Finish, Sweep, OpenSweep, SweepStep, SweepFinish, Post, Await}

-- what the word stands for in a table: what its first row has beside the word
abbrev pub named : {X : Type 0} → List (List ℕ × X) → List ℕ → Option X
named [] word = None
named (row ∷ rows) word = if bytes_eq word row.0 then Some row.1 else named rows word

-- the stages of a node
abbrev pub stages : List (List ℕ × Stage)
stages = (codes "request", Request) ∷ (codes "persist", Persist) ∷ (codes "reply", Reply) ∷ []

-- the stores
abbrev pub stores : List (List ℕ × Store)
stores = (codes "cells", Cells) ∷ (codes "table", Table) ∷ (codes "master", Master) ∷ []

-- what becomes of a call that fails
abbrev pub kinds : List (List ℕ × Fate)
kinds = (codes "unchanged", FailsUnchanged) ∷ (codes "applied", FailsApplied) ∷ []

-- the words that begin a setup line
abbrev pub setup_forms : List (List ℕ × SetupForm)
setup_forms = (codes "nodes", Number numbers.Nodes) ∷ (codes "lease", Number numbers.Lease) ∷ (codes "skew", Number numbers.Skew)
    ∷ (codes "range", Number numbers.Range) ∷ (codes "buckets", Buckets) ∷ (codes "slots", Number numbers.Slots)
    ∷ (codes "batch", Number numbers.Batch) ∷ (codes "workers", Number numbers.Workers) ∷ (codes "lead", Lead) ∷ (codes "fault", Fault)
    ∷ (codes "cache", Number numbers.Cache) ∷ (codes "commits", Flag Direct) ∷ (codes "reads", Flag Strict) ∷ []

-- the second word of the line that turns the flag on
abbrev pub flag_word : SetupFlag → List ℕ
flag_word Direct = codes "direct"
flag_word Strict = codes "strict"

-- the verbs of the clock
abbrev pub clock_forms : List (List ℕ × VerbForm)
clock_forms = (codes "tick", Tick) ∷ (codes "post", Post) ∷ (codes "await", Await) ∷ []

-- the verbs of the janitor
abbrev pub janitor_forms : List (List ℕ × VerbForm)
janitor_forms = (codes "sweep", Sweep) ∷ (codes "open", OpenSweep) ∷ (codes "step", SweepStep) ∷ (codes "finish", SweepFinish)
    ∷ (codes "post", Post) ∷ (codes "await", Await) ∷ []

-- the verbs of a node
abbrev pub node_forms : List (List ℕ × VerbForm)
node_forms = (codes "take", Take) ∷ (codes "renew", Renew) ∷ (codes "crash", Crash) ∷ (codes "hold", Hold) ∷ (codes "free", Free)
    ∷ (codes "accept", Accept) ∷ (codes "decide", Decide) ∷ (codes "put", Put) ∷ (codes "answer", Answer) ∷ (codes "extend", Extend)
    ∷ (codes "post", Post) ∷ (codes "await", Await) ∷ []

-- the verbs of a session
abbrev pub session_forms : List (List ℕ × VerbForm)
session_forms = (codes "begin", Begin) ∷ (codes "commit", Commit) ∷ (codes "submit", Submit) ∷ (codes "collect", Collect)
    ∷ (codes "write", Write) ∷ (codes "read", Read) ∷ (codes "abort", Abort) ∷ (codes "heal", Heal) ∷ (codes "finish", Finish)
    ∷ (codes "vanish", Vanish) ∷ (codes "fetch", Fetch) ∷ (codes "step", Step) ∷ (codes "ask-begin", AskBegin)
    ∷ (codes "ask-commit", AskCommit) ∷ (codes "post", Post) ∷ (codes "await", Await) ∷ []

-- the verbs of an actor
abbrev pub verb_forms : Actor → List (List ℕ × VerbForm)
verb_forms Clock = clock_forms
verb_forms (Node node) = node_forms
verb_forms (Session session) = session_forms
verb_forms Janitor = janitor_forms

-- how many words a setup line of the form has, the setup word included
abbrev pub setup_words : SetupForm → ℕ
setup_words (Number number) = 2
setup_words (Flag flag) = 2
setup_words Buckets = 3
setup_words Lead = 3
setup_words Fault = 4

-- how many words a line of the form has, the actor included
abbrev pub verb_words : VerbForm → ℕ
verb_words Tick = 3
verb_words Take = 2
verb_words Renew = 2
verb_words Crash = 2
verb_words Extend = 2
verb_words Hold = 3
verb_words Free = 3
verb_words Accept = 3
verb_words Decide = 3
verb_words Put = 3
verb_words Answer = 3
verb_words Begin = 3
verb_words Commit = 3
verb_words Submit = 3
verb_words AskBegin = 3
verb_words AskCommit = 3
verb_words Write = 4
verb_words Read = 3
verb_words Fetch = 3
verb_words Collect = 2
verb_words Abort = 2
verb_words Heal = 2
verb_words Vanish = 2
verb_words Step = 2
verb_words Finish = 2
verb_words Sweep = 4
verb_words OpenSweep = 4
verb_words SweepStep = 2
verb_words SweepFinish = 2
verb_words Post = 3
verb_words Await = 3

-- the forms that only a replay takes
abbrev pub is_replay_only : VerbForm → Bool
is_replay_only Accept = true
is_replay_only Decide = true
is_replay_only Put = true
is_replay_only Answer = true
is_replay_only Extend = true
is_replay_only AskBegin = true
is_replay_only AskCommit = true
is_replay_only _ = false
