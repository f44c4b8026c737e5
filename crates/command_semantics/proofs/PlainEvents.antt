-- For turn_rules and log_refinement too.
-- Events that open no line of an actor append no opening item: those on requests, steps, heals, aborts and sweeps.
use Rattle.std.proofs.Common.{arith}
use Rattle.command_semantics.proofs.Names.{ℕ, List, Option}
use Rattle.command_semantics.proofs.Names.{slice_get, Fate, Cause, Actor}
use Rattle.command_semantics.proofs.Names.{Row, Pairs}
use Rattle.command_semantics.proofs.Names.{Ask, Told}
use Rattle.command_semantics.proofs.Names.{work_refusal, step_refusal, Sweeping}
use Rattle.command_semantics.proofs.Names.{InstanceEntry, Event}
use Rattle.command_semantics.proofs.Names.{Client, State, is_reading}
use Rattle.command_semantics.proofs.Names.{mark_kept, items_met, with_reading}
use Rattle.command_semantics.proofs.Names.{stepped, extend_on}
use Rattle.command_semantics.proofs.Names.{step_due, offer_of, heal_at}
use Rattle.command_semantics.proofs.Names.{abort_by, sweep_open_on}
use Rattle.command_semantics.proofs.Names.{sweep_step_on}
use Rattle.machine.specs.declared.event.Event.TheVariants as event
use Rattle.machine.specs.Events.Step.{step_by}
use Rattle.command_semantics.proofs.Plain.{AllPlain, plain_append, one_plain, two_plain, no_plain, kept_plain, post_plain, client_plain, both_plain, accept_at, decide_at, put_at, answer_at, extend_plain}

-- ---- steps on the stores
pub effect_plain : (actor : Actor) (asked : Ask) (answer : Told) → AllPlain (mark_kept actor asked answer)
effect_plain actor asked answer = grind (arith, one_plain, no_plain)

pub met_plain : (actor : Actor) (asked : Ask) (answer : Told) (fate : Fate) → AllPlain (items_met actor asked answer fate)
met_plain actor asked answer fate = grind (arith, one_plain, plain_append, effect_plain)

-- ---- a step of a session
due_plain : (s : ℕ) (fate : Fate) (c : Client) (rows : List Row) (pairs : Pairs) (due : Option (ℕ × ℕ)) → AllPlain (step_due s fate c rows pairs due).items
due_plain s fate c rows pairs due = grind (arith, no_plain, plain_append, met_plain, two_plain, kept_plain, one_plain)

session_plain : (s : ℕ) (fate : Fate) (c : Client) (rows : List Row) (pairs : Pairs) (why : Option Cause) → AllPlain (step_by s fate c rows pairs why).items
session_plain s fate c rows pairs why = grind (arith, one_plain, due_plain)

heal_plain : (s : ℕ) (fate : Fate) (c : Client) (rows : List Row) (pairs : Pairs) (offer : Option (ℕ × ℕ × ℕ)) → AllPlain (heal_at s fate c rows pairs offer).items
heal_plain s fate c rows pairs offer = grind (arith, one_plain)

abort_plain : (s : ℕ) (c : Client) (why : Option Cause) (start : Option ℕ) → AllPlain (abort_by s c why start).items
abort_plain s c why start = grind (arith, one_plain, no_plain)

-- ---- sweeps
sweep_open_plain : (node txn : ℕ) (post : Option InstanceEntry) (sweep : Option Sweeping) → AllPlain (sweep_open_on node txn post sweep).items
sweep_open_plain node txn post sweep = grind (arith, one_plain, no_plain)

janitor_plain : (fate : Fate) (sweep : Option Sweeping) (rows : List Row) (pairs : Pairs) → AllPlain (sweep_step_on fate sweep rows pairs).items
janitor_plain fate sweep rows pairs = grind (arith, one_plain, no_plain, plain_append, met_plain)

extend_at : (w : State) (node : ℕ) (fate : Fate) (post : Option InstanceEntry) → AllPlain (extend_on w.setup node fate post w.master).items
extend_at w node fate post = grind (arith, one_plain, extend_plain, kept_plain)

-- ---- all of them
-- the event opens no line
abbrev pub OpensNone : Event → Type 0
OpensNone (event.Extend node) = Unit {0}
OpensNone (event.Accept node session reading) = Unit {0}
OpensNone (event.Decide node session) = Unit {0}
OpensNone (event.Put node session) = Unit {0}
OpensNone (event.Answer node session) = Unit {0}
OpensNone (event.Step session) = Unit {0}
OpensNone (event.Heal session) = Unit {0}
OpensNone (event.Abort session) = Unit {0}
OpensNone (event.SweepOpen node txn) = Unit {0}
OpensNone event.SweepStep = Unit {0}
OpensNone _ = ⊥

pub events_plain : (w : State) (e : Event) (fate : Fate) → OpensNone e → AllPlain (stepped w e fate).items
events_plain w (event.Extend node) fate opens = post_plain w _ (λ post. extend_at w node fate post) (slice_get w.nodes node)
events_plain w (event.Accept node s reading) fate opens = both_plain (with_reading w reading) _ (λ post c. accept_at node s reading post c) (slice_get w.nodes node) (slice_get w.clients s)
events_plain w (event.Decide node s) fate opens = both_plain w _ (λ post c. decide_at node s post c) (slice_get w.nodes node) (slice_get w.clients s)
events_plain w (event.Put node s) fate opens = post_plain w _ (λ post. put_at node s fate post w.pairs) (slice_get w.nodes node)
events_plain w (event.Answer node s) fate opens = both_plain w _ (λ post c. answer_at node s post c) (slice_get w.nodes node) (slice_get w.clients s)
events_plain w (event.Step s) fate opens = client_plain w _ (λ c. session_plain s fate c w.rows w.pairs (step_refusal c.entry.state (is_reading c))) (slice_get w.clients s)
events_plain w (event.Heal s) fate opens = client_plain w _ (λ c. heal_plain s fate c w.rows w.pairs (offer_of c)) (slice_get w.clients s)
events_plain w (event.Abort s) fate opens = client_plain w _ (λ c. abort_plain s c (work_refusal c.entry.state (is_reading c)) c.entry.start) (slice_get w.clients s)
events_plain w (event.SweepOpen node txn) fate opens = post_plain w _ (λ post. sweep_open_plain node txn post w.sweep) (slice_get w.nodes node)
events_plain w event.SweepStep fate opens = janitor_plain fate w.sweep w.rows w.pairs
events_plain w _ fate opens = absurd opens
