-- Where a session waits for its request, it waits for the reply that the request gets.
use Rattle.std.proofs.Common.{◌≡◌, ℕ, Option, None, Some, List, ◌++◌, Result, Ok, refl, arith}
use Rattle.system_parts.specs.SessionSteps.{SessionEntry}
use Rattle.system_parts.specs.declared.instance.Held.{Held}
use Rattle.system_parts.specs.declared.instance.Progress.{Progress}
use Rattle.system_parts.specs.declared.instance.Progress.TheVariants.{Asked, Accepted, Drawn, Settled, Handed}
use Rattle.system_parts.specs.declared.instance.Reply.{Reply}
use Rattle.system_parts.specs.declared.instance.Reply.TheVariants as reply
use Rattle.system_parts.specs.declared.instance.Request.{Request}
use Rattle.system_parts.specs.declared.instance.Request.TheVariants.{Begin, Commit}
use Rattle.system_parts.specs.declared.instance.Settled.TheVariants as how
use Rattle.system_parts.specs.Instance.{InstanceEntry, held_of, stamps_by, stamps_of_held, stamps_at, least_unsettled}
use Rattle.system_parts.specs.InstanceSteps.{instance_answer, answer_begin, answer_if_ready, answer_held}
use Rattle.history_book.specs.declared.item.Item.{Item}
use Rattle.machine.specs.State.{Client}
use Rattle.machine.specs.Effect.{refused}
use Rattle.machine.specs.Events.Answer.{answer_by, answer_request}
use Rattle.history_book.specs.declared.cause.Cause.TheVariants as cause
use Rattle.history_book.specs.declared.item.Actor.TheVariants.{Node}
use Rattle.event_parts.specs.declared.stopped.Stopped.{Stopped}
use Rattle.event_parts.specs.Made.{Makes, ended}
use Rattle.event_parts.specs.Waiting.{Waits, WaitsFor}
use Rattle.event_parts.specs.Replies.{WaitsForReply, replied, reply_told}
use Rattle.node_events.specs.Ready.{ready_by, ready_start}

begin_waits : (i : InstanceEntry) (session : ℕ) (e : SessionEntry) (r : Reply) (held : Held) (b start : ℕ) (least : Option ℕ) → Waits (Begin b) e → (answer_begin i session held start least).answer ≡ Ok r → WaitsForReply r e
begin_waits i session e r held b start None waits told = grind arith
begin_waits i session e r held b start (Some commit) waits told = grind arith

request_waits : (i : InstanceEntry) (session : ℕ) (e : SessionEntry) (r : Reply) (held : Held) (request : Request) (progress : Progress) → Waits request e → (answer_if_ready i session held request progress).answer ≡ Ok r → WaitsForReply r e
request_waits i session e r held (Begin b) Asked waits told = grind arith
request_waits i session e r held (Begin b) Accepted waits told = grind arith
request_waits i session e r held (Begin b) (Drawn start) waits told = begin_waits i session e r held b start (least_unsettled i.requests start) waits told
request_waits i session e r held (Begin b) (Settled commit how) waits told = grind arith
request_waits i session e r held (Begin b) (Handed commit) waits told = grind arith
request_waits i session e r held (Commit s start keys) Asked waits told = grind arith
request_waits i session e r held (Commit s start keys) Accepted waits told = grind arith
request_waits i session e r held (Commit s start keys) (Drawn commit) waits told = grind arith
request_waits i session e r held (Commit s start keys) (Handed commit) waits told = grind arith
request_waits i session e r held (Commit s start keys) (Settled commit how.Placed) waits told = grind arith
request_waits i session e r held (Commit s start keys) (Settled commit how.Invalid) waits told = grind arith
request_waits i session e r held (Commit s start keys) (Settled commit how.Faulted) waits told = grind arith

held_waits : (i : InstanceEntry) (session : ℕ) (e : SessionEntry) (r : Reply) (found : Option Held) → WaitsFor found e → (answer_held i session found).answer ≡ Ok r → WaitsForReply r e
held_waits i session e r None waits told = grind arith
held_waits i session e r (Some held) waits told = request_waits i session e r held held.request held.progress waits told

pub waits_for_reply : (i : InstanceEntry) (session : ℕ) (e : SessionEntry) (r : Reply) → WaitsFor (held_of i session) e → (instance_answer i session).answer ≡ Ok r → WaitsForReply r e
waits_for_reply i session e r waits told = held_waits i session e r (held_of i session) waits told

-- the event of a reply that the client has heard and that was told
pub reply_made : (node session start : ℕ) (c : Client) (i left : InstanceEntry) (r : Reply) (before after : List Item) (result : Result Unit Stopped) → after ≡ before ++ (reply_told session start r).items → result ≡ ended (reply_told session start r).stop → Makes (answer_by node session start c i left (Ok r)) (Some i, c) (Some left, replied r c) before after result
reply_made node session start c i left (reply.Begun begun epoch) before after result items told = rw told (record { parts = refl; items = items; stop = refl })
reply_made node session start c i left (reply.Committed commit) before after result items told = rw told (record { parts = refl; items = items; stop = refl })
reply_made node session start c i left (reply.Handed commit) before after result items told = rw told (record { parts = refl; items = items; stop = refl })
reply_made node session start c i left reply.Invalid before after result items told = rw told (record { parts = refl; items = items; stop = refl })
reply_made node session start c i left reply.Open before after result items told = rw told (record { parts = refl; items = items; stop = refl })

-- ---- a request that has no answer yet is refused, and stays
refused_by : (node session : ℕ) (i : InstanceEntry) (c : Client) (held : Held) (request : Request) (progress : Progress) → held_of i session ≡ Some held → held.request ≡ request → held.progress ≡ progress → ready_by request progress ≡ None → answer_request node session i c (stamps_by request progress) ≡ refused (Some i, c) (Node node) (cause.NoRequest session)
refused_by node session i c held (Begin b) Asked at asks stands none = refl
refused_by node session i c held (Begin b) Accepted at asks stands none = refl
refused_by node session i c held (Begin b) (Drawn start) at asks stands none = grind arith
refused_by node session i c held (Begin b) (Settled commit how) at asks stands none = refl
refused_by node session i c held (Begin b) (Handed commit) at asks stands none = refl
refused_by node session i c held (Commit s start keys) Asked at asks stands none = refl
refused_by node session i c held (Commit s start keys) Accepted at asks stands none = refl
refused_by node session i c held (Commit s start keys) (Drawn commit) at asks stands none = rw (at, asks, stands) refl
refused_by node session i c held (Commit s start keys) (Settled commit how) at asks stands none = grind arith
refused_by node session i c held (Commit s start keys) (Handed commit) at asks stands none = grind arith

refused_held : (node session : ℕ) (i : InstanceEntry) (c : Client) (found : Option Held) → held_of i session ≡ found → ready_start found ≡ None → answer_request node session i c (stamps_of_held found) ≡ refused (Some i, c) (Node node) (cause.NoRequest session)
refused_held node session i c None at none = refl
refused_held node session i c (Some held) at none = refused_by node session i c held held.request held.progress at refl refl none

pub not_ready : (node session : ℕ) (i : InstanceEntry) (c : Client) → ready_start (held_of i session) ≡ None → answer_request node session i c (stamps_at i session) ≡ refused (Some i, c) (Node node) (cause.NoRequest session)
not_ready node session i c none = refused_held node session i c (held_of i session) refl none
