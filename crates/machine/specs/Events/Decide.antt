-- A node decides a request that it accepted: a commit is checked for conflicts, of the keys that it writes and then of those
-- that its transaction read, and then a stamp is drawn. A refusal ends the request, but for NoStamp, which it is told once.
use Rattle.std.specs.Prelude.{ℕ, List, [], ◌∷◌, Option, None, Some, Result, Ok, Err}
use Rattle.history_book.specs.declared.cause.Cause.{Cause}
use Rattle.history_book.specs.declared.cause.Cause.TheVariants as cause
use Rattle.history_book.specs.declared.item.Actor.TheVariants.{Node, Session}
use Rattle.history_book.specs.declared.item.Item.{Item}
use Rattle.history_book.specs.declared.item.Item.TheVariants.{Draw}
use Rattle.system_parts.specs.declared.instance.Decided.{Decided}
use Rattle.system_parts.specs.declared.instance.Held.{Held}
use Rattle.system_parts.specs.declared.instance.Request.{Request}
use Rattle.system_parts.specs.declared.instance.Request.TheVariants.{Begin, Commit}
use Rattle.system_parts.specs.declared.instance.Progress.{Progress}
use Rattle.system_parts.specs.declared.instance.Progress.TheVariants.{Accepted}
use Rattle.system_parts.specs.declared.buckets.Verdict.{Verdict}
use Rattle.system_parts.specs.declared.buckets.Verdict.TheVariants.{Free}
use Rattle.system_parts.specs.Buckets.{Bucket, verdict_both}
use Rattle.system_parts.specs.Instance.{InstanceEntry, held_of}
use Rattle.system_parts.specs.InstanceSteps.{InstanceStep, no_request, decide_by as decided}
use Rattle.system_parts.specs.InstanceLaws.{stamp_of}
use Rattle.machine.specs.State.{Client}
use Rattle.machine.specs.Effect.{Effect, done, refused, refused_once}
use Rattle.machine.specs.Clients.{after_refusal}

-- what the conflict memory says of a request, once its transaction has read these keys
abbrev pub both_verdict : List Bucket → List ℕ → Request → Verdict
both_verdict buckets reads (Begin session) = Free
both_verdict buckets reads (Commit session start keys) = verdict_both buckets start keys reads

abbrev pub both_if_accepted : InstanceEntry → ℕ → List ℕ → Held → Progress → InstanceStep Decided
both_if_accepted i session reads held Accepted = decided i session held (both_verdict i.buckets reads held.request)
both_if_accepted i session reads held _ = no_request i session

abbrev pub both_held : InstanceEntry → ℕ → List ℕ → Option Held → InstanceStep Decided
both_held i session reads None = no_request i session
both_held i session reads (Some held) = both_if_accepted i session reads held held.progress

-- the instance's decision, in which the keys that were read count too
abbrev pub decide_both : InstanceEntry → ℕ → List ℕ → InstanceStep Decided
decide_both i session reads = both_held i session reads (held_of i session)

-- the stamp is a begin's start, or a commit
abbrev pub draw_item : ℕ → ℕ → Request → ℕ → Item
draw_item node term (Begin session) stamp = Draw session node term stamp None
draw_item node term (Commit session start keys) stamp = Draw session node term start (Some stamp)

abbrev pub decide_by : ℕ → ℕ → Held → InstanceEntry → Client → Result Decided Cause → Effect (Option InstanceEntry × Client)
decide_by node session held left c (Ok drawn) = done (Some left, c) (draw_item node left.term held.request (stamp_of drawn) ∷ [])
decide_by node session held left c (Err (cause.NoRequest s)) = refused (Some left, c) (Node node) (cause.NoRequest s)
decide_by node session held left c (Err (cause.NoStamp last)) = refused_once held.told_no_stamp (Some left, c) (Session session) (cause.NoStamp last)
decide_by node session held left c (Err why) = refused (Some left, after_refusal held.request c) (Session session) why

abbrev pub decide_request : ℕ → ℕ → InstanceEntry → Client → Option Held → Effect (Option InstanceEntry × Client)
decide_request node session i c None = refused (Some i, c) (Node node) (cause.NoRequest session)
decide_request node session i c (Some held) = decide_by node session held (decide_both i session c.reads).left c (decide_both i session c.reads).answer

abbrev pub decide_on : ℕ → ℕ → Option InstanceEntry → Client → Effect (Option InstanceEntry × Client)
decide_on node session None c = refused (None, c) (Node node) (cause.NoOracle node)
decide_on node session (Some i) c = decide_request node session i c (held_of i session)
