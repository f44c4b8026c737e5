-- Where nothing stands against a commit, by the keys that were written and read, the instance decides as by the first alone.
use Rattle.std.proofs.Common.{◌≡◌, ℕ, List, [], ◌∷◌, Some, refl}
use Rattle.system_parts.specs.declared.instance.Held.{Held}
use Rattle.system_parts.specs.declared.instance.Request.{Request}
use Rattle.system_parts.specs.declared.instance.Request.TheVariants.{Begin, Commit}
use Rattle.system_parts.specs.declared.instance.Progress.{Progress}
use Rattle.system_parts.specs.declared.instance.Progress.TheVariants.{Asked, Accepted, Drawn, Settled, Handed}
use Rattle.system_parts.specs.declared.buckets.Verdict.{Verdict}
use Rattle.system_parts.specs.declared.buckets.Verdict.TheVariants.{Free, Conflict, Hidden}
use Rattle.system_parts.specs.Buckets.{Bucket, verdict, first_refusal, verdict_both}
use Rattle.system_parts.specs.Instance.{InstanceEntry, held_of}
use Rattle.system_parts.specs.InstanceSteps.{instance_decide, request_verdict}
use Rattle.machine.specs.Events.Decide.{both_verdict, decide_both}
use Rattle.node_events.specs.Against.{verdict_against}

then_free : (a : Verdict) → first_refusal a Free ≡ a
then_free Free = refl
then_free (Conflict key by) = refl
then_free (Hidden key water) = refl

first_is_free : (a b : Verdict) → first_refusal a b ≡ Free → a ≡ Free
first_is_free Free b e = refl
first_is_free (Conflict key by) b e = e
first_is_free (Hidden key water) b e = e

none_read : (buckets : List Bucket) (start : ℕ) (written : List ℕ) → verdict_both buckets start written [] ≡ verdict buckets start written
unfolding verdict
none_read buckets start written = then_free (verdict buckets start written)

-- of a commit that was accepted
same_verdict : (buckets : List Bucket) (request : Request) (reads : List ℕ) → verdict_against Accepted request buckets reads ≡ Free → both_verdict buckets reads request ≡ request_verdict buckets request
same_verdict buckets (Begin session) reads free = refl
same_verdict buckets (Commit session start written) [] free = none_read buckets start written
same_verdict buckets (Commit session start written) (key ∷ keys) free =
    let alone : verdict buckets start written ≡ Free = first_is_free (verdict buckets start written) (verdict buckets start (key ∷ keys)) free in
    rw (free, alone) refl

decided_so : (i : InstanceEntry) (session : ℕ) (reads : List ℕ) (held : Held) (progress : Progress) → held_of i session ≡ Some held → held.progress ≡ progress → verdict_against progress held.request i.buckets reads ≡ Free → decide_both i session reads ≡ instance_decide i session
decided_so i session reads held Accepted at is free = rw (at, is, same_verdict i.buckets held.request reads free) refl
decided_so i session reads held Asked at is free = rw (at, is) refl
decided_so i session reads held (Drawn stamp) at is free = rw (at, is) refl
decided_so i session reads held (Settled commit how) at is free = rw (at, is) refl
decided_so i session reads held (Handed commit) at is free = rw (at, is) refl

pub decides_alone : (i : InstanceEntry) (session : ℕ) (reads : List ℕ) (held : Held) → held_of i session ≡ Some held → verdict_against held.progress held.request i.buckets reads ≡ Free → decide_both i session reads ≡ instance_decide i session
decides_alone i session reads held at free = decided_so i session reads held held.progress at refl free
