-- Where no read was kept, or none is to be, all is as the instance and the session have it by themselves.
use Rattle.machine.proofs.Names.{◌≡◌, ℕ, Bool, false, if◌then◌else◌, List, [], Option, None, Some, refl, ap, subst, sym}
use Rattle.machine.proofs.Names.{not, ◌&&◌, option_or, SetupNumbers, Cause, work_refusal, has_key, key_added}
use Rattle.machine.proofs.Names.{key_refusal, Verdict, Free, Conflict, Hidden, Held, Progress, Accepted, Request, Begin}
use Rattle.machine.proofs.Names.{Commit, Bucket, first_refusal, verdict, InstanceEntry, held_of, request_verdict}
use Rattle.machine.proofs.Names.{decide_if_accepted, decide_held, instance_decide, Client, is_reading, client_fetched}
use Rattle.machine.proofs.Names.{fetch_refused, both_verdict, both_if_accepted, both_held, decide_both}
use Rattle.system_parts.specs.InstanceSteps.{decide_by}

-- ---- a decision by an empty read set
first_alone : (v : Verdict) → first_refusal v Free ≡ v
first_alone Free = refl
first_alone (Conflict key by) = refl
first_alone (Hidden key water) = refl

verdict_alone : (buckets : List Bucket) (request : Request) → both_verdict buckets [] request ≡ request_verdict buckets request
unfolding verdict
verdict_alone buckets (Begin session) = refl
verdict_alone buckets (Commit session start keys) = first_alone (verdict buckets start keys)

accepted_alone : (i : InstanceEntry) (session : ℕ) (held : Held) (p : Progress) → both_if_accepted i session [] held p ≡ decide_if_accepted i session held p
accepted_alone i session held Accepted = ap (decide_by i session held) (verdict_alone i.buckets held.request)
accepted_alone i session held _ = refl

held_alone : (i : InstanceEntry) (session : ℕ) (held : Option Held) → both_held i session [] held ≡ decide_held i session held
held_alone i session None = refl
held_alone i session (Some held) = accepted_alone i session held held.progress

pub decides_alone : (i : InstanceEntry) (session : ℕ) → decide_both i session [] ≡ instance_decide i session
decides_alone i session = held_alone i session (held_of i session)

-- ---- a fetch without strict reads
abbrev fetched_so : Bool → Client → ℕ → Client
fetched_so strict c key = record c { reads = if strict && not (has_key c.entry.keys key) then key_added c.reads key else c.reads }

pub keeps_none : (setup : SetupNumbers) (c : Client) (key : ℕ) → setup.strict ≡ false → client_fetched setup c key ≡ c
keeps_none setup c key plain = subst (λ (strict : Bool). fetched_so strict c key ≡ c) (sym plain) refl

either_alone : (why : Option Cause) → option_or why None ≡ why
either_alone None = refl
either_alone (Some why) = refl

abbrev refused_so : Bool → Client → ℕ → Option Cause
refused_so strict c key = option_or (work_refusal c.entry.state (is_reading c)) (if strict && not (has_key c.entry.keys key) then key_refusal c.reads key else None)

pub refused_alone : (setup : SetupNumbers) (c : Client) (key : ℕ) → setup.strict ≡ false → fetch_refused setup c key ≡ work_refusal c.entry.state (is_reading c)
refused_alone setup c key plain =
    subst (λ (strict : Bool). refused_so strict c key ≡ work_refusal c.entry.state (is_reading c)) (sym plain) (either_alone (work_refusal c.entry.state (is_reading c)))
