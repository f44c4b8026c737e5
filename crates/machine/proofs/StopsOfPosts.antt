-- What an instance keeps of the master record's refusals is Replaced or Spent: lists of nodes, and the calls of an instance.
use Rattle.machine.proofs.Names.{[], ◌≡◌, ℕ, zero, suc, ◌+◌, ◌==◌, Bool, true, false, if◌then◌else◌, List, ◌∷◌, Option}
use Rattle.machine.proofs.Names.{Some, None, refl, sym, ap, subst, slice_get, slice_set, replicate, IfSome, option_or}
use Rattle.machine.proofs.Names.{same_Some, none-some, Cause, Verdict, Free, Conflict, Hidden, Held, Decided, Progress}
use Rattle.machine.proofs.Names.{Accepted, InstanceEntry, InstanceStep, IsStop, out_of_stamps, decide_drawn, verdict_by}
use Rattle.machine.proofs.Names.{ChangesRequestsAlone, both_verdict, both_if_accepted, both_held, KeepsStop}

abbrev pub AllKeep : List (Option InstanceEntry) → Type 0
AllKeep nodes = (node : ℕ) (i : InstanceEntry) → slice_get nodes node ≡ Some (Some i) → KeepsStop i

abbrev pub PostKeeps : Option InstanceEntry → Type 0
PostKeeps post = IfSome post KeepsStop

abbrev pub Keeps : Option InstanceEntry → Option InstanceEntry → Type 0
Keeps old new = PostKeeps old → PostKeeps new

-- ---- lists of nodes
pub none_kept : (n node : ℕ) (i : InstanceEntry) → slice_get (replicate n None) node ≡ Some (Some i) → KeepsStop i
none_kept zero node i is = absurd (cc)
none_kept (suc n) zero i is = absurd (none-some i (same_Some None (Some i) is))
none_kept (suc n) (suc node) i is = none_kept n node i is

first_keeps : (post : Option InstanceEntry) (posts : List (Option InstanceEntry)) → AllKeep (post ∷ posts) → PostKeeps post
first_keeps None posts keep = tt
first_keeps (Some i) posts keep = keep zero i refl

pub set_keeps : (nodes : List (Option InstanceEntry)) (at : ℕ) (old new : Option InstanceEntry) → slice_get nodes at ≡ Some old → Keeps old new → AllKeep nodes → AllKeep (slice_set nodes at new)
set_keeps [] at old new was keeps keep node i is = absurd (cc)
set_keeps (d ∷ ds) zero old new was keeps keep zero i is =
    let kept : PostKeeps old = subst PostKeeps (same_Some d old was) (first_keeps d ds keep) in subst PostKeeps (same_Some new (Some i) is) (keeps kept)
set_keeps (d ∷ ds) zero old new was keeps keep (suc node) i is = keep (suc node) i is
set_keeps (d ∷ ds) (suc at) old new was keeps keep zero i is = keep zero i is
set_keeps (d ∷ ds) (suc at) old new was keeps keep (suc node) i is = set_keeps ds at old new was keeps (λ n j. keep (suc n) j) node i is

-- ---- instances
-- a call that changes the requests alone
pub quiet_keeps : (i left : InstanceEntry) → ChangesRequestsAlone i left → KeepsStop i → KeepsStop left
quiet_keeps i left quiet keeps = subst (λ (s : Option Cause). IfSome s IsStop) (sym (ap (λ (j : InstanceEntry). j.stop) quiet)) keeps

pub stopped_keeps : (stop : Option Cause) (why : Cause) → IsStop why → IfSome stop IsStop → IfSome (option_or stop (Some why)) IsStop
stopped_keeps None why is keeps = is
stopped_keeps (Some first) why is keeps = keeps

out_keeps : (i : InstanceEntry) (session : ℕ) (held : Held) (stop : Option Cause) → KeepsStop i → KeepsStop (out_of_stamps i session held stop).left
out_keeps i session held None keeps = keeps
out_keeps i session held (Some why) keeps = keeps

free_keeps : (i : InstanceEntry) (session : ℕ) (held : Held) (out : Bool) → KeepsStop i → let step : InstanceStep Decided = (if out then out_of_stamps i session held i.stop else decide_drawn i session held (i.last + 1)) in KeepsStop step.left
free_keeps i session held true keeps = out_keeps i session held i.stop keeps
free_keeps i session held false keeps = keeps

verdict_keeps : (i : InstanceEntry) (session : ℕ) (held : Held) (verdict : Verdict) → KeepsStop i → KeepsStop (verdict_by i session held verdict).left
verdict_keeps i session held Free keeps = free_keeps i session held (i.last == i.ceiling) keeps
verdict_keeps i session held (Conflict key by) keeps = keeps
verdict_keeps i session held (Hidden key water) keeps = keeps

accepted_keeps : (i : InstanceEntry) (session : ℕ) (reads : List ℕ) (held : Held) (progress : Progress) → KeepsStop i → KeepsStop (both_if_accepted i session reads held progress).left
accepted_keeps i session reads held Accepted keeps = verdict_keeps i session held (both_verdict i.buckets reads held.request) keeps
accepted_keeps i session reads held _ keeps = keeps

pub decided_keeps : (i : InstanceEntry) (session : ℕ) (reads : List ℕ) (held : Option Held) → KeepsStop i → KeepsStop (both_held i session reads held).left
decided_keeps i session reads None keeps = keeps
decided_keeps i session reads (Some held) keeps = accepted_keeps i session reads held held.progress keeps
