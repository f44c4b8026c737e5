-- For this crate's own proofs.
-- Laws for the crates above: what an instance records rises, and a commit is drawn only where nothing was recorded above its start.
use Rattle.std.proofs.Common.{◌≡◌, ℕ, ◌+◌, ◌≤◌, Bool, List, [], ◌∷◌, ◌++◌, replicate, Option, Some, None, Result, Ok, inl, inr, refl, sym, subst, ap, ◌∙◌, arith, All}
use Rattle.std.specs.Prelude.{slice_index_or}
use Rattle.std.proofs.lemmas.List.{append-nil}
use Rattle.std.proofs.lemmas.List.Elements.{All-nil, All-head, All-tail, All-append, All-map}
use Rattle.std.proofs.lemmas.List.Kept.{AllPairs-cons}
use Rattle.history_book.specs.declared.cause.Cause.{Cause}
use Rattle.system_parts.specs.declared.buckets.Recorded.{Recorded}
use Rattle.system_parts.specs.declared.buckets.Verdict.{Verdict}
use Rattle.system_parts.specs.declared.buckets.Verdict.TheVariants.{Free}
use Rattle.system_parts.specs.declared.record.Grant.{Grant}
use Rattle.system_parts.specs.declared.instance.Request.{Request}
use Rattle.system_parts.specs.declared.instance.Request.TheVariants.{Begin, Commit}
use Rattle.system_parts.specs.declared.instance.Held.{Held}
use Rattle.system_parts.specs.declared.instance.Decided.{Decided}
use Rattle.system_parts.specs.Buckets.{Bucket, empty_bucket, contents, record_pairs, pair_of, pairs_of, verdict, CommitsRise, IsShown}
use Rattle.system_parts.specs.Instance.{InstanceEntry, instance_new, held_of}
use Rattle.system_parts.specs.InstanceSteps.{InstanceStep, pairs_by, decide_drawn, request_verdict, instance_decide}
use Rattle.system_parts.specs.InstanceLaws.{InstanceCall, Asks, Accepts, Decides, Refuses, Settles, Answers, Widens, Renews, Stops, after_call, IsRecordedIn, decided_pairs, call_pairs, RequestIsFree, HeldIsFree, ChangesRequestsAlone}
use Rattle.system_parts.proofs.BucketVerdicts.{record_pairs-append, verdict_shown}
use Rattle.system_parts.proofs.LastCommits.{NotAfter, rise_tail, rise_head}
use Rattle.system_parts.proofs.InstanceNumbers.{stamp_of-decided_by}
use Rattle.system_parts.proofs.InstanceMoves.{quiet_ask, quiet_accept, quiet_refuse, quiet_settle, quiet_answer, DrawsFor, held_cases}

-- ---- pairs
rise_append : (top : ℕ) (earlier later : List Recorded) → CommitsRise earlier → All (λ pair. pair.commit ≤ top) earlier → CommitsRise later → All (λ pair. top ≤ pair.commit) later → CommitsRise (earlier ++ later)
rise_append top [] later rise below rest above = rest
rise_append top (pair ∷ pairs) later rise below rest above =
    let under = All-head (λ (p : Recorded). p.commit ≤ top) pair pairs below in
    let over : All (NotAfter pair) later = λ k d within. (let a = above k d within in omega (arith, a, under)) in
    AllPairs-cons NotAfter pair (pairs ++ later)
    (All-append (NotAfter pair) pairs later (rise_head pair pairs rise) over)
    (rise_append top pairs later (rise_tail pair pairs rise) (All-tail (λ (p : Recorded). p.commit ≤ top) pair pairs below) rest above)

rise_same : (commit : ℕ) (keys : List ℕ) → CommitsRise (pairs_of keys commit)
rise_same commit [] = λ i j d lt within. absurd (omega arith)
rise_same commit (key ∷ keys) =
    AllPairs-cons NotAfter (pair_of commit key) (pairs_of keys commit)
    (All-map (NotAfter (pair_of commit key)) (pair_of commit) keys (λ k d within. omega arith))
    (rise_same commit keys)

-- ---- recordings
quiet_records : (count width : ℕ) (pairs : List Recorded) (i j : InstanceEntry) → ChangesRequestsAlone i j → IsRecordedIn count width pairs i → IsRecordedIn count width pairs j
quiet_records count width pairs i j q r = record {
  holds = ap (λ (e : InstanceEntry). e.buckets) q ∙ r.holds;
  rise = r.rise;
  up_to = (let last : i.last ≡ j.last = sym (ap (λ (e : InstanceEntry). e.last) q) in subst (λ (n : ℕ). All (λ (pair : Recorded). pair.commit ≤ n) pairs) last r.up_to);
}

unrecorded : (count width : ℕ) (pairs more : List Recorded) (i : InstanceEntry) → more ≡ [] → IsRecordedIn count width pairs i → IsRecordedIn count width (pairs ++ more) i
unrecorded count width pairs more i none r = subst (λ (ps : List Recorded). IsRecordedIn count width ps i) (sym (ap (λ (ms : List Recorded). pairs ++ ms) none ∙ append-nil pairs)) r

refused_pairs : (held : Option Held) (answer : Result Decided Cause) → ((d : Decided) → answer ≡ Ok d → ⊥) → decided_pairs held answer ≡ []
refused_pairs (Some held) (Ok d) never = absurd (never d refl)
refused_pairs held answer never = refl

later_up_to : (pairs : List Recorded) (last : ℕ) → All (λ pair. pair.commit ≤ last) pairs → All (λ pair. pair.commit ≤ last + 1) pairs
later_up_to pairs last up_to k d within = let u = up_to k d within in omega (arith, u)

-- the pairs that a request records with a stamp all have that stamp
stamped : (P : Recorded → Type 0) (request : Request) (stamp : ℕ) → ((key : ℕ) → P (pair_of stamp key)) → All P (pairs_by request stamp)
stamped P (Begin s) stamp each = All-nil P
stamped P (Commit s start keys) stamp each = All-map P (pair_of stamp) keys (λ k d within. each (slice_index_or keys k d))

rise_stamped : (request : Request) (stamp : ℕ) → CommitsRise (pairs_by request stamp)
rise_stamped (Begin s) stamp = λ i j d lt within. absurd (omega arith)
rise_stamped (Commit s start keys) stamp = rise_same stamp keys

drawn_records : (count width : ℕ) (pairs : List Recorded) (i : InstanceEntry) (session : ℕ) (held : Held) → IsRecordedIn count width pairs i → IsRecordedIn count width (pairs ++ pairs_by held.request (i.last + 1)) (decide_drawn i session held (i.last + 1)).left
drawn_records count width pairs i session held r =
    let stamp = i.last + 1 in
    let more = pairs_by held.request stamp in
    record {
      holds = ap (λ (b : List Bucket). record_pairs b more) r.holds ∙ sym (record_pairs-append (replicate count (empty_bucket width)) pairs more);
      rise = rise_append stamp pairs more r.rise (later_up_to pairs i.last r.up_to) (rise_stamped held.request stamp) (stamped (λ (p : Recorded). stamp ≤ p.commit) held.request stamp (λ key. omega arith));
      up_to = All-append (λ (p : Recorded). p.commit ≤ stamp) pairs more (later_up_to pairs i.last r.up_to) (stamped (λ (p : Recorded). p.commit ≤ stamp) held.request stamp (λ key. omega arith));
    }

answered_pairs : (i : InstanceEntry) (session : ℕ) (held : Held) (stamp : ℕ) → decided_pairs (Some held) (decide_drawn i session held stamp).answer ≡ pairs_by held.request stamp
answered_pairs i session held stamp = ap (pairs_by held.request) (stamp_of-decided_by held.request stamp)

draws_records : (count width : ℕ) (pairs : List Recorded) (i : InstanceEntry) (session : ℕ) (held : Option Held) (step : InstanceStep Decided) → IsRecordedIn count width pairs i → DrawsFor i session held step → IsRecordedIn count width (pairs ++ decided_pairs held step.answer) step.left
draws_records count width pairs i session None step r drew = absurd drew
draws_records count width pairs i session (Some held) step r drew = rw (drew.made, answered_pairs i session held (i.last + 1)) (drawn_records count width pairs i session held r)

decided_records : (count width : ℕ) (pairs : List Recorded) (i : InstanceEntry) (session : ℕ) → IsRecordedIn count width pairs i → IsRecordedIn count width (pairs ++ call_pairs i (Decides session)) (instance_decide i session).left
decided_records count width pairs i session r = elim (held_cases i session (held_of i session)) [
  | inl refused ↦ unrecorded count width pairs (call_pairs i (Decides session)) (instance_decide i session).left (refused_pairs (held_of i session) (instance_decide i session).answer refused.never) (quiet_records count width pairs i (instance_decide i session).left refused.quiet r)
  | inr drew ↦ draws_records count width pairs i session (held_of i session) (instance_decide i session) r drew
]

quiet_call : (count width : ℕ) (pairs : List Recorded) (i j : InstanceEntry) → ChangesRequestsAlone i j → IsRecordedIn count width pairs i → IsRecordedIn count width (pairs ++ []) j
quiet_call count width pairs i j q r = unrecorded count width pairs [] j refl (quiet_records count width pairs i j q r)

same_call : (count width : ℕ) (pairs : List Recorded) (i j : InstanceEntry) → j.buckets ≡ i.buckets → j.last ≡ i.last → IsRecordedIn count width pairs i → IsRecordedIn count width (pairs ++ []) j
same_call count width pairs i j buckets last r = unrecorded count width pairs [] j refl (record { holds = buckets ∙ r.holds; rise = r.rise; up_to = subst (λ (n : ℕ). All (λ (pair : Recorded). pair.commit ≤ n) pairs) (sym last) r.up_to })

pub call_records : (count width : ℕ) (pairs : List Recorded) (i : InstanceEntry) (call : InstanceCall) → IsRecordedIn count width pairs i → IsRecordedIn count width (pairs ++ call_pairs i call) (after_call i call)
call_records count width pairs i (Asks request) r = quiet_call count width pairs i (after_call i (Asks request)) (quiet_ask i request) r
call_records count width pairs i (Accepts session reading) r = quiet_call count width pairs i (after_call i (Accepts session reading)) (quiet_accept i session reading) r
call_records count width pairs i (Decides session) r = decided_records count width pairs i session r
call_records count width pairs i (Refuses session) r = quiet_call count width pairs i (after_call i (Refuses session)) (quiet_refuse i session) r
call_records count width pairs i (Settles session how) r = quiet_call count width pairs i (after_call i (Settles session how)) (quiet_settle i session how) r
call_records count width pairs i (Answers session) r = quiet_call count width pairs i (after_call i (Answers session)) (quiet_answer i session) r
call_records count width pairs i (Widens ceiling) r = same_call count width pairs i (after_call i (Widens ceiling)) refl refl r
call_records count width pairs i (Renews until) r = same_call count width pairs i (after_call i (Renews until)) refl refl r
call_records count width pairs i (Stops why) r = same_call count width pairs i (after_call i (Stops why)) refl refl r

-- ---- a commit that is drawn
free_request : (count width : ℕ) (pairs : List Recorded) (i : InstanceEntry) (request : Request) → 1 ≤ count → 1 ≤ width → IsRecordedIn count width pairs i → request_verdict i.buckets request ≡ Free → RequestIsFree pairs request
free_request count width pairs i (Begin s) c w r free = tt
free_request count width pairs i (Commit s start keys) c w r free =
    let told : verdict (contents count width pairs) start keys ≡ Free = ap (λ (b : List Bucket). verdict b start keys) (sym r.holds) ∙ free in
    subst (λ (v : Verdict). IsShown count width pairs start keys v) told (verdict_shown count width pairs start keys c w r.rise)

draws_free : (count width : ℕ) (pairs : List Recorded) (i : InstanceEntry) (session : ℕ) (held : Option Held) (step : InstanceStep Decided) → 1 ≤ count → 1 ≤ width → IsRecordedIn count width pairs i → DrawsFor i session held step → HeldIsFree pairs held
draws_free count width pairs i session None step c w r drew = absurd drew
draws_free count width pairs i session (Some held) step c w r drew = free_request count width pairs i held.request c w r drew.free

pub drawn_free : (count width : ℕ) (pairs : List Recorded) (i : InstanceEntry) (session : ℕ) (d : Decided) → 1 ≤ count → 1 ≤ width → IsRecordedIn count width pairs i → (instance_decide i session).answer ≡ Ok d → HeldIsFree pairs (held_of i session)
drawn_free count width pairs i session d c w r e = elim (held_cases i session (held_of i session)) [
  | inl refused ↦ absurd (refused.never d e)
  | inr drew ↦ draws_free count width pairs i session (held_of i session) (instance_decide i session) c w r drew
]

pub new_records : (grant : Grant) (node count width slots : ℕ) (direct : Bool) → IsRecordedIn count width [] (instance_new grant node count width slots direct)
new_records grant node count width slots direct = record {
  holds = refl;
  rise = λ i j d lt within. absurd (omega arith);
  up_to = All-nil (λ (pair : Recorded). pair.commit ≤ grant.epoch);
}
