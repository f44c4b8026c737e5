-- Where no turn can be made, a request that stands at a node stands before a held stage, or waits for a commit that does.
use Rattle.std.proofs.Common.{arith}
use Rattle.grant_laws.proofs.Names.{◌≡◌, ℕ, zero, suc, ◌||◌, Bool, true, List, [], ◌∷◌, Option}
use Rattle.grant_laws.proofs.Names.{Some, None, refl, ◌∙◌, ap, slice_index_or, list_any}
use Rattle.grant_laws.proofs.Names.{eqb-true, none-some, Item, Held, Place, Progress}
use Rattle.grant_laws.proofs.Names.{Begin, Commit, InstanceEntry, held_of, stamps_by}
use Rattle.grant_laws.proofs.Names.{unsettled_by, unsettled_commit, only_below, lesser, least_unsettled}
use Rattle.grant_laws.proofs.Names.{answer_if_ready, Client, State}
use Rattle.grant_laws.proofs.Names.{Event, answer_by, answer_on, decide_on}
use Rattle.grant_laws.proofs.Names.{ScriptData, ReachedInvariant, ClientAt}
use Rattle.grant_laws.proofs.Names.{WaitsFor, held_by, Served, Turn, Carried, event_of, stage_of}
use Rattle.grant_laws.proofs.Names.{is_accepted, is_accepted_by, IsInPlace, IsTold, IsLawful, StageTurnsAreTold}
use Rattle.grant_laws.proofs.Names.{IsHeld}
use Rattle.stamp_base.specs.declared.stage.Stage.{Stage}
use Rattle.system_parts.specs.declared.instance.Progress.TheVariants as progress
use Rattle.system_parts.specs.declared.instance.Settled.{Settled}
use Rattle.grant_laws.proofs.SettledCommits.{AllFit}

-- what is known where no turn can be made
pub record Stuck (script : ScriptData) (c : Carried) : Type 0 where
  pub stands : ReachedInvariant c.played.state c.played.items
  pub fits : AllFit c.played.state.nodes
  pub tells : StageTurnsAreTold
  pub none : (t : Turn) → IsLawful script c t → ⊥

-- ---- a turn that could be made but for its stage
pub must_be_held : (script : ScriptData) (c : Carried) (k : Stuck script c) (t : Turn) (node : ℕ) (at : Stage) (e : Event) → event_of script c t ≡ Some e → IsInPlace c.played.state t → IsTold script c.played e → stage_of t ≡ Some (node, at) → IsHeld c node at
must_be_held script c k t node at e made in_place told serves = grind arith

-- ---- an event on a request that is there
abbrev pub the_client : (w : State) (h : List Item) (s : ℕ) (request : ℕ × Place) → ReachedInvariant w h → Served w s request → (c : Client) × ClientAt w.clients s c
the_client w h s request stands k =
    let waits : (c : Client) × ClientAt w.clients s c × WaitsFor k.held.request c = stands.holds.requests.requests.waits request.0 s k.holder.i k.held.request k.held.progress k.holder.at (held_by k.holder.i s k.held k.holder.has) in
    (waits.0, waits.1)

-- ---- a decision that appends nothing has found no stamp
pub decide_quiet : (node s : ℕ) (i : InstanceEntry) (held : Held) (c : Client) → held_of i s ≡ Some held → held.progress ≡ progress.Accepted → (decide_on node s (Some i) c).items ≡ [] → i.last ≡ i.ceiling
decide_quiet node s i held c has accepted quiet = grind (arith, eqb-true)

-- a request waits there for a stamp
any_by : (first later : Bool) → later ≡ true → first || later ≡ true
any_by first later is = grind arith

pub some_waits : (requests : List (Option Held)) (s : ℕ) (held : Held) → slice_index_or requests s None ≡ Some held → held.progress ≡ progress.Accepted → list_any is_accepted requests ≡ true
some_waits [] s held has accepted = absurd (none-some held has)
some_waits (x ∷ xs) zero held has accepted = ap (λ (found : Option Held). is_accepted found || list_any is_accepted xs) has ∙ ap (λ (p : Progress). is_accepted_by p || list_any is_accepted xs) accepted
some_waits (x ∷ xs) (suc s) held has accepted = any_by (is_accepted x) (list_any is_accepted xs) (some_waits xs s held has accepted)

-- ---- an answer that appends nothing has found an unsettled commit
pub answer_begin_quiet : (node s r start : ℕ) (i : InstanceEntry) (held : Held) (c : Client) → held_of i s ≡ Some held → held.request ≡ Begin r → held.progress ≡ progress.Drawn start → (answer_on node s (Some i) c).items ≡ [] → (commit : ℕ) × (least_unsettled i.requests start ≡ Some commit)
answer_begin_quiet node s r start i held c has asks stands quiet = grind arith

-- a settled commit is always told, and one that its session is to place is handed to it
pub settled_tells : (node s r start commit : ℕ) (keys : List ℕ) (by : Settled) (i : InstanceEntry) (held : Held) (c : Client) → (answer_by node s start c i (answer_if_ready i s held (Commit r start keys) (progress.Settled commit by)).left (answer_if_ready i s held (Commit r start keys) (progress.Settled commit by)).answer).items ≡ [] → ⊥
settled_tells node s r start commit keys by i held c quiet = grind arith

pub handed_tells : (node s r start commit : ℕ) (keys : List ℕ) (i : InstanceEntry) (held : Held) (c : Client) → (answer_by node s start c i (answer_if_ready i s held (Commit r start keys) (progress.Handed commit)).left (answer_if_ready i s held (Commit r start keys) (progress.Handed commit)).answer).items ≡ [] → ⊥
handed_tells node s r start commit keys i held c quiet = cc

pub answer_commit_tells : (node s r start : ℕ) (commit : Option ℕ) (keys : List ℕ) (at : Progress) (i : InstanceEntry) (held : Held) (c : Client) → stamps_by (Commit r start keys) at ≡ Some (start, commit) → ((answer_by node s start c i (answer_if_ready i s held (Commit r start keys) at).left (answer_if_ready i s held (Commit r start keys) at).answer).items ≡ [] → ⊥) → held_of i s ≡ Some held → held.request ≡ Commit r start keys → held.progress ≡ at → (answer_on node s (Some i) c).items ≡ [] → ⊥
answer_commit_tells node s r start commit keys at i held c stamps tells has asks stands quiet = grind arith

-- ---- the unsettled commit is a request of the node
pub record Unsettled (requests : List (Option Held)) : Type 0 where
  pub session : ℕ
  pub held : Held
  pub has : slice_index_or requests session None ≡ Some held
  pub commit : ℕ
  pub is : unsettled_by held.request held.progress ≡ Some commit

later_unsettled : (x : Option Held) (xs : List (Option Held)) → Unsettled xs → Unsettled (x ∷ xs)
later_unsettled x xs k = record { session = suc k.session; held = k.held; has = k.has; commit = k.commit; is = k.is }

first_unsettled : (x : Option Held) (xs : List (Option Held)) (start : ℕ) (here : Option ℕ) (c : ℕ) → unsettled_commit x ≡ here → ((later : ℕ) → least_unsettled xs start ≡ Some later → Unsettled xs) → lesser (only_below start here) (least_unsettled xs start) ≡ Some c → Unsettled (x ∷ xs)
first_unsettled x xs start here c is rest found = grind (arith, later_unsettled, none-some)

pub some_unsettled : (requests : List (Option Held)) (start c : ℕ) → least_unsettled requests start ≡ Some c → Unsettled requests
unfolding least_unsettled
some_unsettled [] start c found = absurd (none-some c found)
some_unsettled (x ∷ xs) start c found = first_unsettled x xs start (unsettled_commit x) c refl (λ later is. some_unsettled xs start later is) found
