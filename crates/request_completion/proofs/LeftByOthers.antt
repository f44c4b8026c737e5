-- None but its own steps moves a client whose completion is under way, unless it vanishes.
use Rattle.request_completion.proofs.Names.{◌≡◌, ℕ, List, Option, None, Some, inl, inr, refl, sym, ◌∙◌, ap, subst}
use Rattle.request_completion.proofs.Names.{slice_get, slice_set, Fate, Row, InstanceEntry, Event, Client, State}
use Rattle.request_completion.proofs.Names.{Effect, stepped, step_by, with_post, with_client, with_reading, at_post}
use Rattle.request_completion.proofs.Names.{at_client, at_both, crash_on, ask_begin_on, ask_commit_on, accept_on}
use Rattle.request_completion.proofs.Names.{decide_on, answer_on, write_on, fetch_on, StepParts, step_on, heal_on}
use Rattle.request_completion.proofs.Names.{abort_on, vanish_on, leaves_parts, ClientAt, client_set, one_client}
use Rattle.request_completion.proofs.Names.{crashed_at, OthersLeaveCompletions}
use Rattle.machine.specs.declared.event.Event.TheVariants as event
use Rattle.request_completion.proofs.LeftAlone.{Completing, completing_of, same_there, write_keeps, fetch_keeps, heal_keeps, abort_keeps, begin_keeps, commit_keeps, accept_keeps, decide_keeps, answer_keeps}

-- ---- events that set one client, where it is there
abbrev set_by : List Client → ℕ → Option Client → (Client → Client) → List Client
set_by clients r None new = clients
set_by clients r (Some c) new = slice_set clients r (new c)

client_by : (w : State) (r : ℕ) (g : Client → Effect Client) (old : Option Client) → (at_client w old (λ c. step_by (g c) (λ p. with_client w r p))).state.clients ≡ set_by w.clients r old (λ c. (g c).parts)
client_by w r g None = refl
client_by w r g (Some c) = refl

cells_by : (w : State) (r : ℕ) (g : Client → Effect (Client × List Row)) (old : Option Client) → (at_client w old (λ c. step_by (g c) (λ p. record (with_client w r p.0) { rows = p.1 }))).state.clients ≡ set_by w.clients r old (λ c. (g c).parts.0)
cells_by w r g None = refl
cells_by w r g (Some c) = refl

stores_by : (w : State) (r : ℕ) (g : Client → Effect StepParts) (old : Option Client) → (at_client w old (λ c. step_by (g c) (λ p. record (with_client w r p.0) { rows = p.1; pairs = p.2 }))).state.clients ≡ set_by w.clients r old (λ c. (g c).parts.0)
stores_by w r g None = refl
stores_by w r g (Some c) = refl

-- the client of the completion stays, where its own is not moved
own_by : (nodes : List (Option InstanceEntry)) (clients : List Client) (s r : ℕ) (c d : Client) (old : Option Client) (new : Client → Client) → Completing nodes clients s c → slice_get clients r ≡ old → (s ≡ r → new c ≡ c) → ClientAt (set_by clients r old new) s d → d ≡ c
own_by nodes clients s r c d None new k was keeps there = same_there nodes clients s c d k there
own_by nodes clients s r c d (Some x) new k was keeps there = elim (client_set clients r s (new x) d there) [
  | inl here ↦
      let same : x ≡ c = one_client clients s x c (subst (λ (q : ℕ). ClientAt clients q x) (sym here.0) was) k.at in
      here.1 ∙ (ap new same ∙ keeps here.0)
  | inr other ↦ same_there nodes clients s c d k other.1
]

-- a call of one client
one_call : (nodes : List (Option InstanceEntry)) (clients now : List Client) (s r : ℕ) (c d : Client) (new : Client → Client) → Completing nodes clients s c → now ≡ set_by clients r (slice_get clients r) new → (s ≡ r → new c ≡ c) → ClientAt now s d → d ≡ c
one_call nodes clients now s r c d new k is keeps there = own_by nodes clients s r c d (slice_get clients r) new k refl keeps (subst (λ (cs : List Client). ClientAt cs s d) is there)

ask_by : (w : State) (s r n : ℕ) (c d : Client) (g : Client → Option InstanceEntry → Effect (Client × Option InstanceEntry)) (posts : Option (Option InstanceEntry)) (old : Option Client) → Completing w.nodes w.clients s c → slice_get w.clients r ≡ old → ((post : Option InstanceEntry) → s ≡ r → (g c post).parts.0 ≡ c)
    → ClientAt (at_both w posts old (λ post x. step_by (g x post) (λ p. with_client (with_post w n p.1) r p.0))).state.clients s d → d ≡ c
ask_by w s r n c d g None old k was keeps there = same_there w.nodes w.clients s c d k there
ask_by w s r n c d g (Some post) None k was keeps there = same_there w.nodes w.clients s c d k there
ask_by w s r n c d g (Some post) (Some x) k was keeps there = own_by w.nodes w.clients s r c d (Some x) (λ y. (g y post).parts.0) k was (keeps post) there

request_by : (w : State) (s r n : ℕ) (c d : Client) (g : Option InstanceEntry → Client → Effect (Option InstanceEntry × Client)) (posts : Option (Option InstanceEntry)) (old : Option Client) → Completing w.nodes w.clients s c → slice_get w.nodes n ≡ posts → slice_get w.clients r ≡ old → ((post : Option InstanceEntry) → slice_get w.nodes n ≡ Some post → s ≡ r → (g post c).parts.1 ≡ c)
    → ClientAt (at_both w posts old (λ post x. step_by (g post x) (λ p. with_client (with_post w n p.0) r p.1))).state.clients s d → d ≡ c
request_by w s r n c d g None old k here was keeps there = same_there w.nodes w.clients s c d k there
request_by w s r n c d g (Some post) None k here was keeps there = same_there w.nodes w.clients s c d k there
request_by w s r n c d g (Some post) (Some x) k here was keeps there = own_by w.nodes w.clients s r c d (Some x) (λ y. (g post y).parts.1) k was (keeps post here) there

crash_by : (w : State) (s n : ℕ) (c d : Client) (posts : Option (Option InstanceEntry)) → Completing w.nodes w.clients s c → slice_get w.nodes n ≡ posts
    → ClientAt (at_post w posts (λ post. step_by (crash_on n post w.clients) (λ p. record (with_post w n p.0) { clients = p.1 }))).state.clients s d → d ≡ c
crash_by w s n c d None k here there = same_there w.nodes w.clients s c d k there
crash_by w s n c d (Some None) k here there = same_there w.nodes w.clients s c d k there
crash_by w s n c d (Some (Some i)) k here there =
    let was = crashed_at i.requests w.clients s d there in
    elim was.2 [
      | inl same ↦ same ∙ same_there w.nodes w.clients s c was.0 k was.1
      | inr lost ↦ absurd (k.unheld n i lost.0 here lost.1)
    ]

-- ---- every event
all_stay : (w : State) (now : List Client) (s : ℕ) (c d : Client) → Completing w.nodes w.clients s c → now ≡ w.clients → ClientAt now s d → d ≡ c
all_stay w now s c d k is there = same_there w.nodes w.clients s c d k (subst (λ (cs : List Client). ClientAt cs s d) is there)

leave : (w : State) (e : Event) (fate : Fate) (s : ℕ) (c d : Client) → Completing w.nodes w.clients s c → (e ≡ event.Step s → ⊥) → (e ≡ event.Vanish s → ⊥) → ClientAt (stepped w e fate).state.clients s d → d ≡ c
leave w (event.Crash n) fate s c d k no_step stays there = crash_by w s n c d (slice_get w.nodes n) k refl there
leave w (event.AskBegin r n) fate s c d k no_step stays there = ask_by w s r n c d (ask_begin_on r n) (slice_get w.nodes n) (slice_get w.clients r) k refl (λ post same. begin_keeps r n c post k.undo k.completes) there
leave w (event.AskCommit r n) fate s c d k no_step stays there = ask_by w s r n c d (ask_commit_on r n) (slice_get w.nodes n) (slice_get w.clients r) k refl (λ post same. commit_keeps r n c post k.undo k.completes) there
leave w (event.Accept n r reading) fate s c d k no_step stays there =
    request_by (with_reading w reading) s r n c d (accept_on n r reading) (slice_get w.nodes n) (slice_get w.clients r) k refl refl (λ post here same. accept_keeps w.nodes w.clients s r n reading c post k here same) there
leave w (event.Decide n r) fate s c d k no_step stays there =
    request_by w s r n c d (decide_on n r) (slice_get w.nodes n) (slice_get w.clients r) k refl refl (λ post here same. decide_keeps w.nodes w.clients s r n c post k here same) there
leave w (event.Answer n r) fate s c d k no_step stays there =
    request_by w s r n c d (answer_on n r) (slice_get w.nodes n) (slice_get w.clients r) k refl refl (λ post here same. answer_keeps w.nodes w.clients s r n c post k here same) there
leave w (event.Write r key value) fate s c d k no_step stays there =
    one_call w.nodes w.clients _ s r c d (λ x. (write_on r key value fate x w.rows).parts.0) k (cells_by w r (λ x. write_on r key value fate x w.rows) (slice_get w.clients r)) (λ same. write_keeps r key value fate c w.rows k.undo k.completes) there
leave w (event.Fetch r key) fate s c d k no_step stays there =
    one_call w.nodes w.clients _ s r c d (λ x. (fetch_on w.setup r key fate x w.rows).parts) k (client_by w r (λ x. fetch_on w.setup r key fate x w.rows) (slice_get w.clients r)) (λ same. fetch_keeps w.setup r key fate c w.rows k.undo k.completes) there
leave w (event.Step r) fate s c d k no_step stays there =
    one_call w.nodes w.clients _ s r c d (λ x. (step_on r fate x w.rows w.pairs).parts.0) k (stores_by w r (λ x. step_on r fate x w.rows w.pairs) (slice_get w.clients r)) (λ same. absurd (no_step (ap (λ (q : ℕ). event.Step q) (sym same)))) there
leave w (event.Heal r) fate s c d k no_step stays there =
    one_call w.nodes w.clients _ s r c d (λ x. (heal_on r fate x w.rows w.pairs).parts.0) k (cells_by w r (λ x. heal_on r fate x w.rows w.pairs) (slice_get w.clients r)) (λ same. heal_keeps r fate c w.rows w.pairs k.undo k.completes) there
leave w (event.Abort r) fate s c d k no_step stays there =
    one_call w.nodes w.clients _ s r c d (λ x. (abort_on r x).parts) k (client_by w r (abort_on r) (slice_get w.clients r)) (λ same. abort_keeps r c k.undo k.completes) there
leave w (event.Vanish r) fate s c d k no_step stays there =
    one_call w.nodes w.clients _ s r c d (λ x. (vanish_on r x).parts) k (client_by w r (vanish_on r) (slice_get w.clients r)) (λ same. absurd (stays (ap (λ (q : ℕ). event.Vanish q) (sym same)))) there
leave w e fate s c d k no_step stays there = all_stay w _ s c d k ((leaves_parts w e fate).clients refl) there

pub others_leave_completions : OthersLeaveCompletions
others_leave_completions w h e fate s c d undo stands at completes no_step stays there = leave w e fate s c d (completing_of w h s c undo stands at completes) no_step stays there
