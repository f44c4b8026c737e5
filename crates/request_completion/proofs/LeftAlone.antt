-- A client whose completion is under way is moved by its own steps alone, or vanishes.
use Rattle.std.proofs.Common.{arith}
use Rattle.request_completion.proofs.Names.{◌≡◌, ℕ, Bool, List, Option, None, Some, inl, inr, sym, ◌∙◌, ap, subst}
use Rattle.request_completion.proofs.Names.{slice_get, option_or, SetupNumbers, Fate, Item, Row, Pairs, SessionState}
use Rattle.request_completion.proofs.Names.{begin_refusal, work_refusal, key_refusal, Held, Request, Begin, Commit}
use Rattle.request_completion.proofs.Names.{InstanceEntry, held_of, Client, State, is_reading}
use Rattle.request_completion.proofs.Names.{ask_begin_by, ask_begin_on, ask_commit_by, ask_commit_on}
use Rattle.request_completion.proofs.Names.{accept_on, decide_on, answer_on, write_open}
use Rattle.request_completion.proofs.Names.{write_on, reads_refusal, fetch_open, fetch_on, offer_by, offer_of, heal_at}
use Rattle.request_completion.proofs.Names.{heal_on, abort_by, abort_on, InstanceAt, ClientAt, WaitsFor}
use Rattle.request_completion.proofs.Names.{ReachedInvariant, one_client, held_by}
use Rattle.system_parts.specs.declared.session.State.TheVariants as phase

-- ---- a client that completes, of whom no node holds a request
pub record Completing (nodes : List (Option InstanceEntry)) (clients : List Client) (s : ℕ) (c : Client) : Type 0 where
  pub at : ClientAt clients s c
  pub undo : Bool
  pub completes : c.entry.state ≡ phase.Completing undo
  pub unheld : (n : ℕ) (i : InstanceEntry) (held : Held) → InstanceAt nodes n i → held_of i s ≡ Some held → ⊥

waits_not : (request : Request) (c : Client) (undo : Bool) → c.entry.state ≡ phase.Completing undo → WaitsFor request c → ⊥
waits_not (Begin r) c undo completes (inl gone) = let clash : phase.Completing undo ≡ phase.Gone = sym completes ∙ gone in cc
waits_not (Begin r) c undo completes (inr asking) = let clash : phase.Completing undo ≡ phase.Asking = sym completes ∙ asking in cc
waits_not (Commit r start keys) c undo completes (inl gone) = let clash : phase.Completing undo ≡ phase.Gone = sym completes ∙ gone in cc
waits_not (Commit r start keys) c undo completes (inr committing) = let clash : phase.Completing undo ≡ phase.Committing = sym completes ∙ committing.0 in cc

pub completing_of : (w : State) (h : List Item) (s : ℕ) (c : Client) (undo : Bool) → ReachedInvariant w h → ClientAt w.clients s c → c.entry.state ≡ phase.Completing undo → Completing w.nodes w.clients s c
completing_of w h s c undo stands at completes = record {
  at = at;
  undo = undo;
  completes = completes;
  unheld = λ n i held here has.
      let waits : (x : Client) × ClientAt w.clients s x × WaitsFor held.request x = stands.holds.requests.requests.waits n s i held.request held.progress here (held_by i s held has) in
      waits_not held.request c undo completes (subst (λ (x : Client). WaitsFor held.request x) (one_client w.clients s waits.0 c waits.1 at) waits.2);
}

pub same_there : (nodes : List (Option InstanceEntry)) (clients : List Client) (s : ℕ) (c d : Client) → Completing nodes clients s c → ClientAt clients s d → d ≡ c
same_there nodes clients s c d k there = one_client clients s d c there k.at

-- ---- its own calls are refused
pub write_keeps : (r key : ℕ) (value : List ℕ) (fate : Fate) (c : Client) (rows : List Row) (undo : Bool) → c.entry.state ≡ phase.Completing undo → (write_on r key value fate c rows).parts.0 ≡ c
write_keeps r key value fate c rows undo completes =
    ap (λ (state : SessionState). (write_open r key value fate c rows (option_or (work_refusal state (is_reading c)) (key_refusal c.entry.keys key)) c.entry.start).parts.0) completes

pub fetch_keeps : (setup : SetupNumbers) (r key : ℕ) (fate : Fate) (c : Client) (rows : List Row) (undo : Bool) → c.entry.state ≡ phase.Completing undo → (fetch_on setup r key fate c rows).parts ≡ c
fetch_keeps setup r key fate c rows undo completes =
    ap (λ (state : SessionState). (fetch_open setup r key fate c rows (option_or (work_refusal state (is_reading c)) (reads_refusal setup c key)) c.entry.start c.entry.epoch).parts) completes

pub heal_keeps : (r : ℕ) (fate : Fate) (c : Client) (rows : List Row) (pairs : Pairs) (undo : Bool) → c.entry.state ≡ phase.Completing undo → (heal_on r fate c rows pairs).parts.0 ≡ c
heal_keeps r fate c rows pairs undo completes =
    let none : offer_of c ≡ None = ap (λ (state : SessionState). offer_by state (is_reading c) c.heal) completes in
    ap (λ (offer : Option (ℕ × ℕ × ℕ)). (heal_at r fate c rows pairs offer).parts.0) none

pub abort_keeps : (r : ℕ) (c : Client) (undo : Bool) → c.entry.state ≡ phase.Completing undo → (abort_on r c).parts ≡ c
abort_keeps r c undo completes = ap (λ (state : SessionState). (abort_by r c (work_refusal state (is_reading c)) c.entry.start).parts) completes

pub begin_keeps : (r n : ℕ) (c : Client) (post : Option InstanceEntry) (undo : Bool) → c.entry.state ≡ phase.Completing undo → (ask_begin_on r n c post).parts.0 ≡ c
begin_keeps r n c post undo completes = ap (λ (state : SessionState). (ask_begin_by r n c post (begin_refusal state)).parts.0) completes

pub commit_keeps : (r n : ℕ) (c : Client) (post : Option InstanceEntry) (undo : Bool) → c.entry.state ≡ phase.Completing undo → (ask_commit_on r n c post).parts.0 ≡ c
commit_keeps r n c post undo completes = ap (λ (state : SessionState). (ask_commit_by r n c post (work_refusal state (is_reading c)) c.entry.start).parts.0) completes

-- ---- and no node serves it
pub accept_keeps : (nodes : List (Option InstanceEntry)) (clients : List Client) (s r n reading : ℕ) (c : Client) (post : Option InstanceEntry) → Completing nodes clients s c → slice_get nodes n ≡ Some post → s ≡ r → (accept_on n r reading post c).parts.1 ≡ c
accept_keeps nodes clients s r n reading c post k here same = grind arith

pub decide_keeps : (nodes : List (Option InstanceEntry)) (clients : List Client) (s r n : ℕ) (c : Client) (post : Option InstanceEntry) → Completing nodes clients s c → slice_get nodes n ≡ Some post → s ≡ r → (decide_on n r post c).parts.1 ≡ c
decide_keeps nodes clients s r n c post k here same = grind arith

pub answer_keeps : (nodes : List (Option InstanceEntry)) (clients : List Client) (s r n : ℕ) (c : Client) (post : Option InstanceEntry) → Completing nodes clients s c → slice_get nodes n ≡ Some post → s ≡ r → (answer_on n r post c).parts.1 ≡ c
answer_keeps nodes clients s r n c post k here same = grind arith
