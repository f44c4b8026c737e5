-- For turn_rules and grant_laws too.
-- A step of a session lowers what is left of its read, of the resolve of its own commit, of its completion. A failed one ends
-- the run, or leaves nothing.
use Rattle.command_semantics.proofs.Names.{◌≡◌, ℕ, ◌+◌, ◌*◌, ◌<◌, ◌≤◌, List, ◌∷◌, Option, Some, None, inl}
use Rattle.command_semantics.proofs.Names.{inr, refl, sym, ◌∙◌, ap, subst, arith, length, slice_get, slice_set, Mark}
use Rattle.command_semantics.proofs.Names.{Fate, Session, Pairs, mark_of}
use Rattle.command_semantics.proofs.Names.{Told, SessionState, Settling, settle_ask, settle_left}
use Rattle.command_semantics.proofs.Names.{SettleTurn, settle_turn, SettlesEnd, Reading, ReadTurn, Asks}
use Rattle.command_semantics.proofs.Names.{read_ask, read_left, Cache, RecalledReadsEnd}
use Rattle.command_semantics.proofs.Names.{step_refusal, handed_by, handed_commit, UnderWay}
use Rattle.command_semantics.proofs.Names.{Settles, Completes, Client, State, Effect, is_reading}
use Rattle.command_semantics.proofs.Names.{met}
use Rattle.command_semantics.proofs.Names.{Step, step_by, with_client, stepped}
use Rattle.command_semantics.proofs.Names.{client_read, place_by, place_on, placed_among}
use Rattle.command_semantics.proofs.Names.{step_due, StepParts, read_step, settle_step, client_settled, complete_step}
use Rattle.command_semantics.proofs.Names.{work_by, work_of, step_at, Verb, ClientAt}
use Rattle.command_semantics.proofs.Names.{Interruption, Point, halt_of, unless_halted, after_serving, after_stepping}
use Rattle.command_semantics.proofs.Names.{steps_left, steps_due, keys_of, of_client}
use Rattle.command_semantics.proofs.Names.{client_completes, client_settles, client_reads, client_steps, session_left}
use Rattle.system_parts.specs.declared.resolve.SettlePoint.{SettlePoint}
use Rattle.system_parts.specs.declared.resolve.SettlePoint.TheVariants.{FirstLook, Table, Marking, LastLook}
use Rattle.system_parts.specs.declared.session.State.TheVariants as phase
use Rattle.machine.specs.declared.event.Event.TheVariants as event
use Rattle.machine.specs.State.{Reads}
use Rattle.command_semantics.specs.declared.point.Point.TheVariants as point
use Rattle.command_semantics.proofs.Clients.{client_now, undo_long, finish_long, aborted_left}
use Rattle.command_semantics.proofs.Working.{ReadWork, SettleWork, CompleteWork, PlaceWork, HasWork}

-- what the lower crates say of the steps that reads and resolves take
pub record StepsEnd : Type 0 where
  pub reads : RecalledReadsEnd
  pub settles : SettlesEnd

-- the step as an effect on the client and the stores
abbrev pub stores_step : State → ℕ → Effect StepParts → Step
stores_step w s effect = step_by effect (λ (p : StepParts). record (with_client w s p.0) { rows = p.1; pairs = p.2 })

-- at this point of a line what is left after the step is less than a bound
abbrev pub after_at : Point → Option Interruption → Point
after_at point.Steps halt = after_stepping halt
after_at at halt = unless_halted at halt

abbrev pub LowersAt : Point → ℕ → ℕ → Verb → Step → Type 0
LowersAt at bound s verb step = session_left step.state s verb (after_at at (halt_of step.stop)) < bound

-- ---- the step that is made: of a commit to place, or of what is under way
due_is : (w : State) (s : ℕ) (fate : Fate) (c : Client) (due : Option (ℕ × ℕ)) → ClientAt w.clients s c → step_refusal c.entry.state (is_reading c) ≡ None → handed_commit c.entry ≡ due → stepped w (event.Step s) fate ≡ stores_step w s (step_due s fate c w.rows w.pairs due)
due_is w s fate c due at go is = grind arith

pub step_is : (w : State) (s : ℕ) (fate : Fate) (c : Client) (work : UnderWay) → ClientAt w.clients s c → step_refusal c.entry.state (is_reading c) ≡ None → handed_commit c.entry ≡ None → work_of c ≡ work → stepped w (event.Step s) fate ≡ stores_step w s (step_at s fate c w.rows w.pairs work)
step_is w s fate c work at go none is = grind arith

-- only a session that is to place its commit has one to place
pub unhanded : (c : Client) (state : SessionState) → c.entry.state ≡ state → handed_by state c.entry.start c.entry.commit ≡ None → handed_commit c.entry ≡ None
unhanded c state is none = ap (λ (x : SessionState). handed_by x c.entry.start c.entry.commit) is ∙ none

-- ---- a placing
abbrev pub placed_step : State → ℕ → Effect (Client × Pairs) → Step
placed_step w s effect = stores_step w s (placed_among w.rows effect)

pub place_is : (w : State) (s : ℕ) (fate : Fate) (c : Client) (k : PlaceWork c) → ClientAt w.clients s c → stepped w (event.Step s) fate ≡ placed_step w s (place_on s k.start k.commit fate c w.pairs)
place_is w s fate c k at = due_is w s fate c (Some (k.start, k.commit)) at (ap (λ (state : SessionState). step_refusal state (is_reading c)) k.placing) k.handed

-- what is left to a session that is to place its commit
place_due : (c : Client) (k : PlaceWork c) (left : ℕ) → steps_due (keys_of c) (handed_commit c.entry) left ≡ keys_of c + 2
place_due c k left = ap (λ (due : Option (ℕ × ℕ)). steps_due (keys_of c) due left) k.handed

pub place_settles : (c : Client) (k : PlaceWork c) → client_settles c ≡ keys_of c + 2
place_settles c k = grind arith

-- what is left to a client, by its state and by what is under way
abbrev steps_by : Client → SessionState → UnderWay → ℕ
steps_by c state work = steps_due (keys_of c) (handed_by state c.entry.start c.entry.commit) (steps_left (keys_of c) (work_by state c.entry work))

-- ---- a read
read_some : (r : Reading) → 1 ≤ read_left r
read_some r = point_some r.point where
  point_some : (p : SettlePoint) → 1 ≤ 3 * length r.older + settle_left p
  point_some FirstLook = omega arith
  point_some Table = omega arith
  point_some Marking = omega arith
  point_some (LastLook met) = omega arith

read_work : (c : Client) (k : ReadWork c) → work_of c ≡ Reads k.r
read_work c k = ap (λ (state : SessionState). work_by state c.entry c.under_way) k.is_open ∙ k.under_way

-- the read that is left is shorter, whether it is counted as a read or as what is under way
abbrev Falls : Reading → ReadTurn → Type 0
Falls r turn = (next : Reading) → turn ≡ Asks next → read_left next < read_left r

read_after : (c : Client) (k : ReadWork c) (turn : ReadTurn) → Falls k.r turn → client_reads (client_read c turn) < read_left k.r
read_after c k turn falls = grind (arith, read_some)

read_steps : (c : Client) (k : ReadWork c) (turn : ReadTurn) → Falls k.r turn → client_steps (client_read c turn) < read_left k.r
read_steps c k turn falls = grind (arith, read_some)

-- whatever the client remembers
abbrev remembering : (c : Client) (k : ReadWork c) (cache : Cache) → ReadWork (record c { cache = cache })
remembering c k cache = record { r = k.r; is_open = k.is_open; under_way = k.under_way }

-- ---- the resolve of an own commit
-- an aborted client has its keys to undo, and one whose commit is known those and the removal
settle_steps : (ends : SettlesEnd) (c : Client) (x : Settling) (told : Told) (turn : SettleTurn) → c.entry.state ≡ phase.OpenOutcome → settle_turn x told ≡ turn → client_steps (client_settled c x turn) < settle_left x.point + keys_of c + 1
settle_steps ends c x told turn is_open is = grind (arith, finish_long, undo_long)

-- ---- a completion
complete_work : (c : Client) (k : CompleteWork c) → work_of c ≡ Completes (k.asked ∷ k.asks)
complete_work c k = ap (λ (state : SessionState). work_by state c.entry c.under_way) k.completing ∙ k.under_way

-- ---- the whole step, as what is under way is counted
found_less : (clients : List Client) (s : ℕ) (old now : Client) (f : Client → ℕ) (bound : ℕ) → ClientAt clients s old → f now < bound → of_client (slice_get (slice_set clients s now) s) f < bound
found_less clients s old now f bound at less = omega (arith, client_now clients s old now f at, less)

read_lowers : (ends : RecalledReadsEnd) (w : State) (s : ℕ) (verb : Verb) (fate : Fate) (c : Client) (k : ReadWork c) → ClientAt w.clients s c → LowersAt point.Steps (read_left k.r) s verb (stores_step w s (read_step s c k.r (met (Session s) (read_ask k.r) fate w.rows w.pairs)))
read_lowers ends w s verb fate c k at = grind (arith, found_less, read_steps, read_some)

settle_lowers : (ends : SettlesEnd) (w : State) (s : ℕ) (verb : Verb) (fate : Fate) (c : Client) (k : SettleWork c) → ClientAt w.clients s c → LowersAt point.Steps (settle_left k.x.point + keys_of c + 1) s verb (stores_step w s (settle_step s c k.x (met (Session s) (settle_ask k.x) fate w.rows w.pairs)))
settle_lowers ends w s verb fate c k at = grind (arith, found_less, settle_steps)

complete_lowers : (w : State) (s : ℕ) (verb : Verb) (fate : Fate) (c : Client) (k : CompleteWork c) → ClientAt w.clients s c → LowersAt point.Steps (length (k.asked ∷ k.asks)) s verb (stores_step w s (complete_step c k.asked k.asks (met (Session s) k.asked fate w.rows w.pairs)))
complete_lowers w s verb fate c k at = grind (arith, client_now)

-- a placing, with the completion that may follow
place_lowers : (w : State) (s : ℕ) (verb : Verb) (c : Client) (k : PlaceWork c) → ClientAt w.clients s c → (fate : Fate) (found : Option Mark) (pairs : Pairs) → LowersAt point.Steps (keys_of c + 2) s verb (placed_step w s (place_by s k.start k.commit fate found c pairs))
place_lowers w s verb c k at fate found pairs = grind (arith, aborted_left, client_now, finish_long)

-- of whatever is under way
lowers_by : (w : State) (s : ℕ) (verb : Verb) (fate : Fate) (c : Client) (work : UnderWay) (bound : ℕ) → ClientAt w.clients s c → step_refusal c.entry.state (is_reading c) ≡ None → handed_commit c.entry ≡ None → work_of c ≡ work → steps_left (keys_of c) work ≡ bound → LowersAt point.Steps bound s verb (stores_step w s (step_at s fate c w.rows w.pairs work)) → LowersAt point.Steps (client_steps c) s verb (stepped w (event.Step s) fate)
lowers_by w s verb fate c work bound at go none is full less = grind (arith, step_is)

pub steps_lower : (ends : StepsEnd) (w : State) (s : ℕ) (verb : Verb) (fate : Fate) (c : Client) → ClientAt w.clients s c → step_refusal c.entry.state (is_reading c) ≡ None → HasWork c → LowersAt point.Steps (client_steps c) s verb (stepped w (event.Step s) fate)
steps_lower ends w s verb fate c at go (inl k) = lowers_by w s verb fate c (Reads k.r) (read_left k.r) at go (unhanded c phase.Open k.is_open refl) (read_work c k) refl (read_lowers ends.reads w s verb fate c k at)
steps_lower ends w s verb fate c at go (inr (inl k)) = lowers_by w s verb fate c (Settles k.x) (settle_left k.x.point + keys_of c + 1) at go (unhanded c phase.OpenOutcome k.is_open refl) k.work refl (settle_lowers ends.settles w s verb fate c k at)
steps_lower ends w s verb fate c at go (inr (inr (inl k))) = lowers_by w s verb fate c (Completes (k.asked ∷ k.asks)) (length (k.asked ∷ k.asks)) at go (unhanded c (phase.Completing k.undo) k.completing refl) (complete_work c k) refl (complete_lowers w s verb fate c k at)
steps_lower ends w s verb fate c at go (inr (inr (inr k))) =
    let full : client_steps c ≡ keys_of c + 2 = place_due c k (steps_left (keys_of c) (work_of c)) in
    subst (λ (n : ℕ). LowersAt point.Steps n s verb (stepped w (event.Step s) fate)) (sym full) (subst (λ (step : Step). LowersAt point.Steps (keys_of c + 2) s verb step) (sym (place_is w s fate c k at)) (place_lowers w s verb c k at fate (mark_of w.pairs k.start) _))

-- ---- of a read alone
one_read : (ends : RecalledReadsEnd) (w : State) (s : ℕ) (verb : Verb) (fate : Fate) (c : Client) (k : ReadWork c) → ClientAt w.clients s c → LowersAt point.Reads (read_left k.r) s verb (stores_step w s (read_step s c k.r (met (Session s) (read_ask k.r) fate w.rows w.pairs)))
one_read ends w s verb fate c k at = grind (arith, found_less, read_after, read_some)

pub reads_lower : (ends : StepsEnd) (w : State) (s : ℕ) (verb : Verb) (fate : Fate) (c : Client) (k : ReadWork c) → ClientAt w.clients s c → step_refusal c.entry.state (is_reading c) ≡ None → LowersAt point.Reads (client_reads c) s verb (stepped w (event.Step s) fate)
reads_lower ends w s verb fate c k at go = grind (arith, step_is, unhanded, read_work, one_read)

-- ---- of a completion alone, whether the run goes on or has ended
pub record FewerAsks (w : State) (s : ℕ) (c : Client) (step : Step) : Type 0 where
  pub now : Client
  pub clients : step.state.clients ≡ slice_set w.clients s now
  pub nodes : step.state.nodes ≡ w.nodes
  pub fewer : client_completes now < client_completes c
  pub settles : client_settles now < client_settles c
  pub goes_on : after_serving (halt_of step.stop) ≡ point.Drives

pub completes_lower : (w : State) (s : ℕ) (fate : Fate) (c : Client) (k : CompleteWork c) → ClientAt w.clients s c → FewerAsks w s c (stepped w (event.Step s) fate)
completes_lower w s fate c k at = grind (arith, step_is, unhanded)
