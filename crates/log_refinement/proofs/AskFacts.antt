-- What the machine's laws say of one event to a session that has asked a node, and of its ask.
use Rattle.log_refinement.proofs.Names.{◌≡◌, ℕ, ◌==◌, Bool, true, false, if◌then◌else◌, List, ◌++◌, ◌⊎◌, inl, inr, refl}
use Rattle.log_refinement.proofs.Names.{ap, subst, eqb-true, eq-eqb, ◌∈◌, Cause, Actor, Node, Session, Item, in_back}
use Rattle.log_refinement.proofs.Names.{Store, Master, Ask, closes, open_asks_of, ClientAt, ExplainedInvariant}
use Rattle.log_refinement.proofs.Names.{actor_same, AllNot, Ends, OverStaysOver, ClosedAsksAreOver, LostAsksAreOver}
use Rattle.log_refinement.proofs.Names.{SilentAnswersRepeat, SessionsTakeTurns, BeginsAreAsked, AsksAreTurns, Owed}
use Rattle.log_refinement.proofs.Names.{Denied, leaves_cells, leaves_nothing, denies_request, is_lost, fails_record}
use Rattle.log_refinement.proofs.Names.{WasDenied, HasCome}
use Rattle.history_book.specs.declared.cause.Cause.TheVariants as cause
use Rattle.history_book.specs.declared.item.Item.TheVariants as item
use Rattle.request_completion.specs.Laws.{EndsAtFirst, EventsKeepEnds}
use Rattle.log_refinement.proofs.Moves.{items_of, state_after, history_after, AskMove}
use Rattle.log_refinement.proofs.SinceAsk.{IsSince, none_asks}

-- ---- the laws of the machine
pub record MachineLaws : Type 0 where
  pub first : EndsAtFirst
  pub keeps : EventsKeepEnds
  pub turns : SessionsTakeTurns
  pub begins : BeginsAreAsked
  pub asks : AsksAreTurns
  pub lost : LostAsksAreOver
  pub silent : SilentAnswersRepeat
  pub stays : OverStaysOver
  pub closed : ClosedAsksAreOver

-- ---- one event, between two places of a history since the ask
pub record Passed (ask : Ask) (upto : List Item) (a : AskMove) : Type 0 where
  pub tells : ExplainedInvariant a.move.state a.move.history
  pub ends : Ends a.move.state a.move.history
  pub now : ExplainedInvariant (state_after a.move) (history_after a.move)
  pub ended : Ends (state_after a.move) (history_after a.move)
  pub is_since : IsSince a.session ask a.move.history upto a.since
  pub at : ClientAt a.move.state.clients a.session a.client
  pub there : ClientAt (state_after a.move).clients a.session a.next
  pub none : AllNot (Session a.session) (items_of a.move)

-- what is over stays so
pub stays_over : MachineLaws → (ask : Ask) (upto : List Item) (a : AskMove) → Passed ask upto a → open_asks_of a.move.history ask.node a.session ≡ 0 → open_asks_of (history_after a.move) ask.node a.session ≡ 0
stays_over laws ask upto a k over = laws.stays a.move.history (items_of a.move) ask.node a.session over (none_asks ask.node a.session (items_of a.move) k.none)

-- an item of the event closes the ask
pub closes_ask : MachineLaws → (ask : Ask) (upto : List Item) (a : AskMove) (x : Item) → Passed ask upto a → x ∈ items_of a.move → closes ask.node a.session x ≡ true → open_asks_of (history_after a.move) ask.node a.session ≡ 0
closes_ask laws ask upto a x k m closing = laws.closed a.move.history (items_of a.move) ask.node a.session x m closing (none_asks ask.node a.session (items_of a.move) k.none)

-- the node has no instance
pub loses_ask : MachineLaws → (ask : Ask) (upto : List Item) (a : AskMove) (who : Actor) → Passed ask upto a → item.Refused who (cause.NoOracle ask.node) ∈ items_of a.move → open_asks_of (history_after a.move) ask.node a.session ≡ 0
loses_ask laws ask upto a who k m = stays_over laws ask upto a k (laws.lost a.move.state a.move.history a.move.event a.move.fate who ask.node a.session k.tells m)

-- ---- what the tests of items say
pub if_either : (P : Owed → Type 0) (b : Bool) (x y : Owed) → (b ≡ true → P x) → (b ≡ false → P y) → P (if b then x else y)
if_either P true x y yes_is no_is = yes_is refl
if_either P false x y yes_is no_is = no_is refl

pub denied : (s : ℕ) (x : Item) → denies_request (Session s) x ≡ true → (who : Actor) × (x ≡ item.Refused who (cause.NoRequest s))
denied s (item.Refused who (cause.NoRequest session)) is = (who, ap (λ (q : ℕ). item.Refused who (cause.NoRequest q)) (eqb-true session s is))
denied s (item.Refused who _) is = absurd (cc)
denied s _ is = absurd (cc)

pub lost_is : (n : ℕ) (why : Cause) → is_lost n why ≡ true → why ≡ cause.NoOracle n
lost_is n (cause.NoOracle node) is = ap (λ (q : ℕ). cause.NoOracle q) (eqb-true node n is)
lost_is n _ is = absurd (cc)

pub failed_is : (n : ℕ) (who : Actor) (store : Store) → fails_record n who store ≡ true → (who ≡ Node n) × (store ≡ Master)
failed_is n who Master is = (actor_same who (Node n) is, refl)
failed_is n who _ is = absurd (cc)

-- a begin waits or was lost, or a commit is open
pub nothing_left : (why : Cause) → leaves_nothing why ≡ true → ((commit : ℕ) × (why ≡ cause.NotYet commit)) ⊎ ((start : ℕ) × (why ≡ cause.Open start)) ⊎ ((node : ℕ) × (term : ℕ) × (why ≡ cause.Crashed node term))
nothing_left (cause.NotYet commit) is = inl (commit, refl)
nothing_left (cause.Open start) is = inr (inl (start, refl))
nothing_left (cause.Crashed node term) is = inr (inr (node, term, refl))
nothing_left _ is = absurd (cc)

pub same_self : (s : ℕ) → (s == s) ≡ true
same_self s = eq-eqb s s refl

pub leaving_closes : (n s : ℕ) (why : Cause) → leaves_cells why ≡ true → closes n s (item.Refused (Session s) why) ≡ true
leaving_closes n s (cause.Expired reading until) is = rw (same_self s) refl
leaving_closes n s (cause.OldEpoch start epoch) is = rw (same_self s) refl
leaving_closes n s (cause.Conflict key by) is = rw (same_self s) refl
leaving_closes n s (cause.Hidden key water) is = rw (same_self s) refl
leaving_closes n s (cause.Replaced found) is = rw (same_self s) refl
leaving_closes n s (cause.Spent ceiling) is = rw (same_self s) refl
leaving_closes n s (cause.Invalid start) is = rw (same_self s) refl
leaving_closes n s _ is = absurd (cc)

pub opening_closes : (n s start : ℕ) → closes n s (item.Refused (Session s) (cause.Open start)) ≡ true
opening_closes n s start = rw (same_self s) refl

pub crashing_closes : (n s node term : ℕ) → closes n s (item.Refused (Session s) (cause.Crashed node term)) ≡ true
crashing_closes n s node term = rw (same_self s) refl

-- ---- the session could not drive its ask
pub was_denied : (s : ℕ) (since items : List Item) (x : Item) → x ∈ items → denies_request (Session s) x ≡ true → WasDenied s (since ++ items)
was_denied s since items x m is =
    let k = denied s x is in
    (k.0, in_back _ since items (subst (λ (y : Item). y ∈ items) k.1 m))

pub failed_at : (n : ℕ) (since items : List Item) (who : Actor) (store : Store) → item.Fault who store ∈ items → fails_record n who store ≡ true → item.Fault (Node n) Master ∈ (since ++ items)
failed_at n since items who store m is =
    let k : (who ≡ Node n) × (store ≡ Master) = failed_is n who store is in
    let at : item.Fault (Node n) Master ∈ items = subst (λ (a : Actor). item.Fault a Master ∈ items) k.0 (subst (λ (t : Store). item.Fault who t ∈ items) k.1 m) in
    in_back (item.Fault (Node n) Master) since items at

-- what an ask has ended by, once this is owed and nothing more
abbrev pub EndsBy : List Item → ℕ → Ask → List Item → Owed → Type 0
EndsBy h s ask since owed = ((owed ≡ Denied) × WasDenied s since) ⊎ (item.Fault (Node ask.node) Master ∈ since) ⊎ HasCome h s ask since
