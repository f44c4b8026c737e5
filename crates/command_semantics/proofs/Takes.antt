-- For turn_rules and log_refinement too.
-- The nodes whose takes a history tells are those of the system, whatever events are made.
use Rattle.command_semantics.proofs.Names.{◌≡◌, ℕ, zero, suc, ◌<◌, Bool, true, false, ◌||◌, List, [], ◌∷◌, ◌++◌}
use Rattle.command_semantics.proofs.Names.{Option, None, Some, ◌⊎◌, inl, inr, refl, ◌∙◌, ap, subst, arith, length}
use Rattle.command_semantics.proofs.Names.{fold, slice_get, IfSome, unwrap_or, option_or, eqb_tells, none-some}
use Rattle.command_semantics.proofs.Names.{SetupNumbers, AreInRange, Fate, Actor, Item, told_then, last_told, of_post}
use Rattle.command_semantics.proofs.Names.{of_both, leaves_parts, Event, State, Step, with_reading, stepped}
use Rattle.command_semantics.proofs.Names.{ReachedInvariant, opener, IsRenew, IsCrash, IsVanish, IsAskBegin}
use Rattle.command_semantics.proofs.Names.{IsAskCommit, IsWrite, IsFetch, IsRefusal, IsReadOnly, taken_by, is_node}
use Rattle.command_semantics.proofs.Names.{takes, has_take, HasTake, last_master}
use Rattle.std.proofs.lemmas.List.Folds.{list_any-append}
use Rattle.machine.proofs.LookedUp.{of_client}
use Rattle.machine.specs.declared.event.Event.TheVariants as event
use Rattle.command_semantics.proofs.AlwaysFit.{Fit}
use Rattle.command_semantics.proofs.Fitting.{fit_at}
use Rattle.command_semantics.proofs.OpeningItems.{Begins, TakeAnswer, RenewAnswer, BeginAnswer, take_begins, renew_begins, crash_begins, ask_begin_begins, vanish_begins}
use Rattle.command_semantics.proofs.Plain.{AllPlain}
use Rattle.command_semantics.proofs.PlainEvents.{events_plain}
use Rattle.command_semantics.proofs.WorkItems.{CommitAnswer, WriteAnswer, FetchAnswer, starts, ask_commit_begins, write_begins, fetch_begins}

-- ---- the last take
later : (b : Bool) → (b || true) ≡ true
later b = grind arith

then_by : (P : ℕ → Type 0) (by last : Option ℕ) → IfSome last P → ((n : ℕ) → is_node n by ≡ true → P n) → IfSome (option_or by last) P
then_by P by last was each = grind (arith, eqb_tells)

-- what holds of each node that has taken the record, and of the last before, holds of the last
last_by : (P : ℕ → Type 0) (h : List Item) (last : Option ℕ) → IfSome last P → ((n : ℕ) → HasTake h n → P n) → IfSome (fold (told_then taken_by) last h) P
last_by P [] last was each = was
last_by P (x ∷ xs) last was each = last_by P xs (told_then taken_by last x) (then_by P (taken_by x) last was (λ n is. each n (ap (λ (b : Bool). b || has_take xs n) is))) (λ n is. each n (ap (λ (b : Bool). takes n x || b) is ∙ later (takes n x)))

of_last : (P : ℕ → Type 0) (last : Option ℕ) → IfSome last P → P 0 → P (unwrap_or last 0)
of_last P last some none = grind arith

-- the last is the first node, or has taken the record
pub last_has_taken : (h : List Item) → (last_master h ≡ 0) ⊎ HasTake h (last_master h)
last_has_taken h = of_last (λ n. (n ≡ 0) ⊎ HasTake h n) (last_told taken_by h) (last_by (λ n. (n ≡ 0) ⊎ HasTake h n) h None tt (λ n has. inr has)) (inl refl)

-- ---- which nodes have taken the record
-- there is a node, and each that has taken the record is of the system
pub record TakesFit (nodes : ℕ) (h : List Item) : Type 0 where
  pub some : 0 < nodes
  pub there : (n : ℕ) → HasTake h n → n < nodes

pub some_fits : (nodes : ℕ) (h : List Item) (n : ℕ) → TakesFit nodes h → (n ≡ 0) ⊎ HasTake h n → n < nodes
some_fits nodes h n fit h1 = grind arith

pub last_fits : (nodes : ℕ) (h : List Item) → TakesFit nodes h → last_master h < nodes
last_fits nodes h fit = some_fits nodes h (last_master h) fit (last_has_taken h)

-- ---- items that tell no take
plain_item : (x : Item) → opener x ≡ None → taken_by x ≡ None
plain_item x plain = grind (arith, none-some)

none_takes : (n : ℕ) (x : Item) → taken_by x ≡ None → takes n x ≡ false
none_takes n x none = ap (λ (by : Option ℕ). is_node n by) none

plain_none : (n : ℕ) (items : List Item) → AllPlain items → has_take items n ≡ false
unfolding AllPlain
plain_none n [] plain = refl
plain_none n (x ∷ xs) plain = ap (λ (b : Bool). b || has_take xs n) (none_takes n x (plain_item x plain.0)) ∙ plain_none n xs plain.1

-- ---- an event that opens a line tells the take of its own node alone
-- each node that the items tell to have taken the record is one of these
abbrev TakesOf : (ℕ → Type 0) → List Item → Type 0
TakesOf P items = (n : ℕ) → HasTake items n → P n

begins_in : (P : ℕ → Type 0) (A : Item → Type 0) (items : List Item) → ((n : ℕ) (x : Item) → A x → takes n x ≡ true → P n) → Begins A items → TakesOf P items
begins_in P A items each k n some = grind (arith, plain_none)

no_take : (P : ℕ → Type 0) (A : Item → Type 0) (items : List Item) → ((x : Item) → A x → taken_by x ≡ None) → Begins A items → TakesOf P items
no_take P A items none k = grind (arith, plain_none)

plain_takes : (P : ℕ → Type 0) (items : List Item) → AllPlain items → TakesOf P items
plain_takes P items plain n some = grind (arith, plain_none)

either_none : (A B : Item → Type 0) → ((x : Item) → A x → taken_by x ≡ None) → ((x : Item) → B x → taken_by x ≡ None) → (x : Item) → A x ⊎ B x → taken_by x ≡ None
either_none A B first second x h = grind arith

refusal_none : (actor : Actor) (x : Item) → IsRefusal actor x → taken_by x ≡ None
refusal_none actor x is = grind arith

renew_none : (n : ℕ) (x : Item) → IsRenew n x → taken_by x ≡ None
renew_none n x is = grind arith

crash_none : (n : ℕ) (x : Item) → IsCrash n x → taken_by x ≡ None
crash_none n x is = grind arith

vanish_none : (s : ℕ) (x : Item) → IsVanish s x → taken_by x ≡ None
vanish_none s x is = grind arith

begin_none : (s n : ℕ) (x : Item) → IsAskBegin s (λ asked. asked ≡ n) x → taken_by x ≡ None
begin_none s n x is = grind arith

commit_none : (s n : ℕ) (x : Item) → IsAskCommit s (λ asked. asked ≡ n) x → taken_by x ≡ None
commit_none s n x is = grind arith

write_none : (s key : ℕ) (value : List ℕ) (x : Item) → IsWrite s key value x → taken_by x ≡ None
write_none s key value x is = grind arith

fetch_none : (s key : ℕ) (x : Item) → IsFetch s key x → taken_by x ≡ None
fetch_none s key x is = grind arith

end_none : (s : ℕ) (x : Item) → IsReadOnly s x → taken_by x ≡ None
end_none s x is = grind arith

-- the take of a node
takes_own : (P : ℕ → Type 0) (m : ℕ) → P m → (n : ℕ) (x : Item) → TakeAnswer m x → takes n x ≡ true → P n
takes_own P m here n x h takes_it = grind (arith, eqb_tells)

-- ---- looking up the parts
within : {X : Type 0} (xs : List X) (p : ℕ) (x : X) → slice_get xs p ≡ Some x → p < length xs
within [] p x is = absurd (none-some x is)
within (y ∷ ys) zero x is = omega arith
within (y ∷ ys) (suc p) x is = omega (arith, within ys p x is)

none_of : (P : ℕ → Type 0) → TakesOf P []
none_of P n some = let clash : false ≡ true = some in absurd (cc)

abbrev StepTakes : (ℕ → Type 0) → Step → Type 0
StepTakes P step = TakesOf P step.items

-- ---- any event
-- a node of the system
abbrev InSystem : State → ℕ → Type 0
InSystem w n = n < w.setup.nodes

events_take : (w : State) (h : List Item) (e : Event) (fate : Fate) → ReachedInvariant w h → Fit w → TakesOf (InSystem w) (stepped w e fate).items
events_take w h (event.Tick to) fate stands fit = none_of (InSystem w)
events_take w h (event.Note actor said) fate stands fit = none_of (InSystem w)
events_take w h (event.Take node reading) fate stands fit = of_post (StepTakes (InSystem w)) (with_reading w reading) _ (slice_get w.nodes node) (none_of (InSystem w)) (λ post at. begins_in (InSystem w) (TakeAnswer node) _ (takes_own (InSystem w) node (subst (λ (k : ℕ). node < k) fit.nodes (within w.nodes node post at))) (take_begins w node reading fate post))
events_take w h (event.Renew node reading) fate stands fit = of_post (StepTakes (InSystem w)) (with_reading w reading) _ (slice_get w.nodes node) (none_of (InSystem w)) (λ post at. no_take (InSystem w) (RenewAnswer node) _ (either_none _ _ (renew_none node) (refusal_none _)) (renew_begins w node reading fate post))
events_take w h (event.Crash node) fate stands fit = of_post (StepTakes (InSystem w)) w _ (slice_get w.nodes node) (none_of (InSystem w)) (λ post at. no_take (InSystem w) _ _ (either_none _ _ (crash_none node) (refusal_none _)) (crash_begins w node post))
events_take w h (event.AskBegin s node) fate stands fit = of_both (StepTakes (InSystem w)) w _ (slice_get w.nodes node) (slice_get w.clients s) (none_of (InSystem w)) (λ post c there at. no_take (InSystem w) (BeginAnswer s node) _ (either_none _ _ (begin_none s node) (refusal_none _)) (ask_begin_begins s node c post))
events_take w h (event.AskCommit s node) fate stands fit = of_both (StepTakes (InSystem w)) w _ (slice_get w.nodes node) (slice_get w.clients s) (none_of (InSystem w)) (λ post c there at. no_take (InSystem w) (CommitAnswer s node) _ (either_none _ _ (commit_none s node) (either_none _ _ (refusal_none _) (end_none s))) (ask_commit_begins s node c post (starts w h s c stands at)))
events_take w h (event.Write s key value) fate stands fit = of_client (StepTakes (InSystem w)) w _ (slice_get w.clients s) (none_of (InSystem w)) (λ c at. no_take (InSystem w) (WriteAnswer s key value) _ (either_none _ _ (write_none s key value) (refusal_none _)) (write_begins s key value fate c w.rows (starts w h s c stands at)))
events_take w h (event.Fetch s key) fate stands fit = of_client (StepTakes (InSystem w)) w _ (slice_get w.clients s) (none_of (InSystem w)) (λ c at. no_take (InSystem w) (FetchAnswer s key) _ (either_none _ _ (fetch_none s key) (refusal_none _)) (fetch_begins w.setup s key fate c w.rows (starts w h s c stands at) (fit_at w.clients s c fit.epochs at)))
events_take w h (event.Vanish s) fate stands fit = of_client (StepTakes (InSystem w)) w _ (slice_get w.clients s) (none_of (InSystem w)) (λ c at. no_take (InSystem w) _ _ (either_none _ _ (vanish_none s) (refusal_none _)) (vanish_begins s c))
events_take w h e fate stands fit = plain_takes (InSystem w) _ (events_plain w e fate tt)

takes_of_both : (P : ℕ → Type 0) (h items : List Item) → TakesOf P h → TakesOf P items → TakesOf P (h ++ items)
takes_of_both P h items before since n some = grind (arith, list_any-append)

pub takes_stay : (w : State) (h : List Item) (e : Event) (fate : Fate) → ReachedInvariant w h → Fit w → TakesFit w.setup.nodes h → TakesFit (stepped w e fate).state.setup.nodes (h ++ (stepped w e fate).items)
takes_stay w h e fate stands fit takes_fit =
    grind (arith, leaves_parts, list_any-append, of_post, within, take_begins, renew_begins, crash_begins, of_both, ask_begin_begins, ask_commit_begins, starts, write_begins, fetch_begins, fit_at, vanish_begins, events_plain, plain_none, eqb_tells, takes_of_both, events_take)

-- before the first event
pub takes_at_first : (setup : SetupNumbers) → AreInRange setup → TakesFit setup.nodes []
takes_at_first setup in_range = grind arith
