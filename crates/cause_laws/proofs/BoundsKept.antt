-- For cluster_core too.
-- The numbers of the state are in bounds at first, and each event keeps them so.
use Rattle.cause_laws.proofs.Names.{◌≡◌, ℕ, ◌≤◌, max, List, Option, Some, None, refl, sym, ◌∙◌, ap, subst, arith, ◌^◌}
use Rattle.cause_laws.proofs.Names.{length-replicate, SetupNumbers, Fate, Item, MasterRecord, Event, State, opening}
use Rattle.cause_laws.proofs.Names.{IsSteadyAt, stepped, reading_of, seen_after, rules_of, seen_up, leaves_parts}
use Rattle.cause_laws.proofs.Names.{posts_stay, IsolationInvariant, ReachedInvariant, Outcome, OfGranted, OfRenewed}
use Rattle.cause_laws.proofs.Names.{OfExtended, left_by, each_outcome, ExplainedInvariant, IsBounded, Bounded}
use Rattle.cause_laws.proofs.RecordBounds.{bounded_taken, bounded_renewed, bounded_extended, has_room}

-- ---- the opening
pub bounded_first : (setup : SetupNumbers) → Bounded (opening setup)
bounded_first setup = record {
  numbers = record { reading = omega arith; lease = omega arith; term = omega arith; ceiling = omega arith; free = λ none. refl };
  posts = length-replicate setup.nodes None;
}

-- ---- the greatest reading after a steady one
max_far : (a b far : ℕ) → a ≤ far → b ≤ far → max a b ≤ far
max_far a b far first second = omega (arith, first, second)

seen_more : (seen : ℕ) (reading : Option ℕ) → seen ≤ seen_after seen reading
seen_more seen None = omega arith
seen_more seen (Some reading) = omega arith

seen_far : (skew seen : ℕ) (reading : Option ℕ) → IsSteadyAt skew seen reading → seen ≤ 2 ^ 61 → seen_after seen reading ≤ 2 ^ 61
seen_far skew seen None steady far = far
seen_far skew seen (Some reading) steady far = max_far seen reading (2 ^ 61) far steady.0

-- the same record, at a later reading
raised : (setup : SetupNumbers) (seen later : ℕ) (master : MasterRecord) → seen ≤ later → later ≤ 2 ^ 61 → IsBounded setup seen master → IsBounded setup later master
raised setup seen later master up far bounded = record {
  reading = far;
  lease = omega (arith, bounded.lease, up);
  term = bounded.term;
  ceiling = bounded.ceiling;
  free = bounded.free;
}

-- ---- one event: a take, a renewal and an extension change the record, and nothing else does
outcome_bounded : (w : State) (h : List Item) (o : Outcome w) → IsolationInvariant w h → IsBounded w.setup w.seen w.master → w.seen ≤ (left_by w o).seen → (left_by w o).seen ≤ 2 ^ 61 → IsBounded w.setup (left_by w o).seen (left_by w o).master
outcome_bounded w h (OfGranted k) holds bounded up far = bounded_taken w k.node k.reading holds.in_range k.free (raised w.setup w.seen (max w.seen k.reading) w.master up far bounded)
outcome_bounded w h (OfRenewed k) holds bounded up far = bounded_renewed w k.reading (holds.numbers.leases.holder k.node k.i k.at) (raised w.setup w.seen (max w.seen k.reading) w.master up far bounded)
outcome_bounded w h (OfExtended k) holds bounded up far = bounded_extended w (holds.numbers.leases.holder k.node k.i k.at) (has_room (rules_of w.setup) w.master k.room) bounded
outcome_bounded w h o holds bounded up far = raised w.setup w.seen (left_by w o).seen w.master up far bounded

record_bounded : (w : State) (h : List Item) (e : Event) (fate : Fate) → ReachedInvariant w h → IsBounded w.setup w.seen w.master → IsSteadyAt w.setup.skew w.seen (reading_of e) → let left : State = (stepped w e fate).state in IsBounded w.setup left.seen left.master
record_bounded w h e fate both bounded steady =
    each_outcome (λ v items. w.seen ≤ v.seen → v.seen ≤ 2 ^ 61 → IsBounded w.setup v.seen v.master) w h e fate both (λ o. outcome_bounded w h o both.holds bounded)
    (subst (λ (seen : ℕ). w.seen ≤ seen) (sym (seen_up w e fate)) (seen_more w.seen (reading_of e)))
    (subst (λ (seen : ℕ). seen ≤ 2 ^ 61) (sym (seen_up w e fate)) (seen_far w.setup.skew w.seen (reading_of e) steady bounded.reading))

pub bounds_stay : (w : State) (h : List Item) (e : Event) (fate : Fate) → ExplainedInvariant w h → Bounded w → IsSteadyAt w.setup.skew w.seen (reading_of e) → Bounded (stepped w e fate).state
bounds_stay w h e fate tells bounded steady =
    let left : State = (stepped w e fate).state in
    let setup : left.setup ≡ w.setup = (leaves_parts w e fate).setup in
    record {
      numbers = subst (λ (s : SetupNumbers). IsBounded s left.seen left.master) (sym setup) (record_bounded w h e fate tells.stands bounded.numbers steady);
      posts = posts_stay w e fate ∙ (bounded.posts ∙ ap (λ (s : SetupNumbers). s.nodes) (sym setup));
    }
