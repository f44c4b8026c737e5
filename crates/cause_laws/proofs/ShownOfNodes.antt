-- What is due of a node, of a session that asks and of a sweep is shown.
use Rattle.cause_laws.proofs.Names.{◌≡◌, ℕ, zero, suc, ◌+◌, ◌<◌, if◌then◌else◌, List, [], ◌∷◌, Option, None, Some, refl}
use Rattle.cause_laws.proofs.Names.{sym, ◌∙◌, ap, subst, arith, slice_index_or, count_by, Item, Held, in_flight, State}
use Rattle.cause_laws.proofs.Names.{open_asks_of, open_asks_from, open_asks, TookLast, HasNone, TermTaken, LeaseGiven}
use Rattle.cause_laws.proofs.Names.{ShownFull, ShownGone, ShownEarly, ShownSpent, ShownHolding, ShownOvertaken}
use Rattle.cause_laws.proofs.Names.{ReachedInvariant, ShownInvariant, DueFull, DueGone, DueNone, DueEarly, DueSpent}
use Rattle.cause_laws.proofs.Names.{DueHolding, DueOvertaken}
use Rattle.std.specs.Prelude.{is_some, length}
use Rattle.std.proofs.lemmas.List.Recursion.{is_count_by}
use Rattle.cause_laws.proofs.HeldRecord.{holder_of, replaced_shown, spent_shown}

-- ---- the record
pub early_shown : (w : State) (h : List Item) (reading until : ℕ) → ShownInvariant w h → DueEarly w reading until → ShownEarly w.setup h reading until
early_shown w h reading until shows due =
    let holder = holder_of w.master.holder due.holder in
    record { given = subst (λ u. LeaseGiven h u) due.until_is (shows.master.lease holder.0 holder.1); before = due.before }

-- a range of a free record goes past no stamp
spent_by : (w : State) (h : List Item) (ceiling : ℕ) → ReachedInvariant w h → ShownInvariant w h → DueSpent w ceiling → (holder : Option ℕ) → w.master.holder ≡ holder → ShownSpent w.setup h ceiling
spent_by w h ceiling stands shows due None vacant =
    let none : w.master.ceiling ≡ 0 = shows.master.vacant vacant in
    let range = stands.holds.in_range.range.1 in
    absurd (omega (arith, due.past, due.ceiling_is, none, range))
spent_by w h ceiling stands shows due (Some n) held = spent_shown w h ceiling n shows held due.ceiling_is due.past

pub spent_record_shown : (w : State) (h : List Item) (ceiling : ℕ) → ReachedInvariant w h → ShownInvariant w h → DueSpent w ceiling → ShownSpent w.setup h ceiling
spent_record_shown w h ceiling stands shows due = spent_by w h ceiling stands shows due w.master.holder refl

pub overtaken_shown : (w : State) (h : List Item) (node found : ℕ) → ReachedInvariant w h → ShownInvariant w h → DueOvertaken w node found → ShownOvertaken h node found
overtaken_shown w h node found stands shows due =
    let shown = replaced_shown w h node due.i stands shows due.at (λ same. due.other (sym same ∙ due.found_is)) in
    record {
      term = due.i.term;
      epoch = due.i.epoch;
      took = shows.taken.took node due.i due.at;
      later = subst (λ t. due.i.term < t) due.found_is shown.0;
      taken = subst (λ t. TermTaken h t) due.found_is shown.1;
    }

-- ---- the node
pub holding_shown : (w : State) (h : List Item) (node term : ℕ) → ShownInvariant w h → DueHolding w node term → ShownHolding h node term
holding_shown w h node term shows due = record {
  epoch = due.i.epoch;
  took = subst (λ t. TookLast h node t due.i.epoch) due.term_is (shows.taken.took node due.i due.at);
  stands = shows.taken.stands node due.i due.at;
}

pub none_shown : (w : State) (h : List Item) (node : ℕ) → ShownInvariant w h → DueNone w node → HasNone h node
none_shown w h node shows due = shows.vacant.none node due

pub gone_shown : (w : State) (h : List Item) (s : ℕ) → ShownInvariant w h → DueGone w s → ShownGone h s
gone_shown w h s shows due = shows.gone.vanished s due.client due.at due.gone

-- ---- the asks that are open at a node are the requests that it holds
abbrev one_if : Option Held → ℕ
one_if held = if is_some held then 1 else 0

unfoldable all_held : List (Option Held) → ℕ
all_held [] = 0
all_held (held ∷ requests) = one_if held + all_held requests

one_more : (held : Option Held) (rest : ℕ) → one_if held + rest ≡ (if is_some held then 1 + rest else rest)
one_more None rest = omega arith
one_more (Some held) rest = omega arith

are_held : (requests : List (Option Held)) → all_held requests ≡ count_by (λ (held : Option Held). is_some held) requests
unfolding all_held
are_held requests = is_count_by all_held (λ (held : Option Held). is_some held) refl (λ held rest. one_more held (all_held rest)) requests

summed : (h : List Item) (n : ℕ) (requests : List (Option Held)) (s more : ℕ) → length requests ≡ more → ((k : ℕ) → k < length requests → open_asks_of h n (s + k) ≡ one_if (slice_index_or requests k None)) → open_asks_from h n s more ≡ all_held requests
unfolding open_asks_from all_held
summed h n [] s zero same each = refl
summed h n [] s (suc more) same each = absurd (cc)
summed h n (held ∷ requests) s zero same each = absurd (cc)
summed h n (held ∷ requests) s (suc more) same each =
    let rest : open_asks_from h n (suc s) more ≡ all_held requests = summed h n requests (suc s) more (omega (arith, same)) (λ k within. ap (open_asks_of h n) (omega arith) ∙ each (suc k) (omega (arith, within))) in
    let first : open_asks_of h n s ≡ one_if held = ap (open_asks_of h n) (omega arith) ∙ each 0 (omega arith) in
    ap (λ x. x + open_asks_from h n (suc s) more) first ∙ ap (λ x. one_if held + x) rest

pub full_shown : (w : State) (h : List Item) (count : ℕ) → ShownInvariant w h → DueFull w count → ShownFull w.setup h count
full_shown w h count shows due =
    let open_there : open_asks h due.node ≡ in_flight due.i = summed h due.node due.i.requests 0 16 (shows.open_asks.sixteen due.node due.i due.at) (λ k within. ap (open_asks_of h due.node) (omega arith) ∙ shows.open_asks.each due.node k (Some due.i) due.at) ∙ are_held due.i.requests in
    record { all = due.all ∙ shows.open_asks.slots due.node due.i due.at; node = due.node; open_there = open_there ∙ due.held }
