-- A commit in flight is lost where its instance crashes, and where its put fails without effect.
use Rattle.isolation_laws.proofs.Requests.ClientMoves.{at_work_after}
use Rattle.isolation_laws.proofs.Names.{OfCrashed, ◌≡◌, ℕ, false, List, [], ◌∷◌, ◌++◌, Option, Some, inl, inr, refl}
use Rattle.isolation_laws.proofs.Names.{sym, ◌∙◌, ap, subst, All-cons, Fate, FailsUnchanged, Node, Item, in_front}
use Rattle.isolation_laws.proofs.Names.{Progress, Request, Commit, InstanceEntry, held_of, State, at_post, stepped}
use Rattle.isolation_laws.proofs.Names.{all_crashed_items, crash_on, HeldBy, Has, InFlight, HeldPending, Pending}
use Rattle.isolation_laws.proofs.Names.{IsPending, IsOpen, Live, Quiet, IsolationInvariant, ReachedInvariant, IsLost}
use Rattle.isolation_laws.proofs.Names.{instance_ended, one_quiet, Crashed, crashed_state, AtDrawn, NotPlaced}
use Rattle.isolation_laws.proofs.Names.{not_placed_state}
use Rattle.stamp_base.specs.declared.stores.Store.TheVariants.{Table}
use Rattle.history_book.specs.declared.item.Item.TheVariants as item
use Rattle.system_parts.specs.declared.instance.Progress.TheVariants as progress
use Rattle.system_parts.specs.declared.instance.Settled.TheVariants as how
use Rattle.machine.specs.declared.event.Event.TheVariants as event
use Rattle.machine.specs.Events.Put.{to_place_by, to_place, put_commit, put_on}
use Rattle.isolation_laws.proofs.Pushed.{old_placed}
use Rattle.isolation_laws.proofs.Owners.{open_not_pending, pending_unplaced, has_held}
use Rattle.isolation_laws.proofs.Numbers.NumbersKept.{open_begun}
use Rattle.isolation_laws.proofs.Requests.PendingFewer.{StaysPut, pending_settled}
use Rattle.isolation_laws.proofs.Requests.PendingAfter.{pending_in, pending_at}
use Rattle.isolation_laws.proofs.Requests.OtherCommits.{other_commit}
use Rattle.isolation_laws.proofs.Requests.ClientsOpen.{placing_was}
use Rattle.isolation_laws.proofs.Requests.OpenAfter.{fewer_is_open}
use Rattle.machine.proofs.Inversions.InversionOfAsks.{for_clients, all_crashed_quiet}
use Rattle.machine.proofs.Inversions.InversionOfAnswers.{for_table, put_settled, not_invalid}

-- ---- one transaction has one commit in flight, and is not open
in_flight : (w : State) (q : InFlight) → HeldPending w.nodes q → IsPending w.clients w.nodes q.start
in_flight w q p = record { coming = q; pending = inl p; start_is = refl }

not_open : (w : State) (h : List Item) (q : InFlight) → IsolationInvariant w h → HeldPending w.nodes q → IsOpen w.clients q.start → ⊥
not_open w h q holds p o =
    open_not_pending w.nodes w.clients h o.session q.start o.epoch holds.isolated.stamped holds.requests.requests holds.requests.pending
    (open_begun w.clients h o.session q.start o.open_at.client holds.requests.have_begun o.open_at.at o.open_at.state_is o.open_at.start_is) o.open_at (in_flight w q p)

not_elsewhere : (w : State) (h : List Item) (q r : InFlight) (n : ℕ) → IsolationInvariant w h → (p : HeldPending w.nodes q) → p.node ≡ n → StaysPut w.clients w.nodes n q.session r → r.start ≡ q.start → ⊥
not_elsewhere w h q r n holds p node stays same =
    other_commit w.clients w.nodes h r q holds.isolated.stamped holds.requests.requests holds.requests.pending p (subst (λ m. StaysPut w.clients w.nodes m q.session r) (sym node) stays) same

-- ---- crashes
-- what is pending after a crash was not held there
crashed_elsewhere : (w : State) (k : Crashed w) (s : ℕ) (q : InFlight) → Pending (crashed_state w k).clients (crashed_state w k).nodes q → StaysPut w.clients w.nodes k.node s q
crashed_elsewhere w k s q (inl p) = let old = instance_ended w.nodes k.node p.node p.instance_of p.at in inl (pending_at w.nodes q p.node p.instance_of old.1 (pending_in (crashed_state w k).nodes q p), λ same. old.0 same.0)
crashed_elsewhere w k s q (inr p) = inr (placing_was w.clients (crashed_state w k).clients q (at_work_after w (OfCrashed k) refl).placing p)

crashed_dead : (w : State) (h : List Item) (k : Crashed w) (q : InFlight) → IsolationInvariant w h → (p : HeldPending w.nodes q) → p.node ≡ k.node → Live (crashed_state w k).clients (crashed_state w k).nodes q.start → ⊥
crashed_dead w h k q holds p node (inl o) = not_open w h q holds p (fewer_is_open w.clients (crashed_state w k).clients q.start (at_work_after w (OfCrashed k) refl).opened o)
crashed_dead w h k q holds p node (inr o) = not_elsewhere w h q o.coming k.node holds p node (crashed_elsewhere w k q.session o.coming o.pending) o.start_is

crashed_lost : (w : State) (h : List Item) (k : Crashed w) (q : InFlight) → IsolationInvariant w h → (p : HeldPending w.nodes q) → p.node ≡ k.node → IsLost (crashed_state w k) (h ++ k.items) q.start
crashed_lost w h k q holds p node = record {
  session = q.session;
  begun = in_front (item.Begin q.session q.start) h k.items (holds.requests.pending.begun q (inl p));
  dead = λ live. crashed_dead w h k q holds p node live;
  unplaced = λ c m. pending_unplaced w.clients w.nodes h q.start c holds.numbers.placed holds.requests.pending (in_flight w q p) (old_placed h k.items q.start c k.quiet m);
}

the_crash : (w : State) (q : InFlight) (p : HeldPending w.nodes q) → Crashed w
the_crash w q p = record {
  node = p.node;
  i = p.instance_of;
  at = p.at;
  items = item.Crash p.node p.instance_of.term ∷ all_crashed_items p.node p.instance_of.term p.instance_of.requests w.clients;
  tells = refl;
  quiet = All-cons Quiet (item.Crash p.node p.instance_of.term) (all_crashed_items p.node p.instance_of.term p.instance_of.requests w.clients) refl (all_crashed_quiet p.node p.instance_of.term p.instance_of.requests w.clients);
}

pub crashes_lose : (w : State) (h : List Item) (q : InFlight) (fate : Fate) → ReachedInvariant w h → (p : HeldPending w.nodes q) → IsLost (stepped w (event.Crash p.node) fate).state (h ++ (stepped w (event.Crash p.node) fate).items) q.start
unfolding the_crash
crashes_lose w h q fate both p =
    subst (λ (post : Option (Option InstanceEntry)). IsLost (at_post w post (λ x. for_clients w p.node (crash_on p.node x w.clients))).state (h ++ (at_post w post (λ x. for_clients w p.node (crash_on p.node x w.clients))).items) q.start)
    (sym p.at) (crashed_lost w h (the_crash w q p) q both.holds p refl)

-- ---- faulted puts
unplaced_dead : (w : State) (h : List Item) (k : NotPlaced w) (q : InFlight) → IsolationInvariant w h → (p : HeldPending w.nodes q) → p.node ≡ k.it.node → q.session ≡ k.it.session → Live w.clients (not_placed_state w k).nodes q.start → ⊥
unplaced_dead w h k q holds p node session (inl o) = not_open w h q holds p o
unplaced_dead w h k q holds p node session (inr o) =
    not_elsewhere w h q o.coming k.it.node holds p node (subst (λ s. StaysPut w.clients w.nodes k.it.node s o.coming) (sym session) (pending_settled w k.it k.by o.coming o.pending)) o.start_is

unplaced_lost : (w : State) (h : List Item) (k : NotPlaced w) (q : InFlight) → IsolationInvariant w h → (p : HeldPending w.nodes q) → p.node ≡ k.it.node → q.session ≡ k.it.session → IsLost (not_placed_state w k) (h ++ k.items) q.start
unplaced_lost w h k q holds p node session = record {
  session = q.session;
  begun = in_front (item.Begin q.session q.start) h k.items (holds.requests.pending.begun q (inl p));
  dead = λ live. unplaced_dead w h k q holds p node session live;
  unplaced = λ c m. pending_unplaced w.clients w.nodes h q.start c holds.numbers.placed holds.requests.pending (in_flight w q p) (old_placed h k.items q.start c k.quiet m);
}

drawn_one : (w : State) (q : InFlight) (p : HeldPending w.nodes q) (c : ℕ) → HeldBy p.instance_of q.session (Commit q.session q.start q.keys) (progress.Drawn c) → AtDrawn w
drawn_one w q p c held = record {
  node = p.node;
  session = q.session;
  asker = q.session;
  start = q.start;
  commit = c;
  keys = q.keys;
  i = p.instance_of;
  held = held.held;
  at = p.at;
  has = held.has;
  request_is = held.asks;
  drawn = held.stands;
}

faulted : (w : State) (it : AtDrawn w) → NotPlaced w
faulted w it = record { it = it; by = how.Faulted; by_is = inr refl; found = λ by. absurd (not_invalid by); tells = refl; items = item.Fault (Node it.node) Table ∷ []; quiet = one_quiet (item.Fault (Node it.node) Table) refl }

to_place_of : (q : InFlight) (c : ℕ) (i : InstanceEntry) → HeldBy i q.session (Commit q.session q.start q.keys) (progress.Drawn c) → to_place (held_of i q.session) ≡ Some (q.start, c)
to_place_of q c i held = ap to_place held.has ∙ (ap (λ (r : Request). to_place_by r held.held.progress) held.asks ∙ ap (λ (x : Progress). to_place_by (Commit q.session q.start q.keys) x) held.stands)

put_lost : (w : State) (h : List Item) (q : InFlight) (p : HeldPending w.nodes q) (c : ℕ) → IsolationInvariant w h → HeldBy p.instance_of q.session (Commit q.session q.start q.keys) (progress.Drawn c) → IsLost (for_table w p.node (put_commit p.node q.session FailsUnchanged p.instance_of w.pairs (Some (q.start, c)))).state (h ++ (for_table w p.node (put_commit p.node q.session FailsUnchanged p.instance_of w.pairs (Some (q.start, c)))).items) q.start
unfolding drawn_one faulted
put_lost w h q p c holds held =
    let it : AtDrawn w = drawn_one w q p c held in
    subst (λ (v : State). IsLost v (h ++ item.Fault (Node p.node) Table ∷ []) q.start) (sym (put_settled w it how.Faulted w.pairs)) (unplaced_lost w h (faulted w it) q holds p refl refl)

pub faulted_puts_lose : (w : State) (h : List Item) (q : InFlight) (c : ℕ) → ReachedInvariant w h → w.setup.direct ≡ false → (p : HeldPending w.nodes q) → q.stage ≡ Has c → IsLost (stepped w (event.Put p.node q.session) FailsUnchanged).state (h ++ (stepped w (event.Put p.node q.session) FailsUnchanged).items) q.start
faulted_puts_lose w h q c both plain p stage =
    let held : HeldBy p.instance_of q.session (Commit q.session q.start q.keys) (progress.Drawn c) = has_held w.setup w.nodes w.clients q c p both.holds.requests.form plain stage in
    subst (λ (post : Option (Option InstanceEntry)). IsLost (at_post w post (λ x. for_table w p.node (put_on p.node q.session FailsUnchanged x w.pairs))).state (h ++ (at_post w post (λ x. for_table w p.node (put_on p.node q.session FailsUnchanged x w.pairs))).items) q.start)
    (sym p.at)
    (subst (λ (stamps : Option (ℕ × ℕ)). IsLost (for_table w p.node (put_commit p.node q.session FailsUnchanged p.instance_of w.pairs stamps)).state (h ++ (for_table w p.node (put_commit p.node q.session FailsUnchanged p.instance_of w.pairs stamps)).items) q.start)
    (sym (to_place_of q c p.instance_of held)) (put_lost w h q p c both.holds held))
