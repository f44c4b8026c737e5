-- For command_semantics too.
-- What is due of a request is shown: by its ask, its term and its draw, and by the facts of isolation.
use Rattle.cause_laws.proofs.Names.{◌≡◌, ◌≢◌, ℕ, true, List, [], Option, None, Some, ◌⊎◌, inl, inr, refl, sym, ◌∙◌, ap}
use Rattle.cause_laws.proofs.Names.{subst, Contains, option_or, cases_Bool, Item, Verdict, Free, Conflict, Hidden}
use Rattle.cause_laws.proofs.Names.{Progress, Request, Begin, Commit, Bucket, contents, verdict, IsShown, InstanceEntry}
use Rattle.cause_laws.proofs.Names.{State, Ask, its_ask, its_term, its_draw, its_start, its_node, start_asked}
use Rattle.cause_laws.proofs.Names.{start_drawn, node_asked, written_keys, recorded, WroteOrRead, ShownConflict}
use Rattle.cause_laws.proofs.Names.{ShownHidden, ShownOldEpoch, ShownExpired, TookLast, LeasedUntil, HeldBy, InFlight}
use Rattle.cause_laws.proofs.Names.{HeldPending, Taken, ReachedInvariant, recorded_rise, ask_for, AreFetched}
use Rattle.cause_laws.proofs.Names.{ShownInvariant, Serves, DueVerdict, DueOldEpoch, DueExpired}
use Rattle.system_parts.specs.declared.instance.Progress.TheVariants as progress
use Rattle.system_parts.proofs.BucketVerdicts.{verdict_shown}
use Rattle.cause_laws.proofs.HiddenWaters.{refused_first, hidden_water}
use Rattle.cause_laws.proofs.RecordedDraws.{last_drawn, drawn_at}

-- ---- the ask of a request
asks : (w : State) (h : List Item) (s : ℕ) (i : InstanceEntry) (request : Request) (p : Progress) → ShownInvariant w h → (serves : Serves w s i request p) → its_ask h s ≡ Some (ask_for serves.node request)
asks w h s i request p shows serves = shows.asked.asked serves.node s i request p serves.at serves.holds

asked_of : (n : ℕ) (r : Request) → node_asked (Some (ask_for n r)) ≡ Some n
asked_of n (Begin session) = refl
asked_of n (Commit session start keys) = refl

pub node_of : (w : State) (h : List Item) (s : ℕ) (i : InstanceEntry) (request : Request) (p : Progress) → ShownInvariant w h → (serves : Serves w s i request p) → its_node h s ≡ Some serves.node
node_of w h s i request p shows serves = ap node_asked (asks w h s i request p shows serves) ∙ asked_of serves.node request

pub start_of : (w : State) (h : List Item) (s asker start : ℕ) (keys : List ℕ) (i : InstanceEntry) (p : Progress) → ShownInvariant w h → Serves w s i (Commit asker start keys) p → its_start h s ≡ Some start
start_of w h s asker start keys i p shows serves = ap (λ (ask : Option Ask). option_or (start_asked ask) (start_drawn (its_draw h s))) (asks w h s i (Commit asker start keys) p shows serves)

pub start_of_begin : (w : State) (h : List Item) (s asker start : ℕ) (i : InstanceEntry) → ShownInvariant w h → Serves w s i (Begin asker) (progress.Drawn start) → its_start h s ≡ Some start
start_of_begin w h s asker start i shows serves =
    let drew : its_draw h s ≡ Some (start, None) = shows.asked.drawn serves.node s i (Begin asker) (progress.Drawn start) (start, None) serves.at serves.holds refl in
    ap (λ (ask : Option Ask). option_or (start_asked ask) (start_drawn (its_draw h s))) (asks w h s i (Begin asker) (progress.Drawn start) shows serves) ∙ ap (λ (d : Option (ℕ × Option ℕ)). start_drawn d) drew

pub accepted_not_asked : progress.Accepted ≢ progress.Asked
accepted_not_asked same = cc

pub drawn_not_asked : (stamp : ℕ) → progress.Drawn stamp ≢ progress.Asked
drawn_not_asked stamp same = cc

pub term_of : (w : State) (h : List Item) (s : ℕ) (i : InstanceEntry) (request : Request) (p : Progress) → ShownInvariant w h → Serves w s i request p → p ≢ progress.Asked → its_term h s ≡ Some i.term
term_of w h s i request p shows serves past = shows.asked.accepted serves.node s i request p serves.at serves.holds past

-- ---- the verdict of the buckets
-- a commit that was accepted asks for the keys that its transaction wrote
keys_of : (w : State) (h : List Item) (s asker start : ℕ) (keys : List ℕ) (i : InstanceEntry) → ReachedInvariant w h → Serves w s i (Commit asker start keys) progress.Accepted → keys ≡ written_keys h start
keys_of w h s asker start keys i stands serves =
    let own : asker ≡ s = stands.holds.requests.requests.own serves.node s i (Commit asker start keys) progress.Accepted serves.at serves.holds in
    let held : HeldBy i s (Commit s start keys) progress.Accepted = subst (λ r. HeldBy i s (Commit r start keys) progress.Accepted) own serves.holds in
    let q : InFlight = record { session = s; start = start; keys = keys; stage = Taken i.last } in
    let pending : HeldPending w.nodes q = record { node = serves.node; instance_of = i; progress_of = progress.Accepted; at = serves.at; held = held; stage_is = refl } in
    (stands.holds.requests.pending.keys q (inl pending)).0

-- ---- the keys that a refusal is of: those that the commit writes, or with strict reads those that its client has read
record Refused (w : State) (i : InstanceEntry) (start : ℕ) (keys reads : List ℕ) (why : Verdict) : Type 0 where
  of : List ℕ
  own : (of ≡ keys) ⊎ ((w.setup.strict ≡ true) × (of ≡ reads))
  judged : verdict i.buckets start of ≡ why

-- nothing that was read is nothing that is refused
none_read : (buckets : List Bucket) (start : ℕ) (reads : List ℕ) (why : Verdict) → why ≢ Free → reads ≡ [] → verdict buckets start reads ≡ why → ⊥
unfolding verdict
none_read buckets start reads why some none is = some (sym is ∙ ap (λ (ks : List ℕ). verdict buckets start ks) none)

-- what was refused by what was read is so with strict reads
read_strictly : (w : State) (h : List Item) (s : ℕ) (why : Verdict) → why ≢ Free → ReachedInvariant w h → (due : DueVerdict w s why) → verdict due.i.buckets due.start due.client.reads ≡ why → w.setup.strict ≡ true
read_strictly w h s why some stands due read = elim (cases_Bool w.setup.strict) [
  | inl strict ↦ strict
  | inr plain ↦ absurd (none_read due.i.buckets due.start due.client.reads why some (stands.holds.reads.read_sets.plain plain s due.client due.client_at) read)
]

refused : (w : State) (h : List Item) (s : ℕ) (why : Verdict) → why ≢ Free → ReachedInvariant w h → (due : DueVerdict w s why) → Refused w due.i due.start due.keys due.client.reads why
refused w h s why some stands due = elim (refused_first (verdict due.i.buckets due.start due.keys) (verdict due.i.buckets due.start due.client.reads) why some due.judged) [
  | inl wrote ↦ record { of = due.keys; own = inl refl; judged = wrote }
  | inr read ↦ record { of = due.client.reads; own = inr (read_strictly w h s why some stands due read, refl); judged = read }
]

-- the buckets have what was drawn in the term
judged_by : (w : State) (h : List Item) (s : ℕ) (why : Verdict) → ReachedInvariant w h → (due : DueVerdict w s why) → (r : Refused w due.i due.start due.keys due.client.reads why) → verdict (contents w.setup.buckets w.setup.width (recorded h due.i.term)) due.start r.of ≡ why
judged_by w h s why stands due r = ap (λ (bs : List Bucket). verdict bs due.start r.of) (sym (stands.holds.memory.recorded.hold due.serves.node due.i due.serves.at)) ∙ r.judged

-- so what they say is shown by it
told : (w : State) (h : List Item) (s : ℕ) (why : Verdict) → ReachedInvariant w h → (due : DueVerdict w s why) → (r : Refused w due.i due.start due.keys due.client.reads why) → IsShown w.setup.buckets w.setup.width (recorded h due.i.term) due.start r.of why
told w h s why stands due r =
    let setup = stands.holds.in_range in
    subst (λ v. IsShown w.setup.buckets w.setup.width (recorded h due.i.term) due.start r.of v) (judged_by w h s why stands due r)
    (verdict_shown w.setup.buckets w.setup.width (recorded h due.i.term) due.start r.of setup.buckets.0 setup.width.0 (recorded_rise h due.i.term stands.holds.numbers.new))

-- its session asked for its commit last: what its client keeps as read was fetched since its begin
reads_of : (w : State) (h : List Item) (s : ℕ) (why : Verdict) → ShownInvariant w h → (due : DueVerdict w s why) → AreFetched h s due.start due.client
reads_of w h s why shows due = shows.reads.asked s due.serves.node due.start due.client due.client_at (asks w h s due.i (Commit due.asker due.start due.keys) progress.Accepted shows due.serves)

-- the transaction wrote the key, or with strict reads has read it
own_key : (w : State) (h : List Item) (s key : ℕ) (why : Verdict) → ReachedInvariant w h → ShownInvariant w h → (due : DueVerdict w s why) → (r : Refused w due.i due.start due.keys due.client.reads why) → Contains r.of key → WroteOrRead w.setup h s due.start key
own_key w h s key why stands shows due r has = elim r.own [
  | inl wrote ↦ inl (subst (λ ks. Contains ks key) (wrote ∙ keys_of w h s due.asker due.start due.keys due.i stands due.serves) has)
  | inr read ↦
      let are : AreFetched h s due.start due.client = reads_of w h s why shows due in
      inr (read.0, record { begun = are.begun; fetched = are.fetched key (subst (λ ks. Contains ks key) read.1 has) })
]

pub conflict_shown : (w : State) (h : List Item) (s key by : ℕ) → ReachedInvariant w h → ShownInvariant w h → DueVerdict w s (Conflict key by) → ShownConflict w.setup h s key by
conflict_shown w h s key by stands shows due =
    let r = refused w h s (Conflict key by) (λ same. cc) stands due in
    let is = told w h s (Conflict key by) stands due r in
    let from = last_drawn h due.i.term key by is.1 in
    record {
      node = due.serves.node;
      node_is = node_of w h s due.i (Commit due.asker due.start due.keys) progress.Accepted shows due.serves;
      start = due.start;
      start_is = start_of w h s due.asker due.start due.keys due.i progress.Accepted shows due.serves;
      own = own_key w h s key (Conflict key by) stands shows due r is.0;
      term = due.i.term;
      term_is = term_of w h s due.i (Commit due.asker due.start due.keys) progress.Accepted shows due.serves accepted_not_asked;
      above = is.2;
      writer = from.writer;
      drawn = (from.session, from.node, from.drawn);
      wrote = from.wrote;
    }

pub hidden_shown : (w : State) (h : List Item) (s key water : ℕ) → ReachedInvariant w h → ShownInvariant w h → DueVerdict w s (Hidden key water) → ShownHidden w.setup h s key water
hidden_shown w h s key water stands shows due =
    let r = refused w h s (Hidden key water) (λ same. cc) stands due in
    let is = told w h s (Hidden key water) stands due r in
    let from = drawn_at h due.i.term w.setup.buckets _ water is.2 in
    record {
      node = due.serves.node;
      node_is = node_of w h s due.i (Commit due.asker due.start due.keys) progress.Accepted shows due.serves;
      start = due.start;
      start_is = start_of w h s due.asker due.start due.keys due.i progress.Accepted shows due.serves;
      own = own_key w h s key (Hidden key water) stands shows due r is.0;
      term = due.i.term;
      term_is = term_of w h s due.i (Commit due.asker due.start due.keys) progress.Accepted shows due.serves accepted_not_asked;
      forgotten = is.1;
      forgot = hidden_water (contents w.setup.buckets w.setup.width (recorded h due.i.term)) due.start r.of key water (judged_by w h s (Hidden key water) stands due r);
      above = is.3;
      writer = from.writer;
      drawn = from.drawn;
      other = from.other;
      wrote = from.wrote;
      same_bucket = from.there;
    }

-- ---- acceptance
pub old_epoch_shown : (w : State) (h : List Item) (s start epoch : ℕ) → ShownInvariant w h → DueOldEpoch w s start epoch → ShownOldEpoch h s start epoch
old_epoch_shown w h s start epoch shows due = record {
  start_is = start_of w h s due.asker start due.keys due.i progress.Asked shows due.serves;
  node = due.serves.node;
  node_is = node_of w h s due.i (Commit due.asker start due.keys) progress.Asked shows due.serves;
  term = due.i.term;
  took = subst (λ e. TookLast h due.serves.node due.i.term e) due.epoch_is (shows.taken.took due.serves.node due.i due.serves.at);
  old = due.old;
}

pub expired_shown : (w : State) (h : List Item) (s reading until : ℕ) → ShownInvariant w h → DueExpired w s reading until → ShownExpired h s reading until
expired_shown w h s reading until shows due = record {
  node = due.serves.node;
  node_is = node_of w h s due.i due.request progress.Asked shows due.serves;
  leased = subst (λ u. LeasedUntil h due.serves.node u) due.until_is (shows.taken.leased due.serves.node due.i due.serves.at);
  over = due.over;
}
