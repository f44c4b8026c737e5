-- Read sets where a session reads: a fetch keeps its key, or the transaction wrote it, and so the answer is kept.
use Rattle.isolation_laws.proofs.Names.{◌≡◌, ◌≢◌, ℕ, Bool, true, false, ◌==◌, ◌||◌, is_some, List, [], ◌∷◌, ◌++◌, Some}
use Rattle.isolation_laws.proofs.Names.{◌⊎◌, inl, inr, refl, sym, ◌∙◌, ap, subst, Contains, slice_set, cases_Bool}
use Rattle.isolation_laws.proofs.Names.{same_Some, none-some, Wrote, last_write, Stamped, Item, Cell, Dead, Answer}
use Rattle.isolation_laws.proofs.Names.{Told, SettleTurn, Goes, Decides, settle_turn, Table, Reading, ReadTurn, Asks}
use Rattle.isolation_laws.proofs.Names.{Answers, found_none, found_cell, found_by, settling_of, after_passed, turn_at}
use Rattle.isolation_laws.proofs.Names.{read_over, read_by, Cache, outcome_known, recalled_over, recalled_told}
use Rattle.isolation_laws.proofs.Names.{AnyCache, Recalls, over_holds, told_holds, Progress, Commit, InstanceEntry}
use Rattle.isolation_laws.proofs.Names.{SetupNumbers, Reads, Client, State, client_read, read_items, InstanceAt, HeldBy}
use Rattle.isolation_laws.proofs.Names.{ClientAt, OpenAt, Begun, Stage, Waits, Taken, Has, stage_of, Quiet, ReadFirst}
use Rattle.isolation_laws.proofs.Names.{KeepsReads, KeepsKey, AreReadSets, IsolationInvariant, client_set, one_client}
use Rattle.std.specs.Prelude.{nat_lt}
use Rattle.system_parts.specs.declared.resolve.Outcome.TheVariants.{Committed}
use Rattle.system_parts.specs.declared.session.State.TheVariants as phase
use Rattle.system_parts.specs.declared.instance.Progress.TheVariants as progress
use Rattle.isolation_laws.proofs.OnceEach.{begun_once}
use Rattle.isolation_laws.proofs.Numbers.NumbersKept.{open_begun}
use Rattle.isolation_laws.proofs.Requests.ClientsOpen.{read_keeps_entry}
use Rattle.isolation_laws.proofs.Requests.RequestsAfter.{none_held, open_waits}
use Rattle.isolation_laws.proofs.Reading.ClientsReading.{nothing_reads}
use Rattle.isolation_laws.proofs.Reading.FirstReads.{first_turn, wrote_on}
use Rattle.isolation_laws.proofs.Reading.KeptReads.{read_keeps}
use Rattle.isolation_laws.proofs.Reading.ReadsLonger.{reads_same}
use Rattle.isolation_laws.proofs.Reading.ReadSetsStay.{key_kept}

-- ---- a commit that was asked for, however far it has come, is of its session's transaction
pending_as : (w : State) (h : List Item) (n s t : ℕ) (keys : List ℕ) (p : Progress) (i : InstanceEntry) (stage : Stage) → IsolationInvariant w h → InstanceAt w.nodes n i → HeldBy i s (Commit s t keys) p → stage_of i.last p ≡ Some stage → Begun h s t
pending_as w h n s t keys p i stage holds at held is =
    holds.requests.pending.begun (record { session = s; start = t; keys = keys; stage = stage })
    (inl (record { node = n; instance_of = i; progress_of = p; at = at; held = held; stage_is = is }))

commit_begun : (w : State) (h : List Item) (n s t : ℕ) (keys : List ℕ) (p : Progress) (i : InstanceEntry) → IsolationInvariant w h → InstanceAt w.nodes n i → HeldBy i s (Commit s t keys) p → Begun h s t
commit_begun w h n s t keys progress.Asked i holds at held = pending_as w h n s t keys progress.Asked i Waits holds at held refl
commit_begun w h n s t keys progress.Accepted i holds at held = pending_as w h n s t keys progress.Accepted i (Taken i.last) holds at held refl
commit_begun w h n s t keys (progress.Drawn c) i holds at held = pending_as w h n s t keys (progress.Drawn c) i (Has c) holds at held refl
commit_begun w h n s t keys (progress.Handed c) i holds at held = pending_as w h n s t keys (progress.Handed c) i (Has c) holds at held refl
commit_begun w h n s t keys (progress.Settled c by) i holds at held = holds.requests.settled.begun n s t c keys by i at held

-- ---- a turn that goes on is of the same key and start
abbrev pub IsTurnOf : ℕ → ℕ → ReadTurn → Type 0
IsTurnOf b j turn = (r : Reading) → turn ≡ Asks r → (r.start ≡ b) × (r.key ≡ j)

answers_of : (b j : ℕ) (a : Answer) → IsTurnOf b j (Answers a)
answers_of b j a r is = absurd (cc)

asks_same : (x y : Reading) → Asks x ≡ Asks y → x ≡ y
asks_same x y same = cc

asks_of : (b j : ℕ) (x : Reading) → x.start ≡ b → x.key ≡ j → IsTurnOf b j (Asks x)
asks_of b j x start key r is =
    let same : x ≡ r = asks_same x r is in
    (ap (λ (y : Reading). y.start) (sym same) ∙ start, ap (λ (y : Reading). y.key) (sym same) ∙ key)

over_of : (every : Bool) (j b e : ℕ) (cells : List Cell) → IsTurnOf b j (turn_at every j b e cells)
over_of every j b e [] = answers_of b j found_none
over_of every j b e (c ∷ cs) = elim (cases_Bool ((c.version == b) || is_some c.shadow)) [
  | inl answers ↦ rw answers (answers_of b j (found_cell c))
  | inr asks ↦ rw asks (asks_of b j (record { key = j; start = b; epoch = e; every = every; cell = c; older = cs; point = Table }) refl refl)
]

fetched_of : (every : Bool) (j b e : ℕ) (cells : List Cell) → IsTurnOf b j (read_over every j b e cells)
fetched_of every j b e cells = over_of every j b e (after_passed b cells)

told_of : (r : Reading) (turn : SettleTurn) → IsTurnOf r.start r.key (read_by r turn)
told_of r (Goes p) = asks_of r.start r.key (record r { point = p }) refl refl
told_of r (Decides Dead) = fetched_of r.every r.key r.start r.epoch r.older
told_of r (Decides (Committed c by_table)) = elim (cases_Bool (nat_lt c r.start)) [
  | inl below ↦ rw below (answers_of r.start r.key (found_by r.key r.cell c by_table))
  | inr late ↦ rw late (fetched_of r.every r.key r.start r.epoch r.older)
]

recalls_of : (b j : ℕ) → Recalls (IsTurnOf b j) AnyCache
recalls_of b j = record {
  stays = λ cache txn any. tt;
  goes = λ cache r k any is of.
      let turn : ReadTurn = read_by r (Decides (outcome_known k)) in
      let parts = of r refl in
      subst (λ q. IsTurnOf b q turn) parts.1 (subst (λ q. IsTurnOf q r.key turn) parts.0 (told_of r (Decides (outcome_known k))));
}

pub fetched_recall_of : (every : Bool) (j b e : ℕ) (cells : List Cell) (cache : Cache) → IsTurnOf b j (recalled_over every j b e cells cache).0
fetched_recall_of every j b e cells cache = (over_holds (IsTurnOf b j) AnyCache (recalls_of b j) every j b e cells cache tt (fetched_of every j b e cells)).0

pub told_recall_of : (cache : Cache) (r : Reading) (told : Told) → IsTurnOf r.start r.key (recalled_told cache r told).0
told_recall_of cache r told = (told_holds (IsTurnOf r.start r.key) AnyCache (recalls_of r.start r.key) cache r told tt (told_of r (settle_turn (settling_of r) told))).0

-- ---- what the client of a session that reads keeps
-- as much as before, with strict reads the key too, where the transaction had not written it, and without them nothing more
pub record KeepsMore (setup : SetupNumbers) (h : List Item) (b j : ℕ) (c kept : Client) : Type 0 where
  pub entry : kept.entry ≡ c.entry
  pub plain : setup.strict ≡ false → kept.reads ≡ c.reads
  pub more : (k : ℕ) → Contains c.reads k → Contains kept.reads k
  pub key : setup.strict ≡ true → Contains kept.reads j ⊎ ((value : List ℕ) × Wrote h b j value)

-- what it read in all, with the answer
turn_keeps : (w : State) (h : List Item) (x : Item) (s b e j : ℕ) (c kept : Client) (turn : ReadTurn) (o : OpenAt w.clients s b e) → Quiet x → ClientAt w.clients s c → KeepsMore w.setup h b j c kept → IsolationInvariant w h → w.setup.strict ≡ true → KeepsReads (h ++ x ∷ read_items s b j turn) b (client_read kept turn)
turn_keeps w h x s b e j c kept turn o quiet at more holds strict k read =
    subst (λ ks. Contains ks k) (sym (read_keeps kept turn)) (elim (first_turn h x s b j turn b k quiet read) [
      | inl old ↦ more.more k (subst (λ (y : Client). Contains y.reads k) (one_client w.clients s o.client c o.at at) (holds.reads.read_sets.opened strict s b e o k old))
      | inr now ↦ elim (more.key strict) [
        | inl there ↦ subst (λ q. Contains kept.reads q) (sym now.key_is) there
        | inr wrote ↦ absurd (none-some wrote.0 (sym now.unwritten ∙ (ap (λ q. last_write h b q) now.key_is ∙ wrote.1)))
      ]
    ])

-- another session's transaction has read what it had read
others_read : (h : List Item) (x : Item) (s r b j t : ℕ) (turn : ReadTurn) (k : ℕ) → Stamped h → Quiet x → r ≢ s → Begun h s b → Begun h r t → ReadFirst (h ++ x ∷ read_items s b j turn) t k → ReadFirst h t k
others_read h x s r b j t turn k stamped quiet other mine theirs read = elim (first_turn h x s b j turn t k quiet read) [
  | inl old ↦ old
  | inr now ↦ absurd (other (begun_once h r s b stamped (subst (Begun h r) now.start_is theirs) mine))
]

-- a client that has changed to this one has the transaction open that it had
open_as : (w : State) (s b e t : ℕ) (c : Client) (o : OpenAt w.clients s b e) → ClientAt w.clients s c → c.entry.start ≡ Some t → t ≡ b
open_as w s b e t c o at start = same_Some t b (sym start ∙ (ap (λ (y : Client). y.entry.start) (one_client w.clients s c o.client at o.at) ∙ o.start_is))

-- the read that goes on is of the key
turn_key : (w : State) (h items : List Item) (b j : ℕ) (c kept d : Client) (y : Reading) (turn : ReadTurn) → IsTurnOf b j turn → KeepsMore w.setup h b j c kept → (client_read kept turn).under_way ≡ Reads y → d.reads ≡ kept.reads → w.setup.strict ≡ true → KeepsKey (h ++ items) d y
turn_key w h items b j c kept d y (Answers a) of more reads same strict = absurd (nothing_reads y reads)
turn_key w h items b j c kept d y (Asks x) of more reads same strict =
    let is : x ≡ y = sym (reads_same y x (sym reads)) in
    let parts = of y (ap Asks is) in
    elim (more.key strict) [
      | inl there ↦ inl (subst (λ ks. Contains ks y.key) (sym same) (subst (λ q. Contains kept.reads q) (sym parts.1) there))
      | inr wrote ↦
          let mine : Wrote h y.start y.key wrote.0 = subst (λ q. Wrote h q y.key wrote.0) (sym parts.0) (subst (λ q. Wrote h b q wrote.0) (sym parts.1) wrote.1) in
          inr (wrote_on h items y.start y.key wrote.0 mine)
    ]

-- ---- a turn of a read, whatever it comes to, and whatever the client keeps more
pub read_sets_turn : (w : State) (h : List Item) (x : Item) (s b e j : ℕ) (c kept : Client) (turn : ReadTurn) → Quiet x → ClientAt w.clients s c → OpenAt w.clients s b e → KeepsMore w.setup h b j c kept → IsTurnOf b j turn → IsolationInvariant w h → AreReadSets w.setup (slice_set w.clients s (client_read kept turn)) w.nodes (h ++ x ∷ read_items s b j turn)
read_sets_turn w h x s b e j c kept turn quiet at o more of holds =
    let new : Client = client_read kept turn in
    let items : List Item = x ∷ read_items s b j turn in
    let sets = holds.reads.read_sets in
    let stamped : Stamped h = holds.isolated.stamped in
    let entry : new.entry ≡ c.entry = read_keeps_entry kept turn ∙ more.entry in
    let begun : Begun h s b = open_begun w.clients h s b o.client holds.requests.have_begun o.at o.state_is o.start_is in
    record {
      plain = λ flag r d there. elim (client_set w.clients s r new d there) [
        | inl here ↦ ap (λ (y : Client). y.reads) here.1 ∙ (read_keeps kept turn ∙ (more.plain flag ∙ sets.plain flag s c at))
        | inr other ↦ sets.plain flag r d other.1
      ];
      opened = λ strict r t f p k read. elim (client_set w.clients s r new p.client p.at) [
        | inl here ↦
            let start : t ≡ b = open_as w s b e t c o at (ap (λ y. y.start) (sym entry) ∙ (ap (λ (y : Client). y.entry.start) (sym here.1) ∙ p.start_is)) in
            subst (λ (y : Client). Contains y.reads k) (sym here.1) (turn_keeps w h x s b e j c kept turn o quiet at more holds strict k (subst (λ q. ReadFirst (h ++ items) q k) start read))
        | inr other ↦
            let was : OpenAt w.clients r t f = record { client = p.client; at = other.1; state_is = p.state_is; start_is = p.start_is; epoch_is = p.epoch_is } in
            sets.opened strict r t f was k (others_read h x s r b j t turn k stamped quiet other.0 begun (open_begun w.clients h r t p.client holds.requests.have_begun other.1 p.state_is p.start_is) read)
      ];
      asked = λ strict n r t keys p i d there held client k read. elim (client_set w.clients s r new d client) [
        | inl here ↦ absurd (none_held w.nodes w.clients s o.client phase.Open holds.requests.requests o.at o.state_is open_waits n i (Commit r t keys) p there (subst (λ q. HeldBy i q (Commit r t keys) p) here.0 held))
        | inr other ↦ sets.asked strict n r t keys p i d there held other.1 k (others_read h x s r b j t turn k stamped quiet other.0 begun (commit_begun w h n r t keys p i holds there held) read)
      ];
      under_way = λ strict r d y there reads. elim (client_set w.clients s r new d there) [
        | inl here ↦ turn_key w h items b j c kept d y turn of more (ap (λ (z : Client). z.under_way) (sym here.1) ∙ reads) (ap (λ (z : Client). z.reads) here.1 ∙ read_keeps kept turn) strict
        | inr other ↦ key_kept h items d y (sets.under_way strict r d y other.1 reads)
      ];
    }
