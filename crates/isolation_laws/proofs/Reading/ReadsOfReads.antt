-- A fetch, and a step of a read: the session reads on and sees all, or has an answer that is right and lasts.
use Rattle.isolation_laws.proofs.Names.{◌≡◌, ℕ, ◌<◌, ◌==◌, Bool, true, List, [], ◌∷◌, ◌++◌, append_assoc, Option, Some}
use Rattle.isolation_laws.proofs.Names.{None, inl, inr, refl, sym, ◌∙◌, ap, subst, arith, All, slice_set, cases_Bool}
use Rattle.isolation_laws.proofs.Names.{cases_eq, eq-eqb, append-nil, All-nil, ◌∈◌, AtEach, Wrote, last_write, Visible}
use Rattle.isolation_laws.proofs.Names.{RightAnswer, RightRead, Found, Item, Read, AtEach-push, Cell, fetched, front_of}
use Rattle.isolation_laws.proofs.Names.{is_below, Pairs, Answer, Told, Cache, put_fresh, cache_learnt, learnt_by}
use Rattle.isolation_laws.proofs.Names.{recalled_over, recalled_from, over_from, HoldBoth, over_holds, told_holds}
use Rattle.isolation_laws.proofs.Names.{Reading, ReadTurn, Asks, Answers, found_cell, after_passed, read_over, read_ask}
use Rattle.isolation_laws.proofs.Names.{Client, State, pairs_after, told_by, marks_every, found_of, client_read}
use Rattle.isolation_laws.proofs.Names.{read_items, ClientAt, epoch_or_none, OpenAt, ComesBelow, Quiet, IsReading}
use Rattle.isolation_laws.proofs.Names.{Outlasts, AreLastingReads, IsTrueCache, IsolationInvariant, Fetched}
use Rattle.isolation_laws.proofs.Names.{fetched_recall, fetched_turn, fetched_client, fetched_state, fetched_items}
use Rattle.isolation_laws.proofs.Names.{ReadStepped, read_recall, read_turn, read_client, read_stepped_state}
use Rattle.isolation_laws.proofs.Names.{read_stepped_items, one_quiet}
use Rattle.isolation_laws.proofs.Pushed.{not_true, in_append}
use Rattle.isolation_laws.proofs.Requests.ClientsOpen.{fewer_set, read_keeps_entry}
use Rattle.isolation_laws.proofs.Requests.PendingAfter.{FewerPending, fewer_pending}
use Rattle.isolation_laws.proofs.Requests.PendingFewer.{same_served, fewer_comes}
use Rattle.isolation_laws.proofs.Reading.ClientsReading.{nothing_reads}
use Rattle.isolation_laws.proofs.Stores.StoresStay.{MarksStay, marks_same, marks_after, shadows_same}
use Rattle.isolation_laws.proofs.Stores.Calm.{Calm, calm_quiet, calm_turn}
use Rattle.isolation_laws.proofs.Reading.ReadersRely.{RelyOn, reading_kept, lasts_on, right_kept}
use Rattle.isolation_laws.proofs.Reading.ReadsStay.{ReadsRight, quiet_no_reads, rights_more, none_comes}
use Rattle.isolation_laws.proofs.Reading.SeesFetched.{AreCellsOf, are_fetched, sees_fetched, sees_front, none_own, own_or_listed, own_value}
use Rattle.isolation_laws.proofs.Reading.SeesPassed.{TurnRight, OwnListed, over_right}
use Rattle.isolation_laws.proofs.Reading.ReadsLonger.{right_longer, reading_longer, ReadsNow, reading_set, reads_same, rely_calm}
use Rattle.isolation_laws.proofs.Reading.ReadTurns.{recalls_right, step_right}
use Rattle.isolation_laws.proofs.Known.TrueCaches.{true_put, true_learnt, true_marked}
use Rattle.isolation_laws.proofs.Known.LearntTruths.{learnt_true}

-- ---- an answer that is right
pub record GoodAnswer (w : State) (h : List Item) (pairs : Pairs) (b k : ℕ) (answer : Option Found) : Type 0 where
  pub right : RightAnswer h h b k answer (last_write h b k)
  pub lasts : (u : ℕ) (value : List ℕ) → ComesBelow w.clients w.nodes b u → Wrote h u k value → Outlasts pairs b u answer

abbrev pub GoodTurn : State → List Item → Pairs → ℕ → ℕ → ℕ → ReadTurn → Type 0
GoodTurn w h pairs b e k (Asks r) = IsReading w.setup w.clients w.nodes w.rows pairs h b e r
GoodTurn w h pairs b e k (Answers a) = GoodAnswer w h pairs b k (found_of a.found)

right_by : (h : List Item) (b k : ℕ) (answer : Option Found) (own : Option (List ℕ)) → last_write h b k ≡ own → OwnListed h b k → Visible h b k answer → RightAnswer h h b k answer own
right_by h b k answer None is listed visible = visible
right_by h b k answer (Some own) is listed visible = inr (listed own is, visible)

good_turn : (w : State) (h : List Item) (pairs : Pairs) (b e k : ℕ) (turn : ReadTurn) → OwnListed h b k → TurnRight w h pairs b e k turn → GoodTurn w h pairs b e k turn
good_turn w h pairs b e k (Asks r) own right = right.0
good_turn w h pairs b e k (Answers a) own right = record { right = right_by h b k (found_of a.found) (last_write h b k) refl own right.visible; lasts = right.lasts }

-- no more comes below the start
abbrev pub NoneComesMore : State → List Client → ℕ → Type 0
NoneComesMore w clients b = (u : ℕ) → ComesBelow clients w.nodes b u → ComesBelow w.clients w.nodes b u

-- what the client reads after a turn
turn_reads : (w : State) (h g : List Item) (pairs : Pairs) (clients : List Client) (b e k : ℕ) (c : Client) (turn : ReadTurn) → NoneComesMore w clients b → Calm h g → GoodTurn w h pairs b e k turn → ReadsNow w.setup clients w.nodes w.rows pairs g b e (client_read c turn)
turn_reads w h g pairs clients b e k c (Asks x) comes un good r is = subst (λ (y : Reading). IsReading w.setup clients w.nodes w.rows pairs g b e y) (reads_same x r is) (reading_longer w.setup w.clients clients w.nodes w.rows pairs h g b e x comes un good)
turn_reads w h g pairs clients b e k c (Answers a) comes un good r is = absurd (nothing_reads r is)

-- ---- the answer stands in the history
read_is : (s b k r c j : ℕ) (answer other : Option Found) → Read r c j other ≡ Read s b k answer → (c ≡ b) × (j ≡ k) × (other ≡ answer)
read_is s b k r c j answer other same = (cc, cc, cc)

quiet_no_read : (x : Item) (r c j : ℕ) (answer : Option Found) → Quiet x → Read r c j answer ≡ x → ⊥
quiet_no_read x r c j answer quiet is = not_true (subst (λ (y : Item). Quiet y) (sym is) quiet)

-- the answer that a turn gives, if it gives one
pub record IsGiven (b k c j : ℕ) (turn : ReadTurn) (answer : Option Found) : Type 0 where
  pub a : Answer
  pub turn_is : turn ≡ Answers a
  pub start_is : c ≡ b
  pub key_is : j ≡ k
  pub answer_is : answer ≡ found_of a.found

given_in : (x : Item) (s b k r c j : ℕ) (answer : Option Found) (turn : ReadTurn) → Quiet x → Read r c j answer ∈ (x ∷ read_items s b k turn) → IsGiven b k c j turn answer
unfolding ◌∈◌
given_in x s b k r c j answer turn quiet (inl here) = absurd (quiet_no_read x r c j answer quiet here)
given_in x s b k r c j answer (Asks y) quiet (inr later) = absurd later
given_in x s b k r c j answer (Answers a) quiet (inr (inl here)) =
    let same = read_is s b k r c j (found_of a.found) answer here in
    record { a = a; turn_is = refl; start_is = same.0; key_is = same.1; answer_is = same.2 }
given_in x s b k r c j answer (Answers a) quiet (inr (inr none)) = absurd none

given_lasts : (w : State) (h g : List Item) (pairs : Pairs) (b e k c j u : ℕ) (answer : Option Found) (value : List ℕ) (turn : ReadTurn) → Calm h g → GoodTurn w h pairs b e k turn → IsGiven b k c j turn answer → ComesBelow w.clients w.nodes c u → Wrote g u j value → Outlasts pairs c u answer
given_lasts w h g pairs b e k c j u answer value turn un good given comes wrote =
    let now : GoodAnswer w h pairs b k (found_of given.a.found) = subst (λ (t : ReadTurn). GoodTurn w h pairs b e k t) given.turn_is good in
    let written : Wrote h u k value = sym (un.writes u k) ∙ (ap (last_write g u) (sym given.key_is) ∙ wrote) in
    subst (λ x. Outlasts pairs x u answer) (sym given.start_is) (subst (λ (y : Option Found). Outlasts pairs b u y) (sym given.answer_is) (now.lasts u value (subst (λ x. ComesBelow w.clients w.nodes x u) given.start_is comes) written))

turn_lasting : (w : State) (h : List Item) (pairs : Pairs) (x : Item) (clients : List Client) (s b e k : ℕ) (turn : ReadTurn) → ((c : ℕ) → NoneComesMore w clients c) → Quiet x → RelyOn w h clients w.nodes w.rows pairs (h ++ x ∷ read_items s b k turn) → Calm h (h ++ x ∷ read_items s b k turn) → GoodTurn w h pairs b e k turn → IsolationInvariant w h → AreLastingReads clients w.nodes pairs (h ++ x ∷ read_items s b k turn)
turn_lasting w h pairs x clients s b e k turn none quiet rely un good holds = record {
  lasts = λ r c j u answer value m comes wrote. elim (in_append (Read r c j answer) h (x ∷ read_items s b k turn) m) [
    | inl old ↦ lasts_on w h clients w.nodes w.rows pairs (h ++ x ∷ read_items s b k turn) r c j u answer value rely holds old comes wrote
    | inr new ↦ given_lasts w h (h ++ x ∷ read_items s b k turn) pairs b e k c j u answer value turn un good (given_in x s b k r c j answer turn quiet new) (none c u comes) wrote
  ];
}

-- ---- and is right
turn_rights : (w : State) (h g : List Item) (pairs : Pairs) (before : List Item) (s b e k : ℕ) (turn : ReadTurn) → Calm h g → Calm h before → GoodTurn w h pairs b e k turn → AtEach (RightRead g) before → AtEach (RightRead g) (before ++ read_items s b k turn)
turn_rights w h g pairs before s b e k (Asks r) un prior good rights = subst (AtEach (RightRead g)) (sym (append-nil before)) rights
turn_rights w h g pairs before s b e k (Answers a) un prior good rights =
    AtEach-push (RightRead g) before (Read s b k (found_of a.found)) rights
    (subst (RightAnswer g before b k (found_of a.found)) (sym (prior.writes b k)) (right_longer h g before b k (found_of a.found) (last_write h b k) un prior.on good.right))

-- ---- a turn of a read, whatever it comes to, and whatever the client has kept before
pub reads_turn : (w : State) (h : List Item) (pairs : Pairs) (x : Item) (s b e k : ℕ) (c kept : Client) (turn : ReadTurn) → Quiet x → ClientAt w.clients s c → kept.entry ≡ c.entry → OpenAt w.clients s b e → MarksStay w.pairs pairs → GoodTurn w h pairs b e k turn → IsolationInvariant w h → ReadsRight w.setup (slice_set w.clients s (client_read kept turn)) w.nodes w.rows pairs (h ++ x ∷ read_items s b k turn)
reads_turn w h pairs x s b e k c kept turn quiet at same o marks good holds =
    let g : List Item = h ++ x ∷ read_items s b k turn in
    let un : Calm h g = calm_turn h x s b k turn quiet in
    let new : Client = client_read kept turn in
    let clients : List Client = slice_set w.clients s new in
    let entry : new.entry ≡ c.entry = read_keeps_entry kept turn ∙ same in
    let fewer : FewerPending w.clients w.nodes clients w.nodes = fewer_pending w.clients clients w.nodes w.nodes (fewer_set w.clients s c new at (inr (sym entry))).placing (same_served w.nodes) in
    let none : (d : ℕ) → NoneComesMore w clients d = λ d u comes. fewer_comes w.clients clients w.nodes w.nodes d u fewer comes in
    let rely : RelyOn w h clients w.nodes w.rows pairs g = rely_calm w h g clients w.nodes w.rows pairs un (none_comes w h clients w.nodes fewer) (shadows_same h w.rows) marks in
    record {
      reading = reading_set w.setup w.clients w.nodes w.rows pairs g s b e c new at entry o (turn_reads w h g pairs clients b e k kept turn (none b) un good) (reading_kept w h clients w.nodes w.rows pairs g rely holds);
      lasting = turn_lasting w h pairs x clients s b e k turn none quiet rely un good holds;
      rights = subst (AtEach (RightRead g)) (append_assoc h (x ∷ []) (read_items s b k turn))
          (turn_rights w h g pairs (h ++ x ∷ []) s b e k turn un (calm_quiet h (x ∷ []) (one_quiet x quiet)) good
          (rights_more g h (x ∷ []) (quiet_no_reads (x ∷ []) (one_quiet x quiet)) (right_kept w h clients w.nodes w.rows pairs g rely holds)));
    }

-- ---- a step of a read
open_by : (w : State) (s b e c d : ℕ) → b ≡ c → e ≡ d → OpenAt w.clients s b e → OpenAt w.clients s c d
open_by w s b e c d start epoch o = subst (λ x. OpenAt w.clients s x d) start (subst (λ y. OpenAt w.clients s b y) epoch o)

reading_by : (w : State) (h : List Item) (b e c d : ℕ) (r : Reading) → b ≡ c → e ≡ d → IsReading w.setup w.clients w.nodes w.rows w.pairs h b e r → IsReading w.setup w.clients w.nodes w.rows w.pairs h c d r
reading_by w h b e c d r start epoch is = subst (λ x. IsReading w.setup w.clients w.nodes w.rows w.pairs h x d r) start (subst (λ y. IsReading w.setup w.clients w.nodes w.rows w.pairs h b y r) epoch is)

pub stepped_open : (w : State) (h : List Item) (k : ReadStepped w) → IsolationInvariant w h → OpenAt w.clients k.session k.r.start k.r.epoch
stepped_open w h k holds =
    let was = holds.reads.reading.reads k.session k.c k.r k.client_at k.under_way in
    open_by w k.session was.0 was.1 k.r.start k.r.epoch (sym was.3.start_is) (sym was.3.epoch_is) was.2

stepped_reading : (w : State) (h : List Item) (k : ReadStepped w) → IsolationInvariant w h → IsReading w.setup w.clients w.nodes w.rows w.pairs h k.r.start k.r.epoch k.r
stepped_reading w h k holds =
    let was = holds.reads.reading.reads k.session k.c k.r k.client_at k.under_way in
    reading_by w h was.0 was.1 k.r.start k.r.epoch k.r (sym was.3.start_is) (sym was.3.epoch_is) was.3

-- the turn is right, and what the client remembers then is true
pub stepped_right : (w : State) (h : List Item) (k : ReadStepped w) → IsolationInvariant w h → HoldBoth (TurnRight w h (pairs_after (read_ask k.r) w.pairs) k.r.start k.r.epoch k.r.key) (IsTrueCache (pairs_after (read_ask k.r) w.pairs) h) (read_recall w k)
stepped_right w h k holds =
    let pairs : Pairs = pairs_after (read_ask k.r) w.pairs in
    let told : Told = told_by (read_ask k.r) w.rows w.pairs in
    let o : OpenAt w.clients k.session k.r.start k.r.epoch = stepped_open w h k holds in
    let is : IsReading w.setup w.clients w.nodes w.rows w.pairs h k.r.start k.r.epoch k.r = stepped_reading w h k holds in
    let put : IsTrueCache pairs h (put_fresh k.c.cache) = true_put pairs h k.c.cache (true_marked w.pairs pairs h k.c.cache (marks_after (read_ask k.r) w.pairs) (holds.known.known.each k.session k.c k.client_at)) in
    told_holds (TurnRight w h pairs k.r.start k.r.epoch k.r.key) (IsTrueCache pairs h) (recalls_right w h pairs k.r.start k.r.epoch k.r.key holds) (cache_learnt (put_fresh k.c.cache) (learnt_by k.r told)) k.r told
    (true_learnt pairs h (put_fresh k.c.cache) (learnt_by k.r told) (learnt_true w h k.session k.r holds o is (holds.known.written.written k.session k.c k.r k.client_at k.under_way)) put)
    (step_right w h k.session k.r holds o is)

pub reads_stepped : (w : State) (h : List Item) (k : ReadStepped w) → IsolationInvariant w h → ReadsRight w.setup (read_stepped_state w k).clients w.nodes w.rows (read_stepped_state w k).pairs (h ++ read_stepped_items w k)
reads_stepped w h k holds =
    reads_turn w h (pairs_after (read_ask k.r) w.pairs) k.first k.session k.r.start k.r.epoch k.r.key k.c (read_client w k) (read_turn w k) k.quiet k.client_at refl (stepped_open w h k holds) (marks_after (read_ask k.r) w.pairs)
    (good_turn w h (pairs_after (read_ask k.r) w.pairs) k.r.start k.r.epoch k.r.key (read_turn w k) (stepped_reading w h k holds).own (stepped_right w h k holds).0) holds

-- ---- a fetch
pub fetched_open : (w : State) (k : Fetched w) → OpenAt w.clients k.it.session k.start k.epoch
fetched_open w k = record { client = k.it.c; at = k.it.client_at; state_is = k.it.is_open; start_is = k.start_is; epoch_is = ap epoch_or_none k.epoch_is }

-- the reader's own cell comes first, and answers
own_first : (every : Bool) (key b e : ℕ) (c : Cell) (cs : List Cell) → c.version ≡ b → read_over every key b e (c ∷ cs) ≡ Answers (found_cell c)
unfolding after_passed
own_first every key b e c cs mine =
    let own : (c.version == b) ≡ true = eq-eqb c.version b mine in
    rw (own, own) refl

own_front : (every : Bool) (key b e : ℕ) (c : Cell) (cs : List Cell) → c.version ≡ b → read_over every key b e (front_of b (c ∷ cs)) ≡ Answers (found_cell c)
unfolding front_of
own_front every key b e c cs mine = elim (cases_Bool (is_below b c.shadow)) [
  | inl some ↦ rw some (own_first every key b e c [] mine)
  | inr none ↦ rw none (own_first every key b e c (front_of b cs) mine)
]

-- the read of the front of the cells, over what is remembered: it is good, and what is remembered then is true
abbrev IsGoodRead : State → List Item → ℕ → ℕ → ℕ → List Cell → Cache → Type 0
IsGoodRead w h b e k cells cache = HoldBoth (GoodTurn w h w.pairs b e k) (IsTrueCache w.pairs h) (recalled_over (marks_every w.setup) k b e (front_of b cells) cache)

own_recall : (every : Bool) (key b e : ℕ) (c : Cell) (cs : List Cell) (cache : Cache) → c.version ≡ b → recalled_over every key b e (front_of b (c ∷ cs)) cache ≡ (Answers (found_cell c), cache)
own_recall every key b e c cs cache mine = over_from every key b e (front_of b (c ∷ cs)) cache ∙ ap (recalled_from cache) (own_front every key b e c cs mine)

own_good : (w : State) (h : List Item) (s k b e : ℕ) (c : Cell) (cs : List Cell) (cache : Cache) → IsolationInvariant w h → OpenAt w.clients s b e → AreCellsOf w.rows k b (c ∷ cs) → IsTrueCache w.pairs h cache → c.version ≡ b → IsGoodRead w h b e k (c ∷ cs) cache
own_good w h s k b e c cs cache holds o are all mine =
    let value : last_write h b k ≡ Some c.value = own_value w h s k b e c holds o (are.found 0 c (omega arith)) mine in
    let right : RightAnswer h h b k (Some (record { from = c.version; value = c.value })) (Some c.value) = inl (ap (λ (v : ℕ). Some (record { from = v; value = c.value })) mine) in
    let good : GoodAnswer w h w.pairs b k (Some (record { from = c.version; value = c.value })) = record {
      right = subst (RightAnswer h h b k (Some (record { from = c.version; value = c.value }))) (sym value) right;
      lasts = λ u written comes wrote. inl mine;
    } in
    subst (HoldBoth (GoodTurn w h w.pairs b e k) (IsTrueCache w.pairs h)) (sym (own_recall (marks_every w.setup) k b e c cs cache mine)) (good, all)

other_good : (w : State) (h : List Item) (s k b e : ℕ) (cells : List Cell) (cache : Cache) → IsolationInvariant w h → OpenAt w.clients s b e → AreCellsOf w.rows k b cells → IsTrueCache w.pairs h cache → All (λ (c : Cell). c.version < b) cells → IsGoodRead w h b e k cells cache
other_good w h s k b e cells cache holds o are all below =
    let own : OwnListed h b k = λ value wrote. own_or_listed w h s k b e cells value holds o are below wrote in
    let both = over_holds (TurnRight w h w.pairs b e k) (IsTrueCache w.pairs h) (recalls_right w h w.pairs b e k holds) (marks_every w.setup) k b e (front_of b cells) cache all
    (over_right w h w.pairs (marks_every w.setup) b e k (front_of b cells) refl holds own (sees_front w.clients w.nodes w.pairs h b k cells (sees_fetched w h k b cells holds are below))) in
    (good_turn w h w.pairs b e k (recalled_over (marks_every w.setup) k b e (front_of b cells) cache).0 own both.0, both.1)

cells_good : (w : State) (h : List Item) (s k b e : ℕ) (cells : List Cell) (cache : Cache) → IsolationInvariant w h → OpenAt w.clients s b e → AreCellsOf w.rows k b cells → IsTrueCache w.pairs h cache → IsGoodRead w h b e k cells cache
cells_good w h s k b e [] cache holds o are all = other_good w h s k b e [] cache holds o are all (All-nil (λ (c : Cell). c.version < b))
cells_good w h s k b e (c ∷ cs) cache holds o are all = elim (cases_eq c.version b) [
  | inl mine ↦ own_good w h s k b e c cs cache holds o are all mine
  | inr other ↦ other_good w h s k b e (c ∷ cs) cache holds o are all (none_own b c cs are.falling are.upto other)
]

pub fetched_good : (w : State) (h : List Item) (k : Fetched w) → IsolationInvariant w h → HoldBoth (GoodTurn w h w.pairs k.start k.epoch k.key) (IsTrueCache w.pairs h) (fetched_recall w k)
fetched_good w h k holds =
    cells_good w h k.it.session k.key k.start k.epoch (fetched w.rows k.key k.start) (put_fresh k.it.c.cache) holds (fetched_open w k) (are_fetched w h k.key k.start holds)
    (true_put w.pairs h k.it.c.cache (holds.known.known.each k.it.session k.it.c k.it.client_at))

pub reads_fetched : (w : State) (h : List Item) (k : Fetched w) → IsolationInvariant w h → ReadsRight w.setup (fetched_state w k).clients w.nodes w.rows w.pairs (h ++ fetched_items w k)
reads_fetched w h k holds =
    reads_turn w h w.pairs k.first k.it.session k.start k.epoch k.key k.it.c (fetched_client w k) (fetched_turn w k) k.quiet k.it.client_at refl (fetched_open w k) (marks_same w.pairs) (fetched_good w h k holds).0 holds
