-- What a store call decides for a read is true, and so the read goes on rightly, or answers rightly.
use Rattle.isolation_laws.proofs.Names.{◌≡◌, ℕ, ◌<◌, ◌≤◌, nat_lt, Bool, true, false, cond, List, ◌∷◌, Option, Some}
use Rattle.isolation_laws.proofs.Names.{None, ◌⊎◌, inl, inr, refl, sym, ◌∙◌, ap, subst, arith, nat_cmp, eq_by_cmp}
use Rattle.isolation_laws.proofs.Names.{get-insert, nat_cmp_total, cases_Bool, ltb-true, ltb-false, nat_tests}
use Rattle.isolation_laws.proofs.Names.{same_Some, none-some, Mark, CommittedMark, InvalidMark, Committed, last_write}
use Rattle.isolation_laws.proofs.Names.{Item, Cell, looked, Pairs, mark_of, put_pair, put_over, CommittedAt, Dead}
use Rattle.isolation_laws.proofs.Names.{SettlePoint, FirstLook, Table, LastLook, SettleTurn, Goes, Decides, settle_turn}
use Rattle.isolation_laws.proofs.Names.{settle_turn_at, ask_at, after_table, after_marking, after_last_look, Known}
use Rattle.isolation_laws.proofs.Names.{outcome_known, known_there, Recalls, Reading, ReadTurn, Asks, may_mark}
use Rattle.isolation_laws.proofs.Names.{settling_of, read_over, read_by, read_ask, read_told, State, marks_every}
use Rattle.isolation_laws.proofs.Names.{pairs_after, told_by, told_entry, told_mark, told_shadow, told_cell, OpenAt}
use Rattle.isolation_laws.proofs.Names.{Marked, HasRecord, cell_with, HasShadow, SeesAll, IsResolvedTo, IsReading}
use Rattle.isolation_laws.proofs.Names.{IsTrueOf, IsTrueCache, IsolationInvariant}
use Rattle.system_parts.specs.declared.resolve.SettlePoint.TheVariants.{Marking}
use Rattle.system_parts.specs.declared.known.Known.TheVariants as known
use Rattle.isolation_laws.proofs.Stores.StoresStay.{MarksStay, marks_put, marks_after, shadows_same}
use Rattle.isolation_laws.proofs.Reading.ReadersRely.{RelyOn, sees_on, marked_before, open_now_begun}
use Rattle.isolation_laws.proofs.Stores.Calm.{calm_same}
use Rattle.isolation_laws.proofs.Reading.ReadsStay.{same_comes}
use Rattle.isolation_laws.proofs.Reading.SeesPassed.{LetsGo, goes_late, sees_rest, answer_first, TurnRight, OwnListed, over_right}
use Rattle.isolation_laws.proofs.Reading.ReadsLonger.{rely_calm}
use Rattle.isolation_laws.proofs.Stores.CellsStay.{no_record_marked}
use Rattle.isolation_laws.proofs.Known.TrueCaches.{true_used}

-- what a turn of the resolve says of the version is true
abbrev pub Tells : State → Pairs → List Item → ℕ → ℕ → Bool → ℕ → ℕ → SettleTurn → Type 0
Tells w pairs h k b every e v (Goes point) = IsResolvedTo pairs w.rows h k b every e v point
Tells w pairs h k b every e v (Decides (CommittedAt c by_table)) = Committed h v c
Tells w pairs h k b every e v (Decides Dead) = LetsGo w.clients w.nodes pairs h b v

-- a commit below the start that has no record has its shadow
abbrev pub IsShown : State → List Item → ℕ → ℕ → ℕ → Type 0
IsShown w h k b v = (c : ℕ) → Committed h v c → c < b → HasShadow w.rows k v c

shown_unrecorded : (w : State) (h : List Item) (k b : ℕ) (cell : Cell) (cs : List Cell) → IsolationInvariant w h → SeesAll w.clients w.nodes w.pairs h b k (cell ∷ cs) → ((c : ℕ) → HasRecord w.pairs cell.version c → ⊥) → IsShown w h k b cell.version
shown_unrecorded w h k b cell cs holds sees none c placed below = elim (holds.cells.placed.found cell.version c placed) [
  | inl record_ ↦ absurd (none c record_)
  | inr shadowed ↦
      let wrote : last_write h cell.version k ≡ Some cell.value = sees.values 0 cell (omega arith) c placed below in
      (record { version = cell.version; value = cell.value; shadow = Some c }, shadowed k ∙ ap (cell_with cell.version (Some c)) wrote, refl)
]

not_both : false ≡ true → ⊥
not_both same = cc

none_committed : (c : ℕ) → None ≡ Some (CommittedMark c) → ⊥
none_committed c same = cc

-- ---- the table
tells_table : (w : State) (h : List Item) (k b : ℕ) (every : Bool) (e : ℕ) (cell : Cell) (cs : List Cell) (may : Bool) (entry : Option Mark) → IsolationInvariant w h → SeesAll w.clients w.nodes w.pairs h b k (cell ∷ cs) → may_mark every cell.version e ≡ may → mark_of w.pairs cell.version ≡ entry → Tells w w.pairs h k b every e cell.version (after_table may (told_entry entry))
tells_table w h k b every e cell cs may (Some (CommittedMark c)) holds sees allowed is = holds.cells.pairs_are.placed cell.version c is
tells_table w h k b every e cell cs may (Some InvalidMark) holds sees allowed is = ((λ met. is), (λ unmet may_so. not_both (sym unmet)), shown_unrecorded w h k b cell cs holds sees (λ c has. no_record_marked c (sym is ∙ has)))
tells_table w h k b every e cell cs true None holds sees allowed is = allowed
tells_table w h k b every e cell cs false None holds sees allowed is = ((λ met. absurd (not_both met)), (λ unmet may_so. not_both (sym allowed ∙ may_so)), shown_unrecorded w h k b cell cs holds sees (λ c has. none_committed c (sym is ∙ has)))

-- ---- a mark
eq_same : (t : ℕ) → eq_by_cmp nat_cmp t t ≡ true
eq_same t = grind (arith, nat_tests)

marked_over : (pairs : Pairs) (t : ℕ) (there : Option Mark) → there ≡ None → Marked (put_over pairs t InvalidMark there) t
marked_over pairs t (Some mark) is = absurd (none-some mark (sym is))
marked_over pairs t None is = get-insert nat_cmp_total pairs t InvalidMark t ∙ ap (λ b. cond b (Some InvalidMark) (mark_of pairs t)) (eq_same t)

tells_marking : (w : State) (h : List Item) (k b : ℕ) (every : Bool) (e : ℕ) (cell : Cell) (cs : List Cell) (entry : Option Mark) → IsolationInvariant w h → SeesAll w.clients w.nodes w.pairs h b k (cell ∷ cs) → mark_of w.pairs cell.version ≡ entry → Tells w (put_pair w.pairs cell.version InvalidMark) h k b every e cell.version (after_marking (told_mark entry))
tells_marking w h k b every e cell cs None holds sees is = ((λ met. marked_over w.pairs cell.version (mark_of w.pairs cell.version) is), (λ unmet may_so. not_both (sym unmet)), shown_unrecorded w h k b cell cs holds sees (λ c has. none_committed c (sym is ∙ has)))
tells_marking w h k b every e cell cs (Some InvalidMark) holds sees is = ((λ met. marks_put w.pairs cell.version InvalidMark cell.version is), (λ unmet may_so. not_both (sym unmet)), shown_unrecorded w h k b cell cs holds sees (λ c has. no_record_marked c (sym is ∙ has)))
tells_marking w h k b every e cell cs (Some (CommittedMark c)) holds sees is = holds.cells.pairs_are.placed cell.version c is

-- ---- the last look
low_or_high : (a b : ℕ) → (a < b) ⊎ (b ≤ a)
low_or_high a b = grind arith

dead_goes : (w : State) (h : List Item) (s k b : ℕ) (every : Bool) (e v : ℕ) (met : Bool) → every ≡ marks_every w.setup → IsolationInvariant w h → OpenAt w.clients s b e → IsResolvedTo w.pairs w.rows h k b every e v (LastLook met) → ((c : ℕ) → HasShadow w.rows k v c → ⊥) → LetsGo w.clients w.nodes w.pairs h b v
dead_goes w h s k b every e v met every_is holds o resolved none = record {
  late = λ d placed. elim (low_or_high d b) [
    | inl below ↦ absurd (none d (resolved.2 d placed below))
    | inr late ↦ late
  ];
  marked = λ comes. marked_before w h every s b e v met every_is holds o resolved.0 resolved.1 comes;
}

tells_shadow : (w : State) (h : List Item) (s k b : ℕ) (every : Bool) (e v : ℕ) (met : Bool) (cell : Cell) (shadow : Option ℕ) → every ≡ marks_every w.setup → IsolationInvariant w h → OpenAt w.clients s b e → IsResolvedTo w.pairs w.rows h k b every e v (LastLook met) → looked w.rows k v ≡ Some cell → cell.shadow ≡ shadow → Tells w w.pairs h k b every e v (after_last_look (told_shadow shadow))
tells_shadow w h s k b every e v met cell (Some c) every_is holds o resolved there is = holds.cells.rows_are.placed k v c cell there is
tells_shadow w h s k b every e v met cell None every_is holds o resolved there is = dead_goes w h s k b every e v met every_is holds o resolved (λ c has. none-some c (sym is ∙ (ap (λ (x : Cell). x.shadow) (same_Some cell has.0 (sym there ∙ has.1)) ∙ has.2)))

tells_look : (w : State) (h : List Item) (s k b : ℕ) (every : Bool) (e v : ℕ) (met : Bool) (found : Option Cell) → every ≡ marks_every w.setup → IsolationInvariant w h → OpenAt w.clients s b e → IsResolvedTo w.pairs w.rows h k b every e v (LastLook met) → looked w.rows k v ≡ found → Tells w w.pairs h k b every e v (after_last_look (told_cell found))
tells_look w h s k b every e v met None every_is holds o resolved is = dead_goes w h s k b every e v met every_is holds o resolved (λ c has. none-some has.0 (sym is ∙ has.1))
tells_look w h s k b every e v met (Some cell) every_is holds o resolved is = tells_shadow w h s k b every e v met cell cell.shadow every_is holds o resolved is refl

-- ---- each point
pub tells_at : (w : State) (h : List Item) (s k b : ℕ) (every : Bool) (e : ℕ) (cell : Cell) (cs : List Cell) (point : SettlePoint) → every ≡ marks_every w.setup → IsolationInvariant w h → OpenAt w.clients s b e → SeesAll w.clients w.nodes w.pairs h b k (cell ∷ cs) → IsResolvedTo w.pairs w.rows h k b every e cell.version point → Tells w (pairs_after (ask_at k cell.version point) w.pairs) h k b every e cell.version (settle_turn_at (may_mark every cell.version e) point (told_by (ask_at k cell.version point) w.rows w.pairs))
tells_at w h s k b every e cell cs FirstLook every_is holds o sees resolved = absurd resolved
tells_at w h s k b every e cell cs Table every_is holds o sees resolved = tells_table w h k b every e cell cs (may_mark every cell.version e) (mark_of w.pairs cell.version) holds sees refl refl
tells_at w h s k b every e cell cs Marking every_is holds o sees resolved = tells_marking w h k b every e cell cs (mark_of w.pairs cell.version) holds sees refl
tells_at w h s k b every e cell cs (LastLook met) every_is holds o sees resolved = tells_look w h s k b every e cell.version met (looked w.rows k cell.version) every_is holds o resolved refl

-- ---- the read goes on, or answers
-- with more marks it sees the same
pub sees_marked : (w : State) (h : List Item) (pairs : Pairs) (s b e k : ℕ) (cells : List Cell) → IsolationInvariant w h → OpenAt w.clients s b e → MarksStay w.pairs pairs → SeesAll w.clients w.nodes w.pairs h b k cells → SeesAll w.clients w.nodes pairs h b k cells
sees_marked w h pairs s b e k cells holds o marks sees =
    let rely : RelyOn w h w.clients w.nodes w.rows pairs h = rely_calm w h h w.clients w.nodes w.rows pairs (calm_same h) (same_comes w h) (shadows_same h w.rows) marks in
    sees_on w h w.clients w.nodes w.rows pairs h s b k cells rely (open_now_begun w h s b e holds o) sees

passes_on : (w : State) (h : List Item) (pairs : Pairs) (r : Reading) → r.every ≡ marks_every w.setup → IsolationInvariant w h → OwnListed h r.start r.key → LetsGo w.clients w.nodes pairs h r.start r.cell.version → SeesAll w.clients w.nodes pairs h r.start r.key (r.cell ∷ r.older) → TurnRight w h pairs r.start r.epoch r.key (read_over r.every r.key r.start r.epoch r.older)
passes_on w h pairs r every_is holds own goes sees = over_right w h pairs r.every r.start r.epoch r.key r.older every_is holds own (sees_rest w.clients w.nodes pairs h r.start r.key r.cell r.older goes sees)

turn_right : (w : State) (h : List Item) (pairs : Pairs) (r : Reading) (turn : SettleTurn) → r.every ≡ marks_every w.setup → IsolationInvariant w h → OwnListed h r.start r.key → SeesAll w.clients w.nodes pairs h r.start r.key (r.cell ∷ r.older) → Tells w pairs h r.key r.start r.every r.epoch r.cell.version turn → TurnRight w h pairs r.start r.epoch r.key (read_by r turn)
turn_right w h pairs r (Goes point) every_is holds own sees tells = (record { start_is = refl; epoch_is = refl; every_is = every_is; own = own; sees = sees; resolved = tells }, refl)
turn_right w h pairs r (Decides Dead) every_is holds own sees tells = passes_on w h pairs r every_is holds own tells sees
turn_right w h pairs r (Decides (CommittedAt c by_table)) every_is holds own sees tells = elim (cases_Bool (nat_lt c r.start)) [
  | inl below ↦ rw below (answer_first w h pairs r.start r.key c r.cell r.older holds sees tells (ltb-true c r.start below))
  | inr late ↦ rw late (passes_on w h pairs r every_is holds own (goes_late w h pairs r.start r.cell.version c holds tells (ltb-false c r.start late)) sees)
]

-- ---- a read that recalls goes on rightly too: what is remembered of a version tells of it what its resolve would
known_tells : (w : State) (pairs : Pairs) (h : List Item) (k b : ℕ) (every : Bool) (e v : ℕ) (it : Known) → IsTrueOf pairs h v it → Tells w pairs h k b every e v (Decides (outcome_known it))
known_tells w pairs h k b every e v (known.Committed c) is = is
known_tells w pairs h k b every e v known.Dead is = record { late = λ d placed. absurd (is.unplaced d placed); marked = λ comes. is.marked }

-- the read by its own start, epoch and key
turn_as : (w : State) (h : List Item) (pairs : Pairs) (b e k c f j : ℕ) (turn : ReadTurn) → b ≡ c → e ≡ f → k ≡ j → TurnRight w h pairs b e k turn → TurnRight w h pairs c f j turn
turn_as w h pairs b e k c f j turn start epoch key right =
    subst (λ x. TurnRight w h pairs x f j turn) start (subst (λ x. TurnRight w h pairs b x j turn) epoch (subst (λ x. TurnRight w h pairs b e x turn) key right))

recall_right : (w : State) (h : List Item) (pairs : Pairs) (b e k : ℕ) (r : Reading) (it : Known) → IsolationInvariant w h → IsTrueOf pairs h r.cell.version it → TurnRight w h pairs b e k (Asks r) → TurnRight w h pairs b e k (read_by r (Decides (outcome_known it)))
recall_right w h pairs b e k r it holds is (reads, key) =
    let own : TurnRight w h pairs r.start r.epoch r.key (Asks r) = turn_as w h pairs b e k r.start r.epoch r.key (Asks r) (sym reads.start_is) (sym reads.epoch_is) (sym key) (reads, key) in
    turn_as w h pairs r.start r.epoch r.key b e k (read_by r (Decides (outcome_known it))) reads.start_is reads.epoch_is key
    (turn_right w h pairs r (Decides (outcome_known it)) reads.every_is holds own.0.own own.0.sees (known_tells w pairs h r.key r.start r.every r.epoch r.cell.version it is))

pub recalls_right : (w : State) (h : List Item) (pairs : Pairs) (b e k : ℕ) → IsolationInvariant w h → Recalls (TurnRight w h pairs b e k) (IsTrueCache pairs h)
recalls_right w h pairs b e k holds = record {
  stays = λ cache txn all. true_used pairs h cache txn all;
  goes = λ cache r it all is right. recall_right w h pairs b e k r it holds (all.kept (r.cell.version, it) (known_there cache r.cell.version it is)) right;
}

-- the step of a read, by its own start and epoch
pub step_right : (w : State) (h : List Item) (s : ℕ) (r : Reading) → IsolationInvariant w h → OpenAt w.clients s r.start r.epoch → IsReading w.setup w.clients w.nodes w.rows w.pairs h r.start r.epoch r → TurnRight w h (pairs_after (read_ask r) w.pairs) r.start r.epoch r.key (read_told r (told_by (read_ask r) w.rows w.pairs))
step_right w h s r holds o is =
    turn_right w h (pairs_after (read_ask r) w.pairs) r (settle_turn (settling_of r) (told_by (read_ask r) w.rows w.pairs)) is.every_is holds is.own
    (sees_marked w h (pairs_after (read_ask r) w.pairs) s r.start r.epoch r.key (r.cell ∷ r.older) holds o (marks_after (read_ask r) w.pairs) is.sees)
    (tells_at w h s r.key r.start r.every r.epoch r.cell r.older r.point is.every_is holds o is.sees is.resolved)
