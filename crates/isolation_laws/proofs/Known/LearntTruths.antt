-- What a step of a read decides, and the client may remember, is true.
use Rattle.isolation_laws.proofs.Names.{◌≡◌, ℕ, Bool, true, false, All, List, ◌∷◌, Option, Some, IfSome, inl, inr, refl}
use Rattle.isolation_laws.proofs.Names.{sym, ◌∙◌, ap, arith, Committed, Item, Cell, Row, looked, Pairs, CommittedAt}
use Rattle.isolation_laws.proofs.Names.{Dead, SettlePoint, LastLook, SettleTurn, Goes, Decides, settle_turn_at, ask_at}
use Rattle.isolation_laws.proofs.Names.{after_last_look, Reading, may_mark, read_ask, dead_for_good, learnt_of}
use Rattle.isolation_laws.proofs.Names.{learnt_by, State, pairs_after, told_by, told_cell, told_shadow, OpenAt, Marked}
use Rattle.isolation_laws.proofs.Names.{cell_with, HasShadow, IsResolvedTo, IsReading, IsTruePair, IsWrittenCell}
use Rattle.isolation_laws.proofs.Names.{IsolationInvariant}
use Rattle.isolation_laws.proofs.Stores.CellsStay.{no_record_marked}
use Rattle.isolation_laws.proofs.Reading.ReadTurns.{Tells, tells_at}

-- ---- a mark was met, and the last look showed no shadow: then no commit is placed
shown : (rows : List Row) (k v c : ℕ) → HasShadow rows k v c → after_last_look (told_cell (looked rows k v)) ≡ Decides (CommittedAt c false)
shown rows k v c (cell, there, shadow) = ap (λ (o : Option Cell). after_last_look (told_cell o)) there ∙ ap (λ (o : Option ℕ). after_last_look (told_shadow o)) shadow

not_dead : (c : ℕ) → Decides Dead ≡ Decides (CommittedAt c false) → ⊥
not_dead c same = cc

met_unplaced : (w : State) (h : List Item) (k c : ℕ) (cell : Cell) → IsolationInvariant w h → Marked w.pairs cell.version → IsWrittenCell w.clients w.nodes h k cell → after_last_look (told_cell (looked w.rows k cell.version)) ≡ Decides Dead → Committed h cell.version c → ⊥
met_unplaced w h k c cell holds marked (inr over) dead placed = over.unplaced c placed
met_unplaced w h k c cell holds marked (inl (value, wrote)) dead placed = elim (holds.cells.placed.found cell.version c placed) [
  | inl has ↦ no_record_marked c (sym marked ∙ has)
  | inr shadowed ↦ not_dead c (sym dead ∙ shown w.rows k cell.version c (record { version = cell.version; value = value; shadow = Some c }, shadowed k ∙ ap (cell_with cell.version (Some c)) wrote, refl))
]

dead_true : (w : State) (h : List Item) (k b : ℕ) (every : Bool) (e : ℕ) (cell : Cell) (point : SettlePoint) → IsolationInvariant w h → IsResolvedTo w.pairs w.rows h k b every e cell.version point → IsWrittenCell w.clients w.nodes h k cell → settle_turn_at (may_mark every cell.version e) point (told_by (ask_at k cell.version point) w.rows w.pairs) ≡ Decides Dead → IfSome (dead_for_good cell.version point) (IsTruePair (pairs_after (ask_at k cell.version point) w.pairs) h)
dead_true w h k b every e cell (LastLook true) holds resolved written dead = record { marked = resolved.0 refl; unplaced = λ c placed. met_unplaced w h k c cell holds (resolved.0 refl) written dead placed }
dead_true w h k b every e cell _ holds resolved written dead = tt

-- ---- each decision
decision_true : (w : State) (h : List Item) (pairs : Pairs) (k b : ℕ) (every : Bool) (e v : ℕ) (point : SettlePoint) (turn : SettleTurn) → Tells w pairs h k b every e v turn → (turn ≡ Decides Dead → IfSome (dead_for_good v point) (IsTruePair pairs h)) → IfSome (learnt_of v point turn) (IsTruePair pairs h)
decision_true w h pairs k b every e v point (Goes next) tells dead = tt
decision_true w h pairs k b every e v point (Decides (CommittedAt c by_table)) tells dead = tells
decision_true w h pairs k b every e v point (Decides Dead) tells dead = dead refl

pub learnt_true : (w : State) (h : List Item) (s : ℕ) (r : Reading) → IsolationInvariant w h → OpenAt w.clients s r.start r.epoch → IsReading w.setup w.clients w.nodes w.rows w.pairs h r.start r.epoch r → All (IsWrittenCell w.clients w.nodes h r.key) (r.cell ∷ r.older) → IfSome (learnt_by r (told_by (read_ask r) w.rows w.pairs)) (IsTruePair (pairs_after (read_ask r) w.pairs) h)
learnt_true w h s r holds o is written =
    decision_true w h (pairs_after (read_ask r) w.pairs) r.key r.start r.every r.epoch r.cell.version r.point (settle_turn_at (may_mark r.every r.cell.version r.epoch) r.point (told_by (read_ask r) w.rows w.pairs))
    (tells_at w h s r.key r.start r.every r.epoch r.cell r.older r.point is.every_is holds o is.sees is.resolved)
    (λ dead. dead_true w h r.key r.start r.every r.epoch r.cell r.point holds is.resolved (written 0 r.cell (omega arith)) dead)
