-- What a resolve decides: a commit that was placed, or, at the last look of an own commit, that there is none.
use Rattle.isolation_laws.proofs.Names.{◌≡◌, ℕ, Bool, true, false, List, Option, Some, None, inl, inr, refl, sym, ◌∙◌}
use Rattle.isolation_laws.proofs.Names.{ap, subst, none-some, Mark, CommittedMark, InvalidMark, Committed, Wrote}
use Rattle.isolation_laws.proofs.Names.{last_write, Item, Cell, Row, looked, Pairs, mark_of, SettlePoint, CommittedAt}
use Rattle.isolation_laws.proofs.Names.{Dead, Settling, Goes, Decides, ask_at, settle_ask, settle_turn, settle_turn_at}
use Rattle.isolation_laws.proofs.Names.{after_first_look, after_table, after_marking, after_last_look, State}
use Rattle.isolation_laws.proofs.Names.{told_entry, told_mark, told_shadow, told_cell, told_by, HasRecord, cell_with}
use Rattle.isolation_laws.proofs.Names.{HasShadow, IsShownAt, IsolationInvariant}
use Rattle.system_parts.specs.declared.resolve.SettlePoint.TheVariants as point
use Rattle.system_parts.specs.declared.resolve.Outcome.{Outcome}

goes_no_decision : (p : SettlePoint) (o : Outcome) → Goes p ≡ Decides o → ⊥
goes_no_decision p o same = cc

dead_no_commit : (c : ℕ) (by_table : Bool) → Decides Dead ≡ Decides (CommittedAt c by_table) → ⊥
dead_no_commit c by_table same = cc

commit_same : (c d : ℕ) (a b : Bool) → Decides (CommittedAt c a) ≡ Decides (CommittedAt d b) → c ≡ d
commit_same c d a b same = cc

-- ---- a commit that is decided
entry_decides : (found : Option Mark) (c : ℕ) (may_mark by_table : Bool) → after_table may_mark (told_entry found) ≡ Decides (CommittedAt c by_table) → found ≡ Some (CommittedMark c)
entry_decides None c may_mark by_table is = absurd (goes_no_decision _ _ is)
entry_decides (Some InvalidMark) c may_mark by_table is = absurd (goes_no_decision _ _ is)
entry_decides (Some (CommittedMark d)) c may_mark by_table is = ap (λ q. Some (CommittedMark q)) (commit_same d c true by_table is)

mark_decides : (found : Option Mark) (c : ℕ) (by_table : Bool) → after_marking (told_mark found) ≡ Decides (CommittedAt c by_table) → found ≡ Some (CommittedMark c)
mark_decides None c by_table is = absurd (goes_no_decision _ _ is)
mark_decides (Some InvalidMark) c by_table is = absurd (goes_no_decision _ _ is)
mark_decides (Some (CommittedMark d)) c by_table is = ap (λ q. Some (CommittedMark q)) (commit_same d c true by_table is)

-- the cell has this shadow
abbrev pub CellHas : Option Cell → ℕ → Type 0
CellHas found c = (cell : Cell) × (found ≡ Some cell) × (cell.shadow ≡ Some c)

first_shadow : (shadow : Option ℕ) (c : ℕ) (by_table : Bool) → after_first_look (told_shadow shadow) ≡ Decides (CommittedAt c by_table) → shadow ≡ Some c
first_shadow None c by_table is = absurd (goes_no_decision _ _ is)
first_shadow (Some d) c by_table is = ap Some (commit_same d c false by_table is)

first_decides : (found : Option Cell) (c : ℕ) (by_table : Bool) → after_first_look (told_cell found) ≡ Decides (CommittedAt c by_table) → CellHas found c
first_decides None c by_table is = absurd (goes_no_decision _ _ is)
first_decides (Some cell) c by_table is = (cell, refl, first_shadow cell.shadow c by_table is)

last_shadow : (shadow : Option ℕ) (c : ℕ) (by_table : Bool) → after_last_look (told_shadow shadow) ≡ Decides (CommittedAt c by_table) → shadow ≡ Some c
last_shadow None c by_table is = absurd (dead_no_commit _ _ is)
last_shadow (Some d) c by_table is = ap Some (commit_same d c false by_table is)

last_decides : (found : Option Cell) (c : ℕ) (by_table : Bool) → after_last_look (told_cell found) ≡ Decides (CommittedAt c by_table) → CellHas found c
last_decides None c by_table is = absurd (dead_no_commit _ _ is)
last_decides (Some cell) c by_table is = (cell, refl, last_shadow cell.shadow c by_table is)

decided_at : (w : State) (h : List Item) (key txn c : ℕ) (may_mark by_table : Bool) (at : SettlePoint) → IsolationInvariant w h → settle_turn_at may_mark at (told_by (ask_at key txn at) w.rows w.pairs) ≡ Decides (CommittedAt c by_table) → Committed h txn c
decided_at w h key txn c may_mark by_table point.FirstLook holds is = let has = first_decides (looked w.rows key txn) c by_table is in holds.cells.rows_are.placed key txn c has.0 has.1 has.2
decided_at w h key txn c may_mark by_table point.Table holds is = holds.cells.pairs_are.placed txn c (entry_decides (mark_of w.pairs txn) c may_mark by_table is)
decided_at w h key txn c may_mark by_table point.Marking holds is = holds.cells.pairs_are.placed txn c (mark_decides (mark_of w.pairs txn) c by_table is)
decided_at w h key txn c may_mark by_table (point.LastLook met) holds is = let has = last_decides (looked w.rows key txn) c by_table is in holds.cells.rows_are.placed key txn c has.0 has.1 has.2

pub decided_placed : (w : State) (h : List Item) (x : Settling) (c : ℕ) (by_table : Bool) → IsolationInvariant w h → settle_turn x (told_by (settle_ask x) w.rows w.pairs) ≡ Decides (CommittedAt c by_table) → Committed h x.txn c
decided_placed w h x c by_table holds is = decided_at w h x.key x.txn c x.may_mark by_table x.point holds is

-- ---- a resolve goes on to its last look only where there is no record
shown_any : (rows : List Row) (h : List Item) (k t : ℕ) (p : SettlePoint) → ((c : ℕ) → Committed h t c → HasShadow rows k t c) → IsShownAt rows h k t p
shown_any rows h k t point.FirstLook shown = tt
shown_any rows h k t point.Table shown = tt
shown_any rows h k t point.Marking shown = tt
shown_any rows h k t (point.LastLook met) shown = shown

shadow_of_write : (rows : List Row) (h : List Item) (k t c : ℕ) (value : List ℕ) → looked rows k t ≡ cell_with t (Some c) (last_write h t k) → Wrote h t k value → HasShadow rows k t c
shadow_of_write rows h k t c value is wrote = (record { version = t; value = value; shadow = Some c }, is ∙ ap (cell_with t (Some c)) wrote, refl)

-- without a record a placed commit shows in each row that was written
pub shows_without_record : (w : State) (h : List Item) (k t : ℕ) (value : List ℕ) → IsolationInvariant w h → ((c : ℕ) → HasRecord w.pairs t c → ⊥) → Wrote h t k value → (c : ℕ) → Committed h t c → HasShadow w.rows k t c
shows_without_record w h k t value holds none wrote c placed = elim (holds.cells.placed.found t c placed) [
  | inl has ↦ absurd (none c has)
  | inr all ↦ shadow_of_write w.rows h k t c value (all k) wrote
]

decision_goes : (o : Outcome) (p : SettlePoint) → Decides o ≡ Goes p → ⊥
decision_goes o p same = cc

entry_goes : (found : Option Mark) (may_mark : Bool) (p : SettlePoint) → after_table may_mark (told_entry found) ≡ Goes p → (c : ℕ) → found ≡ Some (CommittedMark c) → ⊥
entry_goes None may_mark p is c has = none-some _ has
entry_goes (Some InvalidMark) may_mark p is c has = cc
entry_goes (Some (CommittedMark d)) may_mark p is c has = decision_goes _ p is

mark_goes : (found : Option Mark) (p : SettlePoint) → after_marking (told_mark found) ≡ Goes p → (c : ℕ) → found ≡ Some (CommittedMark c) → ⊥
mark_goes None p is c has = none-some _ has
mark_goes (Some InvalidMark) p is c has = cc
mark_goes (Some (CommittedMark d)) p is c has = decision_goes _ p is

point_same : (p q : SettlePoint) → Goes p ≡ Goes q → p ≡ q
point_same p q same = cc

first_goes_shadow : (shadow : Option ℕ) (p : SettlePoint) → after_first_look (told_shadow shadow) ≡ Goes p → point.Table ≡ p
first_goes_shadow None p is = point_same point.Table p is
first_goes_shadow (Some d) p is = absurd (decision_goes _ p is)

first_goes : (found : Option Cell) (p : SettlePoint) → after_first_look (told_cell found) ≡ Goes p → point.Table ≡ p
first_goes None p is = point_same point.Table p is
first_goes (Some cell) p is = first_goes_shadow cell.shadow p is

last_goes_shadow : (shadow : Option ℕ) (p : SettlePoint) → after_last_look (told_shadow shadow) ≡ Goes p → ⊥
last_goes_shadow None p is = decision_goes _ p is
last_goes_shadow (Some d) p is = decision_goes _ p is

last_goes : (found : Option Cell) (p : SettlePoint) → after_last_look (told_cell found) ≡ Goes p → ⊥
last_goes None p is = decision_goes _ p is
last_goes (Some cell) p is = last_goes_shadow cell.shadow p is

goes_shown_at : (w : State) (h : List Item) (key txn : ℕ) (value : List ℕ) (may_mark : Bool) (at p : SettlePoint) → IsolationInvariant w h → Wrote h txn key value → settle_turn_at may_mark at (told_by (ask_at key txn at) w.rows w.pairs) ≡ Goes p → IsShownAt w.rows h key txn p
goes_shown_at w h key txn value may_mark point.FirstLook p holds wrote is = subst (λ (q : SettlePoint). IsShownAt w.rows h key txn q) (first_goes (looked w.rows key txn) p is) tt
goes_shown_at w h key txn value may_mark point.Table p holds wrote is = shown_any w.rows h key txn p (shows_without_record w h key txn value holds (entry_goes (mark_of w.pairs txn) may_mark p is) wrote)
goes_shown_at w h key txn value may_mark point.Marking p holds wrote is = shown_any w.rows h key txn p (shows_without_record w h key txn value holds (mark_goes (mark_of w.pairs txn) p is) wrote)
goes_shown_at w h key txn value may_mark (point.LastLook met) p holds wrote is = absurd (last_goes (looked w.rows key txn) p is)

pub goes_shown : (w : State) (h : List Item) (x : Settling) (p : SettlePoint) (value : List ℕ) → IsolationInvariant w h → Wrote h x.txn x.key value → settle_turn x (told_by (settle_ask x) w.rows w.pairs) ≡ Goes p → IsShownAt w.rows h x.key x.txn p
goes_shown w h x p value holds wrote is = goes_shown_at w h x.key x.txn value x.may_mark x.point p holds wrote is

-- ---- that there is no commit is decided at the last look alone, where no shadow shows
entry_no_dead : (found : Option Mark) (may_mark : Bool) → after_table may_mark (told_entry found) ≡ Decides Dead → ⊥
entry_no_dead None may_mark is = goes_no_decision _ _ is
entry_no_dead (Some InvalidMark) may_mark is = goes_no_decision _ _ is
entry_no_dead (Some (CommittedMark d)) may_mark is = dead_no_commit d true (sym is)

mark_no_dead : (found : Option Mark) → after_marking (told_mark found) ≡ Decides Dead → ⊥
mark_no_dead None is = goes_no_decision _ _ is
mark_no_dead (Some InvalidMark) is = goes_no_decision _ _ is
mark_no_dead (Some (CommittedMark d)) is = dead_no_commit d true (sym is)

first_no_dead_shadow : (shadow : Option ℕ) → after_first_look (told_shadow shadow) ≡ Decides Dead → ⊥
first_no_dead_shadow None is = goes_no_decision _ _ is
first_no_dead_shadow (Some d) is = dead_no_commit d false (sym is)

first_no_dead : (found : Option Cell) → after_first_look (told_cell found) ≡ Decides Dead → ⊥
first_no_dead None is = goes_no_decision _ _ is
first_no_dead (Some cell) is = first_no_dead_shadow cell.shadow is

last_dead : (found : Option Cell) (cell : Cell) (c : ℕ) → after_last_look (told_cell found) ≡ Decides Dead → found ≡ Some cell → cell.shadow ≡ Some c → ⊥
last_dead found cell c is there shadow = dead_no_commit c false (sym (sym (ap (λ o. after_last_look (told_cell o)) there ∙ ap (λ o. after_last_look (told_shadow o)) shadow) ∙ is))

dead_at : (rows : List Row) (pairs : Pairs) (h : List Item) (key txn : ℕ) (may_mark : Bool) (at : SettlePoint) → IsShownAt rows h key txn at → settle_turn_at may_mark at (told_by (ask_at key txn at) rows pairs) ≡ Decides Dead → (c : ℕ) → Committed h txn c → ⊥
dead_at rows pairs h key txn may_mark point.FirstLook shown is c placed = first_no_dead (looked rows key txn) is
dead_at rows pairs h key txn may_mark point.Table shown is c placed = entry_no_dead (mark_of pairs txn) may_mark is
dead_at rows pairs h key txn may_mark point.Marking shown is c placed = mark_no_dead (mark_of pairs txn) is
dead_at rows pairs h key txn may_mark (point.LastLook met) shown is c placed = let has = shown c placed in last_dead (looked rows key txn) has.0 c is has.1 has.2

pub dead_unplaced : (w : State) (h : List Item) (x : Settling) → IsShownAt w.rows h x.key x.txn x.point → settle_turn x (told_by (settle_ask x) w.rows w.pairs) ≡ Decides Dead → (c : ℕ) → Committed h x.txn c → ⊥
dead_unplaced w h x shown is c placed = dead_at w.rows w.pairs h x.key x.txn x.may_mark x.point shown is c placed
