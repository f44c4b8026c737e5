-- For cluster_core too.
-- What the calls of sessions and of the janitor on the stores need follows from the facts of cells and of what is under way.
use Rattle.cause_laws.proofs.Names.{◌≡◌, ℕ, ◌<◌, ◌≤◌, Bool, true, false, List, [], ◌∷◌, Option, Some, None, inl, inr}
use Rattle.cause_laws.proofs.Names.{refl, sym, subst, arith, All, IfSome, none-some, All-nil, All-cons, All-head}
use Rattle.cause_laws.proofs.Names.{All-tail, Committed, Stamped, last_write, Item, SettlePoint, SessionState, Reading}
use Rattle.cause_laws.proofs.Names.{may_mark, work_refusal, key_refusal, Client, State, is_reading, KeepsShadowNext}
use Rattle.cause_laws.proofs.Names.{ClientAt, epoch_or_none, cell_with, IsOpen, IsolationInvariant, Sound, swept_fills}
use Rattle.cause_laws.proofs.Names.{work_open, write_may, ExplainedInvariant, WriteMayBeMade, HealMayBeMade}
use Rattle.cause_laws.proofs.Names.{ReadsFetched, ReadMayGoOn, SweepMayStep}
use Rattle.std.specs.Bool.{IsTrue}
use Rattle.system_parts.specs.declared.rows.Cell.{Cell}
use Rattle.system_parts.specs.Rows.{Row, looked, IsBare, HasOnly}
use Rattle.system_parts.specs.declared.asks.Ask.{Ask}
use Rattle.system_parts.specs.declared.asks.Ask.TheVariants as ask
use Rattle.system_parts.specs.declared.resolve.SettlePoint.TheVariants.{Marking}
use Rattle.system_parts.specs.declared.session.State.TheVariants as phase
use Rattle.system_parts.specs.Sweep.{Sweeping, sweep_ask}
use Rattle.machine.specs.Events.Heal.{offer_by, offer_of}
use Rattle.isolation_laws.specs.Cells.{AreRows}
use Rattle.isolation_laws.specs.Reads.{IsReading, IsResolvedTo}
use Rattle.isolation_laws.proofs.OnceEach.{one_commit}

-- ---- the only shadow that a cell may have
shadow_only : (rows : List Row) (h : List Item) (k t commit : ℕ) (cell : Cell) → AreRows rows h → Stamped h → Committed h t commit → looked rows k t ≡ Some cell → (shadow : Option ℕ) → cell.shadow ≡ shadow → IfSome shadow (λ there. there ≡ commit)
shadow_only rows h k t commit cell are stamped placed found None is = tt
shadow_only rows h k t commit cell are stamped placed found (Some there) is = one_commit h t there commit stamped (are.placed k t there cell found is) placed

found_only : (rows : List Row) (h : List Item) (k t commit : ℕ) → AreRows rows h → Stamped h → Committed h t commit → (found : Option Cell) → looked rows k t ≡ found → IfSome found (λ cell. IfSome cell.shadow (λ there. there ≡ commit))
found_only rows h k t commit are stamped placed None is = tt
found_only rows h k t commit are stamped placed (Some cell) is = shadow_only rows h k t commit cell are stamped placed is cell.shadow refl

-- a placed commit is
pub only_shadow : (w : State) (h : List Item) (k t commit : ℕ) → IsolationInvariant w h → Committed h t commit → HasOnly w.rows k t commit
only_shadow w h k t commit holds placed = found_only w.rows h k t commit holds.cells.rows_are holds.isolated.stamped placed (looked w.rows k t) refl

-- ---- write
bare_with : (t : ℕ) (value : Option (List ℕ)) → IfSome (cell_with t None value) (λ cell. cell.shadow ≡ None)
bare_with t None = tt
bare_with t (Some value) = refl

is_bare : (rows : List Row) (k t : ℕ) (found : Option Cell) → looked rows k t ≡ found → IfSome found (λ cell. cell.shadow ≡ None) → IsBare rows k t
is_bare rows k t found is bare = subst (λ (o : Option Cell). IfSome o (λ cell. cell.shadow ≡ None)) (sym is) bare

open_bare : (w : State) (h : List Item) (session key : ℕ) (c : Client) → IsolationInvariant w h → ClientAt w.clients session c → work_refusal c.entry.state (is_reading c) ≡ None → (start : Option ℕ) → c.entry.start ≡ start → IfSome start (λ t. IsBare w.rows key t)
open_bare w h session key c holds at go None begun = tt
open_bare w h session key c holds at go (Some t) begun =
    let live : IsOpen w.clients t = record {
      session = session;
      epoch = epoch_or_none c.entry.epoch;
      open_at = record { client = c; at = at; state_is = (work_open c.entry.state (is_reading c) go).0; start_is = begun; epoch_is = refl };
    } in
    elim (holds.cells.live.bare t key (inl live)) [
      | inl bare ↦ is_bare w.rows key t (cell_with t None (last_write h t key)) bare (bare_with t (last_write h t key))
      | inr gone ↦ is_bare w.rows key t None gone.0 tt
    ]

pub writes_bare : (w : State) (h : List Item) → ExplainedInvariant w h → WriteMayBeMade w
writes_bare w h tells session key c at go =
    open_bare w h session key c tells.stands.holds at (write_may (work_refusal c.entry.state (is_reading c)) (key_refusal c.entry.keys key) go) c.entry.start refl

-- ---- heal
offered : (state : SessionState) (reading : Bool) (heal : Option (ℕ × ℕ × ℕ)) (offer : ℕ × ℕ × ℕ) → offer_by state reading heal ≡ Some offer → heal ≡ Some offer
offered phase.Open false heal offer is = is
offered phase.Open true heal offer is = absurd (none-some offer is)
offered _ reading heal offer is = absurd (none-some offer is)

offer_only : (w : State) (h : List Item) (session : ℕ) (c : Client) → IsolationInvariant w h → ClientAt w.clients session c → (offer : Option (ℕ × ℕ × ℕ)) → offer_of c ≡ offer → IfSome offer (λ o. HasOnly w.rows o.0 o.1 o.2)
offer_only w h session c holds at None is = tt
offer_only w h session c holds at (Some offer) is =
    only_shadow w h offer.0 offer.1 offer.2 holds (holds.under_way.heals.placed session offer.0 offer.1 offer.2 c at (offered c.entry.state (is_reading c) c.heal offer is))

pub heals_only : (w : State) (h : List Item) → ExplainedInvariant w h → HealMayBeMade w
heals_only w h tells session c at = offer_only w h session c tells.stands.holds at (offer_of c) refl

-- ---- reads
all_upto : (b start : ℕ) (cells : List Cell) → b ≡ start → All (λ (c : Cell). c.version < b) cells → All (λ (c : Cell). c.version ≤ start) cells
all_upto b start [] same below = All-nil (λ (c : Cell). c.version ≤ start)
all_upto b start (cell ∷ cells) same below =
    let first : cell.version < b = All-head (λ (c : Cell). c.version < b) cell cells below in
    All-cons (λ (c : Cell). c.version ≤ start) cell cells (omega (arith, first, same)) (all_upto b start cells same (All-tail (λ (c : Cell). c.version < b) cell cells below))

marks_old : (w : State) (h : List Item) (k b : ℕ) (every : Bool) (e t epoch : ℕ) (point : SettlePoint) → e ≡ epoch → IsResolvedTo w.pairs w.rows h k b every e t point → point ≡ Marking → IsTrue (may_mark every t epoch)
marks_old w h k b every e t epoch point same resolved is =
    subst (λ x. IsTrue (may_mark every t x)) same (subst (λ (p : SettlePoint). IsResolvedTo w.pairs w.rows h k b every e t p) is resolved)

reading_fetched : (w : State) (h : List Item) (b e : ℕ) (r : Reading) → IsReading w.setup w.clients w.nodes w.rows w.pairs h b e r → ReadsFetched r
reading_fetched w h b e r is = record {
  fetched = record { falling = is.sees.falling; upto = all_upto b r.start (r.cell ∷ r.older) (sym is.start_is) is.sees.below };
  marks = marks_old w h r.key b r.every e r.cell.version r.epoch r.point (sym is.epoch_is) is.resolved;
}

pub reads_fetched : (w : State) (h : List Item) → ExplainedInvariant w h → ReadMayGoOn w
reads_fetched w h tells session c r at reads =
    let reading = tells.stands.holds.reads.reading.reads session c r at reads in
    reading_fetched w h reading.0 reading.1 r reading.3

-- ---- the sweep
-- each shadow that may be asked next is the only one
pub keeps_next : (rows : List Row) (next : Option Ask) → ((k t commit : ℕ) → next ≡ Some (ask.Shadow k t commit) → HasOnly rows k t commit) → KeepsShadowNext next rows
keeps_next rows (Some (ask.Shadow k t commit)) only = only k t commit refl
keeps_next rows _ only = tt

sweep_asks : (w : State) → Sound w → (sweep : Option Sweeping) → w.sweep ≡ sweep → IfSome sweep (λ s. sweep_ask s ≡ None → ⊥)
sweep_asks w sound None is_open = tt
sweep_asks w sound (Some s) is_open = sound.sweeps.asks s is_open

sweep_keeps : (w : State) (h : List Item) → IsolationInvariant w h → (sweep : Option Sweeping) → w.sweep ≡ sweep → IfSome sweep (λ s. KeepsShadowNext (sweep_ask s) w.rows)
sweep_keeps w h holds None is_open = tt
sweep_keeps w h holds (Some s) is_open =
    keeps_next w.rows (sweep_ask s) (λ k t commit next. only_shadow w h k t commit holds (swept_fills w h s (ask.Shadow k t commit) holds is_open next k t commit refl))

pub sweeps_ask : (w : State) (h : List Item) → ExplainedInvariant w h → SweepMayStep w
sweeps_ask w h tells = record { asks = sweep_asks w tells.stands.sound w.sweep refl; shadow = sweep_keeps w h tells.stands.holds w.sweep refl }
