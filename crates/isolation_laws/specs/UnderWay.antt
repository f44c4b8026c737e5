-- What sessions and the janitor have under way: completions, the resolve of an own commit, offered shadows, sweeps.
use Rattle.std.specs.Prelude.{◌≡◌, ◌≢◌, ℕ, ◌⊎◌, true, false, List, [], ◌∷◌, Option, Some}
use Rattle.history_book.specs.Members.{◌∈◌}
use Rattle.history_book.specs.Isolation.{Committed, Wrote, WasListed}
use Rattle.history_book.specs.declared.item.Item.{Item}
use Rattle.stamp_base.specs.declared.stores.Mark.TheVariants.{Committed as CommittedMark, Invalid as InvalidMark}
use Rattle.system_parts.specs.declared.rows.Cell.{Cell}
use Rattle.system_parts.specs.Rows.{Row, looked}
use Rattle.system_parts.specs.Pairs.{Pairs}
use Rattle.system_parts.specs.declared.asks.Ask.{Ask}
use Rattle.system_parts.specs.declared.resolve.SettlePoint.{SettlePoint}
use Rattle.system_parts.specs.declared.resolve.SettlePoint.TheVariants.{LastLook}
use Rattle.system_parts.specs.declared.session.State.TheVariants as phase
use Rattle.system_parts.specs.Completion.{finish_asks, undo_asks}
use Rattle.system_parts.specs.Resolve.{Settling}
use Rattle.system_parts.specs.Sweep.{SweepPoint, Table, Marking, Listing, Left, Undecided, Sweeping}
use Rattle.machine.specs.State.{Nothing, Settles, Completes, Client}
use Rattle.isolation_laws.specs.Words.{ClientAt, TxnAt, Marked}

-- the row has the commit as its shadow
abbrev pub HasShadow : List Row → ℕ → ℕ → ℕ → Type 0
HasShadow rows k t c = (cell : Cell) × (looked rows k t ≡ Some cell) × (cell.shadow ≡ Some c)

-- the asks fill the shadows that are missing, and then remove the record
pub record IsFinish (rows : List Row) (h : List Item) (t c : ℕ) (asks : List Ask) : Type 0 where
  pub left : List ℕ
  pub shape : asks ≡ finish_asks t c left
  pub placed : Committed h t c
  pub covered : (k : ℕ) (value : List ℕ) → Wrote h t k value → (k ∈ left) ⊎ HasShadow rows k t c

-- a completion that fills shadows has what it needs
pub record AreFinishing (clients : List Client) (rows : List Row) (h : List Item) : Type 0 where
  pub finish : (s : ℕ) (c : Client) (asks : List Ask) → ClientAt clients s c → c.entry.state ≡ phase.Completing false → c.under_way ≡ Completes asks → (t : ℕ) × (commit : ℕ) × (c.entry.start ≡ Some t) × (c.entry.commit ≡ Some commit) × IsFinish rows h t commit asks
  pub busy : (s : ℕ) (c : Client) → ClientAt clients s c → c.entry.state ≡ phase.Completing false → (asks : List Ask) × (c.under_way ≡ Completes asks)

-- the asks erase cells
pub record IsUndo (t : ℕ) (asks : List Ask) : Type 0 where
  pub left : List ℕ
  pub shape : asks ≡ undo_asks t left
  pub some : left ≢ []

-- a completion that erases is of a transaction that was never placed, and never will be
pub record AreUndoing (clients : List Client) (h : List Item) : Type 0 where
  pub undo : (s t : ℕ) (c : Client) (asks : List Ask) → ClientAt clients s c → c.entry.state ≡ phase.Completing true → c.entry.start ≡ Some t → c.under_way ≡ Completes asks → IsUndo t asks
  pub busy : (s : ℕ) (c : Client) → ClientAt clients s c → c.entry.state ≡ phase.Completing true → (asks : List Ask) × (c.under_way ≡ Completes asks)
  pub unplaced : (s t c : ℕ) → TxnAt clients s (phase.Completing true) t → Committed h t c → ⊥

-- at the last look, a placed commit shows in the row
abbrev pub IsShownAt : List Row → List Item → ℕ → ℕ → SettlePoint → Type 0
IsShownAt rows h k t (LastLook met) = (c : ℕ) → Committed h t c → HasShadow rows k t c
IsShownAt rows h k t _ = Unit {0}

-- the resolve of an own commit is of the transaction's first key, may mark, and decides rightly
pub record IsOwnResolve (rows : List Row) (h : List Item) (t : ℕ) (keys : List ℕ) (x : Settling) : Type 0 where
  pub key : (rest : List ℕ) × (keys ≡ x.key ∷ rest)
  pub txn : x.txn ≡ t
  pub marks : x.may_mark ≡ true
  pub shown : IsShownAt rows h x.key t x.point

-- with an open outcome there is nothing under way, or the resolve of the own commit; a resolve is under way nowhere else
pub record AreSettling (clients : List Client) (rows : List Row) (h : List Item) : Type 0 where
  pub resolve : (s : ℕ) (c : Client) → ClientAt clients s c → c.entry.state ≡ phase.OpenOutcome → (c.under_way ≡ Nothing) ⊎ ((x : Settling) × (t : ℕ) × (c.under_way ≡ Settles x) × (c.entry.start ≡ Some t) × IsOwnResolve rows h t c.entry.keys x)
  pub only : (s : ℕ) (c : Client) (x : Settling) → ClientAt clients s c → c.under_way ≡ Settles x → c.entry.state ≡ phase.OpenOutcome

-- the shadow that is offered is that of a placed commit
pub record AreHeals (clients : List Client) (h : List Item) : Type 0 where
  pub placed : (s k t commit : ℕ) (c : Client) → ClientAt clients s c → c.heal ≡ Some (k, t, commit) → Committed h t commit

-- what a sweep knows at its point: it finishes what is placed, and undoes what is marked
abbrev pub IsSweptAt : List Row → Pairs → List Item → ℕ → SweepPoint → Type 0
IsSweptAt rows pairs h t Table = Unit {0}
IsSweptAt rows pairs h t Marking = Unit {0}
IsSweptAt rows pairs h t (Listing (CommittedMark c)) = Committed h t c
IsSweptAt rows pairs h t (Listing InvalidMark) = Marked pairs t
IsSweptAt rows pairs h t (Left asks) = ((c : ℕ) × IsFinish rows h t c asks) ⊎ ((left : List ℕ) × (asks ≡ undo_asks t left) × Marked pairs t × WasListed h t)
IsSweptAt rows pairs h t Undecided = Unit {0}

pub record IsSweeping (sweep : Option Sweeping) (rows : List Row) (pairs : Pairs) (h : List Item) : Type 0 where
  pub knows : (s : Sweeping) → sweep ≡ Some s → IsSweptAt rows pairs h s.txn s.point

-- a session that is to place its commit knows it
pub record AreHanded (clients : List Client) : Type 0 where
  pub commit : (s : ℕ) (c : Client) → ClientAt clients s c → c.entry.state ≡ phase.Placing → (commit : ℕ) × (c.entry.commit ≡ Some commit)

pub record UnderWayFacts (clients : List Client) (sweep : Option Sweeping) (rows : List Row) (pairs : Pairs) (h : List Item) : Type 0 where
  pub finishing : AreFinishing clients rows h
  pub undoing : AreUndoing clients h
  pub settling : AreSettling clients rows h
  pub handed : AreHanded clients
  pub heals : AreHeals clients h
  pub sweeping : IsSweeping sweep rows pairs h
