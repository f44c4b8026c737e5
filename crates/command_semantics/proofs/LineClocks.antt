-- The events of lines read the clocks: each reading is that of its node's clock, and the clock's line alone ticks.
use Rattle.std.proofs.Common.{arith}
use Rattle.command_semantics.proofs.Names.{◌≡◌, ℕ, Option, Some, None, subst, Actor}
use Rattle.command_semantics.proofs.Names.{Clock, Event, Verb, Point}
use Rattle.command_semantics.proofs.Names.{View, Clocks}
use Rattle.command_semantics.proofs.Names.{clock_opens, node_opens, session_next}
use Rattle.command_semantics.proofs.Names.{janitor_next, opens_alone, next, tick_by, ReadsClocks, tick_at}
use Rattle.command_semantics.proofs.Names.{LinesReadClocks}

abbrev IfReads : Clocks → Option ℕ → Option Event → Type 0
IfReads clocks tick None = Unit {0}
IfReads clocks tick (Some e) = ReadsClocks clocks tick e

node_reads : (clocks : Clocks) (node : ℕ) (line : Verb) → IfReads clocks None (node_opens clocks node line)
node_reads clocks node line = grind arith

session_reads : (clocks : Clocks) (session : ℕ) (line : Verb) (view : View) (at : Point) → IfReads clocks None (session_next clocks session line view at)
session_reads clocks session line view at = grind arith

janitor_reads : (clocks : Clocks) (line : Verb) (view : View) (at : Point) → IfReads clocks None (janitor_next line view at)
janitor_reads clocks line view at = grind arith

-- a line of one event
alone_reads : (clocks : Clocks) (first : Option Event) (at : Point) → IfReads clocks None first → IfReads clocks None (opens_alone first at)
alone_reads clocks first at reads = grind arith

clock_line : (clocks : Clocks) (line : Verb) (at : Point) → IfReads clocks (tick_at at Clock line) (opens_alone (clock_opens clocks.base line) at)
clock_line clocks line at = grind arith

-- no other actor ticks
other_line : (clocks : Clocks) (actor : Actor) (line : Verb) (at : Point) (found : Option Event) → tick_by actor line ≡ None → IfReads clocks None found → IfReads clocks (tick_at at actor line) found
other_line clocks actor line at found none reads = grind arith

lines_read : (clocks : Clocks) (actor : Actor) (line : Verb) (at : Point) (view : View) → IfReads clocks (tick_at at actor line) (next clocks actor line at view)
lines_read clocks actor line at view =
    grind (arith, clock_line, other_line, alone_reads, node_reads, session_reads, janitor_reads)

pub lines_read_clocks : LinesReadClocks
lines_read_clocks clocks actor line at view e is = subst (λ (found : Option Event). IfReads clocks (tick_at at actor line) found) is (lines_read clocks actor line at view)
