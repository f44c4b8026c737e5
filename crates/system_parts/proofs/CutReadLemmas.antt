-- For this crate's own proofs.
-- Public laws, for the proofs of crates above: a read that has the front of the cells beside one that has them all.
use Rattle.std.proofs.Common.{◌≡◌, ℕ, suc, ◌==◌, nat_lt, Bool, true, false, cond, List, [], ◌∷◌, Option, None, Some, refl, ap, arith}
use Rattle.std.proofs.lemmas.Bool.{lt-leb, leb-true}
use Rattle.system_parts.specs.declared.rows.Cell.{Cell}
use Rattle.system_parts.specs.Rows.{is_below, front_of}
use Rattle.system_parts.specs.declared.resolve.Outcome.TheVariants.{Committed, Dead}
use Rattle.system_parts.specs.declared.key_read.Next.TheVariants.{Done as NextDone}
use Rattle.system_parts.specs.declared.asks.Told.{Told}
use Rattle.system_parts.specs.Resolve.{SettleTurn, Goes, Decides, settle_turn}
use Rattle.system_parts.specs.KeyRead.{is_late, is_passed, after_passed, Reading, ReadTurn, Asks, Answers, settling_of, turn_at, read_over, read_by, read_told, next_of}
use Rattle.system_parts.specs.CutReads.{IsCut, IsCutTurn, read_after, CutReadsAreWhole}

pub passed_over : (start : ℕ) (own : Bool) (shadow : Option ℕ) → cond own false (is_late start shadow) ≡ true → is_below start shadow ≡ false
passed_over start true shadow e = absurd cc
passed_over start false None e = refl
passed_over start false (Some commit) e = lt-leb (suc commit) start (omega (arith, leb-true start commit e))

stays : (start : ℕ) (c : Cell) (cs : List Cell) (below : Bool) → is_below start c.shadow ≡ below → is_passed start c ≡ false → after_passed start (front_of start (c ∷ cs)) ≡ front_of start (c ∷ cs)
unfolding after_passed front_of
stays start c cs true b e = rw (b, e) refl
stays start c cs false b e = rw (b, e) refl

passes_cons : (start : ℕ) (c : Cell) (cs : List Cell) (passed : Bool) → is_passed start c ≡ passed → after_passed start (front_of start cs) ≡ front_of start (after_passed start cs) → after_passed start (front_of start (c ∷ cs)) ≡ front_of start (after_passed start (c ∷ cs))
unfolding after_passed front_of
passes_cons start c cs true e h = let late : is_below start c.shadow ≡ false = passed_over start (c.version == start) c.shadow e in rw (late, e) h
passes_cons start c cs false e h = rw e (stays start c cs (is_below start c.shadow) refl e)

-- a read passes over the same cells, and what is left is the front of what is left of all
front_passed : (start : ℕ) (cells : List Cell) → after_passed start (front_of start cells) ≡ front_of start (after_passed start cells)
unfolding after_passed front_of
front_passed start [] = refl
front_passed start (c ∷ cs) = passes_cons start c cs (is_passed start c) refl (front_passed start cs)

turn_shadowed : (every : Bool) (key start epoch version commit : ℕ) (value : List ℕ) (cs : List Cell) (own below : Bool) → (version == start) ≡ own → nat_lt commit start ≡ below → let c : Cell = record { version = version; value = value; shadow = Some commit } in IsCutTurn (turn_at every key start epoch (front_of start (c ∷ cs))) (turn_at every key start epoch (c ∷ cs))
unfolding front_of
turn_shadowed every key start epoch version commit value cs true true e b = rw (b, e) refl
turn_shadowed every key start epoch version commit value cs true false e b = rw (b, e) refl
turn_shadowed every key start epoch version commit value cs false true e b = rw (b, e) refl
turn_shadowed every key start epoch version commit value cs false false e b = rw (b, e) refl

turn_cell : (every : Bool) (key start epoch version : ℕ) (value : List ℕ) (shadow : Option ℕ) (cs : List Cell) (own : Bool) → (version == start) ≡ own → let c : Cell = record { version = version; value = value; shadow = shadow } in IsCutTurn (turn_at every key start epoch (front_of start (c ∷ cs))) (turn_at every key start epoch (c ∷ cs))
unfolding front_of
turn_cell every key start epoch version value None cs true e = rw e refl
turn_cell every key start epoch version value None cs false e = rw e refl
turn_cell every key start epoch version value (Some commit) cs own e = turn_shadowed every key start epoch version commit value cs own (nat_lt commit start) e refl

turn_cut : (every : Bool) (key start epoch : ℕ) (cells : List Cell) → IsCutTurn (turn_at every key start epoch (front_of start cells)) (turn_at every key start epoch cells)
unfolding front_of
turn_cut every key start epoch [] = refl
turn_cut every key start epoch (c ∷ cs) = turn_cell every key start epoch c.version c.value c.shadow cs (c.version == start) refl

cut_begins : (every : Bool) (key start epoch : ℕ) (cells : List Cell) → IsCutTurn (read_over every key start epoch (front_of start cells)) (read_over every key start epoch cells)
cut_begins every key start epoch cells = rw (front_passed start cells) (turn_cut every key start epoch (after_passed start cells))

-- the read with the front of its older cells
abbrev pub cut_of : Reading → Reading
cut_of whole = record whole { older = front_of whole.start whole.older }

committed_cut : (whole : Reading) (commit : ℕ) (by_table below : Bool) → nat_lt commit whole.start ≡ below → IsCutTurn (read_by (cut_of whole) (Decides (Committed commit by_table))) (read_by whole (Decides (Committed commit by_table)))
committed_cut whole commit by_table true e = rw e refl
committed_cut whole commit by_table false e = rw e (cut_begins whole.every whole.key whole.start whole.epoch whole.older)

by_cut : (whole : Reading) (turn : SettleTurn) → IsCutTurn (read_by (cut_of whole) turn) (read_by whole turn)
by_cut whole (Goes p) = refl
by_cut whole (Decides Dead) = cut_begins whole.every whole.key whole.start whole.epoch whole.older
by_cut whole (Decides (Committed commit by_table)) = committed_cut whole commit by_table (nat_lt commit whole.start) refl

cut_goes_on : (cut whole : Reading) (told : Told) → IsCut cut whole → IsCutTurn (read_told cut told) (read_told whole told)
cut_goes_on cut whole told h = rw h (by_cut whole (settle_turn (settling_of whole) told))

cut_shows : (cut whole : ReadTurn) → IsCutTurn cut whole → next_of cut ≡ next_of whole
cut_shows (Answers a) (Answers b) h = ap NextDone h
cut_shows (Asks cut) (Asks whole) h = rw h refl
cut_shows (Answers a) (Asks whole) h = absurd h
cut_shows (Asks cut) (Answers b) h = absurd h

cut_runs : (cut whole : ReadTurn) (tolds : List Told) → IsCutTurn cut whole → IsCutTurn (read_after tolds cut) (read_after tolds whole)
unfolding read_after
cut_runs cut whole [] h = h
cut_runs (Asks cut) (Asks whole) (told ∷ tolds) h = cut_runs (read_told cut told) (read_told whole told) tolds (cut_goes_on cut whole told h)
cut_runs (Answers a) (Answers b) (told ∷ tolds) h = h
cut_runs (Answers a) (Asks whole) (told ∷ tolds) h = absurd h
cut_runs (Asks cut) (Answers b) (told ∷ tolds) h = absurd h

pub cut_reads_are_whole : CutReadsAreWhole
cut_reads_are_whole = record {
  begins = cut_begins;
  goes_on = cut_goes_on;
  asks = λ cut whole h. rw h (refl, refl, refl);
  shows = cut_shows;
  runs = λ every key start epoch cells tolds. cut_shows (read_after tolds (read_over every key start epoch (front_of start cells))) (read_after tolds (read_over every key start epoch cells)) (cut_runs (read_over every key start epoch (front_of start cells)) (read_over every key start epoch cells) tolds (cut_begins every key start epoch cells));
}
