-- For cluster_core too.
-- With strict reads every history is serial: what is placed was drawn, and what those that were drawn have read stood.
use Rattle.isolation_laws.proofs.Names.{◌≡◌, ℕ, ◌<◌, List, Some, take, ◌⊎◌, inl, inr, sym, arith, slice_get, Item, Read}
use Rattle.isolation_laws.proofs.Names.{SerialIfStrict, State, ArePlaced, DrawnSerial, IsolationInvariant}
use Rattle.history_book.specs.Serial.{StoodAtCommit, Serial}

-- a commit below the reader's start, or above its commit, is not between them
not_between : (t c d : ℕ) → (c < t) ⊎ (d < c) → t < c → c < d → ⊥
not_between t c d (inl below) above before = omega (arith, below, above)
not_between t c d (inr after) above before = omega (arith, after, before)

stood_at : (h : List Item) (place : ℕ) (x : Item) → ArePlaced h → DrawnSerial h → slice_get h place ≡ Some x → StoodAtCommit h (take place h) x
stood_at h place (Read s t k answer) placed drawn found = λ unwritten d committed u c value other differ wrote above before.
    let reader = placed.drawn t d committed in
    let writer = placed.drawn u c other in
    not_between t c d
    (drawn.stood reader.0 writer.0 reader.1 writer.1 reader.2 writer.2 t d u c k value reader.3 writer.3 (λ same. differ (sym same)) (record { place = place; session = s; answer = answer; read = found; unwritten = unwritten }) wrote) above before
stood_at h place _ placed drawn found = tt

pub serial_of_drawn : (h : List Item) → ArePlaced h → DrawnSerial h → Serial h
serial_of_drawn h placed drawn = record { at = λ place x found. stood_at h place x placed drawn found }

pub serial_if_strict : (w : State) (h : List Item) → IsolationInvariant w h → SerialIfStrict w.setup h
serial_if_strict w h holds strict = serial_of_drawn h holds.numbers.placed (holds.memory.serial strict)
