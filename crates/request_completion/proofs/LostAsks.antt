-- A node that is refused for want of an instance has none, so that no ask is open there.
use Rattle.std.proofs.Common.{arith}
use Rattle.request_completion.proofs.Names.{◌≡◌, ℕ, Bool, if◌then◌else◌, List, [], ◌∷◌, Option, None, Some, inl}
use Rattle.request_completion.proofs.Names.{inr, take, slice_get, option_or, eq-eqb, none-some}
use Rattle.request_completion.proofs.Names.{SetupNumbers, Actor, Clock, Node, Session, Janitor, Item, Request, Begin}
use Rattle.request_completion.proofs.Names.{Commit, State, stepped, Due, DueNow, cause_of_loss, dues, place_of}
use Rattle.request_completion.proofs.Names.{LostAsksAreOver}
use Rattle.history_book.specs.declared.cause.Cause.TheVariants as cause
use Rattle.history_book.specs.declared.item.Item.TheVariants as item
use Rattle.cause_rules.specs.Explained.{ShownCause}
use Rattle.cause_rules.specs.Posts.{Taken}

-- ---- no cause is shown by everything: a node that has taken the record has an instance
abbrev took : ℕ → List Item
took n = item.Take n 0 0 0 0 0 ∷ []

abbrev first_taken : Taken
first_taken = record { term = 0; epoch = 0; until = 0 }

abbrev taken_if : Bool → Option Taken
taken_if own = if own then Some first_taken else None

abbrev taken_by : Bool → Option Taken
taken_by own = option_or (taken_if own) None

abbrev left_by : ℕ → Bool → List Item
left_by n own = if own then [] else took n

shown_not : (setup : SetupNumbers) (actor : Actor) (n : ℕ) → ShownCause setup (took n) actor (cause.NoOracle n) → ⊥
shown_not setup actor n shown = grind (arith, eq-eqb, none-some)

loss_not : (n node term : ℕ) (request : Request) → cause.NoOracle n ≡ cause_of_loss node term request → ⊥
loss_not n node term (Begin session) is = cc
loss_not n node term (Commit session start keys) is = cc

-- ---- the node has no instance
now_vacant : (w : State) (actor : Actor) (n : ℕ) → DueNow w actor (cause.NoOracle n) → slice_get w.nodes n ≡ Some None
now_vacant w (Session s) n due = due
now_vacant w (Node m) n due = due.1
now_vacant w Janitor n due = due
now_vacant w Clock n due = absurd due

due_vacant : (w : State) (told : List Item) (actor : Actor) (n : ℕ) → Due w told (item.Refused actor (cause.NoOracle n)) → slice_get w.nodes n ≡ Some None
due_vacant w told actor n (inl any) = absurd (shown_not w.setup actor n (any w.setup (took n)))
due_vacant w told actor n (inr (inl now)) = now_vacant w actor n now.1
due_vacant w told actor n (inr (inr (inl loss))) = absurd (loss_not n loss.serves.node loss.i.term loss.request loss.why_is)
due_vacant w told actor n (inr (inr (inr placing))) = absurd placing.how

pub lost_asks_are_over : LostAsksAreOver
lost_asks_are_over w h e fate actor n s tells m =
    let x : Item = item.Refused actor (cause.NoOracle n) in
    let place : (p : ℕ) × (slice_get (stepped w e fate).items p ≡ Some x) = place_of x (stepped w e fate).items m in
    let vacant : slice_get w.nodes n ≡ Some None = due_vacant w (take place.0 (stepped w e fate).items) actor n ((dues w h e fate tells.stands).at place.0 x place.1) in
    tells.shows.open_asks.each n s None vacant
