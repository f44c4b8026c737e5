-- An item that answers a line opens a line of no other actor.
use Rattle.std.proofs.Common.{arith}
use Rattle.command_semantics.proofs.Names.{◌≡◌, ℕ, List, Some, None, same_Some, none-some}
use Rattle.command_semantics.proofs.Names.{Actor, Clock, Node, Session, Note, Item, Target, Verb, opener, IsTick}
use Rattle.command_semantics.proofs.Names.{IsNote, IsTake, IsRenew, IsCrash, IsVanish, IsAskBegin, IsAskCommit, IsWrite}
use Rattle.command_semantics.proofs.Names.{IsFetch, IsOpeningOf, IsRefusal, EndsInstead, IsAnswer}
use Rattle.command_semantics.specs.Answers.{Opens}

tick_own : (x : Item) → IsTick x → opener x ≡ Some Clock
tick_own x is = grind arith

note_own : (actor : Actor) (said : Note) (x : Item) → IsNote actor said x → opener x ≡ Some actor
note_own actor said x is = grind arith

take_own : (n : ℕ) (x : Item) → IsTake n x → opener x ≡ Some (Node n)
take_own n x is = grind arith

renew_own : (n : ℕ) (x : Item) → IsRenew n x → opener x ≡ Some (Node n)
renew_own n x is = grind arith

crash_own : (n : ℕ) (x : Item) → IsCrash n x → opener x ≡ Some (Node n)
crash_own n x is = grind arith

vanish_own : (s : ℕ) (x : Item) → IsVanish s x → opener x ≡ Some (Session s)
vanish_own s x is = grind arith

begin_own : (s : ℕ) (asked : ℕ → Type 0) (x : Item) → IsAskBegin s asked x → opener x ≡ Some (Session s)
begin_own s asked x is = grind arith

commit_own : (s : ℕ) (asked : ℕ → Type 0) (x : Item) → IsAskCommit s asked x → opener x ≡ Some (Session s)
commit_own s asked x is = grind arith

write_own : (s k : ℕ) (v : List ℕ) (x : Item) → IsWrite s k v x → opener x ≡ Some (Session s)
write_own s k v x is = grind arith

fetch_own : (s k : ℕ) (x : Item) → IsFetch s k x → opener x ≡ Some (Session s)
fetch_own s k x is = grind arith

opening_own : (asks : Target → ℕ → Type 0) (actor : Actor) (line : Verb) (x : Item) → IsOpeningOf asks actor line x → opener x ≡ Some actor
opening_own asks actor line x is =
    grind (arith, note_own, tick_own, take_own, renew_own, crash_own, vanish_own, begin_own, commit_own, write_own, fetch_own)

refusal_own : (actor : Actor) (x : Item) → IsRefusal actor x → opener x ≡ None
refusal_own actor x is = grind arith

instead_own : (actor : Actor) (line : Verb) (x : Item) → EndsInstead actor line x → opener x ≡ None
instead_own actor line x is = grind arith

pub answer_own : (asks : Target → ℕ → Type 0) (actor other : Actor) (line : Verb) (x : Item) → IsAnswer asks actor line x → Opens other x → actor ≡ other
answer_own asks actor other line x h opens = grind (arith, same_Some, opening_own, none-some, refusal_own, instead_own)
