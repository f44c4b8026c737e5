-- Words before a blank, and the texts of actors.
use Rattle.std.proofs.Common.{◌≡◌, ◌≢◌, ℕ, ◌+◌, ◌<◌, ◌%◌, ◌==◌, nat_eq, false, List, [], ◌∷◌, ◌++◌, Some, decimal, refl, ap, arith}
use Rattle.std.proofs.lemmas.Fmt.{decimal_by_steps}
use Rattle.std.proofs.Math.Bool.{and-false}
use Rattle.history_text.specs.Words.{actor_text}
use Rattle.history_text.specs.Fits.{FitsActor}
use Rattle.history_reading.specs.ReadWords.{word_len, first_word, after_word, after_text, field_at, actor_at, session_actor_at, node_actor_at}
use Rattle.history_book.specs.declared.item.Actor.{Actor}
use Rattle.history_book.specs.declared.item.Actor.TheVariants.{Clock, Node, Session, Janitor}
use Rattle.history_reading.proofs.NumberLemmas.{number-end, letter-in, node-in, session-in}

abbrev NoBlanks : List ℕ → Type 0
NoBlanks [] = Unit {0}
NoBlanks (b ∷ bs) = ((b == 32) ≡ false) × NoBlanks bs

other : (a b : ℕ) → a ≢ b → (a == b) ≡ false
other a b h = grind arith

first_word-blank : (xs rest : List ℕ) → NoBlanks xs → first_word (xs ++ 32 ∷ rest) ≡ xs
unfolding first_word word_len
first_word-blank [] rest h = refl
first_word-blank (b ∷ bs) rest h = rw h.0 (ap (λ ys. b ∷ ys) (first_word-blank bs rest h.1))

after_word-blank : (xs rest : List ℕ) → NoBlanks xs → after_word (xs ++ 32 ∷ rest) ≡ rest
unfolding after_word word_len
after_word-blank [] rest h = refl
after_word-blank (b ∷ bs) rest h = rw h.0 (after_word-blank bs rest h.1)

NoBlanks-push : (xs : List ℕ) (b : ℕ) → NoBlanks xs → (b == 32) ≡ false → NoBlanks (xs ++ b ∷ [])
NoBlanks-push [] b h e = (e, tt)
NoBlanks-push (x ∷ xs) b h e = (h.0, NoBlanks-push xs b h.1 e)

NoBlanks-decimal : (n : ℕ) → n < 16 → NoBlanks (decimal n)
NoBlanks-decimal n low = decimal_by_steps (λ m ds. NoBlanks ds)
    (λ m one. (other (48 + m) 32 (omega arith), tt))
    (λ m ds ten deeper. NoBlanks-push ds (48 + m % 10) deeper (other (48 + m % 10) 32 (omega arith)))
    n (omega arith)

NoBlanks-actor : (actor : Actor) → FitsActor actor → NoBlanks (actor_text actor)
NoBlanks-actor Clock h = (refl, (refl, (refl, (refl, (refl, tt)))))
NoBlanks-actor (Node node) h = (other (97 + node) 32 (omega arith), tt)
NoBlanks-actor (Session session) h = (refl, NoBlanks-decimal session h)
NoBlanks-actor Janitor h = (refl, (refl, (refl, (refl, (refl, (refl, (refl, tt)))))))

pub first-actor : (actor : Actor) (rest : List ℕ) → FitsActor actor → first_word (actor_text actor ++ 32 ∷ rest) ≡ actor_text actor
first-actor actor rest h = first_word-blank (actor_text actor) rest (NoBlanks-actor actor h)

pub after-actor : (actor : Actor) (rest : List ℕ) → FitsActor actor → after_word (actor_text actor ++ 32 ∷ rest) ≡ rest
after-actor actor rest h = after_word-blank (actor_text actor) rest (NoBlanks-actor actor h)

pub actor_again : (actor : Actor) → FitsActor actor → actor_at (actor_text actor) ≡ Some actor
unfolding actor_at session_actor_at node_actor_at after_text field_at
actor_again Clock h = refl
actor_again (Node node) h = rw (and-false (nat_eq (97 + node) 99), and-false (nat_eq (97 + node) 106), other 115 (97 + node) (omega arith), letter-in node [] h, node-in node h) refl
actor_again (Session session) h = rw (number-end session (omega arith), session-in session h) refl
actor_again Janitor h = refl
