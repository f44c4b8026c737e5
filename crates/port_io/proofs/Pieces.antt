-- For omid_top too.
-- Pieces of input and of output, one after another.
use Rattle.std.proofs.Common.{◌≡◌, ℕ, ◌+◌, ◌-◌, ◌≤◌, ◌<◌, List, [], ◌++◌, Option, None, Some, IfSome, length, take, drop, append_assoc, take-add, length-append, length-take, length-drop, sym, ap, ◌∙◌, subst, arith, refl}
use Rattle.std.proofs.lemmas.Option.{same_Some, none-some}
use Rattle.std.proofs.lemmas.List.{append-nil, drop-drop, take-append-drop, take_all}
use Rattle.std.proofs.Math.Seq.{take-append_seam, drop-append_seam}
use Rattle.port_io.specs.Ports.{Gains, Gives, IsAtEnd, LosesFront}

-- one piece was given after another
pub gives_both : (a b c : Option (List ℕ)) (xs ys : List ℕ) → Gives a b xs → Gives b c ys → Gives a c (xs ++ ys)
gives_both a None None xs ys first then = first
gives_both a None (Some rest) xs ys first then = absurd (none-some _ then)
gives_both a (Some between) None xs ys first then = absurd (none-some _ (sym then))
gives_both a (Some between) (Some rest) xs ys first then =
    first ∙ ap Some (ap (λ t. xs ++ t) (same_Some between (ys ++ rest) then) ∙ sym (append_assoc xs ys rest))

-- a read at the end of input adds nothing
pub gives_last : (a b c : Option (List ℕ)) (xs : List ℕ) → Gives a b xs → Gives b c [] → Gives a c xs
gives_last a b c xs given nothing = subst (λ (ys : List ℕ). Gives a c ys) (append-nil xs) (gives_both a b c xs [] given nothing)

-- and leaves the end of input
pub stays_at_end : (b c : Option (List ℕ)) → Gives b c [] → IsAtEnd b → IsAtEnd c
stays_at_end b None nothing ended = tt
stays_at_end None (Some rest) nothing ended = absurd (none-some _ nothing)
stays_at_end (Some left) (Some rest) nothing ended = sym (same_Some left rest nothing) ∙ ended

-- what was given had been left
pub given_was_left : (a c : Option (List ℕ)) (xs : List ℕ) (n : ℕ) → Gives a c xs → n < length xs → IfSome a (λ left. n < length left)
given_was_left None c xs n given more = tt
given_was_left (Some left) None xs n given more = absurd (none-some _ (sym given))
given_was_left (Some left) (Some rest) xs n given more =
    let whole = same_Some left (xs ++ rest) given in rw whole (omega (arith, length-append xs rest))

-- where all that was left was given, it is as long as what was given
pub all_given : (a c : Option (List ℕ)) (xs : List ℕ) (n : ℕ) → Gives a c xs → IsAtEnd c → length xs ≤ n → IfSome a (λ left. n < length left → ⊥)
all_given None c xs n given ended few = tt
all_given (Some left) None xs n given ended few = absurd (none-some _ (sym given))
all_given (Some left) (Some rest) xs n given ended few =
    let whole : left ≡ xs = same_Some left (xs ++ rest) given ∙ ap (λ t. xs ++ t) ended ∙ append-nil xs in
    λ more. omega (arith, ap length whole)

-- what is left is the end of what was left
pub loses_front : (a c : Option (List ℕ)) (xs : List ℕ) → Gives a c xs → LosesFront a c
loses_front a None xs given = given
loses_front None (Some rest) xs given = absurd (none-some _ given)
loses_front (Some left) (Some rest) xs given =
    let whole = same_Some left (xs ++ rest) given in
    let front : length (xs ++ rest) - length rest ≡ length xs = omega (arith, length-append xs rest) in
    rw (whole, front, drop-append_seam xs rest) refl

-- some bytes went out after others
pub gains_more : (a b c : Option (List ℕ)) (xs ys : List ℕ) → Gains a b xs → Gains b c ys → Gains a c (xs ++ ys)
gains_more None b c xs ys first then = subst (λ (o : Option (List ℕ)). Gains o c ys) first then
gains_more (Some held) b c xs ys first then =
    let second : c ≡ Some ((held ++ xs) ++ ys) = subst (λ (o : Option (List ℕ)). Gains o c ys) first then in
    second ∙ ap Some (append_assoc held xs ys)

-- one piece of the bytes went out after another
pub gains_both : (a b c : Option (List ℕ)) (bytes : List ℕ) (s n : ℕ) → Gains a b (take s bytes) → Gains b c (take n (drop s bytes)) → Gains a c (take (s + n) bytes)
gains_both a b c bytes s n first then =
    subst (λ (xs : List ℕ). Gains a c xs) (sym (take-add s n bytes)) (gains_more a b c (take s bytes) (take n (drop s bytes)) first then)

-- the rest of a list is all of it that remains
pub take_rest : (s : ℕ) (bytes : List ℕ) → take (length bytes - s) (drop s bytes) ≡ drop s bytes
take_rest s bytes = take_all (length bytes - s) (drop s bytes) (omega (arith, length-drop s bytes))

-- a read puts the first bytes in front of the buffer, and leaves the others
pub read_front : (at n : ℕ) (bytes front rest : List ℕ) → at + n ≤ length bytes → front ≡ take (at + n - at) (drop at bytes) → drop at bytes ≡ take n (front ++ rest) ++ drop (at + n) bytes
read_front at n bytes front rest within is =
    let span : at + n - at ≡ n = omega arith in
    let first : front ≡ take n (drop at bytes) = rw span at is in
    let size : length front ≡ n = rw first (omega (arith, length-take n (drop at bytes), length-drop at bytes)) in
    let seam : take n (front ++ rest) ≡ take n (drop at bytes) = ap (λ m. take m (front ++ rest)) (sym size) ∙ take-append_seam front rest ∙ first in
    rw (seam, ← drop-drop n at bytes) (sym (take-append-drop n (drop at bytes)))
