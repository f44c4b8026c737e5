-- The lines of an actor among those of others.
use Rattle.std.proofs.Common.{◌≡◌, refl, ℕ, zero, suc, ◌+◌, ◌<◌, true, false, cond, List, [], ◌∷◌, drop, length, sym, ap, ◌∙◌, drop-cons, arith}
use Rattle.std.specs.Prelude.{Some, slice_get}
use Rattle.std.proofs.lemmas.Option.{get_or_from_slice_get, slice_get_within}
use Rattle.history_book.specs.declared.item.Actor.{Actor}
use Rattle.thread_steps.specs.Done.{is_same}
use Rattle.script_data.specs.declared.line.Line.{Line}
use Rattle.actor_threads.specs.Lines.{own}

-- where the line at a place is the actor's, it is the first of those from there on
pub own_first : (actor : Actor) (lines : List Line) (i : ℕ) (line : Line) → slice_get lines i ≡ Some line → is_same line.actor actor ≡ true
    → own actor (drop i lines) ≡ line ∷ own actor (drop (i + 1) lines)
own_first actor lines i line at same =
    let next : suc i ≡ i + 1 = omega arith in
    let rest : drop i lines ≡ line ∷ drop (suc i) lines = drop-cons lines i line (slice_get_within lines i line at) ∙ ap (λ (x : Line). x ∷ drop (suc i) lines) (get_or_from_slice_get lines i line line at) in
    ap (own actor) rest
    ∙ ap (λ b. cond b (line ∷ own actor (drop (suc i) lines)) (own actor (drop (suc i) lines))) same
    ∙ ap (λ n. line ∷ own actor (drop n lines)) next

skipped : (actor : Actor) (lines : List Line) (i : ℕ) → i < length lines → ((line : Line) → slice_get lines i ≡ Some line → is_same line.actor actor ≡ false) → own actor (drop (suc i) lines) ≡ own actor (drop i lines)
skipped actor [] i within other = absurd (omega (arith, within))
skipped actor (x ∷ xs) zero within other = sym (ap (λ b. cond b (x ∷ own actor xs) (own actor xs)) (other x refl))
skipped actor (x ∷ xs) (suc i) within other = skipped actor xs i (omega (arith, within)) other

-- where it is another's, it is none of them
pub own_skipped : (actor : Actor) (lines : List Line) (i : ℕ) → i < length lines → ((line : Line) → slice_get lines i ≡ Some line → is_same line.actor actor ≡ false) → own actor (drop (i + 1) lines) ≡ own actor (drop i lines)
own_skipped actor lines i within other =
    let next : i + 1 ≡ suc i = omega arith in
    ap (λ n. own actor (drop n lines)) next ∙ skipped actor lines i within other

-- behind all lines there is none
pub none_behind : {Q : Type 0} (lines : List Line) (end : ℕ) (line : Line) → end ≡ length lines → slice_get lines end ≡ Some line → Q
none_behind lines end line is at = absurd (omega (arith, is, slice_get_within lines end line at))
