-- The texts of the items of the clock and of the nodes are read as the items.
use Rattle.std.proofs.Common.{◌≡◌, ℕ, ◌++◌, append_assoc, Some, decimal, codes, refl}
use Rattle.history_text.specs.Words.{node_text}
use Rattle.stamp_base.specs.Ranges.{IsNumber, IsTerm, IsNode}
use Rattle.history_reading.specs.ReadNodes.{tick_at, take_at, renew_at, extend_at, crash_at}
use Rattle.history_book.specs.declared.item.Item.TheVariants.{Tick, Take, Renew, Extend, Crash}
use Rattle.history_reading.proofs.NumberLemmas.{number-end, field-blank, field-end, letter-in, node-in, term-in}

pub tick_again : (to : ℕ) → IsNumber to
    → tick_at (decimal to) ≡ Some (Tick to)
unfolding tick_at
tick_again to a = rw (number-end to a) refl

pub take_again : (node reading term epoch until ceiling : ℕ) → IsNode node → IsNumber reading → IsTerm term → IsNumber epoch → IsNumber until → IsNumber ceiling
    → take_at (node_text node ++ codes " reading=" ++ decimal reading ++ codes " term=" ++ decimal term ++ codes " epoch=" ++ decimal epoch ++ codes " until=" ++ decimal until ++ codes " ceiling=" ++ decimal ceiling) ≡ Some (Take node reading term epoch until ceiling)
unfolding take_at
take_again node reading term epoch until ceiling a b c d e f = simp append_assoc (rw (letter-in node _ a, field-blank (codes " reading=") reading _ b, field-blank (codes " term=") term _ c.1, field-blank (codes " epoch=") epoch _ d, field-blank (codes " until=") until _ e, field-end (codes " ceiling=") ceiling f, node-in node a, term-in term c) refl)

pub renew_again : (node reading term until : ℕ) → IsNode node → IsNumber reading → IsTerm term → IsNumber until
    → renew_at (node_text node ++ codes " reading=" ++ decimal reading ++ codes " term=" ++ decimal term ++ codes " until=" ++ decimal until) ≡ Some (Renew node reading term until)
unfolding renew_at
renew_again node reading term until a b c d = simp append_assoc (rw (letter-in node _ a, field-blank (codes " reading=") reading _ b, field-blank (codes " term=") term _ c.1, field-end (codes " until=") until d, node-in node a, term-in term c) refl)

pub extend_again : (node term ceiling : ℕ) → IsNode node → IsTerm term → IsNumber ceiling
    → extend_at (node_text node ++ codes " term=" ++ decimal term ++ codes " ceiling=" ++ decimal ceiling) ≡ Some (Extend node term ceiling)
unfolding extend_at
extend_again node term ceiling a b c = simp append_assoc (rw (letter-in node _ a, field-blank (codes " term=") term _ b.1, field-end (codes " ceiling=") ceiling c, node-in node a, term-in term b) refl)

pub crash_again : (node term : ℕ) → IsNode node → IsTerm term
    → crash_at (node_text node ++ codes " term=" ++ decimal term) ≡ Some (Crash node term)
unfolding crash_at
crash_again node term a b = rw (letter-in node _ a, field-end (codes " term=") term b.1, node-in node a, term-in term b) refl
