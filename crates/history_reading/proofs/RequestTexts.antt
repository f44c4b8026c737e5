-- The texts of the items of requests, and of placed commits, are read as the items.
use Rattle.std.proofs.Common.{◌≡◌, ℕ, ◌+◌, List, [], ◌∷◌, ◌++◌, append_assoc, Option, None, Some, decimal, codes, refl, arith}
use Rattle.std.proofs.lemmas.List.{append-nil}
use Rattle.history_text.specs.Words.{node_text, session_text}
use Rattle.history_text.specs.Text.{commit_text}
use Rattle.stamp_base.specs.Ranges.{IsNumber, IsStamp, IsTerm, IsNode, IsSession}
use Rattle.history_text.specs.Fits.{FitsCommit}
use Rattle.history_reading.specs.ReadWords.{after_text}
use Rattle.history_reading.specs.ReadRequests.{asked_at, no_commit_at, commit_at, ask_begin_at, ask_commit_at, accept_at, draw_at, placed_at}
use Rattle.history_book.specs.declared.item.Item.TheVariants.{AskBegin, AskCommit, Accept, Draw, Placed}
use Rattle.history_reading.proofs.NumberLemmas.{field-blank, last-stamp, two-blank, two-end, two-end-right, letter-in, node-in, session-in, stamp-in, term-in}

asked_again : (session node : ℕ) (rest : List ℕ) → IsSession session → IsNode node
    → asked_at (codes "s" ++ (decimal session ++ 32 ∷ (97 + node) ∷ rest)) ≡ Some (session, node, rest)
unfolding asked_at after_text
asked_again session node rest a b = rw (field-blank (codes "s") session ((97 + node) ∷ rest) (omega arith), letter-in node rest b) refl

pub ask_begin_again : (session node : ℕ) → IsSession session → IsNode node
    → ask_begin_at (session_text session ++ codes " " ++ node_text node) ≡ Some (AskBegin session node)
unfolding ask_begin_at
ask_begin_again session node a b = simp append_assoc (rw (asked_again session node [] a b, session-in session a, node-in node b) refl)

pub ask_commit_again : (session node start : ℕ) → IsSession session → IsNode node → IsStamp start
    → ask_commit_at (session_text session ++ codes " " ++ node_text node ++ codes " start=" ++ decimal start) ≡ Some (AskCommit session node start)
unfolding ask_commit_at
ask_commit_again session node start a b c = simp append_assoc (rw (asked_again session node _ a b, last-stamp (codes " start=") start c, session-in session a, node-in node b) refl)

pub accept_again : (session node term reading : ℕ) → IsSession session → IsNode node → IsTerm term → IsNumber reading
    → accept_at (session_text session ++ codes " " ++ node_text node ++ codes " term=" ++ decimal term ++ codes " reading=" ++ decimal reading) ≡ Some (Accept session node term reading)
unfolding accept_at
accept_again session node term reading a b c d = simp append_assoc (rw (asked_again session node _ a b, two-end-right (codes " term=") (codes "reading=") term reading c.1 d, session-in session a, node-in node b, term-in term c) refl)

pub placed_again : (start commit : ℕ) → IsStamp start → IsStamp commit
    → placed_at (codes "start=" ++ decimal start ++ codes " commit=" ++ decimal commit) ≡ Some (Placed start commit)
unfolding placed_at
placed_again start commit a b = rw (two-end (codes "start=") (codes "commit=") start commit (omega arith) (omega arith), stamp-in start a, stamp-in commit b) refl

draw_begin_again : (session node term start : ℕ) → IsSession session → IsNode node → IsTerm term → IsStamp start
    → draw_at (session_text session ++ codes " " ++ node_text node ++ codes " term=" ++ decimal term ++ codes " start=" ++ decimal start) ≡ Some (Draw session node term start None)
unfolding draw_at no_commit_at
draw_begin_again session node term start a b c d = simp append_assoc (rw (asked_again session node _ a b, two-end-right (codes " term=") (codes "start=") term start c.1 (omega arith), session-in session a, node-in node b, term-in term c, stamp-in start d) refl)

draw_commit_again : (session node term start commit : ℕ) → IsSession session → IsNode node → IsTerm term → IsStamp start → IsStamp commit
    → draw_at (session_text session ++ codes " " ++ node_text node ++ codes " term=" ++ decimal term ++ codes " start=" ++ decimal start ++ (codes " commit=" ++ decimal commit)) ≡ Some (Draw session node term start (Some commit))
unfolding draw_at no_commit_at commit_at
draw_commit_again session node term start commit a b c d e = simp append_assoc (rw (asked_again session node _ a b, two-blank (codes " term=") (codes "start=") term start _ c.1 (omega arith), last-stamp (codes " commit=") commit e, session-in session a, node-in node b, term-in term c, stamp-in start d) refl)

pub draw_again : (session node term start : ℕ) (commit : Option ℕ) → IsSession session → IsNode node → IsTerm term → IsStamp start → FitsCommit commit
    → draw_at (session_text session ++ codes " " ++ node_text node ++ codes " term=" ++ decimal term ++ codes " start=" ++ decimal start ++ commit_text commit) ≡ Some (Draw session node term start commit)
draw_again session node term start None a b c d e = rw append-nil (draw_begin_again session node term start a b c d)
draw_again session node term start (Some commit) a b c d e = draw_commit_again session node term start commit a b c d e
