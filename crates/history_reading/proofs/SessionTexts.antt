-- The texts of the items of sessions are read as the items.
use Rattle.std.proofs.Common.{◌≡◌, ℕ, List, ◌++◌, append_assoc, Option, None, Some, decimal, codes, refl, ap, ◌∙◌, arith}
use Rattle.history_text.specs.Words.{session_text, key_text}
use Rattle.history_text.specs.Text.{answer_text, ending_text}
use Rattle.stamp_base.specs.Words.{IsValue}
use Rattle.stamp_base.specs.Ranges.{IsStamp, IsSession, IsKey}
use Rattle.history_text.specs.Fits.{FitsAnswer}
use Rattle.history_reading.specs.ReadWords.{after_text}
use Rattle.history_reading.specs.ReadSessions.{no_answer_at, found_at, answer_at, ending_at, begin_at, write_at, read_at, committed_at, end_at}
use Rattle.history_book.specs.declared.item.Found.{Found}
use Rattle.history_book.specs.declared.item.Ending.{Ending}
use Rattle.history_book.specs.declared.item.Ending.TheVariants.{ReadOnly, Aborted, Dead}
use Rattle.history_book.specs.declared.item.Item.TheVariants.{Begin, Write, Read, Committed, End}
use Rattle.history_reading.proofs.NumberLemmas.{field-blank, last-stamp, two-blank, two-end, session-in, key-in, stamp-in}
use Rattle.history_reading.proofs.ReadingLemmas.{value_at-in}

found_again : (found : Found) → IsStamp found.from → IsValue found.value → found_at (codes "from=" ++ decimal found.from ++ codes " " ++ found.value) ≡ Some (Some found)
unfolding found_at after_text
found_again found a b = simp append_assoc (rw (field-blank (codes "from=") found.from _ (omega arith), value_at-in found.value b, stamp-in found.from a) refl)

answer_again : (answer : Option Found) → FitsAnswer answer → answer_at (answer_text answer) ≡ Some answer
unfolding no_answer_at
answer_again None h = refl
answer_again (Some found) h = rw (found_again found h.0 h.1) refl

ending_again : (how : Ending) → ending_at (ending_text how) ≡ Some how
unfolding ending_at
ending_again ReadOnly = refl
ending_again Aborted = refl
ending_again Dead = refl

pub begin_again : (session start : ℕ) → IsSession session → IsStamp start
    → begin_at (session_text session ++ codes " start=" ++ decimal start) ≡ Some (Begin session start)
unfolding begin_at
begin_again session start a b = rw (two-end (codes "s") (codes "start=") session start (omega arith) (omega arith), session-in session a, stamp-in start b) refl

pub committed_again : (session start commit : ℕ) → IsSession session → IsStamp start → IsStamp commit
    → committed_at (session_text session ++ codes " start=" ++ decimal start ++ codes " commit=" ++ decimal commit) ≡ Some (Committed session start commit)
unfolding committed_at
committed_again session start commit a b c = simp append_assoc (rw (two-blank (codes "s") (codes "start=") session start _ (omega arith) (omega arith), last-stamp (codes " commit=") commit c, session-in session a, stamp-in start b) refl)

pub end_again : (session start : ℕ) (how : Ending) → IsSession session → IsStamp start
    → end_at (session_text session ++ codes " start=" ++ decimal start ++ codes " " ++ ending_text how) ≡ Some (End session start how)
unfolding end_at after_text
end_again session start how a b = simp append_assoc (rw (two-blank (codes "s") (codes "start=") session start _ (omega arith) (omega arith), ending_again how, session-in session a, stamp-in start b) refl)

regroup : (a b c d e f g h i : List ℕ) → a ++ b ++ c ++ d ++ e ++ (f ++ g) ++ h ++ i ≡ a ++ (b ++ (c ++ (d ++ (e ++ (f ++ (g ++ (h ++ i)))))))
regroup a b c d e f g h i = simp append_assoc

pub write_again : (session start key : ℕ) (value : List ℕ) → IsSession session → IsStamp start → IsKey key → IsValue value
    → write_at (session_text session ++ codes " start=" ++ decimal start ++ codes " " ++ key_text key ++ codes " " ++ value) ≡ Some (Write session start key value)
unfolding write_at after_text
write_again session start key value a b c d =
    ap write_at (regroup (codes "s") (decimal session) (codes " start=") (decimal start) (codes " ") (codes "k") (decimal key) (codes " ") value)
    ∙ rw (two-blank (codes "s") (codes "start=") session start _ (omega arith) (omega arith), field-blank (codes " k") key _ (omega arith), value_at-in value d, session-in session a, stamp-in start b, key-in key c) refl

pub read_again : (session start key : ℕ) (answer : Option Found) → IsSession session → IsStamp start → IsKey key → FitsAnswer answer
    → read_at (session_text session ++ codes " start=" ++ decimal start ++ codes " " ++ key_text key ++ codes " " ++ answer_text answer) ≡ Some (Read session start key answer)
unfolding read_at after_text
read_again session start key answer a b c d =
    ap read_at (regroup (codes "s") (decimal session) (codes " start=") (decimal start) (codes " ") (codes "k") (decimal key) (codes " ") (answer_text answer))
    ∙ rw (two-blank (codes "s") (codes "start=") session start _ (omega arith) (omega arith), field-blank (codes " k") key _ (omega arith), answer_again answer d, session-in session a, stamp-in start b, key-in key c) refl
