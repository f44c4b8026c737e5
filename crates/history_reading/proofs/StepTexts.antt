-- The texts of the steps on the stores are read as the steps.
use Rattle.std.proofs.Common.{◌≡◌, ℕ, [], ◌++◌, append_assoc, Option, None, Some, decimal, codes, refl, ap, ◌∙◌, arith}
use Rattle.history_text.specs.Words.{key_text}
use Rattle.history_text.specs.StepText.{mark_text, entry_text, seen_text, step_text}
use Rattle.stamp_base.specs.Ranges.{IsNumber, IsStamp, IsKey}
use Rattle.history_text.specs.Fits.{FitsMark, FitsEntry, FitsSeen, FitsStep}
use Rattle.history_reading.specs.ReadWords.{word_len, first_word, after_word, after_text}
use Rattle.history_reading.specs.ReadSteps.{mark_at, entry_at, seen_at, fetch_at, get_at, mark_found_at, look_at, shadow_at, erase_at, keys_at, put_found_at, handed_at, cell_step_at, table_step_at, step_at}
use Rattle.stamp_base.specs.declared.stores.Mark.{Mark}
use Rattle.stamp_base.specs.declared.stores.Mark.TheVariants.{Committed, Invalid}
use Rattle.history_book.specs.declared.item.Seen.{Seen}
use Rattle.history_book.specs.declared.item.Seen.TheVariants.{Bare, Gone, Commit}
use Rattle.history_book.specs.declared.item.StoreStep.{StoreStep}
use Rattle.history_book.specs.declared.item.StoreStep.TheVariants.{Fetch, Get, MarkFound, Look, Shadow, Remove, Erase, Keys, PutFound, Handed}
use Rattle.history_reading.proofs.NumberLemmas.{number-blank, last-stamp, two-blank, two-end, key-in, stamp-in}

mark_again : (mark : Mark) → FitsMark mark → mark_at (mark_text mark) ≡ Some mark
unfolding mark_at
mark_again (Committed commit) h = rw (last-stamp (codes "committed=") commit h) refl
mark_again Invalid h = refl

entry_again : (answer : Option Mark) → FitsEntry answer → entry_at (entry_text answer) ≡ Some answer
unfolding entry_at
entry_again None h = refl
entry_again (Some (Committed commit)) h = rw (mark_again (Committed commit) h) refl
entry_again (Some Invalid) h = rw (mark_again Invalid tt) refl

seen_again : (answer : Seen) → FitsSeen answer → seen_at (seen_text answer) ≡ Some answer
unfolding seen_at
seen_again Bare h = refl
seen_again Gone h = refl
seen_again (Commit commit) h = rw (last-stamp (codes "commit=") commit h) refl

fetch_again : (key cells : ℕ) → IsKey key → IsNumber cells
    → fetch_at (key_text key ++ codes " cells=" ++ decimal cells) ≡ Some (Fetch key cells)
unfolding fetch_at
fetch_again key cells a b = rw (two-end (codes "k") (codes "cells=") key cells (omega arith) b, key-in key a) refl

look_again : (key txn : ℕ) (answer : Seen) → IsKey key → IsStamp txn → FitsSeen answer
    → look_at (key_text key ++ codes " " ++ decimal txn ++ codes " " ++ seen_text answer) ≡ Some (Look key txn answer)
unfolding look_at after_text
look_again key txn answer a b c = simp append_assoc (rw (two-blank (codes "k") [] key txn _ (omega arith) (omega arith), seen_again answer c, key-in key a, stamp-in txn b) refl)

shadow_again : (key txn commit : ℕ) → IsKey key → IsStamp txn → IsStamp commit
    → shadow_at (key_text key ++ codes " " ++ decimal txn ++ codes " " ++ decimal commit) ≡ Some (Shadow key txn commit)
unfolding shadow_at
shadow_again key txn commit a b c = simp append_assoc (rw (two-blank (codes "k") [] key txn _ (omega arith) (omega arith), last-stamp (codes " ") commit c, key-in key a, stamp-in txn b) refl)

erase_again : (key txn : ℕ) → IsKey key → IsStamp txn
    → erase_at (key_text key ++ codes " " ++ decimal txn) ≡ Some (Erase key txn)
unfolding erase_at
erase_again key txn a b = rw (two-end (codes "k") [] key txn (omega arith) (omega arith), key-in key a, stamp-in txn b) refl

get_again : (txn : ℕ) (answer : Option Mark) → IsStamp txn → FitsEntry answer → get_at (decimal txn ++ codes " " ++ entry_text answer) ≡ Some (Get txn answer)
unfolding get_at after_text
get_again txn answer a b = ap get_at (append_assoc (decimal txn) (codes " ") (entry_text answer)) ∙ rw (number-blank txn _ (omega arith), entry_again answer b, stamp-in txn a) refl

mark_found_again : (txn : ℕ) (mark : Mark) → IsStamp txn → FitsMark mark → mark_found_at (decimal txn ++ codes " " ++ mark_text mark) ≡ Some (MarkFound txn mark)
unfolding mark_found_at after_text
mark_found_again txn mark a b = ap mark_found_at (append_assoc (decimal txn) (codes " ") (mark_text mark)) ∙ rw (number-blank txn _ (omega arith), mark_again mark b, stamp-in txn a) refl

keys_again : (txn count : ℕ) → IsStamp txn → IsNumber count → keys_at (decimal txn ++ codes " count=" ++ decimal count) ≡ Some (Keys txn count)
unfolding keys_at
keys_again txn count a b = rw (two-end [] (codes "count=") txn count (omega arith) b, stamp-in txn a) refl

put_found_again : (txn : ℕ) → IsStamp txn → put_found_at (decimal txn ++ codes " invalid") ≡ Some (PutFound txn)
unfolding put_found_at
put_found_again txn a = rw (number-blank txn (codes "invalid") (omega arith), stamp-in txn a) refl

handed_again : (txn commit : ℕ) → IsStamp txn → IsStamp commit → handed_at (decimal txn ++ codes " " ++ decimal commit) ≡ Some (Handed txn commit)
unfolding handed_at
handed_again txn commit a b = rw (two-end [] [] txn commit (omega arith) (omega arith), stamp-in txn a, stamp-in commit b) refl

pub step_again : (what : StoreStep) → FitsStep what → step_at (step_text what) ≡ Some what
unfolding cell_step_at table_step_at first_word after_word word_len
step_again (Fetch key cells) h = rw (fetch_again key cells h.0 h.1) refl
step_again (Get txn answer) h = rw (get_again txn answer h.0 h.1) refl
step_again (MarkFound txn mark) h = rw (mark_found_again txn mark h.0 h.1) refl
step_again (Look key txn answer) h = rw (look_again key txn answer h.0 h.1 h.2) refl
step_again (Shadow key txn commit) h = rw (shadow_again key txn commit h.0 h.1 h.2) refl
step_again (Remove txn) h = rw (last-stamp [] txn h) refl
step_again (Erase key txn) h = rw (erase_again key txn h.0 h.1) refl
step_again (Keys txn count) h = rw (keys_again txn count h.0 h.1) refl
step_again (PutFound txn) h = rw (put_found_again txn h) refl
step_again (Handed txn commit) h = rw (handed_again txn commit h.0 h.1) refl
