-- The words of an item's object are those of its line.
use Rattle.std.proofs.Common.{◌≡◌, ℕ, List, ◌++◌, None, Some, codes, decimal, refl, sym, ap, append_assoc, append-nil}
use Rattle.history_book.specs.declared.item.Item.{Item}
use Rattle.history_book.specs.declared.item.Item.TheVariants as item
use Rattle.history_book.specs.declared.item.Note.TheVariants.{Post, Await, Hold, Free}
use Rattle.history_text.specs.Words.{node_text, session_text, key_text, actor_text, stage_text}
use Rattle.history_text.specs.Text.{body_of}
use Rattle.history_json.specs.Object.{data_of}
use Rattle.history_json.specs.Words.{said_by, filled, draw_row, read_row, node_row, request_row, session_row, actor_row, row_of, words_of}

-- the words of a note, and of a read that has an answer, are put together otherwise
note_words : (front word name : List ℕ) → front ++ codes " " ++ word ++ codes " " ++ name ≡ front ++ codes " " ++ (word ++ codes " " ++ name)
note_words front word name = simp append_assoc

read_words : (front from value : List ℕ) → front ++ codes " from=" ++ from ++ codes " " ++ value ≡ front ++ codes " " ++ (codes "from=" ++ from ++ codes " " ++ value)
read_words front from value = simp append_assoc

pub words_again : (item : Item) → words_of (data_of item) ≡ Some (body_of item)
unfolding said_by filled draw_row read_row node_row request_row session_row actor_row row_of words_of
words_again (item.Tick to) = refl
words_again (item.Note actor (Post name)) = ap Some (note_words (codes "note " ++ actor_text actor) (codes "post") name)
words_again (item.Note actor (Await name)) = ap Some (note_words (codes "note " ++ actor_text actor) (codes "await") name)
words_again (item.Note actor (Hold stage)) = ap Some (note_words (codes "note " ++ actor_text actor) (codes "hold") (stage_text stage))
words_again (item.Note actor (Free stage)) = ap Some (note_words (codes "note " ++ actor_text actor) (codes "free") (stage_text stage))
words_again (item.Take node reading term epoch until ceiling) = refl
words_again (item.Renew node reading term until) = refl
words_again (item.Extend node term ceiling) = refl
words_again (item.AskBegin session node) = refl
words_again (item.AskCommit session node start) = refl
words_again (item.Accept session node term reading) = refl
words_again (item.Draw session node term start None) =
    ap Some (sym (append-nil (codes "draw " ++ session_text session ++ codes " " ++ node_text node ++ codes " term=" ++ decimal term ++ codes " start=" ++ decimal start)))
words_again (item.Draw session node term start (Some commit)) =
    ap Some (append_assoc (codes "draw " ++ session_text session ++ codes " " ++ node_text node ++ codes " term=" ++ decimal term ++ codes " start=" ++ decimal start) (codes " commit=") (decimal commit))
words_again (item.Begin session start) = refl
words_again (item.Write session start key value) = refl
words_again (item.Read session start key None) =
    ap Some (sym (append_assoc (codes "read " ++ session_text session ++ codes " start=" ++ decimal start ++ codes " " ++ key_text key) (codes " ") (codes "none")))
words_again (item.Read session start key (Some found)) =
    ap Some (read_words (codes "read " ++ session_text session ++ codes " start=" ++ decimal start ++ codes " " ++ key_text key) (decimal found.from) found.value)
words_again (item.Placed start commit) = refl
words_again (item.Committed session start commit) = refl
words_again (item.Mark actor start) = refl
words_again (item.Step actor what) = refl
words_again (item.End session start how) = refl
words_again (item.Refused actor cause) = refl
words_again (item.Fault actor store) = refl
words_again (item.Crash node term) = refl
words_again (item.Vanish session) = refl
