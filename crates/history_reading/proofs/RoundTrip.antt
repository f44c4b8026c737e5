-- For history_json too.
-- Public laws, which the audit cites. What is written is read again, and no two items have one text.
use Rattle.std.proofs.Common.{◌≡◌, [], ◌∷◌, Some, codes, decimal, refl, sym, ap, ◌∙◌, arith}
use Rattle.std.proofs.lemmas.Option.{same_Some}
use Rattle.std.proofs.lemmas.List.{append_cancel_right}
use Rattle.history_book.specs.declared.item.Item.{Item}
use Rattle.history_book.specs.declared.item.Item.TheVariants as item
use Rattle.history_text.specs.Words.{store_text}
use Rattle.history_text.specs.CauseText.{cause_text}
use Rattle.history_text.specs.StepText.{step_text}
use Rattle.history_text.specs.Text.{note_text, body_of, text_of}
use Rattle.history_text.specs.Fits.{FitsItem}
use Rattle.history_reading.specs.ReadWords.{word_len, first_word, after_word}
use Rattle.history_reading.specs.ReadNodes.{node_kind_at}
use Rattle.history_reading.specs.ReadRequests.{request_kind_at}
use Rattle.history_reading.specs.ReadSessions.{session_kind_at}
use Rattle.history_reading.specs.ReadActors.{item_of_at}
use Rattle.history_reading.specs.Reading.{item_at}
use Rattle.history_reading.proofs.NumberLemmas.{last-field, last-stamp, session-in}
use Rattle.history_reading.proofs.NodeTexts.{tick_again, take_again, renew_again, extend_again, crash_again}
use Rattle.history_reading.proofs.RequestTexts.{ask_begin_again, ask_commit_again, accept_again, draw_again, placed_again}
use Rattle.history_reading.proofs.SessionTexts.{begin_again, write_again, read_again, committed_again, end_again}
use Rattle.history_reading.proofs.ActorTexts.{note_again, store_again, after_name}
use Rattle.history_reading.proofs.StepTexts.{step_again}
use Rattle.history_reading.proofs.CauseTexts.{cause_again}

-- the words of an item are read as the item
pub item_again : (item : Item) → FitsItem item → item_at (body_of item) ≡ Some item
unfolding node_kind_at request_kind_at session_kind_at item_of_at first_word after_word word_len
item_again (item.Tick to) h = rw (tick_again to h) refl
item_again (item.Note actor note) h = rw (after_name (codes "note") actor [] (note_text note) h.0, note_again note h.1) refl
item_again (item.Take node reading term epoch until ceiling) h = rw (take_again node reading term epoch until ceiling h.0 h.1 h.2 h.3 h.4 h.5) refl
item_again (item.Renew node reading term until) h = rw (renew_again node reading term until h.0 h.1 h.2 h.3) refl
item_again (item.Extend node term ceiling) h = rw (extend_again node term ceiling h.0 h.1 h.2) refl
item_again (item.AskBegin session node) h = rw (ask_begin_again session node h.0 h.1) refl
item_again (item.AskCommit session node start) h = rw (ask_commit_again session node start h.0 h.1 h.2) refl
item_again (item.Accept session node term reading) h = rw (accept_again session node term reading h.0 h.1 h.2 h.3) refl
item_again (item.Draw session node term start commit) h = rw (draw_again session node term start commit h.0 h.1 h.2 h.3 h.4) refl
item_again (item.Begin session start) h = rw (begin_again session start h.0 h.1) refl
item_again (item.Write session start key value) h = rw (write_again session start key value h.0 h.1 h.2 h.3) refl
item_again (item.Read session start key answer) h = rw (read_again session start key answer h.0 h.1 h.2 h.3) refl
item_again (item.Placed start commit) h = rw (placed_again start commit h.0 h.1) refl
item_again (item.Committed session start commit) h = rw (committed_again session start commit h.0 h.1 h.2) refl
item_again (item.Mark actor start) h = rw (after_name (codes "mark") actor (codes "start=") (decimal start) h.0, last-stamp (codes "start=") start h.1) refl
item_again (item.Step actor what) h = rw (after_name (codes "step") actor [] (step_text what) h.0, step_again what h.1) refl
item_again (item.End session start how) h = rw (end_again session start how h.0 h.1) refl
item_again (item.Refused actor cause) h = rw (after_name (codes "refused") actor [] (cause_text cause) h.0, cause_again cause h.1) refl
item_again (item.Fault actor store) h = rw (after_name (codes "fault") actor [] (store_text store) h, store_again store) refl
item_again (item.Crash node term) h = rw (crash_again node term h.0 h.1) refl
item_again (item.Vanish session) h = rw (last-field (codes "s") session (omega arith), session-in session h) refl

-- two items of the same words are one item
pub one_body : (one other : Item) → FitsItem one → FitsItem other → body_of one ≡ body_of other → one ≡ other
one_body one other a b words = same_Some one other (sym (item_again one a) ∙ ap item_at words ∙ item_again other b)

-- two items of one text are one item
pub one_text : (one other : Item) → FitsItem one → FitsItem other → text_of one ≡ text_of other → one ≡ other
one_text one other a b same =
    one_body one other a b (append_cancel_right (body_of one) (body_of other) (10 ∷ []) same)
