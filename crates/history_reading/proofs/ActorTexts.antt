-- The texts of notes, stages and stores are read as those, and the actor's name is read before them.
use Rattle.std.proofs.Common.{◌≡◌, List, ℕ, ◌∷◌, ◌++◌, append_assoc, Some, refl}
use Rattle.history_text.specs.Words.{actor_text, stage_text, store_text}
use Rattle.history_text.specs.Text.{note_text}
use Rattle.history_text.specs.Fits.{FitsActor, FitsNote}
use Rattle.history_reading.specs.ReadWords.{word_len, first_word, after_word}
use Rattle.history_reading.specs.ReadActors.{stage_at, store_at, note_kind_at, note_at, item_of_at, actor_kind_at}
use Rattle.stamp_base.specs.declared.stage.Stage.{Stage}
use Rattle.stamp_base.specs.declared.stage.Stage.TheVariants.{Request, Persist, Reply}
use Rattle.stamp_base.specs.declared.stores.Store.{Store}
use Rattle.stamp_base.specs.declared.stores.Store.TheVariants.{Cells, Table, Master}
use Rattle.history_book.specs.declared.item.Actor.{Actor}
use Rattle.history_book.specs.declared.item.Note.{Note}
use Rattle.history_book.specs.declared.item.Note.TheVariants.{Post, Await, Hold, Free}
use Rattle.history_reading.proofs.WordTexts.{first-actor, after-actor, actor_again}
use Rattle.history_reading.proofs.ReadingLemmas.{name_at-in}

stage_again : (stage : Stage) → stage_at (stage_text stage) ≡ Some stage
unfolding stage_at
stage_again Request = refl
stage_again Persist = refl
stage_again Reply = refl

pub store_again : (store : Store) → store_at (store_text store) ≡ Some store
unfolding store_at
store_again Cells = refl
store_again Table = refl
store_again Master = refl

pub note_again : (note : Note) → FitsNote note → note_at (note_text note) ≡ Some note
unfolding note_kind_at first_word after_word word_len
note_again (Post name) h = rw (name_at-in name h) refl
note_again (Await name) h = rw (name_at-in name h) refl
note_again (Hold stage) h = rw (stage_again stage) refl
note_again (Free stage) h = rw (stage_again stage) refl

-- the actor's name is taken off
pub after_name : (word : List ℕ) (actor : Actor) (front text : List ℕ) → FitsActor actor
    → actor_kind_at word (actor_text actor ++ (32 ∷ front) ++ text) ≡ item_of_at word actor (front ++ text)
unfolding actor_kind_at
after_name word actor front text h = simp append_assoc (rw (first-actor actor _ h, after-actor actor _ h, actor_again actor h) refl)
