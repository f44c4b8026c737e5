-- The items of any actor, as reading finds them.
use Rattle.std.specs.Prelude.{ℕ, if◌then◌else◌, List, Option, None, Some, codes}
use Rattle.std.specs.Option.{option_map}
use Rattle.history_reading.specs.ReadWords.{◌>>=◌, first_word, after_word, is_word, last_stamp_at, name_at, actor_at}
use Rattle.history_reading.specs.ReadSteps.{step_at}
use Rattle.history_reading.specs.ReadCauses.{cause_at}
use Rattle.stamp_base.specs.declared.stage.Stage.{Stage}
use Rattle.stamp_base.specs.declared.stage.Stage.TheVariants.{Request, Persist, Reply}
use Rattle.stamp_base.specs.declared.stores.Store.{Store}
use Rattle.stamp_base.specs.declared.stores.Store.TheVariants.{Cells, Table, Master}
use Rattle.history_book.specs.declared.item.Actor.{Actor}
use Rattle.history_book.specs.declared.item.Note.{Note}
use Rattle.history_book.specs.declared.item.Note.TheVariants.{Post, Await, Hold, Free}
use Rattle.history_book.specs.declared.item.Item.{Item}
use Rattle.history_book.specs.declared.item.Item.TheVariants as item

unfoldable pub stage_at : List ℕ → Option Stage
stage_at bs =
    if is_word (codes "request") bs then Some Request else
    (if is_word (codes "persist") bs then Some Persist else
    (if is_word (codes "reply") bs then Some Reply else None))

unfoldable pub store_at : List ℕ → Option Store
store_at bs =
    if is_word (codes "cells") bs then Some Cells else
    (if is_word (codes "table") bs then Some Table else
    (if is_word (codes "master") bs then Some Master else None))

unfoldable pub note_kind_at : List ℕ → List ℕ → Option Note
note_kind_at word bs =
    if is_word (codes "post") word then option_map Post (name_at bs) else
    (if is_word (codes "await") word then option_map Await (name_at bs) else
    (if is_word (codes "hold") word then option_map Hold (stage_at bs) else
    (if is_word (codes "free") word then option_map Free (stage_at bs) else None)))

abbrev pub note_at : List ℕ → Option Note
note_at bs = note_kind_at (first_word bs) (after_word bs)

-- by the kind's word, what follows the actor's name
unfoldable pub item_of_at : List ℕ → Actor → List ℕ → Option Item
item_of_at word actor bs =
    if is_word (codes "note") word then option_map (item.Note actor) (note_at bs) else
    (if is_word (codes "mark") word then option_map (item.Mark actor) (last_stamp_at (codes "start=") bs) else
    (if is_word (codes "step") word then option_map (item.Step actor) (step_at bs) else
    (if is_word (codes "refused") word then option_map (item.Refused actor) (cause_at bs) else
    (if is_word (codes "fault") word then option_map (item.Fault actor) (store_at bs) else None))))

unfoldable pub actor_kind_at : List ℕ → List ℕ → Option Item
actor_kind_at word bs = do
  actor ← actor_at (first_word bs)
  item_of_at word actor (after_word bs)
