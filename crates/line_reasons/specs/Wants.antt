-- What the text of a member has to be, by the member's name; and which texts are not.
use Rattle.std.specs.Prelude.{◌≢◌, ℕ, ◌||◌, Bool, if◌then◌else◌, List, codes, decimal}
use Rattle.stamp_base.specs.Ranges.{IsNumber, IsStamp, IsTerm, IsNode, IsSession, IsKey}
use Rattle.stamp_base.specs.Words.{IsValue, IsName}
use Rattle.stamp_base.specs.declared.stage.Stage.{Stage}
use Rattle.stamp_base.specs.declared.stores.Store.{Store}
use Rattle.history_book.specs.declared.item.Actor.{Actor}
use Rattle.history_book.specs.declared.item.Ending.{Ending}
use Rattle.history_book.specs.declared.item.StoreStep.{StoreStep}
use Rattle.history_book.specs.declared.cause.Cause.{Cause}
use Rattle.history_text.specs.CauseText.{cause_text}
use Rattle.history_text.specs.Fits.{FitsActor, FitsCause, FitsStep}
use Rattle.history_text.specs.StepText.{step_text}
use Rattle.history_text.specs.Text.{ending_text}
use Rattle.history_text.specs.Words.{actor_text, key_text, node_text, session_text, stage_text, store_text}
use Rattle.history_reading.specs.ReadWords.{is_word}
use Rattle.line_reasons.specs.declared.wants.Wants.{Wants}
use Rattle.line_reasons.specs.declared.wants.Wants.TheVariants as wants

-- ---- what a member wants
abbrev pub is_stamp_name : List ℕ → Bool
is_stamp_name name = is_word (codes "start") name || is_word (codes "commit") name || is_word (codes "from") name

-- a note that holds or frees names a stage
abbrev pub noted_wants : List ℕ → Wants
noted_wants noted = if is_word (codes "hold") noted || is_word (codes "free") noted then wants.Stage else wants.Name

abbrev pub text_wants : List ℕ → Wants
text_wants kind = if is_word (codes "step") kind then wants.Step else wants.Cause

abbrev pub told_of : List ℕ → List ℕ → List ℕ → Wants
told_of kind noted name =
    if is_word (codes "actor") name then wants.Actor
    else (if is_word (codes "note") name then wants.Note
    else (if is_word (codes "store") name then wants.Store
    else (if is_word (codes "name") name then noted_wants noted
    else (if is_word (codes "text") name then text_wants kind
    else wants.Number))))

-- the member of this name, in a line of this kind whose member `note` says so
unfoldable pub wants_of : List ℕ → List ℕ → List ℕ → Wants
wants_of kind noted name =
    if is_word (codes "term") name then wants.Term
    else (if is_stamp_name name then wants.Stamp
    else (if is_word (codes "node") name then wants.Node
    else (if is_word (codes "session") name then wants.Session
    else (if is_word (codes "key") name then wants.Key
    else (if is_word (codes "value") name then wants.Value
    else (if is_word (codes "how") name then wants.Ending
    else told_of kind noted name))))))

-- ---- which texts are no value of what is wanted
abbrev pub IsNoValue : Wants → List ℕ → Type 0
IsNoValue wants.Number said = (n : ℕ) → IsNumber n → said ≢ decimal n
IsNoValue wants.Term said = (n : ℕ) → IsTerm n → said ≢ decimal n
IsNoValue wants.Stamp said = (n : ℕ) → IsStamp n → said ≢ decimal n
IsNoValue wants.Node said = (n : ℕ) → IsNode n → said ≢ node_text n
IsNoValue wants.Session said = (n : ℕ) → IsSession n → said ≢ session_text n
IsNoValue wants.Key said = (n : ℕ) → IsKey n → said ≢ key_text n
IsNoValue wants.Value said = IsValue said → ⊥
IsNoValue wants.Ending said = (how : Ending) → said ≢ ending_text how
IsNoValue wants.Actor said = (actor : Actor) → FitsActor actor → said ≢ actor_text actor
IsNoValue wants.Note said = (said ≢ codes "post") × (said ≢ codes "await") × (said ≢ codes "hold") × (said ≢ codes "free")
IsNoValue wants.Name said = IsName said → ⊥
IsNoValue wants.Stage said = (stage : Stage) → said ≢ stage_text stage
IsNoValue wants.Step said = (what : StoreStep) → FitsStep what → said ≢ step_text what
IsNoValue wants.Cause said = (why : Cause) → FitsCause why → said ≢ cause_text why
IsNoValue wants.Store said = (store : Store) → said ≢ store_text store

-- ---- what is wanted, in words
abbrev pub wants_text : Wants → List ℕ
wants_text wants.Number = codes "a whole number below 18446744073709551616, with no zero in front"
wants_text wants.Term = codes "1 to 18446744073709551615, with no zero in front"
wants_text wants.Stamp = codes "1 to 4611686018427387904, with no zero in front"
wants_text wants.Node = codes "a to h"
wants_text wants.Session = codes "s0 to s15"
wants_text wants.Key = codes "k0 to k4095"
wants_text wants.Value = codes "1 to 64 visible bytes"
wants_text wants.Ending = codes "read-only, aborted or dead"
wants_text wants.Actor = codes "clock, janitor, a to h, or s0 to s15"
wants_text wants.Note = codes "post, await, hold or free"
wants_text wants.Name = codes "1 to 16 letters, digits or dashes"
wants_text wants.Stage = codes "request, persist or reply"
wants_text wants.Step = codes "a step on a store"
wants_text wants.Cause = codes "the cause of a refusal"
wants_text wants.Store = codes "cells, table or master"
