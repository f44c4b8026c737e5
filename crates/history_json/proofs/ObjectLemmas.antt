-- The printed line of an item is read as its object: its members stand in order.
use Rattle.std.proofs.Common.{◌≡◌, None, Some, refl}
use Rattle.serde_json.specs.Data.{no_members}
use Rattle.history_book.specs.declared.item.Item.{Item}
use Rattle.history_book.specs.declared.item.Item.TheVariants as item
use Rattle.history_book.specs.declared.item.Note.TheVariants.{Post, Await, Hold, Free}
use Rattle.history_text.specs.Fits.{FitsItem}
use Rattle.history_json.specs.Json.{json_line, IsJsonLineOf}
use Rattle.history_json.specs.Members.{members_of}
use Rattle.history_json.proofs.PrintedLemmas.{put_all, printed_read}
use Rattle.history_json.proofs.SoundLemmas.{leaves, object_utf8, sound}

ordered : (item : Item) → put_all (members_of item) no_members ≡ members_of item
ordered (item.Tick to) = refl
ordered (item.Note actor (Post name)) = refl
ordered (item.Note actor (Await name)) = refl
ordered (item.Note actor (Hold stage)) = refl
ordered (item.Note actor (Free stage)) = refl
ordered (item.Take node reading term epoch until ceiling) = refl
ordered (item.Renew node reading term until) = refl
ordered (item.Extend node term ceiling) = refl
ordered (item.AskBegin session node) = refl
ordered (item.AskCommit session node start) = refl
ordered (item.Accept session node term reading) = refl
ordered (item.Draw session node term start None) = refl
ordered (item.Draw session node term start (Some commit)) = refl
ordered (item.Begin session start) = refl
ordered (item.Write session start key value) = refl
ordered (item.Read session start key None) = refl
ordered (item.Read session start key (Some found)) = refl
ordered (item.Placed start commit) = refl
ordered (item.Committed session start commit) = refl
ordered (item.Mark actor start) = refl
ordered (item.Step actor what) = refl
ordered (item.End session start how) = refl
ordered (item.Refused actor cause) = refl
ordered (item.Fault actor store) = refl
ordered (item.Crash node term) = refl
ordered (item.Vanish session) = refl

-- the line of an item that fits is read as the item
pub printed_again : (item : Item) → FitsItem item → IsJsonLineOf (json_line item) item
printed_again item fits =
    let all = sound item fits in
    record {
      utf8 = object_utf8 (members_of item) all;
      value = printed_read (members_of item) (leaves (members_of item) all) (ordered item);
    }
