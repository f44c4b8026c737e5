-- The members of an item that fits are sound: each number has 64 bits, and each text is UTF-8. So its line is UTF-8, and is read again.
use Rattle.std.proofs.Common.{◌≡◌, ℕ, ◌^◌, ◌<◌, Bool, true, false, [], ◌∷◌, List, None, Some, codes, refl, IsUtf8}
use Rattle.std.specs.List.{list_all}
use Rattle.std.proofs.lemmas.Bool.{and_from, lt-ltb}
use Rattle.std.proofs.lemmas.Fmt.{IsAscii-decimal}
use Rattle.std.proofs.lemmas.Str.{IsUtf8-append, IsUtf8-from_ascii, IsUtf8-nil}
use Rattle.json.specs.Print.{quoted}
use Rattle.json.proofs.Printed.Utf8.{IsUtf8-are_ascii, IsUtf8-quoted}
use Rattle.serde_json.specs.Data.{Data, null, boolean, number, string, array, object, unsigned, negative, float, Members, no_members, member}
use Rattle.serde_json.specs.Written.{comma_if, compact_text, members_text}
use Rattle.history_book.specs.declared.item.Item.{Item}
use Rattle.history_book.specs.declared.item.Item.TheVariants as item
use Rattle.history_text.specs.Fits.{FitsItem}
use Rattle.history_json.specs.Expected.{is_leaf, are_leaves}
use Rattle.history_json.specs.Members.{members_of}
use Rattle.history_json.proofs.PlainLemmas.{is_plain_byte, words, value_utf8, stamp_small, step_plain, cause_plain, key_plain, node_plain, session_plain, actor_plain, store_plain, ending_plain, noted_plain, note_plain}

abbrev IsSound : Data → Type 0
IsSound null = ⊥
IsSound (boolean b) = ⊥
IsSound (number (unsigned n)) = n < 2 ^ 64
IsSound (number (negative z)) = ⊥
IsSound (number (float x)) = ⊥
IsSound (string s) = IsUtf8 s
IsSound (array ds) = ⊥
IsSound (object ms) = ⊥

abbrev pub AreSound : Members → Type 0
AreSound no_members = Unit {0}
AreSound (member k d ms) = IsUtf8 k × IsSound d × AreSound ms

leaf : (d : Data) → IsSound d → is_leaf d ≡ true
leaf null h = absurd h
leaf (boolean b) h = absurd h
leaf (number (unsigned n)) h = lt-ltb n (2 ^ 64) h
leaf (number (negative z)) h = absurd h
leaf (number (float x)) h = absurd h
leaf (string s) h = refl
leaf (array ds) h = absurd h
leaf (object ms) h = absurd h

pub leaves : (ms : Members) → AreSound ms → are_leaves ms ≡ true
leaves no_members h = refl
leaves (member k d ms) h = and_from _ _ (leaf d h.1) (leaves ms h.2)

leaf_utf8 : (d : Data) → IsSound d → IsUtf8 (compact_text d)
leaf_utf8 null h = absurd h
leaf_utf8 (boolean b) h = absurd h
leaf_utf8 (number (unsigned n)) h = IsUtf8-from_ascii _ (IsAscii-decimal n h)
leaf_utf8 (number (negative z)) h = absurd h
leaf_utf8 (number (float x)) h = absurd h
leaf_utf8 (string s) h = IsUtf8-quoted s h
leaf_utf8 (array ds) h = absurd h
leaf_utf8 (object ms) h = absurd h

comma_utf8 : (later : Bool) → IsUtf8 (comma_if later)
comma_utf8 true = IsUtf8-are_ascii (44 ∷ []) refl
comma_utf8 false = IsUtf8-nil

members_utf8 : (later : Bool) (ms : Members) → AreSound ms → IsUtf8 (members_text later ms)
members_utf8 later no_members h = IsUtf8-are_ascii (125 ∷ []) refl
members_utf8 later (member k d ms) h =
    let value = IsUtf8-append (compact_text d) (members_text true ms) (leaf_utf8 d h.1) (members_utf8 true ms h.2) in
    let behind = IsUtf8-append (58 ∷ []) _ (IsUtf8-are_ascii (58 ∷ []) refl) value in
    IsUtf8-append (comma_if later) _ (comma_utf8 later) (IsUtf8-append (quoted k) _ (IsUtf8-quoted k h.0) behind)

pub object_utf8 : (ms : Members) → AreSound ms → IsUtf8 (compact_text (object ms))
object_utf8 ms h = IsUtf8-append (123 ∷ []) _ (IsUtf8-are_ascii (123 ∷ []) refl) (members_utf8 false ms h)

-- ---- the members of each kind

word : (bs : List ℕ) → list_all is_plain_byte bs ≡ true → IsUtf8 bs
word bs e = (words bs e).utf8

in_kind : IsUtf8 (codes "kind")
in_kind = word (codes "kind") refl

in_node : IsUtf8 (codes "node")
in_node = word (codes "node") refl

in_session : IsUtf8 (codes "session")
in_session = word (codes "session") refl

in_key : IsUtf8 (codes "key")
in_key = word (codes "key") refl

in_actor : IsUtf8 (codes "actor")
in_actor = word (codes "actor") refl

in_text : IsUtf8 (codes "text")
in_text = word (codes "text") refl

in_start : IsUtf8 (codes "start")
in_start = word (codes "start") refl

in_commit : IsUtf8 (codes "commit")
in_commit = word (codes "commit") refl

in_reading : IsUtf8 (codes "reading")
in_reading = word (codes "reading") refl

in_term : IsUtf8 (codes "term")
in_term = word (codes "term") refl

in_until : IsUtf8 (codes "until")
in_until = word (codes "until") refl

in_ceiling : IsUtf8 (codes "ceiling")
in_ceiling = word (codes "ceiling") refl

in_value : IsUtf8 (codes "value")
in_value = word (codes "value") refl

pub sound : (item : Item) → FitsItem item → AreSound (members_of item)
sound (item.Tick to) h = (in_kind, word (codes "tick") refl, (word (codes "to") refl, h, tt))
sound (item.Note actor note) h = (in_actor, (actor_plain actor h.0).utf8, (in_kind, word (codes "note") refl, (word (codes "name") refl, (noted_plain note h.1).utf8, (word (codes "note") refl, (note_plain note).utf8, tt))))
sound (item.Take node reading term epoch until ceiling) h = (in_ceiling, h.5, (word (codes "epoch") refl, h.3, (in_kind, word (codes "take") refl, (in_node, (node_plain node h.0).utf8, (in_reading, h.1, (in_term, h.2.1, (in_until, h.4, tt)))))))
sound (item.Renew node reading term until) h = (in_kind, word (codes "renew") refl, (in_node, (node_plain node h.0).utf8, (in_reading, h.1, (in_term, h.2.1, (in_until, h.3, tt)))))
sound (item.Extend node term ceiling) h = (in_ceiling, h.2, (in_kind, word (codes "extend") refl, (in_node, (node_plain node h.0).utf8, (in_term, h.1.1, tt))))
sound (item.AskBegin session node) h = (in_kind, word (codes "ask-begin") refl, (in_node, (node_plain node h.1).utf8, (in_session, (session_plain session h.0).utf8, tt)))
sound (item.AskCommit session node start) h = (in_kind, word (codes "ask-commit") refl, (in_node, (node_plain node h.1).utf8, (in_session, (session_plain session h.0).utf8, (in_start, stamp_small start h.2, tt))))
sound (item.Accept session node term reading) h = (in_kind, word (codes "accept") refl, (in_node, (node_plain node h.1).utf8, (in_reading, h.3, (in_session, (session_plain session h.0).utf8, (in_term, h.2.1, tt)))))
sound (item.Draw session node term start None) h = (in_kind, word (codes "draw") refl, (in_node, (node_plain node h.1).utf8, (in_session, (session_plain session h.0).utf8, (in_start, stamp_small start h.3, (in_term, h.2.1, tt)))))
sound (item.Draw session node term start (Some commit)) h = (in_commit, stamp_small commit h.4, (in_kind, word (codes "draw") refl, (in_node, (node_plain node h.1).utf8, (in_session, (session_plain session h.0).utf8, (in_start, stamp_small start h.3, (in_term, h.2.1, tt))))))
sound (item.Begin session start) h = (in_kind, word (codes "begin") refl, (in_session, (session_plain session h.0).utf8, (in_start, stamp_small start h.1, tt)))
sound (item.Write session start key value) h = (in_key, (key_plain key h.2).utf8, (in_kind, word (codes "write") refl, (in_session, (session_plain session h.0).utf8, (in_start, stamp_small start h.1, (in_value, value_utf8 value h.3, tt)))))
sound (item.Read session start key None) h = (in_key, (key_plain key h.2).utf8, (in_kind, word (codes "read") refl, (in_session, (session_plain session h.0).utf8, (in_start, stamp_small start h.1, tt))))
sound (item.Read session start key (Some found)) h = (word (codes "from") refl, stamp_small found.from h.3.0, (in_key, (key_plain key h.2).utf8, (in_kind, word (codes "read") refl, (in_session, (session_plain session h.0).utf8, (in_start, stamp_small start h.1, (in_value, value_utf8 found.value h.3.1, tt))))))
sound (item.Placed start commit) h = (in_commit, stamp_small commit h.1, (in_kind, word (codes "placed") refl, (in_start, stamp_small start h.0, tt)))
sound (item.Committed session start commit) h = (in_commit, stamp_small commit h.2, (in_kind, word (codes "committed") refl, (in_session, (session_plain session h.0).utf8, (in_start, stamp_small start h.1, tt))))
sound (item.Mark actor start) h = (in_actor, (actor_plain actor h.0).utf8, (in_kind, word (codes "mark") refl, (in_start, stamp_small start h.1, tt)))
sound (item.Step actor what) h = (in_actor, (actor_plain actor h.0).utf8, (in_kind, word (codes "step") refl, (in_text, (step_plain what h.1).utf8, tt)))
sound (item.End session start how) h = (word (codes "how") refl, (ending_plain how).utf8, (in_kind, word (codes "end") refl, (in_session, (session_plain session h.0).utf8, (in_start, stamp_small start h.1, tt))))
sound (item.Refused actor cause) h = (in_actor, (actor_plain actor h.0).utf8, (in_kind, word (codes "refused") refl, (in_text, (cause_plain cause h.1).utf8, tt)))
sound (item.Fault actor store) h = (in_actor, (actor_plain actor h).utf8, (in_kind, word (codes "fault") refl, (word (codes "store") refl, (store_plain store).utf8, tt)))
sound (item.Crash node term) h = (in_kind, word (codes "crash") refl, (in_node, (node_plain node h.0).utf8, (in_term, h.1.1, tt)))
sound (item.Vanish session) h = (in_kind, word (codes "vanish") refl, (in_session, (session_plain session h).utf8, tt))
