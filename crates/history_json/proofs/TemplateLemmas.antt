-- The lines of the templates are those of the objects: what stands in every line of a kind, and between it what the item says.
use Rattle.std.proofs.Common.{◌≡◌, ℕ, List, ◌++◌, append_assoc, codes, decimal}
use Rattle.json.specs.Print.{escape, escape_byte}
use Rattle.serde_json.specs.Data.{no_members, object}
use Rattle.serde_json.specs.Written.{compact_text}
use Rattle.history_json.specs.Members.{whole, text, kind}
use Rattle.history_json.proofs.PlainLemmas.{IsPlain}

pub tick_line : (to : ℕ)
    → codes "{\"kind\":\"tick\",\"to\":" ++ decimal to ++ codes "}"
    ≡ compact_text (object (kind (codes "tick") (whole (codes "to") to no_members)))
unfolding escape_byte
tick_line to = simp append_assoc

pub take_line : (ceiling epoch : ℕ) (node : List ℕ) (reading term until : ℕ) → IsPlain node
    → codes "{\"ceiling\":" ++ decimal ceiling ++ codes ",\"epoch\":" ++ decimal epoch ++ codes ",\"kind\":\"take\",\"node\":\"" ++ node ++ codes "\",\"reading\":" ++ decimal reading ++ codes ",\"term\":" ++ decimal term ++ codes ",\"until\":" ++ decimal until ++ codes "}"
    ≡ compact_text (object (whole (codes "ceiling") ceiling (whole (codes "epoch") epoch (kind (codes "take") (text (codes "node") node (whole (codes "reading") reading (whole (codes "term") term (whole (codes "until") until no_members))))))))
unfolding escape_byte
take_line ceiling epoch node reading term until node_plain = simp (append_assoc, node_plain.same)

pub renew_line : (node : List ℕ) (reading term until : ℕ) → IsPlain node
    → codes "{\"kind\":\"renew\",\"node\":\"" ++ node ++ codes "\",\"reading\":" ++ decimal reading ++ codes ",\"term\":" ++ decimal term ++ codes ",\"until\":" ++ decimal until ++ codes "}"
    ≡ compact_text (object (kind (codes "renew") (text (codes "node") node (whole (codes "reading") reading (whole (codes "term") term (whole (codes "until") until no_members))))))
unfolding escape_byte
renew_line node reading term until node_plain = simp (append_assoc, node_plain.same)

pub extend_line : (ceiling : ℕ) (node : List ℕ) (term : ℕ) → IsPlain node
    → codes "{\"ceiling\":" ++ decimal ceiling ++ codes ",\"kind\":\"extend\",\"node\":\"" ++ node ++ codes "\",\"term\":" ++ decimal term ++ codes "}"
    ≡ compact_text (object (whole (codes "ceiling") ceiling (kind (codes "extend") (text (codes "node") node (whole (codes "term") term no_members)))))
unfolding escape_byte
extend_line ceiling node term node_plain = simp (append_assoc, node_plain.same)

pub crash_line : (node : List ℕ) (term : ℕ) → IsPlain node
    → codes "{\"kind\":\"crash\",\"node\":\"" ++ node ++ codes "\",\"term\":" ++ decimal term ++ codes "}"
    ≡ compact_text (object (kind (codes "crash") (text (codes "node") node (whole (codes "term") term no_members))))
unfolding escape_byte
crash_line node term node_plain = simp (append_assoc, node_plain.same)

pub ask_begin_line : (node session : List ℕ) → IsPlain node → IsPlain session
    → codes "{\"kind\":\"ask-begin\",\"node\":\"" ++ node ++ codes "\",\"session\":\"" ++ session ++ codes "\"}"
    ≡ compact_text (object (kind (codes "ask-begin") (text (codes "node") node (text (codes "session") session no_members))))
unfolding escape_byte
ask_begin_line node session node_plain session_plain = simp (append_assoc, node_plain.same, session_plain.same)

pub ask_commit_line : (node session : List ℕ) (start : ℕ) → IsPlain node → IsPlain session
    → codes "{\"kind\":\"ask-commit\",\"node\":\"" ++ node ++ codes "\",\"session\":\"" ++ session ++ codes "\",\"start\":" ++ decimal start ++ codes "}"
    ≡ compact_text (object (kind (codes "ask-commit") (text (codes "node") node (text (codes "session") session (whole (codes "start") start no_members)))))
unfolding escape_byte
ask_commit_line node session start node_plain session_plain = simp (append_assoc, node_plain.same, session_plain.same)

pub accept_line : (node : List ℕ) (reading : ℕ) (session : List ℕ) (term : ℕ) → IsPlain node → IsPlain session
    → codes "{\"kind\":\"accept\",\"node\":\"" ++ node ++ codes "\",\"reading\":" ++ decimal reading ++ codes ",\"session\":\"" ++ session ++ codes "\",\"term\":" ++ decimal term ++ codes "}"
    ≡ compact_text (object (kind (codes "accept") (text (codes "node") node (whole (codes "reading") reading (text (codes "session") session (whole (codes "term") term no_members))))))
unfolding escape_byte
accept_line node reading session term node_plain session_plain = simp (append_assoc, node_plain.same, session_plain.same)

pub begin_draw_line : (node session : List ℕ) (start term : ℕ) → IsPlain node → IsPlain session
    → codes "{\"kind\":\"draw\",\"node\":\"" ++ node ++ codes "\",\"session\":\"" ++ session ++ codes "\",\"start\":" ++ decimal start ++ codes ",\"term\":" ++ decimal term ++ codes "}"
    ≡ compact_text (object (kind (codes "draw") (text (codes "node") node (text (codes "session") session (whole (codes "start") start (whole (codes "term") term no_members))))))
unfolding escape_byte
begin_draw_line node session start term node_plain session_plain = simp (append_assoc, node_plain.same, session_plain.same)

pub commit_draw_line : (commit : ℕ) (node session : List ℕ) (start term : ℕ) → IsPlain node → IsPlain session
    → codes "{\"commit\":" ++ decimal commit ++ codes ",\"kind\":\"draw\",\"node\":\"" ++ node ++ codes "\",\"session\":\"" ++ session ++ codes "\",\"start\":" ++ decimal start ++ codes ",\"term\":" ++ decimal term ++ codes "}"
    ≡ compact_text (object (whole (codes "commit") commit (kind (codes "draw") (text (codes "node") node (text (codes "session") session (whole (codes "start") start (whole (codes "term") term no_members)))))))
unfolding escape_byte
commit_draw_line commit node session start term node_plain session_plain = simp (append_assoc, node_plain.same, session_plain.same)

pub placed_line : (commit start : ℕ)
    → codes "{\"commit\":" ++ decimal commit ++ codes ",\"kind\":\"placed\",\"start\":" ++ decimal start ++ codes "}"
    ≡ compact_text (object (whole (codes "commit") commit (kind (codes "placed") (whole (codes "start") start no_members))))
unfolding escape_byte
placed_line commit start = simp append_assoc

pub begin_line : (session : List ℕ) (start : ℕ) → IsPlain session
    → codes "{\"kind\":\"begin\",\"session\":\"" ++ session ++ codes "\",\"start\":" ++ decimal start ++ codes "}"
    ≡ compact_text (object (kind (codes "begin") (text (codes "session") session (whole (codes "start") start no_members))))
unfolding escape_byte
begin_line session start session_plain = simp (append_assoc, session_plain.same)

pub write_line : (key session : List ℕ) (start : ℕ) (value : List ℕ) → IsPlain key → IsPlain session
    → codes "{\"key\":\"" ++ key ++ codes "\",\"kind\":\"write\",\"session\":\"" ++ session ++ codes "\",\"start\":" ++ decimal start ++ codes ",\"value\":\"" ++ escape value ++ codes "\"}"
    ≡ compact_text (object (text (codes "key") key (kind (codes "write") (text (codes "session") session (whole (codes "start") start (text (codes "value") value no_members))))))
unfolding escape_byte
write_line key session start value key_plain session_plain = simp (append_assoc, key_plain.same, session_plain.same)

pub read_none_line : (key session : List ℕ) (start : ℕ) → IsPlain key → IsPlain session
    → codes "{\"key\":\"" ++ key ++ codes "\",\"kind\":\"read\",\"session\":\"" ++ session ++ codes "\",\"start\":" ++ decimal start ++ codes "}"
    ≡ compact_text (object (text (codes "key") key (kind (codes "read") (text (codes "session") session (whole (codes "start") start no_members)))))
unfolding escape_byte
read_none_line key session start key_plain session_plain = simp (append_assoc, key_plain.same, session_plain.same)

pub read_some_line : (from : ℕ) (key session : List ℕ) (start : ℕ) (value : List ℕ) → IsPlain key → IsPlain session
    → codes "{\"from\":" ++ decimal from ++ codes ",\"key\":\"" ++ key ++ codes "\",\"kind\":\"read\",\"session\":\"" ++ session ++ codes "\",\"start\":" ++ decimal start ++ codes ",\"value\":\"" ++ escape value ++ codes "\"}"
    ≡ compact_text (object (whole (codes "from") from (text (codes "key") key (kind (codes "read") (text (codes "session") session (whole (codes "start") start (text (codes "value") value no_members)))))))
unfolding escape_byte
read_some_line from key session start value key_plain session_plain = simp (append_assoc, key_plain.same, session_plain.same)

pub committed_line : (commit : ℕ) (session : List ℕ) (start : ℕ) → IsPlain session
    → codes "{\"commit\":" ++ decimal commit ++ codes ",\"kind\":\"committed\",\"session\":\"" ++ session ++ codes "\",\"start\":" ++ decimal start ++ codes "}"
    ≡ compact_text (object (whole (codes "commit") commit (kind (codes "committed") (text (codes "session") session (whole (codes "start") start no_members)))))
unfolding escape_byte
committed_line commit session start session_plain = simp (append_assoc, session_plain.same)

pub end_line : (how session : List ℕ) (start : ℕ) → IsPlain how → IsPlain session
    → codes "{\"how\":\"" ++ how ++ codes "\",\"kind\":\"end\",\"session\":\"" ++ session ++ codes "\",\"start\":" ++ decimal start ++ codes "}"
    ≡ compact_text (object (text (codes "how") how (kind (codes "end") (text (codes "session") session (whole (codes "start") start no_members)))))
unfolding escape_byte
end_line how session start how_plain session_plain = simp (append_assoc, how_plain.same, session_plain.same)

pub vanish_line : (session : List ℕ) → IsPlain session
    → codes "{\"kind\":\"vanish\",\"session\":\"" ++ session ++ codes "\"}"
    ≡ compact_text (object (kind (codes "vanish") (text (codes "session") session no_members)))
unfolding escape_byte
vanish_line session session_plain = simp (append_assoc, session_plain.same)

pub note_line : (actor name word : List ℕ) → IsPlain actor → IsPlain name → IsPlain word
    → codes "{\"actor\":\"" ++ actor ++ codes "\",\"kind\":\"note\",\"name\":\"" ++ name ++ codes "\",\"note\":\"" ++ word ++ codes "\"}"
    ≡ compact_text (object (text (codes "actor") actor (kind (codes "note") (text (codes "name") name (text (codes "note") word no_members)))))
unfolding escape_byte
note_line actor name word actor_plain name_plain word_plain = simp (append_assoc, actor_plain.same, name_plain.same, word_plain.same)

pub mark_line : (actor : List ℕ) (start : ℕ) → IsPlain actor
    → codes "{\"actor\":\"" ++ actor ++ codes "\",\"kind\":\"mark\",\"start\":" ++ decimal start ++ codes "}"
    ≡ compact_text (object (text (codes "actor") actor (kind (codes "mark") (whole (codes "start") start no_members))))
unfolding escape_byte
mark_line actor start actor_plain = simp (append_assoc, actor_plain.same)

pub step_line : (actor what : List ℕ) → IsPlain actor → IsPlain what
    → codes "{\"actor\":\"" ++ actor ++ codes "\",\"kind\":\"step\",\"text\":\"" ++ what ++ codes "\"}"
    ≡ compact_text (object (text (codes "actor") actor (kind (codes "step") (text (codes "text") what no_members))))
unfolding escape_byte
step_line actor what actor_plain what_plain = simp (append_assoc, actor_plain.same, what_plain.same)

pub refused_line : (actor cause : List ℕ) → IsPlain actor → IsPlain cause
    → codes "{\"actor\":\"" ++ actor ++ codes "\",\"kind\":\"refused\",\"text\":\"" ++ cause ++ codes "\"}"
    ≡ compact_text (object (text (codes "actor") actor (kind (codes "refused") (text (codes "text") cause no_members))))
unfolding escape_byte
refused_line actor cause actor_plain cause_plain = simp (append_assoc, actor_plain.same, cause_plain.same)

pub fault_line : (actor store : List ℕ) → IsPlain actor → IsPlain store
    → codes "{\"actor\":\"" ++ actor ++ codes "\",\"kind\":\"fault\",\"store\":\"" ++ store ++ codes "\"}"
    ≡ compact_text (object (text (codes "actor") actor (kind (codes "fault") (text (codes "store") store no_members))))
unfolding escape_byte
fault_line actor store actor_plain store_plain = simp (append_assoc, actor_plain.same, store_plain.same)
