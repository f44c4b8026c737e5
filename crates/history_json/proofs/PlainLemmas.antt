-- The texts of items need no escape and are UTF-8: they are ASCII, with neither a quote nor a backslash. Of a value only the latter holds.
use Rattle.std.proofs.Common.{◌≡◌, ℕ, ◌+◌, ◌%◌, ◌^◌, ◌<◌, ◌≤◌, nat_le, ◌==◌, ◌&&◌, ◌||◌, Bool, true, List, [], ◌∷◌, ◌++◌, Option, None, Some, codes, decimal, refl, ap, ap₂, ◌∙◌, arith, IsUtf8}
use Rattle.std.specs.List.{All, list_all}
use Rattle.std.proofs.lemmas.Fmt.{IsAscii-decimal, decimal_by_steps}
use Rattle.std.proofs.lemmas.List.Concat.{flat_map-append}
use Rattle.std.proofs.lemmas.List.Elements.{All-cons, All-head, All-nil, All-tail, All-weaker}
use Rattle.std.proofs.lemmas.List.Sums.{AllPass-from_list_all}
use Rattle.std.proofs.lemmas.Str.{IsUtf8-from_ascii, IsUtf8-append}
use Rattle.std.proofs.lemmas.Str.Ascii.{IsAscii-from_all}
use Rattle.json.specs.Print.{escape, escape_byte}
use Rattle.json.proofs.Printed.Strings.{escape_byte_plain}
use Rattle.stamp_base.specs.Ranges.{IsStamp, IsKey, IsSession, IsNode}
use Rattle.stamp_base.specs.declared.stage.Stage.{Stage}
use Rattle.stamp_base.specs.declared.stage.Stage.TheVariants.{Request, Persist, Reply}
use Rattle.stamp_base.specs.declared.stores.Store.{Store}
use Rattle.stamp_base.specs.declared.stores.Store.TheVariants.{Cells, Table, Master}
use Rattle.history_book.specs.declared.item.Actor.{Actor}
use Rattle.history_book.specs.declared.item.Actor.TheVariants.{Clock, Node, Session, Janitor}
use Rattle.history_book.specs.declared.item.Ending.{Ending}
use Rattle.history_book.specs.declared.item.Ending.TheVariants.{ReadOnly, Aborted, Dead}
use Rattle.history_book.specs.declared.item.Note.{Note}
use Rattle.history_book.specs.declared.item.Note.TheVariants.{Post, Await, Hold, Free}
use Rattle.history_text.specs.Words.{node_text, key_text, session_text, actor_text, stage_text, store_text}
use Rattle.history_text.specs.Text.{ending_text}
use Rattle.stamp_base.specs.Words.{IsVisible, IsValue, IsNameByte, IsName}
use Rattle.stamp_base.specs.declared.stores.Mark.{Mark}
use Rattle.stamp_base.specs.declared.stores.Mark.TheVariants as mark
use Rattle.history_book.specs.declared.cause.Cause.{Cause}
use Rattle.history_book.specs.declared.cause.Cause.TheVariants as cause
use Rattle.history_book.specs.declared.item.Seen.{Seen}
use Rattle.history_book.specs.declared.item.Seen.TheVariants as seen
use Rattle.history_book.specs.declared.item.StoreStep.{StoreStep}
use Rattle.history_book.specs.declared.item.StoreStep.TheVariants as step
use Rattle.history_text.specs.CauseText.{cause_text}
use Rattle.history_text.specs.Fits.{FitsMark, FitsEntry, FitsSeen, FitsStep, FitsCause, FitsActor, FitsNote}
use Rattle.history_text.specs.StepText.{mark_text, entry_text, seen_text, step_text}
use Rattle.history_json.specs.Members.{note_members}

pub record IsPlain (bs : List ℕ) : Type 0 where
  pub utf8 : IsUtf8 bs
  pub same : escape bs ≡ bs

record IsPlainByte (b : ℕ) : Type 0 where
  ascii : b < 128
  seen : 32 ≤ b
  no_quote : b ≡ 34 → ⊥
  no_slash : b ≡ 92 → ⊥

plain_append : (xs ys : List ℕ) → IsPlain xs → IsPlain ys → IsPlain (xs ++ ys)
plain_append xs ys one other = record {
  utf8 = IsUtf8-append xs ys one.utf8 other.utf8;
  same = flat_map-append escape_byte xs ys ∙ ap₂ (λ (xs ys : List ℕ). xs ++ ys) one.same other.same;
}

same_byte : (b : ℕ) → IsPlainByte b → escape_byte b ≡ b ∷ []
same_byte b h = escape_byte_plain b h.no_quote h.no_slash h.seen

same_bytes : (bs : List ℕ) → All IsPlainByte bs → escape bs ≡ bs
same_bytes [] h = refl
same_bytes (b ∷ bs) h = ap₂ (λ (xs ys : List ℕ). xs ++ ys) (same_byte b (All-head IsPlainByte b bs h)) (same_bytes bs (All-tail IsPlainByte b bs h))

all_plain : (bs : List ℕ) → All IsPlainByte bs → IsPlain bs
all_plain bs h = record {
  utf8 = IsUtf8-from_ascii bs (IsAscii-from_all bs (All-weaker IsPlainByte (λ b. b < 128) (λ b p. p.ascii) bs h));
  same = same_bytes bs h;
}

-- blanks, dashes, digits, equal signs and small letters
abbrev pub is_plain_byte : ℕ → Bool
is_plain_byte b = (b == 32) || (nat_le 45 b && nat_le b 61) || (nat_le 97 b && nat_le b 122)

plain_byte : (b : ℕ) → is_plain_byte b ≡ true → IsPlainByte b
plain_byte b e = record {
  ascii = grind arith;
  seen = grind arith;
  no_quote = λ is. grind arith;
  no_slash = λ is. grind arith;
}

pub words : (bs : List ℕ) → list_all is_plain_byte bs ≡ true → IsPlain bs
words bs e = all_plain bs (All-weaker (λ b. is_plain_byte b ≡ true) IsPlainByte plain_byte bs (AllPass-from_list_all is_plain_byte bs e))

digit : (d : ℕ) → d < 10 → escape ((48 + d) ∷ []) ≡ (48 + d) ∷ []
digit d low = ap (λ (bs : List ℕ). bs ++ []) (escape_byte_plain (48 + d) (λ e. omega (arith, e)) (λ e. omega (arith, e, low)) (omega arith))

same_digits : (n : ℕ) → n < 2 ^ 64 → escape (decimal n) ≡ decimal n
same_digits n low = decimal_by_steps (λ m ds. escape ds ≡ ds)
    (λ m one. digit m one)
    (λ m ds ten deeper. flat_map-append escape_byte ds _ ∙ ap₂ (λ (xs ys : List ℕ). xs ++ ys) deeper (digit (m % 10) (omega arith)))
    n low

digits : (n : ℕ) → n < 2 ^ 64 → IsPlain (decimal n)
digits n h = record {
  utf8 = IsUtf8-from_ascii (decimal n) (IsAscii-decimal n h);
  same = same_digits n h;
}

field : (name : List ℕ) (n : ℕ) → list_all is_plain_byte name ≡ true → n < 2 ^ 64 → IsPlain (name ++ decimal n)
field name n e h = plain_append name (decimal n) (words name e) (digits n h)

two_fields : (name : List ℕ) (n : ℕ) (next : List ℕ) (m : ℕ) → list_all is_plain_byte name ≡ true → n < 2 ^ 64 → list_all is_plain_byte next ≡ true → m < 2 ^ 64 → IsPlain (((name ++ decimal n) ++ next) ++ decimal m)
two_fields name n next m e h f k = plain_append ((name ++ decimal n) ++ next) (decimal m) (plain_append (name ++ decimal n) next (field name n e h) (words next f)) (digits m k)

-- a text, a blank and a text
spaced : (front back : List ℕ) → IsPlain front → IsPlain back → IsPlain ((front ++ codes " ") ++ back)
spaced front back one other = plain_append (front ++ codes " ") back (plain_append front (codes " ") one (words (codes " ") refl)) other

-- a value may have quotes and backslashes
pub value_utf8 : (bs : List ℕ) → IsValue bs → IsUtf8 bs
value_utf8 bs h = IsUtf8-from_ascii bs (IsAscii-from_all bs (All-weaker IsVisible (λ b. b < 128) (λ b v. omega (arith, v.1)) bs h.2))

name_byte : (b : ℕ) → IsNameByte b → IsPlainByte b
name_byte b h = record {
  ascii = grind arith;
  seen = grind arith;
  no_quote = λ is. grind arith;
  no_slash = λ is. grind arith;
}

pub name_plain : (bs : List ℕ) → IsName bs → IsPlain bs
name_plain bs h = all_plain bs (All-weaker IsNameByte IsPlainByte name_byte bs h.2)

pub name_utf8 : (bs : List ℕ) → IsName bs → IsUtf8 bs
name_utf8 bs h = (name_plain bs h).utf8

pub stamp_small : (n : ℕ) → IsStamp n → n < 2 ^ 64
stamp_small n h = omega (arith, h.1)

key_small : (n : ℕ) → n < 4096 → n < 2 ^ 64
key_small n h = omega (arith, h)

letter : (node : ℕ) → node < 8 → IsPlain ((97 + node) ∷ [])
letter node h = all_plain ((97 + node) ∷ []) (All-cons IsPlainByte (97 + node) [] (record {
  ascii = omega arith;
  seen = omega arith;
  no_quote = λ is. omega arith;
  no_slash = λ is. omega arith;
}) (All-nil IsPlainByte))

mark_plain : (mark : Mark) → FitsMark mark → IsPlain (mark_text mark)
mark_plain (mark.Committed commit) h = field (codes "committed=") commit refl (stamp_small commit h)
mark_plain mark.Invalid h = words (codes "invalid") refl

entry_plain : (entry : Option Mark) → FitsEntry entry → IsPlain (entry_text entry)
entry_plain None h = words (codes "absent") refl
entry_plain (Some mark) h = mark_plain mark h

seen_plain : (seen : Seen) → FitsSeen seen → IsPlain (seen_text seen)
seen_plain seen.Bare h = words (codes "none") refl
seen_plain seen.Gone h = words (codes "gone") refl
seen_plain (seen.Commit commit) h = field (codes "commit=") commit refl (stamp_small commit h)

pub step_plain : (what : StoreStep) → FitsStep what → IsPlain (step_text what)
step_plain (step.Fetch key cells) h = two_fields (codes "fetch k") key (codes " cells=") cells refl (key_small key h.0) refl h.1
step_plain (step.Get txn answer) h = spaced (codes "get " ++ decimal txn) (entry_text answer) (field (codes "get ") txn refl (stamp_small txn h.0)) (entry_plain answer h.1)
step_plain (step.MarkFound txn mark) h = spaced (codes "mark " ++ decimal txn) (mark_text mark) (field (codes "mark ") txn refl (stamp_small txn h.0)) (mark_plain mark h.1)
step_plain (step.Look key txn answer) h =
    spaced ((codes "look k" ++ decimal key) ++ codes " " ++ decimal txn) (seen_text answer) (two_fields (codes "look k") key (codes " ") txn refl (key_small key h.0) refl (stamp_small txn h.1)) (seen_plain answer h.2)
step_plain (step.Shadow key txn commit) h =
    spaced ((codes "shadow k" ++ decimal key) ++ codes " " ++ decimal txn) (decimal commit) (two_fields (codes "shadow k") key (codes " ") txn refl (key_small key h.0) refl (stamp_small txn h.1)) (digits commit (stamp_small commit h.2))
step_plain (step.Remove txn) h = field (codes "remove ") txn refl (stamp_small txn h)
step_plain (step.Erase key txn) h = two_fields (codes "erase k") key (codes " ") txn refl (key_small key h.0) refl (stamp_small txn h.1)
step_plain (step.Keys txn count) h = two_fields (codes "keys ") txn (codes " count=") count refl (stamp_small txn h.0) refl h.1
step_plain (step.PutFound txn) h = plain_append (codes "put " ++ decimal txn) (codes " invalid") (field (codes "put ") txn refl (stamp_small txn h)) (words (codes " invalid") refl)
step_plain (step.Handed txn commit) h = two_fields (codes "handed ") txn (codes " ") commit refl (stamp_small txn h.0) refl (stamp_small commit h.1)

pub cause_plain : (cause : Cause) → FitsCause cause → IsPlain (cause_text cause)
cause_plain (cause.Conflict key by) h = two_fields (codes "conflict key=k") key (codes " by=") by refl (key_small key h.0) refl (stamp_small by h.1)
cause_plain (cause.Hidden key water) h = two_fields (codes "hidden key=k") key (codes " water=") water refl (key_small key h.0) refl h.1
cause_plain (cause.OldEpoch start epoch) h = two_fields (codes "old-epoch start=") start (codes " epoch=") epoch refl (stamp_small start h.0) refl h.1
cause_plain (cause.Expired reading until) h = two_fields (codes "expired reading=") reading (codes " until=") until refl h.0 refl h.1
cause_plain (cause.Replaced found) h = field (codes "replaced found=") found refl h
cause_plain (cause.Spent ceiling) h = field (codes "spent ceiling=") ceiling refl h
cause_plain (cause.NoStamp last) h = field (codes "no-stamp last=") last refl h
cause_plain (cause.Invalid start) h = field (codes "invalid start=") start refl (stamp_small start h)
cause_plain (cause.Open start) h = field (codes "open start=") start refl (stamp_small start h)
cause_plain (cause.Crashed node term) h =
    let named = plain_append (codes "crashed node=") ((97 + node) ∷ []) (words (codes "crashed node=") refl) (letter node h.0) in
    let fielded = plain_append (codes "crashed node=" ++ (97 + node) ∷ []) (codes " term=") named (words (codes " term=") refl) in
    plain_append ((codes "crashed node=" ++ (97 + node) ∷ []) ++ codes " term=") (decimal term) fielded (digits term h.1.1)
cause_plain (cause.NotYet commit) h = field (codes "not-yet commit=") commit refl (stamp_small commit h)
cause_plain (cause.NoRequest session) h = field (codes "no-request session=s") session refl (omega (arith, h))
cause_plain (cause.NoOracle node) h = plain_append (codes "no-oracle node=") ((97 + node) ∷ []) (words (codes "no-oracle node=") refl) (letter node h)
cause_plain (cause.Full in_flight) h = field (codes "full in-flight=") in_flight refl h
cause_plain (cause.Early reading until) h = two_fields (codes "early reading=") reading (codes " until=") until refl h.0 refl h.1
cause_plain (cause.Holding term) h = field (codes "holding term=") term refl h.1
cause_plain cause.NoTransaction h = words (codes "no-transaction") refl
cause_plain cause.Busy h = words (codes "busy") refl
cause_plain cause.TooManyKeys h = words (codes "too-many-keys") refl
cause_plain cause.Gone h = words (codes "gone") refl
cause_plain cause.Idle h = words (codes "idle") refl
cause_plain (cause.Undecided start epoch) h = two_fields (codes "undecided start=") start (codes " epoch=") epoch refl (stamp_small start h.0) refl h.1

pub key_plain : (key : ℕ) → IsKey key → IsPlain (key_text key)
key_plain key h = field (codes "k") key refl (key_small key h)

pub node_plain : (node : ℕ) → IsNode node → IsPlain (node_text node)
node_plain node h = letter node h

pub session_plain : (session : ℕ) → IsSession session → IsPlain (session_text session)
session_plain session h = field (codes "s") session refl (omega (arith, h))

pub actor_plain : (actor : Actor) → FitsActor actor → IsPlain (actor_text actor)
actor_plain Clock h = words (codes "clock") refl
actor_plain (Node node) h = node_plain node h
actor_plain (Session session) h = session_plain session h
actor_plain Janitor h = words (codes "janitor") refl

pub stage_plain : (stage : Stage) → IsPlain (stage_text stage)
stage_plain Request = words (codes "request") refl
stage_plain Persist = words (codes "persist") refl
stage_plain Reply = words (codes "reply") refl

pub store_plain : (store : Store) → IsPlain (store_text store)
store_plain Cells = words (codes "cells") refl
store_plain Table = words (codes "table") refl
store_plain Master = words (codes "master") refl

pub ending_plain : (how : Ending) → IsPlain (ending_text how)
ending_plain ReadOnly = words (codes "read-only") refl
ending_plain Aborted = words (codes "aborted") refl
ending_plain Dead = words (codes "dead") refl

pub noted_plain : (note : Note) → FitsNote note → IsPlain (note_members note).1
noted_plain (Post name) h = name_plain name h
noted_plain (Await name) h = name_plain name h
noted_plain (Hold stage) h = stage_plain stage
noted_plain (Free stage) h = stage_plain stage

pub note_plain : (note : Note) → IsPlain (note_members note).0
note_plain (Post name) = words (codes "post") refl
note_plain (Await name) = words (codes "await") refl
note_plain (Hold stage) = words (codes "hold") refl
note_plain (Free stage) = words (codes "free") refl
