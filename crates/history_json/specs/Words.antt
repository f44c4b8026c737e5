-- The words of the line that an object's members tell, as reading finds them.
use Rattle.std.specs.Prelude.{ℕ, Bool, if◌then◌else◌, is_some, List, [], ◌∷◌, ◌++◌, Option, None, Some, codes, decimal, option_and_then}
use Rattle.std.specs.Option.{option_map, option_or}
use Rattle.serde_json.specs.Data.{Data}
use Rattle.serde_json.specs.Find.{get, as_str, as_number, as_u64}
use Rattle.history_reading.specs.ReadWords.{is_word}

-- what a member says: its text, or its digits where it is a whole number
unfoldable pub said_by : List ℕ → Data → Option (List ℕ)
said_by name d = option_or (option_and_then as_str (get name d)) (option_map decimal (option_and_then as_u64 (option_and_then as_number (get name d))))

-- the text, then words as they stand and in turn what the members of these names say
unfoldable pub filled : List ℕ → List (List ℕ) → Data → Option (List ℕ)
filled text [] d = Some text
filled text (words ∷ []) d = Some (text ++ words)
filled text (words ∷ name ∷ more) d = option_and_then (λ said. filled (text ++ words ++ said) more d) (said_by name d)

-- The rows: the words of each kind's line, and between them the names of the members that they stand beside.
-- A draw has its commit where one is told, and a read its answer where it tells from which transaction.
unfoldable pub draw_row : Bool → Option (List (List ℕ))
draw_row commit =
    if commit then Some (codes "draw " ∷ codes "session" ∷ codes " " ∷ codes "node" ∷ codes " term=" ∷ codes "term" ∷ codes " start=" ∷ codes "start" ∷ codes " commit=" ∷ codes "commit" ∷ [])
    else Some (codes "draw " ∷ codes "session" ∷ codes " " ∷ codes "node" ∷ codes " term=" ∷ codes "term" ∷ codes " start=" ∷ codes "start" ∷ [])

unfoldable pub read_row : Bool → Option (List (List ℕ))
read_row from =
    if from then Some (codes "read " ∷ codes "session" ∷ codes " start=" ∷ codes "start" ∷ codes " " ∷ codes "key" ∷ codes " from=" ∷ codes "from" ∷ codes " " ∷ codes "value" ∷ [])
    else Some (codes "read " ∷ codes "session" ∷ codes " start=" ∷ codes "start" ∷ codes " " ∷ codes "key" ∷ codes " none" ∷ [])

unfoldable pub node_row : List ℕ → Option (List (List ℕ))
node_row kind =
    if is_word (codes "tick") kind then Some (codes "tick " ∷ codes "to" ∷ [])
    else (if is_word (codes "take") kind then Some (codes "take " ∷ codes "node" ∷ codes " reading=" ∷ codes "reading" ∷ codes " term=" ∷ codes "term" ∷ codes " epoch=" ∷ codes "epoch" ∷ codes " until=" ∷ codes "until" ∷ codes " ceiling=" ∷ codes "ceiling" ∷ [])
    else (if is_word (codes "renew") kind then Some (codes "renew " ∷ codes "node" ∷ codes " reading=" ∷ codes "reading" ∷ codes " term=" ∷ codes "term" ∷ codes " until=" ∷ codes "until" ∷ [])
    else (if is_word (codes "extend") kind then Some (codes "extend " ∷ codes "node" ∷ codes " term=" ∷ codes "term" ∷ codes " ceiling=" ∷ codes "ceiling" ∷ [])
    else (if is_word (codes "crash") kind then Some (codes "crash " ∷ codes "node" ∷ codes " term=" ∷ codes "term" ∷ [])
    else None))))

unfoldable pub request_row : List ℕ → Bool → Option (List (List ℕ))
request_row kind commit =
    if is_word (codes "ask-begin") kind then Some (codes "ask-begin " ∷ codes "session" ∷ codes " " ∷ codes "node" ∷ [])
    else (if is_word (codes "ask-commit") kind then Some (codes "ask-commit " ∷ codes "session" ∷ codes " " ∷ codes "node" ∷ codes " start=" ∷ codes "start" ∷ [])
    else (if is_word (codes "accept") kind then Some (codes "accept " ∷ codes "session" ∷ codes " " ∷ codes "node" ∷ codes " term=" ∷ codes "term" ∷ codes " reading=" ∷ codes "reading" ∷ [])
    else (if is_word (codes "draw") kind then draw_row commit
    else (if is_word (codes "placed") kind then Some (codes "placed start=" ∷ codes "start" ∷ codes " commit=" ∷ codes "commit" ∷ [])
    else None))))

unfoldable pub session_row : List ℕ → Bool → Option (List (List ℕ))
session_row kind from =
    if is_word (codes "begin") kind then Some (codes "begin " ∷ codes "session" ∷ codes " start=" ∷ codes "start" ∷ [])
    else (if is_word (codes "write") kind then Some (codes "write " ∷ codes "session" ∷ codes " start=" ∷ codes "start" ∷ codes " " ∷ codes "key" ∷ codes " " ∷ codes "value" ∷ [])
    else (if is_word (codes "read") kind then read_row from
    else (if is_word (codes "committed") kind then Some (codes "committed " ∷ codes "session" ∷ codes " start=" ∷ codes "start" ∷ codes " commit=" ∷ codes "commit" ∷ [])
    else (if is_word (codes "end") kind then Some (codes "end " ∷ codes "session" ∷ codes " start=" ∷ codes "start" ∷ codes " " ∷ codes "how" ∷ [])
    else (if is_word (codes "vanish") kind then Some (codes "vanish " ∷ codes "session" ∷ [])
    else None)))))

unfoldable pub actor_row : List ℕ → Option (List (List ℕ))
actor_row kind =
    if is_word (codes "note") kind then Some (codes "note " ∷ codes "actor" ∷ codes " " ∷ codes "note" ∷ codes " " ∷ codes "name" ∷ [])
    else (if is_word (codes "mark") kind then Some (codes "mark " ∷ codes "actor" ∷ codes " start=" ∷ codes "start" ∷ [])
    else (if is_word (codes "step") kind then Some (codes "step " ∷ codes "actor" ∷ codes " " ∷ codes "text" ∷ [])
    else (if is_word (codes "refused") kind then Some (codes "refused " ∷ codes "actor" ∷ codes " " ∷ codes "text" ∷ [])
    else (if is_word (codes "fault") kind then Some (codes "fault " ∷ codes "actor" ∷ codes " " ∷ codes "store" ∷ [])
    else None))))

unfoldable pub row_of : List ℕ → Bool → Bool → Option (List (List ℕ))
row_of kind commit from = option_or (node_row kind) (option_or (request_row kind commit) (option_or (session_row kind from) (actor_row kind)))

-- the words of the object's kind
unfoldable pub words_of : Data → Option (List ℕ)
words_of d =
    option_and_then (λ kind. option_and_then (λ row. filled [] row d) (row_of kind (is_some (get (codes "commit") d)) (is_some (get (codes "from") d))))
    (option_and_then as_str (get (codes "kind") d))
