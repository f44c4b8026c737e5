-- What the template of a kind reads is the text of its item.
use Rattle.std.proofs.Common.{◌≡◌, ℕ, ◌+◌, ◌==◌, List, [], ◌∷◌, IfSome, decimal, codes, refl, sym, ◌∙◌, inl, inr}
use Rattle.std.proofs.lemmas.Bool.{cases_Bool}
use Rattle.history_text.specs.Text.{body_of, answer_text, commit_text}
use Rattle.history_text.specs.StepText.{step_text, mark_text, entry_text, seen_text}
use Rattle.history_text.specs.Fits.{FitsItem, FitsAnswer, FitsCommit, FitsStep, FitsMark, FitsEntry, FitsSeen}
use Rattle.history_book.specs.declared.item.Item.{Item}
use Rattle.history_reading.specs.ReadWords.{◌>>=◌, is_word, after_text, node_of, session_of, key_of, stamp_of, term_of, value_at}
use Rattle.history_reading.specs.Templates.{exact_field_at, alone, exact_end_at, exact_asked_at, exact_started_at, exact_cell_at, ask_begin_line, ask_commit_line, accept_line, commit_line, draw_line, placed_line, begin_line, committed_line, write_line, answer_line, found_line, read_line, fetch_line, mark_line, entry_line, get_line, seen_line, look_line, shadow_line, remove_line, what_line, step_line, request_line, template_at}
use Rattle.history_reading.proofs.TemplateTexts.{if_bind, if_map, if_or, after_is, word_is, field_is, alone_is, end_is, end_stamp_is, node_is, session_is, key_is, stamp_is, term_is, value_is, asked_is, started_is, cell_is, told_same, four, five, seven, nine, ten, keyed}

abbrev IsLineOf : ℕ → List ℕ → Item → Type 0
IsLineOf first bs item = (first ∷ bs ≡ body_of item) × FitsItem item

-- ---- requests

ask_begin_is : (bs : List ℕ) → IfSome (ask_begin_line bs) (IsLineOf 97 bs)
unfolding ask_begin_line
ask_begin_is bs =
    if_bind (exact_asked_at (codes "sk-begin s") bs) _ _ (asked_is (codes "sk-begin s") bs) (λ asked a.
    if_bind (alone (asked.1, asked.2)) _ _ (alone_is (asked.1, asked.2)) (λ node b.
    if_bind (session_of asked.0) _ _ (session_is asked.0) (λ session c.
    if_bind (node_of node) _ _ (node_is node) (λ node_no d.
    let letter : node ≡ asked.1 = sym b.0 in
    let last : asked.2 ≡ [] = b.1 in
    (rw (a, last, c.0, d.0, letter) (five (codes "ask-begin ") (codes "s") (decimal asked.0) (codes " ") ((97 + asked.1) ∷ [])), (c.1, d.1))))))

ask_commit_is : (bs : List ℕ) → IfSome (ask_commit_line bs) (IsLineOf 97 bs)
unfolding ask_commit_line
ask_commit_is bs =
    if_bind (exact_asked_at (codes "sk-commit s") bs) _ _ (asked_is (codes "sk-commit s") bs) (λ asked a.
    if_bind (exact_end_at (codes " start=") asked.2) _ _ (end_is (codes " start=") asked.2) (λ start b.
    if_bind (session_of asked.0) _ _ (session_is asked.0) (λ session c.
    if_bind (node_of asked.1) _ _ (node_is asked.1) (λ node d.
    if_bind (stamp_of start) _ _ (stamp_is start) (λ start_no e.
    (rw (a, b.0, c.0, d.0, e.0) (seven (codes "ask-commit ") (codes "s") (decimal asked.0) (codes " ") ((97 + asked.1) ∷ []) (codes " start=") (decimal start)), (c.1, d.1, e.1)))))))

accept_is : (bs : List ℕ) → IfSome (accept_line bs) (IsLineOf 97 bs)
unfolding accept_line
accept_is bs =
    if_bind (exact_asked_at (codes "ccept s") bs) _ _ (asked_is (codes "ccept s") bs) (λ asked a.
    if_bind (exact_field_at (codes " term=") asked.2) _ _ (field_is (codes " term=") asked.2) (λ term b.
    if_bind (exact_end_at (codes " reading=") term.1) _ _ (end_is (codes " reading=") term.1) (λ reading r.
    if_bind (session_of asked.0) _ _ (session_is asked.0) (λ session c.
    if_bind (node_of asked.1) _ _ (node_is asked.1) (λ node d.
    if_bind (term_of term.0) _ _ (term_is term.0) (λ term_no e.
    (rw (a, b.0, r.0, c.0, d.0, e.0) (nine (codes "accept ") (codes "s") (decimal asked.0) (codes " ") ((97 + asked.1) ∷ []) (codes " term=") (decimal term.0) (codes " reading=") (decimal reading)), (c.1, d.1, e.1, r.1))))))))

commit_is : (bs : List ℕ) → IfSome (commit_line bs) (λ commit. (bs ≡ commit_text commit) × FitsCommit commit)
unfolding commit_line
commit_is [] = (refl, tt)
commit_is (b ∷ bs) =
    if_map (exact_end_at (codes " commit=") (b ∷ bs) >>= stamp_of) _ (end_stamp_is (codes " commit=") (b ∷ bs)) (λ stamp h. h)

draw_is : (bs : List ℕ) → IfSome (draw_line bs) (IsLineOf 100 bs)
unfolding draw_line
draw_is bs =
    if_bind (exact_asked_at (codes "raw s") bs) _ _ (asked_is (codes "raw s") bs) (λ asked a.
    if_bind (exact_field_at (codes " term=") asked.2) _ _ (field_is (codes " term=") asked.2) (λ term b.
    if_bind (exact_field_at (codes " start=") term.1) _ _ (field_is (codes " start=") term.1) (λ start r.
    if_bind (commit_line start.1) _ _ (commit_is start.1) (λ commit s.
    if_bind (session_of asked.0) _ _ (session_is asked.0) (λ session c.
    if_bind (node_of asked.1) _ _ (node_is asked.1) (λ node d.
    if_bind (term_of term.0) _ _ (term_is term.0) (λ term_no e.
    if_bind (stamp_of start.0) _ _ (stamp_is start.0) (λ start_no f.
    (rw (a, b.0, r.0, s.0, c.0, d.0, e.0, f.0) (ten (codes "draw ") (codes "s") (decimal asked.0) (codes " ") ((97 + asked.1) ∷ []) (codes " term=") (decimal term.0) (codes " start=") (decimal start.0) (commit_text commit)), (c.1, d.1, e.1, f.1, s.1))))))))))

placed_is : (bs : List ℕ) → IfSome (placed_line bs) (IsLineOf 112 bs)
unfolding placed_line
placed_is bs =
    if_bind (exact_field_at (codes "laced start=") bs) _ _ (field_is (codes "laced start=") bs) (λ start a.
    if_bind (exact_end_at (codes " commit=") start.1) _ _ (end_is (codes " commit=") start.1) (λ commit b.
    if_bind (stamp_of start.0) _ _ (stamp_is start.0) (λ start_no c.
    if_bind (stamp_of commit) _ _ (stamp_is commit) (λ commit_no d.
    (rw (a.0, b.0, c.0, d.0) (four (codes "placed start=") (decimal start.0) (codes " commit=") (decimal commit)), (c.1, d.1))))))

-- ---- sessions

begin_is : (bs : List ℕ) → IfSome (begin_line bs) (IsLineOf 98 bs)
unfolding begin_line
begin_is bs =
    if_bind (exact_field_at (codes "egin s") bs) _ _ (field_is (codes "egin s") bs) (λ session a.
    if_bind (exact_end_at (codes " start=") session.1) _ _ (end_is (codes " start=") session.1) (λ start b.
    if_bind (session_of session.0) _ _ (session_is session.0) (λ session_no c.
    if_bind (stamp_of start) _ _ (stamp_is start) (λ start_no d.
    (rw (a.0, b.0, c.0, d.0) (five (codes "begin ") (codes "s") (decimal session.0) (codes " start=") (decimal start)), (c.1, d.1))))))

committed_is : (bs : List ℕ) → IfSome (committed_line bs) (IsLineOf 99 bs)
unfolding committed_line
committed_is bs =
    if_bind (exact_started_at (codes "ommitted s") bs) _ _ (started_is (codes "ommitted s") bs) (λ begun a.
    if_bind (exact_end_at (codes " commit=") begun.2) _ _ (end_is (codes " commit=") begun.2) (λ commit b.
    if_bind (session_of begun.0) _ _ (session_is begun.0) (λ session c.
    if_bind (stamp_of begun.1) _ _ (stamp_is begun.1) (λ start d.
    if_bind (stamp_of commit) _ _ (stamp_is commit) (λ commit_no e.
    (rw (a, b.0, c.0, d.0, e.0) (seven (codes "committed ") (codes "s") (decimal begun.0) (codes " start=") (decimal begun.1) (codes " commit=") (decimal commit)), (c.1, d.1, e.1)))))))

write_is : (bs : List ℕ) → IfSome (write_line bs) (IsLineOf 119 bs)
unfolding write_line
write_is bs =
    if_bind (exact_started_at (codes "rite s") bs) _ _ (started_is (codes "rite s") bs) (λ begun a.
    if_bind (exact_field_at (codes " k") begun.2) _ _ (field_is (codes " k") begun.2) (λ key b.
    if_bind (after_text (codes " ") key.1) _ _ (after_is (codes " ") key.1) (λ rest r.
    if_bind (value_at rest) _ _ (value_is rest) (λ value v.
    if_bind (session_of begun.0) _ _ (session_is begun.0) (λ session c.
    if_bind (stamp_of begun.1) _ _ (stamp_is begun.1) (λ start d.
    if_bind (key_of key.0) _ _ (key_is key.0) (λ key_no e.
    (rw (a, b.0, r, v.0, c.0, d.0, e.0) (keyed (codes "write ") (codes "s") (decimal begun.0) (codes " start=") (decimal begun.1) (codes " ") (codes "k") (decimal key.0) (codes " ") value), (c.1, d.1, e.1, v.1)))))))))

found_is : (bs : List ℕ) → IfSome (found_line bs) (λ answer. (bs ≡ answer_text answer) × FitsAnswer answer)
unfolding found_line
found_is bs =
    if_bind (exact_field_at (codes "from=") bs) _ _ (field_is (codes "from=") bs) (λ from a.
    if_bind (after_text (codes " ") from.1) _ _ (after_is (codes " ") from.1) (λ rest r.
    if_bind (value_at rest) _ _ (value_is rest) (λ value v.
    if_bind (stamp_of from.0) _ _ (stamp_is from.0) (λ start c.
    (rw (a.0, r, v.0, c.0) (four (codes "from=") (decimal from.0) (codes " ") value), (c.1, v.1))))))

answer_is : (bs : List ℕ) → IfSome (answer_line bs) (λ answer. (bs ≡ answer_text answer) × FitsAnswer answer)
unfolding answer_line
answer_is bs =
    elim (cases_Bool (is_word (codes "none") bs)) [
      | inl e ↦ rw e (word_is bs (codes "none") e, tt)
      | inr e ↦ rw e (found_is bs)
    ]

read_is : (bs : List ℕ) → IfSome (read_line bs) (IsLineOf 114 bs)
unfolding read_line
read_is bs =
    if_bind (exact_started_at (codes "ead s") bs) _ _ (started_is (codes "ead s") bs) (λ begun a.
    if_bind (exact_field_at (codes " k") begun.2) _ _ (field_is (codes " k") begun.2) (λ key b.
    if_bind (after_text (codes " ") key.1) _ _ (after_is (codes " ") key.1) (λ rest r.
    if_bind (answer_line rest) _ _ (answer_is rest) (λ answer v.
    if_bind (session_of begun.0) _ _ (session_is begun.0) (λ session c.
    if_bind (stamp_of begun.1) _ _ (stamp_is begun.1) (λ start d.
    if_bind (key_of key.0) _ _ (key_is key.0) (λ key_no e.
    (rw (a, b.0, r, v.0, c.0, d.0, e.0) (keyed (codes "read ") (codes "s") (decimal begun.0) (codes " start=") (decimal begun.1) (codes " ") (codes "k") (decimal key.0) (codes " ") (answer_text answer)), (c.1, d.1, e.1, v.1)))))))))

-- ---- steps of a session on the stores

fetch_is : (bs : List ℕ) → IfSome (fetch_line bs) (λ what. (102 ∷ bs ≡ step_text what) × FitsStep what)
unfolding fetch_line
fetch_is bs =
    if_bind (exact_field_at (codes "etch k") bs) _ _ (field_is (codes "etch k") bs) (λ key a.
    if_bind (exact_end_at (codes " cells=") key.1) _ _ (end_is (codes " cells=") key.1) (λ cells b.
    if_bind (key_of key.0) _ _ (key_is key.0) (λ key_no c.
    (rw (a.0, b.0, c.0) (five (codes "fetch ") (codes "k") (decimal key.0) (codes " cells=") (decimal cells)), (c.1, b.1)))))

mark_is : (bs : List ℕ) → IfSome (mark_line bs) (λ mark. (bs ≡ mark_text mark) × FitsMark mark)
unfolding mark_line
mark_is bs =
    if_bind (exact_end_at (codes "committed=") bs) _ _ (end_is (codes "committed=") bs) (λ commit a.
    if_bind (stamp_of commit) _ _ (stamp_is commit) (λ commit_no c.
    (a.0 ∙ rw c.0 refl, c.1)))

entry_is : (bs : List ℕ) → IfSome (entry_line bs) (λ answer. (bs ≡ entry_text answer) × FitsEntry answer)
unfolding entry_line
entry_is bs =
    elim (cases_Bool (is_word (codes "absent") bs)) [
      | inl e ↦ rw e (word_is bs (codes "absent") e, tt)
      | inr e ↦ rw e (if_map (mark_line bs) _ (mark_is bs) (λ mark h. h))
    ]

get_is : (bs : List ℕ) → IfSome (get_line bs) (λ what. (103 ∷ bs ≡ step_text what) × FitsStep what)
unfolding get_line
get_is bs =
    if_bind (exact_field_at (codes "et ") bs) _ _ (field_is (codes "et ") bs) (λ txn a.
    if_bind (after_text (codes " ") txn.1) _ _ (after_is (codes " ") txn.1) (λ rest r.
    if_bind (entry_line rest) _ _ (entry_is rest) (λ answer v.
    if_bind (stamp_of txn.0) _ _ (stamp_is txn.0) (λ txn_no c.
    (rw (a.0, r, v.0, c.0) (four (codes "get ") (decimal txn.0) (codes " ") (entry_text answer)), (c.1, v.1))))))

seen_is : (bs : List ℕ) → IfSome (seen_line bs) (λ answer. (bs ≡ seen_text answer) × FitsSeen answer)
unfolding seen_line
seen_is bs =
    elim (cases_Bool (is_word (codes "none") bs)) [
      | inl e ↦ rw e (word_is bs (codes "none") e, tt)
      | inr e ↦ rw e (if_map (exact_end_at (codes "commit=") bs >>= stamp_of) _ (end_stamp_is (codes "commit=") bs) (λ stamp h. h))
    ]

look_is : (bs : List ℕ) → IfSome (look_line bs) (λ what. (108 ∷ bs ≡ step_text what) × FitsStep what)
unfolding look_line
look_is bs =
    if_bind (exact_cell_at (codes "ook k") bs) _ _ (cell_is (codes "ook k") bs) (λ cell a.
    if_bind (after_text (codes " ") cell.2) _ _ (after_is (codes " ") cell.2) (λ rest r.
    if_bind (seen_line rest) _ _ (seen_is rest) (λ answer v.
    if_bind (key_of cell.0) _ _ (key_is cell.0) (λ key c.
    if_bind (stamp_of cell.1) _ _ (stamp_is cell.1) (λ txn d.
    (rw (a, r, v.0, c.0, d.0) (seven (codes "look ") (codes "k") (decimal cell.0) (codes " ") (decimal cell.1) (codes " ") (seen_text answer)), (c.1, d.1, v.1)))))))

shadow_is : (bs : List ℕ) → IfSome (shadow_line bs) (λ what. (115 ∷ bs ≡ step_text what) × FitsStep what)
unfolding shadow_line
shadow_is bs =
    if_bind (exact_cell_at (codes "hadow k") bs) _ _ (cell_is (codes "hadow k") bs) (λ cell a.
    if_bind (exact_end_at (codes " ") cell.2) _ _ (end_is (codes " ") cell.2) (λ commit b.
    if_bind (key_of cell.0) _ _ (key_is cell.0) (λ key c.
    if_bind (stamp_of cell.1) _ _ (stamp_is cell.1) (λ txn d.
    if_bind (stamp_of commit) _ _ (stamp_is commit) (λ commit_no e.
    (rw (a, b.0, c.0, d.0, e.0) (seven (codes "shadow ") (codes "k") (decimal cell.0) (codes " ") (decimal cell.1) (codes " ") (decimal commit)), (c.1, d.1, e.1)))))))

remove_is : (bs : List ℕ) → IfSome (remove_line bs) (λ what. (114 ∷ bs ≡ step_text what) × FitsStep what)
unfolding remove_line
remove_is bs =
    if_bind (exact_end_at (codes "emove ") bs) _ _ (end_is (codes "emove ") bs) (λ txn a.
    if_bind (stamp_of txn) _ _ (stamp_is txn) (λ txn_no c.
    (rw (a.0, c.0) refl, c.1)))

what_is : (bs : List ℕ) → IfSome (what_line bs) (λ what. (bs ≡ step_text what) × FitsStep what)
unfolding what_line
what_is [] = tt
what_is (b ∷ bs) =
    elim (cases_Bool (b == 102)) [
      | inl e ↦ rw (e, told_same b 102 e) (fetch_is bs)
      | inr e ↦ rw e (elim (cases_Bool (b == 103)) [
        | inl e ↦ rw (e, told_same b 103 e) (get_is bs)
        | inr e ↦ rw e (elim (cases_Bool (b == 108)) [
          | inl e ↦ rw (e, told_same b 108 e) (look_is bs)
          | inr e ↦ rw e (elim (cases_Bool (b == 115)) [
            | inl e ↦ rw (e, told_same b 115 e) (shadow_is bs)
            | inr e ↦ rw e (elim (cases_Bool (b == 114)) [
              | inl e ↦ rw (e, told_same b 114 e) (remove_is bs)
              | inr e ↦ rw e tt
            ])
          ])
        ])
      ])
    ]

step_is : (bs : List ℕ) → IfSome (step_line bs) (IsLineOf 115 bs)
unfolding step_line
step_is bs =
    if_bind (exact_field_at (codes "tep s") bs) _ _ (field_is (codes "tep s") bs) (λ session a.
    if_bind (after_text (codes " ") session.1) _ _ (after_is (codes " ") session.1) (λ rest r.
    if_bind (what_line rest) _ _ (what_is rest) (λ what v.
    if_bind (session_of session.0) _ _ (session_is session.0) (λ session_no c.
    (rw (a.0, r, v.0, c.0) (five (codes "step ") (codes "s") (decimal session.0) (codes " ") (step_text what)), (c.1, v.1))))))

-- ---- by the first letter of the line

request_is : (bs : List ℕ) → IfSome (request_line bs) (IsLineOf 97 bs)
unfolding request_line
request_is bs = if_or (accept_line bs) _ _ (accept_is bs) (if_or (ask_begin_line bs) (ask_commit_line bs) _ (ask_begin_is bs) (ask_commit_is bs))

abbrev pub IsPrinted : List ℕ → Item → Type 0
IsPrinted bs item = (bs ≡ body_of item) × FitsItem item

pub template_is : (bs : List ℕ) → IfSome (template_at bs) (IsPrinted bs)
unfolding template_at
template_is [] = tt
template_is (b ∷ bs) =
    elim (cases_Bool (b == 97)) [
      | inl e ↦ rw (e, told_same b 97 e) (request_is bs)
      | inr e ↦ rw e (elim (cases_Bool (b == 98)) [
        | inl e ↦ rw (e, told_same b 98 e) (begin_is bs)
        | inr e ↦ rw e (elim (cases_Bool (b == 99)) [
          | inl e ↦ rw (e, told_same b 99 e) (committed_is bs)
          | inr e ↦ rw e (elim (cases_Bool (b == 100)) [
            | inl e ↦ rw (e, told_same b 100 e) (draw_is bs)
            | inr e ↦ rw e (elim (cases_Bool (b == 112)) [
              | inl e ↦ rw (e, told_same b 112 e) (placed_is bs)
              | inr e ↦ rw e (elim (cases_Bool (b == 114)) [
                | inl e ↦ rw (e, told_same b 114 e) (read_is bs)
                | inr e ↦ rw e (elim (cases_Bool (b == 115)) [
                  | inl e ↦ rw (e, told_same b 115 e) (step_is bs)
                  | inr e ↦ rw e (elim (cases_Bool (b == 119)) [
                    | inl e ↦ rw (e, told_same b 119 e) (write_is bs)
                    | inr e ↦ rw e tt
                  ])
                ])
              ])
            ])
          ])
        ])
      ])
    ]
