-- For cause_laws, request_completion and log_refinement too.
-- What a history has after more items: what it had, and what they bring. Quiet items bring nothing that a fact reads.
use Rattle.isolation_laws.proofs.Names.{◌≡◌, ℕ, ◌==◌, true, false, if◌then◌else◌, List, [], ◌∷◌, ◌++◌, append_assoc}
use Rattle.isolation_laws.proofs.Names.{Option, Some, None, ◌⊎◌, inl, inr, refl, sym, ◌∙◌, ap, subst, option_or}
use Rattle.isolation_laws.proofs.Names.{append-nil, All-head, All-tail, ◌∈◌, Committed, last_write, written_by, Found}
use Rattle.isolation_laws.proofs.Names.{Item, Draw, Begin, Write, Read, Placed, in_front, last_write-push, pairs_of}
use Rattle.isolation_laws.proofs.Names.{Begun, HasDrawn, keys_with, keys_from, written_keys, recorded_by, recorded_in}
use Rattle.isolation_laws.proofs.Names.{recorded, Quiet, AllQuiet}

pub not_true : false ≡ true → ⊥
not_true same = cc

-- ---- membership
pub in_append : {X : Type 0} (x : X) (xs ys : List X) → x ∈ (xs ++ ys) → (x ∈ xs) ⊎ (x ∈ ys)
unfolding ◌∈◌
in_append x [] ys m = inr m
in_append x (z ∷ xs) ys m = elim m [
  | inl e ↦ inl (inl e)
  | inr deeper ↦ elim (in_append x xs ys deeper) [ inl a ↦ inl (inr a) | inr b ↦ inr b ]
]

pub quiet_in : (x : Item) (items : List Item) → AllQuiet items → x ∈ items → Quiet x
unfolding ◌∈◌
quiet_in x [] quiet m = absurd m
quiet_in x (y ∷ ys) quiet m = elim m [
  | inl e ↦ subst (λ (z : Item). Quiet z) (sym e) (All-head Quiet y ys quiet)
  | inr deeper ↦ quiet_in x ys (All-tail Quiet y ys quiet) deeper
]

-- an item that is not quiet stood before quiet ones
pub loud_old : (x : Item) (h items : List Item) → (Quiet x → ⊥) → AllQuiet items → x ∈ (h ++ items) → x ∈ h
loud_old x h items loud quiet m = elim (in_append x h items m) [ inl a ↦ a | inr b ↦ absurd (loud (quiet_in x items quiet b)) ]

pub old_begin : (h items : List Item) (s t : ℕ) → AllQuiet items → Begun (h ++ items) s t → Begun h s t
old_begin h items s t quiet m = loud_old (Begin s t) h items not_true quiet m

pub old_draw : (h items : List Item) (s n term t : ℕ) (commit : Option ℕ) → AllQuiet items → Draw s n term t commit ∈ (h ++ items) → Draw s n term t commit ∈ h
old_draw h items s n term t commit quiet m = loud_old (Draw s n term t commit) h items not_true quiet m

pub old_write : (h items : List Item) (s t k : ℕ) (value : List ℕ) → AllQuiet items → Write s t k value ∈ (h ++ items) → Write s t k value ∈ h
old_write h items s t k value quiet m = loud_old (Write s t k value) h items not_true quiet m

pub old_read : (h items : List Item) (s t k : ℕ) (answer : Option Found) → AllQuiet items → Read s t k answer ∈ (h ++ items) → Read s t k answer ∈ h
old_read h items s t k answer quiet m = loud_old (Read s t k answer) h items not_true quiet m

pub old_placed : (h items : List Item) (t c : ℕ) → AllQuiet items → Committed (h ++ items) t c → Committed h t c
old_placed h items t c quiet m = loud_old (Placed t c) h items not_true quiet m

-- what stood before stands after
pub drawn_on : (h items : List Item) (t : ℕ) → HasDrawn h t → HasDrawn (h ++ items) t
drawn_on h items t (s, n, term, c, m) = (s, n, term, c, in_front (Draw s n term t (Some c)) h items m)

-- ---- writes
writes_nothing : (x : Item) (t k : ℕ) → Quiet x → written_by t k x ≡ None
writes_nothing (Write session start key value) t k quiet = absurd (not_true quiet)
writes_nothing _ t k quiet = refl

adds_nothing : (x : Item) (t : ℕ) (keys : List ℕ) → Quiet x → keys_with keys t x ≡ keys
adds_nothing (Write session start key value) t keys quiet = absurd (not_true quiet)
adds_nothing _ t keys quiet = refl

pub last_write-quiet : (h items : List Item) (t k : ℕ) → AllQuiet items → last_write (h ++ items) t k ≡ last_write h t k
last_write-quiet h [] t k quiet = ap (λ xs. last_write xs t k) (append-nil h)
last_write-quiet h (x ∷ items) t k quiet =
    let one : last_write (h ++ x ∷ []) t k ≡ last_write h t k = last_write-push h x t k ∙ ap (λ o. option_or o (last_write h t k)) (writes_nothing x t k (All-head Quiet x items quiet)) in
    ap (λ xs. last_write xs t k) (sym (append_assoc h (x ∷ []) items)) ∙ (last_write-quiet (h ++ x ∷ []) items t k (All-tail Quiet x items quiet) ∙ one)

keys_from-push : (keys : List ℕ) (t : ℕ) (h : List Item) (x : Item) → keys_from keys t (h ++ x ∷ []) ≡ keys_with (keys_from keys t h) t x
unfolding keys_from
keys_from-push keys t [] x = refl
keys_from-push keys t (y ∷ h) x = keys_from-push (keys_with keys t y) t h x

pub written_keys-push : (h : List Item) (x : Item) (t : ℕ) → written_keys (h ++ x ∷ []) t ≡ keys_with (written_keys h t) t x
written_keys-push h x t = keys_from-push [] t h x

pub written_keys-quiet : (h items : List Item) (t : ℕ) → AllQuiet items → written_keys (h ++ items) t ≡ written_keys h t
written_keys-quiet h [] t quiet = ap (λ xs. written_keys xs t) (append-nil h)
written_keys-quiet h (x ∷ items) t quiet =
    let one : written_keys (h ++ x ∷ []) t ≡ written_keys h t = written_keys-push h x t ∙ adds_nothing x t (written_keys h t) (All-head Quiet x items quiet) in
    ap (λ xs. written_keys xs t) (sym (append_assoc h (x ∷ []) items)) ∙ (written_keys-quiet (h ++ x ∷ []) items t (All-tail Quiet x items quiet) ∙ one)

-- ---- records of commits
-- what a draw records depends on the keys of transactions that have drawn alone
recorded_by_same : (h g : List Item) (term : ℕ) (x : Item) → ((t c s n u : ℕ) → x ≡ Draw s n u t (Some c) → written_keys g t ≡ written_keys h t) → recorded_by g term x ≡ recorded_by h term x
recorded_by_same h g term (Draw s n u t (Some c)) same = ap (λ keys. if u == term then pairs_of keys c else []) (same t c s n u refl)
recorded_by_same h g term _ same = refl

recorded_in_same : (h g : List Item) (term : ℕ) (xs : List Item) → ((t : ℕ) → HasDrawn xs t → written_keys g t ≡ written_keys h t) → recorded_in g term xs ≡ recorded_in h term xs
unfolding recorded_in ◌∈◌
recorded_in_same h g term [] same = refl
recorded_in_same h g term (x ∷ xs) same =
    let one : recorded_by g term x ≡ recorded_by h term x = recorded_by_same h g term x (λ t c s n u is. same t (s, n, u, c, inl (sym is))) in
    let more : recorded_in g term xs ≡ recorded_in h term xs = recorded_in_same h g term xs (λ t drew. same t (drew.0, drew.1, drew.2, drew.3, inr drew.4)) in
    rw (one, more) refl

recorded_in-append : (h : List Item) (term : ℕ) (xs ys : List Item) → recorded_in h term (xs ++ ys) ≡ recorded_in h term xs ++ recorded_in h term ys
unfolding recorded_in
recorded_in-append h term [] ys = refl
recorded_in-append h term (x ∷ xs) ys = ap (λ rest. recorded_by h term x ++ rest) (recorded_in-append h term xs ys) ∙ sym (append_assoc (recorded_by h term x) (recorded_in h term xs) (recorded_in h term ys))

records_nothing : (h : List Item) (term : ℕ) (x : Item) → Quiet x → recorded_by h term x ≡ []
records_nothing h term (Draw s n u t c) quiet = absurd (not_true quiet)
records_nothing h term _ quiet = refl

quiet_records : (h : List Item) (term : ℕ) (items : List Item) → AllQuiet items → recorded_in h term items ≡ []
unfolding recorded_in
quiet_records h term [] quiet = refl
quiet_records h term (x ∷ items) quiet = rw (records_nothing h term x (All-head Quiet x items quiet), quiet_records h term items (All-tail Quiet x items quiet)) refl

pub recorded-quiet : (h items : List Item) (term : ℕ) → AllQuiet items → recorded (h ++ items) term ≡ recorded h term
recorded-quiet h items term quiet =
    recorded_in-append (h ++ items) term h items
    ∙ (ap (λ rest. recorded_in (h ++ items) term h ++ rest) (quiet_records (h ++ items) term items quiet)
    ∙ (append-nil (recorded_in (h ++ items) term h)
    ∙ recorded_in_same h (h ++ items) term h (λ t drew. written_keys-quiet h items t quiet)))

-- an item that is no write records what it draws, behind what was recorded
pub recorded-push : (h : List Item) (x : Item) (term : ℕ) → ((t : ℕ) → HasDrawn h t → written_keys (h ++ x ∷ []) t ≡ written_keys h t) → recorded (h ++ x ∷ []) term ≡ recorded h term ++ recorded_by (h ++ x ∷ []) term x
unfolding recorded_in
recorded-push h x term same =
    recorded_in-append (h ++ x ∷ []) term h (x ∷ [])
    ∙ (ap (λ front. front ++ (recorded_by (h ++ x ∷ []) term x ++ [])) (recorded_in_same h (h ++ x ∷ []) term h same)
    ∙ ap (λ rest. recorded_in h term h ++ rest) (append-nil (recorded_by (h ++ x ∷ []) term x)))
