-- The front of cells, found by a walk from the last one on.
use Rattle.std.proofs.Common.{◌≡◌, ℕ, ◌+◌, ◌<◌, true, false, List, [], ◌∷◌, ◌++◌, drop, get_or, length, reverse, take, refl, sym, ap, ◌∙◌, append-nil, append_assoc}
use Rattle.std.proofs.lemmas.List.{reverse-append, take_more, drop_more}
use Rattle.system_parts.specs.declared.rows.Cell.{Cell}
use Rattle.system_parts.specs.Rows.{is_below, front_of}

-- the front of all cells is that of the cells before the place n behind those from there on
abbrev pub IsFrontBehind : ℕ → List Cell → ℕ → Type 0
IsFrontBehind start cells n = reverse (drop n cells) ++ front_of start (reverse (take n cells)) ≡ front_of start (reverse cells)

front-last : (start : ℕ) (left : List Cell) (c : Cell) → is_below start c.shadow ≡ true → front_of start (reverse (left ++ c ∷ [])) ≡ c ∷ []
unfolding front_of
front-last start left c e = rw (reverse-append left (c ∷ []), e) refl

front-more : (start : ℕ) (left : List Cell) (c : Cell) → is_below start c.shadow ≡ false → front_of start (reverse (left ++ c ∷ [])) ≡ c ∷ front_of start (reverse left)
unfolding front_of
front-more start left c e = rw (reverse-append left (c ∷ []), e) refl

-- the cells from a place on, turned
turned : (i : ℕ) (cells : List Cell) (d : Cell) → i < length cells → reverse (drop i cells) ≡ reverse (drop (i + 1) cells) ++ get_or cells i d ∷ []
turned i cells d within = ap reverse (drop_more cells i d within) ∙ reverse-append (get_or cells i d ∷ []) (drop (i + 1) cells)

-- a cell with a shadow below the start is the last of the front
pub front_ends : (start i : ℕ) (cells : List Cell) (d : Cell) → i < length cells → IsFrontBehind start cells (i + 1) → is_below start (get_or cells i d).shadow ≡ true → reverse (drop i cells) ≡ front_of start (reverse cells)
front_ends start i cells d within behind e =
    let c = get_or cells i d in
    let last = ap (λ (xs : List Cell). front_of start (reverse xs)) (take_more cells i d within) ∙ front-last start (take i cells) c e in
    turned i cells d within ∙ ap (λ (xs : List Cell). reverse (drop (i + 1) cells) ++ xs) (sym last) ∙ behind

-- any other cell is one of the front, and those before it follow
pub front_goes_on : (start i : ℕ) (cells : List Cell) (d : Cell) → i < length cells → IsFrontBehind start cells (i + 1) → is_below start (get_or cells i d).shadow ≡ false → IsFrontBehind start cells i
front_goes_on start i cells d within behind e =
    let c = get_or cells i d in
    let more = ap (λ (xs : List Cell). front_of start (reverse xs)) (take_more cells i d within) ∙ front-more start (take i cells) c e in
    ap (λ (xs : List Cell). xs ++ front_of start (reverse (take i cells))) (turned i cells d within)
    ∙ append_assoc (reverse (drop (i + 1) cells)) (c ∷ []) (front_of start (reverse (take i cells)))
    ∙ ap (λ (xs : List Cell). reverse (drop (i + 1) cells) ++ xs) (sym more) ∙ behind

-- where no cell is left, all are of the front
pub front_is_whole : (start : ℕ) (cells : List Cell) → IsFrontBehind start cells 0 → reverse cells ≡ front_of start (reverse cells)
unfolding front_of
front_is_whole start cells behind = sym (append-nil (reverse cells)) ∙ behind
