-- A history that goes out line by line, and lines that did not.
use Rattle.std.proofs.Common.{◌≡◌, ℕ, ◌+◌, ◌≤◌, ◌<◌, List, [], ◌∷◌, ◌++◌, append_assoc, append-nil, Option, Some, None, Result, Ok, Err, take, drop, length, get_or, inl, inr, refl, sym, ap, ◌∙◌, subst, add-one, arith}
use Rattle.std.specs.Prelude.{OnErr}
use Rattle.std.specs.List.{flat_map}
use Rattle.std.proofs.lemmas.Bool.{cases_lt}
use Rattle.std.proofs.Math.Seq.{drop-cons, take-append-add}
use Rattle.std.proofs.lemmas.List.{take-append-drop, take-append-le, take_more, take_all}
use Rattle.std.proofs.lemmas.List.Concat.{flat_map-append}
use Rattle.history_book.specs.declared.item.Item.{Item}
use Rattle.port_io.specs.Ports.{Gains}
use Rattle.omid_top.specs.Promise.{GainsFront}

line_between : (text : Item → List ℕ) (items : List Item) (i : ℕ) (d : Item) → i < length items → flat_map text items ≡ flat_map text (take i items) ++ (text (get_or items i d) ++ flat_map text (drop (i + 1) items))
line_between text items i d within =
    let parts : drop i items ≡ get_or items i d ∷ drop (i + 1) items = rw add-one (drop-cons items i d within) in
    ap (flat_map text) (sym (take-append-drop i items) ∙ ap (λ xs. take i items ++ xs) parts) ∙ flat_map-append text (take i items) (get_or items i d ∷ drop (i + 1) items)

-- a front of a text is no longer than the text
pub short_front : (a b : Option (List ℕ)) (text : List ℕ) → GainsFront a b text → (n : ℕ) × ((n ≤ length text) × Gains a b (take n text))
short_front a b text (n, some) = elim (cases_lt (length text) n) [
  | inl past ↦ (length text, (omega arith, subst (λ (bytes : List ℕ). Gains a b bytes) (take_all n text (omega arith) ∙ sym (take_all (length text) text (omega arith))) some))
  | inr not ↦ (n, (omega arith, some))
]

-- the lines so far and a front of the next are a front of the whole
pub front_more : (text : Item → List ℕ) (a b c : Option (List ℕ)) (items : List Item) (i : ℕ) (d : Item) (line : List ℕ) (n : ℕ) → i < length items → line ≡ text (get_or items i d) → n ≤ length line
    → Gains a b (flat_map text (take i items)) → Gains b c (take n line) → GainsFront a c (flat_map text items)
front_more text None b c items i d line n within is low gone more = (0, subst (λ (o : Option (List ℕ)). Gains o c (take n line)) gone more)
front_more text (Some held) b c items i d line n within is low gone more =
    let sent : List ℕ = flat_map text (take i items) in
    let rest : List ℕ = flat_map text (drop (i + 1) items) in
    let whole : flat_map text items ≡ sent ++ (line ++ rest) = line_between text items i d within ∙ ap (λ words. sent ++ (words ++ rest)) (sym is) in
    let front : take (length sent + n) (flat_map text items) ≡ sent ++ take n line = rw (whole, take-append-add sent (line ++ rest) n, take-append-le n line rest) refl in
    (length sent + n, subst (λ (o : Option (List ℕ)). Gains o c (take n line)) gone more ∙ ap Some (append_assoc held sent (take n line) ∙ ap (λ words. held ++ words) (sym front)))

lines_to : (text : Item → List ℕ) (items : List Item) (i : ℕ) (d : Item) → i < length items → flat_map text (take (i + 1) items) ≡ flat_map text (take i items) ++ text (get_or items i d)
lines_to text items i d within =
    ap (flat_map text) (take_more items i d within) ∙ (flat_map-append text (take i items) (get_or items i d ∷ []) ∙ ap (λ words. flat_map text (take i items) ++ words) (append-nil (text (get_or items i d))))

-- the lines so far and the next
pub line_more : (text : Item → List ℕ) (a b c : Option (List ℕ)) (items : List Item) (i : ℕ) (d : Item) (line : List ℕ) → i < length items → line ≡ text (get_or items i d)
    → Gains a b (flat_map text (take i items)) → Gains b c line → Gains a c (flat_map text (take (i + 1) items))
line_more text None b c items i d line within is gone more = subst (λ (o : Option (List ℕ)). Gains o c line) gone more
line_more text (Some held) b c items i d line within is gone more =
    let sent : List ℕ = flat_map text (take i items) in
    let lines : sent ++ line ≡ flat_map text (take (i + 1) items) = ap (λ words. sent ++ words) is ∙ sym (lines_to text items i d within) in
    subst (λ (o : Option (List ℕ)). Gains o c line) gone more ∙ ap Some (append_assoc held sent line ∙ ap (λ words. held ++ words) lines)

-- ---- one text behind another
gains_more : (a b c : Option (List ℕ)) (xs ys : List ℕ) → Gains a b xs → Gains b c ys → Gains a c (xs ++ ys)
gains_more None b c xs ys first then = subst (λ (o : Option (List ℕ)). Gains o c ys) first then
gains_more (Some held) b c xs ys first then = subst (λ (o : Option (List ℕ)). Gains o c ys) first then ∙ ap Some (append_assoc held xs ys)

-- a front of the first is a front of both
front_sooner : (a b : Option (List ℕ)) (xs ys : List ℕ) → GainsFront a b xs → GainsFront a b (xs ++ ys)
front_sooner a b xs ys some =
    let (n, (low, gone)) = short_front a b xs some in
    let front : take n (xs ++ ys) ≡ take n xs = rw (take-append-le n xs ys) refl in
    (n, subst (λ (bytes : List ℕ). Gains a b bytes) (sym front) gone)

-- the first and a front of the second are one
front_later : (a b c : Option (List ℕ)) (xs ys : List ℕ) → Gains a b xs → GainsFront b c ys → GainsFront a c (xs ++ ys)
front_later a b c xs ys first (n, gone) = (length xs + n, subst (λ (bytes : List ℕ). Gains a c bytes) (sym (take-append-add xs ys n)) (gains_more a b c xs (take n ys) first gone))

-- a front of three texts, of which the first one or two went out whole
module _ (a b c d : Option (List ℕ)) (xs ys zs one two three : List ℕ) (one_is : one ≡ xs) (two_is : two ≡ ys) (three_is : three ≡ zs) where
  pub front_of_first : GainsFront a b one → GainsFront a b (xs ++ ys ++ zs)
  front_of_first first = front_sooner a b (xs ++ ys) zs (front_sooner a b xs ys (subst (λ (text : List ℕ). GainsFront a b text) one_is first))

  pub front_of_second : Gains a b one → GainsFront b c two → GainsFront a c (xs ++ ys ++ zs)
  front_of_second first second =
      front_sooner a c (xs ++ ys) zs (front_later a b c xs ys (subst (λ (text : List ℕ). Gains a b text) one_is first) (subst (λ (text : List ℕ). GainsFront b c text) two_is second))

  pub front_of_third : Gains a b one → Gains b c two → GainsFront c d three → GainsFront a d (xs ++ ys ++ zs)
  front_of_third first second third =
      front_later a c d (xs ++ ys) zs
      (gains_more a b c xs ys (subst (λ (text : List ℕ). Gains a b text) one_is first) (subst (λ (text : List ℕ). Gains b c text) two_is second))
      (subst (λ (text : List ℕ). GainsFront c d text) three_is third)

pub on_err_more : {T E : Type 0} (r : Result T E) (P Q : Type 0) → (P → Q) → OnErr r P → OnErr r Q
on_err_more (Ok x) P Q more holds = tt
on_err_more (Err e) P Q more holds = more holds
