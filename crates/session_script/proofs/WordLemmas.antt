-- How the words of a text follow from its front.
use Rattle.std.proofs.Common.{◌≡◌, ◌==◌, ℕ, Bool, suc, cond, ◌&&◌, ◌+◌, ◌-◌, ◌<◌, ◌≤◌, inl, inr, true, false, true≢false, List, [], ◌∷◌, length, take, drop, get_or, refl, sym, ap, ◌∙◌, subst, arith, filter, add-one, length-drop}
use Rattle.std.specs.List.{list_all, position_or_len, All}
use Rattle.std.proofs.Math.Dec.{eqb-suc-zero}
use Rattle.std.proofs.Math.Seq.{drop-cons, take-length, drop-length}
use Rattle.std.proofs.lemmas.Bool.{cases_Bool, cases_lt}
use Rattle.std.proofs.lemmas.List.{take_rest, length-take-le}
use Rattle.std.proofs.lemmas.List.Sums.{fails_before_first, passes_at_first}
use Rattle.std.proofs.lemmas.List.Splits.{slice_split-cons_yes, slice_split_first, slice_split_none}
use Rattle.session_script.specs.Words.{is_blank, is_plain, ends_word, is_word, words_of, with_word, after_blanks, TakesWord}

-- a blank in front changes no word
pub words_of-blank : (b : ℕ) (bs : List ℕ) → is_blank b ≡ true → words_of (b ∷ bs) ≡ words_of bs
unfolding words_of
words_of-blank b bs h = ap (filter is_word) (slice_split-cons_yes is_blank b bs h)

words_of-after_blanks : (text : List ℕ) → words_of (after_blanks text) ≡ words_of text
unfolding after_blanks
words_of-after_blanks [] = refl
words_of-after_blanks (b ∷ bs) = elim (cases_Bool (is_blank b)) [
  | inl e ↦ rw e (words_of-after_blanks bs ∙ sym (words_of-blank b bs e))
  | inr e ↦ rw e refl
]

length-after_blanks : (text : List ℕ) → length (after_blanks text) ≤ length text
unfolding after_blanks
length-after_blanks [] = omega arith
length-after_blanks (b ∷ bs) = elim (cases_Bool (is_blank b)) [
  | inl e ↦ rw e (let deeper : length (after_blanks bs) ≤ length bs = length-after_blanks bs in omega arith)
  | inr e ↦ rw e (omega arith)
]

blank_is_plain : (b : ℕ) → is_blank b ≡ true → is_plain b ≡ true
blank_is_plain b h = grind arith

inside_is_plain : (b : ℕ) → ends_word b ≡ false → is_plain b ≡ true
inside_is_plain b h = grind arith

plain-after_blanks : (text : List ℕ) → list_all is_plain (after_blanks text) ≡ list_all is_plain text
unfolding after_blanks
plain-after_blanks [] = refl
plain-after_blanks (b ∷ bs) = elim (cases_Bool (is_blank b)) [
  | inl e ↦ rw (e, plain-after_blanks bs, blank_is_plain b e) refl
  | inr e ↦ rw e refl
]

-- of the bytes that a plain line may have, only blanks end a word
ends_word-plain : (b : ℕ) → is_plain b ≡ true → ends_word b ≡ is_blank b
ends_word-plain b h = elim (cases_Bool (is_blank b)) [
  | inl e ↦ rw e refl
  | inr e ↦ rw (e, h) refl
]

first-cons : (p : ℕ → Bool) (b : ℕ) (bs : List ℕ) → position_or_len p (b ∷ bs) ≡ cond (p b) 0 (suc (position_or_len p bs))
first-cons p b bs = elim (cases_Bool (p b)) [
  | inl e ↦ rw e refl
  | inr e ↦ let next : 1 + position_or_len p bs ≡ suc (position_or_len p bs) = omega arith in rw (e, next) refl
]

position-plain : (text : List ℕ) → list_all is_plain text ≡ true → position_or_len ends_word text ≡ position_or_len is_blank text
position-plain [] h = refl
position-plain (b ∷ bs) h = elim (cases_Bool (is_plain b)) [
  | inl e ↦
      first-cons ends_word b bs
      ∙ ap (λ ends. cond ends 0 (suc (position_or_len ends_word bs))) (ends_word-plain b e)
      ∙ ap (λ n. cond (is_blank b) 0 (suc n)) (position-plain bs (rw e at h))
      ∙ sym (first-cons is_blank b bs)
  | inr e ↦ absurd (true≢false (sym (rw e at h)))
]

-- what stands in front of the end of a word is plain
plain-drop : (text : List ℕ) → list_all is_plain (drop (position_or_len ends_word text) text) ≡ list_all is_plain text
plain-drop [] = refl
plain-drop (b ∷ bs) = elim (cases_Bool (ends_word b)) [
  | inl e ↦ ap (λ n. list_all is_plain (drop n (b ∷ bs))) (first-cons ends_word b bs ∙ ap (λ ends. cond ends 0 (suc (position_or_len ends_word bs))) e)
  | inr e ↦
      ap (λ n. list_all is_plain (drop n (b ∷ bs))) (first-cons ends_word b bs ∙ ap (λ ends. cond ends 0 (suc (position_or_len ends_word bs))) e)
      ∙ plain-drop bs ∙ ap (λ plain. plain && list_all is_plain bs) (sym (inside_is_plain b e))
]

-- a plain text begins with a word, unless it begins with a blank
begins_word : (b : ℕ) (bs : List ℕ) (n : ℕ) → is_blank b ≡ false → list_all is_plain (b ∷ bs) ≡ true → n ≡ position_or_len ends_word (b ∷ bs) → n ≡ 0 → ⊥
begins_word b bs n seen h is none = elim (cases_Bool (is_plain b)) [
  | inl e ↦
      let one : n ≡ suc (position_or_len ends_word bs) = is ∙ first-cons ends_word b bs ∙ ap (λ ends. cond ends 0 (suc (position_or_len ends_word bs))) (ends_word-plain b e ∙ seen) in
      omega arith
  | inr e ↦ true≢false (sym (rw e at h))
]

-- a plain text without a word has blanks alone
blanks_alone : (text : List ℕ) (n : ℕ) → list_all is_plain (after_blanks text) ≡ true → n ≡ position_or_len ends_word (after_blanks text) → n ≡ 0 → after_blanks text ≡ []
unfolding after_blanks
blanks_alone [] n h is none = refl
blanks_alone (b ∷ bs) n h is none = elim (cases_Bool (is_blank b)) [
  | inl e ↦
      let same : after_blanks (b ∷ bs) ≡ after_blanks bs = rw e refl in
      same ∙ blanks_alone bs n (ap (list_all is_plain) (sym same) ∙ h) (is ∙ ap (position_or_len ends_word) same) none
  | inr e ↦
      let same : after_blanks (b ∷ bs) ≡ b ∷ bs = rw e refl in
      absurd (begins_word b bs n e (ap (list_all is_plain) (sym same) ∙ h) (is ∙ ap (position_or_len ends_word) same) none)
]

-- where a blank stands, the words are those before it and those from it on
words_of-front : (text : List ℕ) → position_or_len is_blank text < length text → words_of text ≡ with_word (take (position_or_len is_blank text) text) (words_of (drop (position_or_len is_blank text) text))
unfolding words_of
words_of-front text within =
    let n : ℕ = position_or_len is_blank text in
    let parts : drop n text ≡ get_or text n 0 ∷ drop (n + 1) text = rw add-one (drop-cons text n 0 within) in
    let blank : is_blank (get_or text n 0) ≡ true = passes_at_first is_blank text 0 within in
    ap (filter is_word) (slice_split_first is_blank text 0 within)
    ∙ ap (with_word (take n text)) (sym (ap words_of parts ∙ words_of-blank (get_or text n 0) (drop (n + 1) text) blank))

-- where none stands, the text is one word or nothing
words_of-whole : (text : List ℕ) (n : ℕ) → n ≡ length text → All (λ b. is_blank b ≡ false) text → words_of text ≡ with_word (take n text) (words_of (drop n text))
unfolding words_of
words_of-whole text n all none = ap (filter is_word) (slice_split_none is_blank text none) ∙ sym (rw (all, take-length text, drop-length text) refl)

words_of-split : (text : List ℕ) (n : ℕ) → n ≡ position_or_len is_blank text → n ≤ length text → words_of text ≡ with_word (take n text) (words_of (drop n text))
words_of-split text n is within = elim (cases_lt n (length text)) [
  | inl below ↦ subst (λ (m : ℕ). words_of text ≡ with_word (take m text) (words_of (drop m text))) (sym is) (words_of-front text (omega arith))
  | inr above ↦ words_of-whole text n (omega arith) (λ k d h. fails_before_first is_blank text k d (omega arith))
]

nothing_after : (text after : List ℕ) (n : ℕ) → after ≡ after_blanks text → list_all is_plain after ≡ true → n ≡ position_or_len ends_word after → n ≡ 0 → drop n after ≡ []
nothing_after text after n e h is none =
    let empty : after ≡ [] = e ∙ blanks_alone text n (subst (λ (ys : List ℕ). list_all is_plain ys ≡ true) e h) (subst (λ (ys : List ℕ). n ≡ position_or_len ends_word ys) e is) none in
    rw (none, empty) refl

pub takes_word : (text after : List ℕ) (n : ℕ) → after ≡ after_blanks text → n ≡ position_or_len ends_word after → n ≤ length after → TakesWord text (take n after) (take (length after - n) (drop n after))
takes_word text after n e is within =
    let rest : take (length after - n) (drop n after) ≡ drop n after = take_rest after n in
    let size : length (take n after) ≡ n = length-take-le n after within in
    let left : length (drop n after) ≡ length after - n = length-drop n after in
    let less : length after ≤ length text = rw e (length-after_blanks text) in
    let plain : list_all is_plain after ≡ list_all is_plain text = ap (list_all is_plain) e ∙ plain-after_blanks text in
    rw rest (record {
      plain = ap (λ m. list_all is_plain (drop m after)) is ∙ plain-drop after ∙ plain;
      words = λ h. sym (ap words_of e ∙ words_of-after_blanks text) ∙ words_of-split after n (is ∙ position-plain after (plain ∙ h)) within;
      ended = λ h none. nothing_after text after n e (plain ∙ h) is (omega (arith, size, ap length none));
      within = omega arith;
      shorter = λ some. omega arith;
    })

-- where there is no word and nothing is left, the text has no words
pub no_words : (text word rest : List ℕ) → TakesWord text word rest → (length word == 0) ≡ true → (length rest == 0) ≡ true → (list_all is_plain text ≡ true) × (length (words_of text) ≡ 0)
unfolding words_of
no_words text [] [] takes w r = let plain : list_all is_plain text ≡ true = sym takes.plain in (plain, ap length (takes.words plain))
no_words text [] (b ∷ bs) takes w r = absurd (true≢false (sym (rw (eqb-suc-zero (length bs)) at r)))
no_words text (b ∷ bs) rest takes w r = absurd (true≢false (sym (rw (eqb-suc-zero (length bs)) at w)))
