-- Words: a number that is printed is the only one that its text is read as, and words name one command at most.
use Rattle.std.proofs.Common.{◌≡◌, ℕ, ◌<◌, ◌≤◌, ◌^◌, List, [], ◌∷◌, ◌⊎◌, inl, inr, Result, Ok, Err, Option, Some, None, ◌≢◌, ◌++◌, Bool, true, false, if◌then◌else◌, codes, decimal, arith, refl, sym, ap, ◌∙◌, subst}
use Rattle.std.specs.Prelude.{MatchOption}
use Rattle.std.specs.Str.Parse.{ParsesUnsigned, digits_value}
use Rattle.std.proofs.lemmas.Fmt.{parse-decimal, decimal_injective, decimal_is_IsNumeral}
use Rattle.history_reading.specs.ReadWords.{is_word}
use Rattle.omid_view.specs.declared.command.Command.{Command}
use Rattle.omid_view.specs.declared.command.Command.TheVariants.{Breach, Explain, Page, Picture}
use Rattle.omid_view.specs.Views.{IsInRange, IsJudging, IsKnown, IsPart, IsPictureFor, IsWhole, Judges, Names}

-- ---- numbers
ok_is : (E : Type 0) (m n : ℕ) (r s : Result ℕ E) → r ≡ Ok m → s ≡ Ok n → r ≡ s → m ≡ n
ok_is E m n r s one other same = cc

-- a text that is read as another number, or not at all, is not the number's
pub read_as_none : (E : Type 0) (bytes : List ℕ) (r : Result ℕ E) (error : E) (n : ℕ) → ParsesUnsigned 64 10 bytes r → r ≡ Err error → n < 2 ^ 64 → bytes ≡ decimal n → ⊥
read_as_none E bytes r error n read failed within is =
    let same : r ≡ Ok n = parse-decimal 64 n bytes r (omega (arith, within)) (omega (arith, within)) is read in
    cc

pub read_as_another : (E : Type 0) (bytes : List ℕ) (r : Result ℕ E) (m n : ℕ) → ParsesUnsigned 64 10 bytes r → r ≡ Ok m → (bytes ≡ decimal m → ⊥) → n < 2 ^ 64 → bytes ≡ decimal n → ⊥
read_as_another E bytes r m n read found other within is =
    let same : m ≡ n = ok_is E m n r r found (parse-decimal 64 n bytes r (omega (arith, within)) (omega (arith, within)) is read) refl in
    other (is ∙ ap decimal (sym same))

-- two words that are numbers of no range are no numbers of one
pub none_in_range : (first last : ℕ) (from to : List ℕ) → (first < 2 ^ 64) × (from ≡ decimal first) → (last < 2 ^ 64) × (to ≡ decimal last) → (IsInRange first last → ⊥)
    → (m n : ℕ) → IsInRange m n → from ≡ decimal m → to ≡ decimal n → ⊥
none_in_range first last from to this that out m n range one other =
    let same : m ≡ first = decimal_injective m first (omega (arith, range.1, range.2)) this.0 (sym one ∙ this.1) in
    let too : n ≡ last = decimal_injective n last (omega (arith, range.1)) that.0 (sym other ∙ that.1) in
    out (subst (λ (k : ℕ). IsInRange k last) same (subst (λ (k : ℕ). IsInRange m k) too range))

-- ---- the command that words name, where they name one: by how many words there are, and by the first of them
one_word : List ℕ → Command
one_word word = if is_word (codes "picture") word then Picture 1 2000 false else if is_word (codes "breach") word then Breach false else if is_word (codes "page") word then Page false else Explain false

two_words : List ℕ → Command
two_words word = if is_word (codes "picture") word then Picture 1 2000 true else if is_word (codes "breach") word then Breach true else if is_word (codes "page") word then Page true else Explain true

named : List (List ℕ) → Command
named [] = Explain false
named (word ∷ []) = one_word word
named (word ∷ next ∷ []) = two_words word
named (word ∷ from ∷ to ∷ []) = Picture (digits_value 10 from) (digits_value 10 to) false
named (word ∷ brief ∷ from ∷ to ∷ words) = Picture (digits_value 10 from) (digits_value 10 to) true

number : (n : ℕ) → n ≤ 16777216 → n ≡ digits_value 10 (decimal n)
number n within = sym (decimal_is_IsNumeral n (omega (arith, within))).1

whole_named : (brief : Bool) (words : List (List ℕ)) → IsWhole brief words → Picture 1 2000 brief ≡ named words
unfolding named one_word two_words
whole_named true words it = sym (ap named it)
whole_named false words it = sym (ap named it)

part_named : (from to : ℕ) (brief : Bool) (words : List (List ℕ)) → IsPart from to brief words → Picture from to brief ≡ named words
unfolding named
part_named from to true words it =
    ap (λ n. Picture n to true) (number from (omega (arith, it.range.1, it.range.2))) ∙ ap (λ n. Picture (digits_value 10 (decimal from)) n true) (number to it.range.1) ∙ sym (ap named it.named)
part_named from to false words it =
    ap (λ n. Picture n to false) (number from (omega (arith, it.range.1, it.range.2))) ∙ ap (λ n. Picture (digits_value 10 (decimal from)) n false) (number to it.range.1) ∙ sym (ap named it.named)

is_named : (one : Command) (words : List (List ℕ)) → Names one words → one ≡ named words
unfolding named one_word two_words
is_named (Picture from to brief) words (inl it) = ap (λ n. Picture n to brief) it.1 ∙ ap (λ n. Picture 1 n brief) it.2 ∙ whole_named brief words it.0
is_named (Picture from to brief) words (inr it) = part_named from to brief words it
is_named (Breach true) words it = sym (ap named it)
is_named (Breach false) words it = sym (ap named it)
is_named (Explain true) words it = sym (ap named it)
is_named (Explain false) words it = sym (ap named it)
is_named (Page true) words it = sym (ap named it)
is_named (Page false) words it = sym (ap named it)

-- words name one command at most
pub one_command : (one other : Command) (words : List (List ℕ)) → Names one words → Names other words → one ≡ other
one_command one other words this that = is_named one words this ∙ sym (is_named other words that)

pub known_for : (found : Command) (words : List (List ℕ)) → Names found words → IsKnown words
known_for found words named = (found, named)

pub judging_for : (found : Command) (words : List (List ℕ)) → Names found words → Judges found → IsJudging words
judging_for (Picture from to brief) words named judges = absurd judges
judging_for (Breach strict) words named judges = (strict, inl named)
judging_for (Explain strict) words named judges = (strict, inr (inl named))
judging_for (Page strict) words named judges = (strict, inr (inr named))

-- ---- four words: a brief picture of a part, or no command
abbrev NoRange : List ℕ → List ℕ → Type 0
NoRange from to = (m n : ℕ) → IsInRange m n → from ≡ decimal m → to ≢ decimal n

no_brief : (from to : List ℕ) → NoRange from to → (command : Command) → Names command (codes "picture" ∷ codes "brief" ∷ from ∷ to ∷ []) → ⊥
no_brief from to none (Picture f t true) (inl it) = let e = it.0 in cc
no_brief from to none (Picture f t false) (inl it) = let e = it.0 in cc
no_brief from to none (Picture f t true) (inr it) =
    let e = it.named in
    let first : from ≡ decimal f = cc in
    let last : to ≡ decimal t = cc in
    none f t it.range first last
no_brief from to none (Picture f t false) (inr it) = let e = it.named in cc
no_brief from to none (Breach true) it = cc
no_brief from to none (Breach false) it = cc
no_brief from to none (Explain true) it = cc
no_brief from to none (Explain false) it = cc
no_brief from to none (Page true) it = cc
no_brief from to none (Page false) it = cc

is_brief : (from to : List ℕ) (command : Command) → IsPictureFor true command from to → Names command (codes "picture" ∷ codes "brief" ∷ from ∷ to ∷ [])
is_brief from to (Picture f t brief) it = inr (record { named = rw (it.0, it.2, it.3) refl; range = it.1 })
is_brief from to (Breach strict) it = absurd it
is_brief from to (Explain strict) it = absurd it
is_brief from to (Page strict) it = absurd it

pub brief_known : (from to : List ℕ) (found : Option Command) → MatchOption found (NoRange from to) (λ command. IsPictureFor true command from to)
    → MatchOption found (IsKnown (codes "picture" ∷ codes "brief" ∷ from ∷ to ∷ []) → ⊥) (λ command. Names command (codes "picture" ∷ codes "brief" ∷ from ∷ to ∷ []))
brief_known from to None none = λ known. no_brief from to none known.0 known.1
brief_known from to (Some command) it = is_brief from to command it
