-- Words: a number that is printed is the only one that its text is read as, and words name one command at most.
use Rattle.std.proofs.Common.{◌≡◌, ◌≢◌, ℕ, List, [], ◌∷◌, Result, Ok, Err, if◌then◌else◌, codes, decimal, arith, refl, sym, ap, ◌∙◌, subst}
use Rattle.std.specs.Str.Parse.{ParsesUnsigned, digits_value}
use Rattle.std.proofs.lemmas.Fmt.{parse-decimal, decimal_injective, decimal_is_IsNumeral}
use Rattle.stamp_base.specs.Ranges.{IsNumber, IsStamp, IsWithin}
use Rattle.history_reading.specs.ReadWords.{is_word}
use Rattle.omid_top.specs.declared.words.Command.{Command}
use Rattle.omid_top.specs.declared.words.Command.TheVariants as command
use Rattle.omid_top.specs.Texts.{IsReplayCompact, IsStorm, Names}

ok_is : (E : Type 0) (m n : ℕ) (r s : Result ℕ E) → r ≡ Ok m → s ≡ Ok n → r ≡ s → m ≡ n
ok_is E m n r s one other same = cc

-- a text that is read as another number, or not at all, is not the number's
pub read_as_none : (E : Type 0) (bytes : List ℕ) (r : Result ℕ E) (error : E) (n : ℕ) → ParsesUnsigned 64 10 bytes r → r ≡ Err error → IsNumber n → bytes ≡ decimal n → ⊥
read_as_none E bytes r error n read failed within is =
    let same : r ≡ Ok n = parse-decimal 64 n bytes r (omega (arith, within)) (omega (arith, within)) is read in
    cc

pub read_as_another : (E : Type 0) (bytes : List ℕ) (r : Result ℕ E) (m n : ℕ) → ParsesUnsigned 64 10 bytes r → r ≡ Ok m → (bytes ≡ decimal m → ⊥) → IsNumber n → bytes ≡ decimal n → ⊥
read_as_another E bytes r m n read found other within is =
    let same : m ≡ n = ok_is E m n r r found (parse-decimal 64 n bytes r (omega (arith, within)) (omega (arith, within)) is read) refl in
    other (is ∙ ap decimal (sym same))

-- a word that is no number, or one that a range has not, is no number of the range
pub none_in_range : (P : ℕ → Type 0) (word : List ℕ) → ((n : ℕ) → P n → IsNumber n) → ((n : ℕ) → IsNumber n → word ≢ decimal n) → (n : ℕ) → P n → word ≢ decimal n
none_in_range P word small none n p = none n (small n p)

pub another_in_range : (P : ℕ → Type 0) (word : List ℕ) (m : ℕ) → ((n : ℕ) → P n → IsNumber n) → IsNumber m × (word ≡ decimal m) → (P m → ⊥) → (n : ℕ) → P n → word ≢ decimal n
another_in_range P word m small of out n p is = out (subst P (decimal_injective n m (small n p) of.0 (sym is ∙ of.1)) p)

pub small_storm : (n : ℕ) → IsWithin 1 20000 n → IsNumber n
small_storm n within = omega (arith, within.1)

pub small_stamp : (n : ℕ) → IsStamp n → IsNumber n
small_stamp n within = omega (arith, within.1)

number_of : (m n : ℕ) (first : List ℕ) → (first ∷ decimal m ∷ []) ≡ (first ∷ decimal n ∷ []) → decimal m ≡ decimal n
number_of m n first same = cc

pub one_storm : (m n : ℕ) (words : List (List ℕ)) → IsStorm m words → IsStorm n words → m ≡ n
one_storm m n words one other = decimal_injective m n (omega (arith, one.within.1)) (omega (arith, other.within.1)) (number_of m n (codes "storm") (sym one.named ∙ other.named))

water_in : (m n : ℕ) (first second : List ℕ) → (first ∷ second ∷ decimal m ∷ []) ≡ (first ∷ second ∷ decimal n ∷ []) → decimal m ≡ decimal n
water_in m n first second same = cc

pub one_water : (m n : ℕ) (words : List (List ℕ)) → IsReplayCompact m words → IsReplayCompact n words → m ≡ n
one_water m n words one other = decimal_injective m n (small_stamp m one.within) (small_stamp n other.within) (water_in m n (codes "replay") (codes "compact") (sym one.named ∙ other.named))

-- the command that words name, where they name one: of one word, of two or of three, and by the number that stands last
one_word : List ℕ → Command
one_word word = if is_word (codes "run") word then command.Run else if is_word (codes "audit") word then command.Audit else command.Replay

two_words : List ℕ → List ℕ → Command
two_words word second = if is_word (codes "storm") word then command.Storm (digits_value 10 second) else if is_word (codes "audit") word then command.AuditStrict else if is_word (codes "run") word then command.RunSplit else if is_word (codes "summary") second then command.ReplaySummary else command.ReplayJson

named : List (List ℕ) → Command
named (word ∷ []) = one_word word
named (word ∷ second ∷ []) = two_words word second
named (word ∷ second ∷ third ∷ words) = command.ReplayCompact (digits_value 10 third)
named [] = command.Replay

is_named : (one : Command) (words : List (List ℕ)) → Names one words → one ≡ named words
unfolding named one_word two_words
is_named command.Replay words it = sym (ap named it)
is_named command.ReplaySummary words it = sym (ap named it)
is_named command.ReplayJson words it = sym (ap named it)
is_named (command.ReplayCompact n) words it = ap command.ReplayCompact (sym (decimal_is_IsNumeral n (small_stamp n it.within)).1) ∙ sym (ap named it.named)
is_named command.Run words it = sym (ap named it)
is_named command.RunSplit words it = sym (ap named it)
is_named command.Audit words it = sym (ap named it)
is_named command.AuditStrict words it = sym (ap named it)
is_named (command.Storm n) words it = ap command.Storm (sym (decimal_is_IsNumeral n (omega (arith, it.within.1))).1) ∙ sym (ap named it.named)

-- words name one command at most
pub one_command : (one other : Command) (words : List (List ℕ)) → Names one words → Names other words → one ≡ other
one_command one other words this that = is_named one words this ∙ sym (is_named other words that)

pub names_storm : (one : Command) (transactions : ℕ) (words : List (List ℕ)) → one ≡ command.Storm transactions → Names one words → IsStorm transactions words
names_storm one transactions words is named = subst (λ (found : Command). Names found words) is named

pub names_water : (one : Command) (water : ℕ) (words : List (List ℕ)) → one ≡ command.ReplayCompact water → Names one words → IsReplayCompact water words
names_water one water words is named = subst (λ (found : Command). Names found words) is named
