-- Numbers stay small, and which words are values and names.
use Rattle.std.proofs.Common.{◌≡◌, ℕ, suc, ◌<◌, ◌≤◌, ◌^◌, nat_le, Bool, true, ◌&&◌, if◌then◌else◌, List, [], ◌∷◌, Option, Some, None, length, refl, ap, arith, inl, inr, All, IsSome, IfSome, ◌↔◌}
use Rattle.std.proofs.Math.Nat.{pow-le-pow_right}
use Rattle.std.specs.List.{list_all}
use Rattle.std.proofs.lemmas.Bool.{le-leb, leb-true, and_parts, cases_Bool, false≢true}
use Rattle.std.proofs.lemmas.Bool.Decides.{nat_tests}
use Rattle.std.proofs.lemmas.List.Elements.{All-weaker}
use Rattle.std.proofs.lemmas.List.Sums.{AllPass-from_list_all}
use Rattle.stamp_base.specs.Words.{IsValue, IsVisible, IsName, IsNameByte}
use Rattle.session_script.specs.Arguments.{value_of, name_of, is_name_byte}

-- before its last digit, a number of at most 19 digits has at most 18
pub at_most_18 : (n i : ℕ) → n < 10 ^ i → i < 19 → n < 1000000000000000000
at_most_18 n i small few =
    let greatest : 10 ^ i ≤ 10 ^ 18 = pow-le-pow_right {n = 10} (omega arith) {i = i} {j = 18} (omega arith) in
    omega arith

-- an answer that is there exactly for words that pass a test, and is the word
pub tested-is : {P : Type 0} (test : Bool) (word : List ℕ) (r : Option (List ℕ)) → (P → test ≡ true) → (test ≡ true → P) → (IsSome r ↔ P) → IfSome r (λ v. v ≡ word) → r ≡ (if test then Some word else None)
tested-is test word (Some v) passes back valid value = rw (passes (valid.0 refl)) (ap Some value)
tested-is test word None passes back valid value = elim (cases_Bool test) [
  | inl e ↦ absurd (false≢true (valid.1 (back e)))
  | inr e ↦ rw e refl
]

-- every byte passes a test, as a fact and as an answer
all_pass : (P : ℕ → Type 0) (test : ℕ → Bool) → ((b : ℕ) → P b → test b ≡ true) → (bytes : List ℕ) → All P bytes → list_all test bytes ≡ true
all_pass P test passes [] h = refl
all_pass P test passes (b ∷ bs) h = rw (passes b (h 0 0 (omega arith))) (all_pass P test passes bs (λ k d l. h (suc k) d (omega arith)))

pass_all : (P : ℕ → Type 0) (test : ℕ → Bool) → ((b : ℕ) → test b ≡ true → P b) → (bytes : List ℕ) → list_all test bytes ≡ true → All P bytes
pass_all P test back bytes e = All-weaker (λ b. test b ≡ true) P back bytes (AllPass-from_list_all test bytes e)

-- a word of 1 to most bytes that all pass a test
module _ (P : ℕ → Type 0) (test : ℕ → Bool) (passes : (b : ℕ) → P b → test b ≡ true) (back : (b : ℕ) → test b ≡ true → P b) (most : ℕ) where
  word_passes : (word : List ℕ) → (1 ≤ length word) × (length word ≤ most) × All P word → (nat_le 1 (length word) && nat_le (length word) most && list_all test word) ≡ true
  word_passes word h = rw (le-leb 1 (length word) h.0, le-leb (length word) most h.1, all_pass P test passes word h.2) refl

  word_back : (word : List ℕ) → (nat_le 1 (length word) && nat_le (length word) most && list_all test word) ≡ true → (1 ≤ length word) × (length word ≤ most) × All P word
  word_back word e =
      let p = and_parts (nat_le 1 (length word) && nat_le (length word) most) _ e in
      let q = and_parts (nat_le 1 (length word)) (nat_le (length word) most) p.0 in
      (leb-true 1 (length word) q.0, leb-true (length word) most q.1, pass_all P test back word p.1)

  word-is : (word : List ℕ) (r : Option (List ℕ)) → (IsSome r ↔ ((1 ≤ length word) × (length word ≤ most) × All P word)) → IfSome r (λ v. v ≡ word)
      → r ≡ (if nat_le 1 (length word) && nat_le (length word) most && list_all test word then Some word else None)
  word-is word r valid value = tested-is _ word r (word_passes word) (word_back word) valid value

pub value_of-is : (word : List ℕ) (r : Option (List ℕ)) → (IsSome r ↔ IsValue word) → IfSome r (λ v. v ≡ word) → r ≡ value_of word
value_of-is = word-is IsVisible (λ b. nat_le 33 b && nat_le b 126)
    (λ b h. rw (le-leb 33 b h.0, le-leb b 126 h.1) refl)
    (λ b e. let p = and_parts (nat_le 33 b) (nat_le b 126) e in (leb-true 33 b p.0, leb-true b 126 p.1)) 64

name_byte_passes : (b : ℕ) → IsNameByte b → is_name_byte b ≡ true
name_byte_passes b h = grind (arith, nat_tests, h)

name_byte_back : (b : ℕ) → is_name_byte b ≡ true → IsNameByte b
name_byte_back b e = grind (arith, nat_tests, e)

pub name_of-is : (word : List ℕ) (r : Option (List ℕ)) → (IsSome r ↔ IsName word) → IfSome r (λ v. v ≡ word) → r ≡ name_of word
name_of-is = word-is IsNameByte is_name_byte name_byte_passes name_byte_back 16
