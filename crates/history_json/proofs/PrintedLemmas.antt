-- The text of an object of numbers and texts, printed with no blank, is read as that object.
use Rattle.std.proofs.Common.{◌≡◌, ◌^◌, true, max, [], Option, Some, option_map, option_and_then, refl, sym, ap, ap₂, ◌∙◌, arith, append-nil, List}
use Rattle.std.proofs.lemmas.Bool.{and_parts, false≢true, ltb-true}
use Rattle.json.specs.Json as json
use Rattle.json.specs.Token.{Token}
use Rattle.json.specs.Tree.{json_tokens, depth, members_depth, HasNumbers, MembersHaveNumbers}
use Rattle.json.proofs.Printed.Decimals.{IsNumber-decimal}
use Rattle.json.proofs.Printed.Tokens.{tokens-print}
use Rattle.json.proofs.Printed.Trees.{ArePrintable-json_tokens, value-json_tokens}
use Rattle.serde_json.specs.Data.{Data, null, boolean, number, string, array, object, unsigned, negative, float, Members, no_members, member, put}
use Rattle.serde_json.specs.Read.{of_json, of_members, max_depth, read}
use Rattle.serde_json.specs.Written.{compact_text, outline, members_outline}
use Rattle.serde_json.proofs.Numbers.{number_of-decimal}
use Rattle.serde_json.proofs.Texts.{print-outline}
use Rattle.history_json.specs.Expected.{is_leaf, are_leaves}

-- the members put in one after another
abbrev pub put_all : Members → Members → Members
put_all no_members found = found
put_all (member k d ms) found = put_all ms (put k d found)

leaf_again : (d : Data) → is_leaf d ≡ true → of_json (outline d) ≡ Some d
leaf_again null h = absurd (false≢true h)
leaf_again (boolean b) h = absurd (false≢true h)
leaf_again (number (unsigned n)) h = ap (option_map number) (number_of-decimal n (ltb-true n (2 ^ 64) h))
leaf_again (number (negative z)) h = absurd (false≢true h)
leaf_again (number (float x)) h = absurd (false≢true h)
leaf_again (string s) h = refl
leaf_again (array ds) h = absurd (false≢true h)
leaf_again (object ms) h = absurd (false≢true h)

members_again : (ms found : Members) → are_leaves ms ≡ true → of_members (members_outline ms) found ≡ Some (put_all ms found)
members_again no_members found h = refl
members_again (member k d ms) found h =
    let both = and_parts _ _ h in
    ap (option_and_then (λ e. of_members (members_outline ms) (put k e found))) (leaf_again d both.0) ∙ members_again ms (put k d found) both.1

leaf_numbers : (d : Data) → is_leaf d ≡ true → HasNumbers (outline d)
leaf_numbers null h = absurd (false≢true h)
leaf_numbers (boolean b) h = absurd (false≢true h)
leaf_numbers (number (unsigned n)) h = IsNumber-decimal n (ltb-true n (2 ^ 64) h)
leaf_numbers (number (negative z)) h = absurd (false≢true h)
leaf_numbers (number (float x)) h = absurd (false≢true h)
leaf_numbers (string s) h = tt
leaf_numbers (array ds) h = absurd (false≢true h)
leaf_numbers (object ms) h = absurd (false≢true h)

members_numbers : (ms : Members) → are_leaves ms ≡ true → MembersHaveNumbers (members_outline ms)
members_numbers no_members h = tt
members_numbers (member k d ms) h = let both = and_parts _ _ h in (leaf_numbers d both.0, members_numbers ms both.1)

leaf_depth : (d : Data) → is_leaf d ≡ true → depth (outline d) ≡ 0
leaf_depth null h = absurd (false≢true h)
leaf_depth (boolean b) h = absurd (false≢true h)
leaf_depth (number n) h = refl
leaf_depth (string s) h = refl
leaf_depth (array ds) h = absurd (false≢true h)
leaf_depth (object ms) h = absurd (false≢true h)

no_deeper : (ms : Members) → are_leaves ms ≡ true → members_depth (members_outline ms) ≡ 0
no_deeper no_members h = refl
no_deeper (member k d ms) h = let both = and_parts _ _ h in ap₂ max (leaf_depth d both.0) (no_deeper ms both.1)

abbrev whole : Option (json.Json × List Token) → Option Data
whole o = option_and_then of_json (option_and_then (λ p. json.if_last p.0 p.1) o)

pub printed_read : (ms : Members) → are_leaves ms ≡ true → put_all ms no_members ≡ ms → read (compact_text (object ms)) ≡ Some (object ms)
printed_read ms leaves ordered =
    let j : json.Json = outline (object ms) in
    let printable = ArePrintable-json_tokens j (members_numbers ms leaves) in
    let again : of_json j ≡ Some (object ms) = ap (option_map object) (members_again ms no_members leaves ∙ ap Some ordered) in
    ap read (sym (print-outline (object ms)))
    ∙ ap whole (ap (json.value max_depth) (tokens-print (json_tokens j) printable ∙ sym (append-nil (json_tokens j))) ∙ value-json_tokens j max_depth [] (omega (arith, no_deeper ms leaves)))
    ∙ again
