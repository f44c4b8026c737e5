-- What it tells of members that they are as expected, and at which place they are not.
use Rattle.std.proofs.Common.{◌≡◌, ◌↔◌, ℕ, ◌+◌, ◌<◌, ◌≤◌, length, drop, get_or, arith, List, [], ◌∷◌, string_bytes, refl, sym, ap, ◌∙◌}
use Rattle.std.proofs.lemmas.List.{drop_all, drop_more, length-drop}
use Rattle.serde_json.specs.Data.{Data, null, Members, no_members, member}
use Rattle.serde_json.specs.View.{view, members_view}
use Rattle.serde_json.proofs.Views.{Entry}
use Rattle.history_json.specs.declared.members.Member.{Member}
use Rattle.history_json.specs.Expected.{said_data, expected_members}

-- ---- members

abbrev name_of : Members → List ℕ
name_of no_members = []
name_of (member k d ms) = k

abbrev value_of : Members → Data
value_of no_members = null
value_of (member k d ms) = d

-- where members are alike, their first are
pub first_alike : (e : Entry) (es : List Entry) (m : Member) (ms : List Member) → members_view (e ∷ es) ≡ expected_members (m ∷ ms)
    → (string_bytes e.0 ≡ m.name.now) × (view e.1 ≡ said_data m.said)
first_alike e es m ms h = (ap name_of h, ap value_of h)

-- one more than was expected
pub one_more : (e : Entry) (es : List Entry) → members_view (e ∷ es) ≡ no_members → ⊥
one_more e es h = cc

-- where none are left, none are expected
pub none_left : (ms : List Member) → no_members ≡ expected_members ms → length ms ≡ 0
none_left [] h = refl
none_left (m ∷ ms) h = cc

-- ---- at a place of what is expected

-- none are left where nothing more is expected
pub end_expected : (ms : List Member) (place : ℕ) → length ms ≤ place → no_members ≡ expected_members (drop place ms)
end_expected ms place end = ap expected_members (sym (drop_all place ms end))

pub end_found : (ms : List Member) (place : ℕ) → place ≤ length ms → no_members ≡ expected_members (drop place ms) → place ≡ length ms
end_found ms place within e = omega (arith, within, none_left (drop place ms) e, length-drop place ms)

-- one is left where nothing more is expected
pub too_many : {All : Type 0} (left : List Entry) (e : Entry) (es : List Entry) (ms : List Member) (place : ℕ) → left ≡ e ∷ es → length ms ≤ place
    → ((members_view left ≡ expected_members (drop place ms)) ↔ All) → All → ⊥
too_many left e es ms place is end all w = one_more e es (ap members_view (sym is) ∙ all.1 w ∙ sym (end_expected ms place end))

-- the next is as expected
pub next_alike : {All : Type 0} (left : List Entry) (e : Entry) (es : List Entry) (ms : List Member) (place : ℕ) (d : Member) → left ≡ e ∷ es → place < length ms
    → ((members_view left ≡ expected_members (drop place ms)) ↔ All) → All → (string_bytes e.0 ≡ (get_or ms place d).name.now) × (view e.1 ≡ said_data (get_or ms place d).said)
next_alike left e es ms place d is within all w =
    first_alike e es (get_or ms place d) (drop (place + 1) ms) (ap members_view (sym is) ∙ all.1 w ∙ ap expected_members (drop_more ms place d within))
