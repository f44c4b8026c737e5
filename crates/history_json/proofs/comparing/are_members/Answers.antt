use Rattle.std.proofs.Common.{ap, arith, sym, ◌∙◌, true≢false}
use Rattle.std.proofs.lemmas.Bool.{eq-eqb, eqb-true}
use Rattle.serde_json.specs.View.{members_view}
use Rattle.serde_json.proofs.Views.{Entry}
use Rattle.history_json.specs.Expected.{said_data}
use Rattle.history_json.specs.declared.members.Member.{Member}
use Rattle.history_json.proofs.MemberLemmas.{end_expected, end_found, next_alike, too_many}
use Rattle.history_json.proofs.comparing.are_members.Goals as goal
use Rattle.history_json.proofs.comparing.are_members.Goals.{then-place-expected-via-then-place-expected, then-place-expected-via-else-place-expected+then-not-is_member}

pub returns-then-place-expected : goal.returns-then-place-expected
returns-then-place-expected c =
    let ms = c.args.expected.now in
    let place = c.loop-name.place in
    let left = c.loop-name.name-iterator in
    let e : Entry = (c.in-Some.name.now, c.in-Some.value.now) in (
      λ f. absurd (true≢false (sym f)),
      λ w. elim c.then-place-expected.branch [
        | then-place-expected-via-then-place-expected b ↦
            absurd (too_many left e c.next.new.self ms place c.in-Some.ensures.steps (omega (arith, b.if-place-expected.true)) c.loop-name.invariant.alike w)
        | then-place-expected-via-else-place-expected+then-not-is_member b ↦
            let at = b.index-expected-place in
            let both = next_alike left e c.next.new.self ms place at.result c.in-Some.ensures.steps (omega (arith, c.loop-name.invariant.within, b.if-place-expected.false)) c.loop-name.invariant.alike w in
            let name = b.as_str.ensures.value ∙ both.0 ∙ sym (ap (λ (m : Member). m.name.now) at.is) in
            let said = both.1 ∙ sym (ap (λ (m : Member). said_data m.said) at.is) in
            absurd (true≢false (sym (b.is_member.ensures.1 (name, said)) ∙ b.if-not-is_member.true))
      ],
    )

pub returns : goal.returns
returns c =
    let ms = c.args.expected.now in
    let place = c.loop-name.place in
    let none = ap members_view c.in-None.ensures.steps.0 in (
      λ t. c.loop-name.invariant.alike.0 (none ∙ end_expected ms place (omega (arith, eqb-true _ _ t))),
      λ w. eq-eqb _ _ (end_found ms place c.loop-name.invariant.within (sym none ∙ c.loop-name.invariant.alike.1 w)),
    )
