use Rattle.run_board.proofs.Names.{ℕ, List, sym, ap, ◌∙◌, subst, Actor, Cursor, can_come_up, place_of, Advances}
use Rattle.run_board.proofs.Names.{caught_up, Played, Counts, IsKeptPlay}
use Rattle.run_board.specs.Playing as playing
use Rattle.run_board.proofs.Advancing.{advances}
use Rattle.run_board.proofs.PlayKept.{kept_further, place_is_small, kept_up}
use Rattle.run_board.proofs.Counted.{counted_advanced}
use Rattle.run_board.proofs.play.Play.advance.Goals as goal

pub catch_up-requires : goal.catch_up-requires
catch_up-requires g c =
    let old = c.self.inside.run in
    let new = c.advance.new.self in
    let kept = kept_further old new c.self.inside.cursors (c.advances_go_further.ensures old new c.actor-actor.result c.aimed-aim.result c.advance.result c.advance.ensures) c.self.invariant.kept in
    let at = c.place-place.ensures ∙ ap (place_of new) c.actor-actor.ensures in
    record {
      behind = can_come_up (place_of new) c.self.inside.cursors c.args.mine.now.actor c.place-place.result at kept.behind;
      small = place_is_small new c.self.inside.cursors c.args.mine.now.actor c.place-place.result at kept;
    }

pub invariant_of-self-in_default : goal.invariant_of-self-in_default
invariant_of-self-in_default g c =
    let old = c.self.inside.run in
    let new = c.advance.new.self in
    let kept = kept_further old new c.self.inside.cursors (c.advances_go_further.ensures old new c.actor-actor.result c.aimed-aim.result c.advance.result c.advance.ensures) c.self.invariant.kept in
    let at = c.place-place.ensures ∙ ap (place_of new) c.actor-actor.ensures in
    let low = can_come_up (place_of new) c.self.inside.cursors c.args.mine.now.actor c.place-place.result at kept.behind in
    let advanced = subst (λ (aim : ℕ). Advances old c.args.mine.now.actor aim c.advance.result new) c.aimed-aim.ensures (subst (λ (actor : Actor). Advances old actor c.aimed-aim.result c.advance.result new) c.actor-actor.ensures c.advance.ensures) in
    let up = kept_up new c.self.inside.cursors c.args.mine.now.actor c.place-place.result at kept in
    let counted = counted_advanced old new c.args.mine.now.actor c.args.mine.now.aim c.advance.result c.self.inside.cursors c.place-place.result advanced at low c.self.invariant.counted in
    subst (λ (cursors : List Cursor). IsKeptPlay new cursors) (sym c.catch_up.ensures.cursors) (record { kept = up; counted = counted })

pub returns-in_default : goal.returns-in_default
returns-in_default g c =
    let old : Played = record { ran = c.self.inside.run; cursors = c.self.inside.cursors } in
    let new : Played = record { ran = c.advance.new.self; cursors = c.catch_up.new.self } in
    let at = c.place-place.ensures ∙ ap (place_of new.ran) c.actor-actor.ensures in
    let made = subst (λ (aim : ℕ). Advances old.ran c.args.mine.now.actor aim c.advance.result new.ran) c.aimed-aim.ensures (subst (λ (actor : Actor). Advances old.ran actor c.aimed-aim.result c.advance.result new.ran) c.actor-actor.ensures c.advance.ensures) in
    let counts : Counts old new c.args.mine.now c.catch_up.new.mine = record {
      actor = c.catch_up.ensures.actor;
      aim = c.catch_up.ensures.aim;
      cursors = c.catch_up.ensures.cursors ∙ ap (λ (place : ℕ). caught_up c.args.mine.now.actor place old.cursors) at;
      counted = c.catch_up.ensures.counted;
    } in
    record {
      made = subst (λ (p : Played). playing.Advances p c.args.mine.now c.advance.result new c.catch_up.new.mine) c.self.view_is (advances old new c.args.mine.now c.catch_up.new.mine c.advance.result c.in_default.not-NoMemory made counts);
      goes_on = record { actor = c.catch_up.ensures.actor; amount = c.catch_up.ensures.rises; aim = c.catch_up.ensures.aim };
    }
