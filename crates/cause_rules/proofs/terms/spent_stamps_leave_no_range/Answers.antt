use Rattle.cause_rules.proofs.WorkedTerms.{ceiling_not_given, no_room, no_room_after_extension, room_left}
use Rattle.cause_rules.proofs.WorkedUnasked.{spent_unasked}
use Rattle.cause_rules.proofs.terms.spent_stamps_leave_no_range.Goals as goal

pub returns : goal.returns
returns c = record {
  no_room = no_room;
  after_an_extension = no_room_after_extension;
  room_left = room_left;
  not_given = ceiling_not_given;
  not_asked = spent_unasked;
}
