use Rattle.std.proofs.Common.{◌*◌, ◌+◌, ◌-◌, sym, arith}
use Rattle.conflict_buckets.proofs.SoundLemmas.{room-there, recorded-kept, sound-after}
use Rattle.conflict_buckets.proofs.runs.keep.Goals as goal

pub keep-requires-clause-room : goal.keep-requires-clause-room
keep-requires-clause-room c =
    let at = c.place_of-place.ensures in
    room-there c.args.width c.args.room (c.place_of-place.result * c.args.room + c.args.room - c.place_of-place.result * c.args.room) c.args.heads.now c.args.runs.now c.place_of-place.result (record { len = 0; water = 0 }) c.args.pair c.requires at.within (at.key, sym at.value) (omega arith)

pub returns-clause-recorded : goal.returns-clause-recorded
returns-clause-recorded c =
    let at = c.place_of-place.ensures in
    recorded-kept c.args.width c.args.room (c.place_of-place.result * c.args.room + c.args.room - c.place_of-place.result * c.args.room) c.args.heads.now c.args.runs.now c.keep.new.run c.place_of-place.result (record { len = 0; water = 0 }) c.keep.result c.args.pair c.requires at.within at.value (omega arith) c.keep.ensures.recorded c.keep.ensures.run c.keep.ensures.len

pub returns-clause-sound : goal.returns-clause-sound
returns-clause-sound c =
    let at = c.place_of-place.ensures in
    sound-after c.args.width c.args.room (c.place_of-place.result * c.args.room + c.args.room - c.place_of-place.result * c.args.room) c.args.heads.now c.args.runs.now c.keep.new.run c.place_of-place.result (record { len = 0; water = 0 }) c.keep.result c.args.pair c.requires at.within (at.key, sym at.value) (omega arith) c.keep.ensures.recorded c.keep.ensures.run c.keep.ensures.len
