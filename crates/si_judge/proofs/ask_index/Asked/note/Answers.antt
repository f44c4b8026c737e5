use Rattle.si_judge.proofs.Names.{◌≡◌, ◌<◌, Some, length, slice_get, refl, arith, slice_get_read}
use Rattle.si_judge.proofs.AskIndexLemmas.{ask_at, ask_within_starts, noted_ask, noted_begin, noted_other}
use Rattle.si_judge.proofs.ask_index.Asked.note.Goals as goal

pub returns-in-AskBegin : goal.returns-in-AskBegin
returns-in-AskBegin c =
    let items = c.args.items.now in
    let here : slice_get items c.args.place ≡ Some c.index-items-place.result = slice_get_read items (length items) c.args.place c.index-items-place.result refl c.requires.within c.index-items-place.is in
    let noted = noted_ask items c.args.place c.in-AskBegin.session c.in-AskBegin.node c.place_of.result c.index-items-place.result c.args.self.now.starts.items c.args.self.now.asks here c.in-AskBegin.is c.requires.within c.place_of.ensures.place (omega arith) c.requires.noted.asks c.requires.noted.starts in
    record { each = c.requires.noted.each; asks = noted.asked; starts = noted.begun }

pub index-requires : goal.index-requires
index-requires c =
    let items = c.args.items.now in
    let at = ask_at items c.args.place c.in-Begin.session c.place_of-in-Begin.result c.unwrap_or-ask.result c.args.self.now.asks c.requires.within c.requires.noted.asks c.place_of-in-Begin.ensures.place c.place_of-in-Begin.ensures.range c.unwrap_or-ask.ensures in
    let within = ask_within_starts items c.args.place c.in-Begin.session c.unwrap_or-ask.result c.requires.within at in
    omega (arith, within, c.requires.noted.each)

pub index_mut-requires : goal.index_mut-requires
index_mut-requires c =
    let items = c.args.items.now in
    let at = ask_at items c.args.place c.in-Begin.session c.place_of-in-Begin.result c.unwrap_or-ask.result c.args.self.now.asks c.requires.within c.requires.noted.asks c.place_of-in-Begin.ensures.place c.place_of-in-Begin.ensures.range c.unwrap_or-ask.ensures in
    let within = ask_within_starts items c.args.place c.in-Begin.session c.unwrap_or-ask.result c.requires.within at in
    omega (arith, within, c.requires.noted.each)

pub returns-in-Begin : goal.returns-in-Begin
returns-in-Begin c =
    let items = c.args.items.now in
    let starts = c.args.self.now.starts.items in
    let ask = c.unwrap_or-ask.result in
    let here : slice_get items c.args.place ≡ Some c.index-items-place.result = slice_get_read items (length items) c.args.place c.index-items-place.result refl c.requires.within c.index-items-place.is in
    let at = ask_at items c.args.place c.in-Begin.session c.place_of-in-Begin.result ask c.args.self.now.asks c.requires.within c.requires.noted.asks c.place_of-in-Begin.ensures.place c.place_of-in-Begin.ensures.range c.unwrap_or-ask.ensures in
    let within = ask_within_starts items c.args.place c.in-Begin.session ask c.requires.within at in
    let inside : ask < length starts = omega (arith, within, c.requires.noted.each) in
    let noted = noted_begin items c.args.place c.in-Begin.session c.in-Begin.start ask c.index-items-place.result c.index.result.now c.earlier-least.result starts c.args.self.now.asks here c.in-Begin.is inside at c.index.ensures c.earlier-least.ensures.first (c.earlier-least.ensures.second c.in-Begin.start (omega arith)) c.requires.noted.asks c.requires.noted.starts in
    record { each = c.requires.noted.each; asks = noted.asked; starts = noted.begun }

pub returns-in_default : goal.returns-in_default
returns-in_default c =
    let items = c.args.items.now in
    let here : slice_get items c.args.place ≡ Some c.index-items-place.result = slice_get_read items (length items) c.args.place c.index-items-place.result refl c.requires.within c.index-items-place.is in
    let noted = noted_other items c.args.place c.index-items-place.result c.args.self.now.starts.items c.args.self.now.asks here (λ s n e. c.in_default.not-AskBegin s n e) (λ s n e. c.in_default.not-Begin s n e) c.requires.noted.asks c.requires.noted.starts in
    record { each = c.requires.noted.each; asks = noted.asked; starts = noted.begun }
