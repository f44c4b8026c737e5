-- What is told of marks, of outcomes that got lost, and of nodes that have no instance: by its definition where the items are
-- found, and the other way round.
use Rattle.std.proofs.Common.{◌≡◌, ℕ, zero, suc, ◌+◌, ◌==◌, Bool, true, false, if◌then◌else◌, List, [], ◌∷◌, Option, Some, None, drop, length, length-drop, ◌-◌, is_some, is_none, refl, sym, subst, ap, ◌∙◌, inl, inr, arith}
use Rattle.std.specs.Prelude.{slice_get, IfSome}
use Rattle.std.specs.Option.{option_map}
use Rattle.std.proofs.lemmas.Bool.{eqb-true, and_parts}
use Rattle.stamp_base.specs.SetupNumbers.{SetupNumbers}
use Rattle.stamp_base.specs.declared.stores.Store.TheVariants.{Table}
use Rattle.history_book.specs.Members.{◌∈◌}
use Rattle.history_book.specs.declared.item.Actor.{Actor}
use Rattle.history_book.specs.declared.item.Actor.TheVariants.{Node}
use Rattle.history_book.specs.declared.item.Item.{Item}
use Rattle.history_book.specs.declared.item.Item.TheVariants as item
use Rattle.cause_rules.specs.Asks.{its_node, its_start, its_draw, draws_for, since_ask, since_draw}
use Rattle.cause_rules.specs.Commits.{placer, IsLost, ShownInvalid, ShownOpen, ShownCrashed}
use Rattle.cause_rules.specs.Posts.{HasNone, last_take, takes_for, crashes_for, take_by}
use Rattle.cause_rules.specs.Since.{since}
use Rattle.refusal_reasons.specs.declared.clue.Clue.TheVariants as clue
use Rattle.refusal_reasons.specs.Clues.{marks, crashes_in, faults_on_table, vanishes, fits}
use Rattle.refusal_reasons.specs.declared.shown.Places.{Places}
use Rattle.refusal_reasons.specs.Decided.{LostBySetup}
use Rattle.refusal_reasons.specs.Showing.{invalid, draws_its, draw_from, lost_by_fault, lost_by, lost, crashed, ask_from, no_oracle, after_crash, failed_at_once, take_place, take_from}
use Rattle.refusal_reasons.specs.Showing as showing
use Rattle.refusal_reasons.specs.Sought.{passes, seek, behind, last_in}
use Rattle.refusal_reasons.proofs.PartLemmas.{in_drop, drop_in, since_is, told_is, ToldAt, at_head}
use Rattle.refusal_reasons.proofs.PlaceLemmas.{IsPlace, one_found, one_parts, both, seek_in, seek_all, sought_in, ask_part, take_part, takes_tell}
use Rattle.refusal_reasons.proofs.PlaceLemmas as place
use Rattle.refusal_reasons.proofs.RequestLemmas.{draw_none}
use Rattle.refusal_reasons.proofs.NodeLemmas.{any_take, same_is, is_same, or_first, or_second}

-- ---- marks and vanished sessions
mark_form : (h : List Item) (start : ℕ) (x : Item) → x ∈ h → marks start x ≡ true → (actor : Actor) × (item.Mark actor start ∈ h)
mark_form h start (item.Mark actor marked) m e = (actor, subst (λ (v : ℕ). item.Mark actor v ∈ h) (eqb-true marked start e) m)
mark_form h start _ m e = absurd cc

pub invalid_whole : (h : List Item) (s start : ℕ) → ShownInvalid h s start → is_some (invalid h start (its_node h s) (its_start h s)) ≡ true
invalid_whole h s start shown = rw (shown.node_is) (one_found (showing.same (its_start h s) start) (seek h 0 (clue.Marked start)) (is_same (its_start h s) start shown.start_is) (seek_all h (clue.Marked start) (item.Mark shown.actor start) shown.marked (place.same start)))

pub invalid_sound : (h : List Item) (s start : ℕ) (node : Option ℕ) → its_node h s ≡ node → is_some (invalid h start node (its_start h s)) ≡ true → ShownInvalid h s start
invalid_sound h s start None ns e = absurd cc
invalid_sound h s start (Some n) ns e =
    let parts = one_parts (showing.same (its_start h s) start) (seek h 0 (clue.Marked start)) e in
    let at = sought_in h 0 parts.1.0 (clue.Marked start) parts.1.1 in
    let mark = mark_form h start at.0 at.1.0 at.1.1 in
    record { node = n; node_is = ns; start_is = same_is (its_start h s) start parts.0; actor = mark.0; marked = mark.1 }

vanishing : (h : List Item) (s : ℕ) (x : Item) → x ∈ h → vanishes s x ≡ true → item.Vanish s ∈ h
vanishing h s (item.Vanish session) m e = subst (λ (v : ℕ). item.Vanish v ∈ h) (eqb-true session s e) m
vanishing h s _ m e = absurd cc

pub gone_form : (h : List Item) (s at : ℕ) → seek h 0 (clue.Vanished s) ≡ Some at → item.Vanish s ∈ h
gone_form h s at is = let there = sought_in h 0 at (clue.Vanished s) is in vanishing h s there.0 there.1.0 there.1.1

-- ---- a begin that got lost
crash_form : (part : List Item) (n u : ℕ) (x : Item) → x ∈ part → crashes_in n u x ≡ true → item.Crash n u ∈ part
crash_form part n u (item.Crash node term) m e =
    let parts = and_parts (node == n) (term == u) e in
    subst (λ (v : ℕ). item.Crash v u ∈ part) (eqb-true node n parts.0) (subst (λ (v : ℕ). item.Crash node v ∈ part) (eqb-true term u parts.1) m)
crash_form part n u _ m e = absurd cc

pub crashed_whole : (h : List Item) (s n u : ℕ) → ShownCrashed h s n u → is_some (crashed h s n u (its_node h s)) ≡ true
crashed_whole h s n u shown =
    one_found (showing.same (its_node h s) n) (seek h (ask_from h s) (clue.CrashedIn n u)) (is_same (its_node h s) n shown.node_is)
    (seek_in h (ask_from h s) (clue.CrashedIn n u) (item.Crash n u) (subst (λ (part : List Item). item.Crash n u ∈ part) (ask_part h s) shown.crashed) (both n u))

pub crashed_sound : (h : List Item) (s n u : ℕ) → is_some (crashed h s n u (its_node h s)) ≡ true → ShownCrashed h s n u
crashed_sound h s n u e =
    let parts = one_parts (showing.same (its_node h s) n) (seek h (ask_from h s) (clue.CrashedIn n u)) e in
    let at = sought_in h (ask_from h s) parts.1.0 (clue.CrashedIn n u) parts.1.1 in
    record { node_is = same_is (its_node h s) n parts.0; crashed = crash_form (since_ask h s) n u at.0 (subst (λ (part : List Item). at.0 ∈ part) (sym (ask_part h s)) at.1.0) at.1.1 }

-- ---- the part since the draw, by places
slice_get-drop : {X : Type 0} (xs : List X) (from n : ℕ) → slice_get (drop from xs) n ≡ slice_get xs (from + n)
slice_get-drop [] zero n = refl
slice_get-drop [] (suc from) n = refl
slice_get-drop (x ∷ xs) zero n = let count : n ≡ 0 + n = omega arith in ap (slice_get (x ∷ xs)) count
slice_get-drop (x ∷ xs) (suc from) n = let count : suc (from + n) ≡ suc from + n = omega arith in slice_get-drop xs from n ∙ ap (slice_get (x ∷ xs)) count

shifted_by : (test : Item → Bool) (h : List Item) (from n : ℕ) (b : Bool) → last_in test h from n ≡ option_map (λ p. from + p) (last_in test (drop from h) 0 n)
    → (if b then Some (from + n) else last_in test h from n) ≡ option_map (λ p. from + p) (if b then Some n else last_in test (drop from h) 0 n)
shifted_by test h from n true less = refl
shifted_by test h from n false less = less

shifted : (test : Item → Bool) (h : List Item) (from n : ℕ) → last_in test h from n ≡ option_map (λ p. from + p) (last_in test (drop from h) 0 n)
unfolding last_in
shifted test h from zero = refl
shifted test h from (suc n) =
    let count : n ≡ 0 + n = omega arith in
    ap (λ (o : Option Item). if passes test o then Some (from + n) else last_in test h from n) (sym (slice_get-drop h from n))
    ∙ (shifted_by test h from n (passes test (slice_get (drop from h) n)) (shifted test h from n)
    ∙ ap (λ (k : ℕ). option_map (λ p. from + p) (if passes test (slice_get (drop from h) k) then Some k else last_in test (drop from h) 0 n)) count)

-- ---- an outcome that got lost
-- the last draw since the ask, by its place in the whole
record Drawn (h : List Item) (s : ℕ) : Type 0 where
  at : ℕ
  from_is : draw_from h s ≡ suc (ask_from h s + at)
  part : since_draw h s ≡ drop (suc at) (drop (ask_from h s) h)

length_part : {X : Type 0} (xs : List X) (from : ℕ) → length xs - from ≡ length (drop from xs) - 0
length_part xs from = omega (arith, length-drop from xs)

drawn_by : (h : List Item) (s : ℕ) (at : Option ℕ) → seek (since_ask h s) 0 (clue.Drew s) ≡ at → is_some at ≡ true → Drawn h s
drawn_by h s None is some = absurd cc
drawn_by h s (Some at) is some =
    let ask = ask_from h s in
    let there : last_in (draws_for s) (drop ask h) 0 (length (drop ask h) - 0) ≡ Some at = subst (λ (part : List Item). seek part 0 (clue.Drew s) ≡ Some at) (ask_part h s) is in
    let whole : seek h ask (clue.Drew s) ≡ Some (ask + at) =
    ap (last_in (draws_for s) h ask) (length_part h ask) ∙ (shifted (draws_for s) h ask (length (drop ask h) - 0) ∙ ap (option_map (λ p. ask + p)) there) in
    record {
      at = at;
      from_is = ap behind whole;
      part = since_is (draws_for s) (since_ask h s) ∙ (ap (λ (o : Option ℕ). drop (behind o) (since_ask h s)) is ∙ ap (drop (suc at)) (ask_part h s));
    }

draw_there : (h : List Item) (s start commit : ℕ) (at : Option ℕ) → seek (since_ask h s) 0 (clue.Drew s) ≡ at → its_draw h s ≡ Some (start, Some commit) → is_some at ≡ true
draw_there h s start commit None is e = let none = draw_none (since_ask h s) s is in absurd (let same = sym none ∙ e in cc)
draw_there h s start commit (Some at) is e = refl

drawn : (h : List Item) (s start commit : ℕ) → its_draw h s ≡ Some (start, Some commit) → Drawn h s
drawn h s start commit e = drawn_by h s (seek (since_ask h s) 0 (clue.Drew s)) refl (draw_there h s start commit (seek (since_ask h s) 0 (clue.Drew s)) refl e)

-- what stands since the draw stands behind its place
since_draw_in : (h : List Item) (s : ℕ) (x : Item) → Drawn h s → x ∈ since_draw h s → x ∈ drop (draw_from h s) h
since_draw_in h s x d m =
    let at = in_drop x (drop (ask_from h s) h) (suc d.at) (subst (λ (part : List Item). x ∈ part) d.part m) in
    let stands : slice_get h (ask_from h s + at.0) ≡ Some x = sym (slice_get-drop h (ask_from h s) at.0) ∙ at.1.1 in
    drop_in x h (draw_from h s) (ask_from h s + at.0) (omega (arith, d.from_is, at.1.0)) stands

placing_fits : (direct : Bool) (n s : ℕ) → faults_on_table n s (item.Fault (placer direct n s) Table) ≡ true
placing_fits true n s = place.same s
placing_fits false n s = place.same n

lost_place : (setup : SetupNumbers) (h : List Item) (s start n : ℕ) → IsLost setup h s start n → IsPlace (lost_by h s start n)
lost_place setup h s start n (inl (commit, draw, m)) =
    let its : draws_its (its_draw h s) start ≡ true = rw draw (place.same start) in
    let placing : Item = item.Fault (placer setup.direct n s) Table in
    let fault = seek_in h (draw_from h s) (clue.TableFault n s) placing (since_draw_in h s placing (drawn h s start commit draw) m) (placing_fits setup.direct n s) in
    let at : IsPlace (lost_by_fault h s start n) = (fault.0, rw its (fault.1)) in
    or_first (lost_by_fault h s start n) (seek h (ask_from h s) (clue.Crashed n)) at
lost_place setup h s start n (inr (term, m)) =
    or_second (lost_by_fault h s start n) (seek h (ask_from h s) (clue.Crashed n))
    (seek_in h (ask_from h s) (clue.Crashed n) (item.Crash n term) (subst (λ (part : List Item). item.Crash n term ∈ part) (ask_part h s) m) (place.same n))

pub lost_whole : (setup : SetupNumbers) (h : List Item) (s start : ℕ) → ShownOpen setup h s start → (is_some (lost h s start (its_node h s) (its_start h s)) ≡ true) × LostBySetup setup h s start
lost_whole setup h s start shown = rw (shown.node_is) (one_found (showing.same (its_start h s) start) (lost_by h s start shown.node) (is_same (its_start h s) start shown.start_is) (lost_place setup h s start shown.node shown.lost), shown.lost)

pub lost_sound : (setup : SetupNumbers) (h : List Item) (s start : ℕ) (node : Option ℕ) → its_node h s ≡ node → is_some (lost h s start node (its_start h s)) ≡ true → IfSome node (λ n. IsLost setup h s start n) → ShownOpen setup h s start
lost_sound setup h s start None ns e lost = absurd cc
lost_sound setup h s start (Some n) ns e lost =
    let parts = one_parts (showing.same (its_start h s) start) (lost_by h s start n) e in
    record { start_is = same_is (its_start h s) start parts.0; node = n; node_is = ns; lost = lost }

-- ---- a node that has no instance
head_at : {X : Type 0} (xs : List X) (from : ℕ) (x : X) (later : List X) → drop from xs ≡ x ∷ later → slice_get xs from ≡ Some x
head_at [] zero x later e = absurd cc
head_at [] (suc from) x later e = absurd cc
head_at (y ∷ ys) zero x later e = ap (λ zs. slice_get zs 0) e
head_at (y ∷ ys) (suc from) x later e = head_at ys from x later e

fault_first : (h : List Item) (n : ℕ) (there : Option Item) → slice_get h (take_from h n) ≡ there → passes (fits (clue.NodeFault n)) there ≡ true → HasNone h n
fault_first h n None is e = absurd cc
fault_first h n (Some (item.Fault (Node node) store)) is e =
    inr (store, drop (suc (take_from h n)) h, take_part h n ∙ at_head h (take_from h n) (item.Fault (Node n) store) (is ∙ ap (λ (v : ℕ). Some (item.Fault (Node v) store)) (eqb-true node n e)))
fault_first h n (Some x) is e = absurd cc

none_told : (part : List Item) (n : ℕ) (place : Option ℕ) → seek part 0 (clue.Took n) ≡ place → ((at : ℕ) → seek part 0 (clue.Took n) ≡ Some at → ⊥) → last_take part n ≡ None
none_told part n None is none = subst (λ (o : Option ℕ). ToldAt (take_by n) part o) is (told_is (take_by n) (takes_for n) part (takes_tell n))
none_told part n (Some at) is none = absurd (none at is)

none_behind_crash : (h : List Item) (n : ℕ) → seek h (behind (seek h 0 (clue.Crashed n))) (clue.Took n) ≡ None → last_take (since (crashes_for n) h) n ≡ None
none_behind_crash h n is = none_told (since (crashes_for n) h) n (seek (since (crashes_for n) h) 0 (clue.Took n)) refl (λ at found.
    let there = sought_in (since (crashes_for n) h) 0 at (clue.Took n) found in
    let m = subst (λ (part : List Item). there.0 ∈ part) (since_is (crashes_for n) h) there.1.0 in
    let other = seek_in h (behind (seek h 0 (clue.Crashed n))) (clue.Took n) there.0 m there.1.1 in
    let no = sym is ∙ other.1 in cc)

take_behind_crash : (h : List Item) (n : ℕ) (place : Option ℕ) → seek h (behind (seek h 0 (clue.Crashed n))) (clue.Took n) ≡ place → last_take (since (crashes_for n) h) n ≡ None → is_none place ≡ true
take_behind_crash h n None is none = refl
take_behind_crash h n (Some at) is none =
    let there = sought_in h (behind (seek h 0 (clue.Crashed n))) at (clue.Took n) is in
    let m = subst (λ (part : List Item). there.0 ∈ part) (sym (since_is (crashes_for n) h)) there.1.0 in
    let inside = seek_in (since (crashes_for n) h) 0 (clue.Took n) there.0 m there.1.1 in
    let some = any_take (since (crashes_for n) h) n inside.0 inside.1 in
    absurd (let same = sym none ∙ some.1 in cc)

if_some : (b : Bool) (p q : Option Places) → is_some p ≡ true → (b ≡ false → is_some q ≡ true) → is_some (if b then p else q) ≡ true
if_some true p q there other = there
if_some false p q there other = other refl

no_take_found : (h : List Item) (n : ℕ) (crash : Option ℕ) → is_none (seek h (behind crash) (clue.Took n)) ≡ true → is_some (after_crash h n crash) ≡ true
no_take_found h n crash e = rw e refl

pub none_whole : (h : List Item) (n : ℕ) → HasNone h n → is_some (no_oracle h n) ≡ true
none_whole h n (inl none) =
    if_some (failed_at_once h n) (Some (record { first = take_place h n; second = Some (take_from h n); third = None })) (after_crash h n (seek h 0 (clue.Crashed n))) refl
    (λ _. no_take_found h n (seek h 0 (clue.Crashed n)) (take_behind_crash h n (seek h (behind (seek h 0 (clue.Crashed n))) (clue.Took n)) refl none))
none_whole h n (inr (store, later, first)) =
    let stands : slice_get h (take_from h n) ≡ Some (item.Fault (Node n) store) = head_at h (take_from h n) (item.Fault (Node n) store) later (sym (take_part h n) ∙ first) in
    let fails : failed_at_once h n ≡ true = rw stands (place.same n) in
    rw fails refl

none_from : (o : Option ℕ) → is_none o ≡ true → o ≡ None
none_from None e = refl
none_from (Some a) e = absurd cc

crash_sound : (h : List Item) (n : ℕ) (b : Bool) → is_none (seek h (behind (seek h 0 (clue.Crashed n))) (clue.Took n)) ≡ b → is_some {T = Places} (if b then Some (record { first = seek h 0 (clue.Crashed n); second = None; third = None }) else None) ≡ true → HasNone h n
crash_sound h n false is e = absurd cc
crash_sound h n true is e = inl (none_behind_crash h n (none_from (seek h (behind (seek h 0 (clue.Crashed n))) (clue.Took n)) is))

none_by : (h : List Item) (n : ℕ) (b : Bool) → failed_at_once h n ≡ b → is_some {T = Places} (if b then Some (record { first = take_place h n; second = Some (take_from h n); third = None }) else after_crash h n (seek h 0 (clue.Crashed n))) ≡ true → HasNone h n
none_by h n true is e = fault_first h n (slice_get h (take_from h n)) refl is
none_by h n false is e = crash_sound h n (is_none (seek h (behind (seek h 0 (clue.Crashed n))) (clue.Took n))) refl e

pub none_sound : (h : List Item) (n : ℕ) → is_some (no_oracle h n) ≡ true → HasNone h n
none_sound h n e = none_by h n (failed_at_once h n) refl e
