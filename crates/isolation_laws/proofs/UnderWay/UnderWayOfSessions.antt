-- What is under way where a session ends, sets an offered shadow or reads.
use Rattle.isolation_laws.proofs.Names.{◌≡◌, ℕ, nat_lt, if◌then◌else◌, Bool, true, false, List, ◌++◌, Option, Some}
use Rattle.isolation_laws.proofs.Names.{None, ◌⊎◌, inl, inr, refl, sym, ◌∙◌, ap, subst, cases_Bool, same_Some}
use Rattle.isolation_laws.proofs.Names.{none-some, Committed, Item, Row, with_shadow, Known, Told, SettleTurn, Goes}
use Rattle.isolation_laws.proofs.Names.{Decides, settle_turn, Reading, ReadTurn, Answers, settling_of, found_by}
use Rattle.isolation_laws.proofs.Names.{read_by, read_ask, Cache, put_fresh, outcome_known, AnyCache, Recalls}
use Rattle.isolation_laws.proofs.Names.{over_holds, told_holds, UnderWay, Nothing, Client, State, client_freed}
use Rattle.isolation_laws.proofs.Names.{client_aborted, client_vanished, told_by, marks_every, client_read}
use Rattle.isolation_laws.proofs.Names.{UnderWayFacts, IsolationInvariant, EndedReadOnly, read_only_state, Aborted}
use Rattle.isolation_laws.proofs.Names.{aborted_state, Vanished, vanished_state, Healed, healed_state, Fetched}
use Rattle.isolation_laws.proofs.Names.{fetched_turn, fetched_client, fetched_state, fetched_items, ReadDropped}
use Rattle.isolation_laws.proofs.Names.{read_dropped_state, ReadStepped, read_turn, read_client, read_stepped_state}
use Rattle.isolation_laws.proofs.Names.{read_stepped_items}
use Rattle.system_parts.specs.declared.known.Known.TheVariants as known
use Rattle.system_parts.specs.declared.resolve.Outcome.TheVariants as outcome
use Rattle.system_parts.specs.declared.session.State.TheVariants as phase
use Rattle.isolation_laws.proofs.Stores.Calm.{calm_same, calm_quiet, calm_turn}
use Rattle.isolation_laws.proofs.UnderWay.Works.{Works, KeepsPlaced, no_settling}
use Rattle.isolation_laws.proofs.UnderWay.ClientWorks.{IsPlain, works_freed, works_vanished, works_aborted, plain_open, works_plain, plain_reading, TurnHeals, read_over_heals, works_read}
use Rattle.isolation_laws.proofs.UnderWay.Settled.{decided_placed}
use Rattle.isolation_laws.proofs.Stores.StoreMoves.{keeps_same, keeps_shadow, marks_stepped}
use Rattle.isolation_laws.proofs.UnderWay.SessionMoves.{work_of, start_of, unplaced_of, open_settles_none, marks_may_mark, under_way_moved, under_way_client}

pub calm_keeps : (w : State) (h : List Item) → KeepsPlaced w.rows w.rows h h
calm_keeps w h = keeps_same w.rows h h (calm_same h)

-- ---- ends
pub under_way_read_only : (w : State) (h : List Item) (k : EndedReadOnly w) → IsolationInvariant w h → UnderWayFacts (read_only_state w k).clients w.sweep w.rows w.pairs (h ++ k.items)
under_way_read_only w h k holds = under_way_client w h (h ++ k.items) k.it.session (client_freed k.it.c) holds (calm_quiet h k.items k.quiet) (works_freed w.rows h k.it.c)

pub under_way_aborted : (w : State) (h : List Item) (k : Aborted w) → IsolationInvariant w h → UnderWayFacts (aborted_state w k).clients w.sweep w.rows w.pairs (h ++ k.items)
under_way_aborted w h k holds =
    let start = start_of w h k.it.session k.it.c phase.Open holds k.it.client_at k.it.is_open refl in
    under_way_client w h (h ++ k.items) k.it.session (client_aborted k.it.c) holds (calm_quiet h k.items k.quiet) (works_aborted w.rows h k.it.c start.0 start.1 (unplaced_of w h k.it.session start.0 k.it.c holds k.it.client_at k.it.is_open start.1))

pub under_way_vanished : (w : State) (h : List Item) (k : Vanished w) → IsolationInvariant w h → UnderWayFacts (vanished_state w k).clients w.sweep w.rows w.pairs (h ++ k.items)
under_way_vanished w h k holds = under_way_client w h (h ++ k.items) k.session (client_vanished k.c) holds (calm_quiet h k.items k.quiet) (works_vanished w.rows h k.c)

-- ---- an offered shadow
heals_none : (k t d : ℕ) (h : List Item) (o : Option (ℕ × ℕ × ℕ)) → o ≡ None → o ≡ Some (k, t, d) → Committed h t d
heals_none k t d h o none offer = absurd (none-some (k, t, d) (sym none ∙ offer))

triple_same : (a b : ℕ × ℕ × ℕ) → Some a ≡ Some b → (a.1 ≡ b.1) × (a.2 ≡ b.2)
triple_same a b same = (ap (λ (p : ℕ × ℕ × ℕ). p.1) (same_Some a b same), ap (λ (p : ℕ × ℕ × ℕ). p.2) (same_Some a b same))

pub heal_placed : (w : State) (h : List Item) (k : Healed w) → IsolationInvariant w h → Committed h k.version k.commit
heal_placed w h k holds = holds.under_way.heals.placed k.it.session k.key k.version k.commit k.it.c k.it.client_at k.offer

healed_keeps : (w : State) (h : List Item) (k : Healed w) (applied : Bool) → IsolationInvariant w h → KeepsPlaced w.rows (if applied then with_shadow w.rows k.key k.version k.commit else w.rows) h h
healed_keeps w h k true holds = keeps_shadow w h k.key k.version k.commit holds (heal_placed w h k holds)
healed_keeps w h k false holds = calm_keeps w h

pub under_way_healed : (w : State) (h : List Item) (k : Healed w) → IsolationInvariant w h → UnderWayFacts (healed_state w k).clients w.sweep (healed_state w k).rows w.pairs (h ++ k.items)
under_way_healed w h k holds = under_way_moved w h (h ++ k.items) k.it.session (record k.it.c { heal = None }) (healed_state w k).rows w.pairs holds (healed_keeps w h k k.applied holds) (λ t marked. marked) (calm_quiet h k.items k.quiet)
    (works_plain (healed_state w k).rows h (record k.it.c { heal = None }) (plain_open (record k.it.c { heal = None }) k.it.is_open) (λ x busy. open_settles_none w h k.it.session k.it.c holds k.it.client_at k.it.is_open x busy) (λ j t d offer. heals_none j t d h None refl offer))

-- ---- reads
late_heals : (h : List Item) (r : Reading) (commit : ℕ) (below : Bool) → nat_lt commit r.start ≡ below → TurnHeals h (read_by r (Decides (outcome.Committed commit false)))
late_heals h r commit true is = rw is (λ k t d offer. heals_none k t d h None refl offer)
late_heals h r commit false is = rw is (read_over_heals h r.every r.key r.start r.epoch r.older)

-- a recall offers no shadow
known_heals : (h : List Item) (r : Reading) (k : Known) → TurnHeals h (read_by r (Decides (outcome_known k)))
known_heals h r (known.Committed commit) = late_heals h r commit (nat_lt commit r.start) refl
known_heals h r known.Dead = read_over_heals h r.every r.key r.start r.epoch r.older

recalls_heal : (h : List Item) → Recalls (TurnHeals h) AnyCache
recalls_heal h = record {
  stays = λ cache txn any. tt;
  goes = λ cache r k any is heals. known_heals h r k;
}

pub under_way_fetched : (w : State) (h : List Item) (k : Fetched w) → IsolationInvariant w h → UnderWayFacts (fetched_state w k).clients w.sweep w.rows w.pairs (h ++ fetched_items w k)
under_way_fetched w h k holds =
    let turn : ReadTurn = fetched_turn w k in
    under_way_client w h (h ++ fetched_items w k) k.it.session (client_read (fetched_client w k) turn) holds (calm_turn h k.first k.it.session k.start k.key turn k.quiet)
    (works_read w.rows h (fetched_client w k) turn (plain_open (fetched_client w k) k.it.is_open) (over_holds (TurnHeals h) AnyCache (recalls_heal h) (marks_every w.setup) k.key k.start k.epoch _ _ tt (read_over_heals h (marks_every w.setup) k.key k.start k.epoch _)).0)

works_heal : (rows : List Row) (h : List Item) (c : Client) (heal : Option (ℕ × ℕ × ℕ)) (cache : Cache) → (heal ≡ c.heal) ⊎ (heal ≡ None) → Works rows h c → Works rows h (record c { heal = heal; cache = cache })
works_heal rows h c heal cache is work = record {
  finish = work.finish;
  finish_busy = work.finish_busy;
  undo = work.undo;
  undo_busy = work.undo_busy;
  unplaced = work.unplaced;
  resolve = work.resolve;
  only = work.only;
  handed = work.handed;
  heal = λ k t d offer. elim is [
    | inl same ↦ work.heal k t d (sym same ∙ offer)
    | inr none ↦ heals_none k t d h heal none offer
  ];
}

offered : (rows : List Row) (h : List Item) (c : Client) (heal : Option (ℕ × ℕ × ℕ)) → (heal ≡ c.heal) ⊎ (heal ≡ None) → Works rows h c → (k t d : ℕ) → heal ≡ Some (k, t, d) → Committed h t d
offered rows h c heal (inl same) work k t d offer = work.heal k t d (sym same ∙ offer)
offered rows h c heal (inr none) work k t d offer = heals_none k t d h heal none offer

dropped_works : (w : State) (h : List Item) (k : ReadDropped w) → IsolationInvariant w h → Works w.rows h (record k.c { under_way = k.under_way; heal = k.heal; cache = put_fresh k.c.cache })
dropped_works w h k holds =
    let work : Works w.rows h k.c = work_of w h k.session k.c holds k.client_at in
    elim k.under_way_is [
      | inl goes ↦ subst (λ (u : UnderWay). Works w.rows h (record k.c { under_way = u; heal = k.heal; cache = put_fresh k.c.cache })) (sym goes.0) (works_heal w.rows h k.c k.heal (put_fresh k.c.cache) k.heal_is work)
      | inr ends ↦ subst (λ (u : UnderWay). Works w.rows h (record k.c { under_way = u; heal = k.heal; cache = put_fresh k.c.cache })) (sym ends.1)
          (let plain = plain_reading w.rows h k.c ends.0.0 work ends.0.1 in
          works_plain w.rows h (record k.c { under_way = Nothing; heal = k.heal; cache = put_fresh k.c.cache }) (record { not_completing = plain.not_completing; not_outcome = plain.not_outcome; handed = plain.handed }) no_settling (offered w.rows h k.c k.heal k.heal_is work))
    ]

pub under_way_dropped : (w : State) (h : List Item) (k : ReadDropped w) → IsolationInvariant w h → UnderWayFacts (read_dropped_state w k).clients w.sweep w.rows k.pairs (h ++ k.items)
under_way_dropped w h k holds = under_way_moved w h (h ++ k.items) k.session (record k.c { under_way = k.under_way; heal = k.heal; cache = put_fresh k.c.cache }) w.rows k.pairs holds (calm_keeps w h) (marks_may_mark w.pairs k.pairs k.pairs_are) (calm_quiet h k.items k.quiet) (dropped_works w h k holds)

-- the shadow that is offered is the table's commit
found_heals : (h : List Item) (r : Reading) (c : ℕ) (by_table : Bool) → (by_table ≡ true → Committed h r.cell.version c) → TurnHeals h (Answers (found_by r.key r.cell c by_table))
found_heals h r c true placed = λ k t d offer.
    let parts = triple_same (r.key, r.cell.version, c) (k, t, d) offer in
    subst (λ q. Committed h q d) parts.0 (subst (λ q. Committed h r.cell.version q) parts.1 (placed refl))
found_heals h r c false placed = λ k t d offer. heals_none k t d h None refl offer

turn_heals : (w : State) (h : List Item) (r : Reading) (turn : SettleTurn) → IsolationInvariant w h → settle_turn (settling_of r) (told_by (read_ask r) w.rows w.pairs) ≡ turn → TurnHeals h (read_by r turn)
turn_heals w h r (Goes p) holds is = tt
turn_heals w h r (Decides outcome.Dead) holds is = read_over_heals h r.every r.key r.start r.epoch r.older
turn_heals w h r (Decides (outcome.Committed c by_table)) holds is = elim (cases_Bool (nat_lt c r.start)) [
  | inl below ↦ rw below (found_heals h r c by_table (λ so. decided_placed w h (settling_of r) c by_table holds is))
  | inr late ↦ rw late (read_over_heals h r.every r.key r.start r.epoch r.older)
]

pub under_way_read : (w : State) (h : List Item) (k : ReadStepped w) → IsolationInvariant w h → UnderWayFacts (read_stepped_state w k).clients w.sweep w.rows (read_stepped_state w k).pairs (h ++ read_stepped_items w k)
under_way_read w h k holds =
    let turn : ReadTurn = read_turn w k in
    let told : Told = told_by (read_ask k.r) w.rows w.pairs in
    let was = plain_reading w.rows h k.c k.r (work_of w h k.session k.c holds k.client_at) k.under_way in
    let plain : IsPlain (read_client w k) = record { not_completing = was.not_completing; not_outcome = was.not_outcome; handed = was.handed } in
    under_way_moved w h (h ++ read_stepped_items w k) k.session (client_read (read_client w k) turn) w.rows (read_stepped_state w k).pairs holds (calm_keeps w h) (λ t marked. marks_stepped (read_ask k.r) w.pairs t marked) (calm_turn h k.first k.session k.r.start k.r.key turn k.quiet)
    (works_read w.rows h (read_client w k) turn plain (told_holds (TurnHeals h) AnyCache (recalls_heal h) _ k.r told tt (turn_heals w h k.r (settle_turn (settling_of k.r) told) holds refl)).0)
