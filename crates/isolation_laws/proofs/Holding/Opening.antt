-- All that ties state and history holds in the opening state, of an empty history.
use Rattle.isolation_laws.proofs.Names.{arith, [], ◌≡◌, ℕ, true, false, Some, None, inl, inr, sym, ◌∙◌, ap, subst}
use Rattle.isolation_laws.proofs.Names.{nat_cmp, none-some, CommittedMark, SetupNumbers, AreInRange, NewStamps}
use Rattle.isolation_laws.proofs.Names.{StartsAbove, RightRead, Isolated, Cell, looked, AreOrdered, Nothing, Reads}
use Rattle.isolation_laws.proofs.Names.{Settles, Client, opening, AreOwned, HasRecord, Live, CellFacts, UnderWayFacts}
use Rattle.isolation_laws.proofs.Names.{ReadFacts, IsTrueCache, KnownFacts, IsolationInvariant}
use Rattle.std.specs.FinMap as map
use Rattle.system_parts.specs.declared.session.State.TheVariants as phase
use Rattle.isolation_laws.proofs.Inversions.InversionSound.{none_at}
use Rattle.isolation_laws.proofs.Known.TrueCaches.{true_new}
use Rattle.isolation_laws.proofs.Holding.OpeningSessions.{in_none, each_none, is_new, not_in, not_under_way, not_open, not_pending, opening_numbers, opening_requests, opening_memory, opening_begins}

-- ---- the stores and what is under way
not_live : (setup : SetupNumbers) (t : ℕ) → Live (opening setup).clients (opening setup).nodes t → ⊥
not_live setup t (inl o) = not_open setup o.session t o.epoch o.open_at
not_live setup t (inr p) = not_pending setup p.coming p.pending

none_looked : (k t : ℕ) (cell : Cell) → looked [] k t ≡ Some cell → ⊥
unfolding looked
none_looked k t cell found = cc

none_marked : (t c : ℕ) → HasRecord map.empty t c → ⊥
none_marked t c has = none-some (CommittedMark c) (sym (map.get-empty nat_cmp t) ∙ has)

none_ordered : AreOrdered []
unfolding AreOrdered
none_ordered = tt

opening_cells : (setup : SetupNumbers) → CellFacts (opening setup).clients (opening setup).nodes (opening setup).rows (opening setup).pairs []
opening_cells setup = record {
  rows_are = record {
    ordered = none_ordered;
    begun = λ k t cell found. absurd (none_looked k t cell found);
    placed = λ k t c cell found. absurd (none_looked k t cell found);
  };
  pairs_are = record { placed = λ t c has. absurd (none_marked t c has) };
  live = record { bare = λ t k live. absurd (not_live setup t live) };
  placed = record {
    cells = λ t c k m. absurd (in_none _ m);
    found = λ t c m. absurd (in_none _ m);
  };
}

opening_under_way : (setup : SetupNumbers) → UnderWayFacts (opening setup).clients (opening setup).sweep (opening setup).rows (opening setup).pairs []
opening_under_way setup = record {
  finishing = record {
    finish = λ s c asks at is. let clash : phase.Free ≡ phase.Completing false = not_in setup s c (phase.Completing false) at is in absurd (cc);
    busy = λ s c at is. let clash : phase.Free ≡ phase.Completing false = not_in setup s c (phase.Completing false) at is in absurd (cc);
  };
  undoing = record {
    undo = λ s t c asks at is. let clash : phase.Free ≡ phase.Completing true = not_in setup s c (phase.Completing true) at is in absurd (cc);
    busy = λ s c at is. let clash : phase.Free ≡ phase.Completing true = not_in setup s c (phase.Completing true) at is in absurd (cc);
    unplaced = λ s t c txn m. absurd (in_none _ m);
  };
  settling = record {
    resolve = λ s c at is. let clash : phase.Free ≡ phase.OpenOutcome = not_in setup s c phase.OpenOutcome at is in absurd (cc);
    only = λ s c x at is. let clash : Nothing ≡ Settles x = not_under_way setup s c (Settles x) at is in absurd (cc);
  };
  handed = record { commit = λ s c at is. let clash : phase.Free ≡ phase.Placing = not_in setup s c phase.Placing at is in absurd (cc) };
  heals = record { placed = λ s k t commit c at offer. let clash : None ≡ Some (k, t, commit) = ap (λ (x : Client). x.heal) (sym (is_new setup s c at)) ∙ offer in absurd (cc) };
  sweeping = record { knows = λ s is. absurd (cc) };
}

opening_reads : (setup : SetupNumbers) → ReadFacts setup (opening setup).clients (opening setup).nodes (opening setup).rows (opening setup).pairs []
opening_reads setup = record {
  reading = record { reads = λ s c r at is. let clash : Nothing ≡ Reads r = not_under_way setup s c (Reads r) at is in absurd (cc) };
  lasting = record { lasts = λ s b k u answer value m. absurd (in_none _ m) };
  read_sets = record {
    plain = λ flag s c at. ap (λ (x : Client). x.reads) (is_new setup s c at);
    opened = λ strict s t e o. absurd (not_open setup s t e o);
    asked = λ strict n s t keys p i c at. absurd (none_at setup.nodes n i at);
    under_way = λ strict s c r at is. let clash : Nothing ≡ Reads r = not_under_way setup s c (Reads r) at is in absurd (cc);
  };
}

opening_known : (setup : SetupNumbers) → KnownFacts (opening setup).clients (opening setup).nodes (opening setup).pairs []
opening_known setup = record {
  known = record { each = λ s c at. subst (λ (x : Client). IsTrueCache (opening setup).pairs [] x.cache) (sym (is_new setup s c at)) (true_new (opening setup).pairs [] setup.cache) };
  written = record { written = λ s c r at is. let clash : Nothing ≡ Reads r = not_under_way setup s c (Reads r) at is in absurd (cc) };
}

opening_isolated : Isolated []
opening_isolated = record {
  apart = record { apart = λ t c u d k v w one. absurd (in_none _ one) };
  stamped = record {
    distinct = each_none NewStamps;
    no_start_commits = λ s t u begun. absurd (in_none _ begun);
    start_below_commit = λ t c m. absurd (in_none _ m);
  };
  fresh = each_none StartsAbove;
  reads = each_none (RightRead []);
}

opening_owned : (setup : SetupNumbers) → AreOwned (opening setup).clients (opening setup).rows []
opening_owned setup = record {
  lost = [];
  few = omega arith;
  each = λ k t b. absurd (none_looked k t b.cell b.there);
}

pub opening_holds : (setup : SetupNumbers) → AreInRange setup → IsolationInvariant (opening setup) []
opening_holds setup in_range = record {
  in_range = in_range;
  numbers = opening_numbers setup;
  requests = opening_requests setup;
  memory = opening_memory setup;
  cells = opening_cells setup;
  under_way = opening_under_way setup;
  begins = opening_begins setup;
  reads = opening_reads setup;
  known = opening_known setup;
  owned = opening_owned setup;
  isolated = opening_isolated;
}
