-- The opening state, of an empty history, has nothing to show.
use Rattle.cause_laws.proofs.Names.{◌≡◌, ℕ, [], Option, None, Some, inl, refl, sym, ◌∙◌, ap, none-some}
use Rattle.cause_laws.proofs.Names.{length-replicate, SetupNumbers, ◌∈◌, Vanish, InstanceEntry, Client, client_new}
use Rattle.cause_laws.proofs.Names.{opening, open_asks_of, ClientAt, Marked, held_count, ShownInvariant}
use Rattle.std.specs.FinMap as map
use Rattle.std.specs.Ordering.{nat_cmp}
use Rattle.stamp_base.specs.declared.stores.Mark.TheVariants.{Invalid as InvalidMark}
use Rattle.system_parts.specs.declared.session.State.TheVariants as phase
use Rattle.isolation_laws.proofs.Inversions.InversionSound.{found_copy, none_at}

nobody_asked : (n s : ℕ) (post : Option InstanceEntry) → post ≡ None → open_asks_of [] n s ≡ held_count post s
nobody_asked n s post none = sym (ap (λ p. held_count p s) none)

all_free : (setup : SetupNumbers) (s : ℕ) (c : Client) → ClientAt (opening setup).clients s c → phase.Free ≡ c.entry.state
all_free setup s c at = ap (λ (x : Client). x.entry.state) (sym (found_copy 16 s (client_new setup.cache) c at))

nobody_gone : (setup : SetupNumbers) (s : ℕ) (c : Client) → ClientAt (opening setup).clients s c → c.entry.state ≡ phase.Gone → Vanish s ∈ []
nobody_gone setup s c at gone = let clash : phase.Free ≡ phase.Gone = all_free setup s c at ∙ gone in absurd (cc)

nobody_placing : (setup : SetupNumbers) (s : ℕ) (c : Client) → ClientAt (opening setup).clients s c → c.entry.state ≡ phase.Placing → ⊥
nobody_placing setup s c at placing = let clash : phase.Free ≡ phase.Placing = all_free setup s c at ∙ placing in cc

nobody_open : (setup : SetupNumbers) (s : ℕ) (c : Client) → ClientAt (opening setup).clients s c → c.entry.state ≡ phase.Open → ⊥
nobody_open setup s c at is_open = let clash : phase.Free ≡ phase.Open = all_free setup s c at ∙ is_open in cc

none_marked : (t : ℕ) → Marked map.empty t → ⊥
none_marked t marked = none-some InvalidMark (sym (map.get-empty nat_cmp t) ∙ marked)

pub shown_at_first : (setup : SetupNumbers) → ShownInvariant (opening setup) []
shown_at_first setup = record {
  sixteen = length-replicate 16 (client_new setup.cache);
  asked = record {
    asked = λ n s i request p at. absurd (none_at setup.nodes n i at);
    accepted = λ n s i request p at. absurd (none_at setup.nodes n i at);
    drawn = λ n s i request p stamps at. absurd (none_at setup.nodes n i at);
  };
  faulted = record {
    faulted = λ n s r t c i keys at. absurd (none_at setup.nodes n i at);
    marked = λ n s r t c i keys at. absurd (none_at setup.nodes n i at);
  };
  put = record { each = λ n s i request p at. absurd (none_at setup.nodes n i at) };
  placing = record { each = λ s start commit c at placing. absurd (nobody_placing setup s c at placing) };
  reads = record {
    opened = λ s t c at is_open. absurd (nobody_open setup s c at is_open);
    asked = λ s n t c at asked. absurd (none-some (record { node = n; start = Some t }) asked);
  };
  open_asks = record {
    each = λ n s post at. nobody_asked n s post (found_copy setup.nodes n None post at);
    slots = λ n i at. absurd (none_at setup.nodes n i at);
    sixteen = λ n i at. absurd (none_at setup.nodes n i at);
  };
  taken = record {
    took = λ n i at. absurd (none_at setup.nodes n i at);
    leased = λ n i at. absurd (none_at setup.nodes n i at);
    stands = λ n i at. absurd (none_at setup.nodes n i at);
  };
  vacant = record { none = λ n vacant. inl refl };
  stops = record { shown = λ n i why at. absurd (none_at setup.nodes n i at) };
  lasts = record {
    wide = λ n i at. absurd (none_at setup.nodes n i at);
    given = λ n i at. absurd (none_at setup.nodes n i at);
    drawn = λ n i at. absurd (none_at setup.nodes n i at);
  };
  master = record {
    vacant = λ none. refl;
    term = λ n held. absurd (cc);
    lease = λ n held. absurd (cc);
    ceiling = λ n held. absurd (cc);
  };
  marked = record { marked = λ t marked. absurd (none_marked t marked) };
  gone = record { vanished = λ s c at gone. nobody_gone setup s c at gone };
}
