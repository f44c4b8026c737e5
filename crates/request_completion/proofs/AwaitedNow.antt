-- Every event keeps that a node holds the request of each session that waits for the end of its commit.
use Rattle.request_completion.proofs.Names.{◌≡◌, ℕ, ◌<◌, false, List, [], ◌∷◌, length, Some, ◌⊎◌, inl, inr, refl, sym}
use Rattle.request_completion.proofs.Names.{◌∙◌, ap, subst, arith, slice_get_within, Fate, ◌∈◌, Item, in_last}
use Rattle.request_completion.proofs.Names.{SessionEntry, Held, Commit, with_request, just_asked}
use Rattle.request_completion.proofs.Names.{held_of-with_request_same, Event, Client, State, stepped, ClientAt}
use Rattle.request_completion.proofs.Names.{each_outcome, set_found, AskedCommit, asked_commit_state, Outcome}
use Rattle.request_completion.proofs.Names.{OfAskedBegin, OfAskedCommit, left_by, told_by_outcome, ExplainedInvariant}
use Rattle.request_completion.proofs.Names.{IsHeld, AreAwaited, SessionTransition, Rests, AsksBegin, AsksCommit, Begins}
use Rattle.request_completion.proofs.Names.{LosesBegin, Writes, Frees, Undoes, Hands, Commits, Refuses, LeavesOpen}
use Rattle.request_completion.proofs.Names.{Vanishes, IsGone}
use Rattle.history_book.specs.declared.item.Item.TheVariants as item
use Rattle.system_parts.specs.declared.session.State.TheVariants as phase
use Rattle.request_completion.proofs.OwingItems.{only_is}
use Rattle.request_completion.proofs.OwingOutcomes.{among}
use Rattle.request_completion.proofs.AskItems.{plain_asks}
use Rattle.request_completion.proofs.AskTurns.{commit_not, commit_same, begin_commits_not}
use Rattle.request_completion.proofs.AwaitedKept.{aborted_not, held_on}
use Rattle.request_completion.proofs.EventFacts.{was_there}
use Rattle.request_completion.proofs.SinceKept.{undone_not}
use Rattle.request_completion.proofs.TurnsOfOutcomes.{session_turns}

-- ---- whoever waits did so before, or asks now
waits_by : (h : List Item) (s : ℕ) (c d : Client) (items : List Item) → SessionTransition h s c items d → d.entry.state ≡ phase.Committing → (c.entry.state ≡ phase.Committing) ⊎ ((node : ℕ) × (start : ℕ) × (items ≡ item.AskCommit s node start ∷ []))
waits_by h s c d items (Rests same none) waits = inl (ap (λ (e : SessionEntry). e.state) (sym same) ∙ waits)
waits_by h s c d items (AsksBegin node free asking is) waits = let clash : phase.Asking ≡ phase.Committing = sym asking ∙ waits in absurd (cc)
waits_by h s c d items (AsksCommit node start opened committing start_is then is) waits = inr (node, start, is)
waits_by h s c d items (Begins asking opened keys asked none) waits = let clash : phase.Open ≡ phase.Committing = sym opened ∙ waits in absurd (cc)
waits_by h s c d items (LosesBegin asking free asked none) waits = let clash : phase.Free ≡ phase.Committing = sym free ∙ waits in absurd (cc)
waits_by h s c d items (Writes start key value opened same start_is is) waits = let clash : phase.Open ≡ phase.Committing = sym opened ∙ (ap (λ (e : SessionEntry). e.state) (sym same) ∙ waits) in absurd (cc)
waits_by h s c d items (Frees may free none) waits = let clash : phase.Free ≡ phase.Committing = sym free ∙ waits in absurd (cc)
waits_by h s c d items (Undoes was undone none) waits = absurd (undone_not c.entry d.entry phase.Committing undone (λ same. cc) (λ same. cc) waits)
waits_by h s c d items (Hands committing placing start none) waits = inl committing
waits_by h s c d items (Commits start commit may ends same) waits = let clash : phase.Completing false ≡ phase.Committing = ap (λ (x : Client). x.entry.state) (sym same) ∙ waits in absurd (cc)
waits_by h s c d items (Refuses start why was leaves ends same) waits = absurd (aborted_not c (ap (λ (x : Client). x.entry.state) (sym same) ∙ waits))
waits_by h s c d items (LeavesOpen start was told none same) waits = let clash : phase.OpenOutcome ≡ phase.Committing = ap (λ (x : Client). x.entry.state) (sym same) ∙ waits in absurd (cc)
waits_by h s c d items (Vanishes gone is) waits = let clash : phase.Gone ≡ phase.Committing = sym gone ∙ waits in absurd (cc)
waits_by h s c d items (IsGone was same) waits = let clash : phase.Gone ≡ phase.Committing = sym was ∙ (ap (λ (x : Client). x.entry.state) (sym same) ∙ waits) in absurd (cc)

-- ---- a request that is asked for is held
asked_held : (w : State) (h : List Item) (g : AskedCommit w) → ExplainedInvariant w h → IsHeld (asked_commit_state w g).nodes g.session
asked_held w h g tells =
    let now : Held = just_asked (Commit g.session g.start g.c.entry.keys) in
    let here : g.session < length w.clients = slice_get_within w.clients g.session g.c g.client_at in
    let clients : length w.clients ≡ 16 = tells.shows.sixteen in
    let requests : length g.i.requests ≡ 16 = tells.shows.open_asks.sixteen g.node g.i g.at in
    record {
      node = g.node;
      i = with_request g.i g.session (Some now);
      held = now;
      at = set_found w.nodes g.node (Some (with_request g.i g.session (Some now))) (Some g.i) g.at;
      has = held_of-with_request_same g.i g.session (Some now) (omega (arith, here, clients, requests));
    }

held_now : (w : State) (h : List Item) (o : Outcome w) (s n t : ℕ) → ExplainedInvariant w h → item.AskCommit s n t ∈ told_by_outcome w o → IsHeld (left_by w o).nodes s
held_now w h (OfAskedCommit g) s n t tells m =
    subst (λ (r : ℕ). IsHeld (asked_commit_state w g).nodes r) (commit_same s n t g.session g.node g.start (only_is _ _ (among _ g.items (item.AskCommit g.session g.node g.start ∷ []) g.tells m))).0 (asked_held w h g tells)
held_now w h (OfAskedBegin g) s n t tells m = absurd (begin_commits_not s n t g.session g.node (only_is _ _ m))
held_now w h o s n t tells m = absurd (commit_not s n t (told_by_outcome w o) (plain_asks w o s refl) m)

-- ---- one event
pub awaited_kept : (w : State) (h : List Item) (e : Event) (fate : Fate) → ExplainedInvariant w h → AreAwaited w.nodes w.clients → AreAwaited (stepped w e fate).state.nodes (stepped w e fate).state.clients
awaited_kept w h e fate tells are = record {
  each = λ s d there waits.
      let was : (c : Client) × ClientAt w.clients s c = was_there w e fate s d there in
      elim (waits_by h s was.0 d (stepped w e fate).items (session_turns w h e fate s was.0 d tells was.1 there) waits) [
        | inl before ↦ each_outcome (λ v items. ClientAt v.clients s d → IsHeld v.nodes s) w h e fate tells.stands (λ o here. held_on w o s was.0 d was.1 here waits (are.each s was.0 was.1 before)) there
        | inr now ↦ each_outcome (λ v items. item.AskCommit s now.0 now.1 ∈ items → IsHeld v.nodes s) w h e fate tells.stands (λ o m. held_now w h o s now.0 now.1 tells m) (subst (λ (xs : List Item). item.AskCommit s now.0 now.1 ∈ xs) (sym now.2) (in_last (item.AskCommit s now.0 now.1) []))
      ];
}
