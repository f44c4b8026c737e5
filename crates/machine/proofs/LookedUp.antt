-- For isolation_laws, request_completion, command_semantics and others above too.
-- An event by the parts that it looks up: where one of them is not of the system nothing is done, else it has been found.
use Rattle.machine.proofs.Names.{◌≡◌, Option, Some, None, refl, InstanceEntry, Client, State, Step, nothing, at_post}
use Rattle.machine.proofs.Names.{at_client, at_both}

pub of_post : (P : Step → Type 0) (w : State) (f : Option InstanceEntry → Step) (found : Option (Option InstanceEntry)) → P (nothing w) → ((post : Option InstanceEntry) → found ≡ Some post → P (f post)) → P (at_post w found f)
of_post P w f None none each = none
of_post P w f (Some post) none each = each post refl

pub of_client : (P : Step → Type 0) (w : State) (f : Client → Step) (found : Option Client) → P (nothing w) → ((c : Client) → found ≡ Some c → P (f c)) → P (at_client w found f)
of_client P w f None none each = none
of_client P w f (Some c) none each = each c refl

pub of_both : (P : Step → Type 0) (w : State) (f : Option InstanceEntry → Client → Step) (found : Option (Option InstanceEntry)) (client : Option Client) → P (nothing w) → ((post : Option InstanceEntry) (c : Client) → found ≡ Some post → client ≡ Some c → P (f post c)) → P (at_both w found client f)
of_both P w f None client none each = none
of_both P w f (Some post) None none each = none
of_both P w f (Some post) (Some c) none each = each post c refl refl
