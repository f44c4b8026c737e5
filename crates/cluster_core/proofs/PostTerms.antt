-- The term at a post is what the machine reads off the node there.
use Rattle.cluster_core.proofs.Names.{◌≡◌, Option, None, Some, refl, InstanceEntry, term_at}
use Rattle.takeover_core.specs.Holding.{term_held}

pub term_of_post : (post : Option InstanceEntry) → term_held post ≡ term_at (Some post)
term_of_post None = refl
term_of_post (Some i) = refl
