-- For cause_laws, cluster_core and request_completion too.
-- What outcomes leave alone, what histories have, and what follows.
pub mod Frames
pub mod Framed
pub mod Alone
pub mod LeftAlone
pub mod NoStamps
pub mod IsolatedItems
pub mod IsolatedStamps
pub mod SerialCommits
pub mod OpeningSessions
pub mod Opening
pub mod NeverPlaced
pub mod NeverAgain
pub mod LostCommits
pub mod LostPlacings
pub mod ReadsAndTerms
