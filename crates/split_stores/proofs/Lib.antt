mod LogLemmas
mod OrderLemmas
mod DecidingItems
mod ReplayLemmas
mod MergedOrders
mod LockLemmas
mod MakeLemmas
