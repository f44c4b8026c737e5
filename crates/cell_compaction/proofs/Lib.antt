pub mod LatestRows
pub mod MemberRows
pub mod Snapshots
pub mod KeptRows
pub mod SmallStores
pub mod KeyRows
pub mod KeepingRows
