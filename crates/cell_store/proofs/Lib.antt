mod RowSplits
mod KeyRows
mod Shadows
mod Fronts
mod MapRows
mod Places
mod IndexKeys
mod Entries
