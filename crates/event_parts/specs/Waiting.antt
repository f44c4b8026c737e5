-- What a node's calls ask of the client whose request they serve, named again.
pub use Rattle.machine.specs.Calls.{Waits, WaitsFor, WaitsAt, HoldsNone}
