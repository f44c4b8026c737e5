-- The causes in the words of the error line.
use Rattle.std.specs.Prelude.{ℕ, List, codes}
use Rattle.session_script.specs.declared.cause.ScriptCause.{ScriptCause}
use Rattle.session_script.specs.declared.cause.ScriptCause.TheVariants.{TooLong, TooManyLines, BadByte, UnknownActor, UnknownVerb, WrongNumberOfWords, ReplayOnly, BadNumber, OutOfRange, UnknownNode, BadSession, BadKey, BadValue, UnknownStage, UnknownStore, UnknownKind, BadName, SetupOrder, SetupTwice, TooManyFaults, PostedTwice, NameNotPosted}

abbrev pub cause_text : ScriptCause → List ℕ
cause_text TooLong = codes "too long"
cause_text TooManyLines = codes "too many lines"
cause_text BadByte = codes "bad byte"
cause_text UnknownActor = codes "unknown actor"
cause_text UnknownVerb = codes "unknown verb"
cause_text WrongNumberOfWords = codes "wrong number of words"
cause_text ReplayOnly = codes "replay only"
cause_text BadNumber = codes "bad number"
cause_text OutOfRange = codes "out of range"
cause_text UnknownNode = codes "unknown node"
cause_text BadSession = codes "bad session"
cause_text BadKey = codes "bad key"
cause_text BadValue = codes "bad value"
cause_text UnknownStage = codes "unknown stage"
cause_text UnknownStore = codes "unknown store"
cause_text UnknownKind = codes "unknown kind"
cause_text BadName = codes "bad name"
cause_text SetupOrder = codes "setup order"
cause_text SetupTwice = codes "setup twice"
cause_text TooManyFaults = codes "too many faults"
cause_text PostedTwice = codes "posted twice"
cause_text NameNotPosted = codes "name not posted"
