-- The number of each cause: the one definition that every promise draws on.
use Rattle.std.specs.Prelude.{ℕ}
use Rattle.refusal.specs.declared.Refusal.{Refusal}
use Rattle.refusal.specs.declared.Refusal.TheVariants.{Directions, FinestLevel, NoRow, ReadingOutOfRange, NotOwnTable, NothingToCut, NoRoom, NoSuchPoint, AlreadyAnswered, PointWaits, ShortCellList, ShareAboveLimit, CapOutOfRange, UnknownMark, RecordCutShort, MarkOutOfTurn, InputTooLong}

abbrev pub number_of : Refusal → ℕ
number_of Directions = 1
number_of FinestLevel = 2
number_of NoRow = 3
number_of ReadingOutOfRange = 4
number_of NotOwnTable = 5
number_of NothingToCut = 6
number_of NoRoom = 7
number_of NoSuchPoint = 8
number_of AlreadyAnswered = 9
number_of PointWaits = 10
number_of ShortCellList = 11
number_of ShareAboveLimit = 12
number_of CapOutOfRange = 13
number_of UnknownMark = 16
number_of RecordCutShort = 17
number_of MarkOutOfTurn = 18
number_of InputTooLong = 19
