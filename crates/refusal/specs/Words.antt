-- What each cause says in words.
use Rattle.std.specs.Prelude.{ℕ, List, codes}
use Rattle.refusal.specs.declared.Refusal.{Refusal}
use Rattle.refusal.specs.declared.Refusal.TheVariants.{Directions, FinestLevel, NoRow, ReadingOutOfRange, NotOwnTable, NothingToCut, NoRoom, NoSuchPoint, AlreadyAnswered, PointWaits, ShortCellList, ShareAboveLimit, CapOutOfRange, UnknownMark, RecordCutShort, MarkOutOfTurn, InputTooLong}

abbrev pub words_of : Refusal → List ℕ
words_of Directions = codes "the directions are not 1 to 6"
words_of FinestLevel = codes "the finest level is not 1 to 19"
words_of NoRow = codes "the table has no row"
words_of ReadingOutOfRange = codes "a reading is outside the range"
words_of NotOwnTable = codes "the table is not the search's own"
words_of NothingToCut = codes "no box can be cut"
words_of NoRoom = codes "the table has no room for the points"
words_of NoSuchPoint = codes "the round has no such point"
words_of AlreadyAnswered = codes "the point is answered already"
words_of PointWaits = codes "a point waits"
words_of ShortCellList = codes "the cell list is too short"
words_of ShareAboveLimit = codes "the share is too great"
words_of CapOutOfRange = codes "the cap is not 1 to 114"
words_of UnknownMark = codes "the mark is unknown"
words_of RecordCutShort = codes "the record is cut short"
words_of MarkOutOfTurn = codes "the mark is out of turn"
words_of InputTooLong = codes "the input is too long"
