-- The numbers of the causes, and the fault that the program's record of one tells.
use Rattle.std.specs.Prelude.{ℕ}
use Rattle.model.specs.Faults.{Fault as ModelFault}
use Rattle.cells.specs.declared.faults.Cause.{Cause}
use Rattle.cells.specs.declared.faults.Cause.TheVariants.{Grammar, Depth, Size, Limit, Repeated, UnknownColumn, UnlikeKinds, NoTreeForm, Room, UnknownTable, ReadsOutput, WrongSets, PartOrDefault, SharedColumns, JoinedForm, Shape, Order, NotAdmitted, Dependency, OutOfRoom, FewSlots, BadBytes, OtherFormat, FewBytes}
use Rattle.cells.specs.declared.faults.Fault.{Fault}

abbrev pub number : Cause → ℕ
number Grammar = 1
number Depth = 2
number Size = 3
number Limit = 4
number Repeated = 5
number UnknownColumn = 6
number UnlikeKinds = 7
number NoTreeForm = 8
number Room = 9
number UnknownTable = 10
number ReadsOutput = 11
number WrongSets = 12
number PartOrDefault = 13
number SharedColumns = 14
number JoinedForm = 15
number Shape = 17
number Order = 18
number NotAdmitted = 19
number Dependency = 20
number OutOfRoom = 21
number FewSlots = 22
number BadBytes = 23
number OtherFormat = 24
number FewBytes = 26

abbrev pub told : Fault → ModelFault
told f = record { number = number f.cause; kind = f.kind; place = f.place }
