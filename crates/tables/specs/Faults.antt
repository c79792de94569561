-- The faults of tables.
use Rattle.std.specs.Prelude.{ℕ}
use Rattle.base.specs.declared.bounded.ListFault as list
use Rattle.base.specs.declared.bounded.ListFault.TheVariants as in-list
use Rattle.tables.specs.declared.table.TableFault.{TableFault}
use Rattle.tables.specs.declared.table.TableFault.TheVariants.{Full, NoSuchTask}

abbrev pub fault_number : TableFault → ℕ
fault_number Full = 21
fault_number NoSuchTask = 22

-- what the fault of a table's list says of the table
abbrev pub table_fault : list.ListFault → TableFault
table_fault in-list.Full = Full
table_fault in-list.NoSuchPlace = NoSuchTask
