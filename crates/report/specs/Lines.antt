-- The lines that the program prints: words and numbers, single spaces between them, and byte 10 at the end.
use Rattle.std.specs.Prelude.{ℕ, List, ◌++◌, length, Ok, Err, codes, decimal, Result}
use Rattle.entries.specs.Values.{fault_of}
use Rattle.file_format.specs.Settings.{Settings, Fault}
use Rattle.report.specs.declared.RefusalLine.{RefusalLine}

abbrev pub tasks_line : ℕ → List ℕ
tasks_line n = codes "tasks " ++ (decimal n ++ codes "\n")

abbrev pub refused_line : Fault → List ℕ
refused_line f =
    codes "refused " ++ (decimal f.number
    ++ (codes " section " ++ (decimal f.section
    ++ (codes " entry " ++ (decimal f.entry
    ++ (codes " byte " ++ (decimal f.byte ++ codes "\n")))))))

abbrev pub line_fault : RefusalLine → Fault
line_fault l = fault_of l.fault

-- what is printed for a file that reads so
abbrev pub printed : Result Settings Fault → List ℕ
printed (Ok s) = tasks_line (length s.tasks)
printed (Err f) = refused_line f
