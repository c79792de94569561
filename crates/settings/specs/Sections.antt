-- The numbers of the sections of a settings file.
use Rattle.std.specs.Prelude.{ℕ}
use Rattle.settings.specs.declared.section.FileSection.{FileSection}
use Rattle.settings.specs.declared.section.FileSection.TheVariants.{Tasks, Curves, Staircases, Questions, Rest}

abbrev pub section_number : FileSection → ℕ
section_number Tasks = 1
section_number Curves = 2
section_number Staircases = 3
section_number Questions = 4
section_number Rest = 5
