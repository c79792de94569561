-- What a settings file can say.
use Rattle.std.specs.Prelude.{ℕ, List}
use Rattle.pjd.specs.Curves.{Pjd}
use Rattle.staircase.specs.Stairs.{Stairs}
use Rattle.tables.specs.Tasks.{Times}

-- the curves of one task; three zeros are a class without releases
pub record Curves : Type 0 where
  pub typical : Pjd
  pub overload : Pjd

-- how many of `jobs` consecutive jobs of a task, that span at most `span` ticks, can be late?
pub record Question : Type 0 where
  pub task : ℕ
  pub jobs : ℕ
  pub span : ℕ

-- The first tasks have curves by period, jitter and distance. Each of the others has two staircases, the typical one first.
pub record Settings : Type 0 where
  pub tasks : List Times
  pub curves : List Curves
  pub staircases : List Stairs
  pub questions : List Question

-- the first fault of a file: its number, and where it is
pub record Fault : Type 0 where
  pub number : ℕ
  pub section : ℕ
  pub entry : ℕ
  pub byte : ℕ
