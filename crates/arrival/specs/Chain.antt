-- Two models, one behind the other.
use Rattle.std.specs.Prelude.{◌+◌, ◌-◌, min, cond, nat_lt}
use Rattle.arrival.specs.Meaning.{Meaning}

-- the tasks of the first model, then those of the second, ending behind the 255th
abbrev pub chain : Meaning → Meaning → Meaning
chain a b = record {
  tasks = min (a.tasks + b.tasks) 255;
  count = λ j k w. cond (nat_lt j 255) (cond (nat_lt j a.tasks) (a.count j k w) (b.count (j - a.tasks) k w)) 0;
}
