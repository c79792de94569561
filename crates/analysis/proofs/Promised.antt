-- What an answer promises of every execution.
use Rattle.std.proofs.Common.{ℕ, Ok}
use Rattle.arrival.specs.Meaning.{Meaning, Lawful}
use Rattle.dispatch.specs.Executions.{ExecutionPromise, clock_of, jobs_of}
use Rattle.dispatch.proofs.Agrees.{clock_low, log_agrees}
use Rattle.dispatch.proofs.Conforms.{conforming}
use Rattle.loads.specs.Tables.{table_of}
use Rattle.tables.specs.Tables.{ClosedTable, tasks_of}
use Rattle.theory.specs.Promises.{ExchangePromise}
use Rattle.theory.specs.Questions.{Answer}
use Rattle.theory.proofs.Exchange.{exchange_promise}
use Rattle.theory.proofs.Sequences.{sequence_promise}

pub execution_promise : (m : Meaning) → Lawful m → (table : ClosedTable) (i k S cells a : ℕ) → Answer m (table_of (tasks_of table)) i k S cells (Ok a) → ExecutionPromise m table i k S a
execution_promise m lawful table i k S cells a answer es run log execution =
    let agrees = log_agrees m table es run log execution in (
      agrees,
      sequence_promise m lawful (table_of (tasks_of table)) i k S cells a answer (jobs_of es) agrees.schedule.served (clock_of es)
          (clock_low m table es run log execution) (conforming m lawful table es run log execution) agrees.schedule.keeps,
    )

-- both promises of an answer
pub promises : (m : Meaning) → Lawful m → (table : ClosedTable) (i k S cells a : ℕ) → Answer m (table_of (tasks_of table)) i k S cells (Ok a)
    → ExecutionPromise m table i k S a × ExchangePromise m (table_of (tasks_of table)) i k S cells a
promises m lawful table i k S cells a answer =
    (execution_promise m lawful table i k S cells a answer, exchange_promise m lawful (table_of (tasks_of table)) i k S cells a answer)
