use Rattle.settings.proofs.Steps.{from_start}
use Rattle.settings.proofs.reader.Reader.new.Goals as goal

pub returns : goal.returns
returns c =
    let empty = c.new-3.ensures in
    rw (c.new.ensures.0, c.new.ensures.1, c.new-2.ensures, empty.curves, empty.staircases, empty.questions) (from_start c.args.file.now)
