use Rattle.rl_io.specs.Files.{entries}
use Rattle.rl_io.proofs.Faults.{rose_at}
use Rattle.rl_io.proofs.mem_shelf.MemShelfShelf.fetch.Goals as goal

pub returns-then-contains-clause-cause : goal.returns-then-contains-clause-cause
returns-then-contains-clause-cause c =
    let fields = c.self.inside in
    rw (← c.self.view_is) (rose_at (entries fields.files.items) fields.fails.items c.args.name.now fields.calls c.saturating_add-self-inside.result c.self.invariant.early c.saturating_add-self-inside.ensures (cc))
