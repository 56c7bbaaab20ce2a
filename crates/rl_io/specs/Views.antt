-- What contracts see of a shelf and a sink in memory.
use Rattle.rl_io.specs.Files.{entries}
use Rattle.rl_io.specs.MemShelf.{HeldFiles}
use Rattle.rl_io.specs.MemSink.{HeldBytes}
use Rattle.rl_io.specs.declared.mem_shelf.MemShelf.TheInside as shelf
use Rattle.rl_io.specs.declared.mem_sink.MemSink.TheInside as sink

abbrev pub held_files : shelf.Inside → HeldFiles
held_files s = record { files = entries s.files.items; chunk = s.chunk; fails = s.fails.items; calls = s.calls; given = s.given }

abbrev pub held_bytes : sink.Inside → HeldBytes
held_bytes s = record { written = s.written.items; room = s.room; chunk = s.chunk; fails = s.fails.items; calls = s.calls; faults = s.faults }
