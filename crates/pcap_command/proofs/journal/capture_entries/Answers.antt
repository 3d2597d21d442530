-- The head, the entries, and what waited at the end.
use Rattle.std.proofs.Common.{◌∙◌}
use Rattle.pcap_command.proofs.Entries.{captured}
use Rattle.pcap_command.proofs.journal.capture_entries.Goals as goal

pub returns-clause-captures : goal.returns-clause-captures
returns-clause-captures g c = λ before given.
    let puts = c.in-Ok.ensures.puts before given in
    record {
      config = c.args.config.now;
      entries = puts.entries;
      ends = puts.ends;
      written = captured _ _ puts.entries _ _ _ _ _
          (rw (c.new-buffer.ensures, c.capture_head.ensures) at c.in_ok-put_head.ensures.0) puts.written
          c.in_ok-write_out.ensures.written.0;
    }

pub returns-in-Err-clause-failed_write : goal.returns-in-Err-clause-failed_write
returns-in-Err-clause-failed_write g c = λ before given. c.in-Err.ensures.failed_write before given

pub returns-clause-failed_write : goal.returns-clause-failed_write
returns-clause-failed_write g c = λ before given.
    c.in_ok-write_out.ensures.written.1 ∙ c.in-Ok.ensures.failed_write before given ∙ c.in_ok-put_head.ensures.1
