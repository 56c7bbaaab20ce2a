use Rattle.rl_jobs.proofs.Judging.{reads_tables}
use Rattle.rl_jobs.proofs.laws.reading_tables.Goals as goal

pub returns : goal.returns
returns c =
    reads_tables (record {
      one = c.one_table.ensures;
      none = c.no_cause.ensures;
      one_cause = c.one_cause.ensures;
      either = c.a_table_or_a_cause.ensures;
      is_table = c.what_is_spelled_is_a_table.ensures;
      one_fault = c.one_row_fault.ensures;
      no_fault = c.sound_or_fault.ensures.never_both;
      sound_or_fault = c.sound_or_fault.ensures.one;
    })
