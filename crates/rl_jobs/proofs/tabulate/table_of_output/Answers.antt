use Rattle.std.proofs.Common.{◌∙◌, sym}
use Rattle.rl_jobs.proofs.Tabulated.{window_table}
use Rattle.rl_jobs.proofs.tabulate.table_of_output.Goals as goal

pub returns-in-Ok-clause-table : goal.returns-in-Ok-clause-table
returns-in-Ok-clause-table c =
    window_table c.args.name.now c.args.window c.args.n.now c.in-Some.place c.in-Ok.t (sym c.output_place.ensures ∙ c.in-Some.is) c.in-Ok.ensures.inputs c.in-Ok.ensures.output
    c.in-Ok.ensures.rows c.in-Ok.ensures.reach c.rules-in-Ok.ensures.few_rows c.in-Ok.ensures.sound c.in-Ok.ensures.values
