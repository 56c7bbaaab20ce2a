-- How a job's error refuses a command.
use Rattle.rl_jobs.specs.declared.error.JobError.{JobError}
use Rattle.rl_jobs.specs.declared.error.JobError.TheVariants as job
use Rattle.rl_flow.specs.declared.refusal.Refusal.{Refusal}
use Rattle.rl_flow.specs.declared.refusal.Refusal.TheVariants as why

abbrev pub refusal_of : JobError → Refusal
refusal_of (job.Refused f) = why.Refused f
refusal_of job.NoMemory = why.NoMemory
