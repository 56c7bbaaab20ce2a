use Rattle.std.proofs.Common.{subst, ap, ◌∙◌}
use Rattle.spike_eval.specs.Causal.{numbers}
use Rattle.term_store.specs.Subterms.{join_count}
use Rattle.case_split.specs.Live.{pair_terms}
use Rattle.case_split.specs.Verdicts.{IsDecision}
use Rattle.case_split.proofs.Verdicts.{first_term, second_term, equal_right, undecided_right, difference}
use Rattle.case_split.proofs.deciding.verdict.Goals as goal
use Rattle.std.proofs.Common.{length}

pub returns-in-Equal : goal.returns-in-Equal
returns-in-Equal c = λ premises pair budget names found. equal_right premises pair budget c.args.decision c.in-Equal.tree c.in-Equal.is found

pub returns-in_ok-as_times-in-Different : goal.returns-in_ok-as_times-in-Different
returns-in_ok-as_times-in-Different c = λ premises pair budget names found.
    difference pair premises c.in-Different.times.items c.in_ok-as_times-in-Different.field-0.items (c.in_ok-as_times-in-Different.ensures ∙ ap numbers c.deref.ensures.value) names
    (subst (IsDecision (length pair.first.inputs) premises (first_term pair) (second_term pair) (join_count (pair_terms pair)) budget) c.in-Different.is found)

pub returns-in-Undecided : goal.returns-in-Undecided
returns-in-Undecided c = λ premises pair budget names found. undecided_right premises pair budget c.args.decision c.in-Undecided.tree c.in-Undecided.is found
