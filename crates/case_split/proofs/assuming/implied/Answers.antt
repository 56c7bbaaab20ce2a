use Rattle.std.proofs.Common.{arith}
use Rattle.std.proofs.lemmas.Int.{ints}
use Rattle.case_split.proofs.Implied.{least_is_small, right_fact, small_fact, says_at_most}
use Rattle.case_split.proofs.assuming.implied.Goals as goal

pub returns-then-least-w-clause-none : goal.returns-then-least-w-clause-none
returns-then-least-w-clause-none c implied =
    let a = c.in-Some.ensures.least.1 c.args.w implied in
    absurd (omega (arith, ints, a))

pub overflow_cast-result-3 : goal.overflow_cast-result-3
overflow_cast-result-3 c =
    let low = least_is_small c.args.bounds.now.inputs c.args.bounds.now.assumptions c.kept-kept.result.now c.args.i c.args.j c.args.w c.in-Some.least c.in-Some.least c.in-Some-2.chain c.kept-kept.ensures c.in-Some.ensures.least c.requires.i c.requires.j in
    omega (arith, ints, low)

pub returns-clause-none : goal.returns-clause-none
returns-clause-none c =
    let low = least_is_small c.args.bounds.now.inputs c.args.bounds.now.assumptions c.kept-kept.result.now c.args.i c.args.j c.args.w c.in-Some.least c.in-Some.least c.in-Some-2.chain c.kept-kept.ensures c.in-Some.ensures.least c.requires.i c.requires.j in
    says_at_most c.args.i c.args.j c.args.w _ c.in-Some-2.chain (omega (arith, ints, low))

pub returns-clause-right : goal.returns-clause-right
returns-clause-right c =
    let low = least_is_small c.args.bounds.now.inputs c.args.bounds.now.assumptions c.kept-kept.result.now c.args.i c.args.j c.args.w c.in-Some.least c.in-Some.least c.in-Some-2.chain c.kept-kept.ensures c.in-Some.ensures.least c.requires.i c.requires.j in
    right_fact c.args.bounds.now c.kept-kept.result.now c.args.i c.args.j c.args.w c.in-Some.least _ c.in-Some-2.chain c.least.new.self c.in_ok-chain.field-0 c.kept-kept.ensures c.in-Some.ensures.least c.requires.i c.requires.j
    c.in-Some.ensures.same c.in-Some-2.is c.in_ok-chain.ensures.least c.in_ok-chain.ensures.runs (omega (arith, ints, low))

pub returns-clause-small : goal.returns-clause-small
returns-clause-small c =
    let low = least_is_small c.args.bounds.now.inputs c.args.bounds.now.assumptions c.kept-kept.result.now c.args.i c.args.j c.args.w c.in-Some.least c.in-Some.least c.in-Some-2.chain c.kept-kept.ensures c.in-Some.ensures.least c.requires.i c.requires.j in
    small_fact c.args.bounds.now c.kept-kept.result.now c.args.i c.args.j c.args.w c.in-Some.least _ c.in-Some-2.chain c.least.new.self c.in_ok-chain.field-0 c.kept-kept.ensures c.in-Some.ensures.least c.requires.i c.requires.j
    c.in-Some.ensures.same c.in-Some-2.is c.in_ok-chain.ensures.least c.in_ok-chain.ensures.runs (omega (arith, ints, low)) c.in_ok-chain.ensures.short c.requires.few_inputs c.requires.room (omega (arith, ints)) c.requires.w
