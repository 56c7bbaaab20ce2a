use Rattle.std.proofs.Common.{◌≡◌, List, ℕ, true, false, ap, subst, sym, ◌∙◌}
use Rattle.std.specs.Prelude.{is_some}
use Rattle.rl_io.specs.Files.{entries, file_under}
use Rattle.rl_io.proofs.Distinct.{distinct_more, distinct_rest, not_distinct}
use Rattle.rl_io.proofs.mem_shelf.are_distinct.Goals as goal

pub returns-then-is_held : goal.returns-then-is_held
returns-then-is_held c =
    let IsHeld : List ℕ → Type 0 = λ name. is_some (file_under name (entries c.in-Some.later.now)) ≡ true in
    let held = subst IsHeld c.as_str.ensures.value (sym c.is_held.ensures ∙ c.if-is_held.true) in
    (λ no. absurd (let e : false ≡ true = no in cc), λ h. absurd (not_distinct _ _ _ (ap entries c.in-Some.ensures.cases.0) held (c.loop-file.invariant.back h)))

pub loop-file-preserved : goal.loop-file-preserved
loop-file-preserved c =
    let IsFree : List ℕ → Type 0 = λ name. is_some (file_under name (entries c.in-Some.later.now)) ≡ false in
    let free = subst IsFree c.as_str.ensures.value (sym c.is_held.ensures ∙ c.if-is_held.false) in
    record {
      there = λ h. c.loop-file.invariant.there (distinct_more _ _ _ (ap entries c.in-Some.ensures.cases.0) free h);
      back = λ h. distinct_rest _ _ _ (ap entries c.in-Some.ensures.cases.0) (c.loop-file.invariant.back h);
    }
