use Rattle.std.proofs.Common.{◌≡◌, length, sym, ap, ◌∙◌, arith, false-eqb}
use Rattle.std.proofs.lemmas.Bool.{eqb-true}
use Rattle.std.proofs.lemmas.List.{nil_from_length}
use Rattle.rl_text.proofs.Cuts.{ends, fails}
use Rattle.rl_text.proofs.Falls.{read_more}
use Rattle.rl_text.proofs.bad.bad_place.Goals as goal

pub returns-in_default : goal.returns-in_default
returns-in_default c =
    let r = c.loop-rest.invariant.read in
    record { bad = fails c.args.style c.args.text.now c.loop-rest.rest.now c.loop-rest.at r.0 r.1 r.2 (λ e. let l : length c.loop-rest.rest.now ≡ 0 = ap length e in absurd (false-eqb _ 0 c.loop-rest-test.ensures l)) (sym c.front.ensures.value ∙ c.in_default.is) }

pub loop-rest-preserved : goal.loop-rest-preserved
loop-rest-preserved c =
    let r = c.loop-rest.invariant.read in
    record {
      within = omega (arith, c.loop-rest.invariant.within, c.in-Some.ensures.within, c.split_at.ensures.back_len);
      read = read_more c.args.style c.args.text.now c.loop-rest.rest.now c.split_at.result.1.now c.loop-rest.at c.in-Some.field-0-0 c.in-Some.len r (sym c.in-Some.ensures.value) c.split_at.ensures.back;
    }

pub returns : goal.returns
returns c =
    let r = c.loop-rest.invariant.read in
    record { bad = record { tokens = _; lexed = ends c.args.style c.args.text.now c.loop-rest.rest.now c.loop-rest.at r.0 r.1 r.2 (nil_from_length _ (eqb-true _ 0 (sym c.loop-rest-test.ensures))) } }
